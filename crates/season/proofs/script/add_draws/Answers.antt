-- The check does not find these: what a list that grows by draws asks.
use Rattle.std.proofs.Common.{◌≡◌, ℕ, zero, suc, ◌+◌, ◌-◌, ◌≤◌, ◌∷◌, ◌++◌, List, Ok, Err, IfOk, Result, if◌then◌else◌, is_ok, map, length, take, replicate, refl, sym, ap, ◌∙◌, subst, rules}
use Rattle.std.proofs.lemmas.List.{map-append, take_all}
use Rattle.std.proofs.Math.Nat.{add-sub_cancel_left, le-add_right}
use Rattle.runs.specs.declared.calls.Call.{Call}
use Rattle.runs.specs.declared.calls.Call.TheVariants.{Draw}
use Rattle.runs.specs.Runs.{requested, a_draw}
use Rattle.season.proofs.script.add_draws.Goals as goal

draws_asked : (times : ℕ) → map requested (replicate times Draw) ≡ replicate times a_draw
draws_asked zero = refl
draws_asked (suc times) = ap (λ asked. a_draw ∷ asked) (draws_asked times)

-- a list is cut to its own length and `times` more, and filled up from its own length on
module _ (calls : List Call) (len own times : ℕ) (e : len ≡ length calls) (f : own ≡ length calls) where
  filled : len + times - own ≡ times
  filled = ap (λ n. n + times - own) e ∙ ap (λ n. length calls + times - n) f ∙ add-sub_cancel_left (length calls) times

  longer : take (len + times) calls ++ replicate (len + times - own) Draw ≡ calls ++ replicate times Draw
  longer =
      ap (λ front. front ++ replicate (len + times - own) Draw) (take_all (len + times) calls (subst (λ n. length calls ≤ n + times) (sym e) (le-add_right (length calls) times)))
      ∙ ap (λ n. calls ++ replicate n Draw) filled

  grown : {T E : Type 0} (r : Result T E) (new : List Call) → new ≡ (if is_ok r then take (len + times) calls ++ replicate (len + times - own) Draw else calls)
      → IfOk r (λ _. map requested new ≡ map requested calls ++ replicate times a_draw)
  grown (Ok x) new is = ap (map requested) (is ∙ longer) ∙ map-append requested calls (replicate times Draw) ∙ ap (λ asked. map requested calls ++ asked) (draws_asked times)
  grown (Err x) new is = tt

pub returns : goal.returns
returns c = grown c.args.calls.now.items c.len.result _ c.args.times (search rules) (search rules) c.resize.result c.resize.new.self.items c.resize.ensures.items

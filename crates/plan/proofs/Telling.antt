-- What the calls and the answers so far tell, with one more answer.
use Rattle.std.proofs.Common.{◌≡◌, ℕ, zero, suc, ◌+◌, ◌<◌, ◌≤◌, List, length, get_or, set, refl, ap, ◌∙◌, arith}
use Rattle.std.proofs.lemmas.List.{get_or-set_same, get_or-set_other, get_or_default}
use Rattle.runs.specs.declared.calls.Call.{Call}
use Rattle.runs.specs.declared.calls.Call.TheVariants.{Draw}
use Rattle.runs.specs.declared.calls.Answer.{Answer}
use Rattle.runs.specs.declared.calls.Answer.TheVariants.{NoMore}
use Rattle.runs.specs.Runs.{told, happened, ◌▸◌}

module _ (calls : List Call) (answers : List Answer) (i : ℕ) (answer : Answer) where
  -- the steps before it are what they were
  pub told_before : (n : ℕ) → n ≤ i → told calls (set answers i answer) n ≡ told calls answers n
  told_before zero h = refl
  told_before (suc n) h = λ j. told_before n (omega arith) j ▸ happened (get_or calls n Draw) (get_or-set_other answers i n answer NoMore (λ e. omega (arith, e, h)) j)

  -- and it is the next
  pub told_next : (d : Call) → i < length calls → i < length answers → told calls (set answers i answer) (i + 1) ≡ told calls answers i ▸ happened (get_or calls i d) answer
  told_next d c h =
      let next : i + 1 ≡ suc i = omega arith in
      ap (told calls (set answers i answer)) next
      ∙ (λ j. told_before i (omega arith) j ▸ happened (get_or_default calls i Draw d c j) (get_or-set_same answers i answer NoMore h j))

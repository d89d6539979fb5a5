-- Words of another number than a command takes.
use Rattle.std.proofs.Common.{◌≡◌, ℕ, List, [], ◌∷◌, length, map, Bor, None, Ok, Err, ◌==◌, false, ◌<◌, refl, sym, ap, ◌∙◌, arith}
use Rattle.std.specs.Option.{option_or}
use Rattle.std.proofs.lemmas.Bool.{true≢false}
use Rattle.plan_commands.specs.Arguments.{with, window_read, opening_read}
use Rattle.plan_commands.specs.Commands.{to_list, seek_command, list_files, list_command, script_command, other_command, plan_command}
use Rattle.plan_commands.specs.declared.complaint.PlanComplaint.TheVariants.{OpenWords, SeekWords, ListWords}

pub not_one : (ws : List (Bor (List ℕ))) → ¬ (length ws ≡ 1) → Err SeekWords ≡ seek_command (map (λ w. w.now) ws)
not_one [] h = refl
not_one (a ∷ []) h = absurd (h refl)
not_one (a ∷ b ∷ ws) h = refl

pub not_two_or_five : (ws : List (Bor (List ℕ))) → ¬ (length ws ≡ 2) → ¬ (length ws ≡ 5) → Err OpenWords ≡ opening_read (map (λ w. w.now) ws)
not_two_or_five [] h k = refl
not_two_or_five (a ∷ []) h k = refl
not_two_or_five (a ∷ b ∷ []) h k = absurd (h refl)
not_two_or_five (a ∷ b ∷ c ∷ []) h k = refl
not_two_or_five (a ∷ b ∷ c ∷ d ∷ []) h k = refl
not_two_or_five (a ∷ b ∷ c ∷ d ∷ e ∷ []) h k = absurd (k refl)
not_two_or_five (a ∷ b ∷ c ∷ d ∷ e ∷ f ∷ ws) h k = refl

pub fewer_than_two : (ws : List (Bor (List ℕ))) → length ws < 2 → Err ListWords ≡ list_command (map (λ w. w.now) ws)
fewer_than_two [] h = refl
fewer_than_two (a ∷ []) h = refl
fewer_than_two (a ∷ b ∷ ws) h = absurd (omega arith)

-- one file or more
pub some_files : (first last : List ℕ) (fs : List (Bor (List ℕ))) → (length fs == 0) ≡ false
    → list_files first last (map (λ w. w.now) fs) ≡ with (window_read first last) (λ w. Ok (to_list w.0 w.1 (map (λ w. w.now) fs)))
some_files first last [] h = absurd (true≢false h)
some_files first last (f ∷ fs) h = refl

-- by the first word, where it is of no command that a script may have
pub not_in_script : (ws : List (Bor (List ℕ))) (k : Bor (List ℕ)) (rest : List (Bor (List ℕ))) → ws ≡ k ∷ rest → None ≡ script_command k.now (map (λ w. w.now) rest)
    → other_command k.now (map (λ w. w.now) rest) ≡ plan_command (map (λ w. w.now) ws)
not_in_script ws k rest e none =
    ap (λ s. option_or s (other_command k.now (map (λ w. w.now) rest))) none ∙ sym (ap (λ l. plan_command (map (λ w. w.now) l)) e)

-- Lines of one length, written into a text one after another.
use Rattle.std.proofs.Common.{◌≡◌, ℕ, ◌+◌, ◌*◌, ◌<◌, ◌≤◌, List, [], ◌∷◌, ◌++◌, length, take, drop, get_or, sym, ap, ◌∙◌, append_assoc, add-one, length-append, length-take-le, arith}
use borrow.Rule.Slice.PartMut.{put_mid}
use Rattle.std.proofs.Math.Seq.{take-suc, take-append_seam, drop-append-add}
use Rattle.std.proofs.lemmas.List.{take-append-drop, drop-drop}
use Rattle.std.proofs.lemmas.Slice.{take-put_mid, drop-put_mid}
use Rattle.std.proofs.lemmas.Grind.{flat_map-append}
use Rattle.report.specs.declared.entries.FaultEntry.{FaultEntry}
use Rattle.report.specs.Lines.{entry_line}
use Rattle.report.specs.Reports.{report}

-- what a copy into a text from a place on leaves
pub copied : (a k : ℕ) (text part line : List ℕ) → a ≤ length text → part ≡ line → length line ≡ k → put_mid a k text part ≡ take a text ++ (line ++ drop (a + k) text)
copied a k text part line h same long =
    let size : length part ≡ k = ap length same ∙ long in
    sym (take-append-drop (a + k) (put_mid a k text part))
    ∙ ap (λ t. t ++ drop (a + k) (put_mid a k text part)) (take-put_mid a k text part (a + k) (omega (arith, size)) h)
    ∙ ap (λ t. (take a text ++ part) ++ t) (drop-put_mid a k text part (a + k) (omega arith) h size)
    ∙ append_assoc (take a text) part (drop (a + k) text)
    ∙ ap (λ l. take a text ++ (l ++ drop (a + k) text)) same

long_report : (es : List FaultEntry) → length (report es) ≡ 19 * length es
long_report [] = omega arith
long_report (e ∷ es) = let one = length-append (entry_line e) (report es) in let rest = long_report es in omega (arith, one, rest)

-- one more line
pub line_more : (es : List FaultEntry) (i at : ℕ) (d : FaultEntry) (old text more : List ℕ) → i < length es → at ≡ 19 * i → text ≡ report (take i es) ++ drop at old
    → more ≡ take at text ++ (entry_line (get_or es i d) ++ drop (at + 19) text) → more ≡ report (take (i + 1) es) ++ drop (at + 19) old
line_more es i at d old text more h at_line so_far wrote =
    let front = report (take i es) in
    let line = entry_line (get_or es i d) in
    let size : length (take i es) ≡ i = length-take-le i es (omega arith) in
    let long : length front ≡ at = long_report (take i es) ∙ (let s = size in omega (arith, s)) in
    let before : take at text ≡ front = ap (take at) so_far ∙ ap (λ n. take n (front ++ drop at old)) (sym long) ∙ take-append_seam front (drop at old) in
    let after : drop (at + 19) text ≡ drop (at + 19) old =
    ap (drop (at + 19)) so_far ∙ ap (λ n. drop (n + 19) (front ++ drop at old)) (sym long) ∙ drop-append-add front (drop at old) 19 ∙ drop-drop 19 at old in
    let next : take (i + 1) es ≡ take i es ++ get_or es i d ∷ [] = rw (add-one i) (take-suc es i d h) in
    let lines : report (take (i + 1) es) ≡ front ++ line = ap report next ∙ flat_map-append entry_line (take i es) (get_or es i d ∷ []) in
    wrote
    ∙ ap (λ t. t ++ (line ++ drop (at + 19) text)) before
    ∙ ap (λ t. front ++ (line ++ t)) after
    ∙ sym (append_assoc front line (drop (at + 19) old))
    ∙ ap (λ l. l ++ drop (at + 19) old) (sym lines)

-- The form of a line: the machine and the parts speak of the same line.
-- They stay: each is an induction, which the check does not make.
use Rattle.std.proofs.Common.{◌≡◌, ℕ, true, false, cond, ◌&&◌, ◌||◌, eqb, ◌≢◌, List, [], ◌∷◌, ◌++◌, map, not, sym, refl, ap, ◌∙◌, append_assoc, append-nil, arith, tests}
use Rattle.std.specs.List.{AllByRecursion}
use Rattle.std.proofs.lemmas.Bool.{cond-true, cond-false, cond_both, both_ways, false≢true, eqb-true, eqb-false, ne_eqb}
use Rattle.lines.specs.Property.{name_byte, name, parameters, value, after, piece}
use Rattle.lines.specs.Machine.{run, well_formed}
use Rattle.lines.specs.declared.machine.State.{State}
use Rattle.lines.specs.declared.machine.State.TheVariants as at
use Rattle.file_laws.specs.Form.{IsName, Item, Plain, Quoted, SoundItem, spelled, Parameter, SoundParameter, parameter_bytes, Parts, Sound, after_name, line, FormOfALine}

-- a byte of a name is none of the marks
apart : (b mark : ℕ) → name_byte mark ≡ false → name_byte b ≡ true → eqb b mark ≡ false
apart b mark n y = ne_eqb b mark (λ e. both_ways (name_byte mark) n (sym (ap name_byte e) ∙ y))

-- what is not changed by bytes of one kind in front is not changed by many
passes : {X : Type 0} (F : List ℕ → X) (P : ℕ → Type 0) → ((b : ℕ) (bs : List ℕ) → P b → F (b ∷ bs) ≡ F bs) → (n bs : List ℕ) → AllByRecursion P n → F (n ++ bs) ≡ F bs
passes F P one [] bs h = refl
passes F P one (b ∷ n) bs h = one b (n ++ bs) h.0 ∙ passes F P one n bs h.1

-- the same for a parameter's text, with F outside quotes and G inside
passes_text : {X : Type 0} (F G : List ℕ → X) → ((b : ℕ) (bs : List ℕ) → SoundItem (Plain b) → F (b ∷ bs) ≡ F bs) → ((bs : List ℕ) → F (34 ∷ bs) ≡ G bs) → ((b : ℕ) (bs : List ℕ) → b ≢ 34 → G (b ∷ bs) ≡ G bs) → ((bs : List ℕ) → G (34 ∷ bs) ≡ F bs) → (t : List Item) (bs : List ℕ) → AllByRecursion SoundItem t → F (spelled t ++ bs) ≡ F bs
passes_text F G plain opens inside closes [] bs h = refl
passes_text F G plain opens inside closes (Plain b ∷ t) bs h = plain b (spelled t ++ bs) h.0 ∙ passes_text F G plain opens inside closes t bs h.1
passes_text F G plain opens inside closes (Quoted q ∷ t) bs h =
    opens ((q ++ (34 ∷ spelled t)) ++ bs)
    ∙ ap G (append_assoc q (34 ∷ spelled t) bs)
    ∙ passes G (λ b. b ≢ 34) inside q (34 ∷ (spelled t ++ bs)) h.0
    ∙ closes (spelled t ++ bs)
    ∙ passes_text F G plain opens inside closes t bs h.1

-- a parameter, and what stands after it
whole : (p : Parameter) (bs : List ℕ) → parameter_bytes p ++ bs ≡ p.name ++ (61 ∷ (spelled p.text ++ bs))
whole p bs = append_assoc p.name (61 ∷ spelled p.text) bs

-- one byte, for the machine
name_on : (b : ℕ) (bs : List ℕ) → name_byte b ≡ true → run at.Name (b ∷ bs) ≡ run at.Name bs
name_on b bs y = cond-true (name_byte b) _ _ y

param_on : (b : ℕ) (bs : List ℕ) → name_byte b ≡ true → run at.ParamName (b ∷ bs) ≡ run at.ParamName bs
param_on b bs y = cond-true (name_byte b) _ _ y

text_on : (b : ℕ) (bs : List ℕ) → SoundItem (Plain b) → run at.Text (b ∷ bs) ≡ run at.Text bs
text_on b bs h = grind (arith, tests)

quoted_on : (b : ℕ) (bs : List ℕ) → b ≢ 34 → run at.Quoted (b ∷ bs) ≡ run at.Quoted bs
quoted_on b bs h = cond-false (eqb b 34) _ _ (ne_eqb b 34 h)

run_text : (t : List Item) (bs : List ℕ) → AllByRecursion SoundItem t → run at.Text (spelled t ++ bs) ≡ run at.Text bs
run_text t bs h = passes_text (run at.Text) (run at.Quoted) text_on (λ _. refl) quoted_on (λ _. refl) t bs h

-- a whole name, and the machine's first step into it
run_name : (s t : State) → ((b : ℕ) (bs : List ℕ) → name_byte b ≡ true → run s (b ∷ bs) ≡ run t bs) → ((b : ℕ) (bs : List ℕ) → name_byte b ≡ true → run t (b ∷ bs) ≡ run t bs) → (n bs : List ℕ) → IsName n → run s (n ++ bs) ≡ run t bs
run_name s t first on [] bs h = absurd (omega (arith, h.0))
run_name s t first on (b ∷ n) bs h = first b (n ++ bs) h.1.0 ∙ passes (run t) (λ c. name_byte c ≡ true) on n bs h.1.1

run_parameter : (p : Parameter) (bs : List ℕ) → SoundParameter p → run at.ParamStart (parameter_bytes p ++ bs) ≡ run at.Text bs
run_parameter p bs h =
    ap (run at.ParamStart) (whole p bs)
    ∙ run_name at.ParamStart at.ParamName (λ b xs y. cond-true (name_byte b) _ _ y) param_on p.name (61 ∷ (spelled p.text ++ bs)) h.0
    ∙ run_text p.text bs h.1

run_after : (ps : List Parameter) (v : List ℕ) → AllByRecursion SoundParameter ps → run at.Text (after_name ps v) ≡ true
run_after [] v h = refl
run_after (p ∷ ps) v h = run_parameter p (after_name ps v) h.0 ∙ run_after ps v h.1

run_after_name : (ps : List Parameter) (v : List ℕ) → AllByRecursion SoundParameter ps → run at.Name (after_name ps v) ≡ true
run_after_name [] v h = refl
run_after_name (p ∷ ps) v h = run_parameter p (after_name ps v) h.0 ∙ run_after ps v h.1

stands : (p : Parts) → Sound p → well_formed (line p) ≡ true
stands p h =
    run_name at.Start at.Name (λ b xs y. cond-true (name_byte b) _ _ y) name_on p.name (after_name p.parameters p.value) h.0
    ∙ run_after_name p.parameters p.value h.1

-- the name
ends_name : (n bs : List ℕ) → AllByRecursion (λ b. name_byte b ≡ true) n → name bs ≡ [] → name (n ++ bs) ≡ n
ends_name [] bs h e = e
ends_name (b ∷ n) bs h e = cond-false (not (name_byte b)) _ _ (ap not h.0) ∙ ap (λ m. b ∷ m) (ends_name n bs h.1 e)

no_name : (ps : List Parameter) (v : List ℕ) → name (after_name ps v) ≡ []
no_name [] v = refl
no_name (p ∷ ps) v = refl

named : (p : Parts) → Sound p → name (line p) ≡ p.name
named p h = ends_name p.name (after_name p.parameters p.value) h.0.1 (no_name p.parameters p.value)

-- the value
value_plain : (b : ℕ) (bs : List ℕ) → eqb b 34 ≡ false → eqb b 58 ≡ false → after false 58 (b ∷ bs) ≡ after false 58 bs
value_plain b bs q c = grind (arith, tests)

value_name : (n bs : List ℕ) → AllByRecursion (λ b. name_byte b ≡ true) n → after false 58 (n ++ bs) ≡ after false 58 bs
value_name n bs h = passes (after false 58) (λ b. name_byte b ≡ true) (λ b xs y. value_plain b xs (apart b 34 refl y) (apart b 58 refl y)) n bs h

inside_on : (b : ℕ) (bs : List ℕ) → b ≢ 34 → after true 58 (b ∷ bs) ≡ after true 58 bs
inside_on b bs h = grind (arith, tests)

value_text : (t : List Item) (bs : List ℕ) → AllByRecursion SoundItem t → after false 58 (spelled t ++ bs) ≡ after false 58 bs
value_text t bs h =
    passes_text (after false 58) (after true 58) (λ b xs s. value_plain b xs (ne_eqb b 34 s.0) (ne_eqb b 58 s.1)) (λ _. refl) inside_on (λ _. refl) t bs h

value_after : (ps : List Parameter) (v : List ℕ) → AllByRecursion SoundParameter ps → after false 58 (after_name ps v) ≡ v
value_after [] v h = refl
value_after (p ∷ ps) v h =
    ap (after false 58) (whole p (after_name ps v))
    ∙ value_name p.name (61 ∷ (spelled p.text ++ after_name ps v)) h.0.0.1
    ∙ value_text p.text (after_name ps v) h.0.1
    ∙ value_after ps v h.1

valued : (p : Parts) → Sound p → value (line p) ≡ p.value
valued p h = value_name p.name (after_name p.parameters p.value) h.0.1 ∙ value_after p.parameters p.value h.1

-- a parameter's bytes
piece_plain : (b : ℕ) (bs : List ℕ) → eqb b 34 ≡ false → eqb b 58 ≡ false → eqb b 59 ≡ false → piece false (b ∷ bs) ≡ b ∷ piece false bs
piece_plain b bs q c s = grind (arith, tests)

piece_name : (n bs : List ℕ) → AllByRecursion (λ b. name_byte b ≡ true) n → piece false (n ++ bs) ≡ n ++ piece false bs
piece_name [] bs h = refl
piece_name (b ∷ n) bs h =
    piece_plain b (n ++ bs) (apart b 34 refl h.0) (apart b 58 refl h.0) (apart b 59 refl h.0) ∙ ap (λ m. b ∷ m) (piece_name n bs h.1)

piece_inside : (q bs : List ℕ) → AllByRecursion (λ b. b ≢ 34) q → piece true (q ++ bs) ≡ q ++ piece true bs
piece_inside [] bs h = refl
piece_inside (b ∷ q) bs h =
    cond-false (eqb b 34) _ _ (ne_eqb b 34 h.0)
    ∙ elim (eqb b 58 || eqb b 59) as (λ t. cond (t && false) [] (b ∷ piece true (q ++ bs)) ≡ b ∷ piece true (q ++ bs)) [ true ↦ refl | false ↦ refl ]
    ∙ ap (λ m. b ∷ m) (piece_inside q bs h.1)

piece_text : (t : List Item) (bs : List ℕ) → AllByRecursion SoundItem t → piece false (spelled t ++ bs) ≡ spelled t ++ piece false bs
piece_text [] bs h = refl
piece_text (Plain b ∷ t) bs h =
    piece_plain b (spelled t ++ bs) (ne_eqb b 34 h.0.0) (ne_eqb b 58 h.0.1) (ne_eqb b 59 h.0.2) ∙ ap (λ m. b ∷ m) (piece_text t bs h.1)
piece_text (Quoted q ∷ t) bs h =
    ap (λ xs. 34 ∷ piece true xs) (append_assoc q (34 ∷ spelled t) bs)
    ∙ ap (λ xs. 34 ∷ xs) (piece_inside q (34 ∷ (spelled t ++ bs)) h.0)
    ∙ ap (λ xs. 34 ∷ (q ++ (34 ∷ xs))) (piece_text t bs h.1)
    ∙ ap (λ xs. 34 ∷ xs) (sym (append_assoc q (34 ∷ spelled t) (piece false bs)))

no_piece : (ps : List Parameter) (v : List ℕ) → piece false (after_name ps v) ≡ []
no_piece [] v = refl
no_piece (p ∷ ps) v = refl

piece_parameter : (p : Parameter) (ps : List Parameter) (v : List ℕ) → SoundParameter p → piece false (parameter_bytes p ++ after_name ps v) ≡ parameter_bytes p
piece_parameter p ps v h =
    ap (piece false) (whole p (after_name ps v))
    ∙ piece_name p.name (61 ∷ (spelled p.text ++ after_name ps v)) h.0.1
    ∙ ap (λ xs. p.name ++ (61 ∷ xs)) (piece_text p.text (after_name ps v) h.1 ∙ ap (λ xs. spelled p.text ++ xs) (no_piece ps v) ∙ append-nil (spelled p.text))

-- the parameters
parameters_plain : (b : ℕ) (bs : List ℕ) → eqb b 34 ≡ false → eqb b 58 ≡ false → eqb b 59 ≡ false → parameters false (b ∷ bs) ≡ parameters false bs
parameters_plain b bs q c s = grind (arith, tests)

parameters_name : (n bs : List ℕ) → AllByRecursion (λ b. name_byte b ≡ true) n → parameters false (n ++ bs) ≡ parameters false bs
parameters_name n bs h =
    passes (parameters false) (λ b. name_byte b ≡ true) (λ b xs y. parameters_plain b xs (apart b 34 refl y) (apart b 58 refl y) (apart b 59 refl y)) n bs h

parameters_inside : (b : ℕ) (bs : List ℕ) → b ≢ 34 → parameters true (b ∷ bs) ≡ parameters true bs
parameters_inside b bs h = grind (arith, tests)

parameters_text : (t : List Item) (bs : List ℕ) → AllByRecursion SoundItem t → parameters false (spelled t ++ bs) ≡ parameters false bs
parameters_text t bs h =
    passes_text (parameters false) (parameters true) (λ b xs s. parameters_plain b xs (ne_eqb b 34 s.0) (ne_eqb b 58 s.1) (ne_eqb b 59 s.2)) (λ _. refl) parameters_inside (λ _. refl) t bs h

parameters_after : (ps : List Parameter) (v : List ℕ) → AllByRecursion SoundParameter ps → parameters false (after_name ps v) ≡ map parameter_bytes ps
parameters_after [] v h = refl
parameters_after (p ∷ ps) v h =
    ap (λ x. x ∷ parameters false (parameter_bytes p ++ after_name ps v)) (piece_parameter p ps v h.0)
    ∙ ap (λ xs. parameter_bytes p ∷ xs)
    (ap (parameters false) (whole p (after_name ps v))
    ∙ parameters_name p.name (61 ∷ (spelled p.text ++ after_name ps v)) h.0.0.1
    ∙ parameters_text p.text (after_name ps v) h.0.1
    ∙ parameters_after ps v h.1)

with_parameters : (p : Parts) → Sound p → parameters false (line p) ≡ map parameter_bytes p.parameters
with_parameters p h = parameters_name p.name (after_name p.parameters p.value) h.0.1 ∙ parameters_after p.parameters p.value h.1

-- Back: what a line is made of, from where the machine is. After the name; in a parameter's text, inside quotes or not; in a name
Rest : List ℕ → Type 0
Rest bs = (ps : List Parameter) × (v : List ℕ) × AllByRecursion SoundParameter ps × (bs ≡ after_name ps v)

InText : List ℕ → Type 0
InText bs = (t : List Item) × (r : List ℕ) × AllByRecursion SoundItem t × Rest r × (bs ≡ spelled t ++ r)

InQuotes : List ℕ → Type 0
InQuotes bs = (q : List ℕ) × (r : List ℕ) × AllByRecursion (λ b. b ≢ 34) q × InText r × (bs ≡ q ++ (34 ∷ r))

InParameter : List ℕ → Type 0
InParameter bs = (n : List ℕ) × (r : List ℕ) × AllByRecursion (λ b. name_byte b ≡ true) n × InText r × (bs ≡ n ++ (61 ∷ r))

InName : List ℕ → Type 0
InName bs = (n : List ℕ) × (r : List ℕ) × AllByRecursion (λ b. name_byte b ≡ true) n × Rest r × (bs ≡ n ++ r)

Ahead : State → List ℕ → Type 0
Ahead at.Start bs = (b : ℕ) × (xs : List ℕ) × (name_byte b ≡ true) × InName xs × (bs ≡ b ∷ xs)
Ahead at.Name bs = InName bs
Ahead at.ParamStart bs = (b : ℕ) × (xs : List ℕ) × (name_byte b ≡ true) × InParameter xs × (bs ≡ b ∷ xs)
Ahead at.ParamName bs = InParameter bs
Ahead at.Text bs = InText bs
Ahead at.Quoted bs = InQuotes bs

-- a colon ends the parameters, a semicolon begins one
at_colon : (b : ℕ) (bs : List ℕ) → eqb b 58 ≡ true → Rest (b ∷ bs)
unfolding Rest
at_colon b bs e = ([], bs, tt, ap (λ c. c ∷ bs) (eqb-true b 58 e))

at_semicolon : (b : ℕ) (bs : List ℕ) → eqb b 59 ≡ true → Ahead at.ParamStart bs → Rest (b ∷ bs)
unfolding Ahead InParameter InText Rest
at_semicolon b bs e (c, xs, y, (n, r, h, (t, s, k, (ps, v, j, e1), e2), e3), e4) =
    let p : Parameter = record { name = c ∷ n; text = t } in
    (p ∷ ps, v, (((omega arith, (y, h)), k), j), ap (λ m. m ∷ bs) (eqb-true b 59 e) ∙ ap (λ m. 59 ∷ m) (e4 ∙ ap (λ m. c ∷ m) e3 ∙ ap (λ m. c ∷ (n ++ (61 ∷ m))) (e2 ∙ ap (λ m. spelled t ++ m) e1) ∙ sym (whole p (after_name ps v))))

read : (s : State) (bs : List ℕ) → run s bs ≡ true → Ahead s bs
unfolding Ahead InName InParameter InText InQuotes
read s [] e = absurd (false≢true e)
read at.Start (b ∷ bs) e =
    cond_both (name_byte b) (run at.Name bs) false (λ x. x ≡ true → Ahead at.Start (b ∷ bs)) (λ y f. (b, bs, y, read at.Name bs f, refl)) (λ _ f. absurd (false≢true f)) e
read at.Name (b ∷ bs) e =
    cond_both (name_byte b) (run at.Name bs) (cond (eqb b 59) (run at.ParamStart bs) (eqb b 58)) (λ x. x ≡ true → Ahead at.Name (b ∷ bs))
    (λ y f. let (n, r, h, k, e1) = read at.Name bs f in (b ∷ n, r, (y, h), k, ap (λ m. b ∷ m) e1))
    (λ _. cond_both (eqb b 59) (run at.ParamStart bs) (eqb b 58) (λ x. x ≡ true → Ahead at.Name (b ∷ bs))
    (λ y f. ([], b ∷ bs, tt, at_semicolon b bs y (read at.ParamStart bs f), refl))
    (λ _ f. ([], b ∷ bs, tt, at_colon b bs f, refl)))
    e
read at.ParamStart (b ∷ bs) e =
    cond_both (name_byte b) (run at.ParamName bs) false (λ x. x ≡ true → Ahead at.ParamStart (b ∷ bs)) (λ y f. (b, bs, y, read at.ParamName bs f, refl)) (λ _ f. absurd (false≢true f)) e
read at.ParamName (b ∷ bs) e =
    cond_both (name_byte b) (run at.ParamName bs) (cond (eqb b 61) (run at.Text bs) false) (λ x. x ≡ true → Ahead at.ParamName (b ∷ bs))
    (λ y f. let (n, r, h, k, e1) = read at.ParamName bs f in (b ∷ n, r, (y, h), k, ap (λ m. b ∷ m) e1))
    (λ _. cond_both (eqb b 61) (run at.Text bs) false (λ x. x ≡ true → Ahead at.ParamName (b ∷ bs))
    (λ y f. ([], bs, tt, read at.Text bs f, ap (λ c. c ∷ bs) (eqb-true b 61 y)))
    (λ _ f. absurd (false≢true f)))
    e
read at.Text (b ∷ bs) e =
    cond_both (eqb b 59) (run at.ParamStart bs) (cond (eqb b 58) true (cond (eqb b 34) (run at.Quoted bs) (run at.Text bs))) (λ x. x ≡ true → Ahead at.Text (b ∷ bs))
    (λ y f. ([], b ∷ bs, tt, at_semicolon b bs y (read at.ParamStart bs f), refl))
    (λ n59. cond_both (eqb b 58) true (cond (eqb b 34) (run at.Quoted bs) (run at.Text bs)) (λ x. x ≡ true → Ahead at.Text (b ∷ bs))
    (λ y _. ([], b ∷ bs, tt, at_colon b bs y, refl))
    (λ n58. cond_both (eqb b 34) (run at.Quoted bs) (run at.Text bs) (λ x. x ≡ true → Ahead at.Text (b ∷ bs))
    (λ y f.
    let (q, r, h, (t, s, k, j, e2), e1) = read at.Quoted bs f in
    (Quoted q ∷ t, s, (h, k), j, ap (λ c. c ∷ bs) (eqb-true b 34 y) ∙ ap (λ m. 34 ∷ m) (e1 ∙ ap (λ m. q ++ (34 ∷ m)) e2 ∙ sym (append_assoc q (34 ∷ spelled t) s))))
    (λ n34 f. let (t, s, k, j, e1) = read at.Text bs f in (Plain b ∷ t, s, ((eqb-false b 34 n34, eqb-false b 58 n58, eqb-false b 59 n59), k), j, ap (λ m. b ∷ m) e1))))
    e
read at.Quoted (b ∷ bs) e =
    cond_both (eqb b 34) (run at.Text bs) (run at.Quoted bs) (λ x. x ≡ true → Ahead at.Quoted (b ∷ bs))
    (λ y f. ([], bs, tt, read at.Text bs f, ap (λ c. c ∷ bs) (eqb-true b 34 y)))
    (λ n34 f. let (q, r, h, k, e1) = read at.Quoted bs f in (b ∷ q, r, (eqb-false b 34 n34, h), k, ap (λ m. b ∷ m) e1))
    e

only : (bs : List ℕ) → well_formed bs ≡ true → (p : Parts) × Sound p × (bs ≡ line p)
unfolding Ahead InName Rest
only bs e =
    let (b, xs, y, (n, r, h, (ps, v, k, e1), e2), e3) = read at.Start bs e in
    (record { name = b ∷ n; parameters = ps; value = v }, ((omega arith, (y, h)), k), e3 ∙ ap (λ m. b ∷ m) (e2 ∙ ap (λ m. n ++ m) e1))

pub form : FormOfALine
form = record { only = only; stands = stands; named = named; with_parameters = with_parameters; valued = valued }

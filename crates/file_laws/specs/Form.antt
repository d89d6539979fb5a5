-- The form of a line: a name, parameters that each begin with a semicolon, and a colon before the value.
use Rattle.std.specs.Prelude.{◌≡◌, ℕ, ◌<◌, true, false, ◌≢◌, List, [], ◌∷◌, ◌++◌, map, length}
use Rattle.std.specs.List.{AllByRecursion}
use Rattle.lines.specs.Property.{name_byte, name, parameters, value}
use Rattle.lines.specs.Machine.{well_formed}

-- the bytes that part a line
abbrev pub quote : ℕ
quote = 34

abbrev pub colon : ℕ
colon = 58

abbrev pub semicolon : ℕ
semicolon = 59

abbrev pub equals : ℕ
equals = 61

-- a name: a letter, digit or hyphen, or more of them
abbrev pub IsName : List ℕ → Type 0
IsName n = (0 < length n) × AllByRecursion (λ b. name_byte b ≡ true) n

-- a parameter's text, item by item: a byte that is no quote, colon or semicolon, or bytes that are no quotes between two quotes
pub data Item : Type 0 where
  Plain : ℕ → Item
  Quoted : List ℕ → Item

abbrev pub SoundItem : Item → Type 0
SoundItem (Plain b) = (b ≢ quote) × (b ≢ colon) × (b ≢ semicolon)
SoundItem (Quoted bs) = AllByRecursion (λ b. b ≢ quote) bs

abbrev pub spelled : List Item → List ℕ
spelled [] = []
spelled (Plain b ∷ items) = b ∷ spelled items
spelled (Quoted bs ∷ items) = quote ∷ (bs ++ (quote ∷ spelled items))

pub record Parameter : Type 0 where
  pub name : List ℕ
  pub text : List Item

abbrev pub SoundParameter : Parameter → Type 0
SoundParameter p = IsName p.name × AllByRecursion SoundItem p.text

abbrev pub parameter_bytes : Parameter → List ℕ
parameter_bytes p = p.name ++ (equals ∷ spelled p.text)

-- the parts of a line, and the line that they make
pub record Parts : Type 0 where
  pub name : List ℕ
  pub parameters : List Parameter
  pub value : List ℕ

abbrev pub Sound : Parts → Type 0
Sound p = IsName p.name × AllByRecursion SoundParameter p.parameters

abbrev pub after_name : List Parameter → List ℕ → List ℕ
after_name [] v = colon ∷ v
after_name (p ∷ ps) v = semicolon ∷ (parameter_bytes p ++ after_name ps v)

abbrev pub line : Parts → List ℕ
line p = p.name ++ after_name p.parameters p.value

-- a line is well-formed exactly where it is made of such parts, and they are then its name, its parameters and its value
pub record FormOfALine : Type 0 where
  pub only : (bs : List ℕ) → well_formed bs ≡ true → (p : Parts) × Sound p × (bs ≡ line p)
  pub stands : (p : Parts) → Sound p → well_formed (line p) ≡ true
  pub named : (p : Parts) → Sound p → name (line p) ≡ p.name
  pub with_parameters : (p : Parts) → Sound p → parameters false (line p) ≡ map parameter_bytes p.parameters
  pub valued : (p : Parts) → Sound p → value (line p) ≡ p.value

-- The order that a queue goes by.
use Rattle.std.specs.Prelude.{◌≡◌, Bool, true, false}

-- `before` is the test of a strict total order: of two different entries exactly one is before the other, and an entry that
-- is not before a second, which is not before a third, is not before the third
pub record Strict {X : Type 0} (before : X → X → Bool) : Type 0 where
  pub one_way : (x y : X) → before x y ≡ true → before y x ≡ false
  pub chain : (x y z : X) → before x y ≡ false → before y z ≡ false → before x z ≡ false
  pub tie : (x y : X) → before x y ≡ false → before y x ≡ false → x ≡ y

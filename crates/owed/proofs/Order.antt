-- The test of the order and what it says.
use Rattle.std.proofs.Common.{◌≡◌, true, false, tests, arith}
use Rattle.owed.specs.declared.line.Line.{Line}
use Rattle.owed.specs.Lines.{precedes, Before, NotAfter}

pub before_from : (l m : Line) → precedes l m ≡ true → Before l m
before_from l m e = (grind (arith, tests), grind (arith, tests))

pub not_after_from : (l m : Line) → precedes m l ≡ false → NotAfter l m
not_after_from l m e = (grind (arith, tests), grind (arith, tests))

pub before_test : (l m : Line) → Before l m → precedes l m ≡ true
before_test l m h = grind (arith, tests)

pub not_after_test : (l m : Line) → NotAfter l m → precedes m l ≡ false
not_after_test l m h = grind (arith, tests)

-- ── lines in turn ──

pub not_after_itself : (l : Line) → NotAfter l l
not_after_itself l = (omega arith, λ d. omega arith)

pub before_not_after : (l m : Line) → Before l m → NotAfter l m
before_not_after l m h = grind arith

pub never_both : (l m : Line) → Before l m → NotAfter m l → ⊥
never_both l m h k = grind arith

pub not_after_before : (l m n : Line) → NotAfter l m → Before m n → Before l n
not_after_before l m n h k = grind arith

pub before_chain : (l m n : Line) → Before l m → Before m n → Before l n
before_chain l m n h k = grind arith

-- a line is its day and its number
pub same_line : (l m : Line) → l.day ≡ m.day → l.series ≡ m.series → l ≡ m
same_line l m d s = λ i. record { day = d i; series = s i }

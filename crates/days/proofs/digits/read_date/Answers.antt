-- The check does not find that digits are at most 9, and that the numbers are those that the digits write.
use Rattle.std.proofs.Common.{◌≡◌, ◌+◌, ◌*◌, sym, ap, ◌∙◌, arith, lit<}
use Rattle.std.specs.Option.{ok_or}
use Rattle.days.specs.declared.digits.DateFault.TheVariants.{NoSuchDay}
use Rattle.days.specs.Digits.{year_of}
use Rattle.days.proofs.Texts.{Valued, valued, day_read}
use Rattle.days.proofs.digits.read_date.Goals as goal

known : (c : goal.After-from-4) → Valued c.args.bytes.now c.in_ok-y1.field-0
known c = valued _ _ c.in_ok-y1.ensures

pub overflow_mul-month : goal.overflow_mul-month
overflow_mul-month c = omega (arith, (known c).small 4 (lit< tt))

pub overflow_add-month : goal.overflow_add-month
overflow_add-month c = omega (arith, (known c).small 4 (lit< tt), (known c).small 5 (lit< tt))

pub overflow_mul-day : goal.overflow_mul-day
overflow_mul-day c = omega (arith, (known c).small 6 (lit< tt))

pub overflow_add-day : goal.overflow_add-day
overflow_add-day c = omega (arith, (known c).small 6 (lit< tt), (known c).small 7 (lit< tt))

pub returns : goal.returns
returns c =
    let bs = c.args.bytes.now in
    let v = valued bs c.in_ok-y1.field-0 c.in_ok-y1.ensures in
    let vy = v.year in
    let y : 1000 * c.from.result + 100 * c.from-2.result + 10 * c.from-3.result + c.from-4.result ≡ year_of bs =
    omega arith in
    let r = c.ok_or.ensures.value ∙ ap (λ o. ok_or o NoSuchDay) c.day_of_date.ensures in
    r ∙ day_read bs _ _ _ v.eight y (sym v.month) (sym v.day)

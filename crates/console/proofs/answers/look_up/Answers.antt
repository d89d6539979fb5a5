use Rattle.console.proofs.Found.{says_day}
use Rattle.console.proofs.answers.look_up.Goals as goal

pub returns-in_ok-place-in-Day : goal.returns-in_ok-place-in-Day
returns-in_ok-place-in-Day g c =
    rw c.in-Day.is (
      c.in_ok-place-in-Day.place,
      rw c.in_ok-place-in-Day.ensures.ok_part at c.find.ensures,
      says_day _ _ c.day_named.result c.map.result c.day_named.ensures c.map.ensures.cases,
    )

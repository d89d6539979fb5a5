-- The check does not find these: what a head that was taken out, and the refill in its place, leave.
use Rattle.std.proofs.Common.{◌≡◌, ℕ, ◌+◌, ◌-◌, ◌<◌, ◌≤◌, Bool, true, false, List, length, take, drop, sym, ◌∙◌, arith}
use Rattle.std.specs.List.{All}
use Rattle.std.proofs.lemmas.List.{length-map}
use Rattle.calendar.specs.Sheets.{Almanac}
use Rattle.queue.specs.Heap.{Heaped, Taken}
use Rattle.queue.proofs.Fronts.{past_later}
use Rattle.series.specs.Record.{series_days, Ready}
use Rattle.series.specs.declared.record.Series.{Series}
use Rattle.owed.specs.declared.line.Line.{Line}
use Rattle.owed.specs.Lines.{precedes, NotAfter}
use Rattle.owed.proofs.Order.{before_from, before_not_after, not_after_itself}
use Rattle.heads.specs.Heads.{sets_of, Heads}
use Rattle.heads.proofs.Counts.{behind_yes, behind_permuted}
use Rattle.heads.proofs.Queued.{head_given, heads_popped, head_first, no_head}
use Rattle.heads.proofs.Moved.{heads_sought}
use Rattle.heads.proofs.coming.Coming.draw.Goals as goal

-- what the test of a line that was made says
told : (m x : Line) (r b : Bool) → r ≡ precedes m x → r ≡ b → precedes m x ≡ b
told m x r b is made = sym is ∙ made

-- A refill of the series of the head that was taken out: `fills` is what it ensures, after a mark that is not before the one
-- that the heads were after.
refilled : (shelf : List Almanac) (series : List Series) (first last : ℕ) (mark m2 : Line) (old new next : List Line) (left queued : ℕ) (x : Line)
    → length new ≡ length old → NotAfter mark m2 → All (Ready shelf) series → Heads first last (sets_of shelf series) mark old left 0
    → Taken precedes left old new x → (Heaped precedes old left → Heaped precedes new (left - 1))
    → ((f : ℕ) → All (Ready shelf) series → 1 ≤ x.series → x.series ≤ length series → Heads f last (sets_of shelf series) m2 new (left - 1) x.series → Heads f last (sets_of shelf series) m2 next queued 0)
    → Heads first last (sets_of shelf series) m2 next queued 0
refilled shelf series first last mark m2 old new next left queued x long later ready heads taken heaped fills =
    let sets = sets_of shelf series in
    let given = head_given first last sets mark old new left x long heads taken in
    fills first ready given.from_one (omega (arith, given.loaded, length-map series (series_days shelf)))
    (heads_sought first last sets mark m2 new (left - 1) x.series (heads_popped first last sets mark old new left x long heads taken heaped) later)

-- the places that are not in use stay, over a pop of the last one in use and a refill
stays : (start old new next : List Line) (left queued : ℕ) → 0 < left → left ≤ queued → drop queued old ≡ drop queued start → drop left new ≡ drop left old
    → drop (left - 1 + 1) next ≡ drop (left - 1 + 1) new → drop queued next ≡ drop queued start
stays start old new next left queued some within was popped refilled =
    past_later next new start (left - 1 + 1) queued (omega (arith, some, within)) refilled (past_later new old start left queued within popped was)

pub returns-then-awaits-clause-heads : goal.returns-then-awaits-clause-heads
returns-then-awaits-clause-heads g c first ready heads =
    let self = c.args.self.now in
    let l = c.loop-head in
    let x = c.in-Some.head in
    let after = before_from self.mark x (told self.mark x c.awaits.result true c.awaits.ensures c.if-awaits.true) in
    refilled (g.S.Shelf.held self.shelf.now) self.series.now first self.last self.mark x l.queue c.pop.new.slots c.refill.new.queue l.left c.refill.result x
    (omega arith) (before_not_after self.mark x after) ready (l.invariant.heads first ready heads) c.in-Some.ensures.popped c.in-Some.ensures.heaped c.refill.ensures.heads

pub returns-then-awaits-clause-drawn : goal.returns-then-awaits-clause-drawn
returns-then-awaits-clause-drawn g c first ready heads =
    let self = c.args.self.now in
    let sets = sets_of (g.S.Shelf.held self.shelf.now) self.series.now in
    let l = c.loop-head in
    let x = c.in-Some.head in
    head_first first self.last sets self.mark l.queue c.pop.new.slots l.left x (omega arith) (l.invariant.heads first ready heads) c.in-Some.ensures.popped
    (before_from self.mark x (told self.mark x c.awaits.result true c.awaits.ensures c.if-awaits.true))

pub returns-then-awaits-clause-rest : goal.returns-then-awaits-clause-rest
returns-then-awaits-clause-rest g c =
    let l = c.loop-head in
    let some = c.in-Some.ensures.popped.some in (
      omega (arith, c.refill.ensures.rest.0, some, l.invariant.within),
      stays c.args.queue.now l.queue c.pop.new.slots c.refill.new.queue l.left c.args.queued some l.invariant.within l.invariant.beyond c.in-Some.ensures.beyond c.refill.ensures.rest.1,
    )

pub loop-head-smaller : goal.loop-head-smaller
loop-head-smaller g c =
    let l = c.loop-head in
    let x = c.in-Some.head in
    let mark = c.args.self.now.mark in
    let rest = take (l.left - 1) c.pop.new.slots in
    omega (arith, c.refill-left.ensures.behind, behind_permuted mark (take l.left l.queue) _ c.in-Some.ensures.popped.others, behind_yes mark x rest (told mark x c.awaits.result false c.awaits.ensures c.if-awaits.false))

pub loop-head-preserved : goal.loop-head-preserved
loop-head-preserved g c =
    let self = c.args.self.now in
    let l = c.loop-head in
    let new = c.pop.new.slots in
    let taken = c.in-Some.ensures.popped in
    let refill = c.refill-left in
    record {
      within = omega (arith, refill.ensures.rest.0, taken.some, l.invariant.within);
      room = omega (arith, l.invariant.room);
      heads = λ first ready heads.
          refilled (g.S.Shelf.held self.shelf.now) self.series.now first self.last self.mark self.mark l.queue new refill.new.queue l.left refill.result c.in-Some.head
          (omega arith) (not_after_itself self.mark) ready (l.invariant.heads first ready heads) taken c.in-Some.ensures.heaped refill.ensures.heads;
      beyond = stays c.args.queue.now l.queue new refill.new.queue l.left c.args.queued taken.some l.invariant.within l.invariant.beyond c.in-Some.ensures.beyond refill.ensures.rest.1;
    }

pub returns-clause-drawn : goal.returns-clause-drawn
returns-clause-drawn g c first ready heads =
    let self = c.args.self.now in
    let sets = sets_of (g.S.Shelf.held self.shelf.now) self.series.now in
    let l = c.loop-head in
    no_head first self.last sets self.mark l.queue l.left (l.invariant.heads first ready heads) c.in_default.ensures.popped.0

use Rattle.judge.specs.Comparing.{meant, listing_on}
use Rattle.judge.proofs.Seen.{alike}
use Rattle.judge.proofs.held_step.HeldStep.is_alike.Goals as goal

pub returns-then-is_equal : goal.returns-then-is_equal
returns-then-is_equal g c =
    let own = c.args.self.now in
    let held = own.held.now in
    let x = meant g.L.System.means g.R.System.means held.between.now.comparison.now in
    let other = c.in-Some.other.now in
    let lands = c.in-Some-landing.is in
    rw c.opposite.ensures at (alike (listing_on c.opposite.result x held.pair.now held.lowest) c.args.number other own.listed.now.label c.in-Some-landing.own c.args.landing.now _
    c.in-Some.ensures.there (c.is_equal.ensures.0 c.if-is_equal.true) lands c.is_equal-then-is_equal.ensures)

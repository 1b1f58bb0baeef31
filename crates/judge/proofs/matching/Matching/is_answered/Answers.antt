use Rattle.std.proofs.Common.{refl, vec_items}
use Rattle.std.proofs.lemmas.Bool.{false≢true}
use Rattle.judge.specs.Comparing.{meant, opposed}
use Rattle.judge.proofs.Matched.{matched}
use Rattle.judge.proofs.Listed.{unlisted_own}
use Rattle.judge.proofs.matching.Matching.is_answered.Goals as goal

pub returns-in-None : goal.returns-in-None
returns-in-None g c =
    let held = c.args.self.now.held in
    let x = meant g.L.System.means g.R.System.means held.between.now.comparison.now in
    (λ e. absurd (false≢true e), λ a. absurd (unlisted_own x c.args.side (opposed c.args.side) held.pair.now c.args.first.now.item.step 0 held.lowest refl (c.in-None.ensures.none) a))

pub returns-then-has : goal.returns-then-has
returns-then-has g c =
    let own = c.args.self.now in
    let held = own.held in
    let x = meant g.L.System.means g.R.System.means held.between.now.comparison.now in
    let found = c.has.ensures c.if-has.true in
    (λ _. matched x held.between.now.one_range held.pair.now (vec_items own.matches.now.found) own.each c.args.side c.args.first.now.item.step found.0 found.1 found.2 found.3, λ _. refl)

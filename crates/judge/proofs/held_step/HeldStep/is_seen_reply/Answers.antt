use Rattle.judge.specs.Comparing.{meant}
use Rattle.judge.proofs.Listed.{listed_label, listed_landing, reply_seen}
use Rattle.judge.proofs.held_step.HeldStep.is_seen_reply.Goals as goal

pub returns-then-are_alike : goal.returns-then-are_alike
returns-then-are_alike g c =
    let own = c.args.self.now in
    let held = own.held.now in
    let between = held.between.now in
    let comparison = between.comparison.now in
    let x = meant g.L.System.means g.R.System.means comparison in
    let other = c.in-Some.other.now in
    let other-at = c.in-Some.ensures.there in
    λ yes. reply_seen x own.side c.opposite.result held.pair.now own.step c.args.reply own.listed.now.label other.label held.lowest own.listed.now.landing other.landing
    between.one_range (g.met.L.System.keeps comparison.left.now) (g.met.R.System.keeps comparison.right.now) c.opposite.ensures
    (listed_label x own.side held.pair.now held.lowest own.step own.listed.now own.at) (listed_label x c.opposite.result held.pair.now held.lowest c.args.reply other other-at)
    (c.are_alike.ensures c.if-are_alike.true) held.low
    (listed_landing x own.side held.pair.now held.lowest own.step own.listed.now own.at) (listed_landing x c.opposite.result held.pair.now held.lowest c.args.reply other other-at)
    (rw c.relation.ensures at (c.are_landings.ensures yes))

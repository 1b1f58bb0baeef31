use Rattle.std.proofs.Common.{sym, ◌∙◌, w8}
use Rattle.std.proofs.lemmas.Int.{to_z-of_z}
use Rattle.judge.specs.Comparing.{meant}
use Rattle.judge.proofs.Replying.{decides_lands}
use Rattle.judge.proofs.reply.Challenge.lands_at.Goals as goal

pub returns-in-Some-Some : goal.returns-in-Some-Some
returns-in-Some-Some g c =
    let own = c.args.self.now in
    let x = meant g.L.System.means g.R.System.means own.between.now.comparison.now in
    let landed = c.in-Some-Some in
    let same = to_z-of_z w8 c.args.value c.ranges.value in
    decides_lands x own.side c.opposite.result own.pair.now own.step c.args.reply c.args.value landed.own landed.other c.pair_from.result c.first_equal.result _
    c.opposite.ensures (sym landed.is-0 ∙ rw same at c.landing.ensures) (sym landed.is-1 ∙ rw same at c.landing-2.ensures) c.pair_from.ensures c.first_equal.ensures c.is_some.ensures

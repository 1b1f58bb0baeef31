use Rattle.std.proofs.Common.{rules, arith}
use Rattle.std.proofs.lemmas.Int.{ints, to_z-of_z}
use Rattle.questions.specs.declared.Side.TheVariants.{Left}
use Rattle.judge.specs.Comparing.{meant}
use Rattle.judge.specs.Likeness.{LandsAt}
use Rattle.judge.proofs.EachValue.{decides_all}
use Rattle.judge.proofs.received.Received.form_records.Goals as goal

pub returns : goal.returns
returns g c =
    let own = c.args.self.now in
    let held = own.held.now in
    let x = meant g.L.System.means g.R.System.means held.between.now.comparison.now in
    decides_all c.all.ensures.ran (LandsAt x Left held.pair.now own.left_step own.right_step) (λ v q k. search rules) (λ v q k. search rules) x.left.lo x.left.hi
    (grind (arith, ints, to_z-of_z)) (grind (arith, ints, to_z-of_z)) c.new.ensures.exhausted

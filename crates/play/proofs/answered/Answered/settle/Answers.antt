use Rattle.std.proofs.Common.{ℤ, Ok, Err, subst, w8}
use Rattle.std.proofs.lemmas.Int.{to_z-of_z}
use Rattle.judge.specs.Comparing.{meant}
use Rattle.play.specs.Calls.{Settles}
use Rattle.play.specs.declared.fault.Fault.TheVariants.{Landings}
use Rattle.play.proofs.Settling.{settle_refused, not_settled, settled}
use Rattle.play.proofs.answered.Answered.settle.Goals as goal

pub returns-in-Err : goal.returns-in-Err
returns-in-Err g c =
    let x = meant g.L.System.means g.R.System.means c.args.comparison.now in
    subst (λ (v : ℤ). Settles x c.args.self v (Err (record { play = c.args.self; fault = c.in-Err.fault }))) (to_z-of_z w8 c.args.value c.ranges.value)
    (settle_refused x c.args.self _ c.in-Err.fault c.in-Err.ensures.refuses)

pub returns-in_default : goal.returns-in_default
returns-in_default g c =
    let x = meant g.L.System.means g.R.System.means c.args.comparison.now in
    subst (λ (v : ℤ). Settles x c.args.self v (Err (record { play = c.args.self; fault = Landings }))) (to_z-of_z w8 c.args.value c.ranges.value)
    (not_settled x c.args.self _ c.in-Ok.ensures.refuses c.in-Ok.told.pair.now c.in-Ok.ensures.stands (g.met.L.System.keeps c.args.comparison.now.left.now) c.in-Ok.told.value c.in-Ok.ensures.value c.in_default.ensures)

pub returns : goal.returns
returns g c =
    let x = meant g.L.System.means g.R.System.means c.args.comparison.now in
    subst (λ (v : ℤ). Settles x c.args.self v (Ok (record { pair = c.in-Some.pair }))) (to_z-of_z w8 c.args.value c.ranges.value)
    (settled x c.args.self _ c.in-Ok.ensures.refuses c.in-Ok.told.pair.now c.in-Ok.ensures.stands (g.met.L.System.keeps c.args.comparison.now.left.now) c.in-Ok.told.value c.in-Ok.ensures.value (record { pair = c.in-Some.pair }) c.in-Some.ensures)

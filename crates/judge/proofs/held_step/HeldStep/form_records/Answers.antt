use Rattle.judge.specs.Comparing.{meant}
use Rattle.judge.proofs.Replying.{turned}
use Rattle.judge.proofs.held_step.HeldStep.form_records.Goals as goal

pub returns-in-Right : goal.returns-in-Right
returns-in-Right g c =
    let own = c.args.self.now in
    let held = own.held.now in
    let x = meant g.L.System.means g.R.System.means held.between.now.comparison.now in
    rw c.in-Right.is (turned x held.pair.now c.args.reply own.step _ c.form_records-in-Right.ensures)

use Rattle.judge.specs.Comparing.{meant}
use Rattle.judge.proofs.Finding.{first_of_all}
use Rattle.judge.proofs.comparison.Comparison.first_reply.Goals as goal

pub returns : goal.returns
returns g c =
    let x = meant g.L.System.means g.R.System.means c.args.self.now in
    first_of_all x c.args.side c.args.pair.now c.args.step c.step_count-count.result _ (rw c.opposite.ensures at c.step_count-count.ensures) (rw c.in_ok-aligned.ensures at c.first_reply_among.ensures)

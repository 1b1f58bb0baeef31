use Rattle.std.proofs.Common.{◌<◌, rules}
use Rattle.judge.specs.Comparing.{meant}
use Rattle.judge.specs.Likeness.{Reply}
use Rattle.judge.proofs.Finding.{decides_first}
use Rattle.judge.proofs.aligned.Aligned.is_answered.Goals as goal

pub returns : goal.returns
returns g c =
    let x = meant g.L.System.means g.R.System.means c.args.self.now.comparison.now in
    decides_first (λ j. (j < c.args.count) × Reply x c.args.side c.args.pair.now c.args.step j) _ _ c.first_reply_among.ensures (search rules)

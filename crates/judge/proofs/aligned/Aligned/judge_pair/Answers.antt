use Rattle.std.proofs.Common.{rules}
use Rattle.judge.specs.Comparing.{meant}
use Rattle.judge.proofs.Exactly.{pair_left, pair_right, pair_none}
use Rattle.judge.proofs.aligned.Aligned.judge_pair.Goals as goal

pub returns-in-Some : goal.returns-in-Some
returns-in-Some g c =
    let x = meant g.L.System.means g.R.System.means c.args.self.now.comparison.now in
    pair_left x c.args.self.now.one_range c.args.k c.args.pair.now (search rules) (search rules) (search rules) c.in-Some.step c.in-Some.ensures

pub returns-in-Some-first_unanswered : goal.returns-in-Some-first_unanswered
returns-in-Some-first_unanswered g c =
    let x = meant g.L.System.means g.R.System.means c.args.self.now.comparison.now in
    pair_right x c.args.self.now.one_range c.args.k c.args.pair.now (search rules) (search rules) (search rules) c.in-Some-first_unanswered.step c.in_default.ensures c.in-Some-first_unanswered.ensures

pub returns : goal.returns
returns g c =
    let x = meant g.L.System.means g.R.System.means c.args.self.now.comparison.now in
    pair_none x c.args.self.now.one_range c.args.k c.args.pair.now (search rules) (search rules) (search rules) c.in_default.ensures c.in_default-first_unanswered.ensures

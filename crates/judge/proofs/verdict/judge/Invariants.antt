use Rattle.std.proofs.Common.{◌≡◌, drop}
use Rattle.questions.specs.Asking.{numbered, first_no}
use Rattle.judge.specs.Comparing.{comparing}
use Rattle.judge.specs.Judged.{pair_asked, judge_asked}
use Rattle.judge.proofs.verdict.judge.Given as goal

-- what is left to ask has the first no of all
abbrev pub invariant-loop-k : goal.invariant-loop-k
invariant-loop-k g l =
    let c = comparing (g.L.System.means l.left) (g.R.System.means l.right) l.relation in
    first_no (numbered (pair_asked c) l.k (drop l.k l.relation)) ≡ first_no (judge_asked c)

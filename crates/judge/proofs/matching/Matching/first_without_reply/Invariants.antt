use Rattle.judge.specs.Comparing.{meant}
use Rattle.judge.proofs.Again.{AnsweredBelow}
use Rattle.judge.proofs.matching.Matching.first_without_reply.Given as goal

-- each step that was looked at has a reply
abbrev pub invariant-loop-number : goal.invariant-loop-number
invariant-loop-number g l =
    let held = l.self.held in
    AnsweredBelow (meant g.L.System.means g.R.System.means held.between.now.comparison.now) l.side held.pair.now l.first-items l.number

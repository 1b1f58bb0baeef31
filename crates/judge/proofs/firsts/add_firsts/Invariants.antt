use Rattle.judge.specs.Entering.{entered}
use Rattle.judge.specs.Firsts.{Firsts}
use Rattle.judge.proofs.firsts.add_firsts.Given as goal

abbrev pub invariant-loop-number : goal.invariant-loop-number
invariant-loop-number l = Firsts l.listed l.number (entered l.firsts)

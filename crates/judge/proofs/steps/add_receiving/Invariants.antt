use Rattle.std.proofs.Common.{◌≡◌, take}
use Rattle.judge.specs.Receiving.{receiving_from}
use Rattle.judge.proofs.steps.add_receiving.Given as goal

abbrev pub invariant-loop-number : goal.invariant-loop-number
invariant-loop-number l = l.receiving.items ≡ receiving_from 0 (take l.number l.listed)

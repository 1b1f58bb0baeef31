use Rattle.model.proofs.Layouts.{Writing}
use Rattle.model.proofs.state.State.to_bytes.Given as goal

abbrev pub invariant-loop-k : goal.invariant-loop-k
invariant-loop-k l = Writing l.self.units l.k l.bytes

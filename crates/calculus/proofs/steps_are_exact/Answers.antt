use Rattle.calculus.proofs.Exactly.{exact}
use Rattle.calculus.proofs.steps_are_exact.Goals as goal

pub returns : goal.returns
returns c = exact

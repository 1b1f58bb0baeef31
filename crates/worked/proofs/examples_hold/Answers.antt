use Rattle.worked.proofs.Table.{examples}
use Rattle.worked.proofs.examples_hold.Goals as goal

pub returns : goal.returns
returns c = examples

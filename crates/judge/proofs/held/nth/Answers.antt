use Rattle.std.proofs.Common.{arith}
use Rattle.std.proofs.lemmas.Grind.{common_steps}
use Rattle.std.proofs.lemmas.Option.{gets}
use Rattle.judge.proofs.held.nth.Goals as goal

pub returns : goal.returns
returns g c = grind (arith, common_steps, gets)

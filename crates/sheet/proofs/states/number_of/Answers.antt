use Rattle.sheet.proofs.Bytes.{first_byte}
use Rattle.sheet.proofs.states.number_of.Goals as goal

pub returns : goal.returns
returns c = first_byte c.args.state.now

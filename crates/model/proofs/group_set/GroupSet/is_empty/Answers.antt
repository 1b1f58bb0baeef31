use Rattle.std.proofs.Common.{refl}
use Rattle.model.proofs.Groups.{decides_empty}
use Rattle.model.proofs.group_set.GroupSet.is_empty.Goals as goal

pub returns : goal.returns
returns c = record { is = refl; groups = decides_empty c.args.self }

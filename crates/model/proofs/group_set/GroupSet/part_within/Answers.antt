use Rattle.std.proofs.Common.{refl}
use Rattle.model.proofs.Groups.{has_part}
use Rattle.model.proofs.group_set.GroupSet.part_within.Goals as goal

pub returns : goal.returns
returns c = record { is = refl; groups = has_part c.args.other c.args.self }

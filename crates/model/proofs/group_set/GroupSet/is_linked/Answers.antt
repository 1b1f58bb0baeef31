use Rattle.std.proofs.Common.{refl}
use Rattle.model.proofs.Groups.{decides_linked}
use Rattle.model.proofs.group_set.GroupSet.is_linked.Goals as goal

pub returns : goal.returns
returns c = record { is = refl; shared = decides_linked c.args.self c.args.other }

use Rattle.std.proofs.Common.{refl}
use Rattle.model.proofs.Groups.{has_union}
use Rattle.model.proofs.group_set.GroupSet.union.Goals as goal

pub returns : goal.returns
returns c = record { is = refl; groups = has_union c.args.self c.args.other }

use Rattle.std.proofs.Common.{refl, rules}
use Rattle.model.proofs.Groups.{count_groups}
use Rattle.model.proofs.group_set.GroupSet.count.Goals as goal

pub returns : goal.returns
returns c = record { is = refl; groups = count_groups c.args.self (search rules) }

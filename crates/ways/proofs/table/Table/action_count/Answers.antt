use Rattle.ways.specs.Nets.{net_of}
use Rattle.ways.proofs.Taken.{sent_count}
use Rattle.ways.proofs.table.Table.action_count.Goals as goal

pub returns-in-Broadcast-clause-is : goal.returns-in-Broadcast-clause-is
returns-in-Broadcast-clause-is c = sent_count (net_of c.args.self.now) c.args.state.now _ _ _ _ c.in-Broadcast.is c.combination_count.ensures.is

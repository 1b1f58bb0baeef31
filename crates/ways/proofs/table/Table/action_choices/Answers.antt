use Rattle.ways.specs.Nets.{net_of}
use Rattle.ways.proofs.Taken.{sent_below, sent_nth}
use Rattle.ways.proofs.table.Table.action_choices.Goals as goal

pub combination-requires : goal.combination-requires
combination-requires c = sent_below (net_of c.args.self.now) c.args.state.now _ _ _ _ c.in-Broadcast.is c.requires

pub returns-in-Broadcast : goal.returns-in-Broadcast
returns-in-Broadcast c = sent_nth (net_of c.args.self.now) c.args.state.now _ _ _ _ _ c.in-Broadcast.is c.requires c.combination.ensures

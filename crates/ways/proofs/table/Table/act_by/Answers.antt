use Rattle.ways.specs.Nets.{net_of}
use Rattle.ways.proofs.Taken.{act_below, act_nth}
use Rattle.ways.proofs.table.Table.act_by.Goals as goal

pub action_choices-choices-requires : goal.action_choices-choices-requires
action_choices-choices-requires c = act_below (net_of c.args.self.now) c.args.state.now _ _ c.row.result.now c.row.ensures _ c.requires

pub returns : goal.returns
returns c = act_nth (net_of c.args.self.now) c.args.state.now _ _ c.row.result.now c.row.ensures _ _ c.requires c.action_choices-choices.ensures

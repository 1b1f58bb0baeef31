use Rattle.std.proofs.Common.{map, sym, ◌∙◌}
use Rattle.ways.specs.Nets.{net_of}
use Rattle.ways.specs.Ways.{listener, receivable_rows}
use Rattle.ways.specs.declared.way.Choice.TheVariants.{Take}
use Rattle.ways.proofs.Chosen.{choice_or}
use Rattle.ways.proofs.table.Table.choice.Goals as goal

pub returns : goal.returns
returns c =
    c.unwrap_or.ensures
    ∙ choice_or (listener (net_of c.args.self.now) c.args.state.now c.args.sender c.args.unit) (map Take (receivable_rows (net_of c.args.self.now) c.args.state.now c.args.unit)) c.args.number (sym c.if-not-is_listener.ensures) c.if-number-eq0.false _ c.receiving.ensures

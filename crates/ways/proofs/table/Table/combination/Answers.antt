use Rattle.lists.proofs.Listed.{picking_some, picking_more, picking_all}
use Rattle.ways.specs.Nets.{net_of}
use Rattle.ways.specs.Ways.{choices}
use Rattle.ways.specs.declared.way.Choice.TheVariants.{Stay}
use Rattle.ways.proofs.table.Table.combination.Goals as goal

pub nonzero_div-rest : goal.nonzero_div-rest
nonzero_div-rest c = picking_some Stay (choices (net_of c.args.self.now) c.args.state.now c.args.sender) 6 _ _ _ _ _ _ c.loop-unit.invariant c.loop-unit-test.true c.choice_count-size.ensures.is c.choice_count-size.ensures.some

pub nonzero_rem-rest : goal.nonzero_rem-rest
nonzero_rem-rest c = picking_some Stay (choices (net_of c.args.self.now) c.args.state.now c.args.sender) 6 _ _ _ _ _ _ c.loop-unit.invariant c.loop-unit-test.true c.choice_count-size.ensures.is c.choice_count-size.ensures.some

pub loop-unit-preserved : goal.loop-unit-preserved
loop-unit-preserved c = picking_more Stay (choices (net_of c.args.self.now) c.args.state.now c.args.sender) 6 _ _ _ _ _ _ _ c.loop-unit.invariant c.loop-unit-test.true c.choice_count-size.ensures.is c.choice_count-size.ensures.some c.choice.ensures

pub returns : goal.returns
returns c = picking_all Stay (choices (net_of c.args.self.now) c.args.state.now c.args.sender) 6 _ _ _ _ 0 _ c.loop-unit.invariant c.loop-unit-test.false

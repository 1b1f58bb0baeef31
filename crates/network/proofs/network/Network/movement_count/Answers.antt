use Rattle.std.proofs.Common.{◌≡◌, length, ap, ◌∙◌, arith}
use Rattle.std.specs.List.{range_with_len, flat_map}
use Rattle.ways.specs.Nets.{net_of}
use Rattle.network.specs.Meanings.{movements_of}
use Rattle.network.proofs.Few.{few_of, joined_length, few_joined}
use Rattle.network.proofs.network.Network.movement_count.Goals as goal

pub loop-unit-preserved : goal.loop-unit-preserved
loop-unit-preserved g c =
    let f = movements_of (net_of c.args.self.now.table) (g.R.Rule.allowed c.args.self.now.rule) c.args.state.now in
    let one = c.movement_count_of-count.ensures (omega (arith, c.loop-unit-test.true, c.units-unit-end.ensures.is)) in
    let all = joined_length f c.loop-unit.unit in
    omega (arith, c.loop-unit.invariant, one, all)

pub overflow_add-count : goal.overflow_add-count
overflow_add-count g c =
    let n = net_of c.args.self.now.table in
    let allowed = g.R.Rule.allowed c.args.self.now.rule in
    let one = c.movement_count_of-count.ensures (omega (arith, c.loop-unit-test.true, c.units-unit-end.ensures.is)) in
    let few = few_of n allowed c.args.state.now c.loop-unit.unit in
    let all = few_joined n allowed c.args.state.now c.loop-unit.unit in
    omega (arith, c.loop-unit.invariant, one, few, all, c.loop-unit-test.true, c.units-unit-end.ensures.is, c.args.self.now.table.most)

pub returns-clause-few : goal.returns-clause-few
returns-clause-few g c =
    let all = few_joined (net_of c.args.self.now.table) (g.R.Rule.allowed c.args.self.now.rule) c.args.state.now c.loop-unit.unit in
    omega (arith, c.loop-unit.invariant, all, c.loop-unit.auto.unit-end, c.units-unit-end.ensures.is, c.args.self.now.table.most)

pub returns-clause-is : goal.returns-clause-is
returns-clause-is g c =
    let f = movements_of (net_of c.args.self.now.table) (g.R.Rule.allowed c.args.self.now.rule) c.args.state.now in
    let all : c.loop-unit.unit ≡ c.args.self.now.table.units = omega (arith, c.loop-unit-test.false, c.loop-unit.auto.unit-end, c.units-unit-end.ensures.is) in
    c.loop-unit.invariant ∙ ap (λ m. length (flat_map f (range_with_len 0 m))) all

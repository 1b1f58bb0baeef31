use Rattle.std.proofs.Common.{◌≡◌, ◌++◌, map, vec_items, ap, ◌∙◌, arith, w8, to_z, of_z}
use Rattle.std.specs.List.{range_with_len, flat_map}
use Rattle.std.proofs.lemmas.Int.{to_z-of_z}
use Rattle.std.proofs.lemmas.Result.{IfOk-at_ok}
use Rattle.lists.proofs.Adding.{mapping_more}
use Rattle.ways.specs.Nets.{net_of}
use Rattle.ways.specs.Landings.{listed_of}
use Rattle.network.specs.Meanings.{movements_of}
use Rattle.lists.proofs.Extending.{err_extends, extends_then}
use Rattle.network.proofs.network.Network.add_movements.Goals as goal

pub loop-unit-preserved : goal.loop-unit-preserved
loop-unit-preserved g c =
    let n = net_of c.args.self.now.table in
    mapping_more (listed_of n c.args.state.now (to_z w8 (of_z w8 c.args.value))) (movements_of n (g.R.Rule.allowed c.args.self.now.rule) c.args.state.now) _ _ _ c.loop-unit.invariant _ (IfOk-at_ok _ c.in_ok-add_movements_of.was c.add_movements_of.ensures.adds)

pub returns-clause-adds : goal.returns-clause-adds
returns-clause-adds g c =
    let n = net_of c.args.self.now.table in
    let same = to_z-of_z w8 c.args.value c.ranges.value in
    let all : c.loop-unit.unit ≡ c.args.self.now.table.units = omega (arith, c.loop-unit-test.false, c.loop-unit.auto.unit-end, c.units-unit-end.ensures.is) in
    (rw same at c.loop-unit.invariant) ∙ ap (λ m. vec_items c.args.steps.now ++ map (listed_of n c.args.state.now c.args.value) (flat_map (movements_of n (g.R.Rule.allowed c.args.self.now.rule) c.args.state.now) (range_with_len 0 m))) all

pub returns-in_err-add_movements_of-clause-begins : goal.returns-in_err-add_movements_of-clause-begins
returns-in_err-add_movements_of-clause-begins g c = err_extends _ _ _ (extends_then _ _ _ (_, c.loop-unit.invariant) c.in_err-add_movements_of.ensures.begins)

use Rattle.std.proofs.Common.{◌≡◌, ◌++◌, map, vec_items, ap, ◌∙◌, arith}
use Rattle.std.specs.List.{range_with_len, flat_map}
use Rattle.std.proofs.lemmas.List.{map-append}
use Rattle.std.proofs.lemmas.Result.{IfOk-at_ok}
use Rattle.lists.proofs.Adding.{adding_more}
use Rattle.ways.specs.Nets.{net_of}
use Rattle.ways.specs.Receivings.{received_by, receivings_of, receivings}
use Rattle.ways.proofs.Received.{receivings_are}
use Rattle.lists.proofs.Extending.{err_extends, extends_then}
use Rattle.ways.proofs.table.Table.add_receivings_in_turn.Goals as goal

pub loop-unit-preserved : goal.loop-unit-preserved
loop-unit-preserved c =
    adding_more (receivings_of (net_of c.args.self.now) c.args.state.now) _ _ _ c.loop-unit.invariant _ (IfOk-at_ok _ c.in_ok-add_receivings_of.was c.add_receivings_of.ensures.adds)

pub returns-clause-adds : goal.returns-clause-adds
returns-clause-adds c =
    let n = net_of c.args.self.now in
    let all : c.loop-unit.unit ≡ c.args.self.now.units = omega (arith, c.loop-unit-test.false, c.loop-unit.auto.unit-end) in
    c.loop-unit.invariant ∙ ap (λ m. vec_items c.args.found.now ++ flat_map (receivings_of n c.args.state.now) (range_with_len 0 m)) all

pub returns-in_err-add_receivings_of-clause-begins : goal.returns-in_err-add_receivings_of-clause-begins
returns-in_err-add_receivings_of-clause-begins c = err_extends _ _ _ (extends_then _ _ _ (_, c.loop-unit.invariant) c.in_err-add_receivings_of.ensures.begins)

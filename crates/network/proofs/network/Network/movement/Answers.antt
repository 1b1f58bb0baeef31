use Rattle.std.proofs.Common.{◌<◌, length, sym, ap, ◌∙◌, rules, arith}
use Rattle.std.specs.List.{range_with_len, flat_map, slice_get}
use Rattle.lists.proofs.LaidOut.{in_block, past_blocks}
use Rattle.ways.specs.Nets.{net_of}
use Rattle.network.specs.Meanings.{movements_of}
use Rattle.network.proofs.network.Network.movement.Goals as goal

pub movement_of-requires-clause-unit : goal.movement_of-requires-clause-unit
movement_of-requires-clause-unit g c =
    let f = movements_of (net_of c.args.self.now.table) (g.R.Rule.allowed c.args.self.now.rule) c.args.state.now in
    let p = c.in_ok-unit.ensures (λ k. length (f k)) (λ k r h q. let within : k < c.args.self.now.table.units = omega (arith, h, c.units-units.ensures.is) in search rules) in
    omega (arith, p.0, c.units-units.ensures.is)

pub returns-in_err-unit : goal.returns-in_err-unit
returns-in_err-unit g c =
    let f = movements_of (net_of c.args.self.now.table) (g.R.Rule.allowed c.args.self.now.rule) c.args.state.now in
    let past = past_blocks f _ c.args.number (c.in_err-unit.ensures (λ k. length (f k)) (λ k r h q. let within : k < c.args.self.now.table.units = omega (arith, h, c.units-units.ensures.is) in search rules)) in
    c.from_residual.ensures ∙ sym past ∙ ap (λ m. slice_get (flat_map f (range_with_len 0 m)) c.args.number) c.units-units.ensures.is

pub returns : goal.returns
returns g c =
    let f = movements_of (net_of c.args.self.now.table) (g.R.Rule.allowed c.args.self.now.rule) c.args.state.now in
    let p = c.in_ok-unit.ensures (λ k. length (f k)) (λ k r h q. let within : k < c.args.self.now.table.units = omega (arith, h, c.units-units.ensures.is) in search rules) in
    c.movement_of.ensures ∙ sym (in_block f _ c.args.number c.in_ok-unit.unit c.in_ok-unit.left p.0 p.1 p.2) ∙ ap (λ m. slice_get (flat_map f (range_with_len 0 m)) c.args.number) c.units-units.ensures.is

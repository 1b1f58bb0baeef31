use Rattle.std.proofs.Common.{◌<◌, length, set, ap, ◌∙◌, arith}
use Rattle.model.specs.Placements.{sets_of}
use Rattle.ways.specs.Nets.{net_of}
use Rattle.network.proofs.Placed.{units_placed, placed_moved, lawful_allowed}
use Rattle.network.proofs.network.Network.allows_with.Goals as goal

pub returns : goal.returns
returns g c =
    let n = net_of c.args.self.now.table in
    let s = c.args.state.now in
    let allowed = g.R.Rule.allowed c.args.self.now.rule in
    let sets = sets_of c.args.placement.now in
    λ within.
    let there : c.args.unit < length sets = omega (arith, within, ap length c.requires.placed, units_placed n s) in
    c.allows_change.ensures
    ∙ g.met.R.Rule.follows c.args.self.now.rule sets c.args.unit c.args.set (ap allowed c.requires.placed ∙ lawful_allowed n allowed s c.requires.lawful) there
    ∙ ap allowed (ap (λ gs. set gs c.args.unit c.args.set) c.requires.placed ∙ placed_moved n s c.args.unit c.args.set c.args.self.now.table.most)

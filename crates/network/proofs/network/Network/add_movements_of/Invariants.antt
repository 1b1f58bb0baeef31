use Rattle.std.proofs.Common.{◌≡◌, ◌++◌, map, filter, take, vec_items}
use Rattle.ways.specs.Nets.{net_of}
use Rattle.ways.specs.Landings.{listed_of}
use Rattle.ways.specs.declared.way.Way.TheVariants.{Move}
use Rattle.network.specs.Meanings.{may_move, set_of}
use Rattle.network.proofs.network.Network.add_movements_of.Given as goal

abbrev pub invariant-loop-bits : goal.invariant-loop-bits
invariant-loop-bits g l =
    let n = net_of l.self.table in
    vec_items l.steps ≡ vec_items l.fn.steps ++ map (λ b. listed_of n l.state l.value (Move l.unit (set_of b))) (filter (λ b. may_move n (g.R.Rule.allowed l.self.rule) l.state l.unit (set_of b)) (take l.bits-index l.bits-items))

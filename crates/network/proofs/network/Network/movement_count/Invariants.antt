use Rattle.std.proofs.Common.{◌≡◌, length}
use Rattle.std.specs.List.{range_with_len, flat_map}
use Rattle.ways.specs.Nets.{net_of}
use Rattle.network.specs.Meanings.{movements_of}
use Rattle.network.proofs.network.Network.movement_count.Given as goal

abbrev pub invariant-loop-unit : goal.invariant-loop-unit
invariant-loop-unit g l = l.count ≡ length (flat_map (movements_of (net_of l.self.table) (g.R.Rule.allowed l.self.rule) l.state) (range_with_len 0 l.unit))

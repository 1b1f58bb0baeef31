use Rattle.std.proofs.Common.{◌≡◌, ◌++◌, map, vec_items}
use Rattle.std.specs.List.{range_with_len, flat_map}
use Rattle.ways.specs.Nets.{net_of}
use Rattle.ways.specs.Ways.{acts_of}
use Rattle.ways.specs.Landings.{listed_of}
use Rattle.ways.proofs.table.Table.add_acts_in_turn.Given as goal

abbrev pub invariant-loop-unit : goal.invariant-loop-unit
invariant-loop-unit l = vec_items l.steps ≡ vec_items l.fn.steps ++ map (listed_of (net_of l.self) l.state l.value) (flat_map (acts_of (net_of l.self) l.state) (range_with_len 0 l.unit))

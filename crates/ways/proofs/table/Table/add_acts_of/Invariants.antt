use Rattle.std.proofs.Common.{◌≡◌, ◌++◌, map, vec_items}
use Rattle.std.specs.List.{range_with_len, flat_map}
use Rattle.ways.specs.Nets.{net_of}
use Rattle.ways.specs.Ways.{acts_by}
use Rattle.ways.specs.Landings.{listed_of}
use Rattle.ways.proofs.table.Table.add_acts_of.Given as goal

abbrev pub invariant-loop-row : goal.invariant-loop-row
invariant-loop-row l = vec_items l.steps ≡ vec_items l.fn.steps ++ map (listed_of (net_of l.self) l.state l.value) (flat_map (acts_by (net_of l.self) l.state l.unit) (range_with_len 0 l.row))

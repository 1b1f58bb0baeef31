use Rattle.std.proofs.Common.{◌≡◌, ◌++◌, vec_items}
use Rattle.std.specs.List.{range_with_len, flat_map}
use Rattle.ways.specs.Nets.{net_of}
use Rattle.ways.specs.Receivings.{receivings_of}
use Rattle.ways.proofs.table.Table.add_receivings_in_turn.Given as goal

abbrev pub invariant-loop-unit : goal.invariant-loop-unit
invariant-loop-unit l = vec_items l.found ≡ vec_items l.fn.found ++ flat_map (receivings_of (net_of l.self) l.state) (range_with_len 0 l.unit)

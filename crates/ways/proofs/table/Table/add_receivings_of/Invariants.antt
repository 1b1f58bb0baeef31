use Rattle.std.proofs.Common.{◌≡◌, ◌++◌, map, filter, vec_items}
use Rattle.std.specs.List.{range_with_len}
use Rattle.ways.specs.Nets.{net_of}
use Rattle.ways.specs.Ways.{receivable_at}
use Rattle.ways.proofs.table.Table.add_receivings_of.Given as goal

abbrev pub invariant-loop-row : goal.invariant-loop-row
invariant-loop-row l = vec_items l.found ≡ vec_items l.fn.found ++ map (λ k. record { unit = l.unit; row = k }) (filter (receivable_at (net_of l.self) l.state l.unit) (range_with_len 0 l.row))

use Rattle.std.proofs.Common.{◌≡◌, ◌++◌, map, filter, drop, vec_items}
use Rattle.std.specs.List.{range_with_len, flat_map}
use Rattle.ways.specs.Nets.{net_of, unit_at}
use Rattle.ways.specs.Ways.{receivable_at}
use Rattle.ways.specs.Landings.{chosen}
use Rattle.ways.specs.Copies.{placing}
use Rattle.ways.specs.declared.way.Choice.TheVariants.{Take}
use Rattle.ways.proofs.table.Table.add_chosen.Given as goal

abbrev pub invariant-loop-row : goal.invariant-loop-row
invariant-loop-row l =
    vec_items l.steps
    ≡ vec_items l.initial.steps
    ++ flat_map (λ c. map (placing l.slot (chosen (net_of l.self) (unit_at l.state l.slot) c l.sent)) (drop l.from (vec_items l.initial.steps))) (map Take (filter (receivable_at (net_of l.self) l.state l.slot) (range_with_len 0 l.row)))

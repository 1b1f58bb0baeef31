-- The receives among the steps in which units take rows.
use Rattle.std.specs.Prelude.{ℕ, cond, List, [], map}
use Rattle.std.specs.List.{range_with_len, flat_map}
use Rattle.model.specs.GroupSets.{empty}
use Rattle.model.specs.declared.state.State.{State}
use Rattle.systems.specs.Meaning.{Step}
use Rattle.ways.specs.declared.receiving.Receiving.{Receiving}
use Rattle.ways.specs.declared.way.Way.TheVariants.{Act}
use Rattle.ways.specs.Nets.{Net, unit_at, free_part}
use Rattle.ways.specs.Ways.{receivable_rows, all_stay}
use Rattle.ways.specs.Landings.{step_of}

-- the step in which the unit takes the row, and the others stay
abbrev pub received_by : Net → State → Receiving → Step
received_by n s r = step_of n s (Act r.unit r.row all_stay)

-- the rows that the unit u can take to receive from outside
abbrev pub receivings_of : Net → State → ℕ → List Receiving
receivings_of n s u = cond (empty (free_part n (unit_at s u))) [] (map (λ k. record { unit = u; row = k }) (receivable_rows n s u))

abbrev pub receivings : Net → State → List Receiving
receivings n s = flat_map (receivings_of n s) (range_with_len 0 n.units)

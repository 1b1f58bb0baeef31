-- The ways in which units take rows, in the order of the list of steps.
use Rattle.std.specs.Prelude.{ℕ, Bool, cond, not, ◌&&◌, List, [], ◌∷◌, map, length, replicate, filter, ◌==◌, nat_lt}
use Rattle.std.specs.List.{range_with_len, flat_map}
use Rattle.lists.specs.Products.{product}
use Rattle.model.specs.GroupSets.{linked, empty}
use Rattle.model.specs.declared.state.State.{State}
use Rattle.rows.specs.Units.{enabled, receivable}
use Rattle.rows.specs.declared.row.Action.{Action}
use Rattle.rows.specs.declared.row.Action.TheVariants.{Silent, Broadcast, Receive}
use Rattle.ways.specs.declared.way.Choice.{Choice}
use Rattle.ways.specs.declared.way.Choice.TheVariants.{Stay, Take}
use Rattle.ways.specs.declared.way.Way.{Way}
use Rattle.ways.specs.declared.way.Way.TheVariants.{Act}
use Rattle.ways.specs.Nets.{Net, unit_at, row_at, free_part}

abbrev pub receivable_at : Net → State → ℕ → ℕ → Bool
receivable_at n s j k = receivable (unit_at s j) (row_at n k)

-- the numbers of the rows that the unit j can take to receive, in order
abbrev pub receivable_rows : Net → State → ℕ → List ℕ
receivable_rows n s j = filter (receivable_at n s j) (range_with_len 0 (length n.rows))

-- the unit j is another unit than the sender u, and linked to it
abbrev pub listener : Net → State → ℕ → ℕ → Bool
listener n s u j = nat_lt j n.units && (not (j == u) && linked (unit_at s u).groups (unit_at s j).groups)

-- the choices of the unit j while u broadcasts: to stay and, for a listener, to take a receivable row
abbrev pub choices : Net → State → ℕ → ℕ → List Choice
choices n s u j = Stay ∷ cond (listener n s u j) (map Take (receivable_rows n s j)) []

abbrev pub all_stay : List Choice
all_stay = replicate 6 Stay

-- what the six slots choose, in all combinations, while the unit u takes a row with this action: the lowest unit slowest
abbrev pub combinations : Net → State → ℕ → Action → List (List Choice)
combinations n s u Silent = all_stay ∷ []
combinations n s u (Broadcast o) = product (map (choices n s u) (range_with_len 0 6))
combinations n s u (Receive x) = cond (empty (free_part n (unit_at s u))) [] (all_stay ∷ [])

-- the ways in which u takes the row k, if it is enabled
abbrev pub acts_by : Net → State → ℕ → ℕ → List Way
acts_by n s u k = cond (enabled (unit_at s u) (row_at n k)) (map (Act u k) (combinations n s u (row_at n k).action)) []

abbrev pub acts_of : Net → State → ℕ → List Way
acts_of n s u = flat_map (acts_by n s u) (range_with_len 0 (length n.rows))

abbrev pub acts : Net → State → List Way
acts n s = flat_map (acts_of n s) (range_with_len 0 n.units)

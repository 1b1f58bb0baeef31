-- What a network means: its lawful states, the sets they show, and their steps.
use Rattle.std.specs.Prelude.{◌≡◌, ℕ, ◌<◌, ◌≤◌, Bool, true, cond, not, ◌&&◌, Decides, List, [], ◌++◌, map, take, ℤ, pos, ◌≤ℤ◌, fold, filter, ◌==◌, nat_le, nat_lt}
use Rattle.std.specs.List.{range_with_len, flat_map}
use Rattle.lists.specs.Words.{every}
use Rattle.model.specs.Bytes.{zero_unit}
use Rattle.model.specs.GroupSets.{has, part, union_of}
use Rattle.model.specs.Ranges.{in_range}
use Rattle.model.specs.declared.group_set.GroupSet.{GroupSet}
use Rattle.model.specs.declared.state.State.{State}
use Rattle.model.specs.declared.unit_state.UnitState.{UnitState}
use Rattle.systems.specs.Meaning.{Meaning}
use Rattle.model.specs.Alike.{same_value}
use Rattle.ways.specs.declared.way.Way.{Way}
use Rattle.ways.specs.declared.way.Way.TheVariants.{Move}
use Rattle.ways.specs.Nets.{Net, unit_at, free_part}
use Rattle.ways.specs.Ways.{acts}
use Rattle.ways.specs.Landings.{moved, placed, step_of}

abbrev pub set_of : ℕ → GroupSet
set_of b = record { bits = b }

-- the unit u can change to the set g: another one with the same free part, and the new placement is allowed
abbrev pub may_move : Net → (List GroupSet → Bool) → State → ℕ → GroupSet → Bool
may_move n allowed s u g =
    not (g.bits == (unit_at s u).groups.bits) && ((part n.free g).bits == (free_part n (unit_at s u)).bits && allowed (placed n (moved s u g)))

-- the numbers of the sets
unfoldable pub set_numbers : List ℕ
set_numbers = range_with_len 0 256

-- the movements of the unit u, by the number of the set
abbrev pub movements_of : Net → (List GroupSet → Bool) → State → ℕ → List Way
movements_of n allowed s u = map (λ b. Move u (set_of b)) (filter (λ b. may_move n allowed s u (set_of b)) set_numbers)

abbrev pub movements : Net → (List GroupSet → Bool) → State → List Way
movements n allowed s = flat_map (movements_of n allowed s) (range_with_len 0 n.units)

-- the movements, then the rows
abbrev pub ways : Net → (List GroupSet → Bool) → State → List Way
ways n allowed s = movements n allowed s ++ acts n s

-- a slot that holds a unit, and one that is past the last unit
abbrev pub unit_in_range : Net → UnitState → Bool
unit_in_range n x = nat_le x.location 63 && (in_range n.lo n.hi x.first && in_range n.lo n.hi x.second)

abbrev pub zero_bytes : UnitState → Bool
zero_bytes x = x.location == 0 && (same_value x.first (pos 0) && (same_value x.second (pos 0) && x.groups.bits == 0))

abbrev pub slot_lawful : Net → State → ℕ → Bool
slot_lawful n s j = cond (nat_lt j n.units) (unit_in_range n (unit_at s j)) (zero_bytes (unit_at s j))

-- every slot is as it should be, and the placement is allowed
abbrev pub lawful : Net → (List GroupSet → Bool) → State → Bool
lawful n allowed s = every (slot_lawful n s) (range_with_len 0 6) && allowed (placed n s)

-- the value v lies between lo and hi
abbrev pub Between : ℤ → ℤ → ℤ → Type 0
Between lo hi v = (lo ≤ℤ v) × (v ≤ℤ hi)

-- a lawful state, in words: each unit is at a location from 0 to 63 and has its registers in range, the slots past the last
-- unit hold zero bytes, and the rule allows the placement
pub record Lawful (n : Net) (allowed : List GroupSet → Bool) (s : State) : Type 0 where
  pub located : (j : ℕ) → j < n.units → (unit_at s j).location ≤ 63
  pub first_kept : (j : ℕ) → j < n.units → Between n.lo n.hi (unit_at s j).first
  pub second_kept : (j : ℕ) → j < n.units → Between n.lo n.hi (unit_at s j).second
  pub spare : (j : ℕ) → n.units ≤ j → j < 6 → unit_at s j ≡ zero_unit
  pub placement : allowed (placed n s) ≡ true

-- the free part of the union of the units' sets
abbrev pub union_shown : Net → State → GroupSet
union_shown n s = part n.free (fold (λ g x. union_of g x.groups) (set_of 0) (take n.units s.units))

-- a group is in the set exactly if it is free and some unit sits on it
abbrev pub Shows : Net → State → GroupSet → Type 0
Shows n s g = (k : ℕ) → Decides (has g k) ((has n.free k ≡ true) × (j : ℕ) × (j < n.units) × (has (unit_at s j).groups k ≡ true))

-- the ways of a lawful state; any other state has none
abbrev pub lawful_ways : Net → (List GroupSet → Bool) → State → List Way
lawful_ways n allowed s = cond (lawful n allowed s) (ways n allowed s) []

abbrev pub network_meaning : Net → (List GroupSet → Bool) → Meaning
network_meaning n allowed =
    record {
      lo = n.lo;
      hi = n.hi;
      lawful = lawful n allowed;
      shown = λ s. cond (lawful n allowed s) (union_shown n s) (set_of 0);
      steps = λ s. map (step_of n s) (lawful_ways n allowed s);
    }

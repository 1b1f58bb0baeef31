-- The states of a sheet, by their bytes.
use Rattle.std.specs.Prelude.{ℕ, Bool, List, ◌∷◌, drop, replicate, nat_eq, slice_index}
use Rattle.lists.specs.Words.{every}
use Rattle.model.specs.Bytes.{state_of, state_bytes}
use Rattle.model.specs.declared.state.State.{State}

abbrev pub zeros : List ℕ → Bool
zeros bytes = every (λ b. nat_eq b 0) bytes

-- a lawful state has any first byte, and then zeros
abbrev pub sheet_lawful : State → Bool
sheet_lawful s = zeros (drop 1 (state_bytes s))

-- its first byte is its number
abbrev pub number_of : State → ℕ
number_of s = slice_index (state_bytes s) 0

-- the state with the number n
abbrev pub state_at : ℕ → State
state_at n = state_of (n ∷ replicate 23 0)

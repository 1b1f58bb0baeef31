-- What a system means, and what every system keeps.
use Rattle.std.specs.Prelude.{◌≡◌, ℕ, Bool, true, false, cond, List, [], ℤ, ◌≤ℤ◌, None, Option}
use Rattle.std.specs.List.{slice_get}
use Rattle.lists.specs.Words.{through, Stands}
use Rattle.model.specs.Ranges.{in_range}
use Rattle.model.specs.declared.group_set.GroupSet.{GroupSet}
use Rattle.model.specs.declared.label.Label.{Label}
use Rattle.model.specs.declared.label.Label.TheVariants.{Silent, Movement, Broadcast, Receive}
use Rattle.model.specs.declared.state.State.{State}

-- a step: what is seen of it, and where it lands for each value
pub record Step : Type 0 where
  pub label : Label
  pub landing : ℤ → State

pub record Meaning : Type 0 where
  pub lo : ℤ
  pub hi : ℤ
  pub lawful : State → Bool
  pub shown : State → GroupSet
  pub steps : State → List Step

-- the value v is in the range of m
abbrev pub in_range_of : Meaning → ℤ → Bool
in_range_of m v = in_range m.lo m.hi v

abbrev pub receives : Label → Bool
receives Silent = false
receives Movement = false
receives (Broadcast g w) = false
receives (Receive g) = true

-- what every system keeps: its range is ordered, an unlawful state has no steps and shows nothing, and only a receive may
-- land differently by value
pub record Keeps (m : Meaning) : Type 0 where
  pub ordered : m.lo ≤ℤ m.hi
  pub no_steps : (s : State) → m.lawful s ≡ false → m.steps s ≡ []
  pub nothing_shown : (s : State) → m.lawful s ≡ false → m.shown s ≡ record { bits = 0 }
  pub steady : (s : State) (i : ℕ) (x : Step) → Stands (m.steps s) x i → receives x.label ≡ false → (v w : ℤ) → in_range_of m v ≡ true → in_range_of m w ≡ true → x.landing v ≡ x.landing w

-- the label of the step i; a number past the list has none
abbrev pub label_at : Meaning → State → ℕ → Option Label
label_at m s i = through (λ x. x.label) (slice_get (m.steps s) i)

-- the landing of the step i at the value v; there is none past the list, nor at a value out of range
abbrev pub landing_at : Meaning → State → ℕ → ℤ → Option State
landing_at m s i v = cond (in_range_of m v) (through (λ x. x.landing v) (slice_get (m.steps s) i)) None

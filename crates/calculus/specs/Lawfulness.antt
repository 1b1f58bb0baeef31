-- A step from a lawful state lands in lawful states.
use Rattle.std.specs.Prelude.{◌≡◌, ℕ, true, ℤ}
use Rattle.lists.specs.Words.{Stands}
use Rattle.model.specs.declared.state.State.{State}
use Rattle.systems.specs.Meaning.{Meaning, Step, in_range_of}

-- whatever the step, and for every value in range
abbrev pub LandsLawfully : Meaning → Type 0
LandsLawfully m = (s : State) → m.lawful s ≡ true → (i : ℕ) (x : Step) → Stands (m.steps s) x i → (v : ℤ) → in_range_of m v ≡ true → m.lawful (x.landing v) ≡ true

-- The steps of a state as a list of plain values, and the receives among steps.
use Rattle.std.specs.Prelude.{List, map, filter, ℤ}
use Rattle.lists.specs.Words.{given}
use Rattle.model.specs.declared.state.State.{State}
use Rattle.systems.specs.declared.listed.Listed.{Listed}
use Rattle.systems.specs.Meaning.{Meaning, Step, in_range_of, receives}

-- a step with its label, and its landing at the value v
abbrev pub listed_at : Meaning → ℤ → Step → Listed
listed_at m v x = record { label = x.label; landing = given (in_range_of m v) (x.landing v) }

abbrev pub listing : Meaning → State → ℤ → List Listed
listing m s v = map (listed_at m v) (m.steps s)

-- the receives among the steps
abbrev pub receives_in : List Step → List Step
receives_in xs = filter (λ x. receives x.label) xs

-- What a worked example asks and what must come out, by the definitions that the contracts cite.
use Rattle.std.specs.Prelude.{◌≡◌, ℕ, List, [], ◌∷◌, length, replicate, ℤ, pos, negsuc, Some, None, Ok, Err, Option, Result}
use Rattle.questions.specs.Asking.{first_no}
use Rattle.questions.specs.declared.Refusal.{Refusal}
use Rattle.model.specs.Bytes.{zero_unit}
use Rattle.model.specs.declared.label.Label.{Label}
use Rattle.model.specs.declared.label.Label.TheVariants.{Movement}
use Rattle.model.specs.declared.state.Pair.{Pair}
use Rattle.model.specs.declared.state.State.{State}
use Rattle.model.specs.declared.unit_state.UnitState.{UnitState}
use Rattle.rules.specs.Tuners.{tuned_to}
use Rattle.systems.specs.Meaning.{Meaning, Step}
use Rattle.sheet.specs.Meaning.{bytes_meaning}
use Rattle.network.specs.Loads.{net_in}
use Rattle.network.specs.Meanings.{network_meaning}
use Rattle.judge.specs.Comparing.{comparing}
use Rattle.judge.specs.Judged.{judge_asked}

-- the network of these rows' bytes, over the range -2 to 2 and with the free group 0, under a tuner
abbrev pub network : ℕ → ℕ → List ℕ → Meaning
network units limit rows = network_meaning (net_in (negsuc 1) (pos 2) (record { bits = 1 }) units rows) (tuned_to limit)

-- the sheet of these rows' bytes, over the range -2 to 2 and with the channel set {0}
abbrev pub sheet : List ℕ → Meaning
sheet rows = bytes_meaning (negsuc 1) (pos 2) (record { bits = 1 }) rows

-- a question of the table: all steps of a state, or the verdict on a relation
pub data Asked : Type 0 where
  steps_of : Meaning → State → Asked
  verdict_on : Meaning → Meaning → List Pair → Asked

-- its answer: each step with its label and its landing as a function of the value; or the count of an accepted relation, and
-- else the first no
pub data Answer : Type 0 where
  steps : List Step → Answer
  verdict : Result ℕ Refusal → Answer

abbrev pub count_or : ℕ → Option Refusal → Result ℕ Refusal
count_or count None = Ok count
count_or count (Some r) = Err r

abbrev pub answer : Asked → Answer
answer (steps_of m s) = steps (m.steps s)
answer (verdict_on m n rel) = verdict (count_or (length rel) (first_no (judge_asked (comparing m n rel))))

pub record Entry : Type 0 where
  pub asked : Asked
  pub must_be : Answer

abbrev pub Holds : Entry → Type 0
Holds e = answer e.asked ≡ e.must_be

abbrev pub lists : Meaning → State → List Step → Entry
lists m s xs = record { asked = steps_of m s; must_be = steps xs }

abbrev pub judged : Meaning → Meaning → List Pair → Result ℕ Refusal → Entry
judged m n rel r = record { asked = verdict_on m n rel; must_be = verdict r }

-- a unit: location, registers and the number of its set
abbrev pub unit : ℕ → ℤ → ℤ → ℕ → UnitState
unit l a b g = record { location = l; first = a; second = b; groups = record { bits = g } }

abbrev pub one : UnitState → State
one x = record { units = x ∷ replicate 5 zero_unit }

abbrev pub two : UnitState → UnitState → State
two x y = record { units = x ∷ y ∷ replicate 4 zero_unit }

abbrev pub leads : Label → (ℤ → State) → Step
leads l f = record { label = l; landing = f }

-- a run of movements, one to each of these sets, and then the other steps
abbrev pub moves : (ℕ → State) → List ℕ → List Step → List Step
moves f [] xs = xs
moves f (g ∷ gs) xs = leads Movement (λ v. f g) ∷ moves f gs xs

abbrev pub pair : State → State → Pair
pair s t = record { left = s; right = t }

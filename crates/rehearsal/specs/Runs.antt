-- Runs of a system, and what it means that the runs of one system are matched by runs of another.
use Rattle.std.specs.Prelude.{◌≡◌, ℕ, true, List, [], ◌∷◌, ℤ}
use Rattle.lists.specs.Words.{Stands}
use Rattle.questions.specs.declared.Side.{Side}
use Rattle.model.specs.declared.label.Label.{Label}
use Rattle.model.specs.declared.state.State.{State}
use Rattle.systems.specs.Meaning.{Meaning, Step, in_range_of}
use Rattle.judge.specs.Comparing.{Compared, opposed, pair_from, system_on}
use Rattle.judge.specs.Likeness.{Holds}

-- a run from the state s: it stops, or it takes the step i of s with a value in range, and goes on from where that lands
pub data Run (m : Meaning) : State → Type 0 where
  stops : {s : State} → Run m s
  goes : {s : State} (i : ℕ) (v : ℤ) (x : Step) → Stands (m.steps s) x i → in_range_of m v ≡ true → Run m (x.landing v) → Run m s

-- what is seen of a step of a run
pub record Event : Type 0 where
  pub label : Label
  pub value : ℤ

-- what is seen of a run, in order
abbrev pub events : {m : Meaning} {s : State} → Run m s → List Event
events stops = []
events (goes i v x at within rest) = record { label = x.label; value = v } ∷ events rest

-- its states, at the start and after each step
abbrev pub states : {m : Meaning} {s : State} → Run m s → List State
states {s = s} stops = s ∷ []
states {s = s} (goes i v x at within rest) = s ∷ states rest

-- R holds of the elements of two lists, one by one, and the lists are equally long
abbrev pub Pairwise : {X Y : Type 0} → (X → Y → Type 0) → List X → List Y → Type 0
Pairwise R [] [] = Unit {0}
Pairwise R [] (y ∷ ys) = ⊥
Pairwise R (x ∷ xs) [] = ⊥
Pairwise R (x ∷ xs) (y ∷ ys) = R x y × Pairwise R xs ys

-- a state on the side and a state on the opposite side are a pair of the relation, and show the same set
pub record Paired (c : Compared) (side : Side) (own other : State) : Type 0 where
  pub held : Holds c.relation (pair_from side own other)
  pub same_shown : (system_on side c).shown own ≡ (system_on (opposed side) c).shown other

-- a run on the side, from s, is matched by one on the opposite side, from t: with the same labels and values in order, and with
-- paired states at the start and after each step
pub record RunMatched (c : Compared) (side : Side) (s t : State) (run : Run (system_on side c) s) : Type 0 where
  pub other : Run (system_on (opposed side) c) t
  pub same_events : events other ≡ events run
  pub paired : Pairwise (Paired c side) (states run) (states other)

-- every run of either system, from a pair of the relation, is matched
abbrev pub RunsMatched : Compared → Type 0
RunsMatched c = (side : Side) (s t : State) → Holds c.relation (pair_from side s t) → (run : Run (system_on side c) s) → RunMatched c side s t run

-- Replies and late strong bisimulations.
use Rattle.std.specs.Prelude.{◌≡◌, ℕ, ◌<◌, ◌≤◌, true, List, length, ℤ, Some}
use Rattle.lists.specs.Words.{Stands}
use Rattle.questions.specs.declared.Side.{Side}
use Rattle.model.specs.declared.state.Pair.{Pair}
use Rattle.model.specs.declared.state.State.{State}
use Rattle.systems.specs.Meaning.{Step, in_range_of}
use Rattle.systems.specs.declared.listed.Listed.{Listed}
use Rattle.judge.specs.Comparing.{Compared, OneRange, opposed, pair_from, state_on, steps_on, landing_on, listing_on}

-- the relation has the record p
abbrev pub Holds : List Pair → Pair → Type 0
Holds rel p = (k : ℕ) × Stands rel p k

-- for every value in range the landings of the two steps, of which x is on the side, form a record of the relation
abbrev pub Lands : Compared → Side → Step → Step → Type 0
Lands c side x y = (v : ℤ) → in_range_of c.left v ≡ true → Holds c.relation (pair_from side (x.landing v) (y.landing v))

-- between systems of one range: the step j of the pair's state on the opposite side is a reply to the step i of its state
-- on the side. It is fixed before the value is known.
pub record Reply (c : Compared) (side : Side) (p : Pair) (i j : ℕ) : Type 0 where
  pub one_range : OneRange c
  pub asked : Step
  pub given : Step
  pub asked_at : Stands (steps_on side c p) asked i
  pub given_at : Stands (steps_on (opposed side) c p) given j
  pub one_label : asked.label ≡ given.label
  pub lands : Lands c side asked given

-- the step i has a reply
abbrev pub Answered : Compared → Side → Pair → ℕ → Type 0
Answered c side p i = (j : ℕ) × Reply c side p i j

-- both states of the pair are lawful and show equal sets, and each step of either has a reply
pub record Matched (c : Compared) (p : Pair) : Type 0 where
  pub left_lawful : c.left.lawful p.left ≡ true
  pub right_lawful : c.right.lawful p.right ≡ true
  pub same_shown : c.left.shown p.left ≡ c.right.shown p.right
  pub answered : (side : Side) (i : ℕ) → i < length (steps_on side c p) → Answered c side p i

-- the relation is a late strong bisimulation between the systems
pub record Bisimulation (c : Compared) : Type 0 where
  pub one_range : OneRange c
  pub few : length c.relation ≤ 4096
  pub each : (k : ℕ) (p : Pair) → Stands c.relation p k → Matched c p

-- by step number: the steps i and j both land at the value v, and their landings form a record of the relation
pub record LandsAt (c : Compared) (side : Side) (p : Pair) (i j : ℕ) (v : ℤ) : Type 0 where
  pub own : State
  pub other : State
  pub own_at : landing_on side c p i v ≡ Some own
  pub other_at : landing_on (opposed side) c p j v ≡ Some other
  pub held : Holds c.relation (pair_from side own other)

-- by record number: the record k holds the landing of the step y, as it is listed at the value u, and a step of the opposite
-- list with the label of y lands on the record's other state
pub record SeenAt (c : Compared) (side : Side) (p : Pair) (u : ℤ) (y : Listed) (k : ℕ) : Type 0 where
  pub held : Pair
  pub held_at : Stands c.relation held k
  pub own : y.landing ≡ Some (state_on side held)
  pub number : ℕ
  pub other_at : Stands (listing_on (opposed side) c p u) (record { label = y.label; landing = Some (state_on (opposed side) held) }) number

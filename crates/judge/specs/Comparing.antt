-- Two systems and a relation between them, seen from either side.
use Rattle.std.specs.Prelude.{◌≡◌, ℕ, List, ℤ, Option}
use Rattle.questions.specs.declared.Side.{Side}
use Rattle.questions.specs.declared.Side.TheVariants.{Left, Right}
use Rattle.model.specs.declared.label.Label.{Label}
use Rattle.model.specs.declared.state.Pair.{Pair}
use Rattle.model.specs.declared.state.State.{State}
use Rattle.systems.specs.declared.listed.Listed.{Listed}
use Rattle.systems.specs.Listing.{listing}
use Rattle.systems.specs.Meaning.{Meaning, Step, label_at, landing_at}
use Rattle.judge.specs.declared.comparison.Comparison.{Comparison}

pub record Compared : Type 0 where
  pub left : Meaning
  pub right : Meaning
  pub relation : List Pair

abbrev pub comparing : Meaning → Meaning → List Pair → Compared
comparing m n rel = record { left = m; right = n; relation = rel }

-- a comparison, by what systems of its two kinds mean
abbrev pub meant : {L R : Type 0} → (L → Meaning) → (R → Meaning) → Comparison L R → Compared
meant meansL meansR x = comparing (meansL x.left.now) (meansR x.right.now) x.relation.now

-- the systems have the same range
pub record OneRange (c : Compared) : Type 0 where
  pub same_lo : c.left.lo ≡ c.right.lo
  pub same_hi : c.left.hi ≡ c.right.hi

abbrev pub opposed : Side → Side
opposed Left = Right
opposed Right = Left

abbrev pub system_on : Side → Compared → Meaning
system_on Left c = c.left
system_on Right c = c.right

abbrev pub state_on : Side → Pair → State
state_on Left p = p.left
state_on Right p = p.right

-- the pair of a state on a side and a state on the opposite side
abbrev pub pair_from : Side → State → State → Pair
pair_from Left own other = record { left = own; right = other }
pair_from Right own other = record { left = other; right = own }

-- the steps of the pair's state on a side, and their labels and landings by number
abbrev pub steps_on : Side → Compared → Pair → List Step
steps_on side c p = (system_on side c).steps (state_on side p)

abbrev pub label_on : Side → Compared → Pair → ℕ → Option Label
label_on side c p i = label_at (system_on side c) (state_on side p) i

abbrev pub landing_on : Side → Compared → Pair → ℕ → ℤ → Option State
landing_on side c p i v = landing_at (system_on side c) (state_on side p) i v

-- the steps of the pair's state on a side as they are listed at the value v
abbrev pub listing_on : Side → Compared → Pair → ℤ → List Listed
listing_on side c p v = listing (system_on side c) (state_on side p) v

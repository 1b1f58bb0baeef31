-- The list of steps has just the steps that the calculus derives, each once, in the stated order.
use Rattle.std.specs.Prelude.{◌≡◌, ◌<◌, ◌≤◌, Bool, true, ◌⊎◌, List, map, length, ℤ}
use Rattle.lists.specs.Products.{In, Sorted, Lexicographic}
use Rattle.model.specs.declared.group_set.GroupSet.{GroupSet}
use Rattle.model.specs.declared.label.Label.{Label}
use Rattle.model.specs.declared.state.State.{State}
use Rattle.ways.specs.declared.way.Choice.{Choice}
use Rattle.ways.specs.declared.way.Choice.TheVariants.{Stay, Take}
use Rattle.ways.specs.declared.way.Way.{Way}
use Rattle.ways.specs.declared.way.Way.TheVariants.{Move, Act}
use Rattle.ways.specs.Nets.{Net}
use Rattle.ways.specs.Landings.{label_of, landing_of, step_of}
use Rattle.network.specs.Meanings.{lawful, ways, network_meaning}
use Rattle.calculus.specs.Calculus.{Derives}

-- staying before rows, and rows by number
abbrev pub ChoiceBefore : Choice → Choice → Type 0
ChoiceBefore Stay Stay = ⊥
ChoiceBefore Stay (Take k) = Unit {0}
ChoiceBefore (Take j) Stay = ⊥
ChoiceBefore (Take j) (Take k) = j < k

-- movements first, by unit and set; then rows, by unit, row and choices, where the lowest unit is the slowest
abbrev pub Earlier : Way → Way → Type 0
Earlier (Move u g) (Move u' g') = (u < u') ⊎ ((u ≡ u') × (g.bits < g'.bits))
Earlier (Move u g) (Act u' k cs) = Unit {0}
Earlier (Act u k cs) (Move u' g) = ⊥
Earlier (Act u k cs) (Act u' k' cs') = (u < u') ⊎ ((u ≡ u') × ((k < k') ⊎ ((k ≡ k') × Lexicographic ChoiceBefore cs cs')))

-- the steps of a state are the steps of its ways; the ways ascend strictly, so each is there once; each can be derived with its
-- label and its landings; and each derivable step is there
pub record Exact (n : Net) (allowed : List GroupSet → Bool) (s : State) : Type 0 where
  pub steps : (network_meaning n allowed).steps s ≡ map (step_of n s) (ways n allowed s)
  pub ascending : Sorted Earlier (ways n allowed s)
  pub strict : (w : Way) → Earlier w w → ⊥
  pub derived : (w : Way) → In w (ways n allowed s) → (f : ℤ → State) × (Derives n allowed s w (label_of n s w) f × ((v : ℤ) → f v ≡ landing_of n s w v))
  pub listed : (w : Way) (l : Label) (f : ℤ → State) → Derives n allowed s w l f → In w (ways n allowed s) × ((l ≡ label_of n s w) × ((v : ℤ) → f v ≡ landing_of n s w v))

-- the theorem, of every network of at most six units and every lawful state of six slots
abbrev pub StepsExact : Type 0
StepsExact = (n : Net) (allowed : List GroupSet → Bool) (s : State) → n.units ≤ 6 → length s.units ≡ 6 → lawful n allowed s ≡ true → Exact n allowed s

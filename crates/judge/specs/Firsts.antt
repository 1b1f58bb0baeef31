-- Listed steps that repeat no earlier one.
use Rattle.std.specs.Prelude.{◌≡◌, ℕ, ◌<◌, ◌≤◌, true, List}
use Rattle.lists.specs.Words.{Stands}
use Rattle.systems.specs.Meaning.{receives}
use Rattle.systems.specs.declared.listed.Listed.{Listed}
use Rattle.judge.specs.declared.firsts.First.{First}

-- the step i is the step j again: it is listed alike, and a receive is no other one's again
pub record Again (ys : List Listed) (j i : ℕ) : Type 0 where
  pub listed : Listed
  pub once : Stands ys listed j
  pub again : Stands ys listed i
  pub own : receives listed.label ≡ true → j ≡ i

-- among the first n steps each is one of the firsts again, and the firsts stand in order
pub record Firsts (ys : List Listed) (n : ℕ) (fs : List First) : Type 0 where
  pub below : (k : ℕ) (f : First) → Stands fs f k → f.step < n
  pub ordered : (k l : ℕ) (f g : First) → k < l → Stands fs f k → Stands fs g l → f.step < g.step
  pub each : (i : ℕ) → i < n → (k : ℕ) × (f : First) × Stands fs f k × (f.step ≤ i) × Again ys f.step i

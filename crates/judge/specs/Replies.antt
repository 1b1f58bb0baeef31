-- Replies as tests that compute.
use Rattle.std.specs.Prelude.{ℕ, zero, suc, Bool, true, false, cond, ◌&&◌, ◌||◌, List, [], ◌∷◌, ℤ, pos, ◌+ℤ◌, ◌-ℤ◌, int_le, unsigned_abs}
use Rattle.questions.specs.declared.Side.{Side}
use Rattle.model.specs.declared.state.Pair.{Pair}
use Rattle.model.specs.Alike.{same_value, same_pair, same_label}
use Rattle.systems.specs.Meaning.{Meaning, Step}
use Rattle.judge.specs.Comparing.{Compared, pair_from}

abbrev pub same_range : Compared → Bool
same_range c = same_value c.left.lo c.right.lo && same_value c.left.hi c.right.hi

-- the relation has the record p
abbrev pub holds : List Pair → Pair → Bool
holds [] p = false
holds (q ∷ qs) p = same_pair q p || holds qs p

-- f says yes of the n values from v on
abbrev pub yes_from : (ℤ → Bool) → ℤ → ℕ → Bool
yes_from f v zero = true
yes_from f v (suc n) = f v && yes_from f (v +ℤ pos 1) n

-- f says yes of every value in the range of m
abbrev pub yes_of_each : Meaning → (ℤ → Bool) → Bool
yes_of_each m f = yes_from f m.lo (cond (int_le m.lo m.hi) (suc (unsigned_abs (m.hi -ℤ m.lo))) 0)

-- y replies to x, which is a step on the side
abbrev pub replies : Compared → Side → Step → Step → Bool
replies c side x y = same_label x.label y.label && yes_of_each c.left (λ v. holds c.relation (pair_from side (x.landing v) (y.landing v)))

-- one of the steps replies to x
abbrev pub has_reply : Compared → Side → Step → List Step → Bool
has_reply c side x [] = false
has_reply c side x (y ∷ ys) = replies c side x y || has_reply c side x ys

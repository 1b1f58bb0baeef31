-- Tests that every element of a list passes: what they decide, and what `all` of an iterator answers. Assumes nothing.
use Rattle.std.proofs.Common.{◌≡◌, ℕ, suc, ◌+◌, Bool, true, ◌&&◌, List, [], ◌∷◌, Decides, sym, refl, ap, ◌∙◌, subst, zero-add, add-one}
use Rattle.std.specs.List.{list_all, enumerate_from}
use Rattle.lists.specs.Words.{Stands, every_from, every}
use Rattle.lists.proofs.Loops.{every_each, each_every}

all_every_from : {X : Type 0} (p : X → Bool) (k : ℕ) (xs : List X) → list_all p xs ≡ every_from (λ _. p) k xs
all_every_from p k [] = refl
all_every_from p k (x ∷ xs) = ap (λ b. p x && b) (all_every_from p (suc k) xs)

pub all_every : {X : Type 0} (p : X → Bool) (xs : List X) → list_all p xs ≡ every p xs
all_every p xs = all_every_from p 0 xs

-- of an iterator that numbers the elements
pub all_numbered : {X : Type 0} (f : ℕ → X → Bool) (k : ℕ) (xs : List X) → list_all (λ p. f p.0 p.1) (enumerate_from k xs) ≡ every_from f k xs
all_numbered f k [] = refl
all_numbered f k (x ∷ xs) = ap (λ b. f k x && b) (ap (λ n. list_all (λ p. f p.0 p.1) (enumerate_from n xs)) (add-one k) ∙ all_numbered f (suc k) xs)

-- a test of every element decides what the test of each decides
pub decides_every : {X : Type 0} (f : ℕ → X → Bool) (P : ℕ → X → Type 0) → ((k : ℕ) (x : X) → Decides (f k x) (P k x)) → (xs : List X) → Decides (every_from f 0 xs) ((k : ℕ) (x : X) → Stands xs x k → P k x)
decides_every {X} f P each xs = (
  λ e k x at. let Q : ℕ → Type 0 = λ j. f j x ≡ true in (each k x).0 (subst Q (zero-add k) (every_each f 0 xs e k x at)),
  λ all. each_every f 0 xs (λ k x at. let Q : ℕ → Type 0 = λ j. f j x ≡ true in subst Q (sym (zero-add k)) ((each k x).1 (all k x at))),
)

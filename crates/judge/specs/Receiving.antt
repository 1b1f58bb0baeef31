-- What is held of the receives of a state.
use Rattle.std.specs.Prelude.{ℕ, List, map, filter}
use Rattle.std.specs.List.{enumerate_from}
use Rattle.lists.specs.Words.{Stands}
use Rattle.systems.specs.Meaning.{Step, receives}
use Rattle.systems.specs.declared.listed.Listed.{Listed}

-- the numbers of the receives among listed steps, counted from n
abbrev pub receiving_from : ℕ → List Listed → List ℕ
receiving_from n ys = map (λ p. p.0) (filter (λ p. receives p.1.label) (enumerate_from n ys))

-- what stands at a place of ws tells the step whose number stands at that place of the numbers ks
abbrev pub Tell : {W : Type 0} → List Step → (W → Step) → List ℕ → List W → Type 0
Tell xs told ks ws = (k i : ℕ) (w : _) → Stands ks i k → Stands ws w k → Stands xs (told w) i

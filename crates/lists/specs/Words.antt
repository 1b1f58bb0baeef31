-- Words on lists that several crates use.
use Rattle.std.specs.Prelude.{◌≡◌, ℕ, suc, ◌*◌, ◌/◌, ◌<◌, Bool, true, false, ◌&&◌, List, [], ◌∷◌, ◌++◌, map, length, take, drop, Some, None, Option, MatchOption}
use Rattle.std.specs.List.{range_with_len, slice_get}

-- x stands at the place k
abbrev pub Stands : {X : Type 0} → List X → X → ℕ → Type 0
Stands xs x k = slice_get xs k ≡ Some x

-- r is the first number of which P holds, or none where it holds of no number
abbrev pub FirstOf : (ℕ → Type 0) → Option ℕ → Type 0
FirstOf P r = MatchOption r ((k : ℕ) → P k → ⊥) (λ i. P i × ((k : ℕ) → k < i → P k → ⊥))

-- every element passes the test, which is told its number, counted from k
abbrev pub every_from : {X : Type 0} → (ℕ → X → Bool) → ℕ → List X → Bool
every_from f k [] = true
every_from f k (x ∷ xs) = f k x && every_from f (suc k) xs

-- every element passes the test
abbrev pub every : {X : Type 0} → (X → Bool) → List X → Bool
every p xs = every_from (λ _. p) 0 xs

-- x where the test is passed
abbrev pub given : {X : Type 0} → Bool → X → Option X
given true x = Some x
given false x = None

-- an answer changed by a function
abbrev pub through : {X Y : Type 0} → (X → Y) → Option X → Option Y
through f None = None
through f (Some x) = Some (f x)

-- one more in front, if there is one
abbrev pub added : {X : Type 0} → Option X → List X → List X
added None xs = xs
added (Some x) xs = x ∷ xs

-- what f gives of the elements, in their order; an element of which it gives nothing is left out
abbrev pub gathered : {X Y : Type 0} → (X → Option Y) → List X → List Y
gathered f [] = []
gathered f (x ∷ xs) = added (f x) (gathered f xs)

-- the first n records of w bytes each: the record k begins at the byte w * k
abbrev pub cut : ℕ → ℕ → List ℕ → List (List ℕ)
cut w n bytes = map (λ k. take w (drop (w * k) bytes)) (range_with_len 0 n)

-- all whole records of w bytes each
abbrev pub records : ℕ → List ℕ → List (List ℕ)
records w bytes = cut w (length bytes / w) bytes

-- the new list is the old one with others behind it
abbrev pub Extends : {X : Type 0} → List X → List X → Type 0
Extends {X} old new = (rest : List X) × (new ≡ old ++ rest)

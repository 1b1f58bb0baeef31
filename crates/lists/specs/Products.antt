-- Products of lists, membership, and order.
use Rattle.std.specs.Prelude.{◌≡◌, ℕ, ◌*◌, ◌/◌, ◌%◌, ◌⊎◌, List, [], ◌∷◌, map, length, slice_index_or}
use Rattle.std.specs.List.{flat_map, AllByRecursion}

-- every list that has one element of each list, the first list slowest
unfoldable pub product : {X : Type 0} → List (List X) → List (List X)
product [] = [] ∷ []
product (xs ∷ xss) = flat_map (λ x. map (λ ys. x ∷ ys) (product xss)) xs

-- how many there are
unfoldable pub volume : {X : Type 0} → List (List X) → ℕ
volume [] = 1
volume (xs ∷ xss) = length xs * volume xss

-- the one with the number i, digit by digit; d is read past the end of a list
unfoldable pub digits : {X : Type 0} → X → List (List X) → ℕ → List X
digits d [] i = []
digits d (xs ∷ xss) i = slice_index_or xs (i / volume xss) d ∷ digits d xss (i % volume xss)

-- x is an element of the list
pub data In {X : Type 0} (x : X) : List X → Type 0 where
  head : {y : X} {ys : List X} → x ≡ y → In x (y ∷ ys)
  tail : {y : X} {ys : List X} → In x ys → In x (y ∷ ys)

-- each element comes before all that follow it
abbrev pub Sorted : {X : Type 0} → (X → X → Type 0) → List X → Type 0
Sorted R [] = Unit {0}
Sorted R (x ∷ xs) = AllByRecursion (R x) xs × Sorted R xs

-- lists of equal length, by their first difference
abbrev pub Lexicographic : {X : Type 0} → (X → X → Type 0) → List X → List X → Type 0
Lexicographic R [] bs = ⊥
Lexicographic R (a ∷ as') [] = ⊥
Lexicographic R (a ∷ as') (b ∷ bs) = R a b ⊎ ((a ≡ b) × Lexicographic R as' bs)

-- The whole table by one computed fact, and the statement at each entry from it. Assumes nothing.
use Rattle.std.proofs.Common.{◌≡◌, List, [], ◌∷◌, map, refl, ap}
use lib.Count.{ones}
use Rattle.std.specs.List.{AllByRecursion}
use Rattle.lists.specs.Products.{product}
use Rattle.model.specs.Bytes.{state_of, state_bytes}
use Rattle.network.specs.Meanings.{set_numbers}
use Rattle.worked.specs.Entries.{answer}
use Rattle.worked.specs.Examples.{Examples, table}

head : {X : Type 0} → X → List X → X
head d [] = d
head d (x ∷ xs) = x

tail : {X : Type 0} → List X → List X
tail [] = []
tail (x ∷ xs) = xs

-- where two functions make the same of a list, they make the same of each of its elements
all_same : {X Y : Type 0} (f g : X → Y) (xs : List X) → map f xs ≡ map g xs → AllByRecursion (λ x. f x ≡ g x) xs
unfolding head tail
all_same f g [] e = tt
all_same f g (x ∷ xs) e = (ap (head (f x)) e, all_same f g xs (ap tail e))

-- the whole table, by computing
computed : map (λ e. answer e.asked) table ≡ map (λ e. e.must_be) table
unfolding ones product state_of state_bytes set_numbers
computed = refl

pub examples : Examples
examples = all_same (λ e. answer e.asked) (λ e. e.must_be) table computed

-- A list that is joined, filtered or multiplied out is in order. Assumes nothing.
use Rattle.std.proofs.Common.{◌≡◌, ℕ, zero, suc, ◌+◌, ◌<◌, Bool, true, false, cond, List, [], ◌∷◌, ◌++◌, map, filter, refl, inl, inr, arith}
use Rattle.std.specs.List.{range_with_len, flat_map, AllByRecursion}
use Rattle.std.proofs.ByRecursion.{All-append, all_kept_by, All-weaker}
use Rattle.lists.specs.Products.{product, Sorted, Lexicographic}

pub sorted_append : {X : Type 0} (R : X → X → Type 0) (xs ys : List X) → Sorted R xs → Sorted R ys → AllByRecursion (λ x. AllByRecursion (R x) ys) xs → Sorted R (xs ++ ys)
sorted_append R [] ys p q h = q
sorted_append R (x ∷ xs) ys p q h = (All-append (R x) xs ys p.0 h.0, sorted_append R xs ys p.1 q h.1)

all_map_on : {X Y : Type 0} (P : X → Type 0) (Q : Y → Type 0) (f : X → Y) (xs : List X) → ((x : X) → P x → Q (f x)) → AllByRecursion P xs → AllByRecursion Q (map f xs)
all_map_on P Q f [] h a = tt
all_map_on P Q f (x ∷ xs) h a = (h x a.0, all_map_on P Q f xs h a.1)

pub sorted_map : {X Y : Type 0} (R : X → X → Type 0) (Q : Y → Y → Type 0) (f : X → Y) (xs : List X) → ((x y : X) → R x y → Q (f x) (f y)) → Sorted R xs → Sorted Q (map f xs)
sorted_map R Q f [] h p = tt
sorted_map R Q f (x ∷ xs) h p = (all_map_on (R x) (Q (f x)) f xs (h x) p.0, sorted_map R Q f xs h p.1)

pub sorted_kept : {X : Type 0} (R : X → X → Type 0) (p : X → Bool) (xs : List X) → Sorted R xs → Sorted R (filter p xs)
sorted_kept R p [] s = tt
sorted_kept R p (x ∷ xs) s = step (p x) (all_kept_by p (R x) xs s.0) (sorted_kept R p xs s.1)
  where
    step : (b : Bool) → AllByRecursion (R x) (filter p xs) → Sorted R (filter p xs) → Sorted R (cond b (x ∷ filter p xs) (filter p xs))
    step true a q = (a, q)
    step false a q = q

counting_above : (a b n : ℕ) → a < b → AllByRecursion (λ k. a < k) (range_with_len b n)
counting_above a b zero h = tt
counting_above a b (suc n) h = (h, counting_above a (b + 1) n (omega arith))

pub sorted_counting : (a n : ℕ) → Sorted ◌<◌ (range_with_len a n)
sorted_counting a zero = tt
sorted_counting a (suc n) = (counting_above a (a + 1) n (omega arith), sorted_counting (a + 1) n)

pub sorted_when : {X : Type 0} (R : X → X → Type 0) (b : Bool) (xs : List X) → Sorted R xs → Sorted R (cond b xs [])
sorted_when R true xs s = s
sorted_when R false xs s = tt

pub all_cross : {X : Type 0} (P P' : X → Type 0) (Q : X → X → Type 0) (xs ys : List X) → ((x y : X) → P x → P' y → Q x y) → AllByRecursion P xs → AllByRecursion P' ys → AllByRecursion (λ x. AllByRecursion (Q x) ys) xs
all_cross P P' Q [] ys h a b = tt
all_cross P P' Q (x ∷ xs) ys h a b = (All-weaker P' (Q x) (λ y q. h x y a.0 q) ys b, all_cross P P' Q xs ys h a.1 b)

-- apart x y: each of the block of x is before each of the block of y
pub sorted_joined : {X Y : Type 0} (R : X → X → Type 0) (Q : Y → Y → Type 0) (f : X → List Y) (xs : List X) → Sorted R xs → ((x : X) → Sorted Q (f x)) → ((x y : X) → R x y → AllByRecursion (λ a. AllByRecursion (Q a) (f y)) (f x)) → Sorted Q (flat_map f xs)
sorted_joined R Q f [] s e apart = tt
sorted_joined {X = X} {Y} R Q f (x ∷ xs) s e apart = sorted_append Q (f x) (flat_map f xs) (e x) (sorted_joined R Q f xs s.1 e apart) (each xs s.0)
  where
    nothing : (zs : List Y) → AllByRecursion (λ a. AllByRecursion (Q a) []) zs
    nothing [] = tt
    nothing (z ∷ zs) = (tt, nothing zs)

    both : (zs as' bs : List Y) → AllByRecursion (λ a. AllByRecursion (Q a) as') zs → AllByRecursion (λ a. AllByRecursion (Q a) bs) zs → AllByRecursion (λ a. AllByRecursion (Q a) (as' ++ bs)) zs
    both [] as' bs p q = tt
    both (z ∷ zs) as' bs p q = (All-append (Q z) as' bs p.0 q.0, both zs as' bs p.1 q.1)

    each : (ys : List X) → AllByRecursion (R x) ys → AllByRecursion (λ a. AllByRecursion (Q a) (flat_map f ys)) (f x)
    each [] r = nothing (f x)
    each (y ∷ ys) r = both (f x) (f y) (flat_map f ys) (apart x y r.0) (each ys r.1)

-- each of these lists is in order
abbrev pub Rising : {X : Type 0} → (X → X → Type 0) → List (List X) → Type 0
Rising R [] = Unit {0}
Rising R (o ∷ os) = Sorted R o × Rising R os

module _ {X : Type 0} (R : X → X → Type 0) where
  one_apart : (x y : X) → R x y → (as' : List X) (zs : List (List X)) → AllByRecursion (Lexicographic R (x ∷ as')) (map (λ (ys : List X). y ∷ ys) zs)
  one_apart x y h as' [] = tt
  one_apart x y h as' (z ∷ zs) = (inl h, one_apart x y h as' zs)

  some_apart : (x y : X) → R x y → (ps zs : List (List X)) → AllByRecursion (λ a. AllByRecursion (Lexicographic R a) (map (λ (ys : List X). y ∷ ys) zs)) (map (λ (ys : List X). x ∷ ys) ps)
  some_apart x y h [] zs = tt
  some_apart x y h (p ∷ ps) zs = (one_apart x y h p zs, some_apart x y h ps zs)

  pub sorted_product : (os : List (List X)) → Rising R os → Sorted (Lexicographic R) (product os)
  unfolding product
  sorted_product [] r = (tt, tt)
  sorted_product (o ∷ os) r =
      sorted_joined R (Lexicographic R) (λ x. map (λ (ys : List X). x ∷ ys) (product os)) o r.0
      (λ x. sorted_map (Lexicographic R) (Lexicographic R) (λ (ys : List X). x ∷ ys) (product os) (λ ys zs b. inr (refl, b)) (sorted_product os r.1))
      (λ x y h. some_apart x y h (product os) (product os))

  -- nothing comes before itself in the order of lists, where nothing does in R
  pub lexicographic_strict : ((x : X) → R x x → ⊥) → (xs : List X) → Lexicographic R xs xs → ⊥
  lexicographic_strict h [] b = b
  lexicographic_strict h (x ∷ xs) (inl r) = h x r
  lexicographic_strict h (x ∷ xs) (inr p) = lexicographic_strict h xs p.1

-- what holds of every element of a list that is joined, mapped, or there only under a test
pub all_joined : {Y : Type 0} (P : Y → Type 0) (f : ℕ → List Y) (a n m : ℕ) → a + n ≡ m → ((k : ℕ) → k < m → AllByRecursion P (f k)) → AllByRecursion P (flat_map f (range_with_len a n))
all_joined P f a zero m e h = tt
all_joined P f a (suc n) m e h = All-append P (f a) (flat_map f (range_with_len (a + 1) n)) (h a (omega arith)) (all_joined P f (a + 1) n m (omega arith) h)

pub all_mapped : {X Y : Type 0} (P : Y → Type 0) (f : X → Y) (xs : List X) → ((x : X) → P (f x)) → AllByRecursion P (map f xs)
all_mapped P f [] h = tt
all_mapped P f (x ∷ xs) h = (h x, all_mapped P f xs h)

pub all_when : {X : Type 0} (P : X → Type 0) (b : Bool) (xs : List X) → AllByRecursion P xs → AllByRecursion P (cond b xs [])
all_when P true xs a = a
all_when P false xs a = tt

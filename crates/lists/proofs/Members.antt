-- The elements of a list that is joined, filtered or multiplied out. Assumes nothing.
use Rattle.std.proofs.Common.{◌≡◌, ℕ, zero, suc, ◌+◌, ◌<◌, ◌≤◌, Bool, true, false, cond, ◌⊎◌, List, [], ◌∷◌, ◌++◌, map, filter, sym, refl, ap, ◌∙◌, subst, inl, inr, arith}
use Rattle.std.specs.List.{range_with_len, flat_map}
use Rattle.std.proofs.lemmas.Bool.{cases_eq, true≢false}
use Rattle.lists.specs.Products.{product, In, head, tail}

pub in_none : {X : Type 0} {x : X} → In x [] → ⊥
in_none h = elim h [ ]

pub in_cases : {X : Type 0} {x y : X} {ys : List X} → In x (y ∷ ys) → (x ≡ y) ⊎ In x ys
in_cases (head e) = inl e
in_cases (tail m) = inr m

pub in_left : {X : Type 0} {x : X} {xs : List X} (ys : List X) → In x xs → In x (xs ++ ys)
in_left ys (head e) = head e
in_left ys (tail m) = tail (in_left ys m)

pub in_right : {X : Type 0} {x : X} (xs : List X) {ys : List X} → In x ys → In x (xs ++ ys)
in_right [] m = m
in_right (x ∷ xs) m = tail (in_right xs m)

pub in_either : {X : Type 0} {x : X} (xs : List X) {ys : List X} → In x (xs ++ ys) → In x xs ⊎ In x ys
in_either [] m = inr m
in_either {x = x} (z ∷ xs) {ys} m = step (λ n. in_either xs n) (in_cases m)
  where
    deeper : In x xs ⊎ In x ys → In x (z ∷ xs) ⊎ In x ys
    deeper (inl n) = inl (tail n)
    deeper (inr n) = inr n

    step : (In x (xs ++ ys) → In x xs ⊎ In x ys) → (x ≡ z) ⊎ In x (xs ++ ys) → In x (z ∷ xs) ⊎ In x ys
    step below (inl e) = inl (head e)
    step below (inr n) = deeper (below n)

pub in_map : {X Y : Type 0} (f : X → Y) {x : X} {xs : List X} → In x xs → In (f x) (map f xs)
in_map f (head e) = head (ap f e)
in_map f (tail m) = tail (in_map f m)

pub in_mapped : {X Y : Type 0} (f : X → Y) {y : Y} (xs : List X) → In y (map f xs) → (x : X) × (In x xs × (y ≡ f x))
in_mapped f [] m = absurd (in_none m)
in_mapped {X = X} f {y} (z ∷ xs) m = step (λ n. in_mapped f xs n) (in_cases m)
  where
    step : (In y (map f xs) → (x : X) × (In x xs × (y ≡ f x))) → (y ≡ f z) ⊎ In y (map f xs) → (x : X) × (In x (z ∷ xs) × (y ≡ f x))
    step below (inl e) = (z, (head refl, e))
    step below (inr n) = let r = below n in (r.0, (tail r.1.0, r.1.1))

pub in_joined : {X Y : Type 0} (f : X → List Y) {x : X} {y : Y} (xs : List X) → In x xs → In y (f x) → In y (flat_map f xs)
in_joined f [] m n = absurd (in_none m)
in_joined f {x} {y} (z ∷ xs) m n = step (λ k. in_joined f xs k n) (in_cases m)
  where
    step : (In x xs → In y (flat_map f xs)) → (x ≡ z) ⊎ In x xs → In y (f z ++ flat_map f xs)
    step below (inl e) = in_left (flat_map f xs) (subst (λ a. In y (f a)) e n)
    step below (inr k) = in_right (f z) (below k)

pub joined_in : {X Y : Type 0} (f : X → List Y) {y : Y} (xs : List X) → In y (flat_map f xs) → (x : X) × (In x xs × In y (f x))
joined_in f [] m = absurd (in_none m)
joined_in {X = X} f {y} (z ∷ xs) m = step (λ k. joined_in f xs k) (in_either (f z) m)
  where
    step : (In y (flat_map f xs) → (x : X) × (In x xs × In y (f x))) → In y (f z) ⊎ In y (flat_map f xs) → (x : X) × (In x (z ∷ xs) × In y (f x))
    step below (inl n) = (z, (head refl, n))
    step below (inr k) = let r = below k in (r.0, (tail r.1.0, r.1.1))

pub in_counting : (a n k : ℕ) → a ≤ k → k < a + n → In k (range_with_len a n)
in_counting a zero k h l = absurd (omega arith)
in_counting a (suc n) k h l = step (λ p q. in_counting (a + 1) n k p q) (cases_eq k a)
  where
    step : (a + 1 ≤ k → k < a + 1 + n → In k (range_with_len (a + 1) n)) → (k ≡ a) ⊎ (k ≡ a → ⊥) → In k (a ∷ range_with_len (a + 1) n)
    step below (inl e) = head e
    step below (inr d) = tail (below (omega arith) (omega arith))

pub counting_in : (a n k : ℕ) → In k (range_with_len a n) → (a ≤ k) × (k < a + n)
counting_in a zero k m = absurd (in_none m)
counting_in a (suc n) k m = step (λ r. counting_in (a + 1) n k r) (in_cases m)
  where
    step : (In k (range_with_len (a + 1) n) → (a + 1 ≤ k) × (k < a + 1 + n)) → (k ≡ a) ⊎ In k (range_with_len (a + 1) n) → (a ≤ k) × (k < a + suc n)
    step below (inl e) = (omega arith, omega arith)
    step below (inr r) = let b = below r in (omega arith, omega arith)

pub in_when : {X : Type 0} {x : X} (b : Bool) {xs : List X} → b ≡ true → In x xs → In x (cond b xs [])
in_when {x = x} b {xs} e m = subst (λ c. In x (cond c xs [])) (sym e) m

pub when_in : {X : Type 0} {x : X} (b : Bool) {xs : List X} → In x (cond b xs []) → (b ≡ true) × In x xs
when_in true m = (refl, m)
when_in false m = absurd (in_none m)

pub in_kept : {X : Type 0} (p : X → Bool) {x : X} (xs : List X) → In x xs → p x ≡ true → In x (filter p xs)
in_kept p [] m e = absurd (in_none m)
in_kept p {x} (y ∷ ys) m e = step (λ n. in_kept p ys n e) (p y) refl (in_cases m)
  where
    step : (In x ys → In x (filter p ys)) → (b : Bool) → p y ≡ b → (x ≡ y) ⊎ In x ys → In x (cond b (y ∷ filter p ys) (filter p ys))
    step below true q (inl f) = head f
    step below true q (inr n) = tail (below n)
    step below false q (inl f) = absurd (let z : true ≡ false = sym e ∙ ap p f ∙ q in true≢false z)
    step below false q (inr n) = below n

pub kept_in : {X : Type 0} (p : X → Bool) {x : X} (xs : List X) → In x (filter p xs) → In x xs × (p x ≡ true)
kept_in p [] m = absurd (in_none m)
kept_in p {x} (y ∷ ys) m = step (λ n. kept_in p ys n) (p y) refl m
  where
    here : (In x (filter p ys) → In x ys × (p x ≡ true)) → p y ≡ true → (x ≡ y) ⊎ In x (filter p ys) → In x (y ∷ ys) × (p x ≡ true)
    here below q (inl f) = (head f, ap p f ∙ q)
    here below q (inr n) = let r = below n in (tail r.0, r.1)

    step : (In x (filter p ys) → In x ys × (p x ≡ true)) → (b : Bool) → p y ≡ b → In x (cond b (y ∷ filter p ys) (filter p ys)) → In x (y ∷ ys) × (p x ≡ true)
    step below true q n = here below q (in_cases n)
    step below false q n = let r = below n in (tail r.0, r.1)

pub in_product : {X : Type 0} {x : X} {xs : List X} (o : List X) (os : List (List X)) → In x o → In xs (product os) → In (x ∷ xs) (product (o ∷ os))
unfolding product
in_product {X = X} {x} {xs} o os m n = in_joined (λ a. map (λ (ys : List X). a ∷ ys) (product os)) o m (in_map (λ (ys : List X). x ∷ ys) n)

pub product_in : {X : Type 0} {zs : List X} (o : List X) (os : List (List X)) → In zs (product (o ∷ os)) → (x : X) × ((xs : List X) × ((zs ≡ x ∷ xs) × (In x o × In xs (product os))))
unfolding product
product_in {X = X} {zs} o os m =
    let r = joined_in (λ a. map (λ (ys : List X). a ∷ ys) (product os)) o m in
    let q = in_mapped (λ (ys : List X). r.0 ∷ ys) (product os) r.1.1 in
    (r.0, (q.0, (q.1.1, (r.1.0, q.1.0))))

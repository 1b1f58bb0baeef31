-- A list that grows by what a loop adds. Assumes nothing.
use Rattle.std.proofs.Common.{◌≡◌, ℕ, ◌+◌, Bool, true, false, cond, List, [], ◌∷◌, ◌++◌, map, take, filter, sym, refl, ap, ◌∙◌, arith}
use Rattle.std.specs.List.{range_with_len, flat_map}
use Rattle.std.proofs.lemmas.List.{append-nil, append_assoc, map-append}
use Rattle.std.proofs.lemmas.List.Concat.{flat_map-append}
use Rattle.std.proofs.lemmas.List.Elements.{filter-append}
use Rattle.lists.proofs.Listed.{counting_push}

push_0 : (k : ℕ) → range_with_len 0 (k + 1) ≡ range_with_len 0 k ++ (k ∷ [])
push_0 k = counting_push 0 k ∙ ap (λ b. range_with_len 0 k ++ (b ∷ [])) (let e : 0 + k ≡ k = omega arith in e)

pub joined_push : {Y : Type 0} (f : ℕ → List Y) (k : ℕ) → flat_map f (range_with_len 0 (k + 1)) ≡ flat_map f (range_with_len 0 k) ++ f k
joined_push f k = ap (flat_map f) (push_0 k) ∙ (flat_map-append f (range_with_len 0 k) (k ∷ []) ∙ ap (λ l. flat_map f (range_with_len 0 k) ++ l) (append-nil (f k)))

-- a loop that adds f k at each turn
module _ {Y : Type 0} (f : ℕ → List Y) (k : ℕ) (was now : List Y) (inv : now ≡ was ++ flat_map f (range_with_len 0 k)) where
  pub adding_more : (next : List Y) → next ≡ now ++ f k → next ≡ was ++ flat_map f (range_with_len 0 (k + 1))
  adding_more next e = e ∙ (ap (λ l. l ++ f k) inv ∙ (append_assoc was (flat_map f (range_with_len 0 k)) (f k) ∙ ap (λ l. was ++ l) (sym (joined_push f k))))

kept_last : {X Y : Type 0} (p : X → Bool) (f : X → Y) (xs : List X) (x : X) (b : Bool) → p x ≡ b → map f (filter p (xs ++ x ∷ [])) ≡ map f (filter p xs) ++ cond b (f x ∷ []) []
kept_last p f xs x b e =
    ap (map f) (filter-append p xs (x ∷ []))
    ∙ ap (λ c. map f (filter p xs ++ cond c (x ∷ []) [])) e
    ∙ map-append f (filter p xs) (cond b (x ∷ []) [])
    ∙ ap (λ l. map f (filter p xs) ++ l) (elim b as (λ c. map f (cond c (x ∷ []) []) ≡ cond c (f x ∷ []) []) [ true ↦ refl | false ↦ refl ])

kept_push : {Y : Type 0} (p : ℕ → Bool) (f : ℕ → Y) (k : ℕ) (b : Bool) → p k ≡ b → map f (filter p (range_with_len 0 (k + 1))) ≡ map f (filter p (range_with_len 0 k)) ++ cond b (f k ∷ []) []
kept_push p f k b e = ap (λ l. map f (filter p l)) (push_0 k) ∙ kept_last p f (range_with_len 0 k) k b e

-- a loop that adds f k where p holds
module _ {Y : Type 0} (p : ℕ → Bool) (f : ℕ → Y) (k : ℕ) (was now : List Y) (inv : now ≡ was ++ map f (filter p (range_with_len 0 k))) where
  pub sifting_yes : (b : Bool) (next : List Y) → b ≡ p k → b ≡ true → next ≡ now ++ (f k ∷ []) → next ≡ was ++ map f (filter p (range_with_len 0 (k + 1)))
  sifting_yes b next q e n = n ∙ (ap (λ l. l ++ (f k ∷ [])) inv ∙ (append_assoc was (map f (filter p (range_with_len 0 k))) (f k ∷ []) ∙ ap (λ l. was ++ l) (sym (kept_push p f k true (sym q ∙ e)))))

  pub sifting_no : (b : Bool) → b ≡ p k → b ≡ false → now ≡ was ++ map f (filter p (range_with_len 0 (k + 1)))
  sifting_no b q e = inv ∙ ap (λ l. was ++ l) (sym (kept_push p f k false (sym q ∙ e) ∙ append-nil (map f (filter p (range_with_len 0 k)))))

-- a loop that adds what g makes of the elements of f k at each turn
module _ {X Y : Type 0} (g : X → Y) (f : ℕ → List X) (k : ℕ) (was now : List Y) (inv : now ≡ was ++ map g (flat_map f (range_with_len 0 k))) where
  pub mapping_more : (next : List Y) → next ≡ now ++ map g (f k) → next ≡ was ++ map g (flat_map f (range_with_len 0 (k + 1)))
  mapping_more next e =
      e ∙ ap (λ l. l ++ map g (f k)) inv ∙ append_assoc was (map g (flat_map f (range_with_len 0 k))) (map g (f k))
      ∙ ap (λ l. was ++ l) (sym (ap (map g) (joined_push f k) ∙ map-append g (flat_map f (range_with_len 0 k)) (f k)))

-- a loop that adds what f makes of the element k of a list, which is x, where p holds of it
module _ {X Y : Type 0} (p : X → Bool) (f : X → Y) (xs : List X) (k : ℕ) (x : X) (at : take (k + 1) xs ≡ take k xs ++ x ∷ []) (was now : List Y) (inv : now ≡ was ++ map f (filter p (take k xs))) where
  pub taking_yes : (next : List Y) → p x ≡ true → next ≡ now ++ f x ∷ [] → next ≡ was ++ map f (filter p (take (k + 1) xs))
  taking_yes next e n = n ∙ ap (λ l. l ++ f x ∷ []) inv ∙ append_assoc was (map f (filter p (take k xs))) (f x ∷ []) ∙ ap (λ l. was ++ l) (sym (ap (λ l. map f (filter p l)) at ∙ kept_last p f (take k xs) x true e))

  pub taking_no : p x ≡ false → now ≡ was ++ map f (filter p (take (k + 1) xs))
  taking_no e = inv ∙ ap (λ l. was ++ l) (sym (ap (λ l. map f (filter p l)) at ∙ kept_last p f (take k xs) x false e ∙ append-nil (map f (filter p (take k xs)))))

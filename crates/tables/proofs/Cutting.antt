-- The first record of bytes, and those behind it. Assumes nothing.
use Rattle.std.proofs.Common.{◌≡◌, ℕ, zero, suc, ◌+◌, ◌*◌, ◌/◌, ◌<◌, List, ◌∷◌, ◌++◌, map, length, take, drop, refl, ap, ◌∙◌, mul-zero, mul-add, mul-one, add-one, arith, length-append}
use Rattle.std.proofs.Math.Nat.{div-eq_of_lt, add-div_left}
use Rattle.std.proofs.Math.Seq.{drop-append-add}
use Rattle.std.proofs.lemmas.List.{take_at}
use Rattle.std.specs.List.{range_with_len}
use Rattle.lists.specs.Words.{records}
use Rattle.lists.proofs.Records.{length_records}

moved : {X : Type 0} (f g : ℕ → X) → ((k : ℕ) → f (k + 1) ≡ g k) → (a n : ℕ) → map f (range_with_len (a + 1) n) ≡ map g (range_with_len a n)
moved f g e a zero = refl
moved f g e a (suc n) = ap (λ y. y ∷ map f (range_with_len (a + 1 + 1) n)) (e a) ∙ ap (λ ys. g a ∷ ys) (moved f g e (a + 1) n)

module _ (w : ℕ) (some : 0 < w) where
  pub records_none : (bytes : List ℕ) → length bytes < w → length (records w bytes) ≡ 0
  records_none bytes h = length_records w bytes ∙ div-eq_of_lt h

  pub records_more : (x bytes : List ℕ) → length x ≡ w → records w (x ++ bytes) ≡ x ∷ records w bytes
  records_more x bytes h =
      let f : ℕ → List ℕ = λ k. take w (drop (w * k) (x ++ bytes)) in
      let n : length (x ++ bytes) / w ≡ suc (length bytes / w) =
      ap (λ m. m / w) (length-append x bytes ∙ ap (λ m. m + length bytes) h) ∙ add-div_left (length bytes) some ∙ add-one (length bytes / w) in
      let here : f 0 ≡ x = ap (λ k. take w (drop k (x ++ bytes))) (mul-zero w) ∙ take_at x bytes w h in
      let next : (k : ℕ) → f (k + 1) ≡ take w (drop (w * k) bytes) =
      λ k. let e : w * (k + 1) ≡ length x + w * k = omega (arith, h, mul-add w k 1, mul-one w) in
      ap (λ i. take w (drop i (x ++ bytes))) e ∙ ap (take w) (drop-append-add x bytes (w * k)) in
      ap (λ m. map f (range_with_len 0 m)) n ∙ ap (λ y. y ∷ map f (range_with_len 1 (length bytes / w))) here
      ∙ ap (λ ys. x ∷ ys) (moved f _ next 0 (length bytes / w))

-- Where a number stands in lists laid end to end. Assumes nothing.
use Rattle.std.proofs.Common.{◌≡◌, ℕ, zero, suc, ◌+◌, ◌-◌, ◌<◌, ◌≤◌, List, ◌∷◌, ◌++◌, length, None, sym, ap, ◌∙◌, arith}
use Rattle.std.specs.List.{range_with_len, flat_map, slice_get, sum_by}
use Rattle.std.proofs.lemmas.List.Concat.{length-flat_map, flat_map-append}
use Rattle.std.proofs.lemmas.List.Sums.{sum_by_push}
use Rattle.lists.specs.Blocks.{begin}
use Rattle.lists.proofs.Listed.{nth_append_add, nth_joined_here, counting_push}
use Rattle.std.proofs.lemmas.Option.{slice_get_past}

-- the block after the block k begins where that one ends
pub begin_more : (lengths : ℕ → ℕ) (k : ℕ) → begin lengths (k + 1) ≡ begin lengths k + lengths k
begin_more lengths k = ap (sum_by lengths) (counting_push 0 k) ∙ sum_by_push lengths (range_with_len 0 k) (0 + k) ∙ ap (λ j. begin lengths k + lengths j) (let e : 0 + k ≡ k = omega arith in e)

counting_split : (a k m : ℕ) → range_with_len a (k + m) ≡ range_with_len a k ++ range_with_len (a + k) m
counting_split a zero m = ap (λ i. range_with_len a i) (let e : 0 + m ≡ m = omega arith in e) ∙ ap (λ b. range_with_len b m) (let e : a ≡ a + 0 = omega arith in e)
counting_split a (suc k) m =
    ap (range_with_len a) (let e : suc k + m ≡ suc (k + m) = omega arith in e)
    ∙ ap (λ r. a ∷ r) (counting_split (a + 1) k m ∙ ap (λ b. range_with_len (a + 1) k ++ range_with_len b m) (let e : a + 1 + k ≡ a + suc k = omega arith in e))

module _ {X : Type 0} (f : ℕ → List X) (n i : ℕ) where
  pub in_block : (k r : ℕ) → k < n → r < length (f k) → begin (λ j. length (f j)) k + r ≡ i → slice_get (flat_map f (range_with_len 0 n)) i ≡ slice_get (f k) r
  in_block k r h l e =
      let front = flat_map f (range_with_len 0 k) in
      let back = flat_map f (range_with_len k (n - k)) in
      let split : range_with_len 0 n ≡ range_with_len 0 k ++ range_with_len k (n - k) = ap (range_with_len 0) (let e : n ≡ k + (n - k) = omega arith in e) ∙ counting_split 0 k (n - k) ∙ ap (λ b. range_with_len 0 k ++ range_with_len b (n - k)) (let e : 0 + k ≡ k = omega arith in e) in
      let place : i ≡ length front + r = sym e ∙ ap (λ m. m + r) (sym (length-flat_map f (range_with_len 0 k))) in
      ap (λ xs. slice_get (flat_map f xs) i) split ∙ ap (λ xs. slice_get xs i) (flat_map-append f (range_with_len 0 k) (range_with_len k (n - k)))
      ∙ ap (slice_get (front ++ back)) place ∙ nth_append_add front back r ∙ nth_joined_here f k n r h l

  pub past_blocks : begin (λ j. length (f j)) n ≤ i → slice_get (flat_map f (range_with_len 0 n)) i ≡ None
  past_blocks h = slice_get_past (flat_map f (range_with_len 0 n)) i (omega (arith, h, length-flat_map f (range_with_len 0 n)))

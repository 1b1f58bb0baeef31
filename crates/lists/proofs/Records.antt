-- Facts on records of w bytes. Assumes nothing.
use Rattle.std.proofs.Common.{◌≡◌, ℕ, zero, suc, ◌+◌, ◌*◌, ◌/◌, List, ◌++◌, length, take, drop, sym, ap, ◌∙◌, mul-zero, mul-one, mul-suc, mul-add, arith, take-add}
use Rattle.std.specs.List.{range_with_len, flat_map}
use Rattle.std.proofs.lemmas.List.{take_all, drop-drop}
use Rattle.std.proofs.lemmas.List.FromFn.{length-map-range_with_len}
use Rattle.lists.specs.Words.{records}

pub length_records : (w : ℕ) (bytes : List ℕ) → length (records w bytes) ≡ length bytes / w
length_records w bytes = length-map-range_with_len (λ k. take w (drop (w * k) bytes)) 0 (length bytes / w)

-- the records of the bytes, put together again
joined_counting : (w a n : ℕ) (bytes : List ℕ) → flat_map (λ k. take w (drop (w * k) bytes)) (range_with_len a n) ≡ take (w * n) (drop (w * a) bytes)
joined_counting w a zero bytes = rw (mul-zero w)
joined_counting w a (suc n) bytes =
    let e : w * a + w ≡ w * (a + 1) = omega (arith, mul-add w a 1, mul-one w) in
    let m : w * suc n ≡ w + w * n = omega (arith, mul-suc w n) in
    ap (λ xs. take w (drop (w * a) bytes) ++ xs) (joined_counting w (a + 1) n bytes ∙ ap (λ i. take (w * n) (drop i bytes)) (sym e) ∙ ap (take (w * n)) (sym (drop-drop w (w * a) bytes)))
    ∙ sym (take-add w (w * n) (drop (w * a) bytes)) ∙ ap (λ i. take i (drop (w * a) bytes)) (sym m)

pub joined_cut : (w n : ℕ) (bytes : List ℕ) → length bytes ≡ w * n → flat_map (λ k. take w (drop (w * k) bytes)) (range_with_len 0 n) ≡ bytes
joined_cut w n bytes h =
    joined_counting w 0 n bytes ∙ ap (λ i. take (w * n) (drop i bytes)) (mul-zero w) ∙ take_all (w * n) bytes (omega (arith, h))

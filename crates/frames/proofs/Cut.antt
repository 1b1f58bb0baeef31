-- The chunks that code cuts an input into are its records. Assumes nothing.
use Rattle.std.proofs.Common.{◌≡◌, ℕ, zero, suc, ◌+◌, ◌*◌, List, ◌∷◌, map, take, drop, sym, refl, ap, ◌∙◌, mul-zero, mul-one, mul-add, arith}
use Rattle.std.specs.List.{range_with_len}
use Rattle.std.specs.Simd.{first_chunks}
use Rattle.std.proofs.lemmas.List.{drop-drop}

chunks_from : (w n a : ℕ) (bytes : List ℕ) → first_chunks w n (drop (w * a) bytes) ≡ map (λ k. take w (drop (w * k) bytes)) (range_with_len a n)
chunks_from w zero a bytes = refl
chunks_from w (suc n) a bytes =
    let e : w * a + w ≡ w * (a + 1) = omega (arith, mul-add w a 1, mul-one w) in
    ap (λ xs. take w (drop (w * a) bytes) ∷ first_chunks w n xs) (drop-drop w (w * a) bytes ∙ ap (λ i. drop i bytes) e)
    ∙ ap (λ xs. take w (drop (w * a) bytes) ∷ xs) (chunks_from w n (a + 1) bytes)

pub chunks_cut : (w n : ℕ) (bytes : List ℕ) → first_chunks w n bytes ≡ map (λ k. take w (drop (w * k) bytes)) (range_with_len 0 n)
chunks_cut w n bytes = ap (λ i. first_chunks w n (drop i bytes)) (sym (mul-zero w)) ∙ chunks_from w n 0 bytes

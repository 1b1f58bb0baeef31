-- Slots by their numbers. Assumes nothing.
use Rattle.std.proofs.Common.{◌≡◌, ℕ, zero, suc, ◌+◌, ◌<◌, Some, ap, ◌∙◌, arith}
use Rattle.std.specs.List.{range_with_len, slice_get}

nth_counting : (a m k : ℕ) → k < m → slice_get (range_with_len a m) k ≡ Some (a + k)
nth_counting a zero k h = absurd (omega arith)
nth_counting a (suc m) zero h = ap Some (let e : a ≡ a + 0 = omega arith in e)
nth_counting a (suc m) (suc k) h = nth_counting (a + 1) m k (omega arith) ∙ ap Some (let e : a + 1 + k ≡ a + suc k = omega arith in e)

pub nth_slot : (m k : ℕ) → k < m → slice_get (range_with_len 0 m) k ≡ Some k
nth_slot m k h = nth_counting 0 m k h ∙ ap Some (let e : 0 + k ≡ k = omega arith in e)

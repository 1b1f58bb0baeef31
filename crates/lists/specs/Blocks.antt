-- Lists laid end to end: in which of them a number stands, and which number it has there.
use Rattle.std.specs.Prelude.{◌≡◌, ℕ, ◌+◌, ◌<◌, ◌≤◌, sum_by, Option, MatchOption}
use Rattle.std.specs.List.{range_with_len}

-- where the block k begins, if the block j has `lengths j` places
abbrev pub begin : (ℕ → ℕ) → ℕ → ℕ
begin lengths k = sum_by lengths (range_with_len 0 k)

-- what a call may answer at the block k, of n, is how long that block is
abbrev pub Tells : (ℕ → ℕ → Type 0) → ℕ → (ℕ → ℕ) → Type 0
Tells answers n lengths = (k r : ℕ) → k < n → answers k r → r ≡ lengths k

-- the number i stands in the block p.0, of n, and has the number p.1 there; or it is past the last block
abbrev pub Located : (ℕ → ℕ) → ℕ → ℕ → Option (ℕ × ℕ) → Type 0
Located lengths n i r = MatchOption r (begin lengths n ≤ i) (λ p. (p.0 < n) × (p.1 < lengths p.0) × (begin lengths p.0 + p.1 ≡ i))

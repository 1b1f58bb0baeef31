-- The start of an input that decides its verdict. Assumes nothing.
use Rattle.std.proofs.Common.{◌≡◌, ℕ, zero, suc, ◌<◌, ◌≤◌, List, [], ◌∷◌, ◌++◌, length, take, None, Some, Option, ◌⊎◌, inl, inr, sym, refl, ap, ◌∙◌, ⊎_elim, arith}
use Rattle.std.proofs.Math.Nat.{eq-or-lt_of_le}
use Rattle.std.proofs.lemmas.List.{append-nil, take_all, take-append-le}
use Rattle.std.specs.Io.KnownBytes.{Consumes, IsAtEnd}
use Rattle.job.specs.Verdicts.{Verdict}
use Rattle.reading.specs.Reading.{VerdictOn}

-- what was read is the start of the input: all of it, where there was room left
start_of : (n most : ℕ) (rest start : List ℕ) → length start ≡ n → n ≤ most → (n < most → rest ≡ []) → start ≡ take most (start ++ rest)
start_of n most rest start long fits done =
    ⊎_elim
    (λ full. sym (take-append-le most start rest (omega (arith, long, full)) ∙ take_all most start (omega (arith, long, full))))
    (λ less. sym (ap (λ xs. take most (start ++ xs)) (done less) ∙ ap (take most) (append-nil start) ∙ take_all most start (omega (arith, long, less))))
    (eq-or-lt_of_le fits)

pub reads : (old new : Option (List ℕ)) (n : ℕ) (start v : List ℕ) → Consumes old new start → length start ≡ n → n ≤ 65537 → (n < 65537 → IsAtEnd new)
    → ((input : List ℕ) → start ≡ take 65537 input → Verdict input v) → VerdictOn old v
reads None new n start v taken long fits end verdict = tt
reads (Some all) None n start v taken long fits end verdict = absurd taken
reads (Some all) (Some rest) n start v taken long fits end verdict = verdict all (start_of n 65537 rest start long fits end ∙ ap (take 65537) (sym taken))

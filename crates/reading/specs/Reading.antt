-- The verdict on what a reader has.
use Rattle.std.specs.Prelude.{ℕ, List, None, Some, Option}
use Rattle.job.specs.Verdicts.{Verdict}

-- v is the verdict on the bytes that a reader has left, where these are known
abbrev pub VerdictOn : Option (List ℕ) → List ℕ → Type 0
VerdictOn None v = Unit {0}
VerdictOn (Some bytes) v = Verdict bytes v

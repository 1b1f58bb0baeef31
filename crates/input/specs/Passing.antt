-- How far a reader got, by the bytes that it had left before and after, where those are known.
use Rattle.std.specs.Prelude.{◌≡◌, ℕ, ◌<◌, List, length, Option}
use Rattle.std.specs.Io.KnownBytes.{Consumes}

-- just so many bytes were passed over
abbrev pub PassesOver : Option (List ℕ) → Option (List ℕ) → ℕ → Type 0
PassesOver old new count = (bytes : List ℕ) × Consumes old new bytes × (length bytes ≡ count)

-- some bytes were passed over, but fewer
abbrev pub StopsBefore : Option (List ℕ) → Option (List ℕ) → ℕ → Type 0
StopsBefore old new count = (bytes : List ℕ) × Consumes old new bytes × (length bytes < count)

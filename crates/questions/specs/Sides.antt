-- The byte that stands for a side.
use Rattle.std.specs.Prelude.{◌≡◌, ℕ, ◌<◌, Result, MatchResult}
use Rattle.questions.specs.declared.NoSide.{NoSide}
use Rattle.questions.specs.declared.Side.{Side}
use Rattle.questions.specs.declared.Side.TheVariants.{Left, Right}

abbrev pub side_byte : Side → ℕ
side_byte Left = 0
side_byte Right = 1

-- the side for which the byte stands, or a fault that tells a byte of no side
abbrev pub ReadsSide : ℕ → Result Side NoSide → Type 0
ReadsSide byte r = MatchResult r (λ side. side_byte side ≡ byte) (λ e. (e.0 ≡ byte) × (1 < byte))

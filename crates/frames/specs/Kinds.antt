-- The kinds of record: the byte that stands for each, and how many bytes of payload it has.
use Rattle.std.specs.Prelude.{ℕ, ◌==◌, if◌then◌else◌, Result, Ok, Err}
use Rattle.frames.specs.declared.kind.Kind.{Kind}
use Rattle.frames.specs.declared.kind.Kind.TheVariants.{Setting, Row, Link, Pair}
use Rattle.frames.specs.declared.kind.NoKind.{NoKind}

abbrev pub kind_byte : Kind → ℕ
kind_byte Setting = 1
kind_byte Row = 2
kind_byte Link = 3
kind_byte Pair = 4

-- the kind for which a byte stands
abbrev pub kind_of : ℕ → Result Kind NoKind
kind_of byte = if byte == 1 then Ok Setting else (if byte == 2 then Ok Row else (if byte == 3 then Ok Link else (if byte == 4 then Ok Pair else Err (record { 0 = byte }))))

-- how many bytes the payload has
abbrev pub width_of : Kind → ℕ
width_of Setting = 5
width_of Row = 16
width_of Link = 3
width_of Pair = 48

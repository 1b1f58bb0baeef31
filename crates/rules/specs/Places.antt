-- The bytes of a parking record.
use Rattle.std.specs.Prelude.{ℕ, ◌&&◌, List, length, Option, ◌==◌, nat_le, slice_index}
use Rattle.lists.specs.Words.{given}
use Rattle.rules.specs.declared.place.Place.{Place}

-- unit 0 to 5, then its set
abbrev pub place_of : List ℕ → Option Place
place_of r = given (length r == 2 && nat_le (slice_index r 0) 5) (record { unit = slice_index r 0; set = record { bits = slice_index r 1 } })

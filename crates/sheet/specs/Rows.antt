-- How the rows of a sheet are laid out in bytes. The range is from lo to hi.
use Rattle.std.specs.Prelude.{ℕ, Bool, cond, not, ◌&&◌, List, length, ℤ, None, Option, ◌==◌, nat_eq, slice_index}
use Rattle.lists.specs.Words.{given, through}
use Rattle.model.specs.GroupSets.{empty, part}
use Rattle.model.specs.Ranges.{in_range}
use Rattle.model.specs.Values.{value_of}
use Rattle.model.specs.declared.group_set.GroupSet.{GroupSet}
use Rattle.sheet.specs.declared.row.Row.{Row}
use Rattle.sheet.specs.declared.row.Kind.{Kind}
use Rattle.sheet.specs.declared.row.Kind.TheVariants.{Silent, Movement, Broadcast, Receive}

-- the set s lies within the set c
abbrev pub within : GroupSet → GroupSet → Bool
within c s = (part c s).bits == s.bits

-- what a broadcast or a receive may carry: a set that is not empty and lies within the channel set, and a value in range
abbrev pub carried : ℤ → ℤ → GroupSet → GroupSet → ℤ → Bool
carried lo hi channels s v = not (empty s) && (within channels s && in_range lo hi v)

-- what a row does, by the bytes for kind, set, value, to and other; none where they are not as laid out
abbrev pub kind_of : ℤ → ℤ → GroupSet → ℕ → ℕ → ℕ → ℕ → ℕ → Option Kind
kind_of lo hi channels kind set value to other =
    let groups : GroupSet = record { bits = set } in
    let v : ℤ = value_of value in
    let bare : Bool = set == 0 && nat_eq value 0 in
    cond (kind == 0) (given (bare && other == to) Silent)
    (cond (kind == 1) (given (bare && other == to) Movement)
    (cond (kind == 2) (given (carried lo hi channels groups v && other == to) (Broadcast groups v))
    (cond (kind == 3) (given (carried lo hi channels groups v) (Receive groups v other))
    None)))

-- six bytes: from, kind, set, value, to, other
abbrev pub parse_row : ℤ → ℤ → GroupSet → List ℕ → Option Row
parse_row lo hi channels b =
    cond (length b == 6)
    (through (λ kind. record { from = slice_index b 0; kind = kind; to = slice_index b 4 }) (kind_of lo hi channels (slice_index b 1) (slice_index b 2) (slice_index b 3) (slice_index b 4) (slice_index b 5)))
    None

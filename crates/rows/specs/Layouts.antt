-- The bytes of a row.
use Rattle.std.specs.Prelude.{ℕ, Bool, cond, ◌&&◌, List, length, ℤ, Some, None, Option, ◌==◌, nat_le, slice_index}
use Rattle.lists.specs.Words.{given}
use Rattle.model.specs.Ranges.{in_range}
use Rattle.model.specs.Values.{value_of}
use Rattle.rows.specs.declared.row.Operand.{Operand}
use Rattle.rows.specs.declared.row.Operand.TheVariants.{First, Second, Constant}
use Rattle.rows.specs.declared.row.Guard.{Guard}
use Rattle.rows.specs.declared.row.Guard.TheVariants.{None as Always, Equal, Differs, Less}
use Rattle.rows.specs.declared.row.Register.TheVariants.{First as IntoFirst, Second as IntoSecond}
use Rattle.rows.specs.declared.row.Action.{Action}
use Rattle.rows.specs.declared.row.Action.TheVariants.{Silent, Broadcast, Receive}
use Rattle.rows.specs.declared.row.Row.{Row}

-- an operand: kind 0 (first register) or 1 (second register) with a zero byte, or kind 2 with a constant in range
abbrev pub parse_operand : ℤ → ℤ → ℕ → ℕ → Option Operand
parse_operand lo hi kind b =
    cond (kind == 0) (given (b == 0) First)
    (cond (kind == 1) (given (b == 0) Second)
    (cond (kind == 2) (given (in_range lo hi (value_of b)) (Constant (value_of b))) None))

-- how the operands of a guard are compared: kind 1 equal, 2 differs, 3 less
abbrev pub comparison : ℕ → Operand → Operand → Option Guard
comparison kind x y = cond (kind == 1) (Some (Equal x y)) (cond (kind == 2) (Some (Differs x y)) (cond (kind == 3) (Some (Less x y)) None))

abbrev pub compared : ℕ → Option Operand → Option Operand → Option Guard
compared kind None y = None
compared kind (Some x) None = None
compared kind (Some x) (Some y) = comparison kind x y

-- a guard: kind 0 (none) with four zero bytes, or a comparison of two operands
abbrev pub parse_guard : ℤ → ℤ → ℕ → ℕ → ℕ → ℕ → ℕ → Option Guard
parse_guard lo hi kind a b c d =
    cond (kind == 0) (given (a == 0 && (b == 0 && (c == 0 && d == 0))) Always)
    (compared kind (parse_operand lo hi a b) (parse_operand lo hi c d))

abbrev pub sending : Option Operand → Option Action
sending None = None
sending (Some x) = Some (Broadcast x)

-- an action: kind 0 (silent) with two zero bytes, 1 (broadcast) with an operand, or 2 (receive) with a register, 0 or 1, and
-- a zero byte
abbrev pub parse_action : ℤ → ℤ → ℕ → ℕ → ℕ → Option Action
parse_action lo hi kind a b =
    cond (kind == 0) (given (a == 0 && b == 0) Silent)
    (cond (kind == 1) (sending (parse_operand lo hi a b))
    (cond (kind == 2) (cond (b == 0) (cond (a == 0) (Some (Receive IntoFirst)) (given (a == 1) (Receive IntoSecond))) None) None))

-- the row of its parts, where all of them are as laid out
abbrev pub assembled : ℕ → Option Guard → Option Action → ℕ → Option Operand → Option Operand → Option Row
assembled from None action to first second = None
assembled from (Some g) None to first second = None
assembled from (Some g) (Some a) to None second = None
assembled from (Some g) (Some a) to (Some x) None = None
assembled from (Some g) (Some a) to (Some x) (Some y) = Some (record { from = from; guard = g; action = a; to = to; first = x; second = y })

-- 16 bytes: from location, guard, its two operands, action, its operand, to location, the operands for the new registers, two
-- zero bytes; both locations are at most 63
abbrev pub framed : List ℕ → Bool
framed r = length r == 16 && (nat_le (slice_index r 0) 63 && (nat_le (slice_index r 9) 63 && (slice_index r 14 == 0 && slice_index r 15 == 0)))

abbrev pub parse_row : ℤ → ℤ → List ℕ → Option Row
parse_row lo hi r =
    cond (framed r)
    (assembled (slice_index r 0)
    (parse_guard lo hi (slice_index r 1) (slice_index r 2) (slice_index r 3) (slice_index r 4) (slice_index r 5))
    (parse_action lo hi (slice_index r 6) (slice_index r 7) (slice_index r 8))
    (slice_index r 9)
    (parse_operand lo hi (slice_index r 10) (slice_index r 11))
    (parse_operand lo hi (slice_index r 12) (slice_index r 13)))
    None

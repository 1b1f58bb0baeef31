-- The worked examples, as one table.
use Rattle.std.specs.Prelude.{ℕ, List, [], ◌∷◌, ◌++◌, ℤ, pos, negsuc, Ok, Err}
use Rattle.std.specs.List.{AllByRecursion}
use Rattle.questions.specs.declared.Side.TheVariants.{Left, Right}
use Rattle.model.specs.Bytes.{unit_of}
use Rattle.model.specs.declared.group_set.GroupSet.{GroupSet}
use Rattle.model.specs.declared.label.Label.TheVariants.{Silent, Broadcast, Receive}
use Rattle.model.specs.declared.state.State.{State}
use Rattle.systems.specs.Meaning.{Meaning}
use Rattle.sheet.specs.States.{state_at}
use Rattle.judge.specs.Judged.{say}
use Rattle.worked.specs.Entries.{network, sheet, Entry, Holds, lists, judged, unit, one, two, leads, moves, pair}

-- at location 0 broadcast -2, to 1; registers kept
abbrev pub sends : List ℕ
sends = 0 ∷ 0 ∷ 0 ∷ 0 ∷ 0 ∷ 0 ∷ 1 ∷ 2 ∷ 0xFE ∷ 1 ∷ 0 ∷ 0 ∷ 1 ∷ 0 ∷ 0 ∷ 0 ∷ []

-- at location 2 receive into the first register, to 3; registers kept
abbrev pub receives : List ℕ
receives = 2 ∷ 0 ∷ 0 ∷ 0 ∷ 0 ∷ 0 ∷ 2 ∷ 0 ∷ 0 ∷ 3 ∷ 0 ∷ 0 ∷ 1 ∷ 0 ∷ 0 ∷ 0 ∷ []

-- at location 0, if the first register is less than 0, silently to 1; registers kept
abbrev pub guarded : List ℕ
guarded = 0 ∷ 3 ∷ 0 ∷ 0 ∷ 2 ∷ 0 ∷ 0 ∷ 0 ∷ 0 ∷ 1 ∷ 0 ∷ 0 ∷ 1 ∷ 0 ∷ 0 ∷ 0 ∷ []

abbrev pub rows : List ℕ
rows = sends ++ receives

-- group 0
abbrev pub g0 : GroupSet
g0 = record { bits = 1 }

abbrev pub zero : ℤ
zero = pos 0

-- a unit that is to send, and one that has sent
abbrev pub s0 : State
s0 = one (unit 0 zero zero 1)

abbrev pub s1 : State
s1 = one (unit 1 zero zero 1)

abbrev pub broadcast_on_a_free_group : Entry
broadcast_on_a_free_group = lists (network 1 1 rows) s0 (leads (Broadcast g0 (negsuc 1)) (λ v. s1) ∷ [])

abbrev pub movements_keep_the_free_part : Entry
movements_keep_the_free_part =
    lists (network 1 2 rows) s0
    (moves (λ g. one (unit 0 zero zero g)) (3 ∷ 5 ∷ 9 ∷ 17 ∷ 33 ∷ 65 ∷ 129 ∷ [])
    (leads (Broadcast g0 (negsuc 1)) (λ v. s1) ∷ []))

abbrev pub hidden_broadcast_is_silent : Entry
hidden_broadcast_is_silent =
    lists (network 1 1 rows) (one (unit 0 zero zero 2))
    (moves (λ g. one (unit 0 zero zero g)) (0 ∷ 4 ∷ 8 ∷ 16 ∷ 32 ∷ 64 ∷ 128 ∷ [])
    (leads Silent (λ v. one (unit 1 zero zero 2)) ∷ []))

abbrev pub broadcast_is_lost_or_heard : Entry
broadcast_is_lost_or_heard =
    lists (network 2 1 rows) (two (unit 0 zero zero 1) (unit 2 zero zero 1))
    (leads (Broadcast g0 (negsuc 1)) (λ v. two (unit 1 zero zero 1) (unit 2 zero zero 1))
    ∷ leads (Broadcast g0 (negsuc 1)) (λ v. two (unit 1 zero zero 1) (unit 3 (negsuc 1) zero 1))
    ∷ leads (Receive g0) (λ v. two (unit 0 zero zero 1) (unit 3 v zero 1))
    ∷ [])

abbrev pub unlinked_unit_cannot_hear : Entry
unlinked_unit_cannot_hear =
    lists (network 2 1 rows) (two (unit 0 zero zero 1) (unit 2 zero zero 2))
    (moves (λ g. two (unit 0 zero zero 1) (unit 2 zero zero g)) (0 ∷ 4 ∷ 8 ∷ 16 ∷ 32 ∷ 64 ∷ 128 ∷ [])
    (leads (Broadcast g0 (negsuc 1)) (λ v. two (unit 1 zero zero 1) (unit 2 zero zero 2)) ∷ []))

abbrev pub alike : Meaning
alike = network 1 1 rows

abbrev pub relation_is_accepted : Entry
relation_is_accepted = judged alike alike (pair s0 s0 ∷ pair s1 s1 ∷ []) (Ok 2)

abbrev pub left_step_has_no_reply : Entry
left_step_has_no_reply = judged alike alike (pair s0 s0 ∷ []) (Err (say 15 Left 0 0))

abbrev pub right_step_has_no_reply : Entry
right_step_has_no_reply = judged alike alike (pair s1 s0 ∷ []) (Err (say 16 Right 0 0))

abbrev pub sets_shown_differ : Entry
sets_shown_differ = judged alike alike (pair s1 (one (unit 1 zero zero 2)) ∷ []) (Err (say 14 Left 0 0))

-- rows of a sheet: two receives that land in 1 and in 2 for every value, one that lands in 1 for 0 and in 2 for the others, and
-- a broadcast of -2 from 1
abbrev pub plain_receives : List ℕ
plain_receives = 0 ∷ 3 ∷ 1 ∷ 0 ∷ 1 ∷ 1 ∷ 0 ∷ 3 ∷ 1 ∷ 0 ∷ 2 ∷ 2 ∷ []

abbrev pub receive_by_value : List ℕ
receive_by_value = 0 ∷ 3 ∷ 1 ∷ 0 ∷ 1 ∷ 2 ∷ []

abbrev pub then_broadcast : List ℕ
then_broadcast = 1 ∷ 2 ∷ 1 ∷ 0xFE ∷ 2 ∷ 2 ∷ []

abbrev pub reply_comes_before_the_value : Entry
reply_comes_before_the_value =
    judged (sheet (plain_receives ++ (receive_by_value ++ then_broadcast))) (sheet (plain_receives ++ then_broadcast))
    (pair (state_at 0) (state_at 0) ∷ pair (state_at 1) (state_at 1) ∷ pair (state_at 2) (state_at 2) ∷ [])
    (Err (say 15 Left 0 2))

-- the unit whose first register has this byte
abbrev pub with_byte : ℕ → State
with_byte b = one (unit_of (0 ∷ b ∷ 0 ∷ 1 ∷ []))

abbrev pub fe_is_less_than_0 : Entry
fe_is_less_than_0 = lists (network 1 1 guarded) (with_byte 0xFE) (leads Silent (λ v. one (unit 1 (negsuc 1) zero 1)) ∷ [])

abbrev pub byte_0_is_not : Entry
byte_0_is_not = lists (network 1 1 guarded) (with_byte 0x00) []

abbrev pub byte_2_is_not : Entry
byte_2_is_not = lists (network 1 1 guarded) (with_byte 0x02) []

abbrev pub table : List Entry
table =
    broadcast_on_a_free_group
    ∷ movements_keep_the_free_part
    ∷ hidden_broadcast_is_silent
    ∷ broadcast_is_lost_or_heard
    ∷ unlinked_unit_cannot_hear
    ∷ relation_is_accepted
    ∷ left_step_has_no_reply
    ∷ right_step_has_no_reply
    ∷ sets_shown_differ
    ∷ reply_comes_before_the_value
    ∷ fe_is_less_than_0
    ∷ byte_0_is_not
    ∷ byte_2_is_not
    ∷ []

-- every entry holds
abbrev pub Examples : Type 0
Examples = AllByRecursion Holds table

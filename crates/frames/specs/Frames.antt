-- The frame of a job's input: its length, and what each record is by its kind, side, position and zeros.
use Rattle.std.specs.Prelude.{ℕ, ◌+◌, ◌%◌, Bool, false, ◌&&◌, List, ◌∷◌, ◌++◌, length, drop, Ok, Err, Result, ◌==◌, nat_le, nat_lt, slice_index, codes}
use Rattle.std.specs.Fmt.{decimal}
use Rattle.std.specs.List.{list_all}
use Rattle.lists.specs.Words.{records}
use Rattle.questions.specs.Asking.{Question, put, ask, numbered, refuse, refuse_at}
use Rattle.questions.specs.declared.Refusal.{Refusal}
use Rattle.frames.specs.Kinds.{kind_of, width_of}
use Rattle.frames.specs.declared.kind.Kind.{Kind}
use Rattle.frames.specs.declared.kind.Kind.TheVariants.{Setting, Row, Link, Pair}
use Rattle.frames.specs.declared.kind.NoKind.{NoKind}
use Rattle.frames.specs.declared.frame.FrameFault.{FrameFault}
use Rattle.frames.specs.declared.frame.FrameFault.TheVariants.{Length, Record}

-- the bytes from n on are zero
abbrev pub zero_from : ℕ → List ℕ → Bool
zero_from n r = list_all (λ b. b == 0) (drop n r)

-- may the record k have this kind and side? Records 0 and 1 are the settings of the left and the right side; a pair stands
-- on the left side
abbrev pub placed : Kind → ℕ → ℕ → Bool
placed Setting side k = nat_lt k 2 && side == k
placed Row side k = nat_le 2 k && nat_le side 1
placed Link side k = nat_le 2 k && nat_le side 1
placed Pair side k = nat_le 2 k && side == 0

-- the record k is one of this kind, with its side, position, and zeros after its payload
abbrev pub framed_as : Result Kind NoKind → ℕ → List ℕ → Bool
framed_as (Ok kind) k r = placed kind (slice_index r 1) k && zero_from (2 + width_of kind) r
framed_as (Err e) k r = false

-- the record k has its kind, side, position and zeros
abbrev pub framed : ℕ → List ℕ → Bool
framed k r = framed_as (kind_of (slice_index r 0)) k r

-- question 23 of the record k
abbrev pub frame_asked : ℕ → List ℕ → List (Question Refusal)
frame_asked k r = ask (refuse_at 23 k) (framed k r)

abbrev pub length_fits : ℕ → Bool
length_fits n = n % 64 == 0 && (nat_le 128 n && nat_le n 65536)

-- 22: is the length a multiple of 64, from 128 to 65,536? 23: has each record its kind, side, position and zeros?
abbrev pub frames_asked : List ℕ → List (Question Refusal)
frames_asked bytes = put (refuse 22) (length_fits (length bytes)) ∷ numbered frame_asked 0 (records 64 bytes)

abbrev pub frame_refusal : FrameFault → Refusal
frame_refusal Length = refuse 22
frame_refusal (Record k) = refuse_at 23 k

-- what a fault is called
abbrev pub fault_text : FrameFault → List ℕ
fault_text Length = codes "the length is no multiple of 64 from 128 to 65536"
fault_text (Record k) = codes "record " ++ decimal k ++ codes " is not framed"

-- A table of records in bytes: the questions that are put to it, and what the faults of a load refuse with.
use Rattle.std.specs.Prelude.{◌≡◌, ℕ, ◌/◌, ◌%◌, Bool, ◌&&◌, List, ◌∷◌, ◌++◌, length, is_some, Option, Result, ◌==◌, nat_le, codes}
use Rattle.std.specs.Fmt.{decimal}
use Rattle.lists.specs.Words.{records}
use Rattle.questions.specs.Asking.{Question, first_no, put, ask, numbered, refuse, refuse_at, refusal_of}
use Rattle.questions.specs.declared.Refusal.{Refusal}
use Rattle.tables.specs.declared.TableFault.{TableFault}
use Rattle.tables.specs.declared.TableFault.TheVariants.{Count, Record}

-- whole records of w bytes, and at most so many of them
abbrev pub fits_table : ℕ → ℕ → List ℕ → Bool
fits_table w most bytes = length bytes % w == 0 && nat_le (length bytes / w) most

-- question q of the record k: is it as laid out?
abbrev pub record_asked : {R : Type 0} → ℕ → (List ℕ → Option R) → ℕ → List ℕ → List (Question Refusal)
record_asked q parse k r = ask (refuse_at q k) (is_some (parse r))

-- question p: whole records, and no more than the most? Then question q of each record
abbrev pub table_asked : {R : Type 0} → ℕ → ℕ → ℕ → ℕ → (List ℕ → Option R) → List ℕ → List (Question Refusal)
table_asked p q w most parse bytes = put (refuse p) (fits_table w most bytes) ∷ numbered (record_asked q parse) 0 (records w bytes)

-- what each fault refuses with, where the questions have the numbers p and q
abbrev pub table_refusal : ℕ → ℕ → TableFault → Refusal
table_refusal p q Count = refuse p
table_refusal p q (Record k) = refuse_at q k

-- what a fault is called
abbrev pub fault_text : TableFault → List ℕ
fault_text Count = codes "the bytes are no whole records, or too many"
fault_text (Record k) = codes "record " ++ decimal k ++ codes " is not as laid out"

-- an answer refuses with the first no, whichever numbers the two questions have
abbrev pub Answers : {X R : Type 0} → Result X TableFault → ℕ → ℕ → (List ℕ → Option R) → List ℕ → Type 0
Answers r w most parse bytes = (p q : ℕ) → refusal_of (table_refusal p q) r ≡ first_no (table_asked p q w most parse bytes)

-- The 16 bytes of a verdict.
use Rattle.std.specs.Prelude.{ℕ, ◌/◌, ◌%◌, ◌^◌, List, ◌∷◌, ◌++◌, map, replicate}
use Rattle.std.specs.List.{range_with_len}
use Rattle.questions.specs.Sides.{side_byte}
use Rattle.questions.specs.declared.Refusal.{Refusal}
use Rattle.verdict.specs.declared.answer.Answer.{Answer}
use Rattle.verdict.specs.declared.answer.Answer.TheVariants.{Accepted, Refused}

-- a number in w bytes, the low byte first
abbrev pub low_first : ℕ → ℕ → List ℕ
low_first w n = map (λ i. n / 256 ^ i % 256) (range_with_len 0 w)

-- number 0, and the count of pairs in the last four bytes
abbrev pub accepted_bytes : ℕ → List ℕ
accepted_bytes count = replicate 12 0 ++ low_first 4 count

-- the question's number, its side, the record, row or pair number in two bytes, the step number in eight, and four zeros
abbrev pub refused_bytes : Refusal → List ℕ
refused_bytes r = r.question ∷ side_byte r.side ∷ (low_first 2 r.item ++ (low_first 8 r.step ++ replicate 4 0))

-- what is answered, in bytes
abbrev pub verdict_bytes : Answer → List ℕ
verdict_bytes (Accepted count) = accepted_bytes count
verdict_bytes (Refused r) = refused_bytes r

-- the number of the question that was answered no, or 0 where none was
abbrev pub question_of : Answer → ℕ
question_of (Accepted count) = 0
question_of (Refused r) = r.question

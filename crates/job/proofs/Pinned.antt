-- The bytes of an answer are the verdict on its input. Assumes nothing.
use Rattle.std.proofs.Common.{◌≡◌, ℕ, ◌<◌, ◌≤◌, true, false, leb, ◌⊎◌, List, length, take, Some, None, Option, sym, refl, ap, ◌∙◌, subst, inl, inr, arith}
use Rattle.std.proofs.lemmas.List.{take_all, length-take-le}
use Rattle.std.proofs.lemmas.Bool.Decides.{nat_tests}
use Rattle.lists.proofs.Places.{some_none}
use Rattle.questions.specs.Asking.{first_no, refuse}
use Rattle.questions.specs.declared.Refusal.{Refusal}
use Rattle.questions.proofs.Asked.{head_no, append_left, append_right, append_none}
use Rattle.questions.proofs.Saying.{says_first}
use Rattle.judge.specs.Judged.{judge_asked}
use Rattle.judge.proofs.Exactly.{none_bisimulation, bisimulation_none}
use Rattle.frames.specs.Frames.{length_fits}
use Rattle.verdict.specs.Verdicts.{accepted_bytes, verdict_bytes}
use Rattle.verdict.specs.declared.answer.Answer.{Answer}
use Rattle.verdict.specs.declared.answer.Answer.TheVariants.{Accepted, Refused}
use Rattle.job.specs.Jobs.{layouts_asked, compared_in, job_asked}
use Rattle.job.specs.Verdicts.{pair_count, answer_by, answer_of, verdict_of, Alike, Verdict}
use Rattle.job.proofs.Numbers.{Positive, job_positive}

module _ (bytes : List ℕ) where
  none_alike : None ≡ first_no (job_asked bytes) → Alike bytes
  none_alike none =
      record {
        passes = sym (append_left (layouts_asked bytes) (judge_asked (compared_in bytes)) (sym none));
        bisimulation = none_bisimulation (compared_in bytes) (append_right (layouts_asked bytes) (judge_asked (compared_in bytes)) (sym none));
      }

  alike_none : Alike bytes → first_no (job_asked bytes) ≡ None
  alike_none alike =
      append_none (layouts_asked bytes) (judge_asked (compared_in bytes)) (sym alike.passes) ∙ bisimulation_none (compared_in bytes) alike.bisimulation

  verdict_by : (o : Option Refusal) → o ≡ first_no (job_asked bytes) → Verdict bytes (verdict_bytes (answer_by (pair_count bytes) o))
  unfolding verdict_of
  verdict_by None e =
      record {
        is = ap (λ x. verdict_bytes (answer_by (pair_count bytes) x)) e;
        alike = (λ _. none_alike e, λ _. refl);
        counted = λ _. refl;
      }
  verdict_by (Some r) e =
      let some : Positive r = says_first Positive (job_asked bytes) r (job_positive bytes) e in
      record {
        is = ap (λ x. verdict_bytes (answer_by (pair_count bytes) x)) e;
        alike = (λ z. absurd (omega (arith, z, some)), λ alike. absurd (some_none _ _ (sym e) (alike_none alike)));
        counted = λ z. absurd (omega (arith, z, some));
      }

  pub answer_verdict : Verdict bytes (verdict_bytes (answer_of bytes))
  answer_verdict = verdict_by (first_no (job_asked bytes)) refl

-- an input of more than 65,536 bytes
long_first : (bytes : List ℕ) → 65536 < length bytes → Some (refuse 22) ≡ first_no (job_asked bytes)
long_first bytes h =
    let short : length_fits (length bytes) ≡ false = grind (arith, nat_tests) in
    sym (head_no _ _ _ short)

long_answer : (bytes : List ℕ) → 65536 < length bytes → answer_of bytes ≡ Refused (refuse 22)
long_answer bytes h = ap (answer_by (pair_count bytes)) (sym (long_first bytes h))

le_or_lt : (m n : ℕ) → (m ≤ n) ⊎ (n < m)
le_or_lt m n =
    elim (leb m n) as (λ b. leb m n ≡ b → (m ≤ n) ⊎ (n < m))
    [ true ↦ (λ e. inl (grind (arith, nat_tests))) | false ↦ (λ e. inr (grind (arith, nat_tests))) ] refl

-- the first 65,537 bytes decide
pub start_answer : (start input : List ℕ) → start ≡ take 65537 input → answer_of start ≡ answer_of input
start_answer start input same =
    elim (le_or_lt (length input) 65537) [
      | inl short ↦ ap answer_of (same ∙ take_all 65537 input short)
      | inr long ↦
          let size : length start ≡ 65537 = ap length same ∙ length-take-le 65537 input (omega arith) in
          long_answer start (omega arith) ∙ sym (long_answer input (omega arith))
    ]

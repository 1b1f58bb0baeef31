-- From the judge of a loaded job to the verdict on its input. Assumes nothing.
use Rattle.std.proofs.Common.{◌≡◌, ℕ, List, length, Some, None, Option, refl, ap, ◌∙◌}
use Rattle.questions.specs.Asking.{first_no}
use Rattle.questions.specs.declared.Refusal.{Refusal}
use Rattle.questions.specs.declared.Side.TheVariants.{Left, Right}
use Rattle.questions.proofs.Chained.{first_of, then_of}
use Rattle.judge.specs.Comparing.{comparing}
use Rattle.judge.specs.Judged.{judge_asked}
use Rattle.model.specs.declared.state.Pair.{Pair}
use Rattle.systems.specs.Meaning.{Meaning}
use Rattle.frames.specs.Payloads.{relation_of}
use Rattle.job.specs.Sides.{side_meaning}
use Rattle.job.specs.Jobs.{layouts_asked, compared_in, job_asked}
use Rattle.job.specs.Verdicts.{Passes, pair_count}

module _ (bytes : List ℕ) where
  -- a no of the layouts
  pub layouts_first : (r : Refusal) → Some r ≡ first_no (layouts_asked bytes) → Some r ≡ first_no (job_asked bytes)
  layouts_first r e = first_of (Some r) (layouts_asked bytes) (judge_asked (compared_in bytes)) refl e

  -- two systems and a relation that are those of the input, as the judge is lent them
  module _ (passes : Passes bytes) (l r : Meaning) (lent : List Pair) (left : l ≡ side_meaning Left bytes) (right : r ≡ side_meaning Right bytes) (whole : lent ≡ relation_of bytes) where
    pub read_is : comparing l r lent ≡ compared_in bytes
    read_is =
        ap (λ m. comparing m r lent) left ∙ ap (λ m. comparing (side_meaning Left bytes) m lent) right
        ∙ ap (λ rel. comparing (side_meaning Left bytes) (side_meaning Right bytes) rel) whole

    -- what the judge answers is what the job is answered
    pub judge_then : (o : Option Refusal) → o ≡ first_no (judge_asked (comparing l r lent)) → o ≡ first_no (job_asked bytes)
    judge_then o e = then_of o (layouts_asked bytes) (judge_asked (compared_in bytes)) passes (e ∙ ap (λ x. first_no (judge_asked x)) read_is)

    pub judge_counted : (n : ℕ) → n ≡ length lent → n ≡ pair_count bytes
    judge_counted n e = e ∙ ap length whole

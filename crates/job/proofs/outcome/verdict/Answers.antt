use Rattle.std.proofs.Common.{◌≡◌, ap, ◌∙◌, sym, subst, List, ℕ}
use Rattle.verdict.specs.Verdicts.{verdict_bytes}
use Rattle.job.specs.Verdicts.{Verdict, answer_of}
use Rattle.job.proofs.Pinned.{answer_verdict, start_answer}
use Rattle.job.proofs.outcome.verdict.Goals as goal

pub returns : goal.returns
returns c =
    let bytes = c.args.bytes.now in
    let is : c.to_bytes.result ≡ verdict_bytes (answer_of bytes) = c.to_bytes.ensures.is ∙ ap verdict_bytes c.answer.ensures in
    record {
      whole = rw is (answer_verdict bytes);
      start = λ input same. rw (is, start_answer bytes input same) (answer_verdict input);
    }

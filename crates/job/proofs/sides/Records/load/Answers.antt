use Rattle.std.proofs.Common.{◌≡◌, sym, ap, ◌∙◌, rules}
use Rattle.lists.specs.Words.{through}
use Rattle.questions.specs.Asking.{first_no, refusal_of}
use Rattle.questions.proofs.Asked.{first_restated}
use Rattle.frames.specs.Payloads.{side_bytes, setting_of}
use Rattle.frames.specs.declared.kind.Kind.TheVariants.{Row, Link}
use Rattle.job.specs.Faults.{on_side, side_refusal, job_refusal}
use Rattle.job.specs.Sides.{tables_asked}
use Rattle.job.proofs.sides.Records.load.Goals as goal

pub returns-clause-refuses : goal.returns-clause-refuses
returns-clause-refuses c =
    let side = c.args.self.now.side in
    let bytes = c.args.self.now.bytes.now in
    let asked = tables_asked (setting_of side bytes) (side_bytes Link side bytes) (side_bytes Row side bytes) in
    let told : refusal_of job_refusal c.map_err.result ≡ through (on_side side) (refusal_of side_refusal c.load_tables.result) = search rules in
    told ∙ ap (through (on_side side)) c.load_tables.ensures.refuses ∙ sym (first_restated (on_side side) asked)

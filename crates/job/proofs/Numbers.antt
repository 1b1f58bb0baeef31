-- No question of a job has the number 0. Assumes nothing.
use Rattle.std.proofs.Common.{ℕ, ◌<◌, List, ◌++◌, Option, lit<}
use Rattle.questions.specs.Asking.{restated}
use Rattle.questions.specs.declared.Refusal.{Refusal}
use Rattle.questions.specs.declared.Side.{Side}
use Rattle.questions.specs.declared.Side.TheVariants.{Left, Right}
use Rattle.questions.proofs.Saying.{Says, says_append, says_numbered, says_restated, says_anything}
use Rattle.tables.specs.Table.{record_asked, table_asked}
use Rattle.lists.specs.Words.{records}
use Rattle.model.specs.Ranges.{range_asked}
use Rattle.model.specs.Placements.{units_asked}
use Rattle.model.specs.declared.state.Pair.{Pair}
use Rattle.rows.specs.Programs.{rows_asked}
use Rattle.rows.specs.Layouts.{parse_row}
use Rattle.rules.specs.LinkRecords.{link_of}
use Rattle.rules.specs.LinkRules.{links_asked}
use Rattle.rules.specs.Tuners.{tuner_asked}
use Rattle.network.specs.Loads.{network_asked}
use Rattle.judge.specs.Comparing.{Compared}
use Rattle.judge.specs.Judged.{say, steps_asked, pair_asked, judge_asked}
use Rattle.frames.specs.Frames.{frame_asked, frames_asked}
use Rattle.frames.specs.Payloads.{side_bytes, setting_of}
use Rattle.frames.specs.declared.kind.Kind.TheVariants.{Row, Link}
use Rattle.frames.specs.declared.setting.Setting.{Setting}
use Rattle.job.specs.Faults.{on_side}
use Rattle.job.specs.Sides.{tables_asked, side_asked}
use Rattle.job.specs.Jobs.{layouts_asked, compared_in, job_asked}

abbrev pub Positive : Refusal → Type 0
Positive r = 0 < r.question

table_positive : {R : Type 0} (p q w most : ℕ) (parse : List ℕ → Option R) (bytes : List ℕ) → 0 < p → 0 < q → Says Positive (table_asked p q w most parse bytes)
table_positive p q w most parse bytes hp hq = (hp, says_numbered Positive (record_asked q parse) (λ k r. (hq, tt)) 0 (records w bytes))

tables_positive : (t : Setting) (links rows : List ℕ) → Says Positive (tables_asked t links rows)
tables_positive t links rows =
    let network : Says Positive (network_asked t.lo t.hi t.units rows) =
    says_append Positive (units_asked t.units) (rows_asked t.lo t.hi rows) (lit< tt, tt) (table_positive 6 7 16 64 (parse_row t.lo t.hi) rows (lit< tt) (lit< tt)) in
    says_append Positive (range_asked t.lo t.hi) (links_asked links ++ (tuner_asked t.limit ++ network_asked t.lo t.hi t.units rows)) (lit< tt, tt)
    (says_append Positive (links_asked links) (tuner_asked t.limit ++ network_asked t.lo t.hi t.units rows) (table_positive 2 3 3 16 link_of links (lit< tt) (lit< tt))
    (says_append Positive (tuner_asked t.limit) (network_asked t.lo t.hi t.units rows) (lit< tt, tt) network))

side_positive : (side : Side) (bytes : List ℕ) → Says Positive (side_asked side bytes)
side_positive side bytes =
    let asked = tables_asked (setting_of side bytes) (side_bytes Link side bytes) (side_bytes Row side bytes) in
    says_restated Positive Positive (on_side side) (λ r h. h) asked (tables_positive (setting_of side bytes) (side_bytes Link side bytes) (side_bytes Row side bytes))

steps_positive : (c : Compared) (q : ℕ) (told side : Side) (k : ℕ) (p : Pair) → 0 < q → Says Positive (restated (say q told k) (steps_asked c side p))
steps_positive c q told side k p h = says_restated Positive (λ _. Unit {0}) (say q told k) (λ i _. h) (steps_asked c side p) (says_anything (steps_asked c side p))

pair_positive : (c : Compared) (k : ℕ) (p : Pair) → Says Positive (pair_asked c k p)
pair_positive c k p = (
  lit< tt,
  (
    lit< tt,
    (
      lit< tt,
      says_append Positive (restated (say 15 Left k) (steps_asked c Left p)) (restated (say 16 Right k) (steps_asked c Right p))
          (steps_positive c 15 Left Left k p (lit< tt)) (steps_positive c 16 Right Right k p (lit< tt)),
    ),
  ),
)

judge_positive : (c : Compared) → Says Positive (judge_asked c)
judge_positive c = (lit< tt, (lit< tt, says_numbered Positive (pair_asked c) (pair_positive c) 0 c.relation))

pub job_positive : (bytes : List ℕ) → Says Positive (job_asked bytes)
job_positive bytes =
    says_append Positive (layouts_asked bytes) (judge_asked (compared_in bytes))
    (says_append Positive (frames_asked bytes) (side_asked Left bytes ++ side_asked Right bytes)
    (lit< tt, says_numbered Positive frame_asked (λ k r. (lit< tt, tt)) 0 (records 64 bytes))
    (says_append Positive (side_asked Left bytes) (side_asked Right bytes) (side_positive Left bytes) (side_positive Right bytes)))
    (judge_positive (compared_in bytes))

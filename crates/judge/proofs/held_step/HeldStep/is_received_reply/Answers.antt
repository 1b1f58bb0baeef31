use Rattle.std.proofs.Common.{Some, sym, ◌∙◌, ap}
use Rattle.std.proofs.lemmas.Bool.{false≢true}
use Rattle.judge.specs.Comparing.{meant}
use Rattle.judge.proofs.Listed.{listed_label, other_label}
use Rattle.judge.proofs.Replying.{reply_each}
use Rattle.judge.proofs.held_step.HeldStep.is_received_reply.Goals as goal

pub returns-then-not-is_equal : goal.returns-then-not-is_equal
returns-then-not-is_equal g c =
    let own = c.args.self.now in
    let held = own.held.now in
    let x = meant g.L.System.means g.R.System.means held.between.now.comparison.now in (
      λ e. absurd (false≢true e),
      λ r. absurd (other_label x own.side c.opposite.result held.pair.now own.step c.args.reply held.lowest c.opposite.ensures own.listed.now c.in-Some.other.now own.at (sym c.in-Some.ensures.there)
          (λ e. false≢true (sym c.if-not-is_equal.true ∙ c.is_equal.ensures.1 e)) r),
    )

pub returns-in-Some-form_records : goal.returns-in-Some-form_records
returns-in-Some-form_records g c =
    let own = c.args.self.now in
    let held = own.held.now in
    let between = held.between.now in
    let x = meant g.L.System.means g.R.System.means between.comparison.now in
    reply_each x own.side c.opposite.result held.pair.now own.step c.args.reply own.listed.now.label _
    between.one_range c.opposite.ensures (listed_label x own.side held.pair.now held.lowest own.step own.listed.now own.at)
    (listed_label x c.opposite.result held.pair.now held.lowest c.args.reply c.in-Some.other.now c.in-Some.ensures.there ∙ ap Some (c.is_equal.ensures.0 c.if-not-is_equal.false))
    c.in-Some-form_records.ensures

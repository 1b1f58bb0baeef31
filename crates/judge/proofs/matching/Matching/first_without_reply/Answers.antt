use Rattle.std.proofs.Common.{ap, sym, ◌∙◌, map}
use Rattle.std.proofs.lemmas.Bool.{false≢true}
use Rattle.std.proofs.lemmas.Option.{slice_get-get_or}
use Rattle.judge.specs.Comparing.{meant}
use Rattle.judge.proofs.Again.{none_without, first_without, answered_more}
use Rattle.judge.proofs.matching.Matching.first_without_reply.Goals as goal

pub returns-then-not-is_answered : goal.returns-then-not-is_answered
returns-then-not-is_answered g c =
    let held = c.args.self.now.held in
    let comparison = held.between.now.comparison.now in
    let x = meant g.L.System.means g.R.System.means comparison in
    let es = c.entries-first-items.result.now in
    first_without x c.args.side held.pair.now held.lowest held.between.now.one_range (g.met.L.System.keeps comparison.left.now) (g.met.R.System.keeps comparison.right.now) held.low
    _ c.firsts.ensures es (ap (map (λ e. e.item)) (sym c.entries-first-items.ensures)) c.loop-number.number _ (slice_get-get_or es c.loop-number.number _ c.loop-number-test.true) c.loop-number.invariant
    (λ a. false≢true (sym c.if-not-is_answered.true ∙ c.is_answered.ensures.1 a))

pub loop-number-preserved : goal.loop-number-preserved
loop-number-preserved g c =
    let held = c.args.self.now.held in
    let x = meant g.L.System.means g.R.System.means held.between.now.comparison.now in
    let es = c.entries-first-items.result.now in
    answered_more x c.args.side held.pair.now es c.loop-number.number _ (slice_get-get_or es c.loop-number.number _ c.loop-number-test.true) c.loop-number.invariant (c.is_answered.ensures.0 c.if-not-is_answered.false)

pub returns : goal.returns
returns g c =
    let held = c.args.self.now.held in
    let comparison = held.between.now.comparison.now in
    let x = meant g.L.System.means g.R.System.means comparison in
    let es = c.entries-first-items.result.now in
    none_without x c.args.side held.pair.now held.lowest held.between.now.one_range (g.met.L.System.keeps comparison.left.now) (g.met.R.System.keeps comparison.right.now) held.low
    _ c.firsts.ensures es (ap (map (λ e. e.item)) (sym c.entries-first-items.ensures)) c.loop-number.number c.loop-number-test.false c.loop-number.invariant

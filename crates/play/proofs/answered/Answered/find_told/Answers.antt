use Rattle.std.proofs.Common.{◌≡◌, false, is_none, Some, None, ◌∙◌, rules, w8, FitsSigned}
use Rattle.std.proofs.lemmas.Int.{to_z-of_z}
use Rattle.judge.specs.Comparing.{meant}
use Rattle.play.proofs.Settling.{told_refused, told_passed, told_value}
use Rattle.play.proofs.answered.Answered.find_told.Goals as goal

pub returns-in_err-value-clause-refuses : goal.returns-in_err-value-clause-refuses
returns-in_err-value-clause-refuses g c =
    let x = meant g.L.System.means g.R.System.means c.args.comparison.now in
    let held = c.in_ok-held.held in
    let there : is_none c.label.result ≡ false = search rules in
    let out : c.value_for.result ≡ None = search rules in
    let no = told_refused x c.args.self.now c.args.value c.in_ok-held.ensures.refuses held.pair.now held.label _ c.in_ok-held.ensures.stands c.in_ok-held.ensures.labeled _ c.opposite.ensures
    c.label.ensures there c.range.result c.range.ensures.lo c.range.ensures.hi _ (to_z-of_z w8 c.args.value c.ranges.value) (rw out at c.value_for.ensures) in
    search rules

pub returns-clause-refuses : goal.returns-clause-refuses
returns-clause-refuses g c =
    let x = meant g.L.System.means g.R.System.means c.args.comparison.now in
    let held = c.in_ok-held.held in
    let there : is_none c.label.result ≡ false = search rules in
    let given : c.value_for.result ≡ Some c.in_ok-value.value = search rules in
    told_passed x c.args.self.now c.args.value c.in_ok-held.ensures.refuses held.pair.now held.label _ c.in_ok-held.ensures.stands c.in_ok-held.ensures.labeled _ c.opposite.ensures
    c.label.ensures there c.range.result c.range.ensures.lo c.range.ensures.hi _ (to_z-of_z w8 c.args.value c.ranges.value) _ (rw given at c.value_for.ensures)

pub returns-clause-value : goal.returns-clause-value
returns-clause-value g c =
    let x = meant g.L.System.means g.R.System.means c.args.comparison.now in
    let held = c.in_ok-held.held in
    let there : is_none c.label.result ≡ false = search rules in
    let given : c.value_for.result ≡ Some c.in_ok-value.value = search rules in
    let fits : FitsSigned w8 c.in_ok-value.value = search rules in
    λ q q-at y z y-at z-at. to_z-of_z w8 c.in_ok-value.value fits ∙ told_value x c.args.self.now c.args.value c.in_ok-held.ensures.refuses held.pair.now held.label _ c.in_ok-held.ensures.stands c.in_ok-held.ensures.labeled _ c.opposite.ensures
    c.label.ensures there c.range.result c.range.ensures.lo c.range.ensures.hi _ (to_z-of_z w8 c.args.value c.ranges.value) _ (rw given at c.value_for.ensures) q q-at y z y-at z-at

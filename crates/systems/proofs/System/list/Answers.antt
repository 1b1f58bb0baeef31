use Rattle.std.proofs.Common.{◌<◌, ◌≤◌, length, vec_items, refl, ap, ◌∙◌, arith, w8, to_z, of_z}
use Rattle.std.proofs.lemmas.Grind.{common_steps}
use Rattle.std.proofs.lemmas.Int.{to_z-of_z}
use Rattle.std.proofs.lemmas.Result.{IfOk-at_ok}
use Rattle.systems.proofs.Facts.{list_more, list_all, label_there}
use Rattle.systems.proofs.System.list.Goals as goal
use Rattle.systems.proofs.System.list.Goals.{in-Some+in_ok-add_listed, in_default}

pub loop-step-init : goal.loop-step-init
loop-step-init g c = record {
  adds = grind (arith, common_steps);
  len = grind (arith, common_steps);
  few = omega (arith, c.step_count-count.ensures, c.if-count-saturating_sub.false);
  room = omega (arith, c.step_count-count.ensures, c.in_ok-reserve.ensures.ok, c.reserve.ensures.len);
}

pub loop-step-preserved : goal.loop-step-preserved
loop-step-preserved g c =
    let m = g.Self.System.means c.args.self.now in
    let s = c.args.state.now in
    let v = to_z w8 (of_z w8 c.args.value) in
    elim c.match-label.branch [
      | in-Some+in_ok-add_listed w ↦ record {
        adds = ap vec_items w.steps-is ∙ list_more m s v v refl c.loop-step.step _ _ _ _ _ w.in-Some.ensures w.landing-landing.ensures (IfOk-at_ok _ w.in_ok-add_listed.was w.add_listed.ensures.adds) c.loop-step.invariant.adds;
        len = grind (arith, common_steps);
        few = c.loop-step.invariant.few;
        room = grind (arith, common_steps);
      }
      | in_default w ↦ absurd (label_there m s c.loop-step.step (let h : c.loop-step.step < length (m.steps s) = omega (arith, c.step_count-count.ensures, c.loop-step-test.true) in h) w.in_default.ensures)
    ]

pub returns-clause-adds : goal.returns-clause-adds
returns-clause-adds g c =
    let m = g.Self.System.means c.args.self.now in
    let h : length (m.steps c.args.state.now) ≤ c.loop-step.step = omega (arith, c.step_count-count.ensures, c.loop-step-test.false) in
    list_all m c.args.state.now c.args.value _ c.loop-step.step _ _ (to_z-of_z w8 c.args.value c.ranges.value) h c.loop-step.invariant.adds

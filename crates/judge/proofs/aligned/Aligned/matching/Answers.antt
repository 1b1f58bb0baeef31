use Rattle.judge.proofs.Receiving.{value_of_ok}
use Rattle.judge.proofs.aligned.Aligned.matching.Goals as goal

pub invariant_of-held-clause-left_told : goal.invariant_of-held-clause-left_told
invariant_of-held-clause-left_told g c = value_of_ok _ c.list_steps.result c.in_ok-ok.field-0 c.in_ok-ok.ensures.value c.list_steps.ensures.told

pub invariant_of-held-clause-right_told : goal.invariant_of-held-clause-right_told
invariant_of-held-clause-right_told g c = value_of_ok _ c.list_steps-2.result c.in_ok-ok-2.field-0 c.in_ok-ok-2.ensures.value c.list_steps-2.ensures.told

pub invariant_of-held-clause-left_firsts : goal.invariant_of-held-clause-left_firsts
invariant_of-held-clause-left_firsts g c = ∣ value_of_ok _ c.list_steps.result c.in_ok-ok.field-0 c.in_ok-ok.ensures.value c.list_steps.ensures.firsts ∣₁

pub invariant_of-held-clause-right_firsts : goal.invariant_of-held-clause-right_firsts
invariant_of-held-clause-right_firsts g c = ∣ value_of_ok _ c.list_steps-2.result c.in_ok-ok-2.field-0 c.in_ok-ok-2.ensures.value c.list_steps-2.ensures.firsts ∣₁

pub invariant_of-result : goal.invariant_of-result
invariant_of-result g c = record { each = ∣ value_of_ok _ c.match_steps.result c.in_ok-ok-3.field-0 c.in_ok-ok-3.ensures.value c.match_steps.ensures ∣₁ }

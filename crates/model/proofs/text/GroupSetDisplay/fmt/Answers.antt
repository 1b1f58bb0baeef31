use Rattle.std.proofs.Common.{◌∷◌, [], ◌++◌, rules, arith, sym, refl, ap}
use Rattle.std.proofs.lemmas.Grind.{put_two}
use Rattle.model.specs.Text.{listed}
use Rattle.model.proofs.Texts.{below, below_with, below_without, all_below, comma_more, is_in, is_out, written}
use Rattle.model.proofs.text.GroupSetDisplay.fmt.Goals as goal
use Rattle.model.proofs.text.GroupSetDisplay.fmt.Goals.{then-self-group-eq1+in_ok-write-2, else-self-group-eq1}

pub loop-group-init : goal.loop-group-init
loop-group-init g c = (search rules, λ plain. c.in_ok-write.ensures.writes plain refl, refl)

pub loop-group-preserved : goal.loop-group-preserved
loop-group-preserved g c =
    let s = c.args.self.now in
    let k = c.loop-group.group-counter in
    let inv = c.loop-group.invariant in
    elim c.if-self-group-eq1.branch [
      | then-self-group-eq1+in_ok-write-2 w ↦
          let present = is_in s k w.if-self-group-eq1.true in (
            search rules,
            λ plain.
                let so_far = inv.1 plain in
                rw w.f-is
                (put_two _ _ _ _ _ _ _ so_far (w.in_ok-write-2.ensures.writes so_far.plain refl)
                (ap (λ t. 123 ∷ t) (written s k _ present inv.2))),
            rw (w.separator-is, below_with s k present) (sym (comma_more (below s k) k)),
          )
      | else-self-group-eq1 w ↦
          let absent = is_out s k w.if-self-group-eq1.false in
          rw (w.f-is, w.separator-is, below_without s k absent) inv
    ]

pub returns-clause-writes : goal.returns-clause-writes
returns-clause-writes g c = λ plain ok.
    let so_far = c.loop-group.invariant.1 plain in
    put_two _ _ _ _ _ _ _ so_far (c.write-2.ensures.writes so_far.plain ok) (ap (λ xs. 123 ∷ (listed xs ++ (125 ∷ []))) (all_below c.args.self.now c.loop-group.group-counter (omega arith)))

use Rattle.std.proofs.Common.{◌≡◌, ◌+◌, ◌<◌, ℕ, [], filter, length, sym, ap, ◌∙◌, rules, arith}
use Rattle.std.specs.List.{range_with_len}
use Rattle.std.proofs.lemmas.List.{map-id}
use Rattle.lists.proofs.Adding.{sifting_yes, sifting_no}
use Rattle.network.proofs.Sets.{numbers_are}
use Rattle.network.proofs.Few.{kept_few}
use Rattle.network.specs.Meanings.{set_of}
use Rattle.network.proofs.movement.admitted.Goals as goal
use Rattle.network.proofs.movement.admitted.Goals.{then-admits, else-admits}

pub loop-bits-init : goal.loop-bits-init
loop-bits-init g c = c.new-sets.ensures

pub push-requires : goal.push-requires
push-requires g c =
    let p = λ (b : ℕ). g.R.Rule.admitted c.args.rule.now (set_of b) in
    let few : length c.loop-bits.sets.items < 256 = omega (arith, ap length c.loop-bits.invariant, kept_few p c.loop-bits.bits, c.loop-bits.auto.bits-end) in
    (search rules, few)

pub loop-bits-preserved : goal.loop-bits-preserved
loop-bits-preserved g c =
    let p = λ (b : ℕ). g.R.Rule.admitted c.args.rule.now (set_of b) in
    elim c.if-admits.branch [
      | then-admits w ↦ ap (λ v. v.items) w.sets-is ∙ sifting_yes p (λ b. b) c.loop-bits.bits [] _ c.loop-bits.invariant _ _ c.admits.ensures w.if-admits.true w.push.ensures.items
      | else-admits w ↦ ap (λ v. v.items) w.sets-is ∙ sifting_no p (λ b. b) c.loop-bits.bits [] _ c.loop-bits.invariant _ c.admits.ensures w.if-admits.false
    ]

pub returns-after-admits : goal.returns-after-admits
returns-after-admits g c =
    let p = λ (b : ℕ). g.R.Rule.admitted c.args.rule.now (set_of b) in
    let k = c.loop-bits.bits in
    let last : k + 1 ≡ 256 = omega arith in
    let all = map-id (filter p (range_with_len 0 (k + 1))) ∙ ap (λ n. filter p (range_with_len 0 n)) last ∙ ap (filter p) (sym numbers_are) in
    elim c.if-admits.branch [
      | then-admits w ↦ ap (λ v. v.items) w.sets-is ∙ sifting_yes p (λ b. b) k [] _ c.loop-bits.invariant _ _ c.admits.ensures w.if-admits.true w.push.ensures.items ∙ all
      | else-admits w ↦ ap (λ v. v.items) w.sets-is ∙ sifting_no p (λ b. b) k [] _ c.loop-bits.invariant _ c.admits.ensures w.if-admits.false ∙ all
    ]

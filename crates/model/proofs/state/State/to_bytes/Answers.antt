use Rattle.std.proofs.Common.{◌≡◌, ℕ, length, ap, ◌∙◌, subst, arith, rules}
use Rattle.model.specs.Bytes.{unit_of}
use Rattle.model.proofs.Layouts.{Writing, writing_more, state_written, state_kept}
use Rattle.model.proofs.state.State.to_bytes.Goals as goal

pub loop-k-preserved : goal.loop-k-preserved
loop-k-preserved c =
    let n : length c.args.self.now.units ≡ 6 = search rules in
    let e = c.copy_from_slice.ensures.after in
    writing_more c.args.self.now.units c.loop-k.k c.loop-k.bytes _ _ n (omega (arith, n)) (omega arith) c.loop-k.invariant (e ∙ c.to_bytes.ensures.is) (ap unit_of e ∙ c.to_bytes.ensures.back)

pub returns : goal.returns
returns c =
    let n : length c.args.self.now.units ≡ 6 = search rules in
    let e : c.loop-k.k ≡ 6 = omega (arith, n) in
    let w = subst (λ (k : ℕ). Writing c.args.self.now.units k c.loop-k.bytes) e c.loop-k.invariant in
    record { is = state_written c.args.self.now c.loop-k.bytes w; back = state_kept c.args.self.now c.loop-k.bytes w }

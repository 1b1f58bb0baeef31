use Rattle.std.proofs.Common.{◌≡◌, length, sym, refl, ap, ◌∙◌, arith}
use Rattle.std.proofs.lemmas.List.{length-append}
use Rattle.model.specs.Bytes.{state_of, pair_of}
use Rattle.model.proofs.Layouts.{pair_written, pair_kept}
use Rattle.model.proofs.state.Pair.to_bytes.Goals as goal

pub slice_bounds-bytes-end-2 : goal.slice_bounds-bytes-end-2
slice_bounds-bytes-end-2 c = let n : length c.copy_from_slice.new.self ≡ 24 = c.copy_from_slice.ensures.len in simp length-append (omega (arith, n))

pub returns : goal.returns
returns c =
    let n : length c.copy_from_slice.new.self ≡ 24 = c.copy_from_slice.ensures.len in
    let l = c.copy_from_slice.ensures.after in
    let r = c.copy_from_slice-2.ensures.after in
    let e = pair_written c.args.self.now c.copy_from_slice.new.self _ _ n refl (l ∙ c.to_bytes.ensures.is) (r ∙ c.to_bytes-2.ensures.is) in
    let k = ap length (sym (l ∙ c.to_bytes.ensures.is)) ∙ n in
    record {
      is = e;
      back = ap pair_of e ∙ pair_kept c.args.self.now _ _ k (ap state_of (sym c.to_bytes.ensures.is) ∙ c.to_bytes.ensures.back) (ap state_of (sym c.to_bytes-2.ensures.is) ∙ c.to_bytes-2.ensures.back);
    }

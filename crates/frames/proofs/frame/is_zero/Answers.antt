use Rattle.std.proofs.Common.{◌==◌, ◌&&◌, sym, ap, ◌∙◌, get_or}
use Rattle.std.proofs.lemmas.List.{take_all}
use Rattle.std.proofs.lemmas.List.Folds.{list_all_more}
use Rattle.std.specs.List.{list_all}
use Rattle.frames.proofs.Zeros.{first_larger, second_larger}
use Rattle.frames.proofs.frame.is_zero.Goals as goal
use Rattle.frames.proofs.frame.is_zero.Goals.{then-byte-largest, else-byte-largest}

pub loop-byte-preserved : goal.loop-byte-preserved
loop-byte-preserved c =
    let bytes = c.args.bytes.now in
    let k = c.loop-byte.byte-index in
    let b = get_or bytes k 0 in
    let m = c.loop-byte.largest in
    let more = ap (λ t. t && (b == 0)) c.loop-byte.invariant ∙ sym (list_all_more (λ n. n == 0) bytes k 0 c.loop-byte-test.true) in
    elim c.if-byte-largest.branch [
      | then-byte-largest w ↦ ap (λ n. n == 0) w.largest-is ∙ second_larger m b w.if-byte-largest.true ∙ more
      | else-byte-largest w ↦ ap (λ n. n == 0) w.largest-is ∙ first_larger m b w.if-byte-largest.false ∙ more
    ]

pub returns : goal.returns
returns c = c.loop-byte.invariant ∙ ap (list_all (λ b. b == 0)) (take_all c.loop-byte.byte-index c.args.bytes.now c.loop-byte-test.false)

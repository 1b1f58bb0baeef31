use Rattle.std.proofs.Common.{◌≡◌, eqb, length, drop, replicate, ap, ◌∙◌, rules, arith}
use Rattle.std.specs.Cmp.Lexicographic.{pointwise}
use Rattle.std.proofs.lemmas.List.{length-drop}
use Rattle.sheet.specs.States.{zeros, sheet_lawful}
use Rattle.sheet.proofs.Bytes.{after_first, lawful_numbered, zeros_compared}
use Rattle.sheet.proofs.states.is_lawful.Goals as goal

pub returns : goal.returns
returns c =
    let s = c.args.state.now in
    let bytes = c.to_bytes.result in
    let n : length bytes ≡ 24 = search rules in
    let m : length (drop 1 bytes) ≡ 23 = simp length-drop (omega (arith, n)) in
    let e : c.eq.result ≡ sheet_lawful s =
    c.eq.ensures ∙ ap (λ xs. pointwise eqb xs (replicate 23 0)) (after_first bytes n) ∙ zeros_compared 23 (drop 1 bytes) m ∙ ap (λ b. zeros (drop 1 b)) c.to_bytes.ensures.is in
    record { is = e; numbered = lawful_numbered s bytes c.eq.result n c.to_bytes.ensures.is c.to_bytes.ensures.back e }

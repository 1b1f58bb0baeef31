-- Lists that got others behind them. Assumes nothing.
use Rattle.std.proofs.Common.{◌≡◌, ◌≤◌, List, [], ◌++◌, OnOk, OnErr, Ok, Err, Result, length, take, sym, refl, ap, ◌∙◌, append_assoc, arith}
use Rattle.std.proofs.lemmas.List.{append-nil, take_all, take-append-le}
use Rattle.lists.specs.Words.{Extends}

pub extends_same : {X : Type 0} (xs : List X) → Extends xs xs
extends_same xs = ([], sym (append-nil xs))

pub extends_then : {X : Type 0} (a b c : List X) → Extends a b → Extends b c → Extends a c
extends_then a b c p q = (p.0 ++ q.0, q.1 ∙ ap (λ l. l ++ q.0) p.1 ∙ append_assoc a p.0 q.0)

-- cut to its former length, it is what it was
pub extends_cut : {X : Type 0} (a b : List X) → Extends a b → take (length a) b ≡ a
extends_cut a b p = ap (take (length a)) p.1 ∙ take-append-le (length a) a p.0 (let h : length a ≤ length a = omega arith in h) ∙ take_all (length a) a (let h : length a ≤ length a = omega arith in h)

-- told of a call that failed
pub err_extends : {X T E : Type 0} (r : Result T E) (a b : List X) → Extends a b → OnErr r (Extends a b)
err_extends (Ok x) a b p = tt
err_extends (Err e) a b p = p

-- of a call that adds where it succeeds, and else changes nothing
pub extends_either : {X T E : Type 0} (r : Result T E) (a b xs : List X) → OnOk r (b ≡ a ++ xs) → OnErr r (b ≡ a) → Extends a b
extends_either (Ok x) a b xs adds leaves = (xs, adds)
extends_either (Err e) a b xs adds leaves = ([], leaves ∙ sym (append-nil a))

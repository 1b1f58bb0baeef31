-- A set that is not admitted is in no placement that is allowed. Assumes nothing.
use Rattle.std.proofs.Common.{◌≡◌, ℕ, zero, suc, Bool, true, false, ◌&&◌, List, [], ◌∷◌, refl, ap, ◌∙◌}
use Rattle.std.proofs.Math.Bool.{and-false}
use Rattle.std.proofs.lemmas.Bool.{true≢false}
use Rattle.lists.specs.Words.{Stands, every_from, every}
use Rattle.lists.proofs.Places.{some_none}

refused_from : {X : Type 0} (p : X → Bool) (n : ℕ) (xs : List X) (k : ℕ) (x : X) → Stands xs x k → p x ≡ false → every_from (λ _. p) n xs ≡ false
refused_from p n [] k x at e = absurd (some_none _ _ at refl)
refused_from p n (y ∷ ys) zero x at e = let s : y ≡ x = cc in ap (λ z. p z && every_from (λ _. p) (suc n) ys) s ∙ ap (λ b. b && every_from (λ _. p) (suc n) ys) e
refused_from p n (y ∷ ys) (suc k) x at e = ap (λ b. p y && b) (refused_from p (suc n) ys k x at e) ∙ and-false (p y)

-- where the test is of each set alone
pub one_refused : {X : Type 0} (p : X → Bool) (xs : List X) (k : ℕ) (x : X) → Stands xs x k → p x ≡ false → every p xs ≡ false
one_refused p xs k x at e = refused_from p 0 xs k x at e

-- where all sets are admitted
pub none_barred : {X : Type 0} → true ≡ false → X
none_barred e = absurd (true≢false e)

-- where two rules are asked
pub both_barred : (a b p q : Bool) → (a ≡ false → p ≡ false) → (b ≡ false → q ≡ false) → a && b ≡ false → p && q ≡ false
both_barred false b p q f g e = ap (λ c. c && q) (f refl)
both_barred true b p q f g e = ap (λ c. p && c) (g e) ∙ and-false p

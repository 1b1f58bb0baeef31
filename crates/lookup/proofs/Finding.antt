-- The first element that passes a test which one value alone passes is the first at which that value stands. Assumes nothing.
use Rattle.std.proofs.Common.{◌≡◌, ℕ, zero, suc, ◌+◌, ◌<◌, Bool, true, false, cond, List, [], ◌∷◌, Some, None, Option, Decides, refl, ap, sym, ◌∙◌, subst, arith}
use Rattle.std.specs.List.{position, position_from}
use Rattle.std.proofs.lemmas.Iterator.Adapters.{position_from-zero}
use Rattle.lists.specs.Words.{Stands, FirstOf}
use Rattle.lists.proofs.Places.{some_none}

module _ {X : Type 0} (w : X) where
  -- what a search tells that numbers the elements from b on
  abbrev From : List X → ℕ → Option ℕ → Type 0
  From xs b None = (k : ℕ) → Stands xs w k → ⊥
  From xs b (Some i) = (j : ℕ) × (i ≡ b + j) × (Stands xs w j × ((k : ℕ) → k < j → Stands xs w k → ⊥))

  no : false ≡ true → ⊥
  no e = let z : ◌≡◌ {A = ℕ} 0 1 = cc in omega arith

  -- no place before the one after j, where x is not the value and none stands below j in the rest
  below : (x : X) (xs : List X) (b j : ℕ) → Decides false (x ≡ w) → ((k : ℕ) → k < j → Stands xs w k → ⊥) → (k : ℕ) → k < suc j → Stands (x ∷ xs) w k → ⊥
  below x xs b j d rest zero h e = no (d.1 cc)
  below x xs b j d rest (suc k) h e = rest k (omega arith) e

  nowhere : (x : X) (xs : List X) → Decides false (x ≡ w) → ((k : ℕ) → Stands xs w k → ⊥) → (k : ℕ) → Stands (x ∷ xs) w k → ⊥
  nowhere x xs d rest zero e = no (d.1 cc)
  nowhere x xs d rest (suc k) e = rest k e

  head : (x : X) (xs : List X) (b : ℕ) (t : Bool) → Decides t (x ≡ w) → (o : Option ℕ) → From xs (b + 1) o → From (x ∷ xs) b (cond t (Some b) o)
  head x xs b true d o rest = (0, omega arith, (ap Some (d.0 refl), λ k h. absurd (omega arith)))
  head x xs b false d None rest = nowhere x xs d rest
  head x xs b false d (Some i) rest = (suc rest.0, omega arith, (rest.2.0, below x xs b rest.0 d rest.2.1))

  from : (test : X → Bool) → ((x : X) → Decides (test x) (x ≡ w)) → (xs : List X) (b : ℕ) → From xs b (position_from test b xs)
  from test d [] b = λ k e. some_none _ _ e refl
  from test d (x ∷ xs) b = head x xs b (test x) (d x) _ (from test d xs (b + 1))

  first : (xs : List X) (o : Option ℕ) → From xs 0 o → FirstOf (Stands xs w) o
  first xs None f = f
  first xs (Some i) f = let e : f.0 ≡ i = omega arith in subst (λ (k : ℕ). Stands xs w k × ((n : ℕ) → n < k → Stands xs w n → ⊥)) e f.2

  pub first_found : (test : X → Bool) → ((x : X) → Decides (test x) (x ≡ w)) → (xs : List X) (r : Option ℕ) → r ≡ position test xs → FirstOf (Stands xs w) r
  first_found test d xs r e = subst (FirstOf (Stands xs w)) (sym (e ∙ position_from-zero test xs)) (first xs _ (from test d xs 0))

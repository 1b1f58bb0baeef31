-- A placement that is allowed, and one unit of it on another set. Assumes nothing.
use Rattle.std.proofs.Common.{◌≡◌, ℕ, zero, suc, ◌+◌, ◌<◌, Bool, true, false, not, ◌&&◌, ◌||◌, List, [], ◌∷◌, length, slice_set, refl, sym, ap, ap₂, ◌∙◌, arith}
use Rattle.std.specs.List.{slice_get}
use Rattle.std.proofs.Math.Bool.{and-true}
use Rattle.std.proofs.lemmas.Bool.{and_parts, or_parts, eqb-false}
use Rattle.lists.specs.Words.{every_from}
use Rattle.model.specs.declared.group_set.GroupSet.{GroupSet}
use Rattle.rules.specs.declared.link.Link.{Link}
use Rattle.rules.specs.LinkRecords.{concerns, met, met_by, met_of}
use Rattle.rules.specs.LinkRules.{meets, meets_of}

changed_from : {X : Type 0} (f : ℕ → X → Bool) (k : ℕ) (xs : List X) (i : ℕ) (x : X) → every_from f k xs ≡ true → i < length xs → f (i + k) x ≡ every_from f k (slice_set xs i x)
changed_from f k [] i x e h = absurd (omega arith)
changed_from f k (y ∷ ys) zero x e h =
    let here : 0 + k ≡ k = omega arith in
    ap (λ n. f n x) here ∙ sym (ap (λ b. f k x && b) (and_parts _ _ e).1 ∙ and-true (f k x))
changed_from f k (y ∷ ys) (suc i) x e h =
    let there : suc i + k ≡ i + suc k = omega arith in
    let parts = and_parts (f k y) (every_from f (suc k) ys) e in
    ap (λ n. f n x) there ∙ changed_from f (suc k) ys i x parts.1 (omega arith) ∙ sym (ap (λ b. b && every_from f (suc k) (slice_set ys i x)) parts.0)

-- where the test is of each set by itself
pub one_changed : {X : Type 0} (f : ℕ → X → Bool) (xs : List X) (i : ℕ) (x : X) → every_from f 0 xs ≡ true → i < length xs → f i x ≡ every_from f 0 (slice_set xs i x)
one_changed f xs i x e h = let start : i ≡ i + 0 = omega arith in ap (λ n. f n x) start ∙ changed_from f 0 xs i x e h

-- where two rules are asked
pub both_followed : (a b p q r s : Bool) → (p ≡ true → a ≡ r) → (q ≡ true → b ≡ s) → p && q ≡ true → a && b ≡ r && s
both_followed a b p q r s f g e = let parts = and_parts p q e in ap₂ (λ x y. x && y) (f parts.0) (g parts.1)

same_from : {X : Type 0} (p q r : X → Bool) → ((x : X) → p x ≡ true → q x ≡ r x) → (k : ℕ) (xs : List X) → every_from (λ _. p) k xs ≡ true → every_from (λ _. q) k xs ≡ every_from (λ _. r) k xs
same_from p q r f k [] e = refl
same_from p q r f k (x ∷ xs) e =
    let parts = and_parts (p x) (every_from (λ _. p) (suc k) xs) e in
    ap₂ (λ a b. a && b) (f x parts.0) (same_from p q r f (suc k) xs parts.1)

get_other : {X : Type 0} (xs : List X) (i j : ℕ) (x : X) → (j ≡ i → ⊥) → slice_get (slice_set xs i x) j ≡ slice_get xs j
get_other [] i j x ne = refl
get_other (y ∷ ys) zero zero x ne = absurd (ne refl)
get_other (y ∷ ys) zero (suc j) x ne = refl
get_other (y ∷ ys) (suc i) zero x ne = refl
get_other (y ∷ ys) (suc i) (suc j) x ne = get_other ys i j x (λ e. ne (ap suc e))

pass_or : (b m : Bool) → (b ≡ false → m ≡ true) → not b || m ≡ m
pass_or true m f = refl
pass_or false m f = sym (f refl)

module _ (sets : List GroupSet) (unit : ℕ) (set : GroupSet) where
  abbrev changed : List GroupSet
  changed = slice_set sets unit set

  -- a link that does not concern the unit sees what it saw
  unmoved : (l : Link) → concerns unit l ≡ false → met changed l ≡ met sets l
  unmoved l e =
      let parts = or_parts _ _ e in
      ap₂ (met_by l.kind) (get_other sets unit l.one set (eqb-false _ _ parts.0)) (get_other sets unit l.other set (eqb-false _ _ parts.1))

  pub links_followed : (links : List Link) → meets links sets ≡ true → meets_of unit links changed ≡ meets links changed
  links_followed links e = same_from (met sets) (met_of unit changed) (met changed) (λ l was. pass_or (concerns unit l) (met changed l) (λ no. unmoved l no ∙ was)) 0 links e

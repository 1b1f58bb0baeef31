-- The product of what an iterator gives. Assumes nothing.
use Rattle.std.proofs.Common.{◌≡◌, ℕ, suc, ◌*◌, ◌^◌, ◌<◌, ◌≤◌, List, [], ◌∷◌, map, length, Option, sym, refl, ap, ◌∙◌, subst, mul-one, one-mul, mul_assoc, arith}
use native.Mathlib.Nat.{pow-le-pow_right}
use Rattle.std.specs.declared.iter.Map.{Map}
use Rattle.std.specs.List.{fold}
use Rattle.std.specs.Iterator.{Yields}
use Rattle.std.specs.Iterator.Adapters.{map_source, map_callee, map_steps}
use Rattle.std.specs.Iterator.Runs.{EachRunFrom}
use Rattle.std.proofs.iter.runs.Made.{runs_from_along}
use Rattle.std.proofs.Math.Nat.{pow-zero, pow-succ'}
use Rattle.std.proofs.lemmas.Nat.{mul-le}
use Rattle.std.proofs.lemmas.Iterator.Adapters.{YieldsAtMost}
use denote.Param.Members.{Mut, Called}
use Rattle.lists.specs.Products.{volume}

-- of an iterator that gives at most n items, where what a call at an item may answer is at most m
module _ {S A F : Type 0} (steps : S → Option A → S → Type 0) (g : Mut F (A × Unit {0}) ℕ) (f : F) (m : ℕ) where
  product_low : ((x : A) (r : ℕ) (q : F) → Called g f (x, tt) r q → (q ≡ f) × (r ≤ m)) → (xs : List ℕ) (s t : Map S F) (a b : ℕ) → map_callee s ≡ f → Yields (map_steps steps g) s xs t → a ≤ b → fold (λ c x. c * x) a xs ≤ b * m ^ length xs
  product_low low [] s t a b e y h = omega (arith, h, ap (λ k. b * k) (pow-zero m), mul-one b)
  product_low low (x ∷ xs) s t a b e y h =
      let call = low y.1.0 x (map_callee y.0) (subst (λ p. Called g p (y.1.0, tt) x (map_callee y.0)) e y.1.2) in
      let rest = product_low low xs y.0 t (a * x) (b * m) call.0 y.2 (mul-le a x b m h call.1) in
      let same : b * m * m ^ length xs ≡ b * m ^ suc (length xs) = mul_assoc b m (m ^ length xs) ∙ ap (λ k. b * k) (sym (pow-succ' m (length xs))) in
      omega (arith, rest, same)

  taken : (xs : List ℕ) (s t : Map S F) → Yields (map_steps steps g) s xs t → (zs : List A) × (length zs ≡ length xs) × Yields steps (map_source s) zs (map_source t)
  taken [] s t y = ([], refl, ap map_source y)
  taken (x ∷ xs) s t y = let r = taken xs y.0 t y.2 in (y.1.0 ∷ r.0, ap suc r.1, (map_source y.0, y.1.1, r.2))

  pub product_fits : (s : Map S F) (n top : ℕ) → YieldsAtMost steps (map_source s) n → map_callee s ≡ f → 1 ≤ m → m ^ n < top → ((x : A) (r : ℕ) (q : F) → Called g f (x, tt) r q → (q ≡ f) × (r ≤ m)) → EachRunFrom (map_steps steps g) s (λ p. fold (λ c x. c * x) 1 p.items < top)
  product_fits s n top most e some h low =
      runs_from_along (map_steps steps g) s (λ xs. fold (λ c x. c * x) 1 xs < top) (λ xs t y.
      let z = taken xs s t y in
      let l : length xs ≤ n = omega (arith, z.1, most.runs z.0 (map_source t) z.2) in
      let up : m ^ length xs ≤ m ^ n = pow-le-pow_right some l in
      let p : fold (λ c x. c * x) 1 xs ≤ 1 * m ^ length xs = product_low low xs s t 1 1 e y (omega arith) in
      omega (arith, p, up, one-mul (m ^ length xs)))

-- the product of the lengths
pub volume_fold : {X : Type 0} (a : ℕ) (xss : List (List X)) → fold (λ c x. c * x) a (map length xss) ≡ a * volume xss
unfolding volume
volume_fold a [] = sym (mul-one a)
volume_fold a (xs ∷ xss) = volume_fold (a * length xs) xss ∙ mul_assoc a (length xs) (volume xss)

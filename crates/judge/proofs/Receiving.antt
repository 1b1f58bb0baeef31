-- What is held of the receives of a state. Assumes nothing.
use Rattle.std.proofs.Common.{◌≡◌, ℕ, zero, suc, ◌+◌, Bool, true, false, cond, List, [], ◌∷◌, ◌++◌, length, map, filter, take, ℤ, Some, IfOk, Ok, Err, Result, sym, refl, ap, ◌∙◌, subst, arith}
use Rattle.std.specs.List.{slice_get, enumerate_from}
use Rattle.std.specs.Result.{result_ok}
use Rattle.lists.specs.Words.{Stands}
use Rattle.std.proofs.lemmas.List.{append-nil, length-take-le}
use Rattle.lists.proofs.Loops.{take_nth}
use Rattle.lists.proofs.Places.{some_none, some_same, nth_within}
use Rattle.lists.proofs.Listed.{nth_map_some}
use Rattle.model.specs.declared.state.State.{State}
use Rattle.systems.specs.declared.listed.Listed.{Listed}
use Rattle.systems.specs.Listing.{listed_at, listing, receives_in}
use Rattle.systems.specs.Meaning.{Meaning, Step, receives}
use Rattle.judge.specs.Receiving.{receiving_from, Tell}

-- the step with the number i, counted from n, is one of the steps xs, and stands at the place k of ys
abbrev There : ℕ → List Step → List Step → ℕ → ℕ → Type 0
There n xs ys i k = (j : ℕ) × (x : Step) × (i ≡ n + j) × Stands xs x j × Stands ys x k

later : (n : ℕ) (y : Step) (xs ys : List Step) (i k : ℕ) → There (n + 1) xs ys i k → There n (y ∷ xs) ys i k
later n y xs ys i k r = (suc r.0, r.1, r.2 ∙ omega arith, r.3, r.4)

module _ (m : Meaning) (v : ℤ) where
  receive_there : (n : ℕ) (xs : List Step) (i k : ℕ) → Stands (receiving_from n (map (listed_at m v) xs)) i k → There n xs (receives_in xs) i k
  receive_there n [] i k at = absurd (some_none _ _ at refl)
  receive_there n (y ∷ ys) i k at =
      let rest : List (ℕ × Listed) = filter (λ p. receives p.1.label) (enumerate_from (n + 1) (map (listed_at m v) ys)) in
      let next : (l : ℕ) → Stands (map (λ p. p.0) rest) i l → There n (y ∷ ys) (receives_in ys) i l = λ l h. later n y ys (receives_in ys) i l (receive_there (n + 1) ys i l h) in
      elim (receives y.label) as (λ b. Stands (map (λ p. p.0) (cond b ((n, listed_at m v y) ∷ rest) rest)) i k → There n (y ∷ ys) (cond b (y ∷ receives_in ys) (receives_in ys)) i k) [
        | true ↦ elim k as (λ l. Stands (n ∷ map (λ p. p.0) rest) i l → There n (y ∷ ys) (y ∷ receives_in ys) i l) [ zero ↦ (λ h. (0, y, sym (some_same _ n i refl h) ∙ omega arith, refl, refl)) | suc l ↦ next l ]
        | false ↦ next k
      ] at

  pub tell : {W : Type 0} (s : State) (ys : List Listed) (ks : List ℕ) (told : W → Step) (ws : List W) → ys ≡ listing m s v → ks ≡ receiving_from 0 ys → map told ws ≡ receives_in (m.steps s)
      → Tell (m.steps s) told ks ws
  tell s ys ks told ws listed numbers same k i w i-at w-at =
      let r = receive_there 0 (m.steps s) i k (ap (λ ns. slice_get ns k) (ap (receiving_from 0) (sym listed) ∙ sym numbers) ∙ i-at) in
      let x : r.1 ≡ told w = some_same _ _ _ r.4 (ap (λ zs. slice_get zs k) (sym same) ∙ nth_map_some told ws k w w-at) in
      let e : i ≡ r.0 = r.2 ∙ omega arith in
      ap (slice_get (m.steps s)) e ∙ r.3 ∙ ap Some x

-- one step more
receiving_push : (n : ℕ) (ys : List Listed) (y : Listed) (b : Bool) → receives y.label ≡ b → receiving_from n (ys ++ y ∷ []) ≡ receiving_from n ys ++ cond b ((n + length ys) ∷ []) []
receiving_push n [] y b e =
    ap (λ d. map (λ (p : ℕ × Listed). p.0) (cond d ((n, y) ∷ []) [])) e ∙ elim b as (λ d. map (λ (p : ℕ × Listed). p.0) (cond d ((n, y) ∷ []) []) ≡ cond d ((n + 0) ∷ []) []) [ true ↦ ap (λ k. k ∷ []) (omega arith) | false ↦ refl ]
receiving_push n (z ∷ zs) y b e =
    let next : receiving_from (n + 1) (zs ++ y ∷ []) ≡ receiving_from (n + 1) zs ++ cond b ((n + length (z ∷ zs)) ∷ []) [] =
    receiving_push (n + 1) zs y b e ∙ ap (λ k. receiving_from (n + 1) zs ++ cond b (k ∷ []) []) (omega arith) in
    elim (receives z.label) as (λ d. map (λ (p : ℕ × Listed). p.0) (cond d ((n, z) ∷ filter (λ p. receives p.1.label) (enumerate_from (n + 1) (zs ++ y ∷ []))) (filter (λ p. receives p.1.label) (enumerate_from (n + 1) (zs ++ y ∷ [])))) ≡ map (λ (p : ℕ × Listed). p.0) (cond d ((n, z) ∷ filter (λ p. receives p.1.label) (enumerate_from (n + 1) zs)) (filter (λ p. receives p.1.label) (enumerate_from (n + 1) zs))) ++ cond b ((n + length (z ∷ zs)) ∷ []) []) [
      | true ↦ ap (λ ks. n ∷ ks) next
      | false ↦ next
    ]

module _ (ys : List Listed) (k : ℕ) (y : Listed) (ks : List ℕ) (at : Stands ys y k) where
  so_far : (b : Bool) → receives y.label ≡ b → ks ≡ receiving_from 0 (take k ys) → ks ++ cond b (k ∷ []) [] ≡ receiving_from 0 (take (k + 1) ys)
  so_far b e inv =
      let long : length (take k ys) ≡ k = length-take-le k ys (let h = nth_within ys k y at in omega (arith, h)) in
      ap (λ ls. ls ++ cond b (k ∷ []) []) inv ∙ ap (λ m. receiving_from 0 (take k ys) ++ cond b (m ∷ []) []) (sym long ∙ (let e : length (take k ys) ≡ 0 + length (take k ys) = omega arith in e)) ∙ sym (receiving_push 0 (take k ys) y b e) ∙ ap (receiving_from 0) (sym (take_nth ys k y at))

  pub receiving_yes : receives y.label ≡ true → ks ≡ receiving_from 0 (take k ys) → ks ++ k ∷ [] ≡ receiving_from 0 (take (k + 1) ys)
  receiving_yes = so_far true

  pub receiving_no : receives y.label ≡ false → ks ≡ receiving_from 0 (take k ys) → ks ≡ receiving_from 0 (take (k + 1) ys)
  receiving_no e inv = sym (append-nil ks) ∙ so_far false e inv

-- what holds of what a result holds
pub value_of_ok : {V E : Type 0} (P : V → Type 0) (r : Result V E) (v : V) → Some v ≡ result_ok r → IfOk r P → P v
value_of_ok P (Ok w) v e h = subst P (some_same _ w v refl (sym e)) h
value_of_ok P (Err x) v e h = absurd (some_none _ _ (sym e) refl)

-- Laws of the first no. Assumes nothing.
use Rattle.std.proofs.Common.{◌≡◌, ℕ, zero, suc, ◌+◌, ◌≤◌, Bool, true, false, cond, List, [], ◌∷◌, ◌++◌, length, drop, Some, None, Option, sym, refl, ap, ◌∙◌, add-zero, add-one, arith}
use Rattle.std.specs.List.{slice_get}
use Rattle.std.proofs.lemmas.List.{drop_all}
use Rattle.lists.specs.Words.{through}
use Rattle.lists.proofs.Places.{some_none, drop_nth}
use Rattle.questions.specs.Asking.{Question, first_no, ask, numbered, restated}

-- the head of a list of questions as it computes: b is its answer, o what the others say, and t what its no says
pub head_none : {A : Type 0} (b : Bool) (o : Option A) (t : A) → cond b o (Some t) ≡ None → (b ≡ true) × (o ≡ None)
head_none true o t e = (refl, e)
head_none false o t e = absurd (some_none _ _ refl e)

pub head_yes : {A : Type 0} (b : Bool) (o : Option A) (t : A) {r : Option A} → b ≡ true → o ≡ r → cond b o (Some t) ≡ r
head_yes b o t e h = rw e h

pub head_no : {A : Type 0} (b : Bool) (o : Option A) (t : A) → b ≡ false → cond b o (Some t) ≡ Some t
head_no b o t e = rw e

-- a list of questions before others
pub append_none : {A : Type 0} (xs ys : List (Question A)) → first_no xs ≡ None → first_no (xs ++ ys) ≡ first_no ys
append_none [] ys e = refl
append_none (q ∷ xs) ys e =
    elim q.yes as (λ b. cond b (first_no xs) (Some q.says) ≡ None → cond b (first_no (xs ++ ys)) (Some q.says) ≡ first_no ys)
    [ true ↦ (λ h. append_none xs ys h) | false ↦ (λ h. absurd (some_none _ _ refl h)) ] e

pub append_some : {A : Type 0} (xs ys : List (Question A)) (t : A) → first_no xs ≡ Some t → first_no (xs ++ ys) ≡ Some t
append_some [] ys t e = absurd (some_none _ _ e refl)
append_some (q ∷ xs) ys t e =
    elim q.yes as (λ b. cond b (first_no xs) (Some q.says) ≡ Some t → cond b (first_no (xs ++ ys)) (Some q.says) ≡ Some t)
    [ true ↦ (λ h. append_some xs ys t h) | false ↦ (λ h. h) ] e

pub append_left : {A : Type 0} (xs ys : List (Question A)) → first_no (xs ++ ys) ≡ None → first_no xs ≡ None
append_left [] ys e = refl
append_left (q ∷ xs) ys e =
    elim q.yes as (λ b. cond b (first_no (xs ++ ys)) (Some q.says) ≡ None → cond b (first_no xs) (Some q.says) ≡ None)
    [ true ↦ (λ h. append_left xs ys h) | false ↦ (λ h. absurd (some_none _ _ refl h)) ] e

pub append_right : {A : Type 0} (xs ys : List (Question A)) → first_no (xs ++ ys) ≡ None → first_no ys ≡ None
append_right xs ys e = sym (append_none xs ys (append_left xs ys e)) ∙ e

-- one question
pub ask_yes : {A : Type 0} (a : A) (b : Bool) → first_no (ask a b) ≡ None → b ≡ true
ask_yes a true e = refl
ask_yes a false e = absurd (some_none _ _ refl e)

pub ask_none : {A : Type 0} (a : A) (b : Bool) → b ≡ true → first_no (ask a b) ≡ None
ask_none a b e = rw e

pub ask_no : {A : Type 0} (a : A) (b : Bool) → b ≡ false → first_no (ask a b) ≡ Some a
ask_no a b e = rw e

pub first_restated : {A B : Type 0} (f : A → B) (qs : List (Question A)) → first_no (restated f qs) ≡ through f (first_no qs)
first_restated f [] = refl
first_restated f (q ∷ qs) =
    elim q.yes as (λ b. cond b (first_no (restated f qs)) (Some (f q.says)) ≡ through f (cond b (first_no qs) (Some q.says)))
    [ true ↦ first_restated f qs | false ↦ refl ]

module _ {X A : Type 0} (f : ℕ → X → List (Question A)) where
  -- a loop over a list: what is left to ask has the first no of all
  pub numbered_more : (xs : List X) (k : ℕ) (x : X) → slice_get xs k ≡ Some x → first_no (f k x) ≡ None → first_no (numbered f k (drop k xs)) ≡ first_no (numbered f (k + 1) (drop (k + 1) xs))
  numbered_more xs k x at e =
      rw add-one (ap (λ ys. first_no (numbered f k ys)) (drop_nth xs k x at) ∙ append_none (f k x) (numbered f (suc k) (drop (suc k) xs)) e)

  pub numbered_here : (xs : List X) (k : ℕ) (x : X) (t : A) → slice_get xs k ≡ Some x → first_no (f k x) ≡ Some t → first_no (numbered f k (drop k xs)) ≡ Some t
  numbered_here xs k x t at e = ap (λ ys. first_no (numbered f k ys)) (drop_nth xs k x at) ∙ append_some (f k x) (numbered f (suc k) (drop (suc k) xs)) t e

  pub numbered_all : (xs : List X) (k : ℕ) → length xs ≤ k → first_no (numbered f k (drop k xs)) ≡ None
  numbered_all xs k h = ap (λ ys. first_no (numbered f k ys)) (drop_all k xs h)

  -- there is no no exactly where no item has one
  pub numbered_none : (k : ℕ) (xs : List X) → ((i : ℕ) (x : X) → slice_get xs i ≡ Some x → first_no (f (k + i) x) ≡ None) → first_no (numbered f k xs) ≡ None
  numbered_none k [] h = refl
  numbered_none k (x ∷ xs) h =
      append_none (f k x) (numbered f (suc k) xs) (rw (add-zero k) at (h 0 x refl))
      ∙ numbered_none (suc k) xs (λ i y e. let s : k + suc i ≡ suc k + i = omega arith in rw s at (h (suc i) y e))

  pub numbered_each : (k : ℕ) (xs : List X) → first_no (numbered f k xs) ≡ None → (i : ℕ) (x : X) → slice_get xs i ≡ Some x → first_no (f (k + i) x) ≡ None
  numbered_each k [] e i x at = absurd (some_none _ _ at refl)
  numbered_each k (y ∷ ys) e zero x at =
      let s : y ≡ x = cc in
      let h = append_left (f k y) (numbered f (suc k) ys) e in
      rw (add-zero k) (rw s at h)
  numbered_each k (y ∷ ys) e (suc i) x at =
      let s : k + suc i ≡ suc k + i = omega arith in
      rw s (numbered_each (suc k) ys (append_right (f k y) (numbered f (suc k) ys) e) i x at)

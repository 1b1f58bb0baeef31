-- The texts of one more item. Assumes nothing.
use Rattle.std.proofs.Common.{◌≡◌, ℕ, zero, suc, ◌+◌, ◌<◌, List, [], ◌∷◌, ◌++◌, take, length, get_or, min, ap, sym, ◌∙◌, append_assoc, append-nil, add-zero, add-one, arith}
use Rattle.std.proofs.lemmas.List.{take_min}
use Rattle.model.specs.declared.state.State.{State}
use Rattle.model.specs.declared.unit_state.UnitState.{UnitState}
use Rattle.words.specs.Texts.{numbered_text, units_text, state_text}

module _ {X : Type 0} (f : ℕ → X → List ℕ) (d : X) where
  numbered_more : (j : ℕ) (xs : List X) (k : ℕ) → k < length xs → numbered_text f j (take (suc k) xs) ≡ numbered_text f j (take k xs) ++ f (j + k) (get_or xs k d)
  numbered_more j [] k h = absurd (omega arith)
  numbered_more j (y ∷ ys) zero h = rw (add-zero j) (append-nil (f j y))
  numbered_more j (y ∷ ys) (suc k) h =
      let s : j + suc k ≡ suc j + k = omega arith in
      let within : k < length ys = omega arith in
      rw s (ap (λ t. f j y ++ t) (numbered_more (suc j) ys k within) ∙ sym (append_assoc (f j y) _ _))

  -- one more item behind those that are written
  pub numbered_next : (xs : List X) (k : ℕ) → k < length xs → numbered_text f 0 (take k xs) ++ f k (get_or xs k d) ≡ numbered_text f 0 (take (k + 1) xs)
  numbered_next xs k h =
      let z : 0 + k ≡ k = omega arith in
      let e = rw z at (numbered_more 0 xs k h) in
      rw add-one (sym e)

-- no more units are shown than there are
pub shown_units : (n m : ℕ) (us : List UnitState) (s : State) → us ≡ s.units → m ≡ min n (length us) → units_text (take m us) ≡ state_text n s
unfolding state_text
shown_units n m us s same e = ap (λ xs. units_text xs) (rw e (take_min n us) ∙ ap (λ xs. take n xs) same)

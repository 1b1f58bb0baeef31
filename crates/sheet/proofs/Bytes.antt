-- The bytes of a sheet's states. Assumes nothing.
use Rattle.std.proofs.Common.{◌≡◌, ℕ, zero, suc, Bool, true, ◌&&◌, eqb, List, [], ◌∷◌, map, length, get_or, slice_index_or, slice_set, take, drop, replicate, Decides, sym, refl, ap, ◌∙◌, arith}
use Rattle.std.specs.List.{range_with_len}
use Rattle.std.specs.Cmp.Lexicographic.{pointwise}
use Rattle.std.proofs.lemmas.List.{length-drop, take_all}
use Rattle.std.proofs.lemmas.Bool.{eqb-true, and_parts}
use Rattle.lists.specs.Words.{every_from}
use Rattle.model.specs.Bytes.{zero_unit, state_of, state_bytes}
use Rattle.model.specs.declared.unit_state.UnitState.{UnitState}
use Rattle.model.specs.declared.state.State.{State}
use Rattle.sheet.specs.States.{zeros, sheet_lawful, number_of, state_at}

-- the bytes after the first, as code cuts them out
pub after_first : (bytes : List ℕ) → length bytes ≡ 24 → take 23 (drop 1 bytes) ≡ drop 1 bytes
after_first bytes n = take_all 23 (drop 1 bytes) (simp length-drop (omega (arith, n)))

-- the state with a number is lawful
pub lawful_at : (n : ℕ) → sheet_lawful (state_at n) ≡ true
unfolding state_of state_bytes
lawful_at n = refl

pub number_at : (n : ℕ) → number_of (state_at n) ≡ n
unfolding state_of state_bytes
number_at n = refl

-- six zero units, the first of them at the location n
pub numbered_unit : (us : List UnitState) (n : ℕ) → us ≡ map (λ _. zero_unit) (range_with_len 0 6)
    → ◌≡◌ {A = State} (record { units = slice_set us 0 (record { location = n; first = (slice_index_or us 0 zero_unit).first; second = (slice_index_or us 0 zero_unit).second; groups = (slice_index_or us 0 zero_unit).groups }) }) (state_at n)
unfolding state_of
numbered_unit us n e =
    ap (λ (xs : List UnitState). record { units = slice_set xs 0 (record { location = n; first = (slice_index_or xs 0 zero_unit).first; second = (slice_index_or xs 0 zero_unit).second; groups = (slice_index_or xs 0 zero_unit).groups }) }) e

-- compared with zeros, byte by byte
pub zeros_compared : (n : ℕ) (bytes : List ℕ) → length bytes ≡ n → pointwise eqb bytes (replicate n 0) ≡ zeros bytes
zeros_compared n bytes e = from 0 n bytes e
  where
    from : (k n : ℕ) (bytes : List ℕ) → length bytes ≡ n → pointwise eqb bytes (replicate n 0) ≡ every_from (λ _ b. eqb b 0) k bytes
    from k zero [] e = refl
    from k zero (b ∷ bytes) e = absurd (omega (arith, e))
    from k (suc n) [] e = absurd (omega (arith, e))
    from k (suc n) (b ∷ bytes) e = ap (λ t. eqb b 0 && t) (from (suc k) n bytes (omega (arith, e)))

all_zeros : (n k : ℕ) (bytes : List ℕ) → length bytes ≡ n → every_from (λ _ b. eqb b 0) k bytes ≡ true → bytes ≡ replicate n 0
all_zeros zero k [] e z = refl
all_zeros zero k (b ∷ bytes) e z = absurd (omega (arith, e))
all_zeros (suc n) k [] e z = absurd (omega (arith, e))
all_zeros (suc n) k (b ∷ bytes) e z =
    let p = and_parts (eqb b 0) (every_from (λ _ b. eqb b 0) (suc k) bytes) z in
    let h : b ≡ 0 = eqb-true b 0 p.0 in
    let t : bytes ≡ replicate n 0 = all_zeros n (suc k) bytes (omega (arith, e)) p.1 in
    ap (λ x. x ∷ bytes) h ∙ ap (λ xs. 0 ∷ xs) t

first_and_zeros : (bytes : List ℕ) → length bytes ≡ 24 → zeros (drop 1 bytes) ≡ true → bytes ≡ get_or bytes 0 0 ∷ replicate 23 0
first_and_zeros [] e z = absurd (omega (arith, e))
first_and_zeros (b ∷ bytes) e z = ap (λ xs. b ∷ xs) (all_zeros 23 0 bytes (omega (arith, e)) z)

-- the lawful states are those that a number stands for
pub lawful_numbered : (s : State) (bytes : List ℕ) (r : Bool) → length bytes ≡ 24 → bytes ≡ state_bytes s → state_of bytes ≡ s → r ≡ sheet_lawful s → Decides r ((n : ℕ) × (s ≡ state_at n))
lawful_numbered s bytes r n is back e = (
  λ t. (get_or bytes 0 0, sym back ∙ ap state_of (first_and_zeros bytes n (ap (λ b. zeros (drop 1 b)) is ∙ sym e ∙ t))),
  λ p. e ∙ ap sheet_lawful p.1 ∙ lawful_at p.0,
)

-- the first byte of a state is the location of unit 0
pub first_byte : (s : State) → (get_or s.units 0 zero_unit).location ≡ number_of s
unfolding state_bytes
first_byte s = at_first s.units
  where
    at_first : (us : List UnitState) → (get_or us 0 zero_unit).location ≡ number_of (record { units = us })
    at_first [] = refl
    at_first (u ∷ us) = refl

-- Bytes and what they stand for. Assumes nothing.
use Rattle.std.proofs.Common.{◌≡◌, ℕ, ◌+◌, ◌*◌, ◌<◌, List, [], ◌∷◌, ◌++◌, length, get_or, take, drop, sym, refl, ap, ◌∙◌, arith, lit<, below_more}
use Rattle.std.specs.List.{flat_map}
use Rattle.std.proofs.lemmas.List.FromFn.{fill_by_all}
use Rattle.std.proofs.Concat.{flat_map-take_more}
use Rattle.std.proofs.lemmas.Slice.{take-put_mid}
use borrow.Rule.Slice.PartMut.{put_mid}
use Rattle.std.proofs.lemmas.List.{length-take, length-drop, length-append, take_all, take_at, take-append-drop, drop_at, drop_all, append-nil}
use Rattle.lists.proofs.Records.{joined_cut}
use Rattle.model.specs.declared.unit_state.UnitState.{UnitState}
use Rattle.model.specs.declared.state.State.{State}
use Rattle.model.specs.declared.state.Pair.{Pair}
use Rattle.model.specs.Bytes.{zero_unit, unit_of, unit_bytes, state_of, state_bytes, pair_of, pair_bytes}

-- the first k units are read from the bytes
pub record Reading (bytes : List ℕ) (k : ℕ) (units : List UnitState) : Type 0 where
  pub six : length units ≡ 6
  pub is : (j : ℕ) → j < k → get_or units j zero_unit ≡ unit_of (take 4 (drop (4 * j) bytes))
  pub back : (j : ℕ) → j < k → unit_bytes (get_or units j zero_unit) ≡ take 4 (drop (4 * j) bytes)

pub state_read : (bytes : List ℕ) (units : List UnitState) → Reading bytes 6 units → ◌≡◌ {A = State} (record { units = units }) (state_of bytes)
unfolding state_of
state_read bytes units r = ap (λ us. record { units = us }) (fill_by_all (λ j. unit_of (take 4 (drop (4 * j) bytes))) units 6 zero_unit r.six r.is)

pub state_back : (bytes : List ℕ) (units : List UnitState) → length bytes ≡ 24 → Reading bytes 6 units → state_bytes (record { units = units }) ≡ bytes
unfolding state_bytes
state_back bytes units n r =
    ap (flat_map unit_bytes) (fill_by_all (λ j. get_or units j zero_unit) units 6 zero_unit r.six (λ j h. refl))
    ∙ six_joined (r.back 0 (lit< tt)) (r.back 1 (lit< tt)) (r.back 2 (lit< tt)) (r.back 3 (lit< tt)) (r.back 4 (lit< tt)) (r.back 5 (lit< tt))
    ∙ joined_cut 4 6 bytes n
  where
    six_joined : {a b c d e f a' b' c' d' e' f' : List ℕ} → a ≡ a' → b ≡ b' → c ≡ c' → d ≡ d' → e ≡ e' → f ≡ f' → a ++ (b ++ (c ++ (d ++ (e ++ (f ++ []))))) ≡ a' ++ (b' ++ (c' ++ (d' ++ (e' ++ (f' ++ [])))))
    six_joined p q r s t u = cc

-- the bytes of the first k units are written
pub record Writing (units : List UnitState) (k : ℕ) (bytes : List ℕ) : Type 0 where
  pub long : length bytes ≡ 24
  pub six : 0 < k → length units ≡ 6
  pub is : take (4 * k) bytes ≡ flat_map unit_bytes (take k units)
  pub back : (j : ℕ) → j < k → unit_of (unit_bytes (get_or units j zero_unit)) ≡ get_or units j zero_unit

pub writing_more : (units : List UnitState) (k : ℕ) (bytes ys : List ℕ) (m : ℕ) → length units ≡ 6 → k < 6 → m ≡ 4 → Writing units k bytes
    → ys ≡ unit_bytes (get_or units k zero_unit) → unit_of ys ≡ get_or units k zero_unit → Writing units (k + 1) (put_mid (4 * k) m bytes ys)
writing_more units k bytes ys m n h w r is back =
    let four : length ys ≡ 4 = ap length is in
    record {
      long = simp (length-append, length-take, length-drop) (omega (arith, r.long));
      six = λ _. n;
      is = take-put_mid (4 * k) m bytes ys (4 * (k + 1)) (omega arith) (omega (arith, r.long))
          ∙ ap (λ xs. xs ++ ys) r.is ∙ ap (λ xs. flat_map unit_bytes (take k units) ++ xs) is ∙ flat_map-take_more unit_bytes units k zero_unit (omega (arith, n));
      back = below_more _ _ r.back (ap unit_of (sym is) ∙ back);
    }

pub state_written : (s : State) (bytes : List ℕ) → Writing s.units 6 bytes → bytes ≡ state_bytes s
unfolding state_bytes
state_written s bytes w =
    sym (take_all 24 bytes (omega (arith, w.long))) ∙ w.is ∙ ap (flat_map unit_bytes) (take_all 6 s.units (omega (arith, w.six (lit< tt))))

-- six units, read from their bytes
six_units : (a b c d e f : UnitState) → unit_of (unit_bytes a) ≡ a → unit_of (unit_bytes b) ≡ b → unit_of (unit_bytes c) ≡ c → unit_of (unit_bytes d) ≡ d → unit_of (unit_bytes e) ≡ e → unit_of (unit_bytes f) ≡ f
    → state_of (flat_map unit_bytes (a ∷ b ∷ c ∷ d ∷ e ∷ f ∷ [])) ≡ record { units = a ∷ b ∷ c ∷ d ∷ e ∷ f ∷ [] }
unfolding state_of
six_units a b c d e f p q r s t u = cc

pub state_kept : (s : State) (bytes : List ℕ) → Writing s.units 6 bytes → state_of bytes ≡ s
unfolding state_bytes
state_kept s bytes w =
    let us = fill_by_all (λ j. get_or s.units j zero_unit) s.units 6 zero_unit (w.six (lit< tt)) (λ j h. refl) in
    ap state_of (state_written s bytes w ∙ ap (flat_map unit_bytes) us)
    ∙ six_units _ _ _ _ _ _ (w.back 0 (lit< tt)) (w.back 1 (lit< tt)) (w.back 2 (lit< tt)) (w.back 3 (lit< tt)) (w.back 4 (lit< tt)) (w.back 5 (lit< tt))
    ∙ ap (λ xs. record { units = xs }) (sym us)

-- a pair from its two halves, as code cuts them out
rest_half : (b : List ℕ) → length b ≡ 48 → take 24 (drop 24 b) ≡ drop 24 b
rest_half b n = take_all 24 (drop 24 b) (simp length-drop (omega (arith, n)))

pub pair_read : (b : List ℕ) (l r : State) → length b ≡ 48 → l ≡ state_of (take 24 b) → r ≡ state_of (take 24 (drop 24 b)) → ◌≡◌ {A = Pair} (record { left = l; right = r }) (pair_of b)
pair_read b l r n p q = let e = q ∙ ap state_of (rest_half b n) in cc

pub pair_back : (b : List ℕ) (l r : State) → length b ≡ 48 → state_bytes l ≡ take 24 b → state_bytes r ≡ take 24 (drop 24 b) → pair_bytes (record { left = l; right = r }) ≡ b
pair_back b l r n p q =
    ap (λ xs. xs ++ state_bytes r) p ∙ ap (λ xs. take 24 b ++ xs) (q ∙ rest_half b n) ∙ take-append-drop 24 b

-- the bytes of the left state over the first half, then those of the right one over the second
pub pair_written : (p : Pair) (xs ys zs : List ℕ) → length xs ≡ 24 → length zs ≡ 24 → xs ≡ state_bytes p.left → ys ≡ state_bytes p.right → put_mid 24 24 (xs ++ zs) ys ≡ pair_bytes p
pair_written p xs ys zs n m l r =
    ap (λ f. f ++ (ys ++ drop 24 (drop 24 (xs ++ zs)))) (take_at xs zs 24 n)
    ∙ ap (λ f. xs ++ (ys ++ drop 24 f)) (drop_at xs zs 24 n)
    ∙ ap (λ f. xs ++ (ys ++ f)) (drop_all 24 zs (omega (arith, m)))
    ∙ ap (λ f. xs ++ f) (append-nil ys)
    ∙ ap (λ f. f ++ ys) l ∙ ap (λ f. state_bytes p.left ++ f) r

pub pair_kept : (p : Pair) (xs ys : List ℕ) → length xs ≡ 24 → state_of xs ≡ p.left → state_of ys ≡ p.right → pair_of (xs ++ ys) ≡ p
pair_kept p xs ys n l r =
    let a = ap state_of (take_at xs ys 24 n) ∙ l in
    let b = ap state_of (drop_at xs ys 24 n) ∙ r in
    λ i. record { left = a i; right = b i }

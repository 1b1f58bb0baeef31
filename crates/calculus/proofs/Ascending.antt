-- The ways stand in ascending order. Assumes nothing.
use Rattle.std.proofs.Common.{◌≡◌, ℕ, ◌<◌, Bool, true, false, cond, ◌⊎◌, List, [], ◌∷◌, map, length, filter, sym, subst, refl, ◌∙◌, inl, inr, arith}
use Rattle.std.specs.List.{range_with_len, AllByRecursion}
use Rattle.model.specs.declared.state.State.{State}
use Rattle.rows.specs.declared.row.Action.{Action}
use Rattle.rows.specs.declared.row.Action.TheVariants.{Silent, Broadcast as Send, Receive as Fill}
use Rattle.ways.specs.declared.way.Way.{Way}
use Rattle.ways.specs.declared.way.Way.TheVariants.{Move, Act}
use Rattle.rows.specs.Units.{enabled}
use Rattle.model.specs.GroupSets.{empty}
use Rattle.model.specs.declared.group_set.GroupSet.{GroupSet}
use Rattle.ways.specs.declared.way.Choice.{Choice}
use Rattle.ways.specs.declared.way.Choice.TheVariants.{Stay, Take}
use Rattle.ways.specs.Nets.{Net, unit_at, row_at, free_part}
use Rattle.ways.specs.Ways.{receivable_at, receivable_rows, listener, choices, combinations, acts_by, acts_of, acts, all_stay}
use Rattle.network.proofs.Sets.{numbers_are}
use Rattle.network.specs.Meanings.{set_of, set_numbers, may_move, movements_of, movements, ways}
use Rattle.lists.specs.Products.{Sorted, Lexicographic}
use Rattle.calculus.specs.Exactness.{ChoiceBefore, Earlier}
use Rattle.lists.proofs.Ordered.{sorted_append, sorted_map, sorted_kept, sorted_counting, sorted_when, sorted_joined, sorted_product, lexicographic_strict, Rising, all_cross, all_joined, all_mapped, all_when}

-- of a movement of u, and of an act of u by the row k
abbrev MoveOf : ℕ → Way → Type 0
MoveOf u (Move u' g) = u' ≡ u
MoveOf u (Act u' k hs) = ⊥

abbrev ActOf : ℕ → Way → Type 0
ActOf u (Move u' g) = ⊥
ActOf u (Act u' k hs) = u' ≡ u

abbrev RowOf : ℕ → ℕ → Way → Type 0
RowOf u k (Move u' g) = ⊥
RowOf u k (Act u' k' hs) = (u' ≡ u) × (k' ≡ k)

abbrev AnyMove : Way → Type 0
AnyMove (Move u g) = Unit {0}
AnyMove (Act u k hs) = ⊥

abbrev AnyAct : Way → Type 0
AnyAct (Move u g) = ⊥
AnyAct (Act u k hs) = Unit {0}

choice_strict : (c : Choice) → ChoiceBefore c c → ⊥
choice_strict Stay b = b
choice_strict (Take k) b = omega arith

-- no way is earlier than itself
pub strict : (w : Way) → Earlier w w → ⊥
strict (Move u g) (inl h) = omega arith
strict (Move u g) (inr p) = omega (arith, p.1)
strict (Act u k hs) (inl h) = omega arith
strict (Act u k hs) (inr p) = step p.1
  where
    step : (k < k) ⊎ ((k ≡ k) × Lexicographic ChoiceBefore hs hs) → ⊥
    step (inl h) = omega arith
    step (inr q) = lexicographic_strict ChoiceBefore choice_strict hs q.1

moves_apart : (u u' : ℕ) → u < u' → (x y : Way) → MoveOf u x → MoveOf u' y → Earlier x y
moves_apart u u' h (Move a g) (Move b g') p q = inl (omega arith)
moves_apart u u' h (Move a g) (Act b k hs) p q = tt
moves_apart u u' h (Act a k hs) (Move b g) p q = absurd p
moves_apart u u' h (Act a k hs) (Act b k' hs') p q = absurd p

acts_apart : (u u' : ℕ) → u < u' → (x y : Way) → ActOf u x → ActOf u' y → Earlier x y
acts_apart u u' h (Move a g) (Move b g') p q = absurd p
acts_apart u u' h (Move a g) (Act b k hs) p q = tt
acts_apart u u' h (Act a k hs) (Move b g) p q = absurd q
acts_apart u u' h (Act a k hs) (Act b k' hs') p q = inl (omega arith)

rows_apart : (u k k' : ℕ) → k < k' → (x y : Way) → RowOf u k x → RowOf u k' y → Earlier x y
rows_apart u k k' h (Move a g) (Move b g') p q = absurd p
rows_apart u k k' h (Move a g) (Act b l hs) p q = tt
rows_apart u k k' h (Act a l hs) (Move b g) p q = absurd q
rows_apart u k k' h (Act a l hs) (Act b l' hs') p q = inr (p.0 ∙ sym q.0, inl (omega (arith, p.1, q.1)))

kinds_apart : (x y : Way) → AnyMove x → AnyAct y → Earlier x y
kinds_apart (Move a g) (Move b g') p q = absurd q
kinds_apart (Move a g) (Act b k hs) p q = tt
kinds_apart (Act a k hs) (Move b g) p q = absurd p
kinds_apart (Act a k hs) (Act b k' hs') p q = absurd p

takes : (ks : List ℕ) → AllByRecursion (ChoiceBefore Stay) (map Take ks)
takes [] = tt
takes (k ∷ ks) = (tt, takes ks)

rising_map : (f : ℕ → List Choice) (ks : List ℕ) → ((k : ℕ) → Sorted ChoiceBefore (f k)) → Rising ChoiceBefore (map f ks)
rising_map f [] h = tt
rising_map f (k ∷ ks) h = (h k, rising_map f ks h)

module _ (t : Net) (s : State) where
  sorted_choices : (u j : ℕ) → Sorted ChoiceBefore (choices t s u j)
  sorted_choices u j = (
    all_when (ChoiceBefore Stay) (listener t s u j) (map Take (receivable_rows t s j)) (takes (receivable_rows t s j)),
    sorted_when ChoiceBefore (listener t s u j) (map Take (receivable_rows t s j)) (sorted_map ◌<◌ ChoiceBefore Take (receivable_rows t s j) (λ x y h. h) (sorted_kept ◌<◌ (receivable_at t s j) (range_with_len 0 (length t.rows)) (sorted_counting 0 (length t.rows)))),
  )

  sorted_combinations : (u : ℕ) (a : Action) → Sorted (Lexicographic ChoiceBefore) (combinations t s u a)
  sorted_combinations u Silent = (tt, tt)
  sorted_combinations u (Send o) = sorted_product ChoiceBefore (map (choices t s u) (range_with_len 0 6)) (rising_map (choices t s u) (range_with_len 0 6) (sorted_choices u))
  sorted_combinations u (Fill x) = one (empty (free_part t (unit_at s u)))
    where
      one : (b : Bool) → Sorted (Lexicographic ChoiceBefore) (cond b [] (all_stay ∷ []))
      one true = tt
      one false = (tt, tt)

  sorted_acts_by : (u k : ℕ) → Sorted Earlier (acts_by t s u k)
  sorted_acts_by u k =
      sorted_when Earlier (enabled (unit_at s u) (row_at t k)) (map (Act u k) (combinations t s u (row_at t k).action))
      (sorted_map (Lexicographic ChoiceBefore) Earlier (Act u k) (combinations t s u (row_at t k).action) (λ x y b. inr (refl, inr (refl, b))) (sorted_combinations u (row_at t k).action))

  rows_of : (u k : ℕ) → AllByRecursion (RowOf u k) (acts_by t s u k)
  rows_of u k = all_when (RowOf u k) (enabled (unit_at s u) (row_at t k)) (map (Act u k) (combinations t s u (row_at t k).action)) (all_mapped (RowOf u k) (Act u k) (combinations t s u (row_at t k).action) (λ hs. (refl, refl)))

  sorted_acts_of : (u : ℕ) → Sorted Earlier (acts_of t s u)
  sorted_acts_of u =
      sorted_joined ◌<◌ Earlier (acts_by t s u) (range_with_len 0 (length t.rows)) (sorted_counting 0 (length t.rows)) (sorted_acts_by u)
      (λ k k' h. all_cross (RowOf u k) (RowOf u k') Earlier (acts_by t s u k) (acts_by t s u k') (rows_apart u k k' h) (rows_of u k) (rows_of u k'))

  all_acts : (P : Way → Type 0) (u : ℕ) → ((k : ℕ) (hs : List Choice) → P (Act u k hs)) → AllByRecursion P (acts_of t s u)
  all_acts P u h =
      all_joined P (acts_by t s u) 0 (length t.rows) (length t.rows) (omega arith)
      (λ k _. all_when P (enabled (unit_at s u) (row_at t k)) (map (Act u k) (combinations t s u (row_at t k).action)) (all_mapped P (Act u k) (combinations t s u (row_at t k).action) (h k)))

  sorted_acts : Sorted Earlier (acts t s)
  sorted_acts =
      sorted_joined ◌<◌ Earlier (acts_of t s) (range_with_len 0 t.units) (sorted_counting 0 t.units) sorted_acts_of
      (λ u u' h. all_cross (ActOf u) (ActOf u') Earlier (acts_of t s u) (acts_of t s u') (acts_apart u u' h) (all_acts (ActOf u) u (λ k hs. refl)) (all_acts (ActOf u') u' (λ k hs. refl)))

  module _ (allowed : List GroupSet → Bool) where
    all_moves : (P : Way → Type 0) (u : ℕ) → ((g : GroupSet) → P (Move u g)) → AllByRecursion P (movements_of t allowed s u)
    all_moves P u h = all_mapped P (λ b. Move u (set_of b)) (filter (λ b. may_move t allowed s u (set_of b)) set_numbers) (λ b. h (set_of b))

    sorted_moves : Sorted Earlier (movements t allowed s)
    sorted_moves =
        sorted_joined ◌<◌ Earlier (movements_of t allowed s) (range_with_len 0 t.units) (sorted_counting 0 t.units)
        (λ u. sorted_map ◌<◌ Earlier (λ b. Move u (set_of b)) (filter (λ b. may_move t allowed s u (set_of b)) set_numbers) (λ x y h. inr (refl, h)) (sorted_kept ◌<◌ (λ b. may_move t allowed s u (set_of b)) set_numbers (subst (Sorted ◌<◌) (sym numbers_are) (sorted_counting 0 256))))
        (λ u u' h. all_cross (MoveOf u) (MoveOf u') Earlier (movements_of t allowed s u) (movements_of t allowed s u') (moves_apart u u' h) (all_moves (MoveOf u) u (λ g. refl)) (all_moves (MoveOf u') u' (λ g. refl)))

    pub ascending : Sorted Earlier (ways t allowed s)
    ascending =
        sorted_append Earlier (movements t allowed s) (acts t s) sorted_moves sorted_acts
        (all_cross AnyMove AnyAct Earlier (movements t allowed s) (acts t s) kinds_apart
        (all_joined AnyMove (movements_of t allowed s) 0 t.units t.units (omega arith) (λ u _. all_moves AnyMove u (λ g. tt)))
        (all_joined AnyAct (acts_of t s) 0 t.units t.units (omega arith) (λ u _. all_acts AnyAct u (λ k hs. tt))))

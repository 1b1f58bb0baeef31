-- Movements listed from the sets that a rule admits. Assumes nothing.
use Rattle.std.proofs.Common.{◌≡◌, ℕ, ◌<◌, ◌≤◌, Bool, true, false, cond, List, [], ◌∷◌, filter, sym, refl, ap, ◌∙◌}
use Rattle.lists.specs.Words.{Stands}
use Rattle.model.specs.declared.group_set.GroupSet.{GroupSet}
use Rattle.model.specs.declared.state.State.{State}
use Rattle.ways.specs.Landings.{moved, placed}
use Rattle.ways.specs.Nets.{Net}
use Rattle.network.specs.Meanings.{set_of, set_numbers, may_move}
use Rattle.network.proofs.Placed.{unmoved, stands_moved}

-- what passes p passes q: so p keeps the same of what q keeps
kept_within : {X : Type 0} (p q : X → Bool) → ((x : X) → q x ≡ false → p x ≡ false) → (xs : List X) → filter p (filter q xs) ≡ filter p xs
kept_within p q fails [] = refl
kept_within p q fails (x ∷ xs) =
    elim (q x) as (λ b. q x ≡ b → filter p (cond b (x ∷ filter q xs) (filter q xs)) ≡ cond (p x) (x ∷ filter p xs) (filter p xs)) [
      | true ↦ (λ e. ap (λ ys. cond (p x) (x ∷ ys) ys) (kept_within p q fails xs))
      | false ↦ (λ e. kept_within p q fails xs ∙ sym (ap (λ b. cond b (x ∷ filter p xs) (filter p xs)) (fails x e)))
    ] refl

-- of the sets that the rule admits, those that a unit may move to are all that it may move to
pub moves_admitted : (n : Net) (allowed : List GroupSet → Bool) (admitted : GroupSet → Bool) (s : State) (u : ℕ) (bs : List ℕ) → n.units ≤ 6 → u < n.units
    → ((set : GroupSet) (sets : List GroupSet) (unit : ℕ) → admitted set ≡ false → Stands sets set unit → allowed sets ≡ false)
    → bs ≡ filter (λ b. admitted (set_of b)) set_numbers → filter (λ b. may_move n allowed s u (set_of b)) bs ≡ filter (λ b. may_move n allowed s u (set_of b)) set_numbers
moves_admitted n allowed admitted s u bs few h bars listed =
    let may = λ (b : ℕ). may_move n allowed s u (set_of b) in
    ap (filter may) listed
    ∙ kept_within may (λ b. admitted (set_of b)) (λ b e. sym (unmoved _ _ _ (bars (set_of b) (placed n (moved s u (set_of b))) u e (stands_moved n s u (set_of b) few h)))) set_numbers

-- What is known without saying where: a record that is there, and what a match tells of both of its steps. Assumes nothing.
use Rattle.std.proofs.Common.{◌≡◌, ℕ, List, Some, None, sym, refl, subst}
use Rattle.std.proofs.Math.Bool.{Bool-set}
use mathlib.Core.HLevel.{⊥_prop}
use Rattle.std.proofs.Math.Logic.{∥∥₁_elim, ∥∥₁_map}
use Rattle.std.specs.List.{All, slice_get}
use Rattle.std.proofs.lemmas.Option.{get_or_from_slice_get}
use Rattle.lists.specs.Words.{Stands}
use Rattle.lists.proofs.Places.{some_none, nth_within}
use Rattle.questions.specs.declared.Side.{Side}
use Rattle.questions.specs.declared.Side.TheVariants.{Left, Right}
use Rattle.model.specs.declared.state.Pair.{Pair}
use Rattle.judge.specs.Comparing.{Compared, OneRange, steps_on}
use Rattle.judge.specs.Likeness.{Holds, Reply, Answered}
use Rattle.judge.specs.Matching.{Replying, step_on}
use Rattle.judge.specs.declared.matches.Match.{Match}
use Rattle.judge.proofs.Tested.{decides_holds, decides_answered}

-- a record known to be there is there, since a test tells
pub holds_known : (rel : List Pair) (p : Pair) → ∥ Holds rel p ∥₁ → Holds rel p
holds_known rel p known = let d = decides_holds rel p in d.0 (∥∥₁_elim known (Bool-set _ _) (λ h. d.1 h))

-- a reply, told from the other side
reply_turned : (c : Compared) (p : Pair) (i j : ℕ) → Reply c Left p i j → Reply c Right p j i
reply_turned c p i j r =
    record { one_range = r.one_range; asked = r.given; given = r.asked; asked_at = r.given_at; given_at = r.asked_at; one_label = sym r.one_label; lands = r.lands }

module _ (c : Compared) (one : OneRange c) (p : Pair) where
  -- a step known to have a reply has one, since a test tells
  answered_known : (side : Side) (i : ℕ) → ∥ Answered c side p i ∥₁ → Answered c side p i
  answered_known side i known =
      elim (slice_get (steps_on side c p) i) as (λ o. slice_get (steps_on side c p) i ≡ o → Answered c side p i) [
        | None ↦ (λ e. absurd (∥∥₁_elim known ⊥_prop (λ a. some_none _ _ a.1.asked_at e)))
        | Some x ↦ (λ at. let d = decides_answered c side one p i x at in d.0 (∥∥₁_elim known (Bool-set _ _) (λ a. d.1 a)))
      ] refl

  module _ (ms : List Match) (each : ∥ All (Replying c p) ms ∥₁) where
    known_left : (k : ℕ) (m : Match) → Stands ms m k → ∥ Reply c Left p m.left m.right ∥₁
    known_left k m at = ∥∥₁_map each (λ all. subst (λ (x : Match). Reply c Left p x.left x.right) (get_or_from_slice_get ms k m m at) (all k m (nth_within ms k m at)))

    pub matched : (side : Side) (i k : ℕ) (m : Match) → Stands ms m k → step_on side m ≡ i → Answered c side p i
    matched Left i k m at e = answered_known Left i (∥∥₁_map (known_left k m at) (λ r. (m.right, subst (λ n. Reply c Left p n m.right) e r)))
    matched Right i k m at e = answered_known Right i (∥∥₁_map (known_left k m at) (λ r. (m.left, subst (λ n. Reply c Right p n m.left) e (reply_turned c p m.left m.right r))))

-- What the held lists of a pair's steps tell of replies. Assumes nothing.
use Rattle.std.proofs.Common.{◌≡◌, ℕ, ◌<◌, Bool, true, false, cond, length, ℤ, is_some, Some, None, Option, Decides, sym, refl, ap, ◌∙◌}
use Rattle.std.specs.List.{slice_get}
use Rattle.std.proofs.lemmas.Bool.Decides.{Decides-like}
use Rattle.lists.specs.Words.{through, Stands, FirstOf}
use Rattle.lists.proofs.Places.{nth_within, some_none, some_same}
use Rattle.lists.proofs.Listed.{nth_map_some}
use Rattle.questions.specs.Asking.{first_no}
use Rattle.questions.specs.declared.Side.{Side}
use Rattle.model.specs.declared.label.Label.{Label}
use Rattle.model.specs.declared.state.Pair.{Pair}
use Rattle.model.specs.declared.state.State.{State}
use Rattle.systems.specs.declared.listed.Listed.{Listed}
use Rattle.systems.specs.Meaning.{Step, Keeps, in_range_of, receives}
use Rattle.systems.specs.Listing.{listed_at}
use Rattle.systems.proofs.Facts.{given_cond}
use Rattle.systems.proofs.Ways.{map_stands}
use Rattle.judge.specs.Comparing.{Compared, OneRange, opposed, pair_from, system_on, steps_on, label_on, landing_on, listing_on}
use Rattle.judge.specs.Likeness.{Holds, Reply, Answered}
use Rattle.judge.specs.Judged.{steps_asked}
use Rattle.judge.proofs.Exactly.{first_unanswered}
use Rattle.judge.proofs.Finding.{decides_first}
use Rattle.judge.proofs.Replying.{reply_one}

-- a step of the list at the value u
module _ (c : Compared) (side : Side) (p : Pair) (u : ℤ) (i : ℕ) (y : Listed) (at : Stands (listing_on side c p u) y i) where
  pub listed_step : (x : Step) × Stands (steps_on side c p) x i × (y ≡ listed_at (system_on side c) u x)
  listed_step = map_stands (listed_at (system_on side c) u) (steps_on side c p) i y at

  pub listed_label : label_on side c p i ≡ Some y.label
  listed_label = ap (through (λ x. x.label)) listed_step.1 ∙ ap (λ (z : Listed). Some z.label) (sym listed_step.2)

  pub listed_landing : landing_on side c p i u ≡ y.landing
  listed_landing =
      ap (λ o. cond (in_range_of (system_on side c) u) (through (λ x. x.landing u) o) None) listed_step.1
      ∙ given_cond (in_range_of (system_on side c) u) (listed_step.0.landing u)
      ∙ ap (λ (z : Listed). z.landing) (sym listed_step.2)

-- what is not listed has no reply, and what has another label is none
module _ (c : Compared) (side opp : Side) (p : Pair) (i j : ℕ) (u : ℤ) (o : opp ≡ opposed side) where
  pub unlisted_own : slice_get (listing_on side c p u) i ≡ None → Answered c side p i → ⊥
  unlisted_own none a = some_none _ _ (nth_map_some (listed_at (system_on side c) u) (steps_on side c p) i a.1.asked a.1.asked_at) none

  pub other_label : (y z : Listed) → Stands (listing_on side c p u) y i → Some z ≡ slice_get (listing_on opp c p u) j → (z.label ≡ y.label → ⊥) → Reply c side p i j → ⊥
  other_label y z y-at z-at differ r =
      let own = listed_step c side p u i y y-at in
      let other = listed_step c (opposed side) p u j z (ap (λ s. slice_get (listing_on s c p u) j) (sym o) ∙ sym z-at) in
      differ
      (ap (λ (l : Listed). l.label) other.2 ∙ ap (λ (x : Step). x.label) (some_same _ _ _ other.1 r.given_at) ∙ sym r.one_label
      ∙ ap (λ (x : Step). x.label) (some_same _ _ _ r.asked_at own.1) ∙ sym (ap (λ (l : Listed). l.label) own.2))

-- steps of one label, which is no receive's, whose landings at the lowest value the relation holds
pub reply_seen : (c : Compared) (side opp : Side) (p : Pair) (i j : ℕ) (k l : Label) (u : ℤ) (x y : Option State) → OneRange c → Keeps c.left → Keeps c.right → opp ≡ opposed side
    → label_on side c p i ≡ Some k → label_on opp c p j ≡ Some l → (k ≡ l) × (receives k ≡ false) → u ≡ c.left.lo → landing_on side c p i u ≡ x → landing_on opp c p j u ≡ y
    → (a : State) × (b : State) × (x ≡ Some a) × (y ≡ Some b) × Holds c.relation (pair_from side a b) → Reply c side p i j
reply_seen c side opp p i j k l u x y one keeps-left keeps-right o ek el alike low own other h =
    (reply_one c side opp p i j k true u one keeps-left keeps-right o ek (el ∙ ap Some (sym alike.0)) alike.1 low
    (λ _. record { own = h.0; other = h.1; own_at = own ∙ h.2; other_at = ap (λ s. landing_on s c p j u) (sym o) ∙ other ∙ h.3; held = h.4 }, λ _. refl)).0 refl

-- whether one of the steps of the opposite side is a reply
pub answered_below : (c : Compared) (side : Side) (p : Pair) (i n : ℕ) (r : Option ℕ) (b : Bool) → n ≡ length (steps_on (opposed side) c p) → FirstOf (λ j. (j < n) × Reply c side p i j) r → b ≡ is_some r
    → Decides b (Answered c side p i)
answered_below c side p i n r b whole first is =
    Decides-like b
    (λ f. (f.0, f.1.1))
    (λ a. (a.0, (rw whole (nth_within (steps_on (opposed side) c p) a.0 a.1.given a.1.given_at), a.1)))
    (decides_first (λ j. (j < n) × Reply c side p i j) r b first is)

-- the first step without a reply
module _ (c : Compared) (one : OneRange c) (side : Side) (p : Pair) (m : ℕ) where
  there : (i : ℕ) → Answered c side p i → (j : ℕ) × ((j < length (steps_on (opposed side) c p)) × Reply c side p i j)
  there i a = (a.0, (nth_within (steps_on (opposed side) c p) a.0 a.1.given a.1.given_at, a.1))

  unmet : (r : Option ℕ) → FirstOf (λ i. (i < m) × (Answered c side p i → ⊥)) r → FirstOf (λ i. (i < m) × ((j : ℕ) × ((j < length (steps_on (opposed side) c p)) × Reply c side p i j) → ⊥)) r
  unmet None g = λ k q. g k (q.0, λ a. q.1 (there k a))
  unmet (Some i) g = ((g.0.0, λ a. g.0.1 (a.0, a.1.1)), λ k before q. g.1 k before (q.0, λ a. q.1 (there k a)))

  pub first_unmet : (r : Option ℕ) → m ≡ length (steps_on side c p) → FirstOf (λ i. (i < m) × (Answered c side p i → ⊥)) r → r ≡ first_no (steps_asked c side p)
  first_unmet r whole h = first_unanswered c one side p (length (steps_on (opposed side) c p)) refl m r whole (unmet r h)

-- The step that a loaded job shows is the one of the input. Assumes nothing.
use Rattle.std.proofs.Common.{◌≡◌, ℕ, ◌<◌, List, length, refl, sym, ◌∙◌, subst}
use Rattle.std.specs.List.{slice_get}
use Rattle.lists.specs.Words.{Stands}
use Rattle.lists.proofs.Places.{some_same, nth_within}
use Rattle.questions.specs.declared.Side.{Side}
use Rattle.questions.specs.declared.Side.TheVariants.{Left, Right}
use Rattle.model.specs.declared.state.Pair.{Pair}
use Rattle.systems.specs.Meaning.{Meaning}
use Rattle.frames.specs.Payloads.{relation_of, setting_of}
use Rattle.judge.specs.Comparing.{system_on, state_on}
use Rattle.job.specs.Jobs.{compared_in}
use Rattle.job.specs.Sides.{side_meaning}
use Rattle.words.specs.Steps.{IsStep}
use Rattle.words.specs.Explaining.{IsShown}
use Rattle.words.specs.declared.step.ShownStep.{ShownStep}
use Rattle.words.proofs.Located.{HasStep}

system_of : (bytes : List ℕ) (side : Side) → system_on side (compared_in bytes) ≡ side_meaning side bytes
system_of bytes Left = refl
system_of bytes Right = refl

module _ (bytes : List ℕ) (rel : List Pair) (same : rel ≡ relation_of bytes) (side : Side) (m : Meaning) (means : m ≡ side_meaning side bytes) (k i : ℕ) (h : HasStep (compared_in bytes) side k i) where
  stands : Stands rel h.pair k
  stands = let P : List Pair → Type 0 = λ xs. Stands xs h.pair k in subst P (sym same) h.at

  pub pair_within : k < length rel
  pair_within = nth_within rel k h.pair stands

  module _ (p : Pair) (at : Stands rel p k) where
    pair_is : p ≡ h.pair
    pair_is = some_same (slice_get rel k) p h.pair at stands

    pub step_within : i < length (m.steps (state_on side p))
    step_within =
        let P : Meaning → Type 0 = λ n. i < length (n.steps (state_on side h.pair)) in
        let Q : Pair → Type 0 = λ q. i < length (m.steps (state_on side q)) in
        subst Q (sym pair_is) (subst P (system_of bytes side ∙ sym means) h.within)

    pub shown : (x : ShownStep) → IsStep m (state_on side p) i x → x.units ≡ (setting_of side bytes).units → IsShown bytes side k i x
    shown x step units =
        let P : Meaning → Type 0 = λ n. IsStep n (state_on side p) i x in
        let Q : Pair → Type 0 = λ q. IsStep (side_meaning side bytes) (state_on side q) i x in
        record { pair = h.pair; at = h.at; step = subst Q pair_is (subst P means step); units = units }

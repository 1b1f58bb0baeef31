-- A step that is shown, and its text.
use Rattle.std.specs.Prelude.{◌≡◌, ℕ, cond, List, ◌++◌, Some, codes}
use Rattle.std.specs.Fmt.{signed_decimal}
use Rattle.model.specs.declared.state.State.{State}
use Rattle.systems.specs.Meaning.{Meaning, receives, label_at, landing_at}
use Rattle.words.specs.Texts.{label_text, state_text}
use Rattle.words.specs.declared.step.ShownStep.{ShownStep}

-- x is the step i of the state s in a system of this meaning
pub record IsStep (m : Meaning) (s : State) (i : ℕ) (x : ShownStep) : Type 0 where
  pub state : x.state ≡ s
  pub lo : x.lo ≡ m.lo
  pub hi : x.hi ≡ m.hi
  pub label : label_at m s i ≡ Some x.label
  pub at_lo : landing_at m s i m.lo ≡ Some x.at_lo
  pub at_hi : landing_at m s i m.hi ≡ Some x.at_hi

-- where it lands
abbrev pub landings_text : ShownStep → List ℕ
landings_text x =
    cond (receives x.label)
    (codes "It lands by the value that is received. At " ++ signed_decimal x.lo
    ++ (codes " it lands in:\n" ++ state_text x.units x.at_lo
    ++ (codes "At " ++ signed_decimal x.hi
    ++ (codes " it lands in:\n" ++ state_text x.units x.at_hi))))
    (codes "It lands in:\n" ++ state_text x.units x.at_lo)

unfoldable pub step_text : ShownStep → List ℕ
step_text x = codes "The state:\n" ++ state_text x.units x.state ++ (codes "The step: " ++ label_text x.label ++ (codes "\n" ++ landings_text x))

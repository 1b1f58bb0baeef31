-- The judge: the first no among its questions, and what a pass tells.
use Rattle.std.specs.Prelude.{◌≡◌, ℕ, List, ◌∷◌, ◌++◌, length, is_ok, IfOk, Decides, Result, nat_le, codes}
use Rattle.std.specs.Fmt.{decimal}
use Rattle.questions.specs.Asking.{Question, put, ask, numbered, restated, first_no, refusal_of}
use Rattle.questions.specs.declared.Refusal.{Refusal}
use Rattle.questions.specs.declared.Side.{Side}
use Rattle.questions.specs.declared.Side.TheVariants.{Left, Right}
use Rattle.model.specs.Alike.{same_set}
use Rattle.model.specs.declared.state.Pair.{Pair}
use Rattle.systems.specs.Meaning.{Step}
use Rattle.judge.specs.Comparing.{Compared, opposed, steps_on}
use Rattle.judge.specs.Likeness.{Bisimulation}
use Rattle.judge.specs.Replies.{same_range, has_reply}
use Rattle.judge.specs.declared.fault.Fault.{Fault}
use Rattle.judge.specs.declared.fault.Fault.TheVariants.{Ranges, TooMany, LeftUnlawful, RightUnlawful, Shown, LeftStep, RightStep}
use Rattle.judge.specs.declared.verdict.Pass.{Pass}

-- the no to a question, with its side, pair number and step number
abbrev pub say : ℕ → Side → ℕ → ℕ → Refusal
say q side k i = record { question = q; side = side; item = k; step = i }

-- has the step x, with the number i, a reply?
abbrev pub step_asked : Compared → Side → Pair → ℕ → Step → List (Question ℕ)
step_asked c side p i x = ask i (has_reply c side x (steps_on (opposed side) c p))

-- has each step of the pair's state on the side a reply?
abbrev pub steps_asked : Compared → Side → Pair → List (Question ℕ)
steps_asked c side p = numbered (step_asked c side p) 0 (steps_on side c p)

-- the questions to one record of the relation, the pair p with the number k
abbrev pub pair_asked : Compared → ℕ → Pair → List (Question Refusal)
pair_asked c k p =
    put (say 12 Left k 0) (c.left.lawful p.left)
    ∷ put (say 13 Right k 0) (c.right.lawful p.right)
    ∷ put (say 14 Left k 0) (same_set (c.left.shown p.left) (c.right.shown p.right))
    ∷ (restated (say 15 Left k) (steps_asked c Left p) ++ restated (say 16 Right k) (steps_asked c Right p))

abbrev pub judge_asked : Compared → List (Question Refusal)
judge_asked c =
    put (say 10 Left 0 0) (same_range c)
    ∷ put (say 11 Left 0 0) (nat_le (length c.relation) 4096)
    ∷ numbered (pair_asked c) 0 c.relation

abbrev pub judge_refusal : Fault → Refusal
judge_refusal Ranges = say 10 Left 0 0
judge_refusal TooMany = say 11 Left 0 0
judge_refusal (LeftUnlawful k) = say 12 Left k 0
judge_refusal (RightUnlawful k) = say 13 Right k 0
judge_refusal (Shown k) = say 14 Left k 0
judge_refusal (LeftStep k i) = say 15 Left k i
judge_refusal (RightStep k i) = say 16 Right k i

-- what a fault is called
abbrev pub fault_text : Fault → List ℕ
fault_text Ranges = codes "the systems have different ranges"
fault_text TooMany = codes "the relation has too many pairs"
fault_text (LeftUnlawful k) = codes "the left state of pair " ++ decimal k ++ codes " is not lawful"
fault_text (RightUnlawful k) = codes "the right state of pair " ++ decimal k ++ codes " is not lawful"
fault_text (Shown k) = codes "the states of pair " ++ decimal k ++ codes " show different sets"
fault_text (LeftStep k i) = codes "step " ++ decimal i ++ (codes " of the left state of pair " ++ decimal k ++ codes " has no reply")
fault_text (RightStep k i) = codes "step " ++ decimal i ++ (codes " of the right state of pair " ++ decimal k ++ codes " has no reply")

-- the judge refuses with the first no, a pass has the count of records, and exactly the bisimulations pass
pub record Judged (c : Compared) (r : Result Pass Fault) : Type 0 where
  pub refuses : refusal_of judge_refusal r ≡ first_no (judge_asked c)
  pub counts : IfOk r (λ pass. pass.count ≡ length c.relation)
  pub exactly : Decides (is_ok r) (Bisimulation c)

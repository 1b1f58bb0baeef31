-- The calls of a play: what each asks, and what it gives.
use Rattle.std.specs.Prelude.{◌≡◌, ℕ, Bool, true, false, cond, List, [], ◌∷◌, length, ℤ, IfOk, IfErr, Some, None, Option, Result, MatchOption, nat_le, nat_lt, codes}
use Rattle.std.specs.List.{slice_get}
use Rattle.lists.specs.Words.{Stands, FirstOf}
use Rattle.questions.specs.Asking.{Question, put, ask, refuse, first_no, refusal_of}
use Rattle.questions.specs.declared.Refusal.{Refusal}
use Rattle.questions.specs.declared.Side.{Side}
use Rattle.model.specs.Ranges.{in_range}
use Rattle.model.specs.declared.label.Label.{Label}
use Rattle.model.specs.declared.range.Range.{Range}
use Rattle.model.specs.declared.state.Pair.{Pair}
use Rattle.systems.specs.Meaning.{Step, in_range_of, receives}
use Rattle.judge.specs.Comparing.{Compared, OneRange, opposed, pair_from, steps_on}
use Rattle.judge.specs.Likeness.{Reply}
use Rattle.judge.specs.Replies.{same_range, holds, has_reply}
use Rattle.judge.specs.declared.verdict.Pass.{Pass}
use Rattle.play.specs.declared.answered.Answered.{Answered}
use Rattle.play.specs.declared.challenged.Challenged.{Challenged}
use Rattle.play.specs.declared.fault.Fault.{Fault}
use Rattle.play.specs.declared.fault.Fault.TheVariants.{Ranges, TooMany, NoPair, NoStep, NoReply, Value, Landings}
use Rattle.play.specs.declared.fault.Refused.{Refused}
use Rattle.play.specs.declared.level.Level.{Level}

-- the no that a fault stands for: each has the number of its question, and no other numbers
abbrev pub play_refusal : Fault → Refusal
play_refusal Ranges = refuse 10
play_refusal TooMany = refuse 11
play_refusal NoPair = refuse 17
play_refusal NoStep = refuse 18
play_refusal NoReply = refuse 19
play_refusal Value = refuse 20
play_refusal Landings = refuse 21

-- the no of a refused call
abbrev pub refused_refusal : {P : Type 0} → Refused P → Refusal
refused_refusal e = play_refusal e.fault

-- what a fault is called
abbrev pub fault_text : Fault → List ℕ
fault_text Ranges = codes "the systems have different ranges"
fault_text TooMany = codes "the relation has too many pairs"
fault_text NoPair = codes "there is no pair with that number"
fault_text NoStep = codes "there is no step with that number"
fault_text NoReply = codes "the step has no reply"
fault_text Value = codes "the received value is out of range"
fault_text Landings = codes "the landings are no pair of the relation"

-- the questions f about x; none where there is no x
abbrev pub if_there : {X A : Type 0} → (X → List (Question A)) → Option X → List (Question A)
if_there f None = []
if_there f (Some x) = f x

-- begin: is the pair number k below the pass's count?
abbrev pub begin_asked : ℕ → ℕ → List (Question Refusal)
begin_asked count k = ask (refuse 17) (nat_lt k count)

-- every later call: one range, a relation that is short enough, and a record with the number k; then f about that record
abbrev pub present_asked : Compared → ℕ → (Pair → List (Question Refusal)) → List (Question Refusal)
present_asked c k f =
    put (refuse 10) (same_range c)
    ∷ put (refuse 11) (nat_le (length c.relation) 4096)
    ∷ put (refuse 17) (nat_lt k (length c.relation))
    ∷ if_there f (slice_get c.relation k)

-- is the step number i below the length of the list?; then f about that step
abbrev pub step_asked : List Step → ℕ → (Step → List (Question Refusal)) → List (Question Refusal)
step_asked xs i f = put (refuse 18) (nat_lt i (length xs)) ∷ if_there f (slice_get xs i)

-- challenge: is the step number that is named below the length of its list?
abbrev pub challenge_asked : Compared → ℕ → Side → ℕ → List (Question Refusal)
challenge_asked c k side i = present_asked c k (λ p. step_asked (steps_on side c p) i (λ _. []))

-- reply: has the challenger's step a reply?
abbrev pub reply_asked : Compared → Challenged → List (Question Refusal)
reply_asked c play =
    present_asked c play.pair (λ p.
    step_asked (steps_on play.side c p) play.step (λ x.
    ask (refuse 19) (has_reply c play.side x (steps_on (opposed play.side) c p))))

-- the value by which a step with the label l lands, when v is told: lo unless it is a receive
abbrev pub value_by : Compared → Label → ℤ → ℤ
value_by c l v = cond (receives l) v c.left.lo

-- v is in range, or is not used because l is no receive
abbrev pub value_fits : Compared → Label → ℤ → Bool
value_fits c l v = cond (receives l) (in_range_of c.left v) true

-- the landings of x, a step on the side, and y, one on the opposite side, when v is told
abbrev pub landings_by : Compared → Side → Step → Step → ℤ → Pair
landings_by c side x y v = pair_from side (x.landing (value_by c x.label v)) (y.landing (value_by c x.label v))

-- the two steps that an answered play holds, and a value told: is it in range?; then f about the two steps
abbrev pub told_asked : Compared → Answered → ℤ → (Step → Step → List (Question Refusal)) → List (Question Refusal)
told_asked c play v f =
    present_asked c play.pair (λ p.
    step_asked (steps_on play.side c p) play.step (λ x.
    step_asked (steps_on (opposed play.side) c p) play.reply (λ y.
    put (refuse 20) (value_fits c x.label v) ∷ f x y)))

-- settle: are both landings there, and is their pair in the relation? Both are there after a yes to 10, 18 and 20, since lo is
-- in range.
abbrev pub settle_asked : Compared → Answered → ℤ → List (Question Refusal)
settle_asked c play v = told_asked c play v (λ x y. ask (refuse 21) (holds c.relation (landings_by c play.side x y v)))

-- the first reply to the step i of the pair's state on the side is the step j
abbrev pub FirstReply : Compared → Side → Pair → ℕ → ℕ → Type 0
FirstReply c side p i j = FirstOf (Reply c side p i) (Some j)

-- P holds of the record with the number k
abbrev pub Present : Compared → ℕ → (Pair → Type 0) → Type 0
Present c k P = (p : Pair) → Stands c.relation p k → P p

-- P holds of the two steps that the play holds
abbrev pub OfSteps : Compared → Answered → (Step → Step → Type 0) → Type 0
OfSteps c play P =
    Present c play.pair (λ p. (x y : Step) → Stands (steps_on play.side c p) x play.step → Stands (steps_on (opposed play.side) c p) y play.reply → P x y)

-- a refused call hands back the play that it was given
abbrev pub HandsBack : {P X : Type 0} → P → Result X (Refused P) → Type 0
HandsBack play r = IfErr r (λ e. e.play ≡ play)

-- a pass of a relation, and a pair number: a level play at that pair, or the first no
pub record Begins (pass : Pass) (k : ℕ) (r : Result Level Fault) : Type 0 where
  pub refuses : refusal_of play_refusal r ≡ first_no (begin_asked pass.count k)
  pub stands : IfOk r (λ next. next.pair ≡ k)

-- a level play becomes a challenged one, at the same pair
pub record Challenges (c : Compared) (play : Level) (side : Side) (i : ℕ) (r : Result Challenged (Refused Level)) : Type 0 where
  pub refuses : refusal_of refused_refusal r ≡ first_no (challenge_asked c play.pair side i)
  pub hands_back : HandsBack play r
  pub stands : IfOk r (λ next. (next.pair ≡ play.pair) × (next.side ≡ side) × (next.step ≡ i))

-- a challenged play becomes an answered one, with the first reply in list order
pub record Replies (c : Compared) (play : Challenged) (r : Result Answered (Refused Challenged)) : Type 0 where
  pub refuses : refusal_of refused_refusal r ≡ first_no (reply_asked c play)
  pub hands_back : HandsBack play r
  pub stands : IfOk r (λ next. (next.pair ≡ play.pair) × (next.side ≡ play.side) × (next.step ≡ play.step))
  pub first : IfOk r (λ next. Present c play.pair (λ p. FirstReply c play.side p play.step next.reply))

-- an answered play becomes a level one, at the first record equal to both landings
pub record Settles (c : Compared) (play : Answered) (v : ℤ) (r : Result Level (Refused Answered)) : Type 0 where
  pub refuses : refusal_of refused_refusal r ≡ first_no (settle_asked c play v)
  pub hands_back : HandsBack play r
  pub first : IfOk r (λ next. OfSteps c play (λ x y. FirstOf (Stands c.relation (landings_by c play.side x y v)) (Some next.pair)))

-- the value by which a step with the label lands in the range, when v is told
abbrev pub ValueFor : Label → Range → ℤ → Option ℤ → Type 0
ValueFor l range v r = MatchOption r ((receives l ≡ true) × (in_range range.lo range.hi v ≡ false)) (λ w. (w ≡ cond (receives l) v range.lo) × (cond (receives l) (in_range range.lo range.hi v) true ≡ true))

-- the first record equal to the landings, at the value v, of the two steps that the play holds
abbrev pub FirstLanding : Compared → Answered → Pair → ℤ → Option ℕ → Type 0
FirstLanding c play p v r =
    OneRange c → in_range_of c.left v ≡ true → (x y : Step) → Stands (steps_on play.side c p) x play.step → Stands (steps_on (opposed play.side) c p) y play.reply
    → FirstOf (Stands c.relation (pair_from play.side (x.landing v) (y.landing v))) r

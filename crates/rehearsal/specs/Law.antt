-- The law of judge, play and runs.
use Rattle.std.specs.Prelude.{◌≡◌, ℕ, ◌≤◌, Bool, true, false, ◌⊎◌, List, ◌∷◌, ◌++◌, length, ℤ, is_err, IfOk, OnErr, Some, Ok, Err, Decides, Result}
use Rattle.std.specs.List.{AllByRecursion}
use Rattle.lists.specs.Words.{Stands, FirstOf}
use Rattle.questions.specs.Asking.{first_no, refusal_of}
use Rattle.questions.specs.declared.Refusal.{Refusal}
use Rattle.questions.specs.declared.Side.{Side}
use Rattle.model.specs.declared.state.Pair.{Pair}
use Rattle.systems.specs.Meaning.{Step, in_range_of, receives}
use Rattle.judge.specs.Comparing.{Compared, opposed, steps_on, label_on}
use Rattle.judge.specs.Likeness.{Bisimulation, LandsAt}
use Rattle.judge.specs.Judged.{judge_asked, judge_refusal, fault_text as judge_text}
use Rattle.play.specs.Calls.{play_refusal, fault_text as play_text, begin_asked, FirstReply}
use Rattle.play.specs.declared.fault.Fault.{Fault}
use Rattle.play.specs.declared.fault.Fault.TheVariants.{NoStep, Value}
use Rattle.rehearsal.specs.declared.attempt.Attempt.{Attempt}
use Rattle.rehearsal.specs.declared.attempt.Call.{Call}
use Rattle.rehearsal.specs.declared.attempt.Call.TheVariants.{Challenge, Reply, Settle}
use Rattle.rehearsal.specs.declared.attempt.Outcome.{Outcome}
use Rattle.rehearsal.specs.declared.attempt.Outcome.TheVariants.{Taken, Refused}
use Rattle.rehearsal.specs.declared.fault.RehearsalFault.{RehearsalFault}
use Rattle.rehearsal.specs.declared.fault.RehearsalFault.TheVariants.{NotAccepted, NotBegun}
use Rattle.rehearsal.specs.declared.playing.Play.{Play}
use Rattle.rehearsal.specs.Book.{Book, opened, book_after_call, book_after, with_outcome, attempts_with_outcomes, number_of, Agrees}
use Rattle.rehearsal.specs.Book.Phase.{level, challenged, answered}
use Rattle.rehearsal.specs.Runs.{RunsMatched}

abbrev pub rehearsal_refusal : RehearsalFault → Refusal
rehearsal_refusal (NotAccepted f) = judge_refusal f
rehearsal_refusal (NotBegun f) = play_refusal f

-- what a fault is called
abbrev pub rehearsal_text : RehearsalFault → List ℕ
rehearsal_text (NotAccepted f) = judge_text f
rehearsal_text (NotBegun f) = play_text f

-- the answer says that the judge accepted the relation
abbrev pub is_accepted : Result Play RehearsalFault → Bool
is_accepted (Ok play) = true
is_accepted (Err (NotAccepted f)) = false
is_accepted (Err (NotBegun f)) = true

-- a call was refused, with the fault f, exactly when X holds, and else it was taken
abbrev pub RefusedWhen : Outcome → Fault → Type 0 → Type 0
RefusedWhen went f X = ((went ≡ Refused f) × X) ⊎ ((went ≡ Taken) × (X → ⊥))

-- a call among those that were tried, how it went, and the ones before and after it
pub record Place (tried : List Attempt) : Type 0 where
  pub before : List Attempt
  pub call : Call
  pub went : Outcome
  pub after : List Attempt
  pub here : tried ≡ before ++ with_outcome call went ∷ after

-- the book before that call; how the calls before it went is not read
abbrev pub book_at : Compared → Book → {tried : List Attempt} → Place tried → Book
book_at c start place = book_after c start place.before

-- a value that was told and taken
abbrev pub IsTakenSettle : Attempt → Type 0
IsTakenSettle a = (v : ℤ) × (a.call ≡ Settle v) × (a.outcome ≡ Some Taken)

abbrev pub NoneSettled : List Attempt → Type 0
NoneSettled tried = AllByRecursion (λ a. IsTakenSettle a → ⊥) tried

-- the step i of the pair's state on the side is a receive, and the value v is out of range
pub record OutOfRange (c : Compared) (side : Side) (p : Pair) (i : ℕ) (v : ℤ) : Type 0 where
  pub step : Step
  pub at : Stands (steps_on side c p) step i
  pub receive : receives step.label ≡ true
  pub out : in_range_of c.left v ≡ false

-- the step j is the first reply to the step i; it has i's label; and at every value in range both land, and their landings form
-- a record of the relation
pub record FirstForAllValues (c : Compared) (side : Side) (p : Pair) (i j : ℕ) : Type 0 where
  pub first : FirstReply c side p i j
  pub one_label : label_on (opposed side) c p j ≡ label_on side c p i
  pub each_value : (v : ℤ) → in_range_of c.left v ≡ true → LandsAt c side p i j v

-- a play that began at the pair with the number k, with the book `start`, and whose calls were those of `attempts`; `tried` says
-- how each went, and `play` is where they led
pub record Plays (c : Compared) (k : ℕ) (start : Book) (attempts tried : List Attempt) (play : Play) : Type 0 where
  -- the play agrees with its book
  pub agrees : Agrees c.relation play (book_after c start attempts)
  -- each call is taken, refused with a fault, or out of turn, as computed from the book before it
  pub outcomes : tried ≡ attempts_with_outcomes c start attempts
  -- a challenge is refused exactly when it names no step of its side in the present pair
  pub challenge_refused : (at : Place tried) (side : Side) (i : ℕ) → at.call ≡ Challenge side i → (book_at c start at).phase ≡ level
      → RefusedWhen at.went NoStep (length (steps_on side c (book_at c start at).present) ≤ i)
  -- a reply is never refused
  pub reply_taken : (at : Place tried) (e : Side) (i : ℕ) → at.call ≡ Reply → (book_at c start at).phase ≡ challenged e i → at.went ≡ Taken
  -- a reply is the first, has its challenge's label, and is fixed for every value before one is told
  pub reply_fixed : (at : Place tried) (e : Side) (i : ℕ) → at.call ≡ Reply → (book_at c start at).phase ≡ challenged e i
      → (j : ℕ) × ((book_after_call c (book_at c start at) Reply).phase ≡ answered e i j) × FirstForAllValues c e (book_at c start at).present i j
  -- a settle is refused exactly when a received value is out of range
  pub settle_refused : (at : Place tried) (e : Side) (i j : ℕ) (v : ℤ) → at.call ≡ Settle v → (book_at c start at).phase ≡ answered e i j
      → RefusedWhen at.went Value (OutOfRange c e (book_at c start at).present i v)
  -- until a value is taken, the play keeps the pair number with which it began
  pub begun_at : NoneSettled tried → number_of play ≡ k
  -- a value that is taken leads to the first record equal to both landings, which are then the present pair; there the play stays
  -- until the next value is taken
  pub settled_at : (at : Place tried) (v : ℤ) → at.call ≡ Settle v → at.went ≡ Taken → NoneSettled at.after
      → FirstOf (Stands c.relation (book_after c start attempts).present) (Some (number_of play))

-- what a rehearsal answers, r, that is handed the systems and the relation of c, the pair number and the attempts, and leaves the
-- attempts as `tried`
pub record Law (c : Compared) (pair : ℕ) (attempts tried : List Attempt) (r : Result Play RehearsalFault) : Type 0 where
  -- exactly the bisimulations are accepted
  pub accepts : Decides (is_accepted r) (Bisimulation c)
  -- a refusal is the first no of the judge's questions, and then of begin's
  pub refuses : refusal_of rehearsal_refusal r ≡ first_no (judge_asked c ++ begin_asked (length c.relation) pair)
  -- of an accepted relation, begin is refused exactly when the pair number is not below the count of records
  pub begin_refused : Bisimulation c → Decides (is_err r) (length c.relation ≤ pair)
  -- without a play the attempts stay as they are
  pub not_played : OnErr r (tried ≡ attempts)
  -- the play and its book
  pub plays : IfOk r (λ play. (start : Book) × (opened c.relation pair ≡ Some start) × Plays c pair start attempts tried play)
  -- every run of either system, from a pair of the relation, is matched by one of the other
  pub runs : Bisimulation c → RunsMatched c

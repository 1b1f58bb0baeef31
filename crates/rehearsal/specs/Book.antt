-- The book of a play: what a bystander writes down who sees the relation, the systems and what is told to each call, but
-- neither pass nor play.
use Rattle.std.specs.Prelude.{◌≡◌, ℕ, suc, cond, List, [], ◌∷◌, length, ℤ, Some, None, Option, nat_lt}
use Rattle.std.specs.List.{slice_get}
use Rattle.lists.specs.Words.{through, Stands}
use Rattle.questions.specs.declared.Side.{Side}
use Rattle.model.specs.declared.state.Pair.{Pair}
use Rattle.systems.specs.Meaning.{Step}
use Rattle.judge.specs.Comparing.{Compared, opposed, steps_on}
use Rattle.judge.specs.Replies.{replies}
use Rattle.play.specs.Calls.{value_fits, landings_by}
use Rattle.play.specs.declared.fault.Fault.TheVariants.{NoStep, Value}
use Rattle.rehearsal.specs.declared.attempt.Attempt.{Attempt}
use Rattle.rehearsal.specs.declared.attempt.Call.{Call}
use Rattle.rehearsal.specs.declared.attempt.Call.TheVariants.{Challenge, Reply, Settle}
use Rattle.rehearsal.specs.declared.attempt.Outcome.{Outcome}
use Rattle.rehearsal.specs.declared.attempt.Outcome.TheVariants.{Taken, Refused, OutOfTurn}
use Rattle.rehearsal.specs.declared.playing.Play.{Play}
use Rattle.rehearsal.specs.declared.playing.Play.TheVariants.{Level, Challenged, Answered}

-- which call the play waits for: a challenge; the reply to a side's step; or a value, once the reply is fixed
pub data Phase : Type 0 where
  level : Phase
  challenged : Side → ℕ → Phase
  answered : Side → ℕ → ℕ → Phase

-- the present pair, and the phase of the play
pub record Book : Type 0 where
  pub present : Pair
  pub phase : Phase

abbrev pub book : Pair → Phase → Book
book p s = record { present = p; phase = s }

-- begin: a pair number below the count of records opens the book level, at that pair; any other opens none
abbrev pub opened : List Pair → ℕ → Option Book
opened rel k = through (λ p. book p level) (slice_get rel k)

-- the number of the first of the steps that replies to x, a step on the side; they are numbered from j on
abbrev pub first_reply_from : Compared → Side → Step → ℕ → List Step → Option ℕ
first_reply_from c side x j [] = None
first_reply_from c side x j (y ∷ ys) = cond (replies c side x y) (Some j) (first_reply_from c side x (suc j) ys)

-- the first reply to a step of the pair's state on the side
abbrev pub first_reply : Compared → Side → Pair → Option Step → Option ℕ
first_reply c side p None = None
first_reply c side p (Some x) = first_reply_from c side x 0 (steps_on (opposed side) c p)

-- a reply is added, if there is one
abbrev pub with_reply : Side → ℕ → Option ℕ → Phase
with_reply side i None = challenged side i
with_reply side i (Some j) = answered side i j

-- after a settle: both landings become the present pair, unless a received value is out of range
abbrev pub book_after_settle : Compared → Book → Side → Option Step → Option Step → ℤ → Book
book_after_settle c b side (Some x) (Some y) v = cond (value_fits c x.label v) (book (landings_by c side x y v) level) b
book_after_settle c b side (Some x) None v = b
book_after_settle c b side None y v = b

-- the book after a call, by its present pair p and its phase
abbrev pub next_book : Compared → Pair → Phase → Call → Book
next_book c p level (Challenge side i) = book p (cond (nat_lt i (length (steps_on side c p))) (challenged side i) level)
next_book c p level Reply = book p level
next_book c p level (Settle v) = book p level
next_book c p (challenged e i) (Challenge side k) = book p (challenged e i)
next_book c p (challenged e i) Reply = book p (with_reply e i (first_reply c e p (slice_get (steps_on e c p) i)))
next_book c p (challenged e i) (Settle v) = book p (challenged e i)
next_book c p (answered e i j) (Challenge side k) = book p (answered e i j)
next_book c p (answered e i j) Reply = book p (answered e i j)
next_book c p (answered e i j) (Settle v) = book_after_settle c (book p (answered e i j)) e (slice_get (steps_on e c p) i) (slice_get (steps_on (opposed e) c p) j) v

-- the same of a whole book
abbrev pub book_after_call : Compared → Book → Call → Book
book_after_call c b call = next_book c b.present b.phase call

-- the book after the calls of the attempts
abbrev pub book_after : Compared → Book → List Attempt → Book
book_after c b [] = b
book_after c b (a ∷ attempts) = book_after c (book_after_call c b a.call) attempts

-- how a settle goes, by the challenger's step
abbrev pub settle_outcome : Compared → ℤ → Option Step → Outcome
settle_outcome c v None = OutOfTurn
settle_outcome c v (Some x) = cond (value_fits c x.label v) Taken (Refused Value)

-- how a call goes at a book with the present pair p: it is taken, or refused with a fault, or out of turn
abbrev pub outcome : Compared → Pair → Phase → Call → Outcome
outcome c p level (Challenge side i) = cond (nat_lt i (length (steps_on side c p))) Taken (Refused NoStep)
outcome c p level Reply = OutOfTurn
outcome c p level (Settle v) = OutOfTurn
outcome c p (challenged e i) (Challenge side k) = OutOfTurn
outcome c p (challenged e i) Reply = Taken
outcome c p (challenged e i) (Settle v) = OutOfTurn
outcome c p (answered e i j) (Challenge side k) = OutOfTurn
outcome c p (answered e i j) Reply = OutOfTurn
outcome c p (answered e i j) (Settle v) = settle_outcome c v (slice_get (steps_on e c p) i)

-- a call that was tried, and how it went
abbrev pub with_outcome : Call → Outcome → Attempt
with_outcome call went = record { call = call; outcome = Some went }

-- the attempts, with how each call goes at the book that the calls before it have left
abbrev pub attempts_with_outcomes : Compared → Book → List Attempt → List Attempt
attempts_with_outcomes c b [] = []
attempts_with_outcomes c b (a ∷ attempts) = with_outcome a.call (outcome c b.present b.phase a.call) ∷ attempts_with_outcomes c (book_after_call c b a.call) attempts

-- the number of the record at which a play is
abbrev pub number_of : Play → ℕ
number_of (Level l) = l.pair
number_of (Challenged h) = h.pair
number_of (Answered a) = a.pair

-- the play waits for the same call as the book, with the same side and steps
abbrev pub InPhase : Play → Phase → Type 0
InPhase (Level l) phase = phase ≡ level
InPhase (Challenged h) phase = phase ≡ challenged h.side h.step
InPhase (Answered a) phase = phase ≡ answered a.side a.step a.reply

-- the play agrees with the book: it is in the same phase, and at a record equal to the present pair
pub record Agrees (rel : List Pair) (play : Play) (b : Book) : Type 0 where
  pub in_phase : InPhase play b.phase
  pub record_equal : Stands rel b.present (number_of play)

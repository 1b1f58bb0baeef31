-- One call of a play that agrees with its book.
use Rattle.std.specs.Prelude.{◌≡◌, ◌<◌, length, Some}
use Rattle.lists.specs.Words.{Stands, FirstOf}
use Rattle.model.specs.declared.state.Pair.{Pair}
use Rattle.judge.specs.Comparing.{Compared, steps_on}
use Rattle.judge.specs.Likeness.{Holds}
use Rattle.play.specs.Calls.{FirstReply}
use Rattle.play.specs.declared.fault.Fault.{Fault}
use Rattle.rehearsal.specs.declared.attempt.Call.{Call}
use Rattle.rehearsal.specs.declared.attempt.Outcome.TheVariants.{Taken, Refused, OutOfTurn}
use Rattle.rehearsal.specs.declared.make.AfterCall.{AfterCall}
use Rattle.rehearsal.specs.declared.playing.Play.{Play}
use Rattle.rehearsal.specs.Book.{Book, Phase, book_after_call, outcome, with_outcome, number_of, Agrees}
use Rattle.rehearsal.specs.Book.Phase.{level, challenged, answered}
use Rattle.rehearsal.specs.Law.{IsTakenSettle}

abbrev pub after_taken : Play → AfterCall
after_taken play = record { play = play; outcome = Taken }

abbrev pub after_refused : Play → Fault → AfterCall
after_refused play f = record { play = play; outcome = Refused f }

abbrev pub after_out_of_turn : Play → AfterCall
after_out_of_turn play = record { play = play; outcome = OutOfTurn }

-- the steps that a phase holds are there, and a reply that it holds is the first
abbrev pub Keeping : Compared → Pair → Phase → Type 0
Keeping c p level = Unit {0}
Keeping c p (challenged e i) = i < length (steps_on e c p)
Keeping c p (answered e i j) = FirstReply c e p i j

-- a book of a play over the relation: its present pair is a record, and what it holds of steps is so
pub record Sound (c : Compared) (b : Book) : Type 0 where
  pub held : Holds c.relation b.present
  pub keeping : Keeping c b.present b.phase

-- a call of a play that agrees with the book b, and what comes after it
pub record Next (c : Compared) (play : Play) (b : Book) (call : Call) (next : AfterCall) : Type 0 where
  pub agrees : Agrees c.relation next.play (book_after_call c b call)
  pub went : next.outcome ≡ outcome c b.present b.phase call
  -- a value that is taken leads to the first record
  pub first : IsTakenSettle (with_outcome call next.outcome) → FirstOf (Stands c.relation (book_after_call c b call).present) (Some (number_of next.play))
  -- nothing else leads away
  pub kept : (IsTakenSettle (with_outcome call next.outcome) → ⊥) → (number_of next.play ≡ number_of play) × ((book_after_call c b call).present ≡ b.present)

-- a call keeps the play in agreement with every book that it agrees with
abbrev pub KeepsBook : Compared → Play → Call → AfterCall → Type 0
KeepsBook c play call next = (b : Book) → Agrees c.relation play b → Sound c b → Next c play b call next

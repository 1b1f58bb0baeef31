use Rattle.lists.specs.Words.{Stands}
use Rattle.model.specs.declared.state.Pair.{Pair}
use Rattle.judge.specs.Comparing.{meant}
use Rattle.rehearsal.specs.Book.{book}
use Rattle.rehearsal.specs.Book.Phase.{level}
use Rattle.rehearsal.proofs.Rehearsing.{Going}
use Rattle.rehearsal.proofs.rehearse.rehearse.Given as goal

-- what is left gives the same book and the same outcomes as all calls do
abbrev pub invariant-loop-attempt : goal.invariant-loop-attempt
invariant-loop-attempt g l =
    let c = meant g.L.System.means g.R.System.means l.comparison in
    (p : Pair) → Stands c.relation p l.pair → Going c l.pair (book p level) l.initial.attempts l.attempts l.attempt-index l.play

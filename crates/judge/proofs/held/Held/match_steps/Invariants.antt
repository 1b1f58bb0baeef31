use Rattle.std.specs.List.{All}
use Rattle.judge.specs.Comparing.{meant}
use Rattle.judge.specs.Matching.{Replying}
use Rattle.judge.proofs.held.Held.match_steps.Given as goal

abbrev pub invariant-loop-first : goal.invariant-loop-first
invariant-loop-first g l = All (Replying (meant g.L.System.means g.R.System.means l.self.between.now.comparison.now) l.self.pair.now) l.matches.found.items

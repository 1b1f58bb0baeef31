-- Steps of the two states of a pair, matched with each other.
use Rattle.std.specs.Prelude.{ℕ}
use Rattle.questions.specs.declared.Side.{Side}
use Rattle.questions.specs.declared.Side.TheVariants.{Left, Right}
use Rattle.model.specs.declared.state.Pair.{Pair}
use Rattle.judge.specs.Comparing.{Compared}
use Rattle.judge.specs.Likeness.{Reply}
use Rattle.judge.specs.declared.matches.Match.{Match}

-- the right step of the match is a reply to its left step
abbrev pub Replying : Compared → Pair → Match → Type 0
Replying c p m = Reply c Left p m.left m.right

-- the number of its step on a side
abbrev pub step_on : Side → Match → ℕ
step_on Left m = m.left
step_on Right m = m.right

-- Ranges of values: question 1, and which values a range holds.
use Rattle.std.specs.Prelude.{Bool, ◌&&◌, List, ℤ, int_le}
use Rattle.questions.specs.Asking.{Question, ask, refuse}
use Rattle.questions.specs.declared.Refusal.{Refusal}
use Rattle.model.specs.declared.range.Backward.{Backward}

-- v lies in the range from lo to hi
abbrev pub in_range : ℤ → ℤ → ℤ → Bool
in_range lo hi v = int_le lo v && int_le v hi

-- 1: is lo at most hi?
abbrev pub range_asked : ℤ → ℤ → List (Question Refusal)
range_asked lo hi = ask (refuse 1) (int_le lo hi)

abbrev pub range_refusal : Backward → Refusal
range_refusal _ = refuse 1

use Rattle.std.proofs.Common.{◌≡◌, ◌∷◌}
use Rattle.std.specs.Fmt.{HasWritten, IsPlainFormatter}
use denote.Text.{Utf8}
use denote.Shadow.{shadow}
use Rattle.model.specs.Text.{listed}
use Rattle.model.proofs.Texts.{below, comma_after}
use Rattle.model.proofs.text.GroupSetDisplay.fmt.Given as goal

-- the groups below this one are written, and a comma stands ready where there was one
abbrev pub invariant-loop-group : goal.invariant-loop-group
invariant-loop-group g l =
    shadow (Utf8 l.separator) × (IsPlainFormatter l.fn.f → HasWritten g.W.Write.write_str_gives l.fn.f (123 ∷ listed (below l.fn.self l.group-counter)) l.f)
    × (l.separator ≡ comma_after (below l.fn.self l.group-counter))

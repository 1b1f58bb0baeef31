-- What an example of the code says, as an entry of the table.
use Rattle.std.specs.Prelude.{map, ℤ}
use Rattle.model.specs.declared.label.Label.{Label}
use Rattle.model.specs.declared.state.State.{State}
use Rattle.systems.specs.Meaning.{Meaning, Step}
use Rattle.worked.specs.declared.example.Source.{Source}
use Rattle.worked.specs.declared.example.Source.TheVariants.{Network, Sheet}
use Rattle.worked.specs.declared.example.Landing.{Landing}
use Rattle.worked.specs.declared.example.Landing.TheVariants.{Always, ByValue}
use Rattle.worked.specs.declared.example.Step.{Step as CodeStep}
use Rattle.worked.specs.declared.example.Example.{Example}
use Rattle.worked.specs.declared.example.Example.TheVariants.{Steps, Verdict}
use Rattle.worked.specs.Entries.{network, sheet, Entry, lists, judged, two, leads}

abbrev pub meaning_of : Source → Meaning
meaning_of (Network units limit rows) = network units limit rows.now
meaning_of (Sheet rows) = sheet rows.now

-- the second unit has the value in its first register
abbrev pub landing_of : Landing → ℤ → State
landing_of (Always s) v = s
landing_of (ByValue x y) v = two x (record { location = y.location; first = v; second = y.second; groups = y.groups })

abbrev pub always : Label → State → CodeStep
always l s = record { label = l; landing = Always s }

abbrev pub step_of : CodeStep → Step
step_of x = leads x.label (landing_of x.landing)

abbrev pub entry_of : Example → Entry
entry_of (Steps m s xs) = lists (meaning_of m) s (map step_of xs.items)
entry_of (Verdict m n rel r) = judged (meaning_of m) (meaning_of n) rel.items r

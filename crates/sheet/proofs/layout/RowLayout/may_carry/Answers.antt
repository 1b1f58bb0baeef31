use Rattle.std.proofs.Common.{rules}
use Rattle.std.proofs.lemmas.Int.{to_z-of_z}
use Rattle.sheet.proofs.layout.RowLayout.may_carry.Goals as goal

pub returns-then-eq : goal.returns-then-eq
returns-then-eq c = search (rules, to_z-of_z)

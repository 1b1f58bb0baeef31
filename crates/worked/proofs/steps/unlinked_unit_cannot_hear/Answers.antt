use Rattle.worked.proofs.steps.unlinked_unit_cannot_hear.Goals as goal

pub returns : goal.returns
returns c = rw (c.held.ensures, c.other_moves.ensures, c.other_moves-2.ensures, c.other_moves-3.ensures, c.other_moves-4.ensures, c.other_moves-5.ensures, c.other_moves-6.ensures, c.other_moves-7.ensures, c.leads.ensures, c.two.ensures, c.unit.ensures, c.two-2.ensures, c.unit-2.ensures, c.unit-unlinked.ensures)

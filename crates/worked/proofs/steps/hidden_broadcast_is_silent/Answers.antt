use Rattle.worked.proofs.steps.hidden_broadcast_is_silent.Goals as goal

pub returns : goal.returns
returns c = rw (c.held.ensures, c.moves.ensures, c.moves-2.ensures, c.moves-3.ensures, c.moves-4.ensures, c.moves-5.ensures, c.moves-6.ensures, c.moves-7.ensures, c.leads.ensures, c.one.ensures, c.unit.ensures, c.one-2.ensures, c.unit-2.ensures)

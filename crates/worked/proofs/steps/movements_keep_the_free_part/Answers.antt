use Rattle.worked.proofs.steps.movements_keep_the_free_part.Goals as goal

pub returns : goal.returns
returns c = rw (c.held.ensures, c.s0.ensures, c.moves.ensures, c.moves-2.ensures, c.moves-3.ensures, c.moves-4.ensures, c.moves-5.ensures, c.moves-6.ensures, c.moves-7.ensures, c.leads.ensures, c.s1.ensures)

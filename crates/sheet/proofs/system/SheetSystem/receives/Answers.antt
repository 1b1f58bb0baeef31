use Rattle.std.proofs.Common.{cond, [], ◌++◌, map, filter, vec_items, sym, ap, ◌∙◌}
use Rattle.std.proofs.lemmas.List.{map-append}
use Rattle.std.proofs.lemmas.Result.{IfOk-weaker}
use Rattle.lists.proofs.Mapped.{mapped_kept}
use Rattle.systems.specs.Meaning.{receives}
use Rattle.systems.specs.Listing.{receives_in}
use Rattle.sheet.specs.States.{number_of}
use Rattle.sheet.specs.Meaning.{step_of, rows_from}
use Rattle.sheet.proofs.system.SheetSystem.receives.Goals as goal

pub returns-then-is_lawful-clause-adds : goal.returns-then-is_lawful-clause-adds
returns-then-is_lawful-clause-adds c =
    let rows = rows_from (number_of c.args.state.now) c.args.self.now.rows.items in
    let was = vec_items c.args.receives.now in
    let told = sym (mapped_kept step_of (λ x. receives x.label) rows) ∙ ap (λ b. receives_in (map step_of (cond b rows []))) c.if-is_lawful.ensures.is in
    IfOk-weaker c.add_receiving.result _ _
    (λ _ h. ap (map step_of) h ∙ map-append step_of was (filter (λ r. receives (step_of r).label) rows) ∙ ap (λ xs. map step_of was ++ xs) told)
    c.add_receiving.ensures.adds

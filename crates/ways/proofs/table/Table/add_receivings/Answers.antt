use Rattle.std.proofs.Common.{map, vec_items, ap, ◌∙◌, ◌++◌}
use Rattle.std.proofs.lemmas.List.{map-append}
use Rattle.std.proofs.lemmas.Result.{IfOk-weaker}
use Rattle.ways.specs.Nets.{net_of}
use Rattle.ways.specs.Receivings.{received_by, receivings}
use Rattle.ways.proofs.Received.{receivings_are}
use Rattle.ways.proofs.table.Table.add_receivings.Goals as goal

pub returns-else-is_err-clause-told : goal.returns-else-is_err-clause-told
returns-else-is_err-clause-told c =
    let n = net_of c.args.self.now in
    let s = c.args.state.now in
    let told = map (received_by n s) (vec_items c.args.found.now) in
    IfOk-weaker c.add_receivings_in_turn-added.result _ _
    (λ _ h. ap (map (received_by n s)) h ∙ map-append (received_by n s) (vec_items c.args.found.now) (receivings n s) ∙ ap (λ xs. told ++ xs) (receivings_are n s))
    c.add_receivings_in_turn-added.ensures.adds

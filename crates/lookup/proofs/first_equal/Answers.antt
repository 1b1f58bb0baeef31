use Rattle.std.proofs.Common.{rules, tests}
use Rattle.std.proofs.lemmas.Iterator.{YieldsList-from_slice}
use Rattle.std.proofs.lemmas.Iterator.Search.{position_from_yields_List}
use Rattle.lists.specs.Words.{Stands, FirstOf}
use Rattle.lookup.proofs.Finding.{first_found}
use Rattle.lookup.proofs.first_equal.Goals as goal

pub returns : goal.returns
returns g c =
    let eq = g.R.PartialEq.eq in
    let w = c.args.wanted.now in
    let found : FirstOf (Stands c.args.records.now w) c.position.result =
    first_found w (λ x. eq x w) (λ x. g.met.R.Exact.exact x w) c.args.records.now _
    (position_from_yields_List (λ x. eq x w) _ _ c.position.result c.position.ensures.ran (YieldsList-from_slice c.args.records.now cc) (λ x b q k. search (rules, tests))) in
    search rules

use Rattle.std.proofs.Common.{leb, ◌∙◌, rules, tests}
use Rattle.std.proofs.lemmas.Iterator.{YieldsList-from_slice}
use Rattle.std.proofs.lemmas.Iterator.Search.{all_from_yields_List}
use Rattle.lists.proofs.Every.{all_every}
use Rattle.model.specs.GroupSets.{group_count}
use Rattle.model.specs.Placements.{sets_of}
use Rattle.model.specs.declared.group_set.GroupSet.{GroupSet}
use Rattle.network_tests.proofs.at_most.AtMostRule.allows.Goals as goal

pub returns : goal.returns
returns c =
    let low = λ (s : GroupSet). leb (group_count s) c.args.self.now.limit in
    let sets = sets_of c.args.placement.now in
    all_from_yields_List low _ _ _ c.all.ensures.ran (YieldsList-from_slice sets (cc)) (λ x b q k. search (rules, tests)) ∙ all_every low sets

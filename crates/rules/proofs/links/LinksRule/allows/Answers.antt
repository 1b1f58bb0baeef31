use Rattle.std.proofs.Common.{ap, ◌∙◌, rules}
use borrow.Author.Tests.{tests}
use Rattle.std.proofs.lemmas.Iterator.{YieldsList-from_slice}
use Rattle.std.proofs.lemmas.Iterator.Search.{all_from_yields_List}
use Rattle.lists.proofs.Every.{all_every}
use Rattle.rules.specs.LinkRecords.{met}
use Rattle.rules.specs.LinkRules.{meets}
use Rattle.rules.proofs.links.LinksRule.allows.Goals as goal

pub returns : goal.returns
returns c =
    let links = c.args.self.now.links.items in
    all_from_yields_List (met c.sets-sets.result.now) _ _ _ c.all.ensures.ran (YieldsList-from_slice links cc) (λ x b q k. search (rules, tests))
    ∙ all_every _ links ∙ ap (meets links) c.sets-sets.ensures

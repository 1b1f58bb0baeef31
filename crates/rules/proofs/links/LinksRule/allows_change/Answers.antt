use Rattle.std.proofs.Common.{set, ap, ◌∙◌, rules}
use borrow.Author.Tests.{tests}
use Rattle.std.proofs.lemmas.Iterator.{YieldsList-from_slice}
use Rattle.std.proofs.lemmas.Iterator.Search.{all_from_yields_List}
use Rattle.lists.proofs.Every.{all_every}
use Rattle.rules.specs.LinkRecords.{met_of}
use Rattle.rules.specs.LinkRules.{meets_of}
use Rattle.rules.proofs.links.LinksRule.allows_change.Goals as goal

pub returns : goal.returns
returns c =
    let links = c.args.self.now.links.items in
    let unit = c.args.unit in
    let passes = met_of unit (set c.sets-sets.result.now unit c.args.set) in
    all_from_yields_List passes _ _ _ c.all.ensures.ran (YieldsList-from_slice links cc) (λ x b q k. search (rules, tests))
    ∙ all_every passes links ∙ ap (λ sets. meets_of unit links (set sets unit c.args.set)) c.sets-sets.ensures

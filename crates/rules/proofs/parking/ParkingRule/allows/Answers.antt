use Rattle.std.proofs.Common.{ap, ◌∙◌, rules}
use borrow.Author.Tests.{tests}
use Rattle.std.proofs.lemmas.Iterator.{YieldsList-from_slice}
use Rattle.std.proofs.lemmas.Iterator.Consumers.{YieldsList-at, YieldsList-from_enumerate}
use Rattle.std.proofs.lemmas.Iterator.Search.{all_from_yields_List}
use Rattle.lists.proofs.Every.{all_numbered}
use Rattle.rules.specs.Parkings.{recorded, parks}
use Rattle.rules.proofs.parking.ParkingRule.allows.Goals as goal

pub returns : goal.returns
returns c =
    let ps = c.args.self.now.places.items in
    let sets = c.sets.result.now in
    all_from_yields_List (λ p. recorded ps p.0 p.1) _ _ _ c.all.ensures.ran
    (YieldsList-from_enumerate (YieldsList-at c.enumerate.ensures.source (YieldsList-from_slice sets cc)) c.enumerate.ensures.count) (λ x b q k. search (rules, tests))
    ∙ all_numbered (recorded ps) 0 sets ∙ ap (parks ps) c.sets.ensures

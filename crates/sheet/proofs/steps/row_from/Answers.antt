use Rattle.std.proofs.Common.{◌∙◌, rules}
use borrow.Author.Tests.{tests}
use Rattle.std.proofs.lemmas.Iterator.{YieldsList-from_slice}
use Rattle.std.proofs.lemmas.Iterator.Consumers.{YieldsList-at, YieldsList-from_filter, nth_from_yields_List}
use Rattle.sheet.proofs.steps.row_from.Goals as goal

pub returns : goal.returns
returns c =
    c.copied.ensures
    ∙ nth_from_yields_List c.nth.result c.nth.new.self c.args.step c.nth.ensures.ran
    (YieldsList-from_filter _ _ (YieldsList-at c.filter.ensures.source (YieldsList-from_slice c.args.rows.now cc)) c.filter.ensures.closure (λ x b q k. search (rules, tests)))

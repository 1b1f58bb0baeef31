use Rattle.std.proofs.Common.{◌≡◌, leb, ap, ◌∙◌, rules}
use borrow.Author.Tests.{tests}
use Rattle.std.proofs.lemmas.Iterator.{YieldsList-from_slice}
use Rattle.std.proofs.lemmas.Iterator.Search.{all_from_yields_List}
use Rattle.std.proofs.lemmas.Bool.Decides.{Decides-at}
use Rattle.lists.proofs.Every.{all_every}
use Rattle.model.specs.GroupSets.{group_count}
use Rattle.model.specs.Placements.{sets_of}
use Rattle.rules.specs.Tuners.{tuned_to}
use Rattle.rules.proofs.Tuned.{decides_tuned}
use Rattle.rules.proofs.tuners.TunerRule.allows.Goals as goal

pub returns : goal.returns
returns c =
    let limit = c.args.self.now.limit in
    let sets = sets_of c.args.placement.now in
    let is : c.all.result ≡ tuned_to limit sets =
    all_from_yields_List (λ s. leb (group_count s) limit) _ _ _ c.all.ensures.ran (YieldsList-from_slice c.sets.result.now cc) (λ x b q k. search (rules, tests))
    ∙ all_every _ c.sets.result.now ∙ ap (tuned_to limit) c.sets.ensures in
    record { is = is; tuned = Decides-at _ _ is (decides_tuned limit sets) }

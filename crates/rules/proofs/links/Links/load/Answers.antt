use Rattle.std.proofs.Common.{Bool, ap}
use Rattle.std.proofs.lemmas.Bool.Decides.{Decides-at}
use Rattle.rules.specs.LinkRules.{meets, links_of}
use Rattle.rules.proofs.Linked.{decides_meets}
use Rattle.rules.proofs.links.Links.load.Goals as goal

pub returns-clause-met : goal.returns-clause-met
returns-clause-met c = λ sets. Decides-at _ _ (ap (λ links. meets links sets) c.in_ok-load.ensures.loads) (decides_meets (links_of c.args.bytes.now) sets)

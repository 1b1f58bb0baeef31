use Rattle.std.proofs.Common.{ap}
use Rattle.std.proofs.lemmas.Bool.Decides.{Decides-at}
use Rattle.rules.specs.Parkings.{parks, places_of}
use Rattle.rules.proofs.Parked.{decides_parked}
use Rattle.rules.proofs.parking.Parking.load.Goals as goal

pub returns-clause-parked : goal.returns-clause-parked
returns-clause-parked c = λ sets. Decides-at _ _ (ap (λ places. parks places sets) c.in_ok-load.ensures.loads) (decides_parked (places_of c.args.bytes.now) sets)

use Rattle.std.proofs.Common.{List, ap, ◌∙◌, subst, sym}
use Rattle.lists.specs.Words.{Stands, FirstOf}
use Rattle.rules.specs.declared.place.Place.{Place}
use Rattle.rules.proofs.Parked.{wanted, found_recorded}
use Rattle.rules.proofs.parking.Parking.records.Goals as goal

pub returns : goal.returns
returns c =
    let P : List Place → Type 0 = λ ps. FirstOf (Stands ps (wanted c.args.unit c.args.set)) c.first_equal.result in
    c.is_some.ensures ∙ found_recorded c.args.unit c.args.set c.args.self.now.places.items c.first_equal.result (subst P c.as_slice.ensures.value c.first_equal.ensures)

use Rattle.std.proofs.Common.{Some, refl, sym, ◌∙◌, ap, rules}
use Rattle.std.proofs.lemmas.Bool.{false≢true}
use Rattle.std.specs.List.{slice_get}
use Rattle.lists.specs.Words.{Stands}
use Rattle.judge.specs.Comparing.{meant, opposed, listing_on}
use Rattle.judge.proofs.Finding.{first_found}
use Rattle.judge.proofs.Seen.{seen_at, not_seen_at}
use Rattle.judge.proofs.held_step.HeldStep.is_seen_at.Goals as goal

pub returns-then-not-is_equal : goal.returns-then-not-is_equal
returns-then-not-is_equal g c =
    let own = c.args.self.now in
    let held = own.held.now in
    let x = meant g.L.System.means g.R.System.means held.between.now.comparison.now in
    let found = c.in-Some-Some in (
      λ e. absurd (false≢true e),
      λ s. absurd (not_seen_at x own.side (opposed own.side) held.pair.now held.lowest own.listed.now refl c.args.number found.own found.held.now found.is-0
          (ap (λ r. slice_get r c.args.number) (sym c.relation.ensures) ∙ rw found.is-1 at c.nth.ensures)
          (λ e. false≢true (sym c.if-not-is_equal.true ∙ c.is_equal.ensures.1 (e ∙ sym c.state_on.ensures))) s),
    )

pub returns : goal.returns
returns g c =
    let own = c.args.self.now in
    let held = own.held.now in
    let x = meant g.L.System.means g.R.System.means held.between.now.comparison.now in
    let found = c.in-Some-Some in
    seen_at x own.side c.opposite-opposite.result held.pair.now held.lowest own.listed.now c.opposite-opposite.ensures c.args.number found.own found.held.now found.is-0
    (ap (λ r. slice_get r c.args.number) (sym c.relation.ensures) ∙ rw found.is-1 at c.nth.ensures)
    c.state_on-other.result.now c.count.result c.find.result c.is_some.result (c.is_equal.ensures.0 c.if-not-is_equal.false ∙ c.state_on.ensures) c.state_on-other.ensures c.count.ensures
    (first_found _ (λ j. Stands (listing_on (opposed own.side) x held.pair.now held.lowest) (record { label = own.listed.now.label; landing = Some c.state_on-other.result.now }) j) (λ k q h. search (rules, false≢true)) (λ k q h. search (rules, false≢true)) c.count.result _ c.find.result c.find.ensures.ran)
    c.is_some.ensures

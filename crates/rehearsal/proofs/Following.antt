-- The runs between two systems with a bisimulation match. Assumes nothing.
use Rattle.std.proofs.Common.{◌≡◌, List, ◌∷◌, ℤ, sym, refl, ap, ◌∙◌, subst}
use Rattle.std.specs.List.{slice_get}
use Rattle.lists.specs.Words.{Stands}
use Rattle.lists.proofs.Places.{some_same, nth_within}
use Rattle.questions.specs.declared.Side.{Side}
use Rattle.questions.specs.declared.Side.TheVariants.{Left, Right}
use Rattle.model.specs.declared.label.Label.{Label}
use Rattle.model.specs.declared.state.State.{State}
use Rattle.systems.specs.Meaning.{Step}
use Rattle.judge.specs.Comparing.{Compared, opposed, pair_from, system_on, steps_on}
use Rattle.judge.specs.Likeness.{Holds, Matched, Bisimulation}
use Rattle.judge.proofs.Replying.{range_on}
use Rattle.judge.proofs.Seen.{own_state, other_state}
use Rattle.rehearsal.specs.Runs.{Run, Event, RunMatched, RunsMatched}
use Rattle.rehearsal.specs.Runs.Run.{stops, goes}

event_same : {k l : Label} {es fs : List Event} (v : ℤ) → k ≡ l → es ≡ fs → ◌≡◌ {A = List Event} (record { label = k; value = v } ∷ es) (record { label = l; value = v } ∷ fs)
event_same v p q = cc

shown_of : (c : Compared) (side : Side) (s t : State) → Matched c (pair_from side s t) → (system_on side c).shown s ≡ (system_on (opposed side) c).shown t
shown_of c Left s t m = m.same_shown
shown_of c Right s t m = sym m.same_shown

module _ (c : Compared) (bis : Bisimulation c) (side : Side) where
  matched : (s t : State) → Holds c.relation (pair_from side s t) → Matched c (pair_from side s t)
  matched s t h = bis.each h.0 (pair_from side s t) h.1

  follows : (s t : State) → Holds c.relation (pair_from side s t) → (run : Run (system_on side c) s) → RunMatched c side s t run
  follows s t h stops = record { other = stops; same_events = refl; paired = (record { held = h; same_shown = shown_of c side s t (matched s t h) }, tt) }
  follows s t h (goes i v x at within rest) =
      let p = pair_from side s t in
      let here : Stands (steps_on side c p) x i = ap (λ u. slice_get ((system_on side c).steps u) i) (own_state side s t) ∙ at in
      let a = (matched s t h).answered side i (nth_within (steps_on side c p) i x here) in
      let r = a.1 in
      let y = r.given in
      let same = some_same (slice_get (steps_on side c p) i) r.asked x r.asked_at here in
      let left = range_on c bis.one_range side v ∙ within in
      let landed = subst (λ (z : Step). Holds c.relation (pair_from side (z.landing v) (y.landing v))) same (r.lands v left) in
      let there : Stands ((system_on (opposed side) c).steps t) y a.0 = ap (λ u. slice_get ((system_on (opposed side) c).steps u) a.0) (sym (other_state side s t)) ∙ r.given_at in
      let next = follows (x.landing v) (y.landing v) landed rest in
      record {
        other = goes a.0 v y there (sym (range_on c bis.one_range (opposed side) v) ∙ left) next.other;
        same_events = event_same v (sym r.one_label ∙ ap (λ (z : Step). z.label) same) next.same_events;
        paired = (record { held = h; same_shown = shown_of c side s t (matched s t h) }, next.paired);
      }

pub runs_matched : (c : Compared) → Bisimulation c → RunsMatched c
runs_matched c bis side = follows c bis side

-- The receives among the steps of a network. Assumes nothing.
use Rattle.std.proofs.Common.{◌≡◌, ℕ, Bool, List, [], ◌∷◌, ◌++◌, map, filter, sym, refl, ap, ◌∙◌}
use mathlib.Core.List.{map-map}
use Rattle.std.specs.List.{range_with_len, flat_map}
use Rattle.std.proofs.lemmas.List.{map-append}
use Rattle.std.proofs.lemmas.List.Elements.{filter-append}
use Rattle.model.specs.declared.group_set.GroupSet.{GroupSet}
use Rattle.model.specs.declared.state.State.{State}
use Rattle.systems.specs.Listing.{receives_in}
use Rattle.systems.specs.Meaning.{Step, receives}
use Rattle.ways.specs.declared.way.Way.TheVariants.{Move}
use Rattle.ways.specs.Nets.{Net}
use Rattle.ways.specs.Ways.{acts}
use Rattle.ways.specs.Landings.{step_of}
use Rattle.ways.proofs.Received.{kept_joined, none_kept}
use Rattle.network.specs.Meanings.{set_of, set_numbers, may_move, movements_of, movements, ways}

none_joined : {X : Type 0} (ks : List ℕ) → flat_map {A = X} (λ (k : ℕ). []) ks ≡ []
none_joined [] = refl
none_joined (k ∷ ks) = none_joined ks

module _ (n : Net) (allowed : List GroupSet → Bool) (s : State) where
  no_receive_of : (u : ℕ) → receives_in (map (step_of n s) (movements_of n allowed s u)) ≡ []
  no_receive_of u =
      let sets = filter (λ b. may_move n allowed s u (set_of b)) set_numbers in
      ap receives_in (map-map (step_of n s) (λ b. Move u (set_of b)) sets) ∙ none_kept (λ (x : Step). receives x.label) (λ b. step_of n s (Move u (set_of b))) (λ b. refl) sets

  no_receive : receives_in (map (step_of n s) (movements n allowed s)) ≡ []
  no_receive =
      kept_joined (λ (x : Step). receives x.label) (step_of n s) (movements_of n allowed s) (range_with_len 0 n.units) ∙ (λ i. flat_map (λ u. no_receive_of u i) (range_with_len 0 n.units)) ∙ none_joined (range_with_len 0 n.units)

  pub no_movement_received : receives_in (map (step_of n s) (acts n s)) ≡ receives_in (map (step_of n s) (ways n allowed s))
  no_movement_received =
      sym (ap receives_in (map-append (step_of n s) (movements n allowed s) (acts n s)) ∙ filter-append (λ (x : Step). receives x.label) (map (step_of n s) (movements n allowed s)) (map (step_of n s) (acts n s)) ∙ ap (λ l. l ++ receives_in (map (step_of n s) (acts n s))) no_receive)

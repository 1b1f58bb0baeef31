-- Which sets are recorded for a unit. Assumes nothing.
use Rattle.std.proofs.Common.{◌≡◌, ℕ, zero, suc, Bool, true, false, ◌&&◌, ◌||◌, eqb, List, [], ◌∷◌, ◌⊎◌, is_some, Some, None, Option, Decides, refl, sym, ap, ◌∙◌, arith, inl, inr, ⊎_elim}
use Rattle.std.proofs.lemmas.Bool.{false≢true}
use Rattle.std.proofs.lemmas.Bool.Decides.{Decides-and, Decides-or, Decides-eqb, Decides-like, same_from_decides}
use Rattle.lists.specs.Words.{Stands, FirstOf}
use Rattle.lists.proofs.Places.{some_none}
use Rattle.lists.proofs.Every.{decides_every}
use Rattle.model.specs.declared.group_set.GroupSet.{GroupSet}
use Rattle.rules.specs.declared.place.Place.{Place}
use Rattle.rules.specs.Parkings.{recorded, parks, Parked}

module _ (unit : ℕ) (set : GroupSet) where
  abbrev pub wanted : Place
  wanted = record { unit = unit; set = set }

  -- equal fields make equal records
  place_alike : (l k m n : ℕ) → l ≡ k → m ≡ n → ◌≡◌ {A = Place} (record { unit = l; set = record { bits = m } }) (record { unit = k; set = record { bits = n } })
  place_alike l k m n p q = cc

  decides_place : (p : Place) → Decides (eqb p.unit unit && eqb p.set.bits set.bits) (p ≡ wanted)
  decides_place p =
      Decides-like _ (λ h. place_alike _ _ _ _ h.0 h.1) (λ e. (ap (λ (x : Place). x.unit) e, ap (λ (x : Place). x.set.bits) e))
      (Decides-and _ _ (Decides-eqb p.unit unit) (Decides-eqb p.set.bits set.bits))

  -- a set is recorded for a unit exactly if some record has both
  pub decides_recorded : (ps : List Place) → Decides (recorded ps unit set) ((k : ℕ) × Stands ps wanted k)
  decides_recorded [] = (λ e. absurd (false≢true e), λ s. absurd (some_none _ _ s.1 refl))
  decides_recorded (p ∷ ps) =
      Decides-like _ there back (Decides-or _ _ (decides_place p) (decides_recorded ps))
    where
      there : (p ≡ wanted) ⊎ ((k : ℕ) × Stands ps wanted k) → (k : ℕ) × Stands (p ∷ ps) wanted k
      there (inl e) = (0, ap Some e)
      there (inr s) = (suc s.0, s.1)

      back : (k : ℕ) × Stands (p ∷ ps) wanted k → (p ≡ wanted) ⊎ ((k : ℕ) × Stands ps wanted k)
      back s = by s.0 s.1
        where
          by : (k : ℕ) → Stands (p ∷ ps) wanted k → (p ≡ wanted) ⊎ ((k : ℕ) × Stands ps wanted k)
          by zero e = inl (cc)
          by (suc k) e = inr (k, e)

  -- and so does the look-up tell it
  pub found_recorded : (ps : List Place) (o : Option ℕ) → FirstOf (Stands ps wanted) o → is_some o ≡ recorded ps unit set
  found_recorded ps None f = same_from_decides false _ (λ e. absurd (false≢true e), λ s. absurd (f s.0 s.1)) (decides_recorded ps)
  found_recorded ps (Some i) f = same_from_decides true _ (λ _. (i, f.0), λ _. refl) (decides_recorded ps)

pub decides_parked : (ps : List Place) (sets : List GroupSet) → Decides (parks ps sets) (Parked ps sets)
decides_parked ps sets = decides_every (recorded ps) (λ unit set. (k : ℕ) × Stands ps (record { unit = unit; set = set }) k) (λ unit set. decides_recorded unit set ps) sets

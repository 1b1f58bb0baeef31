-- What the steps of a sheet keep. Assumes nothing.
use Rattle.std.specs.Prelude.{◌≡◌, Bool, false, cond, [], map, ℤ, refl}
use Rattle.std.proofs.Common.{ℕ, ap}
use Rattle.std.proofs.lemmas.Bool.{true≢false}
use Rattle.systems.specs.Meaning.{Keeps, receives}
use Rattle.systems.proofs.Ways.{steady_ways}
use Rattle.sheet.specs.declared.row.Kind.{Kind}
use Rattle.sheet.specs.declared.row.Kind.TheVariants.{Silent, Movement, Broadcast, Receive}
use Rattle.sheet.specs.declared.sheet.Sheet.{Sheet}
use Rattle.sheet.specs.States.{state_at}
use Rattle.sheet.specs.Meaning.{step_of, label_of, target, sheet_meaning}

-- only a receive lands by the value
steady_kind : (a : Kind) (to : ℕ) → receives (label_of a) ≡ false → (v w : ℤ) → target a to v ≡ target a to w
steady_kind Silent to e v w = refl
steady_kind Movement to e v w = refl
steady_kind (Broadcast g u) to e v w = refl
steady_kind (Receive g u other) to e v w = absurd (true≢false e)

unlawful : {X : Type 0} (b : Bool) (x y : X) → b ≡ false → cond b x y ≡ y
unlawful b x y e = ap (λ c. cond c x y) e

pub keeps : (t : Sheet) → Keeps (sheet_meaning t)
keeps t =
    record {
      ordered = t.range.ordered;
      no_steps = λ s e. ap (map step_of) (unlawful _ _ [] e);
      nothing_shown = λ s e. unlawful _ _ _ e;
      steady = λ s i x at r v w _ _. steady_ways step_of _ i x at r (λ y _ e v w. ap state_at (steady_kind y.kind y.to e v w)) v w;
    }

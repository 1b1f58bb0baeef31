-- When a link is met. Assumes nothing.
use Rattle.std.proofs.Common.{◌≡◌, ℕ, true, false, not, List, Some, None, Option, Decides, refl, sym, ◌∙◌}
use Rattle.std.specs.List.{slice_get}
use Rattle.std.proofs.lemmas.Bool.{false≢true}
use Rattle.std.proofs.lemmas.Bool.Decides.{Decides-not, Decides-like}
use Rattle.lists.specs.Words.{Stands}
use Rattle.lists.proofs.Places.{some_same, some_none}
use Rattle.lists.proofs.Every.{decides_every}
use Rattle.model.specs.declared.group_set.GroupSet.{GroupSet}
use Rattle.model.specs.GroupSets.{linked}
use Rattle.model.proofs.Groups.{decides_linked}
use Rattle.rules.specs.declared.link.Link.{Link}
use Rattle.rules.specs.declared.link.LinkKind.{LinkKind}
use Rattle.rules.specs.declared.link.LinkKind.TheVariants.{Joined, Apart}
use Rattle.rules.specs.LinkRecords.{requires, met_by, met, Requires, Met}
use Rattle.rules.specs.LinkRules.{meets, Meets}

decides_requires : (kind : LinkKind) (s t : GroupSet) → Decides (requires kind (linked s t)) (Requires kind s t)
decides_requires Joined s t = decides_linked s t
decides_requires Apart s t =
    Decides-like _ (λ no g a b. no (g, a, b)) (λ none p. none p.0 p.1 p.2) (Decides-not (linked s t) (decides_linked s t))

decides_by : (kind : LinkKind) (o p : Option GroupSet) → Decides (met_by kind o p) ((s : GroupSet) × (t : GroupSet) × (o ≡ Some s) × (p ≡ Some t) × Requires kind s t)
decides_by kind None p = (λ e. absurd (false≢true e), λ h. absurd (some_none _ _ h.2 refl))
decides_by kind (Some s) None = (λ e. absurd (false≢true e), λ h. absurd (some_none _ _ h.3 refl))
decides_by kind (Some s) (Some t) = (
  λ e. (s, t, refl, refl, (decides_requires kind s t).0 e),
  λ h. let a : h.0 ≡ s = cc in let b : h.1 ≡ t = cc in (decides_requires kind s t).1 (rw a at (rw b at h.4)),
)

pub decides_meets : (links : List Link) (sets : List GroupSet) → Decides (meets links sets) (Meets links sets)
decides_meets links sets = decides_every (λ _. met sets) (λ _. Met sets) (λ _ l. decides_by l.kind (slice_get sets l.one) (slice_get sets l.other)) links

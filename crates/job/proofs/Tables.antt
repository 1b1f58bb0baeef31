-- The questions to the tables of a side, and what its records mean. Assumes nothing.
use Rattle.std.proofs.Common.{◌≡◌, ℕ, true, ◌&&◌, List, ◌++◌, ℤ, is_some, None, Option, ap, ◌∙◌}
use Rattle.questions.specs.Asking.{first_no}
use Rattle.questions.specs.declared.Refusal.{Refusal}
use Rattle.questions.specs.declared.Side.{Side}
use Rattle.questions.proofs.Chained.{first_of, then_of}
use Rattle.model.specs.Ranges.{range_asked}
use Rattle.rules.specs.LinkRules.{meets, links_allow, links_asked, links_of}
use Rattle.rules.specs.Tuners.{tuned_to, tuner_asked}
use Rattle.rules.specs.declared.both.Both.{Both}
use Rattle.rules.specs.declared.links.Links.{Links}
use Rattle.rules.specs.declared.tuner.Tuner.{Tuner}
use Rattle.ways.specs.Nets.{Net}
use Rattle.network.specs.Loads.{network_asked, net_in}
use Rattle.network.specs.Meanings.{network_meaning}
use Rattle.frames.specs.Payloads.{side_bytes, setting_of}
use Rattle.frames.specs.declared.kind.Kind.TheVariants.{Row, Link}
use Rattle.frames.specs.declared.setting.Setting.{Setting}
use Rattle.job.specs.Sides.{tables_asked, ruled_meaning, side_meaning}

-- the questions to a setting and the bytes of links and rows, one after the other
module _ (s : Setting) (links rows : List ℕ) (o : Option Refusal) where
  pub links_refused : None ≡ first_no (range_asked s.lo s.hi) → is_some o ≡ true → o ≡ first_no (links_asked links) → o ≡ first_no (tables_asked s links rows)
  links_refused range some e =
      then_of o (range_asked s.lo s.hi) (links_asked links ++ (tuner_asked s.limit ++ network_asked s.lo s.hi s.units rows)) range
      (first_of o (links_asked links) (tuner_asked s.limit ++ network_asked s.lo s.hi s.units rows) some e)

  pub tuner_refused : None ≡ first_no (range_asked s.lo s.hi) → None ≡ first_no (links_asked links) → is_some o ≡ true → o ≡ first_no (tuner_asked s.limit) → o ≡ first_no (tables_asked s links rows)
  tuner_refused range none some e =
      then_of o (range_asked s.lo s.hi) (links_asked links ++ (tuner_asked s.limit ++ network_asked s.lo s.hi s.units rows)) range
      (then_of o (links_asked links) (tuner_asked s.limit ++ network_asked s.lo s.hi s.units rows) none
      (first_of o (tuner_asked s.limit) (network_asked s.lo s.hi s.units rows) some e))

  -- also where nothing is refused
  pub network_asked_lem : (lo hi : ℤ) → lo ≡ s.lo → hi ≡ s.hi → None ≡ first_no (range_asked s.lo s.hi) → None ≡ first_no (links_asked links) → None ≡ first_no (tuner_asked s.limit) → o ≡ first_no (network_asked lo hi s.units rows) → o ≡ first_no (tables_asked s links rows)
  network_asked_lem lo hi same_lo same_hi range none tuner e =
      let own : o ≡ first_no (network_asked s.lo s.hi s.units rows) =
      e ∙ ap (λ l. first_no (network_asked l hi s.units rows)) same_lo ∙ ap (λ h. first_no (network_asked s.lo h s.units rows)) same_hi in
      then_of o (range_asked s.lo s.hi) (links_asked links ++ (tuner_asked s.limit ++ network_asked s.lo s.hi s.units rows)) range
      (then_of o (links_asked links) (tuner_asked s.limit ++ network_asked s.lo s.hi s.units rows) none
      (then_of o (tuner_asked s.limit) (network_asked s.lo s.hi s.units rows) tuner own))

-- what a network means that is loaded from the records of a side
module _ (side : Side) (bytes : List ℕ) (s : Setting) (is : s ≡ setting_of side bytes) where
  pub side_meaning_lem : (net : Net) (rule made : Both Links Tuner) (lo hi : ℤ) → net ≡ net_in lo hi s.free s.units (side_bytes Row side bytes) → lo ≡ s.lo → hi ≡ s.hi
      → rule ≡ made → links_allow made.one ≡ meets (links_of (side_bytes Link side bytes)) → made.other.limit ≡ s.limit → ruled_meaning net rule ≡ side_meaning side bytes
  side_meaning_lem net rule made lo hi of_bytes same_lo same_hi ruled allow limit =
      let rows = side_bytes Row side bytes in
      let links = links_of (side_bytes Link side bytes) in
      let own : net ≡ net_in s.lo s.hi s.free s.units rows = of_bytes ∙ ap (λ l. net_in l hi s.free s.units rows) same_lo ∙ ap (λ h. net_in s.lo h s.free s.units rows) same_hi in
      ap (λ n. ruled_meaning n rule) own ∙ ap (λ r. ruled_meaning (net_in s.lo s.hi s.free s.units rows) r) ruled
      ∙ ap (λ f. network_meaning (net_in s.lo s.hi s.free s.units rows) (λ sets. f sets && tuned_to made.other.limit sets)) allow
      ∙ ap (λ n. network_meaning (net_in s.lo s.hi s.free s.units rows) (λ sets. meets links sets && tuned_to n sets)) limit
      ∙ ap (λ t. network_meaning (net_in t.lo t.hi t.free t.units rows) (λ sets. meets links sets && tuned_to t.limit sets)) is

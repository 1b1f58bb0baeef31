use Rattle.std.proofs.Common.{◌≡◌, None, Some, refl, sym, ap, ◌∙◌, rules}
use Rattle.std.proofs.lemmas.Result.{err_from_is_err_and}
use Rattle.questions.specs.Asking.{first_no}
use Rattle.model.specs.Ranges.{range_asked}
use Rattle.frames.specs.Payloads.{side_bytes}
use Rattle.frames.specs.declared.kind.Kind.TheVariants.{Row, Link}
use Rattle.job.specs.Faults.{side_refusal}
use Rattle.job.proofs.Tables.{links_refused, tuner_refused, network_asked_lem, side_meaning_lem}
use Rattle.job.proofs.sides.Records.load_tables.Goals as goal

pub returns-in_err-links-clause-refuses : goal.returns-in_err-links-clause-refuses
returns-in_err-links-clause-refuses c =
    let links = side_bytes Link c.args.self.now.side c.args.self.now.bytes.now in
    let rows = side_bytes Row c.args.self.now.side c.args.self.now.bytes.now in
    let range : None ≡ first_no (range_asked c.setting-setting.result.lo c.setting-setting.result.hi) = search rules in
    let y = err_from_is_err_and c.from_residual-in_err-links.result c.from_residual-in_err-links.ensures.1 in
    let e = ap side_refusal y.2 in
    rw (← c.setting-setting.ensures, y.1, e) (links_refused c.setting-setting.result links rows _ range refl c.in_err-links.ensures.refuses)

pub returns-in_err-tuner-clause-refuses : goal.returns-in_err-tuner-clause-refuses
returns-in_err-tuner-clause-refuses c =
    let links = side_bytes Link c.args.self.now.side c.args.self.now.bytes.now in
    let rows = side_bytes Row c.args.self.now.side c.args.self.now.bytes.now in
    let range : None ≡ first_no (range_asked c.setting-setting.result.lo c.setting-setting.result.hi) = search rules in
    let y = err_from_is_err_and c.from_residual-in_err-tuner.result c.from_residual-in_err-tuner.ensures.1 in
    let e = ap side_refusal y.2 in
    rw (← c.setting-setting.ensures, y.1, e) (tuner_refused c.setting-setting.result links rows _ range c.in_ok-links.ensures.refuses refl c.in_err-tuner.ensures.refuses)

pub returns-in_err-load_network-clause-refuses : goal.returns-in_err-load_network-clause-refuses
returns-in_err-load_network-clause-refuses c =
    let links = side_bytes Link c.args.self.now.side c.args.self.now.bytes.now in
    let rows = side_bytes Row c.args.self.now.side c.args.self.now.bytes.now in
    let range : None ≡ first_no (range_asked c.setting-setting.result.lo c.setting-setting.result.hi) = search rules in
    let lo : c.in_ok-range.range.lo ≡ c.setting-setting.result.lo = search rules in
    let hi : c.in_ok-range.range.hi ≡ c.setting-setting.result.hi = search rules in
    let y = err_from_is_err_and c.from_residual-in_err-load_network.result c.from_residual-in_err-load_network.ensures.1 in
    let t = c.in_err-load_network.ensures in
    let e = ap side_refusal y.2 in
    rw (← c.setting-setting.ensures, y.1, e) (network_asked_lem c.setting-setting.result links rows _ _ _ lo hi range c.in_ok-links.ensures.refuses c.in_ok-tuner.ensures.refuses t.refuses)

pub returns : goal.returns
returns c =
    let side = c.args.self.now.side in
    let bytes = c.args.self.now.bytes.now in
    let s = c.setting-setting.result in
    let range : None ≡ first_no (range_asked s.lo s.hi) = search rules in
    let lo : c.in_ok-range.range.lo ≡ s.lo = search rules in
    let hi : c.in_ok-range.range.hi ≡ s.hi = search rules in
    let limit : c.in_ok-tuner.tuner.limit ≡ s.limit = search rules in
    let n = c.in_ok-load_network.ensures in
    record {
      refuses = rw (← c.setting-setting.ensures) (network_asked_lem s (side_bytes Link side bytes) (side_bytes Row side bytes) _ _ _ lo hi range c.in_ok-links.ensures.refuses c.in_ok-tuner.ensures.refuses n.refuses);
      means = side_meaning_lem side bytes s c.setting-setting.ensures _ _ _ _ _ n.table lo hi n.rule c.in_ok-links.ensures.means limit;
    }

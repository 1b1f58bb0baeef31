-- What landings tell of replies. Assumes nothing.
use Rattle.std.proofs.Common.{◌≡◌, ℕ, Bool, true, false, cond, ℤ, is_some, Some, None, IfSome, Option, Decides, sym, refl, ap, ◌∙◌, subst, arith}
use Rattle.std.specs.List.{slice_get}
use Rattle.std.proofs.lemmas.Int.{ints}
use Rattle.std.proofs.lemmas.Bool.Decides.{Decides-like}
use Rattle.lists.specs.Words.{through, Stands, FirstOf}
use Rattle.lists.proofs.Places.{some_same}
use Rattle.questions.specs.declared.Side.{Side}
use Rattle.questions.specs.declared.Side.TheVariants.{Left, Right}
use Rattle.model.specs.declared.label.Label.{Label}
use Rattle.model.specs.declared.state.Pair.{Pair}
use Rattle.model.specs.declared.state.State.{State}
use Rattle.model.specs.Ranges.{in_range}
use Rattle.systems.specs.Meaning.{Meaning, Step, Keeps, in_range_of, receives, landing_at}
use Rattle.systems.proofs.Facts.{label_some}
use Rattle.judge.specs.Comparing.{Compared, OneRange, opposed, pair_from, system_on, state_on, steps_on, label_on, landing_on}
use Rattle.judge.specs.Likeness.{Holds, LandsAt, Lands, Reply}
use Rattle.judge.proofs.Values.{in_range_lem}
use Rattle.judge.proofs.Finding.{decides_first}

-- a step of the list lands at every value in range
landing_there : (m : Meaning) (s : State) (i : ℕ) (v : ℤ) (x : Step) → Stands (m.steps s) x i → in_range_of m v ≡ true → landing_at m s i v ≡ Some (x.landing v)
landing_there m s i v x at within =
    ap (λ b. cond b (through (λ y. y.landing v) (slice_get (m.steps s) i)) None) within ∙ ap (through (λ y. y.landing v)) at

module _ (c : Compared) (one : OneRange c) where
  -- the one range, on either side
  pub range_on : (side : Side) (v : ℤ) → in_range_of c.left v ≡ in_range_of (system_on side c) v
  range_on Left v = refl
  range_on Right v = ap (λ lo. in_range lo c.left.hi v) one.same_lo ∙ ap (λ hi. in_range c.right.lo hi v) one.same_hi

  module _ (side : Side) (p : Pair) (i j : ℕ) (x y : Step) (x-at : Stands (steps_on side c p) x i) (y-at : Stands (steps_on (opposed side) c p) y j) where
    pub own_landing : (v : ℤ) → in_range_of c.left v ≡ true → landing_on side c p i v ≡ Some (x.landing v)
    own_landing v within = landing_there (system_on side c) (state_on side p) i v x x-at (sym (range_on side v) ∙ within)

    pub other_landing : (v : ℤ) → in_range_of c.left v ≡ true → landing_on (opposed side) c p j v ≡ Some (y.landing v)
    other_landing v within = landing_there (system_on (opposed side) c) (state_on (opposed side) p) j v y y-at (sym (range_on (opposed side) v) ∙ within)

    landed : (v : ℤ) → in_range_of c.left v ≡ true → LandsAt c side p i j v → Holds c.relation (pair_from side (x.landing v) (y.landing v))
    landed v within l =
        subst (λ (q : Pair). Holds c.relation q)
        (ap (λ s. pair_from side s l.other) (some_same _ _ _ l.own_at (own_landing v within)) ∙ ap (λ s. pair_from side (x.landing v) s) (some_same _ _ _ l.other_at (other_landing v within)))
        l.held

    lands_at : (v : ℤ) → in_range_of c.left v ≡ true → Holds c.relation (pair_from side (x.landing v) (y.landing v)) → LandsAt c side p i j v
    lands_at v within h = record { own = x.landing v; other = y.landing v; own_at = own_landing v within; other_at = other_landing v within; held = h }

    decides_each : (b : Bool) → Decides b ((v : ℤ) → in_range_of c.left v ≡ true → LandsAt c side p i j v) → Decides b (Lands c side x y)
    decides_each b d = Decides-like b (λ all v within. landed v within (all v within)) (λ all v within. lands_at v within (all v within)) d

    -- steps that land alike at every value: one value tells of all
    module _ (keeps-own : Keeps (system_on side c)) (keeps-other : Keeps (system_on (opposed side) c)) (quiet : receives x.label ≡ false) (same : x.label ≡ y.label) where
      same_landings : (v w : ℤ) → in_range_of c.left v ≡ true → in_range_of c.left w ≡ true → pair_from side (x.landing v) (y.landing v) ≡ pair_from side (x.landing w) (y.landing w)
      same_landings v w hv hw =
          ap (λ s. pair_from side s (y.landing v)) (keeps-own.steady (state_on side p) i x x-at quiet v w (sym (range_on side v) ∙ hv) (sym (range_on side w) ∙ hw))
          ∙ ap (λ s. pair_from side (x.landing w) s) (keeps-other.steady (state_on (opposed side) p) j y y-at (ap receives (sym same) ∙ quiet) v w (sym (range_on (opposed side) v) ∙ hv) (sym (range_on (opposed side) w) ∙ hw))

      decides_one : (b : Bool) (u : ℤ) → in_range_of c.left u ≡ true → Decides b (LandsAt c side p i j u) → Decides b (Lands c side x y)
      decides_one b u within d =
          Decides-like b
          (λ l v hv. subst (λ (q : Pair). Holds c.relation q) (same_landings u v within hv) (landed u within l))
          (λ all. lands_at u within (all u within)) d

    decides_reply : (b : Bool) → x.label ≡ y.label → Decides b (Lands c side x y) → Decides b (Reply c side p i j)
    decides_reply b same d = Decides-like b
        (λ l. record { one_range = one; asked = x; given = y; asked_at = x-at; given_at = y-at; one_label = same; lands = l })
        (λ r. subst (λ (z : Step). Lands c side x z) (some_same _ _ _ r.given_at y-at) (subst (λ (z : Step). Lands c side z r.given) (some_same _ _ _ r.asked_at x-at) r.lands)) d

-- whether the landings of two steps form a record of the relation; `opp` is the opposite side as the code has it
pub decides_lands : (c : Compared) (side opp : Side) (p : Pair) (i j : ℕ) (v : ℤ) (own other : State) (q : Pair) (r : Option ℕ) (b : Bool) → opp ≡ opposed side
    → Some own ≡ landing_on side c p i v → Some other ≡ landing_on opp c p j v → q ≡ pair_from side own other
    → FirstOf (Stands c.relation q) r → b ≡ is_some r → Decides b (LandsAt c side p i j v)
decides_lands c side opp p i j v own other q r b o own-at other-at pair first is =
    let there : Some other ≡ landing_on (opposed side) c p j v = other-at ∙ ap (λ s. landing_on s c p j v) o in
    Decides-like b
    (λ h. record { own = own; other = other; own_at = sym own-at; other_at = sym there; held = subst (λ (x : Pair). Holds c.relation x) pair h })
    (λ l. subst (λ (x : Pair). Holds c.relation x)
    (ap (λ s. pair_from side s l.other) (some_same _ _ _ l.own_at (sym own-at)) ∙ ap (λ s. pair_from side own s) (some_same _ _ _ l.other_at (sym there)) ∙ sym pair)
    l.held)
    (decides_first (Stands c.relation q) r b first is)

-- the landings of the left step i and the right step j, told from the right side
pub turned : (c : Compared) (p : Pair) (i j : ℕ) (r : Option Bool) → IfSome r (λ b. Decides b ((v : ℤ) → in_range_of c.left v ≡ true → LandsAt c Left p i j v))
    → IfSome r (λ b. Decides b ((v : ℤ) → in_range_of c.left v ≡ true → LandsAt c Right p j i v))
turned c p i j None h = h
turned c p i j (Some b) h =
    Decides-like b
    (λ all v w. let l = all v w in record { own = l.other; other = l.own; own_at = l.other_at; other_at = l.own_at; held = l.held })
    (λ all v w. let l = all v w in record { own = l.other; other = l.own; own_at = l.other_at; other_at = l.own_at; held = l.held })
    h

pub keeps_on : (c : Compared) → Keeps c.left → Keeps c.right → (side : Side) → Keeps (system_on side c)
keeps_on c l r Left = l
keeps_on c l r Right = r

-- what a test of landings tells of a reply, once both steps are known to have the label k; `opp` is the opposite side as the
-- code has it
module _ (c : Compared) (side opp : Side) (p : Pair) (i j : ℕ) (k : Label) (b : Bool) where
  given_label : opp ≡ opposed side → label_on opp c p j ≡ Some k → label_on (opposed side) c p j ≡ Some k
  given_label o e = ap (λ s. label_on s c p j) (sym o) ∙ e

  pub reply_each : OneRange c → opp ≡ opposed side → label_on side c p i ≡ Some k → label_on opp c p j ≡ Some k
      → Decides b ((v : ℤ) → in_range_of c.left v ≡ true → LandsAt c side p i j v) → Decides b (Reply c side p i j)
  reply_each one o ek el d =
      let x = label_some (slice_get (steps_on side c p) i) k ek in
      let y = label_some (slice_get (steps_on (opposed side) c p) j) k (given_label o el) in
      decides_reply c one side p i j x.0 y.0 x.1 y.1 b (x.2 ∙ sym y.2)
      (decides_each c one side p i j x.0 y.0 x.1 y.1 b d)

  pub reply_one : (u : ℤ) → OneRange c → Keeps c.left → Keeps c.right → opp ≡ opposed side → label_on side c p i ≡ Some k → label_on opp c p j ≡ Some k
      → receives k ≡ false → u ≡ c.left.lo → Decides b (LandsAt c side p i j u) → Decides b (Reply c side p i j)
  reply_one u one keeps-left keeps-right o ek el quiet low d =
      let x = label_some (slice_get (steps_on side c p) i) k ek in
      let y = label_some (slice_get (steps_on (opposed side) c p) j) k (given_label o el) in
      let ordered = keeps-left.ordered in
      let within = in_range_lem c.left.lo c.left.hi u (omega (arith, ints)) (omega (arith, ints)) in
      let alike = x.2 ∙ sym y.2 in
      decides_reply c one side p i j x.0 y.0 x.1 y.1 b alike
      (decides_one c one side p i j x.0 y.0 x.1 y.1 (keeps_on c keeps-left keeps-right side) (keeps_on c keeps-left keeps-right (opposed side)) (ap receives x.2 ∙ quiet) alike b u within d)

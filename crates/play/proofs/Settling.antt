-- What settle answers, from what its exits know. Assumes nothing.
use Rattle.std.proofs.Common.{◌≡◌, ℕ, Bool, true, false, cond, List, [], ◌∷◌, length, ℤ, nat_le, nat_lt, is_none, Some, None, Ok, Err, Option, sym, refl, ap, ◌∙◌, subst, arith}
use Rattle.std.specs.List.{slice_get}
use Rattle.std.proofs.lemmas.Bool.{ltb-true, false_from_ne_true, false≢true}
use Rattle.std.proofs.lemmas.Int.{ints}
use Rattle.lists.specs.Words.{Stands, FirstOf}
use Rattle.lists.proofs.Places.{some_same, some_none, nth_here}
use Rattle.questions.specs.Asking.{Question, first_no, ask, put, refuse}
use Rattle.questions.specs.declared.Refusal.{Refusal}
use Rattle.questions.specs.declared.Side.{Side}
use Rattle.questions.proofs.Asked.{head_none, head_yes, head_no, ask_none, ask_no}
use Rattle.model.specs.Ranges.{in_range}
use Rattle.model.specs.declared.label.Label.{Label}
use Rattle.model.specs.declared.range.Range.{Range}
use Rattle.model.specs.declared.state.Pair.{Pair}
use Rattle.systems.specs.Meaning.{Step, Keeps, in_range_of, receives}
use Rattle.systems.proofs.Facts.{label_some}
use Rattle.judge.specs.Comparing.{Compared, OneRange, opposed, pair_from, steps_on, label_on}
use Rattle.judge.specs.Replies.{same_range, holds}
use Rattle.judge.proofs.Tested.{decides_range, decides_holds}
use Rattle.judge.proofs.Values.{in_range_lem}
use Rattle.play.specs.Calls.{play_refusal, if_there, present_asked, step_asked, told_asked, challenge_asked, settle_asked, value_by, value_fits, landings_by, ValueFor, OfSteps, FirstLanding, Settles}
use Rattle.play.specs.declared.answered.Answered.{Answered}
use Rattle.play.specs.declared.fault.Fault.{Fault}
use Rattle.play.specs.declared.fault.Fault.TheVariants.{Landings}
use Rattle.play.specs.declared.level.Level.{Level}
use Rattle.play.proofs.Facing.{step_there, all_yes, record_there, then_asked}

-- the value by which a step lands, from what the range of the left system tells
module _ (c : Compared) (l : Label) (range : Range) (lo : range.lo ≡ c.left.lo) (hi : range.hi ≡ c.left.hi) (u v : ℤ) (same : u ≡ v) where
  ranges_same : in_range range.lo range.hi u ≡ in_range_of c.left v
  ranges_same = ap (λ b. in_range b range.hi u) lo ∙ ap (λ b. in_range c.left.lo b u) hi ∙ ap (in_range_of c.left) same

  out_of_range : ValueFor l range u None → value_fits c l v ≡ false
  out_of_range h = ap (λ b. cond b (in_range_of c.left v) true) h.0 ∙ sym ranges_same ∙ h.1

  fits_there : (w : ℤ) → ValueFor l range u (Some w) → value_fits c l v ≡ true
  fits_there w h = ap (λ b. cond (receives l) b true) (sym ranges_same) ∙ h.1

  value_there : (w : ℤ) → ValueFor l range u (Some w) → w ≡ value_by c l v
  value_there w h = h.0 ∙ ap (λ b. cond (receives l) b range.lo) same ∙ ap (λ b. cond (receives l) v b) lo

label_there : (o : Option Label) → is_none o ≡ false → (k : Label) × (o ≡ Some k)
label_there None e = absurd (false≢true (sym e))
label_there (Some k) e = (k, refl)

-- the two steps of a play are there
module _ (c : Compared) (play : Answered) (v : ℤ) (yes : None ≡ first_no (challenge_asked c play.pair play.side play.step)) (p : Pair) (l : Label) (seen : Option Label) (p-at : Stands c.relation p play.pair)
    (labeled : label_on play.side c p play.step ≡ Some l) (opp : Side) (opp-is : opp ≡ opposed play.side) (other : seen ≡ label_on opp c p play.reply) (there : is_none seen ≡ false) where
  told_rest : first_no (told_asked c play v (λ _ _. [])) ≡ cond (value_fits c l v) None (Some (refuse 20))
  told_rest =
      let x = label_some (slice_get (steps_on play.side c p) play.step) l labeled in
      let k = label_there seen there in
      let y = label_some (slice_get (steps_on (opposed play.side) c p) play.reply) k.0 (ap (λ s. label_on s c p play.reply) (sym opp-is) ∙ sym other ∙ k.1) in
      then_asked c play.pair play.side play.step yes p x.0 (λ q z. step_asked (steps_on (opposed play.side) c q) play.reply (λ w. put (refuse 20) (value_fits c z.label v) ∷ [])) p-at x.1
      ∙ step_there (steps_on (opposed play.side) c p) play.reply y.0 (λ w. put (refuse 20) (value_fits c x.0.label v) ∷ []) y.1
      ∙ ap (λ m. cond (value_fits c m v) None (Some (refuse 20))) x.2

  module _ (range : Range) (lo : range.lo ≡ c.left.lo) (hi : range.hi ≡ c.left.hi) (u : ℤ) (same : u ≡ v) where
    pub told_refused : ValueFor l range u None → Some (refuse 20) ≡ first_no (told_asked c play v (λ _ _. []))
    told_refused h = sym (told_rest ∙ head_no _ None (refuse 20) (out_of_range c l range lo hi u v same h))

    pub told_passed : (w : ℤ) → ValueFor l range u (Some w) → None ≡ first_no (told_asked c play v (λ _ _. []))
    told_passed w h = sym (told_rest ∙ head_yes _ None (refuse 20) (fits_there c l range lo hi u v same w h) refl)

    pub told_value : (w : ℤ) → ValueFor l range u (Some w) → OfSteps c play (λ x _. w ≡ value_by c x.label v)
    told_value w h q q-at x y x-at y-at =
        let z = label_some (slice_get (steps_on play.side c p) play.step) l labeled in
        let pq = some_same _ p q p-at q-at in
        let zx = some_same _ z.0 x z.1 (ap (λ o. slice_get (steps_on play.side c o) play.step) pq ∙ x-at) in
        value_there c l range lo hi u v same w h ∙ ap (λ m. value_by c m v) (sym z.2 ∙ ap (λ s. s.label) zx)

-- a no stays the first where more is asked behind it
more_cond : (b : Bool) (o q : Option Refusal) (t r : Refusal) → (o ≡ Some r → q ≡ Some r) → cond b o (Some t) ≡ Some r → cond b q (Some t) ≡ Some r
more_cond true o q t r more e = more e
more_cond false o q t r more e = e

more_there : {X : Type 0} (o : Option X) (f g : X → List (Question Refusal)) (r : Refusal) → ((x : X) → first_no (f x) ≡ Some r → first_no (g x) ≡ Some r) → first_no (if_there f o) ≡ Some r → first_no (if_there g o) ≡ Some r
more_there None f g r more e = absurd (some_none _ r e refl)
more_there (Some x) f g r more e = more x e

more_step : (xs : List Step) (i : ℕ) (f g : Step → List (Question Refusal)) (r : Refusal) → ((x : Step) → first_no (f x) ≡ Some r → first_no (g x) ≡ Some r) → first_no (step_asked xs i f) ≡ Some r → first_no (step_asked xs i g) ≡ Some r
more_step xs i f g r more = more_cond (nat_lt i (length xs)) _ _ (refuse 18) r (more_there (slice_get xs i) f g r more)

-- the questions g behind those to a value told, of a pair and of the challenger's step
abbrev told_of_step : Compared → Answered → ℤ → (Step → Step → List (Question Refusal)) → Pair → Step → List (Question Refusal)
told_of_step c play v g q z = step_asked (steps_on (opposed play.side) c q) play.reply (λ w. put (refuse 20) (value_fits c z.label v) ∷ g z w)

abbrev told_of_pair : Compared → Answered → ℤ → (Step → Step → List (Question Refusal)) → Pair → List (Question Refusal)
told_of_pair c play v g q = step_asked (steps_on play.side c q) play.step (told_of_step c play v g q)

abbrev nothing : Step → Step → List (Question Refusal)
nothing _ _ = []

more_present : (c : Compared) (k : ℕ) (f g : Pair → List (Question Refusal)) (r : Refusal) → ((p : Pair) → first_no (f p) ≡ Some r → first_no (g p) ≡ Some r) → first_no (present_asked c k f) ≡ Some r → first_no (present_asked c k g) ≡ Some r
more_present c k f g r more =
    let rest = λ (h : Pair → List (Question Refusal)). first_no (if_there h (slice_get c.relation k)) in
    let below = λ (h : Pair → List (Question Refusal)). cond (nat_lt k (length c.relation)) (rest h) (Some (refuse 17)) in
    let few = λ (h : Pair → List (Question Refusal)). cond (nat_le (length c.relation) 4096) (below h) (Some (refuse 11)) in
    more_cond (same_range c) (few f) (few g) (refuse 10) r (more_cond (nat_le (length c.relation) 4096) (below f) (below g) (refuse 11) r
    (more_cond (nat_lt k (length c.relation)) (rest f) (rest g) (refuse 17) r (more_there (slice_get c.relation k) f g r more)))

more_told : (c : Compared) (play : Answered) (v : ℤ) (f : Step → Step → List (Question Refusal)) (r : Refusal) → first_no (told_asked c play v nothing) ≡ Some r → first_no (told_asked c play v f) ≡ Some r
more_told c play v f r =
    more_present c play.pair (told_of_pair c play v nothing) (told_of_pair c play v f) r (λ p.
    more_step (steps_on play.side c p) play.step (told_of_step c play v nothing p) (told_of_step c play v f p) r (λ x.
    more_step (steps_on (opposed play.side) c p) play.reply (λ y. put (refuse 20) (value_fits c x.label v) ∷ []) (λ y. put (refuse 20) (value_fits c x.label v) ∷ f x y) r (λ y.
    more_cond (value_fits c x.label v) None (first_no (f x y)) (refuse 20) r (λ e. absurd (some_none _ r e refl)))))

module _ (c : Compared) (play : Answered) (v : ℤ) where
  pub settle_refused : (f : Fault) → Some (play_refusal f) ≡ first_no (told_asked c play v (λ _ _. [])) → Settles c play v (Err (record { play = play; fault = f }))
  settle_refused f e =
      record { refuses = sym (more_told c play v (λ x y. ask (refuse 21) (holds c.relation (landings_by c play.side x y v))) (play_refusal f) (sym e)); hands_back = refl; first = tt }

  -- both steps and the value are there
  module _ (yes : None ≡ first_no (told_asked c play v (λ _ _. []))) (p : Pair) (p-at : Stands c.relation p play.pair) where
    told_range : OneRange c
    told_range = (decides_range c).0 (all_yes c play.pair _ (sym yes)).ranges

    record Both : Type 0 where
      x : Step
      y : Step
      x_at : Stands (steps_on play.side c p) x play.step
      y_at : Stands (steps_on (opposed play.side) c p) y play.reply
      fits : value_fits c x.label v ≡ true
      next : (f : Step → Step → List (Question Refusal)) → first_no (told_asked c play v f) ≡ first_no (f x y)

    step_yes : (xs : List Step) (i : ℕ) (f : Step → List (Question Refusal)) → first_no (step_asked xs i f) ≡ None → (x : Step) × Stands xs x i × (first_no (f x) ≡ None)
    step_yes xs i f e =
        let a = head_none (nat_lt i (length xs)) (first_no (if_there f (slice_get xs i))) (refuse 18) e in
        let x = nth_here xs i (ltb-true i (length xs) a.0) in
        (x.0, x.1, sym (ap (λ o. first_no (if_there f o)) x.1) ∙ a.1)

    both : Both
    both =
        let a = all_yes c play.pair (told_of_pair c play v nothing) (sym yes) in
        let b = sym (ap (λ o. first_no (if_there (told_of_pair c play v nothing) o)) p-at) ∙ a.rest in
        let x = step_yes (steps_on play.side c p) play.step (told_of_step c play v nothing p) b in
        let y = step_yes (steps_on (opposed play.side) c p) play.reply (λ w. put (refuse 20) (value_fits c x.0.label v) ∷ []) x.2 in
        let d = head_none (value_fits c x.0.label v) None (refuse 20) y.2 in
        record {
          x = x.0;
          y = y.0;
          x_at = x.1;
          y_at = y.1;
          fits = d.0;
          next = λ f.
              record_there c play.pair p (told_of_pair c play v f) a.ranges a.few p-at ∙ step_there (steps_on play.side c p) play.step x.0 (told_of_step c play v f p) x.1
              ∙ step_there (steps_on (opposed play.side) c p) play.reply y.0 (λ w. put (refuse 20) (value_fits c x.0.label v) ∷ f x.0 w) y.1
              ∙ head_yes (value_fits c x.0.label v) (first_no (f x.0 y.0)) (refuse 20) d.0 refl;
        }

    value_within : Keeps c.left → (l : Label) → value_fits c l v ≡ true → in_range_of c.left (value_by c l v) ≡ true
    value_within keeps l =
        elim (receives l) as (λ b. cond b (in_range_of c.left v) true ≡ true → in_range_of c.left (cond b v c.left.lo) ≡ true) [
          | true ↦ (λ e. e)
          | false ↦ (λ e. in_range_lem c.left.lo c.left.hi c.left.lo (omega (arith, ints)) (let o = keeps.ordered in omega (arith, ints)))
        ]

    module _ (keeps : Keeps c.left) (w : ℤ) (value : OfSteps c play (λ x _. w ≡ value_by c x.label v)) where
      -- the first record equal to the landings at w, by the value told
      landed : (r : Option ℕ) → FirstLanding c play p w r → (b : Both) → FirstOf (Stands c.relation (landings_by c play.side b.x b.y v)) r
      landed r h b =
          let e = value p p-at b.x b.y b.x_at b.y_at in
          subst (λ (u : ℤ). FirstOf (Stands c.relation (pair_from play.side (b.x.landing u) (b.y.landing u))) r) e
          (h told_range (subst (λ (u : ℤ). in_range_of c.left u ≡ true) (sym e) (value_within keeps b.x.label b.fits)) b.x b.y b.x_at b.y_at)

      settle_rest : (b : Both) → first_no (settle_asked c play v) ≡ first_no (ask (refuse 21) (holds c.relation (landings_by c play.side b.x b.y v)))
      settle_rest b = b.next (λ x y. ask (refuse 21) (holds c.relation (landings_by c play.side x y v)))

      pub not_settled : FirstLanding c play p w None → Settles c play v (Err (record { play = play; fault = Landings }))
      not_settled h =
          let none = landed None h both in
          record {
            refuses = sym (settle_rest both ∙ ask_no (refuse 21) _ (false_from_ne_true _ (λ e. let a = (decides_holds c.relation (landings_by c play.side both.x both.y v)).0 e in none a.0 a.1)));
            hands_back = refl;
            first = tt;
          }

      pub settled : (next : Level) → FirstLanding c play p w (Some next.pair) → Settles c play v (Ok next)
      settled next h =
          let some = landed (Some next.pair) h both in
          record {
            refuses = sym (settle_rest both ∙ ask_none (refuse 21) _ ((decides_holds c.relation (landings_by c play.side both.x both.y v)).1 (next.pair, some.0)));
            hands_back = tt;
            first = λ q q-at x y x-at y-at.
                let pq = some_same _ p q p-at q-at in
                let ex = some_same _ both.x x both.x_at (ap (λ o. slice_get (steps_on play.side c o) play.step) pq ∙ x-at) in
                let ey = some_same _ both.y y both.y_at (ap (λ o. slice_get (steps_on (opposed play.side) c o) play.reply) pq ∙ y-at) in
                subst (λ (o : Pair). FirstOf (Stands c.relation o) (Some next.pair)) (ap (λ z. landings_by c play.side z both.y v) ex ∙ ap (λ z. landings_by c play.side x z v) ey) some;
          }

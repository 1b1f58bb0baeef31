-- What is asked of the steps that a play holds, once they are there. Assumes nothing.
use Rattle.std.proofs.Common.{◌≡◌, ℕ, true, cond, List, [], length, nat_le, nat_lt, Some, None, Ok, Err, sym, refl, ap, ◌∙◌, subst}
use Rattle.std.specs.List.{slice_get}
use Rattle.std.proofs.lemmas.Bool.{lt-ltb, false_from_ne_true}
use Rattle.lists.specs.Words.{Stands}
use Rattle.lists.proofs.Places.{some_same, nth_within}
use Rattle.questions.specs.Asking.{Question, first_no, ask, refuse}
use Rattle.questions.specs.declared.Refusal.{Refusal}
use Rattle.questions.specs.declared.Side.{Side}
use Rattle.questions.proofs.Asked.{head_none, head_yes, ask_none, ask_no}
use Rattle.model.specs.declared.label.Label.{Label}
use Rattle.model.specs.declared.state.Pair.{Pair}
use Rattle.systems.specs.Meaning.{Step}
use Rattle.systems.proofs.Facts.{label_some}
use Rattle.judge.specs.Comparing.{Compared, OneRange, opposed, steps_on, label_on}
use Rattle.judge.specs.Likeness.{Reply}
use Rattle.judge.specs.Replies.{same_range, has_reply}
use Rattle.judge.proofs.Tested.{decides_range, decides_answered}
use Rattle.play.specs.Calls.{present_asked, step_asked, challenge_asked, reply_asked, if_there, FirstReply, Replies}
use Rattle.play.specs.declared.answered.Answered.{Answered}
use Rattle.play.specs.declared.challenged.Challenged.{Challenged}
use Rattle.play.specs.declared.fault.Fault.TheVariants.{NoReply}

-- a step that is there: 18 is answered yes, and the rest is asked of it
pub step_there : (xs : List Step) (i : ℕ) (x : Step) (f : Step → List (Question Refusal)) → Stands xs x i → first_no (step_asked xs i f) ≡ first_no (f x)
step_there xs i x f at = head_yes _ _ _ (lt-ltb _ _ (nth_within xs i x at)) (ap (λ o. first_no (if_there f o)) at)

-- a record that is there: 10, 11 and 17 are answered yes, and the rest is asked of it
pub record Yes (c : Compared) (k : ℕ) (f : Pair → List (Question Refusal)) : Type 0 where
  pub ranges : same_range c ≡ true
  pub few : nat_le (length c.relation) 4096 ≡ true
  pub below : nat_lt k (length c.relation) ≡ true
  pub rest : first_no (if_there f (slice_get c.relation k)) ≡ None

pub all_yes : (c : Compared) (k : ℕ) (f : Pair → List (Question Refusal)) → first_no (present_asked c k f) ≡ None → Yes c k f
all_yes c k f e =
    let a = head_none (same_range c) (cond (nat_le (length c.relation) 4096) (cond (nat_lt k (length c.relation)) (first_no (if_there f (slice_get c.relation k))) (Some (refuse 17))) (Some (refuse 11))) (refuse 10) e in
    let b = head_none (nat_le (length c.relation) 4096) (cond (nat_lt k (length c.relation)) (first_no (if_there f (slice_get c.relation k))) (Some (refuse 17))) (refuse 11) a.1 in
    let d = head_none (nat_lt k (length c.relation)) (first_no (if_there f (slice_get c.relation k))) (refuse 17) b.1 in
    record { ranges = a.0; few = b.0; below = d.0; rest = d.1 }

pub record_there : (c : Compared) (k : ℕ) (p : Pair) (f : Pair → List (Question Refusal)) → same_range c ≡ true → nat_le (length c.relation) 4096 ≡ true → Stands c.relation p k → first_no (present_asked c k f) ≡ first_no (f p)
record_there c k p f ranges few at =
    head_yes (same_range c) _ (refuse 10) ranges (head_yes (nat_le (length c.relation) 4096) _ (refuse 11) few
    (head_yes (nat_lt k (length c.relation)) _ (refuse 17) (lt-ltb k (length c.relation) (nth_within c.relation k p at))
    (ap (λ o. first_no (if_there f o)) at)))

-- what challenge asks is answered yes
module _ (c : Compared) (k : ℕ) (side : Side) (i : ℕ) (yes : None ≡ first_no (challenge_asked c k side i)) where
  pub asked_range : OneRange c
  asked_range = (decides_range c).0 (all_yes c k _ (sym yes)).ranges

  -- and then the rest is asked of the present pair and its step
  pub then_asked : (p : Pair) (x : Step) (f : Pair → Step → List (Question Refusal)) → Stands c.relation p k → Stands (steps_on side c p) x i
      → first_no (present_asked c k (λ q. step_asked (steps_on side c q) i (f q))) ≡ first_no (f p x)
  then_asked p x f p-at x-at =
      let a = all_yes c k (λ q. step_asked (steps_on side c q) i (λ _. [])) (sym yes) in
      record_there c k p (λ q. step_asked (steps_on side c q) i (f q)) a.ranges a.few p-at ∙ step_there (steps_on side c p) i x (f p) x-at

-- the reply of a play, from what its exits know
module _ (c : Compared) (play : Challenged) (yes : None ≡ first_no (challenge_asked c play.pair play.side play.step)) (p : Pair) (l : Label) (p-at : Stands c.relation p play.pair)
    (labeled : label_on play.side c p play.step ≡ Some l) where
  reply_rest : (x : Step) → Stands (steps_on play.side c p) x play.step → first_no (reply_asked c play) ≡ first_no (ask (refuse 19) (has_reply c play.side x (steps_on (opposed play.side) c p)))
  reply_rest x x-at = then_asked c play.pair play.side play.step yes p x (λ q y. ask (refuse 19) (has_reply c play.side y (steps_on (opposed play.side) c q))) p-at x-at

  pub replied : (next : Answered) → next.pair ≡ play.pair → next.side ≡ play.side → next.step ≡ play.step → FirstReply c play.side p play.step next.reply → Replies c play (Ok next)
  replied next same-pair same-side same-step first =
      let r = first.0 in
      record {
        refuses = sym (reply_rest r.asked r.asked_at ∙ ask_none _ _ ((decides_answered c play.side r.one_range p play.step r.asked r.asked_at).1 (next.reply, r)));
        hands_back = tt;
        stands = (same-pair, same-side, same-step);
        first = λ q at. subst (λ (o : Pair). FirstReply c play.side o play.step next.reply) (some_same _ p q p-at at) first;
      }

  pub not_replied : ((j : ℕ) → Reply c play.side p play.step j → ⊥) → Replies c play (Err (record { play = play; fault = NoReply }))
  not_replied none =
      let x = label_some (slice_get (steps_on play.side c p) play.step) l labeled in
      let d = decides_answered c play.side (asked_range c play.pair play.side play.step yes) p play.step x.0 x.1 in
      record {
        refuses = sym (reply_rest x.0 x.1 ∙ ask_no (refuse 19) _ (false_from_ne_true _ (λ e. let a = d.0 e in none a.0 a.1)));
        hands_back = refl;
        stands = tt;
        first = tt;
      }

-- No question is answered no exactly where the relation is a bisimulation. Assumes nothing.
use Rattle.std.proofs.Common.{◌≡◌, ℕ, zero, suc, ◌+◌, ◌<◌, ◌≤◌, true, false, ◌++◌, length, drop, Some, None, Ok, Err, Option, Result, sym, refl, ap, ◌∙◌, subst, add-one, arith}
use Rattle.std.proofs.lemmas.Bool.{leb-true, le-leb, false≢true, true_from_ne_false, false_from_ne_true}
use Rattle.lists.specs.Words.{through, Stands, FirstOf}
use Rattle.lists.proofs.Places.{nth_within, nth_here, some_none}
use Rattle.questions.specs.Asking.{first_no, numbered, restated}
use Rattle.questions.specs.declared.Refusal.{Refusal}
use Rattle.questions.specs.declared.Side.{Side}
use Rattle.questions.specs.declared.Side.TheVariants.{Left, Right}
use Rattle.questions.proofs.Asked.{head_none, head_yes, append_none, append_some, append_left, append_right, ask_yes, ask_none, ask_no, numbered_none, numbered_each, numbered_more, numbered_here, numbered_all, first_restated}
use Rattle.model.specs.declared.state.Pair.{Pair}
use Rattle.model.proofs.Deciding.{decides_set}
use Rattle.systems.specs.Meaning.{Step}
use Rattle.judge.specs.Comparing.{Compared, OneRange, opposed, steps_on}
use Rattle.judge.specs.Likeness.{Reply, Answered, Matched, Bisimulation}
use Rattle.judge.specs.Replies.{has_reply}
use Rattle.judge.specs.Judged.{say, step_asked, steps_asked, pair_asked, judge_asked, judge_refusal, Judged}
use Rattle.judge.specs.declared.fault.Fault.{Fault}
use Rattle.judge.specs.declared.verdict.Pass.{Pass}
use Rattle.judge.proofs.Tested.{decides_range, decides_answered}

pub through_none : {X Y : Type 0} (f : X → Y) (o : Option X) → through f o ≡ None → o ≡ None
through_none f None e = refl
through_none f (Some x) e = absurd (some_none _ _ refl e)

module _ (c : Compared) (one : OneRange c) (side : Side) (p : Pair) where
  steps_answered : first_no (steps_asked c side p) ≡ None → (i : ℕ) → i < length (steps_on side c p) → Answered c side p i
  steps_answered e i h =
      let x = nth_here (steps_on side c p) i h in
      (decides_answered c side one p i x.0 x.1).0 (ask_yes (0 + i) _ (numbered_each (step_asked c side p) 0 (steps_on side c p) e i x.0 x.1))

  answered_steps : ((i : ℕ) → i < length (steps_on side c p) → Answered c side p i) → first_no (steps_asked c side p) ≡ None
  answered_steps all =
      numbered_none (step_asked c side p) 0 (steps_on side c p) (λ i x at. ask_none (0 + i) _ ((decides_answered c side one p i x at).1 (all i (nth_within (steps_on side c p) i x at))))

  -- the step i is not answered among the first n steps of the opposite side
  abbrev Unanswered : ℕ → ℕ → Type 0
  Unanswered n i = (j : ℕ) × ((j < n) × Reply c side p i j) → ⊥

  module _ (n : ℕ) (all : n ≡ length (steps_on (opposed side) c p)) where
    unmet : (i : ℕ) (x : Step) → Stands (steps_on side c p) x i → Unanswered n i → has_reply c side x (steps_on (opposed side) c p) ≡ false
    unmet i x at none = false_from_ne_true _ (λ e. let a = (decides_answered c side one p i x at).0 e in none (a.0, (rw all (nth_within (steps_on (opposed side) c p) a.0 a.1.given a.1.given_at), a.1)))

    met : (i : ℕ) (x : Step) → Stands (steps_on side c p) x i → (Unanswered n i → ⊥) → has_reply c side x (steps_on (opposed side) c p) ≡ true
    met i x at some = true_from_ne_false _ (λ e. some (λ a. absurd (false≢true (sym e ∙ (decides_answered c side one p i x at).1 (a.0, a.1.1)))))

    -- what is left to ask behind answered steps has the first no of all
    behind : (i : ℕ) → i ≤ length (steps_on side c p) → ((k : ℕ) → k < i → Unanswered n k → ⊥) → first_no (numbered (step_asked c side p) i (drop i (steps_on side c p))) ≡ first_no (steps_asked c side p)
    behind zero h some = refl
    behind (suc i) h some =
        let x = nth_here (steps_on side c p) i (omega arith) in
        let next = numbered_more (step_asked c side p) (steps_on side c p) i x.0 x.1 (ask_none _ _ (met i x.0 x.1 (some i (omega arith)))) in
        sym (rw add-one at next) ∙ behind i (omega arith) (λ k before. some k (omega arith))

    pub first_unanswered : (m : ℕ) (r : Option ℕ) → m ≡ length (steps_on side c p) → FirstOf (λ i. (i < m) × Unanswered n i) r → r ≡ first_no (steps_asked c side p)
    first_unanswered m None whole h =
        sym (sym (behind m (omega (arith, whole)) (λ k before none. h k (before, none))) ∙ numbered_all (step_asked c side p) (steps_on side c p) m (omega (arith, whole)))
    first_unanswered m (Some i) whole h =
        let x = nth_here (steps_on side c p) i (omega (arith, whole, h.0.0)) in
        sym (sym (behind i (omega (arith, whole, h.0.0)) (λ k before none. h.1 k before (omega (arith, before, h.0.0), none)))
        ∙ numbered_here (step_asked c side p) (steps_on side c p) i x.0 i x.1 (ask_no _ _ (unmet i x.0 x.1 h.0.1)))

-- the questions to one record
module _ (c : Compared) (one : OneRange c) (k : ℕ) (p : Pair) where
  pair_matched : first_no (pair_asked c k p) ≡ None → Matched c p
  pair_matched e =
      let a = head_none _ _ _ e in
      let b = head_none _ _ _ a.1 in
      let d = head_none _ _ _ b.1 in
      let l = append_left (restated (say 15 Left k) (steps_asked c Left p)) (restated (say 16 Right k) (steps_asked c Right p)) d.1 in
      let r = append_right (restated (say 15 Left k) (steps_asked c Left p)) (restated (say 16 Right k) (steps_asked c Right p)) d.1 in
      record {
        left_lawful = a.0;
        right_lawful = b.0;
        same_shown = (decides_set _ _).0 d.0;
        answered = λ side. elim side as (λ s. (i : ℕ) → i < length (steps_on s c p) → Answered c s p i) [
          | Left ↦ steps_answered c one Left p (through_none (say 15 Left k) _ (sym (first_restated (say 15 Left k) (steps_asked c Left p)) ∙ l))
          | Right ↦ steps_answered c one Right p (through_none (say 16 Right k) _ (sym (first_restated (say 16 Right k) (steps_asked c Right p)) ∙ r))
        ];
      }

  -- the two lists of steps, behind three questions that are answered yes
  module _ (left_lawful : c.left.lawful p.left ≡ true) (right_lawful : c.right.lawful p.right ≡ true) (same_shown : c.left.shown p.left ≡ c.right.shown p.right) where
    steps_first : {r : Option Refusal} → first_no (restated (say 15 Left k) (steps_asked c Left p) ++ restated (say 16 Right k) (steps_asked c Right p)) ≡ r → r ≡ first_no (pair_asked c k p)
    steps_first e = sym (head_yes _ _ _ left_lawful (head_yes _ _ _ right_lawful (head_yes _ _ _ ((decides_set _ _).1 same_shown) e)))

    pub pair_left : (i : ℕ) → Some i ≡ first_no (steps_asked c Left p) → Some (say 15 Left k i) ≡ first_no (pair_asked c k p)
    pair_left i l =
        steps_first (append_some (restated (say 15 Left k) (steps_asked c Left p)) (restated (say 16 Right k) (steps_asked c Right p)) _ (first_restated (say 15 Left k) (steps_asked c Left p) ∙ ap (through (say 15 Left k)) (sym l)))

    left_none : None ≡ first_no (steps_asked c Left p) → first_no (restated (say 15 Left k) (steps_asked c Left p) ++ restated (say 16 Right k) (steps_asked c Right p)) ≡ through (say 16 Right k) (first_no (steps_asked c Right p))
    left_none l =
        append_none (restated (say 15 Left k) (steps_asked c Left p)) (restated (say 16 Right k) (steps_asked c Right p)) (first_restated (say 15 Left k) (steps_asked c Left p) ∙ ap (through (say 15 Left k)) (sym l))
        ∙ first_restated (say 16 Right k) (steps_asked c Right p)

    pub pair_right : (i : ℕ) → None ≡ first_no (steps_asked c Left p) → Some i ≡ first_no (steps_asked c Right p) → Some (say 16 Right k i) ≡ first_no (pair_asked c k p)
    pair_right i l r = steps_first (left_none l ∙ ap (through (say 16 Right k)) (sym r))

    pub pair_none : None ≡ first_no (steps_asked c Left p) → None ≡ first_no (steps_asked c Right p) → None ≡ first_no (pair_asked c k p)
    pair_none l r = steps_first (left_none l ∙ ap (through (say 16 Right k)) (sym r))

  matched_pair : Matched c p → first_no (pair_asked c k p) ≡ None
  matched_pair m =
      sym (pair_none m.left_lawful m.right_lawful m.same_shown (sym (answered_steps c one Left p (m.answered Left))) (sym (answered_steps c one Right p (m.answered Right))))

module _ (c : Compared) where
  pub none_bisimulation : first_no (judge_asked c) ≡ None → Bisimulation c
  none_bisimulation e =
      let a = head_none _ _ _ e in
      let b = head_none _ _ _ a.1 in
      let one = (decides_range c).0 a.0 in
      record { one_range = one; few = leb-true _ _ b.0; each = λ k p at. pair_matched c one (0 + k) p (numbered_each (pair_asked c) 0 c.relation b.1 k p at) }

  pub bisimulation_none : Bisimulation c → first_no (judge_asked c) ≡ None
  bisimulation_none b =
      head_yes _ _ _ ((decides_range c).1 b.one_range) (head_yes _ _ _ (le-leb _ _ b.few)
      (numbered_none (pair_asked c) 0 c.relation (λ k p at. matched_pair c b.one_range (0 + k) p (b.each k p at))))

  -- the whole contract of the judge, from what each exit knows
  pub judged_no : (r : Result Pass Fault) (f : Fault) → r ≡ Err f → first_no (judge_asked c) ≡ Some (judge_refusal f) → Judged c r
  judged_no r f e first =
      subst (λ (x : Result Pass Fault). Judged c x) (sym e) (record {
        refuses = sym first;
        counts = tt;
        exactly = (λ ok. absurd (false≢true ok), λ b. absurd (some_none _ _ first (bisimulation_none b)));
      })

  pub judged_pass : (p : Pass) → p.count ≡ length c.relation → first_no (judge_asked c) ≡ None → Judged c (Ok p)
  judged_pass p count none = record { refuses = sym none; counts = count; exactly = (λ _. none_bisimulation none, λ _. refl) }

  -- the loop over the records: what is left to ask has the first no of all. The record is judged by a comparison that is c.
  module _ (own : Compared) (same : own ≡ c) (k : ℕ) (p : Pair) (at : Stands c.relation p k) (inv : first_no (numbered (pair_asked c) k (drop k c.relation)) ≡ first_no (judge_asked c)) where
    pub pair_refused : (r : Result Pass Fault) (f : Fault) → r ≡ Err f → Some (judge_refusal f) ≡ first_no (pair_asked own k p) → Judged c r
    pair_refused r f e says =
        let here = says ∙ ap (λ x. first_no (pair_asked x k p)) same in
        judged_no r f e (sym inv ∙ numbered_here (pair_asked c) c.relation k p (judge_refusal f) at (sym here))

    pub pair_passed : None ≡ first_no (pair_asked own k p) → first_no (numbered (pair_asked c) (k + 1) (drop (k + 1) c.relation)) ≡ first_no (judge_asked c)
    pair_passed none =
        let here = none ∙ ap (λ x. first_no (pair_asked x k p)) same in
        sym (numbered_more (pair_asked c) c.relation k p at (sym here)) ∙ inv

  pub all_passed : (k : ℕ) (p : Pass) → length c.relation ≤ k → first_no (numbered (pair_asked c) k (drop k c.relation)) ≡ first_no (judge_asked c) → p.count ≡ length c.relation → Judged c (Ok p)
  all_passed k p h inv count = judged_pass p count (sym inv ∙ numbered_all (pair_asked c) c.relation k h)

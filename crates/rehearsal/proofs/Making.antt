-- Each call keeps a play in agreement with its book. Assumes nothing.
use Rattle.std.proofs.Common.{◌≡◌, ℕ, ◌<◌, Bool, true, false, cond, List, [], ◌∷◌, length, ℤ, nat_eq, nat_lt, Some, None, Ok, Err, Option, sym, refl, ap, ◌∙◌, subst, arith}
use Rattle.std.specs.List.{slice_get}
use Rattle.std.proofs.lemmas.Bool.{le-leb}
use Rattle.std.proofs.lemmas.Int.{ints}
use Rattle.lists.specs.Words.{Stands, FirstOf}
use Rattle.lists.proofs.Places.{some_same, some_none, nth_here}
use Rattle.questions.specs.Asking.{Question, first_no, ask, put, refuse}
use Rattle.questions.specs.declared.Refusal.{Refusal}
use Rattle.questions.specs.declared.Side.{Side}
use Rattle.questions.proofs.Asked.{ask_none}
use Rattle.model.specs.declared.state.Pair.{Pair}
use Rattle.systems.specs.Meaning.{Step, Keeps, in_range_of}
use Rattle.judge.specs.Comparing.{Compared, opposed, steps_on}
use Rattle.judge.specs.Likeness.{Bisimulation}
use Rattle.judge.specs.Replies.{holds, has_reply}
use Rattle.judge.proofs.Tested.{decides_range, decides_holds, decides_answered}
use Rattle.judge.proofs.Values.{in_range_lem}
use Rattle.play.specs.Calls.{play_refusal, if_there, present_asked, step_asked, challenge_asked, reply_asked, settle_asked, value_by, value_fits, landings_by, FirstReply, Challenges, Replies, Settles}
use Rattle.play.specs.declared.answered.Answered.{Answered as AnsweredPlay}
use Rattle.play.specs.declared.challenged.Challenged.{Challenged as ChallengedPlay}
use Rattle.play.specs.declared.fault.Fault.{Fault}
use Rattle.play.specs.declared.fault.Fault.TheVariants.{Ranges, TooMany, NoPair, NoStep, NoReply, Value, Landings}
use Rattle.play.specs.declared.fault.Refused.{Refused as RefusedCall}
use Rattle.play.specs.declared.level.Level.{Level as LevelPlay}
use Rattle.play.proofs.Facing.{step_there, record_there}
use Rattle.rehearsal.specs.declared.attempt.Call.{Call}
use Rattle.rehearsal.specs.declared.attempt.Call.TheVariants.{Challenge, Reply, Settle}
use Rattle.rehearsal.specs.declared.attempt.Outcome.TheVariants.{Taken, Refused}
use Rattle.rehearsal.specs.declared.make.AfterCall.{AfterCall}
use Rattle.rehearsal.specs.declared.playing.Play.{Play}
use Rattle.rehearsal.specs.declared.playing.Play.TheVariants.{Level, Challenged, Answered}
use Rattle.rehearsal.specs.Book.{Book, book, Phase, first_reply, with_reply, book_after_settle, settle_outcome, next_book, outcome, Agrees}
use Rattle.rehearsal.specs.Book.Phase.{level, challenged, answered}
use Rattle.rehearsal.specs.Making.{Keeping, Next, KeepsBook, after_taken, after_refused}
use Rattle.rehearsal.proofs.Books.{first_is, value_within}

pub low_within : (c : Compared) → Keeps c.left → in_range_of c.left c.left.lo ≡ true
low_within c keeps = let o = keeps.ordered in in_range_lem c.left.lo c.left.hi c.left.lo (omega (arith, ints)) (omega (arith, ints))

-- the fault that a number stands for
abbrev by_number : ℕ → Fault
by_number n =
    cond (nat_eq n 10) Ranges (cond (nat_eq n 11) TooMany (cond (nat_eq n 17) NoPair (cond (nat_eq n 18) NoStep (cond (nat_eq n 19) NoReply (cond (nat_eq n 20) Value Landings)))))

-- a fault is told by its no
told_by : (f : Fault) → f ≡ by_number (play_refusal f).question
told_by Ranges = refl
told_by TooMany = refl
told_by NoPair = refl
told_by NoStep = refl
told_by NoReply = refl
told_by Value = refl
told_by Landings = refl

fault_is : (f g : Fault) → play_refusal f ≡ play_refusal g → f ≡ g
fault_is f g e = told_by f ∙ ap (λ t. by_number t.question) e ∙ sym (told_by g)

-- one question is left, with the answer b
pub taken_yes : (b : Bool) (t : Refusal) → None ≡ cond b None (Some t) → b ≡ true
taken_yes true t e = refl
taken_yes false t e = absurd (some_none _ t refl (sym e))

pub refused_no : (b : Bool) (t : Refusal) (f : Fault) → Some (play_refusal f) ≡ cond b None (Some t) → (b ≡ false) × (play_refusal f ≡ t)
refused_no true t f e = absurd (some_none _ _ refl e)
refused_no false t f e = (refl, some_same _ _ _ refl e)

no_settle_challenge : (side : Side) (i : ℕ) (v : ℤ) → Challenge side i ≡ Settle v → ⊥
no_settle_challenge side i v e = let z : ◌≡◌ {A = ℕ} 0 1 = cc in omega arith

no_settle_reply : (v : ℤ) → Reply ≡ Settle v → ⊥
no_settle_reply v e = let z : ◌≡◌ {A = ℕ} 0 1 = cc in omega arith

no_refused_settle : (f : Fault) → Some (Refused f) ≡ Some Taken → ⊥
no_refused_settle f e = let z : ◌≡◌ {A = ℕ} 0 1 = cc in omega arith

-- nothing more is asked
nothing_there : (o : Option Step) → first_no (if_there {A = Refusal} (λ _. []) o) ≡ None
nothing_there None = refl
nothing_there (Some x) = refl

module _ (c : Compared) (bis : Bisimulation c) where
  present : (k : ℕ) (p : Pair) (f : Pair → List (Question Refusal)) → Stands c.relation p k → first_no (present_asked c k f) ≡ first_no (f p)
  present k p f at = record_there c k p f ((decides_range c).1 bis.one_range) (le-leb _ _ bis.few) at

  -- challenge
  module _ (l : LevelPlay) (side : Side) (i : ℕ) (p : Pair) (at : Stands c.relation p l.pair) where
    challenge_left : first_no (challenge_asked c l.pair side i) ≡ cond (nat_lt i (length (steps_on side c p))) None (Some (refuse 18))
    challenge_left =
        present l.pair p (λ q. step_asked (steps_on side c q) i (λ _. [])) at
        ∙ ap (λ o. cond (nat_lt i (length (steps_on side c p))) o (Some (refuse 18))) (nothing_there (slice_get (steps_on side c p) i))

    challenge_err : (e : RefusedCall LevelPlay) → Challenges c l side i (Err e) → Next c (Level l) (book p level) (Challenge side i) (after_refused (Level e.play) e.fault)
    challenge_err e h =
        let no = refused_no _ _ e.fault (h.refuses ∙ challenge_left) in
        record {
          agrees = record {
            in_phase = ap (λ b. cond b (challenged side i) level) no.0;
            record_equal = subst (λ (o : LevelPlay). Stands c.relation p o.pair) (sym h.hands_back) at;
          };
          went = ap Refused (fault_is e.fault NoStep no.1) ∙ sym (ap (λ b. cond b Taken (Refused NoStep)) no.0);
          first = λ s. absurd (no_settle_challenge side i s.0 s.1);
          kept = λ _. (ap (λ o. o.pair) h.hands_back, refl);
        }

  -- reply
  module _ (l : ChallengedPlay) (p : Pair) (at : Stands c.relation p l.pair) (has : l.step < length (steps_on l.side c p)) where
    reply_left : first_no (reply_asked c l) ≡ None
    reply_left =
        let x = nth_here (steps_on l.side c p) l.step has in
        let answered = (bis.each l.pair p at).answered l.side l.step has in
        present l.pair p (λ q. step_asked (steps_on l.side c q) l.step (λ z. ask (refuse 19) (has_reply c l.side z (steps_on (opposed l.side) c q)))) at
        ∙ step_there (steps_on l.side c p) l.step x.0 (λ z. ask (refuse 19) (has_reply c l.side z (steps_on (opposed l.side) c p))) x.1
        ∙ ask_none (refuse 19) _ ((decides_answered c l.side bis.one_range p l.step x.0 x.1).1 answered)

    reply_ok : (next : AnsweredPlay) → Replies c l (Ok next) → Next c (Challenged l) (book p (challenged l.side l.step)) Reply (after_taken (Answered next))
    reply_ok next h =
        let x = nth_here (steps_on l.side c p) l.step has in
        let there = ap (first_reply c l.side p) x.1 ∙ first_is c bis.one_range l.side p l.step x.0 x.1 next.reply (h.first p at) in
        let s : answered l.side l.step next.reply ≡ answered next.side next.step next.reply = let a = h.stands in cc in
        record {
          agrees = record { in_phase = ap (with_reply l.side l.step) there ∙ s; record_equal = subst (λ (k : ℕ). Stands c.relation p k) (sym h.stands.0) at };
          went = refl;
          first = λ s. absurd (no_settle_reply s.0 s.1);
          kept = λ _. (h.stands.0, refl);
        }

    reply_err : {P : Type 0} (e : RefusedCall ChallengedPlay) → Replies c l (Err e) → P
    reply_err e h = absurd (some_none _ _ refl (h.refuses ∙ reply_left))

  -- settle
  module _ (low : in_range_of c.left c.left.lo ≡ true) (a : AnsweredPlay) (p : Pair) (at : Stands c.relation p a.pair) (v : ℤ) (fixed : FirstReply c a.side p a.step a.reply) where
    abbrev asked : Step
    asked = fixed.0.asked

    abbrev given : Step
    given = fixed.0.given

    lands_there : value_fits c asked.label v ≡ true → holds c.relation (landings_by c a.side asked given v) ≡ true
    lands_there t = (decides_holds c.relation _).1 (fixed.0.lands (value_by c asked.label v) (value_within c asked.label v bis.one_range low t))

    held_yes : cond (value_fits c asked.label v) (first_no (ask (refuse 21) (holds c.relation (landings_by c a.side asked given v)))) (Some (refuse 20)) ≡ cond (value_fits c asked.label v) None (Some (refuse 20))
    held_yes =
        elim (value_fits c asked.label v) as (λ b. value_fits c asked.label v ≡ b → cond b (first_no (ask (refuse 21) (holds c.relation (landings_by c a.side asked given v)))) (Some (refuse 20)) ≡ cond b None (Some (refuse 20))) [
          | true ↦ (λ t. ask_none (refuse 21) _ (lands_there t))
          | false ↦ (λ _. refl)
        ] refl

    settle_left : first_no (settle_asked c a v) ≡ cond (value_fits c asked.label v) None (Some (refuse 20))
    settle_left =
        present a.pair p (λ q. step_asked (steps_on a.side c q) a.step (λ z. step_asked (steps_on (opposed a.side) c q) a.reply (λ w. put (refuse 20) (value_fits c z.label v) ∷ ask (refuse 21) (holds c.relation (landings_by c a.side z w v))))) at
        ∙ step_there (steps_on a.side c p) a.step asked (λ z. step_asked (steps_on (opposed a.side) c p) a.reply (λ w. put (refuse 20) (value_fits c z.label v) ∷ ask (refuse 21) (holds c.relation (landings_by c a.side z w v)))) fixed.0.asked_at
        ∙ step_there (steps_on (opposed a.side) c p) a.reply given (λ w. put (refuse 20) (value_fits c asked.label v) ∷ ask (refuse 21) (holds c.relation (landings_by c a.side asked w v))) fixed.0.given_at
        ∙ held_yes

    -- what the book becomes, and how it says that the call goes, once the value fits or not
    writes_by : (b : Bool) → value_fits c asked.label v ≡ b → next_book c p (answered a.side a.step a.reply) (Settle v) ≡ cond b (book (landings_by c a.side asked given v) level) (book p (answered a.side a.step a.reply))
    writes_by b t =
        let old = book p (answered a.side a.step a.reply) in
        ap (λ o. book_after_settle c old a.side o (slice_get (steps_on (opposed a.side) c p) a.reply) v) fixed.0.asked_at
        ∙ ap (λ o. book_after_settle c old a.side (Some asked) o v) fixed.0.given_at
        ∙ ap (λ q. cond q (book (landings_by c a.side asked given v) level) old) t

    outcome_by : (b : Bool) → value_fits c asked.label v ≡ b → outcome c p (answered a.side a.step a.reply) (Settle v) ≡ cond b Taken (Refused Value)
    outcome_by b t = ap (settle_outcome c v) fixed.0.asked_at ∙ ap (λ q. cond q Taken (Refused Value)) t

    settle_ok : (next : LevelPlay) → Settles c a v (Ok next) → Next c (Answered a) (book p (answered a.side a.step a.reply)) (Settle v) (after_taken (Level next))
    settle_ok next h =
        let t = taken_yes _ _ (h.refuses ∙ settle_left) in
        let first = h.first p at asked given fixed.0.asked_at fixed.0.given_at in
        let w = sym (writes_by true t) in
        record {
          agrees = subst (λ (b : Book). Agrees c.relation (Level next) b) w (record { in_phase = refl; record_equal = first.0 });
          went = sym (outcome_by true t);
          first = λ _. subst (λ (b : Book). FirstOf (Stands c.relation b.present) (Some next.pair)) w first;
          kept = λ none. absurd (none (v, refl, refl));
        }

    settle_err : (e : RefusedCall AnsweredPlay) → Settles c a v (Err e) → Next c (Answered a) (book p (answered a.side a.step a.reply)) (Settle v) (after_refused (Answered e.play) e.fault)
    settle_err e h =
        let no = refused_no _ _ e.fault (h.refuses ∙ settle_left) in
        let old = book p (answered a.side a.step a.reply) in
        let w = writes_by false no.0 in
        let same : ◌≡◌ {A = Play} (Answered a) (Answered e.play) = ap Answered (sym h.hands_back) in
        record {
          agrees = subst (λ (b : Book). Agrees c.relation (Answered e.play) b) (sym w) (subst (λ (o : Play). Agrees c.relation o old) same (record { in_phase = refl; record_equal = at }));
          went = ap Refused (fault_is e.fault Value no.1) ∙ sym (outcome_by false no.0);
          first = λ s. absurd (no_refused_settle e.fault s.2);
          kept = λ _. (ap (λ o. o.pair) h.hands_back, ap (λ b. b.present) w);
        }

  -- the same, of each book that agrees; `self`, `told` and `made` are the play, the call and the answer as the code has them
  module _ (self : Play) (told : Call) (made : AfterCall) where
    moved : (play : Play) (call : Call) (m : AfterCall) (b : Book) → self ≡ play → told ≡ call → made ≡ m → Next c play b call m → Next c self b told made
    moved play call m b s t e n =
        subst (λ (o : Play). Next c o b told made) (sym s) (subst (λ (o : Call). Next c play b o made) (sym t) (subst (λ (o : AfterCall). Next c play b call o) (sym e) n))

    at_level : (l : LevelPlay) (call : Call) (m : AfterCall) → self ≡ Level l → told ≡ call → made ≡ m → ((p : Pair) → Stands c.relation p l.pair → Next c (Level l) (book p level) call m) → KeepsBook c self told made
    at_level l call m s t e next b agrees sound =
        let g = subst (λ (o : Play). Agrees c.relation o b) s agrees in
        let n = subst (λ (o : Phase). Next c (Level l) (book b.present o) call m) (sym g.in_phase) (next b.present g.record_equal) in
        moved (Level l) call m b s t e n

    pub keeps_challenge_err : (l : LevelPlay) (side : Side) (i : ℕ) (r : RefusedCall LevelPlay) → self ≡ Level l → told ≡ Challenge side i → made ≡ after_refused (Level r.play) r.fault → Challenges c l side i (Err r) → KeepsBook c self told made
    keeps_challenge_err l side i r s t e h = at_level l (Challenge side i) (after_refused (Level r.play) r.fault) s t e (λ p at. challenge_err l side i p at r h)

    at_challenged : (l : ChallengedPlay) (m : AfterCall) → self ≡ Challenged l → told ≡ Reply → made ≡ m
        → ((p : Pair) → Stands c.relation p l.pair → l.step < length (steps_on l.side c p) → Next c (Challenged l) (book p (challenged l.side l.step)) Reply m) → KeepsBook c self told made
    at_challenged l m s t e next b agrees sound =
        let g = subst (λ (o : Play). Agrees c.relation o b) s agrees in
        let has = subst (λ (o : Phase). Keeping c b.present o) g.in_phase sound.keeping in
        let n = subst (λ (o : Phase). Next c (Challenged l) (book b.present o) Reply m) (sym g.in_phase) (next b.present g.record_equal has) in
        moved (Challenged l) Reply m b s t e n

    pub keeps_reply_ok : (l : ChallengedPlay) (next : AnsweredPlay) → self ≡ Challenged l → told ≡ Reply → made ≡ after_taken (Answered next) → Replies c l (Ok next) → KeepsBook c self told made
    keeps_reply_ok l next s t e h = at_challenged l (after_taken (Answered next)) s t e (λ p at has. reply_ok l p at has next h)

    pub keeps_reply_err : (l : ChallengedPlay) (r : RefusedCall ChallengedPlay) → self ≡ Challenged l → told ≡ Reply → made ≡ after_refused (Challenged r.play) r.fault → Replies c l (Err r) → KeepsBook c self told made
    keeps_reply_err l r s t e h = at_challenged l (after_refused (Challenged r.play) r.fault) s t e (λ p at has. reply_err l p at has r h)

    module _ (keeps : Keeps c.left) (a : AnsweredPlay) (v u : ℤ) (same : u ≡ v) (s : self ≡ Answered a) (t : told ≡ Settle v) where
      at_answered : (m : AfterCall) → made ≡ m → ((p : Pair) → Stands c.relation p a.pair → FirstReply c a.side p a.step a.reply → Next c (Answered a) (book p (answered a.side a.step a.reply)) (Settle u) m)
          → KeepsBook c self told made
      at_answered m e next b agrees sound =
          let g = subst (λ (o : Play). Agrees c.relation o b) s agrees in
          let fixed = subst (λ (o : Phase). Keeping c b.present o) g.in_phase sound.keeping in
          let n = subst (λ (o : Phase). Next c (Answered a) (book b.present o) (Settle u) m) (sym g.in_phase) (next b.present g.record_equal fixed) in
          moved (Answered a) (Settle u) m b s (t ∙ sym (ap Settle same)) e n

      pub keeps_settle_ok : (next : LevelPlay) → made ≡ after_taken (Level next) → Settles c a u (Ok next) → KeepsBook c self told made
      keeps_settle_ok next e h = at_answered (after_taken (Level next)) e (λ p at fixed. settle_ok (low_within c keeps) a p at u fixed next h)

      pub keeps_settle_err : (r : RefusedCall AnsweredPlay) → made ≡ after_refused (Answered r.play) r.fault → Settles c a u (Err r) → KeepsBook c self told made
      keeps_settle_err r e h = at_answered (after_refused (Answered r.play) r.fault) e (λ p at fixed. settle_err (low_within c keeps) a p at u fixed r h)

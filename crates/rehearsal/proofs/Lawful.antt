-- The law, from what each exit of a rehearsal knows. Assumes nothing.
use Rattle.std.proofs.Common.{◌≡◌, ℕ, List, length, nat_lt, Some, None, Ok, Err, Result, sym, refl, ap, ◌∙◌, subst, arith}
use Rattle.std.proofs.lemmas.Bool.{ltb-true, ltb-false, false≢true}
use Rattle.questions.specs.Asking.{first_no, refuse}
use Rattle.questions.proofs.Chained.{first_of, then_of}
use Rattle.judge.specs.Comparing.{Compared}
use Rattle.judge.specs.Likeness.{Bisimulation}
use Rattle.judge.specs.Judged.{judge_asked, judge_refusal, Judged}
use Rattle.judge.specs.declared.fault.Fault.{Fault as JudgeFault}
use Rattle.judge.specs.declared.verdict.Pass.{Pass}
use Rattle.lists.specs.Words.{through, Stands}
use Rattle.lists.proofs.Places.{nth_here}
use Rattle.model.specs.declared.state.Pair.{Pair}
use Rattle.play.specs.Calls.{play_refusal, begin_asked, Begins}
use Rattle.play.specs.declared.fault.Fault.{Fault}
use Rattle.play.specs.declared.level.Level.{Level}
use Rattle.rehearsal.specs.declared.attempt.Attempt.{Attempt}
use Rattle.rehearsal.specs.declared.fault.RehearsalFault.{RehearsalFault}
use Rattle.rehearsal.specs.declared.fault.RehearsalFault.TheVariants.{NotAccepted, NotBegun}
use Rattle.rehearsal.specs.declared.playing.Play.{Play}
use Rattle.rehearsal.specs.Book.{book}
use Rattle.rehearsal.specs.Book.Phase.{level}
use Rattle.rehearsal.specs.Law.{Plays, Law}
use Rattle.rehearsal.proofs.Following.{runs_matched}
use Rattle.rehearsal.proofs.Making.{taken_yes, refused_no}

module _ (c : Compared) (pair : ℕ) (old now : List Attempt) (r : Result Play RehearsalFault) where
  pub not_accepted : (f : JudgeFault) → r ≡ Err (NotAccepted f) → Judged c (Err f) → now ≡ old → Law c pair old now r
  not_accepted f e j same =
      let none : Bisimulation c → ⊥ = λ b. false≢true (j.exactly.1 b) in
      subst (λ (x : Result Play RehearsalFault). Law c pair old now x) (sym e) (record {
        accepts = (λ t. absurd (false≢true t), λ b. absurd (none b));
        refuses = first_of (Some (judge_refusal f)) (judge_asked c) (begin_asked (length c.relation) pair) refl j.refuses;
        begin_refused = λ b. absurd (none b);
        not_played = same;
        plays = tt;
        runs = runs_matched c;
      })

  module _ (pass : Pass) (j : Judged c (Ok pass)) where
    bisimulation : Bisimulation c
    bisimulation = j.exactly.0 refl

    pub not_begun : (f : Fault) → r ≡ Err (NotBegun f) → Begins pass pair (Err f) → now ≡ old → Law c pair old now r
    not_begun f e b same =
        let asked = b.refuses ∙ ap (λ n. first_no (begin_asked n pair)) j.counts in
        let no = refused_no (nat_lt pair (length c.relation)) (refuse 17) f asked in
        subst (λ (x : Result Play RehearsalFault). Law c pair old now x) (sym e) (record {
          accepts = (λ _. bisimulation, λ _. refl);
          refuses = then_of (Some (play_refusal f)) (judge_asked c) (begin_asked (length c.relation) pair) j.refuses asked;
          begin_refused = λ _. (λ _. ltb-false pair (length c.relation) no.0, λ _. refl);
          not_played = same;
          plays = tt;
          runs = runs_matched c;
        })

    pub begun : (l : Level) (play : Play) → r ≡ Ok play → Begins pass pair (Ok l) → ((p : Pair) → Stands c.relation p pair → Plays c pair (book p level) old now play) → Law c pair old now r
    begun l play e b plays =
        let asked = b.refuses ∙ ap (λ n. first_no (begin_asked n pair)) j.counts in
        let below = ltb-true pair (length c.relation) (taken_yes (nat_lt pair (length c.relation)) (refuse 17) asked) in
        let p = nth_here c.relation pair below in
        subst (λ (x : Result Play RehearsalFault). Law c pair old now x) (sym e) (record {
          accepts = (λ _. bisimulation, λ _. refl);
          refuses = then_of None (judge_asked c) (begin_asked (length c.relation) pair) j.refuses asked;
          begin_refused = λ _. (λ t. absurd (false≢true t), λ h. absurd (omega (arith, h, below)));
          not_played = tt;
          plays = (book p.0 level, ap (through (λ q. book q level)) p.1, plays p.0 p.1);
          runs = runs_matched c;
        })

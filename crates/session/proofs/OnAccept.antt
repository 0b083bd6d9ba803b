-- Accept, without a callback and with one: taken exactly where the session takes it, shows what the session shows, and leaves the area as long as it was.
use mathlib.Core.Path.{◌≡◌, refl, sym, ap, ap₂, ◌∙◌, subst}
use mathlib.Core.Bool.{Bool, true, false, cond, ◌&&◌, and_assoc}
use mathlib.Core.List.{List}
use Prim.Native.Nat.{ℕ}
use borrow.Author.Tests.{eqb-true}
use lib.Dec.{eqb}
use lib.ListN.{length, length-replicate, replicate}
use lib.Ieee.{Float}
use lib.Ieee.Scale.{finite}
use Rattle.ieee.specs.Double.{nought}
use Rattle.family.specs.declared.Family.{Family}
use Rattle.family.specs.Family.{family_of, keeps_older, facts_of}
use Rattle.family.proofs.Numbers.{seven_alone}
use Rattle.workspace.specs.declared.Vector.{Vector}
use Rattle.workspace.specs.Vectors.{Vectors, ◌with◌≔◌, unpack, pack, all_finite, first_derivative, last_derivative, eigenvector, state, candidate}
use Rattle.workspace.specs.declared.Vector.TheVariants.{FirstDerivative, LastDerivative, Derivative, PreviousTwo, PreviousOne, NextStage, Eigenvector, PerturbedState, PerturbedDerivative, State, Candidate, OlderState}
use Rattle.workspace.specs.Vectors.{number, older_state}
use Rattle.workspace.proofs.Areas.{unpack_pack, long_with}
use Rattle.driver.specs.declared.Phase.TheVariants as P
use Rattle.driver.specs.Calls.{Held, Called, in_phase, at_time, first_at, take_callback, replied, as_long, pending, in_range, awaiting, may_accept}
use Rattle.driver.specs.Calls.{finishes, going_on, accepted, accept, called_back, accept_with_callback, Accept, AcceptWithCallback, taken, accept_tests}
use Rattle.driver.specs.Calls.{callback_tests, with_older, history_after}
use Rattle.driver.proofs.Ladder.{each_passes, goes_ahead}
use Rattle.session.specs.Attempt.{◌>>=◌, evaluate, FinishedAttempt}
use Rattle.session.specs.Alike.{compared, SameVectors}
use Rattle.session.specs.Session.{PreviousStep, some_step, is_some, step_after, state_after, evaluates, ready_at, answer_shown, accept_step}
use Rattle.session.specs.Session.{callback_step, Doing, within, Session, at_rest}
use Rattle.session.specs.Session.{after_attempt, doing_now, session_after, doing_shown, has_tried}
use Rattle.ieee.proofs.Logic.{and_left, and_right}
use Rattle.session.proofs.Truth.{and_none, differ}
use Rattle.session.proofs.Lengths.{its_family, LongIn, whole_pack, long_area, pack_length}
use Rattle.session.proofs.Shows.{Remembers, Shows, Does, Good, once}
use Rattle.session.proofs.Guards.{taken_exactly, taken_passes}
use Rattle.session.proofs.Standing.{all_pass, none_pass, K, N, W, standing, Place, inside, outside, place, FinishedAt, finished_at, rested}

-- ---- which are taken

accept_tells : (h : Held) → taken (accept h).answer ≡ K h && (N h && (W h && may_accept h.kept.phase))
unfolding accept accept_tests accepted going_on taken
accept_tells h = taken_exactly h (accept_tests h.kept h.area) _ refl refl

pub accept_agrees : (h : Held) (σ : Session) → Does σ.family σ.n σ.doing h → taken (accept h).answer ≡ has_tried σ.doing
accept_agrees h σ does =
    accept_tells h
    ∙ ap (λ (b : Bool). K h && (N h && (W h && b))) (standing h σ.family σ.n σ.doing does).accept_is·tried
    ∙ go (place h σ.family σ.n σ.doing does)
  where
    go : Place h σ.n σ.doing → K h && (N h && (W h && has_tried σ.doing)) ≡ has_tried σ.doing
    go (inside k n w l) = all_pass (K h) (N h) (W h) _ k n w
    go (outside r t w) = rw t (none_pass (K h) (N h) (W h) false refl)

callback_tells : (h : Held) (y : List Float) (t : Float) → taken (accept_with_callback h y t).answer ≡ K h
    && (N h && (W h && as_long h.kept.n y && (may_accept h.kept.phase && (all_finite y && finite t))))
unfolding accept_with_callback callback_tests called_back going_on taken
callback_tells h y t = taken_exactly h (callback_tests h.kept h.area y t) _ refl refl

pub callback_agrees : (h : Held) (σ : Session) → Does σ.family σ.n σ.doing h → (y : List Float) (t : Float)
    → taken (accept_with_callback h y t).answer ≡ as_long σ.n y && (has_tried σ.doing && (all_finite y && finite t))
callback_agrees h σ does y t =
    callback_tells h y t
    ∙ ap (λ (b : Bool). K h && (N h && (W h && as_long h.kept.n y && (b && (all_finite y && finite t)))))
    (standing h σ.family σ.n σ.doing does).accept_is·tried
    ∙ ap (λ (b : Bool). K h && (N h && b)) (and_assoc (W h) (as_long h.kept.n y) (has_tried σ.doing && (all_finite y && finite t)))
    ∙ go (place h σ.family σ.n σ.doing does)
  where
    go : Place h σ.n σ.doing → K h && (N h && (W h && (as_long h.kept.n y && (has_tried σ.doing && (all_finite y && finite t)))))
        ≡ as_long σ.n y && (has_tried σ.doing && (all_finite y && finite t))
    go (inside k n w l) = all_pass (K h) (N h) (W h) _ k n w ∙ ap (λ (b : Bool). b && (has_tried σ.doing && (all_finite y && finite t))) (l y)
    go (outside r u w) = rw u (none_pass (K h) (N h) (W h) _ (and_none (as_long h.kept.n y) false refl) ∙ sym (and_none (as_long σ.n y) false refl))

-- ---- without a callback

module _ (h : Held) (q : taken (accept h).answer ≡ true) where
  record Passed : Type 0 where
    family_known : K h ≡ true
    n_sized : N h ≡ true
    area_whole : W h ≡ true
    phase_allows : may_accept h.kept.phase ≡ true

  passed : Passed
  unfolding accept accept_tests
  passed = let p = each_passes (accept_tests h.kept h.area) (taken_passes h _ _ refl q) in
      record { family_known = p.0; n_sized = p.1.0; area_whole = p.1.1.0; phase_allows = p.1.1.1.0 }

  accept_is : accept h ≡ going_on h.counters (accepted h.kept (unpack h.kept.n h.area))
  unfolding accept accept_tests
  accept_is = goes_ahead h (accept_tests h.kept h.area) _ (taken_passes h _ _ refl q)

  -- with the older state that the family keeps
  v : Vectors
  v = with_older (its_family h.kept) (unpack h.kept.n h.area)

  long_v : LongIn h.kept v
  unfolding v with_older
  long_v = go (keeps_older (its_family h.kept)) refl
    where
      u : Vectors
      u = unpack h.kept.n h.area

      lu : LongIn h.kept u
      lu = long_area h.kept.family h.kept.n h.area passed.area_whole

      go : (t : Bool) → keeps_older (its_family h.kept) ≡ t → LongIn h.kept (cond t (u with older_state ≔ u state) u)
      go true e = long_with (its_family h.kept) h.kept.n u older_state (u state) lu (lu state ∙ rw e)
      go false e = lu

  w : Vectors
  w = v with first_derivative ≔ v last_derivative with state ≔ v candidate

  long_w : LongIn h.kept w
  unfolding w
  long_w = let F = its_family h.kept in
      long_with F h.kept.n (v with first_derivative ≔ v last_derivative) state (v candidate)
      (long_with F h.kept.n v first_derivative (v last_derivative) long_v (long_v last_derivative)) (long_v candidate)

  -- the family that keeps an older state is the seventh
  kept_by : (k : ℕ) → keeps_older (family_of k) ≡ eqb k 7
  unfolding keeps_older facts_of
  kept_by k = seven_alone keeps_older refl refl refl refl refl refl k ∙ go (eqb k 7)
    where
      go : (t : Bool) → t && true ≡ t
      go true = refl
      go false = refl

  -- the history after it, where the session had the history x and the attempt this step: that of the attempt, or as it was
  record TakenOn (x : PreviousStep) (step : Float) (o : FinishedAttempt) (t u : Bool) : Type 0 where
    remembered : Remembers (cond t (record { present = true; previous_accepted_step = h.kept.arguments.step }) h.kept.history)
        (cond u (some_step step) x)
    others : (b : Vector) → eqb (number older_state) (number b) ≡ false
        → cond t (unpack h.kept.n h.area with older_state ≔ unpack h.kept.n h.area state) (unpack h.kept.n h.area) b
        ≡ unpack h.kept.n h.area b
    others_too : (b : Vector) → eqb (number older_state) (number b) ≡ false
        → cond u (o.vectors with older_state ≔ o.vectors state) o.vectors b ≡ o.vectors b
    older : is_some (cond u (some_step step) x) ≡ true
        → cond t (unpack h.kept.n h.area with older_state ≔ unpack h.kept.n h.area state) (unpack h.kept.n h.area) older_state
        ≡ cond u (o.vectors with older_state ≔ o.vectors state) o.vectors older_state

  taken_on : (x : PreviousStep) (step : Float) (o : FinishedAttempt) → Remembers h.kept.history x → h.kept.arguments.step ≡ step
      → SameVectors (is_some x) (unpack h.kept.n h.area) o.vectors → (t u : Bool) → t ≡ u → TakenOn x step o t u
  unfolding Remembers is_some
  taken_on x step o rem same_step same true true e = record {
    remembered = (refl, same_step);
    others = λ b e. rw e;
    others_too = λ b e. rw e;
    older = λ e. same state refl;
  }
  taken_on x step o rem same_step same true false e = absurd (differ (sym e))
  taken_on x step o rem same_step same false true e = absurd (differ e)
  taken_on x step o rem same_step same false false e = record {
    remembered = rem;
    others = λ b e. refl;
    others_too = λ b e. refl;
    older = λ e. same older_state e;
  }

  pub accept_good : (σ : Session) → h.counters ≡ σ.counts → Does σ.family σ.n σ.doing h → Good (session_after σ Accept) (accept h)
  unfolding session_after Does Shows at_rest after_attempt doing_now accept_step answer_shown doing_shown going_on accepted with_older history_after in_phase
      step_after state_after v w
  accept_good σ cs does = subst (λ (x : Called). Good (session_after σ Accept) x) (sym accept_is)
      (go σ.doing (rested h σ.family σ.n σ.doing does passed.phase_allows))
    where
      kept : (b : Vector) → unpack h.kept.n (pack w) b ≡ w b
      kept b = ap (λ (u : Vectors). u b) (unpack_pack (its_family h.kept) h.kept.n w long_w)

      go : (δ : Doing) → FinishedAt h σ.family σ.n δ
          → Good (session_after (doing_now σ δ) Accept) (going_on h.counters (accepted h.kept (unpack h.kept.n h.area)))
      go δ (finished_at x step o at rem same_step same) =
          subst (λ (f : ℕ). Good (after_accept f) (going_on h.counters (accepted h.kept (unpack h.kept.n h.area)))) at.family_is
          (record {
            shown_is = ap₂ ready_at (kept state ∙ alike candidate refl) (kept first_derivative ∙ alike last_derivative refl);
            counts_are = cs;
            does = (
              record {
                family_is = refl;
                n_is = at.n_is;
                phase_is = refl;
                family_known = at.family_known;
                n_sized = at.n_sized;
                area_whole = whole_pack h.kept.family h.kept.n w long_w;
              },
              on.remembered,
              record {
                state_same = kept state ∙ alike candidate refl;
                first_same = kept first_derivative ∙ alike last_derivative refl;
                eigenvector_same = kept eigenvector ∙ alike eigenvector refl;
                older_same = λ e. kept older_state ∙ on.older e;
              },
            );
          })
        where
          on : TakenOn x step o (keeps_older (its_family h.kept)) (eqb h.kept.family 7)
          on = taken_on x step o rem same_step same (keeps_older (its_family h.kept)) (eqb h.kept.family 7) (kept_by h.kept.family)

          after_accept : ℕ → Session
          after_accept f = record { family = f; n = σ.n; doing = within (accept_step f x step o.vectors); counts = σ.counts }

          other : (b : Vector) → eqb (number older_state) (number b) ≡ false → eqb (number b) (number older_state) ≡ false
          other FirstDerivative e = refl
          other LastDerivative e = refl
          other Derivative e = refl
          other PreviousTwo e = refl
          other PreviousOne e = refl
          other NextStage e = refl
          other Eigenvector e = refl
          other PerturbedState e = refl
          other PerturbedDerivative e = refl
          other State e = refl
          other Candidate e = refl
          other OlderState e = absurd (differ (sym e))

          seen : (b : Vector) → eqb (number older_state) (number b) ≡ false → compared (is_some x) b ≡ true
          seen b e = rw (other b e)

          alike : (b : Vector) → eqb (number older_state) (number b) ≡ false → v b ≡ state_after h.kept.family o.vectors b
          alike b e = on.others b e ∙ same b (seen b e) ∙ sym (on.others_too b e)

  pub accept_area : length (accept h).held.area ≡ length h.area
  unfolding going_on accepted v w
  accept_area = ap (λ (x : Called). length x.held.area) accept_is ∙ pack_length h.kept.family h.kept.n w h.area long_w passed.area_whole

-- ---- with a callback

module _ (h : Held) (y : List Float) (t : Float) (q : taken (accept_with_callback h y t).answer ≡ true) where
  record PassedBoth : Type 0 where
    family_known : K h ≡ true
    n_sized : N h ≡ true
    lengths_good : W h && as_long h.kept.n y ≡ true
    phase_allows : may_accept h.kept.phase ≡ true
    state_finite : all_finite y ≡ true
    time_finite : finite t ≡ true

  passed_both : PassedBoth
  unfolding accept_with_callback callback_tests
  passed_both = let p = each_passes (callback_tests h.kept h.area y t) (taken_passes h _ _ refl q) in
      record {
        family_known = p.0;
        n_sized = p.1.0;
        lengths_good = p.1.1.0;
        phase_allows = p.1.1.1.0;
        state_finite = p.1.1.1.1.0;
        time_finite = p.1.1.1.1.1.0;
      }

  callback_is : accept_with_callback h y t ≡ going_on h.counters (called_back h.kept y t (unpack h.kept.n h.area))
  unfolding accept_with_callback callback_tests
  callback_is = goes_ahead h (callback_tests h.kept h.area y t) _ (taken_passes h _ _ refl q)

  whole : W h ≡ true
  whole = and_left (W h) (as_long h.kept.n y) passed_both.lengths_good

  u : Vectors
  u = unpack h.kept.n h.area with state ≔ y

  long_u : LongIn h.kept u
  unfolding u as_long
  long_u =
      let long = eqb-true (length y) h.kept.n (and_right (W h) (as_long h.kept.n y) passed_both.lengths_good) in
      long_with (its_family h.kept) h.kept.n (unpack h.kept.n h.area) state y (long_area h.kept.family h.kept.n h.area whole) long

  pub callback_good : (σ : Session) → h.counters ≡ σ.counts → Does σ.family σ.n σ.doing h
      → Good (session_after σ (AcceptWithCallback y t)) (accept_with_callback h y t)
  unfolding session_after Does at_rest after_attempt doing_now callback_step answer_shown doing_shown going_on called_back in_phase first_at at_time
      pending in_range awaiting finishes evaluate ◌>>=◌ replied take_callback u
  callback_good σ cs does = subst (λ (x : Called). Good (session_after σ (AcceptWithCallback y t)) x) (sym callback_is)
      (go σ.doing (rested h σ.family σ.n σ.doing does passed_both.phase_allows))
    where
      n : ℕ
      n = h.kept.n

      F : Family
      F = its_family h.kept

      called : Called
      called = going_on h.counters (called_back h.kept y t (unpack h.kept.n h.area))

      go : (δ : Doing) → FinishedAt h σ.family σ.n δ → Good (session_after (doing_now σ δ) (AcceptWithCallback y t)) called
      go δ (finished_at x step o at rem same_step same) =
          subst (λ (f : ℕ). Good (record { family = f; n = σ.n; doing = within (callback_step σ.n y t o.vectors); counts = σ.counts }) called)
          at.family_is
          (subst (λ (n : ℕ). Good (record { family = h.kept.family; n = n; doing = within (callback_step n y t o.vectors); counts = σ.counts }) called)
          at.n_is
          (record {
            shown_is = ap (λ (w : Vectors). evaluates t (w state)) (unpack_pack (its_family h.kept) n u long_u);
            counts_are = cs;
            does = once (first_at P.Callback h.kept.family n t h.kept) h.counters u passed_both.family_known passed_both.n_sized long_u
                (o.vectors with state ≔ y) t y
                (λ d. o.vectors with state ≔ y with first_derivative ≔ d with eigenvector ≔ replicate n nought)
                (λ d. u with first_derivative ≔ d with eigenvector ≔ replicate n nought)
                refl refl
                (λ d hd. long_with F n (u with first_derivative ≔ d) eigenvector (replicate n nought)
                (long_with F n u first_derivative d long_u hd) (length-replicate n nought))
                (λ d. refl) refl
                (λ d. record { state_same = refl; first_same = refl; eigenvector_same = refl; older_same = λ e. absurd (differ e) });
          }))

  pub callback_area : length (accept_with_callback h y t).held.area ≡ length h.area
  unfolding going_on called_back u
  callback_area = ap (λ (x : Called). length x.held.area) callback_is ∙ pack_length h.kept.family h.kept.n u h.area long_u whole

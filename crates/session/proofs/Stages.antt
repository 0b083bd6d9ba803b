-- The stages and the candidate: from stage j on the calls follow the loop of the rows, and after stage s the candidate's evaluation and the end.
-- ⊕ ⊗ are operations on doubles: they round.
use mathlib.Core.Path.{◌≡◌, refl, sym, ap, ◌∙◌}
use mathlib.Core.Bool.{Bool, true, false, cond}
use mathlib.Core.List.{List}
use Prim.Native.Nat.{ℕ, zero, suc, ◌+◌, ◌-◌, ◌≤◌}
use native.Mathlib.Omega.{arith}
use lib.Dec.{eqb}
use borrow.Author.Tests.{lt-ltb, le-ltb, le-leb}
use lib.ListN.{length}
use lib.Ieee.{Float, lt}
use Rattle.ieee.specs.Double.{◌⊕◌, ◌⊗◌, nought}
use Rattle.family.specs.declared.Setting.{Setting}
use Rattle.family.specs.declared.Family.TheVariants.{RKMC2, TSRKC2}
use Rattle.family.specs.Family.{known, facts_of, kind}
use Rattle.coefficients.specs.declared.Recurrence.{Recurrence}
use Rattle.coefficients.specs.Rows.{coefficients, next, carried, candidate_weights}
use Rattle.coefficients.proofs.Carried.{carried_next}
use Rattle.workspace.specs.declared.Arguments.{Arguments}
use Rattle.workspace.specs.declared.Vector.{Vector}
use Rattle.workspace.specs.Vectors.{Vectors, ◌with◌≔◌, number, each, all_finite, first_derivative, last_derivative}
use Rattle.workspace.specs.Vectors.{derivative, previous_two, previous_one, next_stage, state, candidate, older_state}
use Rattle.workspace.specs.Kernel.{with_row, exchanged, combined_entry, mixed_entry, older_of, with_candidate, with_last, error}
use Rattle.workspace.proofs.Areas.{long_last}
use Rattle.workspace.proofs.Candidate.{candidate_last, candidate_combined, candidate_mixed, combined_same, mixed_same}
use Rattle.driver.specs.declared.Phase.TheVariants as P
use Rattle.driver.specs.declared.Iteration.{Iteration}
use Rattle.driver.specs.declared.Staging.{Staging}
use Rattle.driver.specs.declared.Need.TheVariants.{Met}
use Rattle.driver.specs.declared.Counters.{Counters}
use Rattle.driver.specs.declared.Answer.TheVariants.{Evaluate, Refused}
use Rattle.driver.specs.Calls.{Held, step_to, in_phase, setting_for, permits, at_stage, ask_stage, stage_need, ask_candidate, take_stage, take_candidate}
use Rattle.driver.specs.Calls.{replied, good_end, sized, pending, in_range, awaiting, finishes, going_on, counted, settled}
use Rattle.session.specs.Attempt.{for_candidate, closes, Asking, done, stopped, ◌>>=◌, evaluate, FinishedAttempt, stage_row, stage_loop}
use Rattle.session.specs.Attempt.{finished_attempt, close, evaluated}
use Rattle.session.specs.Refusals.{here, later}
use Rattle.session.proofs.Truth.{differ, both}
use Rattle.session.proofs.Follows.{Follows}
use Rattle.session.proofs.Asked.{Counted, one_more, counted_on, Intact, intact_row, intact_exchanged, intact_candidate, at, pending_at, asked}

abbrev pub staging_at : ℕ → ℕ → Recurrence → Staging
staging_at s j c = record { stages = s; stage = j; recurrence = c }

abbrev pub iteration_at : ℕ → Float → Float → Float → Iteration
iteration_at k π ρ r = record { pass = k; perturbation = π; previous_radius = ρ; scaled_radius = r }

module _ (h : Held) (a : Arguments) (hk : known h.kept.family ≡ true) (hs : sized h.kept.n ≡ true) where
  abbrev F : Setting
  F = setting_for h.kept a

  -- s stages after k passes, at the scaled radius r
  module _ (s k : ℕ) (r π ρ : Float) (hs' : permits F s ≡ true) (hr : stage_need F r ≡ Met s) (hn : lt r nought ≡ false) (1≤k : 1 ≤ k) (k≤ : k ≤ 12) where
    abbrev I : Iteration
    I = iteration_at k π ρ r

    -- ---- after stage s

    ended_well : good_end F k s ≡ true
    ended_well = rw (le-leb 1 k 1≤k, le-leb k 12 k≤) hs'

    -- how RKMC2's candidate is made of the vectors, and TSRKC2's
    abbrev combination : Recurrence → Vectors → List Float
    combination rc w = each h.kept.n w (combined_entry a.step (candidate_weights s rc))

    abbrev mixture : Recurrence → Vectors → List Float
    mixture rc w = each h.kept.n w (mixed_entry (older_of F) rc.polynomials.gain)

    record Made (w : Vectors) : Type 0 where
      last : (kind F ≡ RKMC2 → ⊥) → (kind F ≡ TSRKC2 → ⊥) → w candidate ≡ w next_stage
      combined : kind F ≡ RKMC2 → w candidate ≡ combination (carried F s (s - 2)) w
      mixed : kind F ≡ TSRKC2 → w candidate ≡ mixture (carried F s (s - 2)) w

    candidate_follows : (j : ℕ) (rc : Recurrence) (v w : Vectors) (c : Counters) (e : ℕ) → Made w → Intact h w → Counted h e c
        → e + 2 ≡ k + s
        → Follows h a (suc e) (pending_at h a hk hs P.Stage I (staging_at s j rc) v c) (close F h.kept.n a s k r w)
        (settled c (ask_candidate (at h a P.Stage I (staging_at s j rc)) w))
    unfolding Follows close finished_attempt evaluate ◌>>=◌ ask_candidate settled going_on counted in_phase pending in_range awaiting finishes replied
        take_candidate with_last closes evaluated
    candidate_follows j rc v w c e made hw hc e≡ = go (all_finite (w candidate)) refl
      where
        last_stands : (d : List Float) (b : Vector) → eqb 1 (number b) ≡ false → eqb 2 (number b) ≡ false → with_last F h.kept.n a w d b ≡ w b
        last_stands d b p q = pick a.adaptive
          where
            pick : (t : Bool) → cond t (w with last_derivative ≔ d with derivative ≔ each h.kept.n (w with last_derivative ≔ d) (error F a.step))
                (w with last_derivative ≔ d) b ≡ w b
            pick true = rw (p, q)
            pick false = rw p

        older_stays : (d : List Float) (t : Bool)
            → w (cond t older_state state) ≡ with_last F h.kept.n a w d (cond t older_state state)
        older_stays d true = sym (last_stands d older_state refl refl)
        older_stays d false = sym (last_stands d state refl refl)

        last_taken : (d : List Float) → with_last F h.kept.n a w d last_derivative ≡ d
        last_taken d = pick a.adaptive
          where
            pick : (t : Bool) → cond t (w with last_derivative ≔ d with derivative ≔ each h.kept.n (w with last_derivative ≔ d) (error F a.step))
                (w with last_derivative ≔ d) last_derivative ≡ d
            pick true = refl
            pick false = refl

        go : (t : Bool) → all_finite (w candidate) ≡ t → Follows h a (suc e) (pending_at h a hk hs P.Stage I (staging_at s j rc) v c)
            (cond t
            (evaluate for_candidate w (a.time ⊕ a.step) (w candidate)
            >>= λ d. done (finished_attempt F h.kept.n a s k r (with_last F h.kept.n a w d)))
            (stopped 10 w))
            (settled c (cond t
            (step_to (Evaluate (a.time ⊕ a.step) (number candidate)) (at h a P.Candidate I (staging_at s j rc)) w)
            (step_to (Refused 10) (at h a P.Empty I (staging_at s j rc)) w)))
        go true finite =
            asked h a hk hs P.Candidate I (staging_at s j rc) w (one_more h c) (suc e) _ (a.time ⊕ a.step) candidate
            (pending_at h a hk hs P.Stage I (staging_at s j rc) v c)
            (λ m. m >>= λ d. done (finished_attempt F h.kept.n a s k r (with_last F h.kept.n a w d)))
            hw (counted_on h hc) ended_well refl refl (λ c d s j. refl)
            (λ d hd fin. record {
              answer_is = refl;
              area_is = refl;
              vectors_long = long_last (kind F) h.kept.n F a w d hw.long hd;
              state_stands = last_stands d state refl refl ∙ hw.state_is;
              first_stands = last_stands d first_derivative refl refl ∙ hw.first_is;
              older_stands = last_stands d older_state refl refl ∙ hw.older_is;
              candidate_finite = ap all_finite (last_stands d candidate refl refl) ∙ finite;
              candidate_last = λ other another. last_stands d candidate refl refl ∙ made.last other another ∙ sym (last_stands d next_stage refl refl);
              candidate_combined = λ own. last_stands d candidate refl refl ∙ made.combined own ∙ combined_same h.kept.n a.step
                  (candidate_weights s (carried F s (s - 2))) w (with_last F h.kept.n a w d) (sym (last_stands d state refl refl))
                  (sym (last_stands d next_stage refl refl)) (sym (last_stands d previous_two refl refl)) (sym (last_stands d first_derivative refl refl));
              candidate_mixed = λ own. last_stands d candidate refl refl ∙ made.mixed own
                  ∙ mixed_same h.kept.n (older_of F) (carried F s (s - 2)).polynomials.gain w (with_last F h.kept.n a w d)
                  (older_stays d F.history) (sym (last_stands d next_stage refl refl));
              last_finite = ap all_finite (last_taken d) ∙ fin;
              phase_is = refl;
              family_is = refl;
              n_is = refl;
              arguments_are = refl;
              history_is = refl;
              stages_are = refl;
              passes_are = refl;
              radius_is = refl;
              evaluations_are = (counted_on h (counted_on h hc)).evaluations_are;
              attempts_are = (let q = hc.attempts_are in omega arith);
              replies_are = omega arith;
              one_pass = 1≤k;
              twelve_passes = k≤;
              need_met = hr;
              not_negative = hn;
              stages_permitted = hs';
            })
        go false finite = record {
          answer_is = refl;
          number_ends = later here;
          area_is = refl;
          area_stands = λ nine. absurd (omega arith);
          record_is = refl;
          family_is = refl;
          n_is = refl;
          vectors_long = hw.long;
          evaluations_are = (counted_on h hc).evaluations_are;
          attempts_are = hc.attempts_are;
        }

    -- ---- the stages from j on, m of them after j

    abbrev taken : ℕ → Recurrence → Vectors → List Float → Vectors
    taken j rc v d = with_row F h.kept.n a.step (coefficients F s j rc) v d

    -- with the candidate
    abbrev last : ℕ → Recurrence → Vectors → List Float → Vectors
    last j rc v d = with_candidate F h.kept.n a.step s rc (coefficients F s j rc) (taken j rc v d)

    -- the row leaves state, first derivative and older state as they were
    whole : (j : ℕ) (rc : Recurrence) (v : Vectors) (d : List Float) → Intact h v → length d ≡ h.kept.n → Intact h (taken j rc v d)
    whole j rc v d hv hd = intact_row h (facts_of (kind F)).row a.step (coefficients F s j rc) v d hv hd

    -- after stage s
    made_last : (j : ℕ) (rc : Recurrence) (v : Vectors) (d : List Float) → j ≡ s → rc ≡ carried F s (j - 2) → Made (last j rc v d)
    made_last j rc v d j≡ rc≡ =
        let row = coefficients F s j rc in
        record {
          last = candidate_last F h.kept.n a.step s rc row (taken j rc v d);
          combined = λ own. candidate_combined F h.kept.n a.step s rc row (taken j rc v d) own
              ∙ ap (λ (y : Recurrence). combination y (last j rc v d)) (rc≡ ∙ ap (λ (i : ℕ). carried F s (i - 2)) j≡);
          mixed = λ own. candidate_mixed F h.kept.n a.step s rc row (taken j rc v d) own
              ∙ ap (λ (y : Recurrence). mixture y (last j rc v d)) (rc≡ ∙ ap (λ (i : ℕ). carried F s (i - 2)) j≡);
        }

    -- what a stage's derivative is taken to, in the attempt in one piece: before stage s, and at it
    abbrev on_from : ℕ → ℕ → Recurrence → Vectors → Asking Vectors
    on_from m j rc w = stage_loop F h.kept.n a s m (j + 1) (next F rc (coefficients F s j rc)) (exchanged w)

    abbrev at_last : ℕ → Recurrence → Vectors → Asking Vectors
    at_last j rc w = done (with_candidate F h.kept.n a.step s rc (coefficients F s j rc) w)

    abbrev row_then : (Vectors → Asking Vectors) → ℕ → Recurrence → Vectors → Asking (List Float) → Asking FinishedAttempt
    row_then on j rc v x = (x >>= (λ d. done (taken j rc v d))) >>= on >>= close F h.kept.n a s k r

    pub stages_follow : (m j : ℕ) (rc : Recurrence) (v : Vectors) (c : Counters) (e : ℕ) (x : Held) → j + m ≡ s → 2 ≤ j → e + 2 ≡ k + j
        → rc ≡ carried F s (j - 2) → Intact h v → Counted h e c
        → Follows h a e x (stage_loop F h.kept.n a s m j rc v >>= close F h.kept.n a s k r)
        (going_on c (ask_stage (at h a P.Stage (iteration_at k π ρ r) (staging_at s j rc)) v))
    unfolding stage_loop stage_row evaluate ◌>>=◌ ask_stage pending in_range awaiting finishes replied take_stage at_stage settled counted closes
    stages_follow zero j rc v c e x j≡ 2≤j e≡ rc≡ hv hc =
        asked h a hk hs P.Stage I (staging_at s j rc) v c e _ (a.time ⊕ a.step ⊗ rc.theta_previous) previous_one x
        (row_then (at_last j rc) j rc v)
        hv hc (both hs' (both (le-leb 2 j 2≤j) (le-leb j s (omega arith)))) refl
        refl (λ c. absurd (differ c))
        (λ d hd fin. rw (le-ltb j s (omega arith))
        (candidate_follows j rc v (last j rc v d) c e (made_last j rc v d (omega arith) rc≡)
        (intact_candidate h F a.step s rc (coefficients F s j rc) (taken j rc v d) (whole j rc v d hv hd)) hc (omega arith)))
    stages_follow (suc m) j rc v c e x j≡ 2≤j e≡ rc≡ hv hc =
        asked h a hk hs P.Stage I (staging_at s j rc) v c e _ (a.time ⊕ a.step ⊗ rc.theta_previous) previous_one x
        (row_then (on_from m j rc) j rc v)
        hv hc (both hs' (both (le-leb 2 j 2≤j) (le-leb j s (omega arith)))) refl
        refl (λ c. absurd (differ c))
        (λ d hd fin. rw (lt-ltb j s (omega arith))
        (stages_follow m (j + 1) (next F rc (coefficients F s j rc)) (exchanged (taken j rc v d)) (one_more h c) (suc e)
        (pending_at h a hk hs P.Stage I (staging_at s j rc) v c) (omega arith) (omega arith) (omega arith)
        (carried_next F s j rc 2≤j rc≡) (intact_exchanged h (taken j rc v d) (whole j rc v d hv hd)) (counted_on h hc)))

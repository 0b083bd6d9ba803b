-- The passes of the power iteration, and from the last of them into the stages, or out where the need of stages is refused. So an attempt that is not turned
-- away follows the attempt in one piece.
use mathlib.Core.Path.{◌≡◌, refl, sym, subst}
use mathlib.Core.Bool.{Bool, true, false, cond, ◌||◌}
use mathlib.Core.List.{List}
use Prim.Native.Nat.{ℕ, zero, suc, ◌+◌, ◌-◌, ◌≤◌}
use native.Mathlib.Omega.{arith}
use lib.Dec.{eqb}
use borrow.Author.Tests.{le-leb, eq-eqb, ne_eqb}
use lib.ListN.{length}
use lib.Ieee.{Float, lt}
use Rattle.ieee.specs.Double.{nought}
use Rattle.family.specs.declared.Setting.{Setting}
use Rattle.family.specs.Family.{known}
use Rattle.coefficients.specs.Rows.{recurrence, carried_of}
use Rattle.workspace.specs.declared.Arguments.{Arguments}
use Rattle.workspace.specs.Vectors.{Vectors, unpack, perturbed_state}
use Rattle.workspace.specs.Kernel.{with_direction, perturbation_of, perturbed, turned, radius_of, ended, scaled, first_stage}
use Rattle.driver.specs.declared.Phase.TheVariants as P
use Rattle.driver.specs.declared.Staging.{Staging}
use Rattle.driver.specs.declared.Need.{Need}
use Rattle.driver.specs.declared.Need.TheVariants.{Met, Unmet}
use Rattle.driver.specs.declared.Counters.{Counters}
use Rattle.driver.specs.Calls.{Held, Called, in_phase, at_pass, with_radius, at_stage, ask_pass, ask_stage, stage_need, by_need, begin_stages, take_pass}
use Rattle.driver.specs.Calls.{setting_for}
use Rattle.driver.specs.Calls.{replied, sized, pending, in_range, awaiting, finishes, attempted, going_on, attempt, counted, settled, first_failing}
use Rattle.driver.specs.Calls.{decide, guarded, attempt_tests}
use Rattle.session.specs.Attempt.{closes, Asking, done, ◌>>=◌, evaluate, stages_for, Radius, FinishedAttempt, iterate, spectral_radius}
use Rattle.session.specs.Attempt.{run_recurrence, close, attempt_step}
use Rattle.session.specs.Refusals.{later}
use Rattle.session.specs.Claim.{Allowed, in_one_piece}
use Rattle.session.proofs.Truth.{differ, both}
use Rattle.session.proofs.Signs.{Plus, not_below, perturbation_plus, radius_plus, scaled_plus}
use Rattle.session.proofs.Numbers.{not_nine}
use Rattle.session.proofs.Needs.{Needed, need_holds, two_from}
use Rattle.session.proofs.Lengths.{long_area}
use Rattle.session.proofs.Follows.{Follows}
use Rattle.session.proofs.Asked.{Counted, one_more, counted_on, Intact, intact_direction, intact_perturbed, intact_turned, intact_first, at, pending_at}
use Rattle.session.proofs.Asked.{asked}
use Rattle.session.proofs.Stages.{iteration_at, stages_follow}

module _ (h : Held) (a : Arguments) (hk : known h.kept.family ≡ true) (hs : sized h.kept.n ≡ true) where
  abbrev F : Setting
  F = setting_for h.kept a

  -- ---- from the last pass into the stages

  -- what `attempt_step` does with the need, and with the radius
  abbrev from_need : Need → ℕ → Float → Vectors → Asking FinishedAttempt
  from_need need k r w = stages_for need w >>= λ s. run_recurrence F h.kept.n a s w >>= close F h.kept.n a s k r

  abbrev from_radius : Radius → Asking FinishedAttempt
  from_radius found = let r = scaled a.step found.radius in from_need (stage_need F r) found.passes r found.vectors

  -- after k passes at the scaled radius r
  need_follows : (need : Need) (k : ℕ) (π ρ r : Float) (g : Staging) (v w : Vectors) (c : Counters) (e : ℕ) → stage_need F r ≡ need → lt r nought ≡ false
      → Needed F need → k ≤ 12 → k ≡ suc e → Intact h w → Counted h e c
      → Follows h a k (pending_at h a hk hs P.Pass (iteration_at k π ρ nought) g v c) (from_need need k r w)
      (settled c (by_need need (at h a P.Pass (iteration_at k π ρ nought) g) w r))
  unfolding stages_for run_recurrence ◌>>=◌ by_need settled going_on counted ask_stage with_radius at_stage in_phase Follows
  need_follows (Met s) k π ρ r g v w c e hr hn ok k≤ k≡ hw hc = let 2≤s = two_from F s ok in let c' = recurrence F s in
      (stages_follow h a hk hs s k r π ρ ok hr hn (omega arith) k≤ (s - 2) 2 c'
      (first_stage h.kept.n a.step c'.theta_previous w) (one_more h c) k (pending_at h a hk hs P.Pass (iteration_at k π ρ nought) g v c)
      (omega arith) (omega arith) (omega arith) (unfold carried_of in refl)
      (intact_first h a.step c'.theta_previous w hw) (rw k≡ (counted_on h hc)))
  need_follows (Unmet i) k π ρ r g v w c e hr hn ok k≤ k≡ hw hc = record {
    answer_is = refl;
    number_ends = later (later ok);
    area_is = refl;
    area_stands = λ nine. absurd (not_nine (later ok) nine);
    record_is = refl;
    family_is = refl;
    n_is = refl;
    vectors_long = hw.long;
    evaluations_are = rw k≡ (counted_on h hc).evaluations_are;
    attempts_are = hc.attempts_are;
  }

  begun_follows : (k : ℕ) (π ρ ρ' : Float) (g : Staging) (v w : Vectors) (c : Counters) → Plus ρ' → k + 1 ≤ 12 → Intact h w → Counted h k c
      → Follows h a (suc k) (pending_at h a hk hs P.Pass (iteration_at (k + 1) π ρ nought) g v c)
      (from_radius (record { radius = ρ'; passes = k + 1; vectors = w }))
      (settled c (begin_stages (at h a P.Pass (iteration_at (k + 1) π ρ nought) g) w (scaled a.step ρ')))
  unfolding begin_stages
  begun_follows k π ρ ρ' g v w c hρ k≤ hw hc = let r = scaled a.step ρ' in let one : k + 1 ≡ suc k = omega arith in
      subst (λ (e : ℕ). Follows h a e (pending_at h a hk hs P.Pass (iteration_at (k + 1) π ρ nought) g v c) (from_need (stage_need F r) (k + 1) r w)
      (settled c (by_need (stage_need F r) (at h a P.Pass (iteration_at (k + 1) π ρ nought) g) w r))) one
      (need_follows (stage_need F r) (k + 1) π ρ r g v w c k refl (not_below r (scaled_plus a.step ρ' hρ)) (need_holds F r) k≤ one hw hc)

  -- ---- the passes after k of them, m of them after the next

  module _ (π : Float) (hπ : Plus π) (g : Staging) where
    abbrev turn : Vectors → List Float → Vectors
    turn v d = turned h.kept.n (perturbed h.kept.n π v) d

    abbrev radius_at : Vectors → List Float → Float
    radius_at v d = radius_of π (turn v d)

    -- waiting for the reply to pass k + 1
    abbrev found_at : ℕ → Float → Vectors → Counters → Held
    found_at k ρ v c = pending_at h a hk hs P.Pass (iteration_at (k + 1) π ρ nought) g (perturbed h.kept.n π v) c

    abbrev on_after : ℕ → ℕ → Vectors → List Float → Bool → Asking Radius
    on_after m k v d stop = cond stop (done (record { radius = radius_at v d; passes = k + 1; vectors = turn v d }))
        (iterate F h.kept.n a π m (k + 1) (radius_at v d) (turn v d))

    -- the test of the radius after the reply d to pass k + 1
    abbrev ends_at : ℕ → Float → Vectors → List Float → Bool
    ends_at k ρ v d = ended (k + 1) ρ (radius_at v d)

    -- after that reply, the test being `stop`
    abbrev Onward : ℕ → ℕ → Float → Vectors → Counters → List Float → Bool → Type 0
    Onward m k ρ v c d stop = Follows h a (suc k) (found_at k ρ v c) (on_after m k v d stop >>= from_radius)
        (settled c (cond (stop || eqb (k + 1) 12)
        (begin_stages (at h a P.Pass (iteration_at (k + 1) π ρ nought) g) (turn v d) (scaled a.step (radius_at v d)))
        (ask_pass (at h a P.Pass (iteration_at (k + 1 + 1) π (radius_at v d) nought) g) (turn v d))))

    pass_follows : (m k : ℕ) (ρ : Float) (v : Vectors) (c : Counters) (x : Held) → suc k + m ≡ 12 → Intact h v → Counted h k c
        → ((d : List Float) → length d ≡ h.kept.n → (stop : Bool) → Onward m k ρ v c d stop)
        → Follows h a k x (iterate F h.kept.n a π (suc m) k ρ v >>= from_radius)
        (going_on c (ask_pass (at h a P.Pass (iteration_at (k + 1) π ρ nought) g) v))
    unfolding iterate evaluate ◌>>=◌ ask_pass pending in_range awaiting finishes replied take_pass at_pass closes
    pass_follows m k ρ v c x k≡ hv hc on =
        asked h a hk hs P.Pass (iteration_at (k + 1) π ρ nought) g (perturbed h.kept.n π v) c k _ a.time perturbed_state x
        (λ m'. (m' >>= λ d. on_after m k v d (ends_at k ρ v d)) >>= from_radius)
        (intact_perturbed h π v hv) hc (both (le-leb 1 (k + 1) (omega arith)) (le-leb (k + 1) 12 (omega arith))) refl
        refl (λ c. absurd (differ c))
        (λ d hd fin. on d hd (ends_at k ρ v d))

    intact_turn : (v : Vectors) (d : List Float) → Intact h v → length d ≡ h.kept.n → Intact h (turn v d)
    intact_turn v d hv hd = intact_turned h (perturbed h.kept.n π v) d (intact_perturbed h π v hv) hd

    passes_follow : (m k : ℕ) (ρ : Float) (v : Vectors) (c : Counters) (x : Held) → suc k + m ≡ 12 → Intact h v → Counted h k c
        → Follows h a k x (iterate F h.kept.n a π (suc m) k ρ v >>= from_radius)
        (going_on c (ask_pass (at h a P.Pass (iteration_at (k + 1) π ρ nought) g) v))
    unfolding iterate ◌>>=◌ settled ask_pass counted
    passes_follow zero k ρ v c x k≡ hv hc = pass_follows zero k ρ v c x k≡ hv hc go
      where
        begun : (d : List Float) → length d ≡ h.kept.n → Onward zero k ρ v c d true
        begun d hd = begun_follows k π ρ (radius_at v d) g (perturbed h.kept.n π v) (turn v d) c (radius_plus π (turn v d) hπ) (omega arith)
            (intact_turn v d hv hd) hc

        go : (d : List Float) → length d ≡ h.kept.n → (stop : Bool) → Onward zero k ρ v c d stop
        go d hd true = begun d hd
        go d hd false = rw (eq-eqb (k + 1) 12 (omega arith)) (begun d hd)
    passes_follow (suc m) k ρ v c x k≡ hv hc =
        pass_follows (suc m) k ρ v c x k≡ hv hc
        (go (λ d hd. passes_follow m (k + 1) (radius_at v d) (turn v d) (one_more h c) (found_at k ρ v c) (omega arith) (intact_turn v d hv hd)
        (let q = counted_on h hc in record { evaluations_are = (let e = q.evaluations_are in omega arith); attempts_are = q.attempts_are })))
      where
        go : ((d : List Float) → length d ≡ h.kept.n
            → Follows h a (k + 1) (found_at k ρ v c) (iterate F h.kept.n a π (suc m) (k + 1) (radius_at v d) (turn v d) >>= from_radius)
            (going_on (one_more h c) (ask_pass (at h a P.Pass (iteration_at (k + 1 + 1) π (radius_at v d) nought) g) (turn v d))))
            → (d : List Float) → length d ≡ h.kept.n → (stop : Bool) → Onward (suc m) k ρ v c d stop
        go on d hd true = begun_follows k π ρ (radius_at v d) g (perturbed h.kept.n π v) (turn v d) c (radius_plus π (turn v d) hπ) (omega arith)
            (intact_turn v d hv hd) hc
        go on d hd false = let one : k + 1 ≡ suc k = omega arith in
            rw (ne_eqb (k + 1) 12 (omega arith))
            (subst (λ (e : ℕ). Follows h a e (found_at k ρ v c) (iterate F h.kept.n a π (suc m) (k + 1) (radius_at v d) (turn v d) >>= from_radius)
            (going_on (one_more h c) (ask_pass (at h a P.Pass (iteration_at (k + 1 + 1) π (radius_at v d) nought) g) (turn v d)))) one (on d hd))

-- ---- the attempt

pub attempt_is : (h : Held) (a : Arguments) → Allowed h a → attempt h a ≡ going_on h.counters (attempted h a)
unfolding attempt attempt_tests guarded decide first_failing
attempt_is h a p = rw (p.family_known, p.n_sized, p.area_whole, p.phase_allows, p.times_good, p.tolerances_good)

pub attempt_follows : (h : Held) (a : Arguments) → Allowed h a → Follows h a 0 h (in_one_piece h a) (attempt h a)
unfolding attempted at_pass attempt_step spectral_radius
attempt_follows h a p =
    let v = unpack h.kept.n h.area in
    subst (λ (x : Called). Follows h a 0 h (in_one_piece h a) x) (sym (attempt_is h a p))
    (passes_follow h a p.family_known p.n_sized (perturbation_of v) (perturbation_plus v) h.kept.staging _ 0 nought (with_direction h.kept.n v)
    h.counters h refl
    (intact_direction h v
    (record { long = long_area h.kept.family h.kept.n h.area p.area_whole; state_is = refl; first_is = refl; older_is = refl }))
    (record { evaluations_are = omega arith; attempts_are = refl }))

-- What an attempt asks for and how it ends depends only on the kept state, its derivative, the eigenvector and, with a history, the older state: how it ends
-- is the finished attempt with all its vectors (without a history, but for the older state), or the number, and with 10 ten of the vectors, with 11 five.
-- ⊕ ⊗ are operations on doubles: they round.
use mathlib.Core.Path.{◌≡◌, refl, sym, ap, subst}
use mathlib.Core.Bool.{Bool, true, false, cond}
use mathlib.Core.List.{List, []}
use Prim.Native.Nat.{ℕ, zero, suc, ◌+◌, ◌-◌}
use lib.Dec.{eqb}
use borrow.Author.Tests.{ne_eqb}
use lib.Ieee.{Float}
use Rattle.ieee.specs.Double.{◌⊕◌, ◌⊗◌, nought}
use Rattle.family.specs.declared.Setting.{Setting}
use Rattle.family.specs.Family.{facts_of, kind}
use Rattle.coefficients.specs.declared.Recurrence.{Recurrence}
use Rattle.coefficients.specs.Rows.{recurrence, coefficients, next}
use Rattle.workspace.specs.declared.Arguments.{Arguments}
use Rattle.workspace.specs.declared.Vector.{Vector}
use Rattle.workspace.specs.Vectors.{Vectors, all_finite, previous_one}
use Rattle.workspace.specs.declared.Vector.TheVariants.{FirstDerivative, LastDerivative, Derivative, PreviousTwo, PreviousOne, NextStage, Eigenvector, PerturbedState, PerturbedDerivative, State, Candidate, OlderState}
use Rattle.workspace.specs.Vectors.{eigenvector, perturbed_state, state, candidate}
use Rattle.workspace.specs.Kernel.{with_direction, perturbation_of, perturbed, turned, radius_of, ended, scaled, first_stage, exchanged}
use Rattle.workspace.specs.Kernel.{with_last}
use Rattle.driver.specs.declared.Need.{Need}
use Rattle.driver.specs.declared.Need.TheVariants.{Met, Unmet}
use Rattle.driver.specs.Calls.{stage_need}
use Rattle.session.specs.Attempt.{for_candidate, Asking, done, stopped, ◌>>=◌, evaluate, stages_for, Radius, FinishedAttempt, iterate, spectral_radius}
use Rattle.session.specs.Attempt.{stage_row, stage_loop, run_recurrence, finished_attempt, close, attempt_step, evaluated, end, fixed_at}
use Rattle.session.specs.Alike.{Alike, SameEnd, SameVectors, SameStart, SameAttempt}
use Rattle.session.proofs.Truth.{differ}
use Rattle.session.proofs.Numbers.{not_ten}
use Rattle.session.proofs.Needs.{Needed, need_holds}
use Rattle.session.proofs.Alikes.{bind_alike, evaluate_alike, same_evaluated, same_ending}
use Rattle.session.proofs.Agree.{Agree, ◌or◌, three, five, seven, nine, ten, direction_agrees, perturbed_agrees, turned_agrees, first_agrees}
use Rattle.session.proofs.Agree.{row_agrees, exchanged_agrees, candidate_agrees, ten_same, five_same, last_same, norm_same, five_three, nine_seven}

start_agrees : (history : Bool) (v w : Vectors) → SameStart history v w → Agree (three history) v w
start_agrees history v w p State e = p.state_same
start_agrees history v w p FirstDerivative e = p.first_same
start_agrees history v w p Eigenvector e = p.eigenvector_same
start_agrees history v w p LastDerivative e = absurd (differ e)
start_agrees history v w p Derivative e = absurd (differ e)
start_agrees history v w p PreviousTwo e = absurd (differ e)
start_agrees history v w p PreviousOne e = absurd (differ e)
start_agrees history v w p NextStage e = absurd (differ e)
start_agrees history v w p PerturbedState e = absurd (differ e)
start_agrees history v w p PerturbedDerivative e = absurd (differ e)
start_agrees history v w p Candidate e = absurd (differ e)
start_agrees history v w p OlderState e = p.older_same e

module _ (history : Bool) (under : Setting) (own : under.history ≡ history) (n : ℕ) (a : Arguments) where
  abbrev Radii : Radius → Radius → Type 0
  Radii x y = (x.radius ≡ y.radius) × (x.passes ≡ y.passes) × Agree (five history) x.vectors y.vectors

  abbrev from_turn : Float → ℕ → ℕ → Float → Float → Vectors → Asking Radius
  from_turn π m k ρ ρ' u = cond (ended (k + 1) ρ ρ') (done (record { radius = ρ'; passes = k + 1; vectors = u })) (iterate under n a π m (k + 1) ρ' u)

  pass_alike : (π : Float) (m k : ℕ) (ρ : Float) (v w : Vectors) → Agree (three history) v w
      → ((ρ' : Float) (v w : Vectors) → Agree (five history) v w → Alike Radii (iterate under n a π m (k + 1) ρ' v) (iterate under n a π m (k + 1) ρ' w))
      → Alike Radii (iterate under n a π (suc m) k ρ v) (iterate under n a π (suc m) k ρ w)
  unfolding iterate radius_of
  pass_alike π m k ρ v w p on = evaluate_alike Radii _ _ _ (perturbed n π v) (perturbed n π w) a.time (perturbed n π v perturbed_state)
      (perturbed n π w perturbed_state) (q perturbed_state refl)
      (λ d. turn (turned n (perturbed n π v) d) (turned n (perturbed n π w) d) (turned_agrees history n d (perturbed n π v) (perturbed n π w) q))
    where
      q : Agree (three history or perturbed_state) (perturbed n π v) (perturbed n π w)
      q = perturbed_agrees history n π v w p

      go : (v w : Vectors) → Agree (five history) v w → (ρ' : Float) (t : Bool) → Alike Radii
          (cond t (done (record { radius = ρ'; passes = k + 1; vectors = v })) (iterate under n a π m (k + 1) ρ' v))
          (cond t (done (record { radius = ρ'; passes = k + 1; vectors = w })) (iterate under n a π m (k + 1) ρ' w))
      go v w p ρ' true = (refl, refl, p)
      go v w p ρ' false = on ρ' v w p

      turn : (v w : Vectors) → Agree (five history) v w → Alike Radii (from_turn π m k ρ (radius_of π v) v) (from_turn π m k ρ (radius_of π w) w)
      turn v w p = subst (λ (ρ' : Float). Alike Radii (from_turn π m k ρ ρ' v) (from_turn π m k ρ (radius_of π w) w))
          (ap (λ (x : List Float). radius_of π (λ (b : Vector). x)) (sym (p eigenvector refl))) (go v w p (radius_of π w) (ended (k + 1) ρ (radius_of π w)))

  passes_alike : (π : Float) (m k : ℕ) (ρ : Float) (v w : Vectors) → Agree (five history) v w
      → Alike Radii (iterate under n a π m k ρ v) (iterate under n a π m k ρ w)
  unfolding iterate
  passes_alike π zero k ρ v w p = (refl, refl, p)
  passes_alike π (suc m) k ρ v w p = pass_alike π m k ρ v w (five_three history v w p) (passes_alike π m (k + 1))

  radius_alike : (v w : Vectors) → Agree (three history) v w → Alike Radii (spectral_radius under n a v) (spectral_radius under n a w)
  unfolding spectral_radius perturbation_of
  radius_alike v w p =
      subst (λ (π : Float). Alike Radii (iterate under n a π 12 0 nought (with_direction n v))
      (iterate under n a (perturbation_of w) 12 0 nought (with_direction n w)))
      (ap (λ (x : List Float). perturbation_of (λ (b : Vector). x)) (sym (p state refl)))
      (pass_alike (perturbation_of w) 11 0 nought (with_direction n v) (with_direction n w) (direction_agrees history n v w p)
      (passes_alike (perturbation_of w) 11 1))

  -- a stage's row
  row_alike : (s j : ℕ) (c : Recurrence) (v w : Vectors) → Agree (seven history) v w
      → Alike (Agree (nine history)) (stage_row under n a s j c v) (stage_row under n a s j c w)
  unfolding stage_row
  row_alike s j c v w p =
      evaluate_alike (Agree (nine history)) _ _ _ v w (a.time ⊕ a.step ⊗ c.theta_previous) (v previous_one) (w previous_one) (p previous_one refl)
      (λ d. row_agrees history n (facts_of (kind under)).row a.step (coefficients under s j c) d v w p)

  -- the stages from j on
  rows_alike : (s k j : ℕ) (c : Recurrence) (v w : Vectors) → Agree (seven history) v w
      → Alike (Agree (ten history)) (stage_loop under n a s k j c v) (stage_loop under n a s k j c w)
  unfolding stage_loop
  rows_alike s zero j c v w p =
      bind_alike (Agree (nine history)) (Agree (ten history)) _ _ (stage_row under n a s j c v) (stage_row under n a s j c w) (row_alike s j c v w p)
      (λ v w q. candidate_agrees history n under a.step s c (coefficients under s j c) v w own q)
  rows_alike s (suc k) j c v w p =
      bind_alike (Agree (nine history)) (Agree (ten history)) _ _ (stage_row under n a s j c v) (stage_row under n a s j c w) (row_alike s j c v w p)
      (λ v w q. rows_alike s k (j + 1) (next under c (coefficients under s j c)) (exchanged v) (exchanged w)
      (nine_seven history (exchanged v) (exchanged w) (exchanged_agrees history n v w q)))

  recurrence_alike : (s : ℕ) (v w : Vectors) → Agree (five history) v w
      → Alike (Agree (ten history)) (run_recurrence under n a s v) (run_recurrence under n a s w)
  unfolding run_recurrence
  recurrence_alike s v w p =
      let c = recurrence under s in
      let h = a.step in
      rows_alike s (s - 2) 2 c (first_stage n h c.theta_previous v) (first_stage n h c.theta_previous w)
      (first_agrees history n h c.theta_previous v w p)

  close_alike : (s k : ℕ) (r : Float) (v w : Vectors) → Agree (ten history) v w
      → Alike (SameAttempt history) (close under n a s k r v) (close under n a s k r w)
  unfolding close fixed_at finished_attempt
  close_alike s k r v w q = subst (λ (t : Bool). Alike (SameAttempt history) (closed t v) (close under n a s k r w))
      (ap all_finite (sym (q candidate refl))) (go (all_finite (w candidate)))
    where
      closed : Bool → Vectors → Asking FinishedAttempt
      closed t u = cond t (evaluate for_candidate u (a.time ⊕ a.step) (u candidate)
          >>= λ d. done (finished_attempt under n a s k r (with_last under n a u d))) (stopped 10 u)

      finished : (x y : Vectors) → SameVectors history x y → SameAttempt history (finished_attempt under n a s k r x) (finished_attempt under n a s k r y)
      finished x y e = record {
        norm_same = norm_same history n under s a x y e;
        stages_same = refl;
        passes_same = refl;
        radius_same = refl;
        vectors_same = e;
      }

      go : (t : Bool) → Alike (SameAttempt history) (closed t v) (closed t w)
      go true = evaluate_alike (SameAttempt history) _ _ _ v w (a.time ⊕ a.step) (v candidate) (w candidate) (q candidate refl)
          (λ d. finished (with_last under n a v d) (with_last under n a w d) (last_same history n under a d v w q))
      go false = record { number_same = refl; vectors_same = ten_same history n v w q }

  from_need : Need → ℕ → Float → Vectors → Asking FinishedAttempt
  from_need need k r w = stages_for need w >>= λ s. run_recurrence under n a s w >>= close under n a s k r

  need_alike : (need : Need) (k : ℕ) (r : Float) (v w : Vectors) → Needed under need → Agree (five history) v w
      → Alike (SameAttempt history) (from_need need k r v) (from_need need k r w)
  unfolding from_need stages_for ◌>>=◌ fixed_at
  need_alike (Met s) k r v w ok p = bind_alike (Agree (ten history)) (SameAttempt history) (close under n a s k r) (close under n a s k r)
      (run_recurrence under n a s v) (run_recurrence under n a s w) (recurrence_alike s v w p) (λ v w. close_alike s k r v w)
  need_alike (Unmet i) k r v w ok p = record {
    number_same = refl;
    vectors_same = rw (ne_eqb i 10 (not_ten ok)) (ap (λ (l : List (List Float)). cond (eqb i 11) l []) (five_same history n v w p));
  }

  from_radius : Radius → Asking FinishedAttempt
  from_radius x = let r = scaled a.step x.radius in from_need (stage_need under r) x.passes r x.vectors

  from_alike : (x y : Radius) → Radii x y → Alike (SameAttempt history) (from_radius x) (from_radius y)
  unfolding from_radius
  from_alike x y h = let r = scaled a.step y.radius in
      let go : Alike (SameAttempt history) (from_need (stage_need under r) y.passes r x.vectors) (from_radius y) =
      need_alike (stage_need under r) y.passes r x.vectors y.vectors (need_holds under r) h.2 in
      rw (h.0, h.1) go

  -- Alike: where they are done, with the same finished attempt, every vector of it that is compared; where they stop with 10, with the same vectors but for
  -- the last derivative and the older state.
  pub attempt_alike : (v w : Vectors) → SameStart history v w → Alike (SameAttempt history) (attempt_step under n a v) (attempt_step under n a w)
  unfolding attempt_step from_radius from_need
  attempt_alike v w p = bind_alike Radii (SameAttempt history) from_radius from_radius (spectral_radius under n a v) (spectral_radius under n a w)
      (radius_alike v w (start_agrees history v w p)) from_alike

-- with a history, the older state is among what it depends on
pub depends : (under : Setting) (n : ℕ) (a : Arguments) (v w : Vectors) → SameStart under.history v w → (d : ℕ → List Float)
    → (evaluated (attempt_step under n a v) d 0 ≡ evaluated (attempt_step under n a w) d 0)
    × SameEnd (SameAttempt under.history) (end (attempt_step under n a v) d 0) (end (attempt_step under n a w) d 0)
depends under n a v w p d =
    let alike = attempt_alike under.history under refl n a v w p in
    (same_evaluated (SameAttempt under.history) _ _ d 0 alike, same_ending (SameAttempt under.history) _ _ d 0 alike)

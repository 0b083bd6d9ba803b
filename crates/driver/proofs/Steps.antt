-- Steps in code are the steps of the definition: how one is put together from its parts, and what a call leaves of the area.
-- ⊕ is an operation on doubles: it rounds.
use mathlib.Core.Path.{◌≡◌, refl, sym, ap, subst, ◌∙◌}
use mathlib.Core.Bool.{Bool, true, false, cond, ◌||◌, false≢true}
use mathlib.Core.List.{List}
use Prim.Native.Nat.{ℕ, ◌+◌, ◌*◌, ◌≤◌, ◌<◌}
use borrow.Author.Tests.{lt-ltb, le-ltb}
use lib.Dec.{eqb}
use lib.ListN.{length}
use lib.Ieee.{Float}
use Rattle.ieee.specs.Double.{◌⊕◌, nought}
use Rattle.family.specs.declared.Setting.{Setting}
use Rattle.family.specs.declared.RowForm.{RowForm}
use Rattle.family.specs.declared.RowForm.TheVariants.{OrthogonalRow}
use Rattle.family.specs.declared.Family.{Family}
use Rattle.family.specs.Family.{facts_of, kind}
use Rattle.coefficients.specs.declared.Coefficients.{Coefficients}
use Rattle.coefficients.specs.declared.Recurrence.{Recurrence}
use Rattle.coefficients.specs.Rows.{recurrence, coefficients, next, next_of, next_polynomials}
use Rattle.workspace.specs.declared.Arguments.{Arguments}
use Rattle.workspace.specs.Vectors.{Vectors, unpack, vector_count, all_finite, candidate}
use Rattle.workspace.specs.Kernel.{with_direction, perturbation_of, turned, radius_of, ended, scaled, first_stage, with_row, exchanged, with_candidate}
use Rattle.workspace.proofs.Areas.{packed}
use Rattle.driver.specs.declared.Phase.{Phase}
use Rattle.driver.specs.declared.Phase.TheVariants as P
use Rattle.driver.specs.declared.Record.{Record}
use Rattle.driver.specs.declared.Next.{Next}
use Rattle.driver.specs.declared.Need.TheVariants.{Met}
use Rattle.driver.specs.Calls.{Step, going_on, with_radius, at_pass, at_stage, ask_pass, ask_stage, by_need, begin_stages, take_first, take_pass}
use Rattle.driver.specs.Calls.{ask_candidate, take_stage, replied, setting_of}
use Rattle.driver.specs.declared.Staging.{Staging}
use Rattle.driver.specs.declared.Staged.TheVariants.{On, OnByTheta, Ended, NotFinite}
use Rattle.driver.specs.Promises.{Keeps, Steps, in_stages, outcome_of}
use Rattle.driver.proofs.Ladder.{same_answer}

-- what a call leaves, from its step
pub keeps : (f : Family) (n : ℕ) {s : Step} {x : Next} (left : List Float) → length left ≡ vector_count f * n → Steps s x (unpack n left)
    → Keeps (λ c. going_on c s) x left
unfolding going_on
keeps f n left h m = λ c. record { answer = m.answer; kept = m.kept; counters = refl; area = packed f n left h m.vectors }

-- the same step, said otherwise
pub as_step : {s t : Step} {x : Next} {v : Vectors} → s ≡ t → Steps s x v → Steps t x v
as_step {x = x} {v} e m = subst (λ (s : Step). Steps s x v) e m

-- of what is handed back, said otherwise
pub handed_on : {s : Step} {x y : Next} {v : Vectors} → x ≡ y → Steps s y v → Steps s x v
handed_on {s} {v = v} e m = subst (λ (x : Next). Steps s x v) (sym e) m

-- the code measures the area by the record's own n
pub measured : (r : Record) {n : ℕ} (area left : List Float) {x : Next} → r.n ≡ n → Steps (ask_pass r (unpack r.n area)) x (unpack r.n left)
    → Steps (ask_pass r (unpack n area)) x (unpack n left)
measured r area left {x} e m = subst (λ (k : ℕ). Steps (ask_pass r (unpack k area)) x (unpack k left)) e m

-- the power iteration begins
pub attempts : (r : Record) (v : Vectors) (a : Arguments) {perturbation : Float} {made : Record} {x : Next} {w u : Vectors}
    → perturbation ≡ perturbation_of v → made ≡ at_pass a 1 perturbation nought r → w ≡ with_direction r.n v → Steps (ask_pass made w) x u
    → Steps (ask_pass (at_pass a 1 (perturbation_of v) nought r) (with_direction r.n v)) x u
attempts r v a {w = w} e m p t =
    as_step
    (ap (λ (y : Record). ask_pass y w) (m ∙ ap (λ (y : Float). at_pass a 1 y nought r) e) ∙ ap (ask_pass (at_pass a 1 (perturbation_of v) nought r)) p)
    t

-- the stages begin
pub begun : (r : Record) (v : Vectors) (radius : Float) (s : ℕ) {c : Recurrence} {known made : Record} {x : Next} {w : Vectors}
    → c ≡ recurrence (setting_of r) s → known ≡ with_radius radius r → made ≡ at_stage s 2 c known
    → w ≡ first_stage r.n r.arguments.step c.theta_previous v → Steps (ask_stage made w) x w → Steps (by_need (Met s) r v radius) x w
unfolding by_need
begun r v radius s {c} {w = w} e k m p t =
    let c₀ = recurrence (setting_of r) s in
    as_step
    (ap (λ (y : Record). ask_stage y w) (m ∙ ap (at_stage s 2 c) k ∙ ap (λ (y : Recurrence). at_stage s 2 y (with_radius radius r)) e)
    ∙ ap (ask_stage (at_stage s 2 c₀ (with_radius radius r))) (p ∙ ap (λ (y : Recurrence). first_stage r.n r.arguments.step y.theta_previous v) e))
    t

module _ (r : Record) (v : Vectors) (d : List Float) where
  abbrev perturbation : Float
  perturbation = r.iteration.perturbation

  -- whether the pass is the last
  abbrev is_last : Float → Bool
  is_last radius = ended r.iteration.pass r.iteration.previous_radius radius || eqb r.iteration.pass 12

  pass_is : (w : Vectors) (radius : Float) → w ≡ turned r.n v d → radius ≡ radius_of r.iteration.perturbation w
      → cond (is_last radius) (begin_stages r w (scaled r.arguments.step radius))
      (ask_pass (at_pass r.arguments (r.iteration.pass + 1) perturbation radius r) w)
      ≡ take_pass r v d
  unfolding take_pass
  pass_is w radius e f = let on : Float → Vectors → Step =
      λ z u. cond (is_last z) (begin_stages r u (scaled r.arguments.step z))
      (ask_pass (at_pass r.arguments (r.iteration.pass + 1) perturbation z r) u) in
      ap (λ (z : Float). on z w) f ∙ ap (λ (u : Vectors). on (radius_of perturbation u) u) e

  -- after the last pass
  pub iterated : (w : Vectors) (radius : Float) {b : Bool} {big : Float} {x : Next} {u : Vectors} → w ≡ turned r.n v d
      → radius ≡ radius_of r.iteration.perturbation w
      → b ≡ (ended r.iteration.pass r.iteration.previous_radius radius || eqb r.iteration.pass 12) → b ≡ true
      → big ≡ scaled r.arguments.step radius → Steps (begin_stages r w big) x u → Steps (take_pass r v d) x u
  iterated w radius e f b t g m =
      as_step
      (ap (begin_stages r w) g
      ∙ sym (ap (λ (z : Bool). cond z (begin_stages r w (scaled r.arguments.step radius))
      (ask_pass (at_pass r.arguments (r.iteration.pass + 1) perturbation radius r) w)) (sym b ∙ t))
      ∙ pass_is w radius e f)
      m

  -- before it
  pub iterates : (w : Vectors) (radius : Float) {b : Bool} {on : Record} {x : Next} {u : Vectors} → w ≡ turned r.n v d
      → radius ≡ radius_of r.iteration.perturbation w
      → b ≡ (ended r.iteration.pass r.iteration.previous_radius radius || eqb r.iteration.pass 12) → b ≡ false
      → on ≡ at_pass r.arguments (r.iteration.pass + 1) r.iteration.perturbation radius r → Steps (ask_pass on w) x u → Steps (take_pass r v d) x u
  iterates w radius e f b t g m =
      as_step
      (ap (λ (y : Record). ask_pass y w) g
      ∙ sym (ap (λ (z : Bool). cond z (begin_stages r w (scaled r.arguments.step radius))
      (ask_pass (at_pass r.arguments (r.iteration.pass + 1) perturbation radius r) w)) (sym b ∙ t))
      ∙ pass_is w radius e f)
      m

  abbrev row_of : Coefficients
  row_of = coefficients (setting_of r) r.staging.stages r.staging.stage r.staging.recurrence

  abbrev rowed : Setting → Coefficients → Vectors
  rowed m c = with_row m r.n r.arguments.step c v d

  abbrev kept : Setting → Coefficients → Vectors → Vectors
  kept m c u = with_candidate m r.n r.arguments.step r.staging.stages r.staging.recurrence c u

  abbrev staged : Bool → Step
  staged b =
      cond b
      (ask_stage (at_stage r.staging.stages (r.staging.stage + 1) (next (setting_of r) r.staging.recurrence row_of) r)
      (exchanged (rowed (setting_of r) row_of)))
      (ask_candidate r (kept (setting_of r) row_of (rowed (setting_of r) row_of)))

  -- below stage s
  pub stages_on : {m : Setting} {c : Coefficients} {on : Recurrence} {made : Record} {x : Next} {w : Vectors} → m ≡ setting_of r
      → c ≡ coefficients m r.staging.stages r.staging.stage r.staging.recurrence → r.staging.stage < r.staging.stages
      → w ≡ exchanged (with_row m r.n r.arguments.step c v d) → on ≡ next m r.staging.recurrence c
      → made ≡ at_stage r.staging.stages (r.staging.stage + 1) on r → Steps (ask_stage made w) x w → Steps (take_stage r v d) x w
  unfolding take_stage
  stages_on {m} {c} {w = w} b e h p q k t =
      let s = r.staging.stages in
      let j = r.staging.stage in
      let f = r.staging.recurrence in
      let row = e ∙ ap (λ (y : Setting). coefficients y s j f) b in
      let vectors = p ∙ ap (λ (y : Setting). exchanged (rowed y c)) b ∙ ap (λ (y : Coefficients). exchanged (rowed (setting_of r) y)) row in
      let carried = q ∙ ap (λ (y : Setting). next y f c) b ∙ ap (next (setting_of r) f) row in
      as_step
      (ap (λ (y : Record). ask_stage y w) (k ∙ ap (λ (y : Recurrence). at_stage s (j + 1) y r) carried)
      ∙ ap (ask_stage (at_stage s (j + 1) (next (setting_of r) f row_of) r)) vectors
      ∙ sym (ap staged (lt-ltb j s h)))
      t

  -- at stage s
  pub stages_end : {m : Setting} {c : Coefficients} {x : Next} {u w : Vectors} → m ≡ setting_of r
      → c ≡ coefficients m r.staging.stages r.staging.stage r.staging.recurrence → r.staging.stages ≤ r.staging.stage
      → u ≡ with_row m r.n r.arguments.step c v d
      → w ≡ with_candidate m r.n r.arguments.step r.staging.stages r.staging.recurrence c u → Steps (ask_candidate r w) x w
      → Steps (take_stage r v d) x w
  unfolding take_stage
  stages_end {m} {c} b e h p q t =
      let row = e ∙ ap (λ (y : Setting). coefficients y r.staging.stages r.staging.stage r.staging.recurrence) b in
      as_step
      (ap (ask_candidate r)
      (q ∙ ap (kept m c) p ∙ ap (λ (y : Setting). kept y c (rowed y c)) b ∙ ap (λ (y : Coefficients). kept (setting_of r) y (rowed (setting_of r) y)) row)
      ∙ sym (ap staged (le-ltb r.staging.stage r.staging.stages h)))
      t

-- where the rows need no polynomials, of what the stages carry on theta alone moves
pub by_theta : (t : Float) (g : Staging) (m : Setting) (r : Record) (row : Coefficients) → (facts_of (kind m)).row ≡ OrthogonalRow
    → g.stages ≡ r.staging.stages → g.recurrence ≡ next m r.staging.recurrence row
    → outcome_of (OnByTheta t g.stage g.recurrence.theta_previous) r ≡ outcome_of (On t g) r
unfolding outcome_of next_of next_polynomials
by_theta t g m r row orthogonal same e =
    let s = r.staging.stages in
    let c = r.staging.recurrence in
    let moving : Float → Recurrence = λ theta. record { theta_previous = theta; theta_previous_two = c.theta_previous; polynomials = c.polynomials } in
    let in_form : RowForm → Recurrence = λ form. record {
      theta_previous = row.theta;
      theta_previous_two = c.theta_previous;
      polynomials = next_polynomials form c.polynomials;
    } in
    let on = ap (λ (y : Recurrence). moving y.theta_previous) e ∙ sym (ap in_form orthogonal) ∙ sym e in
    ap (λ (y : Recurrence). outcome_of (On t (record { stages = s; stage = g.stage; recurrence = y })) r) on
    ∙ ap (λ (k : ℕ). outcome_of (On t (record { stages = k; stage = g.stage; recurrence = g.recurrence })) r) (sym same)

-- after it: the candidate, by its test
pub candidate_asked : (r : Record) (v : Vectors) {b : Bool} → b ≡ all_finite (v candidate) → b ≡ true
    → Steps (ask_candidate r v) (outcome_of (Ended (r.arguments.time ⊕ r.arguments.step)) r) v
unfolding ask_candidate outcome_of
candidate_asked r v e t = rw (sym e ∙ t) (record { answer = same_answer refl; kept = refl; vectors = refl })

pub candidate_refused : (r : Record) (v : Vectors) {b : Bool} → b ≡ all_finite (v candidate) → b ≡ false → Steps (ask_candidate r v) (outcome_of NotFinite r) v
unfolding ask_candidate outcome_of
candidate_refused r v e t = rw (sym e ∙ t) (record { answer = same_answer refl; kept = refl; vectors = refl })

-- the phases that a reply outside the stages takes alike
pub alike : (p : Phase) → in_stages p ≡ false → (p ≡ P.Pass → ⊥) → (p ≡ P.Candidate → ⊥) → (p ≡ P.Callback → ⊥) → take_first ≡ replied p
unfolding replied in_stages
alike P.Empty n f g h = refl
alike P.First n f g h = refl
alike P.Ready n f g h = refl
alike P.Pass n f g h = absurd (f refl)
alike P.Stage n f g h = absurd (false≢true (sym n))
alike P.Candidate n f g h = absurd (g refl)
alike P.Finished n f g h = refl
alike P.Callback n f g h = absurd (h refl)

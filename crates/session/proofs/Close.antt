-- Demand 3 of the stages that are run, families 2 to 5: the row of every stage that awaits a reply is close to the papers' fractions, and so are all rows of a
-- finished attempt, whose s has the multiplier of `Stable`. From the tests of a pending stage, and from the permitted s of a finished attempt.
use mathlib.Core.Path.{◌≡◌, sym, subst}
use mathlib.Core.Bool.{true, ◌&&◌}
use Prim.Native.Nat.{ℕ, ◌≤◌}
use lib.Dec.{T, leb}
use borrow.Author.Tests.{leb-true}
use Rattle.ieee.specs.Close.{Close}
use Rattle.family.specs.declared.Family.{Family}
use Rattle.family.specs.Family.{Orthogonal, made_of, family_of, permitted}
use Rattle.coefficients.specs.declared.Recurrence.{Recurrence}
use Rattle.coefficients.specs.Paper as Paper
use Rattle.coefficients.specs.Rows.{recurrence, coefficients, coefficients_of, recurrence_of}
use Rattle.coefficients.specs.Closeness.{CloseRow}
use Rattle.coefficients.specs.Multiplier.{Stable}
use Rattle.coefficients.proofs.CloseRows.{close_row, close_first}
use Rattle.coefficients.proofs.Stable.{stable}
use Rattle.workspace.specs.declared.Arguments.{Arguments}
use Rattle.driver.specs.declared.Phase.{Phase}
use Rattle.driver.specs.declared.Phase.TheVariants as P
use Rattle.driver.specs.declared.Record.{Record}
use Rattle.driver.specs.Calls.{Held, Called, pending, good_stage, in_range, awaiting, setting_of, setting_for}
use Rattle.session.specs.Attempt.{FinishedAttempt}
use Rattle.session.specs.Claim.{Finishes}
use Rattle.ieee.proofs.Logic.{yes, and_left, and_right}

-- ---- a reply to a stage

in_stage : (r : Record) → awaiting r ≡ true → r.phase ≡ P.Stage → good_stage (setting_of r) r.staging.stages r.staging.stage ≡ true
unfolding awaiting pending in_range
in_stage r e p = subst (λ (φ : Phase). pending φ && in_range φ r ≡ true) p e

-- the row that `take_stage` takes
pub stage_close : (r : Record) → awaiting r ≡ true → r.phase ≡ P.Stage → (g : Orthogonal) → family_of r.family ≡ made_of g
    → CloseRow g r.staging.stages r.staging.stage (coefficients (setting_of r) r.staging.stages r.staging.stage r.staging.recurrence)
stage_close r e p g is =
    let s = r.staging.stages in
    let j = r.staging.stage in
    let good = in_stage r e p in
    let range = and_right (permitted (family_of r.family) s) (leb 2 j && leb j s) good in
    subst (λ (f : Family). CloseRow g s j (coefficients_of f s j r.staging.recurrence)) (sym is)
    (close_row g s j (subst (λ (f : Family). T (permitted f s)) is (yes (and_left (permitted (family_of r.family) s) (leb 2 j && leb j s) good)))
    (leb-true 2 j (and_left (leb 2 j) (leb j s) range)) (leb-true j s (and_right (leb 2 j) (leb j s) range)) r.staging.recurrence)

-- ---- a finished attempt

module _ (h : Held) (a : Arguments) (o : FinishedAttempt) (replies : ℕ) (x : Called) (f : Finishes h a o replies x) (g : Orthogonal)
    (is : family_of h.kept.family ≡ made_of g) where
  may_run : T (permitted (made_of g) o.stages)
  may_run = subst (λ (f : Family). T (permitted f o.stages)) is (yes f.stages_permitted)

  -- what `by_need` hands to `first_stage`
  pub first_close : Close 48 (recurrence (setting_for h.kept a) o.stages).theta_previous (Paper.first_mu_tilde g o.stages)
  first_close = let q = (setting_for h.kept a).quotient in
      subst (λ (f : Family). Close 48 (recurrence_of f q o.stages).theta_previous (Paper.first_mu_tilde g o.stages)) (sym is)
      (close_first g q o.stages may_run)

  pub rows_close : (j : ℕ) → 2 ≤ j → j ≤ o.stages → (c : Recurrence) → CloseRow g o.stages j (coefficients_of (made_of g) o.stages j c)
  rows_close j from to c = close_row g o.stages j may_run from to c

  pub finished_stable : Stable g o.stages
  finished_stable = stable g o.stages may_run

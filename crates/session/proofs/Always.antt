-- Every attempt that is not turned away runs as the attempt in one piece, or is turned away with 8 from the first reply on for which the counters have no room.
use mathlib.Core.Path.{◌≡◌, refl, sym, ◌∙◌}
use mathlib.Core.Bool.{Bool, true, false}
use mathlib.Core.List.{List}
use mathlib.Core.Logic.{◌⊎◌, inl, inr}
use Prim.Native.Nat.{ℕ, zero, suc, ◌+◌, ◌-◌, ◌≤◌, ◌<◌, ◌^◌}
use native.Mathlib.Omega.{arith}
use lib.Dec.{ltb}
use borrow.Author.Tests.{ltb-true, ltb-false}
use lib.ListN.{length}
use lib.Ieee.{Float}
use Rattle.workspace.specs.declared.Arguments.{Arguments}
use Rattle.driver.specs.Calls.{Held}
use Rattle.session.specs.Attempt.{reaches_candidate}
use Rattle.session.specs.Claim.{Allowed, in_one_piece, replies_to, Runs, CountersFullAt}
use Rattle.session.proofs.Truth.{differ}
use Rattle.session.proofs.Theorem.{run}
use Rattle.session.proofs.Room.{none_reaches, evaluations_lack, attempts_lack}

module _ (h : Held) (a : Arguments) (d : ℕ → List Float) (long : (i : ℕ) → length (d i) ≡ h.kept.n) where
  abbrev CountersFull : Type 0
  CountersFull = (m : ℕ) × (m < replies_to h a d) × CountersFullAt h a d m

  pub always : Allowed h a → h.counters.evaluations < 2 ^ 64 → Runs h a d ⊎ CountersFull
  always p ev = evaluations (ltb (h.counters.evaluations + replies_to h a d) (2 ^ 64)) refl
    where
      some : (m : ℕ) → replies_to h a d ≡ m → reaches_candidate (in_one_piece h a) d 0 ≡ true → 1 ≤ m
      some zero e r = absurd (differ (sym (none_reaches (in_one_piece h a) d 0 e) ∙ r))
      some (suc m) e r = omega arith

      attempts : (t : Bool) → ltb (h.counters.finished_attempts + 1) (2 ^ 64) ≡ t → h.counters.evaluations + replies_to h a d < 2 ^ 64
          → reaches_candidate (in_one_piece h a) d 0 ≡ true → Runs h a d ⊎ CountersFull
      attempts true t fit r =
          inl (run h a d p long (record { evaluations_fit = fit; attempts_fit = λ e. ltb-true (h.counters.finished_attempts + 1) (2 ^ 64) t }))
      attempts false t fit r =
          let one = some (replies_to h a d) refl r in
          let full = ltb-false (h.counters.finished_attempts + 1) (2 ^ 64) t in
          inr (replies_to h a d - 1, omega arith, attempts_lack h a d long p (replies_to h a d - 1) (omega arith) r (omega arith) (omega arith))

      reached : (r : Bool) → reaches_candidate (in_one_piece h a) d 0 ≡ r → h.counters.evaluations + replies_to h a d < 2 ^ 64 → Runs h a d ⊎ CountersFull
      reached true r fit = attempts (ltb (h.counters.finished_attempts + 1) (2 ^ 64)) refl fit r
      reached false r fit = inl (run h a d p long (record { evaluations_fit = fit; attempts_fit = λ e. absurd (differ (sym r ∙ e)) }))

      evaluations : (t : Bool) → ltb (h.counters.evaluations + replies_to h a d) (2 ^ 64) ≡ t → Runs h a d ⊎ CountersFull
      evaluations true t = reached (reaches_candidate (in_one_piece h a) d 0) refl (ltb-true (h.counters.evaluations + replies_to h a d) (2 ^ 64) t)
      evaluations false t =
          let over = ltb-false (h.counters.evaluations + replies_to h a d) (2 ^ 64) t in
          inr (
            2 ^ 64 - 1 - h.counters.evaluations,
            omega arith,
            evaluations_lack h a d long p (2 ^ 64 - 1 - h.counters.evaluations) (omega arith) (omega arith),
          )

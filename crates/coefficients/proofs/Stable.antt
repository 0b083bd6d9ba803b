-- `Stable` holds of each family and each permitted number of stages, and in fact of any s from 2 on. From Multiplier (the attempt, the bound), Begins, and ω1
-- times the reach, which is 2. ⊗ ⊘ are operations on fractions: they are exact.
use mathlib.Core.Path.{refl, ap₂}
use mathlib.Core.List.{[], ◌∷◌}
use Prim.Native.Nat.{ℕ, zero, suc, ◌+◌, ◌*◌, ◌≤◌}
use native.Mathlib.Omega.{arith}
use lib.Dec.{T}
use Rattle.fractions.specs.Frac.{Frac, ◌⊗◌, opp, ◌⊘◌, ◌≈◌, Between}
use Rattle.fractions.proofs.Ring.{var, ◌:*◌, ◌:-◌, neg}
use Rattle.fractions.proofs.Combine.{0#, 1#, 1ₑ, 2ₑ, given, combine}
use Rattle.fractions.proofs.Order.{nonneg_≈, ≼-of, of_≼}
use Rattle.fractions.proofs.Values.{nat, is_nat, is_quotient, is_*, is_same, divided}
use Rattle.family.specs.Family.{Orthogonal, Legendre1, Legendre2, Gegenbauer1, Gegenbauer2, made_of, permitted}
use Rattle.family.specs.Reach.{reach}
use Rattle.family.proofs.Range.{permitted_range}
use Rattle.coefficients.specs.Paper.{omega_one}
use Rattle.coefficients.specs.Exact.{multiplier}
use Rattle.coefficients.specs.Multiplier.{Begins, Bounded, Stable}
use Rattle.coefficients.proofs.Multiplier.{attempt_is, multiplier_bounded}
use Rattle.coefficients.proofs.PaperValues.{ω_L1, ω_L2, ω_G1, ω_G2, ω_above}
use Rattle.coefficients.proofs.Begins.{begins_0, begins_1, begins_2_L, begins_2_G}

begins_is : (f : Orthogonal) (i : ℕ) → Begins f (multiplier f (suc (suc i)))
unfolding Begins
begins_is Legendre1 i = record { constant = begins_0 Legendre1 (suc (suc i)); linear = begins_1 Legendre1 i }
begins_is Legendre2 i = record { first_order = record { constant = begins_0 Legendre2 (suc (suc i)); linear = begins_1 Legendre2 i }; quadratic = begins_2_L i }
begins_is Gegenbauer1 i = record { constant = begins_0 Gegenbauer1 (suc (suc i)); linear = begins_1 Gegenbauer1 i }
begins_is Gegenbauer2 i = record {
  first_order = record { constant = begins_0 Gegenbauer2 (suc (suc i)); linear = begins_1 Gegenbauer2 i };
  quadratic = begins_2_G i;
}

-- ω1 times the reach
product : (f : Orthogonal) (i : ℕ) → omega_one f (suc (suc i)) ⊗ reach f (suc (suc i)) ≈ nat 2
unfolding reach
product Legendre1 i = is_same (is_* (ω_L1 i) (is_quotient _ _ {m' = (i + 2) * (i + 3)} (omega arith) refl (omega arith))) (is_nat 2) (omega arith)
product Legendre2 i =
    is_same (is_* (ω_L2 i) (is_quotient _ _ {m' = (i + 1) * (i + 4)} (ap₂ ◌*◌ (omega arith) (omega arith)) refl (omega arith))) (is_nat 2) (omega arith)
product Gegenbauer1 i = is_same (is_* (ω_G1 i) (is_quotient _ _ {m' = (i + 2) * (i + 5)} (omega arith) refl (omega arith))) (is_nat 2) (omega arith)
product Gegenbauer2 i =
    is_same (is_* (ω_G2 i) (is_quotient _ _ {m' = (i + 1) * (i + 6)} (ap₂ ◌*◌ (omega arith) (omega arith)) refl (omega arith))) (is_nat 2) (omega arith)

reach_is : (f : Orthogonal) (i : ℕ) → reach f (suc (suc i)) ≈ nat 2 ⊘ omega_one f (suc (suc i))
reach_is f i = let ω = omega_one f (suc (suc i)) in
    combine (ω ∷ reach f (suc (suc i)) ∷ (nat 2 ⊘ ω) ∷ (1# ⊘ ω) ∷ [])
    (var 1) (var 2)
    (given (var 2 :- var 1) (var 3 :* var 0) 1ₑ (divided 1# ω (ω_above f i))
    ∷ given (var 3) (var 0 :* var 1) 2ₑ (product f i)
    ∷ given (neg (var 3)) (var 2 :* var 0) 2ₑ (divided (nat 2) ω (ω_above f i))
    ∷ []) tt

-- the same interval
same_interval : {end z : Frac} (other : Frac) → other ≈ end → Between (opp other) z 0# → Between (opp end) z 0#
same_interval {end} {z} other h r = record {
  from = ≼-of (nonneg_≈ (combine (end ∷ z ∷ other ∷ []) (var 1 :- neg (var 2)) (var 1 :- neg (var 0)) (given 1ₑ (var 2) (var 0) h ∷ []) tt) (of_≼ r.from));
  to = r.to;
}

from_two : (f : Orthogonal) (s : ℕ) → 2 ≤ s → Stable f s
unfolding Bounded
from_two f zero h = absurd (omega arith)
from_two f (suc zero) h = absurd (omega arith)
from_two f (suc (suc i)) h = record {
  multiplies = attempt_is f (suc (suc i));
  begins = begins_is f i;
  bounded = multiplier_bounded f i;
  reach_is = reach_is f i;
  bounded_on_reach = λ z r. multiplier_bounded f i z (same_interval _ (reach_is f i) r);
}

pub stable : (f : Orthogonal) (s : ℕ) → T (permitted (made_of f) s) → Stable f s
stable f s t = from_two f s (permitted_range (made_of f) s t).0

-- What the stages of an attempt carry: what goes on from a stage is what comes to the next (`carried_next`); RKMC2's omega_zero and omega_one are the
-- tables' entries for s at every stage (`rkmc2_zero_taken`, `rkmc2_one_taken`), so at least 1 and above 0; and TSRKC2's omega_zero, omega_one and gain are at
-- every stage what s and q give (`tsrkc2_zero_taken`, `tsrkc2_one_taken`, `gain_taken`), from an omega_zero - 1 above 0 (`minus_one_above_zero`). Assumes
-- nothing.
use mathlib.Core.Path.{◌≡◌, refl, sym, ap, ap₂, ◌∙◌, subst}
use Prim.Native.Nat.{ℕ, zero, suc, ◌+◌, ◌-◌, ◌≤◌}
use native.Mathlib.Omega.{arith}
use lib.Dec.{T}
use lib.Ieee.{Float, le, lt}
use Rattle.ieee.specs.Double.{nought, one}
use Rattle.family.specs.declared.Setting.{Setting}
use Rattle.family.specs.declared.Family.TheVariants.{RKMC2, TSRKC2}
use Rattle.family.specs.Family.{facts_of}
use Rattle.rkmc2_omega_zero.specs.Table as rkmc2-zero
use Rattle.rkmc2_omega_one.specs.Table as rkmc2-one
use Rattle.rkmc2_omega_zero.proofs.AtLeastOne.{at_least_one}
use Rattle.rkmc2_omega_one.proofs.AboveZero.{above_zero}
use Rattle.tsrkc2_omega_zero_minus_one.specs.Table.{omega_zero_minus_one}
use Rattle.tsrkc2_omega_zero_minus_one.proofs.AboveZero as MinusOne
use Rattle.coefficients.specs.declared.Recurrence.{Recurrence}
use Rattle.coefficients.specs.Rows.{coefficients, next, carried, carried_of, recurrence_of, first_polynomials_in, rkmc2_first_polynomials, omega_one_of}
use Rattle.coefficients.specs.Rows.{next_of, next_polynomials, rkmc2_polynomials_on, tsrkc2_polynomials_on, tsrkc2_first_polynomials}
use Rattle.coefficients.specs.Rows.{tsrkc2_omega_zero, tsrkc2_omega_one, tsrkc2_gain}

pub carried_next : (m : Setting) (s j : ℕ) (c : Recurrence) → 2 ≤ j → c ≡ carried m s (j - 2) → next m c (coefficients m s j c) ≡ carried m s (j + 1 - 2)
unfolding carried_of
carried_next m s j c from e =
    let before : j - 2 + 2 ≡ j = omega arith in
    let after : j + 1 - 2 ≡ suc (j - 2) = omega arith in
    ap₂ (λ (i : ℕ) (c : Recurrence). next m c (coefficients m s i c)) (sym before) e ∙ ap (carried m s) (sym after)

pub rkmc2_zero_taken : (q : Float) (s i : ℕ) → (carried_of RKMC2 q s i).polynomials.omega_zero ≡ rkmc2-zero.omega_zero s
unfolding carried_of recurrence_of first_polynomials_in rkmc2_first_polynomials next_of next_polynomials rkmc2_polynomials_on facts_of
rkmc2_zero_taken q s zero = refl
rkmc2_zero_taken q s (suc i) = rkmc2_zero_taken q s i

pub rkmc2_one_taken : (q : Float) (s i : ℕ) → (carried_of RKMC2 q s i).polynomials.omega_one ≡ rkmc2-one.omega_one s
unfolding carried_of recurrence_of first_polynomials_in rkmc2_first_polynomials omega_one_of next_of next_polynomials rkmc2_polynomials_on facts_of
rkmc2_one_taken q s zero = refl
rkmc2_one_taken q s (suc i) = rkmc2_one_taken q s i

pub zero_from_one : (q : Float) (s i : ℕ) → 3 ≤ s → s ≤ 1000 → T (le one (carried_of RKMC2 q s i).polynomials.omega_zero)
zero_from_one q s i l h = subst (λ (x : Float). T (le one x)) (sym (rkmc2_zero_taken q s i)) (at_least_one s l h)

pub one_above_zero : (q : Float) (s i : ℕ) → 3 ≤ s → s ≤ 1000 → T (lt nought (carried_of RKMC2 q s i).polynomials.omega_one)
one_above_zero q s i l h = subst (λ (x : Float). T (lt nought x)) (sym (rkmc2_one_taken q s i)) (above_zero s l h)

pub tsrkc2_zero_taken : (q : Float) (s i : ℕ) → (carried_of TSRKC2 q s i).polynomials.omega_zero ≡ tsrkc2_omega_zero s
unfolding carried_of recurrence_of first_polynomials_in tsrkc2_first_polynomials next_of next_polynomials tsrkc2_polynomials_on facts_of
tsrkc2_zero_taken q s zero = refl
tsrkc2_zero_taken q s (suc i) = tsrkc2_zero_taken q s i

pub tsrkc2_one_taken : (q : Float) (s i : ℕ) → (carried_of TSRKC2 q s i).polynomials.omega_one ≡ tsrkc2_omega_one q s
unfolding carried_of recurrence_of first_polynomials_in tsrkc2_first_polynomials omega_one_of next_of next_polynomials tsrkc2_polynomials_on facts_of
tsrkc2_one_taken q s zero = refl
tsrkc2_one_taken q s (suc i) = tsrkc2_one_taken q s i

pub gain_taken : (q : Float) (s i : ℕ) → (carried_of TSRKC2 q s i).polynomials.gain ≡ tsrkc2_gain q (tsrkc2_omega_one q s) s
unfolding carried_of recurrence_of first_polynomials_in tsrkc2_first_polynomials omega_one_of next_of next_polynomials tsrkc2_polynomials_on facts_of
gain_taken q s zero = refl
gain_taken q s (suc i) = gain_taken q s i

pub minus_one_above_zero : (s : ℕ) → 2 ≤ s → s ≤ 1000 → T (lt nought (omega_zero_minus_one s))
minus_one_above_zero s l h = MinusOne.above_zero s l h

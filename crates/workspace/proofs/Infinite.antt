-- When the kernel's norms are infinite: the perturbation and the error norm only if an entry is not finite or the last product of the norm overflows
-- (document 02, CR 4). From norm's theorem. ⊘ is an operation on doubles: it rounds.
use mathlib.Core.Path.{◌≡◌, refl, sym, subst}
use mathlib.Core.Logic.{◌⊎◌, inl, inr, ⊎_elim}
use mathlib.Core.Bool.{Bool, true, false, cond}
use mathlib.Core.List.{List}
use Prim.Native.Nat.{ℕ, zero, suc, ◌^◌, ◌≤◌, ◌<◌}
use native.Mathlib.Omega.{arith}
use lib.Dec.{T, lit<}
use lib.ListN.{length}
use lib.Count.{count_trailing_zeros}
use lib.IntN.{pos}
use lib.Ieee.{Float, inf, binary64, of_int, size, span, climb, odd, units, round, lt, le, is_nan, fits}
use lib.Ieee.Fits.{div-fits}
use lib.Ieee.Order.{round_mono}
use lib.Ieee.Scale.{finite}
use Rattle.ieee.specs.Double.{◌⊘◌, double, nearest, root_epsilon, nought, one}
use Rattle.ieee.specs.Whole.{max}
use Rattle.ieee.proofs.Logic.{yes}
use Rattle.ieee.proofs.Monotone.{number}
use Rattle.norm.specs.Norm.{all_finite, root_of_squares, vector_norm}
use Rattle.norm.specs.Infinite.{Doubles, LastProductOverflows}
use Rattle.norm.proofs.Infinite.{FiniteDouble, quotient_finite, product_finite, finite_or_overflows, infinite_only_if}
use Rattle.family.specs.declared.Setting.{Setting}
use Rattle.family.specs.declared.ErrorForm.{ErrorForm}
use Rattle.family.specs.declared.ErrorForm.TheVariants.{FirstDerivative, BothDerivatives, LastDerivative}
use Rattle.family.specs.Family.{facts_of, kind}
use Rattle.workspace.specs.declared.Arguments.{Arguments}
use Rattle.workspace.specs.Vectors.{Vectors, tabulate, each, state}
use Rattle.workspace.specs.Kernel.{perturbation_of, divisor_in, scaled_error, scaled_error_norm, error_norm}
use Rattle.workspace.proofs.Areas.{length_each}

-- ---- a vector's norm

pub norm_infinite_only_if : (xs : List Float) → Doubles xs → length xs < 2 ^ 16 → vector_norm xs ≡ inf false
    → (all_finite xs ≡ false) ⊎ LastProductOverflows one xs
unfolding vector_norm le lt
norm_infinite_only_if xs d h e = infinite_only_if one xs tt d h e

-- ---- the perturbation

larger : (x : Float) → FiniteDouble x → FiniteDouble (max x one)
unfolding max fits
larger x p = go (is_nan x) (lt x one)
  where
    unit : FiniteDouble one
    unit = record { not_negative = number 1 (pos 0); is_finite = tt; is_double = tt }

    go : (a b : Bool) → FiniteDouble (cond a one (cond b one x))
    go true b = unit
    go false true = unit
    go false false = p

pub perturbation_infinite_only_if : (v : Vectors) → Doubles (v state) → length (v state) < 2 ^ 16 → perturbation_of v ≡ inf false
    → (all_finite (v state) ≡ false) ⊎ LastProductOverflows one (v state)
unfolding perturbation_of root_epsilon nearest round size span climb units odd count_trailing_zeros vector_norm le lt
perturbation_infinite_only_if v d h e = go (all_finite (v state)) refl
  where
    go : (t : Bool) → all_finite (v state) ≡ t → (t ≡ false) ⊎ LastProductOverflows one (v state)
    go false g = inl refl
    go true g = ⊎_elim
        (λ p. let q = product_finite 25 (max (vector_norm (v state)) one) (larger (vector_norm (v state)) p) in
        absurd (subst (λ (x : Float). T (finite x)) e q.is_finite))
        (λ o. inr o) (finite_or_overflows one (v state) tt d h (yes g))

-- ---- the error norm

-- an element of the scaled errors is a quotient, and so a double
tabulated : (f : ℕ → Float) → ((i : ℕ) → T (fits binary64 (f i))) → (i n : ℕ) → Doubles (tabulate f i n)
tabulated f h i zero = tt
tabulated f h i (suc n) = (h i, tabulated f h (suc i) n)

scaled_doubles : (n : ℕ) (a : Arguments) (v : Vectors) → Doubles (each n v (scaled_error a))
unfolding each scaled_error
scaled_doubles n a v = tabulated _ (λ i. div-fits binary64 _ _) 0 n

double_from_one : (n : ℕ) → 1 ≤ n → T (le one (double n))
unfolding double of_int
double_from_one n h = round_mono binary64 1 1 n 1 (lit< tt) (lit< tt) (omega arith)

-- the divisor of the norm: 1 or s
divisor_from_one : (form : ErrorForm) (s : ℕ) → 1 ≤ s → T (le one (divisor_in form s))
unfolding divisor_in le lt
divisor_from_one BothDerivatives s h = tt
divisor_from_one FirstDerivative s h = double_from_one s h
divisor_from_one (LastDerivative over) s h = tt

pub error_infinite_only_if : (m : Setting) (n s : ℕ) (a : Arguments) (v : Vectors) → 1 ≤ n → n < 2 ^ 16 → 1 ≤ s → error_norm m n s a v ≡ inf false
    → (all_finite (each n v (scaled_error a)) ≡ false) ⊎ LastProductOverflows (double n) (each n v (scaled_error a))
unfolding error_norm scaled_error_norm
error_infinite_only_if m n s a v l h k e = go a.adaptive (all_finite xs) refl e
  where
    xs : List Float
    xs = each n v (scaled_error a)

    form : ErrorForm
    form = (facts_of (kind m)).error

    go : (b t : Bool) → all_finite xs ≡ t → cond b (root_of_squares (double n) xs ⊘ divisor_in form s) nought ≡ inf false
        → (t ≡ false) ⊎ LastProductOverflows (double n) xs
    go false t g e = absurd (subst (λ (x : Float). T (finite x)) e tt)
    go true false g e = inl refl
    go true true g e = ⊎_elim
        (λ p. let q = quotient_finite (root_of_squares (double n) xs) (divisor_in form s) p (divisor_from_one form s k) in
        absurd (subst (λ (x : Float). T (finite x)) e q.is_finite))
        (λ o. inr o) (finite_or_overflows (double n) xs (double_from_one n l) (scaled_doubles n a v)
        (subst (λ (i : ℕ). i < 2 ^ 16) (sym (length_each n v (scaled_error a))) h) (yes g))

-- Every coefficient of RKL1, RKL2, RKG1 and RKG2 is within 2 ^ -48, relatively, of the papers' fraction, for every permitted s and stage 2 to s: `close_row`,
-- `close_first`. Assumes nothing. ⊕ ⊗ are operations on fractions: they are exact.
use mathlib.Core.Path.{◌≡◌, refl, sym, ap, ◌∙◌, subst}
use mathlib.Core.List.{[], ◌∷◌}
use Prim.Native.Nat.{ℕ, zero, suc, ◌+◌, ◌-◌, ◌*◌, ◌^◌, ◌≤◌, ◌<◌}
use native.Mathlib.Nat.{le_trans, le_of_eq, mul_comm, mul-pos, zero-mul, mul-zero, zero-lt-suc, lt_irrefl, not-le_of_lt}
use native.Mathlib.Omega.{arith}
use mathlib.Core.Bool.{Bool, true, false}
use lib.Dec.{T, lit≤}
use lib.IntN.{ℤ, pos, neg_ℤ, nat_abs, ◌+ℤ◌, ◌*ℤ◌, *ℤ_comm, zero-*ℤ, +ℤ_idr}
use lib.Pow.{pow_pos}
use lib.Ieee.{Float, nan, inf, fin, binary64, up, down, mul, neg, unlike}
use lib.Ieee.Fits.{down_pos}
use lib.Ieee.Positive.{num, den}
use lib.Ieee.Scale.{finite}
use Rattle.fractions.specs.Frac.{Frac, ◌⊗◌, ◌⊕◌, opp}
use Rattle.family.specs.Family.{Orthogonal, Legendre1, Legendre2, Gegenbauer1, Gegenbauer2, made_of, permitted}
use Rattle.family.proofs.Range.{orthogonal_range}
use Rattle.coefficients.specs.Paper as Paper
use Rattle.coefficients.specs.Paper.{omega_one, mu, nu, mu_tilde, gamma_tilde, a}
use Rattle.fractions.proofs.FracLaws.{ℤ-ring}
use Rattle.fractions.proofs.Ring as Ring
use Rattle.fractions.proofs.Ring.{var, ◌:*◌}
use Rattle.ieee.specs.Double.{nought}
use Rattle.coefficients.specs.declared.Recurrence.{Recurrence}
use Rattle.coefficients.specs.declared.Coefficients.{Coefficients}
use Rattle.coefficients.specs.Rows.{coefficients_of, recurrence_of, orthogonal_omega, legendre_one, legendre_two, gegenbauer_one, gegenbauer_two}
use Rattle.coefficients.specs.Rows.{with_theta}
use Rattle.coefficients.specs.Closeness.{CloseRow, SameRow, gamma_zero}
use Rattle.ieee.specs.Close.{signed, sign, value, Close}
use Rattle.ieee.proofs.Value.{round_none}
use Rattle.ieee.proofs.Fit.{Fit, fit_same, fit_neg, fit_times, fit_close, num_pos, times_signed, natAbs_signed}
use Rattle.coefficients.proofs.Doubles.{b_of, mu_with, nu_with, a_with, mu_of, nu_of, a_of}
use Rattle.coefficients.proofs.RowTable.{ZeroOrFit, mu_fit, nu_fit, a_fit, omega_fit, stage_one_of, first_fit}

-- ---- mu_tilde is mu · omega_one
mu_tilde_fit : (f : Orthogonal) (s j : ℕ) → 2 ≤ s → s ≤ 200 → 2 ≤ j → j ≤ 200
    → Fit 201 17 false (mul binary64 (mu_of f j) (orthogonal_omega f s)) (mu_tilde f s j)
unfolding mu_tilde ◌⊗◌
mu_tilde_fit f s j l h l' h' =
    fit_same (*ℤ_comm (mu f j).num (omega_one f s).num) (mul_comm (mu f j).den (omega_one f s).den)
    (fit_times 100 100 8 8 false false (mu_of f j) (orthogonal_omega f s) (mu f j) (omega_one f s) (lit≤ tt) (mu_fit f j l' h') (omega_fit f s l h))

-- ---- a zero
zero_signed : (s : Bool) → signed s 0 ≡ pos 0
zero_signed true = refl
zero_signed false = refl

zero_close : (n : ℕ) (x : Float) (q : Frac) → T (finite x) → num x ≡ 0 → q.num ≡ pos 0 → Close n x q
unfolding value ◌⊕◌ opp
zero_close n x q i z e = record { number = i; near = rw (z, e, zero_signed) (flat q.den (den x) (2 ^ n)) }
  where
    flat : (d c p : ℕ) → (0 * d + 0 * c) * p * d ≤ 0 * (c * d)
    flat d c p = omega arith

gamma_nought : (f : Orthogonal) (s j : ℕ) → (a f (j - 1)).num ≡ pos 0 → (gamma_tilde f s j).num ≡ pos 0
unfolding gamma_tilde ◌⊗◌ opp
gamma_nought f s j e = ap (λ (k : ℤ). neg_ℤ k *ℤ (mu_tilde f s j).num) e ∙ zero-*ℤ (mu_tilde f s j).num

times_zero : (x y : Float) → T (finite x) → T (finite y) → num x * num y ≡ 0 → T (finite (mul binary64 x y)) × (num (mul binary64 x y) ≡ 0)
unfolding mul
times_zero nan y i k e = absurd i
times_zero (inf s) y i k e = absurd i
times_zero (fin s m d) nan i k e = absurd k
times_zero (fin s m d) (inf t) i k e = absurd k
times_zero (fin s m d) (fin t n c) i k e =
    subst (λ (z : Float). T (finite z) × (num z ≡ 0))
    (sym (round_none (unlike s t) (m * up d * (n * up c)) (down d * down c) (mul-pos (down_pos d) (down_pos c)) e)) (tt, refl)

neg_num : (x : Float) → num (neg x) ≡ num x
unfolding neg
neg_num nan = refl
neg_num (inf s) = refl
neg_num (fin s m e) = refl

neg_finite : (x : Float) → T (finite x) → T (finite (neg x))
unfolding neg
neg_finite nan i = i
neg_finite (inf s) i = i
neg_finite (fin s m e) i = tt

-- ---- gamma_tilde
exchange : (m k : ℤ) → neg_ℤ m *ℤ k ≡ neg_ℤ k *ℤ m
exchange m k = ℤ-ring (m ∷ k ∷ []) (Ring.neg (var 0) :* var 1) (Ring.neg (var 1) :* var 0) tt

-- 0 where a is, and where a fits it fits too
module _ (f : Orthogonal) (s j : ℕ) (x : Float) (m : Fit 201 17 false x (mu_tilde f s j)) where
  -- the Rust's −a · mu_tilde, and its −mu_tilde · a
  a_first : (z : Bool) → ZeroOrFit z 100 8 false (a_of f j) (a f (j - 1)) → ZeroOrFit z 302 26 true (mul binary64 (neg (a_of f j)) x) (gamma_tilde f s j)
  unfolding ZeroOrFit
  a_first true z =
      let t = times_zero (neg (a_of f j)) x (neg_finite (a_of f j) z.number) m.near.number (ap (λ (n : ℕ). n * num x) (neg_num (a_of f j) ∙ z.double_so)
      ∙ zero-mul (num x)) in
      record { fraction = gamma_nought f s j z.fraction; number = t.0; double_so = t.1 }
  a_first false h = unfold gamma_tilde in
      (fit_times 100 201 8 17 true false (neg (a_of f j)) x (opp (a f (j - 1))) (mu_tilde f s j) (lit≤ tt) (fit_neg (a_of f j) h) m)

  a_last : (z : Bool) → ZeroOrFit z 100 8 false (a_of f j) (a f (j - 1)) → ZeroOrFit z 302 26 true (mul binary64 (neg x) (a_of f j)) (gamma_tilde f s j)
  unfolding ZeroOrFit
  a_last true z =
      let t = times_zero (neg x) (a_of f j) (neg_finite x m.near.number) z.number (ap (λ (n : ℕ). num (neg x) * n) z.double_so
      ∙ mul-zero (num (neg x))) in
      record { fraction = gamma_nought f s j z.fraction; number = t.0; double_so = t.1 }
  a_last false h = unfold gamma_tilde ◌⊗◌ opp in
      (fit_same {q = opp (mu_tilde f s j) ⊗ a f (j - 1)} {q' = gamma_tilde f s j} (exchange (mu_tilde f s j).num (a f (j - 1)).num)
      (mul_comm (mu_tilde f s j).den (a f (j - 1)).den)
      (fit_times 201 100 17 8 true false (neg x) (a_of f j) (opp (mu_tilde f s j)) (a f (j - 1)) (lit≤ tt) (fit_neg x m) h))

-- where the Rust writes 0.0
no_gamma : (f : Orthogonal) (s j : ℕ) → a_of f j ≡ nought
    → (z : Bool) → ZeroOrFit z 100 8 false (a_of f j) (a f (j - 1)) → ZeroOrFit z 302 26 true nought (gamma_tilde f s j)
unfolding ZeroOrFit
no_gamma f s j e true z = record { fraction = gamma_nought f s j z.fraction; number = tt; double_so = refl }
no_gamma f s j e false h = absurd (lt_irrefl 0 (subst (λ (x : Float). 0 < num x) e (num_pos 100 (a_of f j) h.within)))

-- ---- the row
pub record FitRow (f : Orthogonal) (s j : ℕ) (row : Coefficients) : Type 0 where
  pub fit_mu : Fit 100 8 false row.mu (mu f j)
  pub fit_nu : Fit 100 8 true row.nu (nu f j)
  pub fit_mu_tilde : Fit 201 17 false row.mu_tilde (mu_tilde f s j)
  pub fit_gamma_tilde : ZeroOrFit (gamma_zero f j) 302 26 true row.gamma_tilde (gamma_tilde f s j)

module _ (f : Orthogonal) (s j : ℕ) (l : 2 ≤ s) (h : s ≤ 200) (l' : 2 ≤ j) (h' : j ≤ 200) where
  abbrev tilde : Float
  tilde = mul binary64 (mu_of f j) (orthogonal_omega f s)

  row_is : (row : Coefficients) → row.mu ≡ mu_of f j → row.nu ≡ nu_of f j → row.mu_tilde ≡ tilde
      → ZeroOrFit (gamma_zero f j) 302 26 true row.gamma_tilde (gamma_tilde f s j) → FitRow f s j row
  row_is row e₁ e₂ e₃ g = record {
    fit_mu = subst (λ (x : Float). Fit 100 8 false x (mu f j)) (sym e₁) (mu_fit f j l' h');
    fit_nu = subst (λ (x : Float). Fit 100 8 true x (nu f j)) (sym e₂) (nu_fit f j l' h');
    fit_mu_tilde = subst (λ (x : Float). Fit 201 17 false x (mu_tilde f s j)) (sym e₃) (mu_tilde_fit f s j l h l' h');
    fit_gamma_tilde = g;
  }

pub fit_row : (f : Orthogonal) (s j : ℕ) → T (permitted (made_of f) s) → 2 ≤ j → j ≤ s → (c : Recurrence) → FitRow f s j (coefficients_of (made_of f) s j c)
unfolding coefficients_of legendre_one legendre_two gegenbauer_one gegenbauer_two with_theta made_of mu_of nu_of a_of mu_with nu_with a_with b_of
fit_row f s j t l' g c = let r = orthogonal_range f s t in go f r.0 r.1 (le_trans g r.1)
  where
    go : (f : Orthogonal) → 2 ≤ s → s ≤ 200 → j ≤ 200 → FitRow f s j (coefficients_of (made_of f) s j c)
    go Legendre1 l h h' = row_is Legendre1 s j l h l' h' _ refl refl refl (no_gamma Legendre1 s j refl _ (a_fit Legendre1 j l' h'))
    go Legendre2 l h h' = row_is Legendre2 s j l h l' h' _ refl refl refl
        (a_first Legendre2 s j _ (mu_tilde_fit Legendre2 s j l h l' h') _ (a_fit Legendre2 j l' h'))
    go Gegenbauer1 l h h' = row_is Gegenbauer1 s j l h l' h' _ refl refl refl (no_gamma Gegenbauer1 s j refl _ (a_fit Gegenbauer1 j l' h'))
    go Gegenbauer2 l h h' = row_is Gegenbauer2 s j l h l' h' _ refl refl refl
        (a_last Gegenbauer2 s j _ (mu_tilde_fit Gegenbauer2 s j l h l' h') _ (a_fit Gegenbauer2 j l' h'))

-- ---- what fits, or is 0 with its fraction, is close
either_close : (z : Bool) (k n : ℕ) (s : Bool) (x : Float) (q : Frac) → n ≤ 26 → ZeroOrFit z k n s x q → Close 48 x q
unfolding ZeroOrFit
either_close true k n s x q l h = zero_close 48 x q h.number h.double_so h.fraction
either_close false k n s x q l h = fit_close k n s x q l h

pub close_row : (f : Orthogonal) (s j : ℕ) → T (permitted (made_of f) s) → 2 ≤ j → j ≤ s → (c : Recurrence)
    → CloseRow f s j (coefficients_of (made_of f) s j c)
close_row f s j t l g c =
    let r = fit_row f s j t l g c in
    let row = coefficients_of (made_of f) s j c in
    record {
      close_mu = fit_close 100 8 false row.mu (mu f j) (lit≤ tt) r.fit_mu;
      close_nu = fit_close 100 8 true row.nu (nu f j) (lit≤ tt) r.fit_nu;
      close_mu_tilde = fit_close 201 17 false row.mu_tilde (mu_tilde f s j) (lit≤ tt) r.fit_mu_tilde;
      close_gamma_tilde = either_close (gamma_zero f j) 302 26 true row.gamma_tilde (gamma_tilde f s j) (lit≤ tt) r.fit_gamma_tilde;
    }

-- a row but for theta depends on family, s and j alone
pub same_row : (f : Orthogonal) (s j : ℕ) (c c' : Recurrence) → SameRow (coefficients_of (made_of f) s j c) (coefficients_of (made_of f) s j c')
unfolding coefficients_of legendre_one legendre_two gegenbauer_one gegenbauer_two with_theta made_of
same_row Legendre1 s j c c' = record { same_mu = refl; same_nu = refl; same_mu_tilde = refl; same_gamma_tilde = refl }
same_row Legendre2 s j c c' = record { same_mu = refl; same_nu = refl; same_mu_tilde = refl; same_gamma_tilde = refl }
same_row Gegenbauer1 s j c c' = record { same_mu = refl; same_nu = refl; same_mu_tilde = refl; same_gamma_tilde = refl }
same_row Gegenbauer2 s j c c' = record { same_mu = refl; same_nu = refl; same_mu_tilde = refl; same_gamma_tilde = refl }

-- the coefficient of stage 1, which the calls take from the recurrence
pub close_first : (f : Orthogonal) (q : Float) (s : ℕ) → T (permitted (made_of f) s)
    → Close 48 (recurrence_of (made_of f) q s).theta_previous (Paper.first_mu_tilde f s)
close_first f q s t = let r = orthogonal_range f s t in
    fit_close 100 8 false (stage_one_of f q s) (Paper.first_mu_tilde f s) (lit≤ tt) (first_fit f q s r.0 r.1)

-- where the fraction is 0 the double is
pub zero_where : (n : ℕ) (x : Float) (q : Frac) → Close n x q → q.num ≡ pos 0 → num x ≡ 0
unfolding value ◌⊕◌ opp
zero_where n x q c e = none (num x) q.den (2 ^ n) q.positive (pow_pos n) (subst (λ (k : ℕ). k * 2 ^ n * q.den ≤ 0 * (den x * q.den)) size
    (subst (λ (k : ℤ). nat_abs (signed (sign x) (num x) *ℤ pos q.den +ℤ neg_ℤ k *ℤ pos (den x)) * 2 ^ n * q.den ≤ nat_abs k * (den x * q.den)) e c.near))
  where
    size : nat_abs (signed (sign x) (num x) *ℤ pos q.den +ℤ pos 0 *ℤ pos (den x)) ≡ num x * q.den
    size = ap nat_abs (ap (λ (z : ℤ). signed (sign x) (num x) *ℤ pos q.den +ℤ z) (zero-*ℤ (pos (den x))) ∙ +ℤ_idr (signed (sign x) (num x) *ℤ pos q.den)
        ∙ times_signed (sign x) false (num x) q.den) ∙ natAbs_signed (unlike (sign x) false) (num x * q.den)

    none : (u d p : ℕ) → 0 < d → 0 < p → u * d * p * d ≤ 0 * (den x * d) → u ≡ 0
    none zero d p D Q h = refl
    none (suc u) d p D Q h = absurd (not-le_of_lt (mul-pos (mul-pos (mul-pos (zero-lt-suc u) D) Q) D) (le_trans h (le_of_eq (zero-mul (den x * d)))))

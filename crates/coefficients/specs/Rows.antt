-- The coefficients of a stage's row: orthogonal.rs, and `run_rkc`, `run_rkmc2` and `run_tsrkc2` of chebyshev.rs, operations in the Rust's order. Document 01,
-- "RKL and RKG rows", and document 02, CR 1 and CR 6. ⊕ ⊖ ⊗ ⊘ are operations on doubles: they round.
use Rattle.std.specs.Prelude.{ℕ, zero, suc, ◌+◌, ◌-◌, ◌*◌, ◌/◌, cond, leb, Float}
use Rattle.std.specs.Float.{binary64}
use Rattle.std.specs.Float.Ieee.{of_bits, neg}
use Rattle.ieee.specs.Double.{◌⊕◌, ◌⊖◌, ◌⊗◌, ◌⊘◌, double, nearest, square, nought, one, two, three, four, six, thirteen}
use Rattle.ieee.specs.Sqrt.{sqrt}
use Rattle.family.specs.declared.Setting.{Setting}
use Rattle.family.specs.declared.RowForm.{RowForm}
use Rattle.family.specs.declared.RowForm.TheVariants.{ChebyshevRow, OrthogonalRow, InitialFirstRow, PlainRow}
use Rattle.family.specs.declared.Family.{Family}
use Rattle.family.specs.declared.Family.TheVariants.{RKC, RKL1, RKL2, RKG1, RKG2, RKMC2, TSRKC2}
use Rattle.family.specs.Family.{facts_of, kind}
use Rattle.family.specs.Family.{Orthogonal, Legendre1, Legendre2, Gegenbauer1, Gegenbauer2}
use Rattle.coefficients.specs.Table.{omega}
use Rattle.rkmc2_omega_zero.specs.Table as rkmc2-zero
use Rattle.rkmc2_omega_one.specs.Table as rkmc2-one
use Rattle.tsrkc2_omega_zero_minus_one.specs.Table.{omega_zero_minus_one}
use Rattle.coefficients.specs.declared.Coefficients.{Coefficients}
use Rattle.coefficients.specs.declared.Weights.{Weights}
use Rattle.coefficients.specs.declared.Recurrence.{Recurrence}
use Rattle.coefficients.specs.declared.Polynomials.{Polynomials}

-- ---- omega_zero and omega_one

unfoldable pub omega_zero : ℕ → Float
omega_zero s = one ⊕ two ⊘ thirteen ⊘ square (double s)

-- RKL's and RKG's, from s alone
unfoldable pub orthogonal_omega : Orthogonal → ℕ → Float
orthogonal_omega Legendre1 s = two ⊘ (square (double s) ⊕ double s)
orthogonal_omega Legendre2 s = four ⊘ (square (double s) ⊕ double s ⊖ two)
orthogonal_omega Gegenbauer1 s = four ⊘ (double s ⊗ (double s ⊕ three))
orthogonal_omega Gegenbauer2 s = six ⊘ ((double s ⊕ four) ⊗ (double s ⊖ one))

-- TSRKC2's, from s and q. The Chebyshev polynomial of degree s is 1.1 at omega_zero; acosh(1.1), which the table of omega_zero - 1 is made with, is the double
-- 3FDC636C1A882F2B in the named build, and its sinh the one here.
abbrev pub t_star : Float
t_star = nearest 11 10

abbrev pub sinh_acosh_t_star : Float
sinh_acosh_t_star = of_bits binary64 0x3fdd54178e8830d8

unfoldable pub tsrkc2_omega_zero : ℕ → Float
tsrkc2_omega_zero s = one ⊕ omega_zero_minus_one s

unfoldable pub omega_zero_squared_minus_one : ℕ → Float
omega_zero_squared_minus_one s = let w = omega_zero_minus_one s in w ⊗ (w ⊕ two)

-- the polynomial's first and second derivative there
unfoldable pub derivative_t_star : ℕ → Float
derivative_t_star s = double s ⊗ sinh_acosh_t_star ⊘ sqrt (omega_zero_squared_minus_one s)

unfoldable pub second_derivative_t_star : ℕ → Float
second_derivative_t_star s = (square (double s) ⊗ t_star ⊖ tsrkc2_omega_zero s ⊗ derivative_t_star s) ⊘ omega_zero_squared_minus_one s

unfoldable pub tsrkc2_omega_one : Float → ℕ → Float
tsrkc2_omega_one q s = let x = (one ⊖ q) ⊗ derivative_t_star s in
    let second = second_derivative_t_star s in
    (x ⊕ sqrt (square x ⊕ four ⊗ q ⊗ t_star ⊗ second)) ⊘ (two ⊗ second)

-- the weight of the last stage in the candidate, w1 being omega_one; that of the older state is 1 less it
unfoldable pub tsrkc2_gain : Float → Float → ℕ → Float
tsrkc2_gain q w1 s = (one ⊕ q) ⊗ t_star ⊘ (q ⊗ t_star ⊕ w1 ⊗ derivative_t_star s)

-- (q is TSRKC2's alone)
unfoldable pub omega_one_of : Family → Float → ℕ → Float
omega_one_of RKC q s = omega s
omega_one_of RKL1 q s = orthogonal_omega Legendre1 s
omega_one_of RKL2 q s = orthogonal_omega Legendre2 s
omega_one_of RKG1 q s = orthogonal_omega Gegenbauer1 s
omega_one_of RKG2 q s = orthogonal_omega Gegenbauer2 s
omega_one_of RKMC2 q s = rkmc2-one.omega_one s
omega_one_of TSRKC2 q s = tsrkc2_omega_one q s

-- b of stage 1: RKC's, and RKMC2's
unfoldable pub b_first : ℕ → Float
b_first s = one ⊘ square (two ⊗ omega_zero s)

unfoldable pub rkmc2_b_first : ℕ → Float
rkmc2_b_first s = one ⊘ (one ⊕ rkmc2-zero.omega_zero s)

unfoldable pub first_mu_tilde : Family → Float → ℕ → Float
first_mu_tilde RKC q s = omega_one_of RKC q s ⊗ b_first s
first_mu_tilde RKL1 q s = omega_one_of RKL1 q s
first_mu_tilde RKL2 q s = omega_one_of RKL2 q s ⊘ three
first_mu_tilde RKG1 q s = omega_one_of RKG1 q s
first_mu_tilde RKG2 q s = omega_one_of RKG2 q s
first_mu_tilde RKMC2 q s = rkmc2_b_first s ⊗ omega_one_of RKMC2 q s
first_mu_tilde TSRKC2 q s = omega_one_of TSRKC2 q s ⊘ tsrkc2_omega_zero s

-- RKC's, with w1 for omega_one
unfoldable pub first_polynomials : Float → ℕ → Polynomials
first_polynomials w1 s = record {
  omega_zero = omega_zero s;
  omega_one = w1;
  b_previous = b_first s;
  b_previous_two = b_first s;
  value_previous = omega_zero s;
  value_previous_two = one;
  first_previous = one;
  first_previous_two = nought;
  second_previous = nought;
  second_previous_two = nought;
  gain = nought;
}

-- what the three begin with
abbrev pub value_begun : Float → Float → Polynomials
value_begun w0 w1 = record {
  omega_zero = w0;
  omega_one = w1;
  b_previous = nought;
  b_previous_two = nought;
  value_previous = w0;
  value_previous_two = one;
  first_previous = nought;
  first_previous_two = nought;
  second_previous = nought;
  second_previous_two = nought;
  gain = nought;
}

-- RKMC2's: no derivatives
unfoldable pub rkmc2_first_polynomials : Float → ℕ → Polynomials
rkmc2_first_polynomials w1 s = record {
  omega_zero = rkmc2-zero.omega_zero s;
  omega_one = w1;
  b_previous = rkmc2_b_first s;
  b_previous_two = one ⊘ (one ⊕ one);
  value_previous = rkmc2-zero.omega_zero s;
  value_previous_two = one;
  first_previous = nought;
  first_previous_two = nought;
  second_previous = nought;
  second_previous_two = nought;
  gain = nought;
}

-- TSRKC2's: neither b nor derivatives, and the gain
unfoldable pub tsrkc2_first_polynomials : Float → Float → ℕ → Polynomials
tsrkc2_first_polynomials q w1 s = record {
  omega_zero = tsrkc2_omega_zero s;
  omega_one = w1;
  b_previous = nought;
  b_previous_two = nought;
  value_previous = tsrkc2_omega_zero s;
  value_previous_two = one;
  first_previous = nought;
  first_previous_two = nought;
  second_previous = nought;
  second_previous_two = nought;
  gain = tsrkc2_gain q w1 s;
}

-- RKL and RKG read none of it
unfoldable pub first_polynomials_in : RowForm → Float → Float → ℕ → Polynomials
first_polynomials_in ChebyshevRow q w1 s = first_polynomials w1 s
first_polynomials_in OrthogonalRow q w1 s = first_polynomials w1 s
first_polynomials_in InitialFirstRow q w1 s = rkmc2_first_polynomials w1 s
first_polynomials_in PlainRow q w1 s = tsrkc2_first_polynomials q w1 s

-- before stage 2
unfoldable pub recurrence_of : Family → Float → ℕ → Recurrence
recurrence_of f q s = record {
  theta_previous = first_mu_tilde f q s;
  theta_previous_two = nought;
  polynomials = first_polynomials_in (facts_of f).row q (omega_one_of f q s) s;
}

-- ---- b

unfoldable pub legendre_two_b : ℕ → Float
legendre_two_b j = let x = double j in
    cond (leb j 2) (one ⊘ three) ((x ⊗ x ⊕ x ⊖ two) ⊘ (two ⊗ x ⊗ (x ⊕ one)))

unfoldable pub gegenbauer_one_b : ℕ → Float
gegenbauer_one_b j = two ⊘ double ((j + 1) * (j + 2))

unfoldable pub gegenbauer_two_b : ℕ → Float
gegenbauer_two_b zero = one
gegenbauer_two_b (suc zero) = one ⊘ three
gegenbauer_two_b (suc (suc i)) = let x = double (suc (suc i)) in
    four ⊗ (x ⊖ one) ⊗ (x ⊕ four) ⊘ (three ⊗ x ⊗ (x ⊕ one) ⊗ (x ⊕ two) ⊗ (x ⊕ three))

-- ---- the row of stage j

-- theta, where the derivatives stand apart: RKL and RKG
unfoldable pub with_theta : Recurrence → Float → Float → Float → Float → Coefficients
with_theta c mu nu mu~ gamma~ = let theta = mu ⊗ c.theta_previous ⊕ nu ⊗ c.theta_previous_two ⊕ mu~ ⊕ gamma~ in
    record { mu = mu; nu = nu; mu_tilde = mu~; gamma_tilde = gamma~; theta = theta }

unfoldable pub legendre_one : Float → ℕ → Recurrence → Coefficients
legendre_one w j c = let x = double j in let mu = (two ⊗ x ⊖ one) ⊘ x in
    with_theta c mu (neg (x ⊖ one) ⊘ x) (mu ⊗ w) (nought)

unfoldable pub legendre_two : Float → ℕ → Recurrence → Coefficients
legendre_two w j c = let x = double j in let b = legendre_two_b j in
    let mu = (two ⊗ x ⊖ one) ⊘ x ⊗ b ⊘ legendre_two_b (j - 1) in
    let mu~ = mu ⊗ w in
    with_theta c mu (neg (x ⊖ one) ⊘ x ⊗ b ⊘ legendre_two_b (j - 2)) mu~ (neg (one ⊖ legendre_two_b (j - 1)) ⊗ mu~)

unfoldable pub gegenbauer_one : Float → ℕ → Recurrence → Coefficients
gegenbauer_one w j c = let x = double j in let b = gegenbauer_one_b j in
    let mu = (two ⊗ x ⊕ one) ⊘ x ⊗ b ⊘ gegenbauer_one_b (j - 1) in
    with_theta c mu (neg (x ⊕ one) ⊘ x ⊗ b ⊘ gegenbauer_one_b (j - 2)) (mu ⊗ w) (nought)

unfoldable pub gegenbauer_two : Float → ℕ → Recurrence → Coefficients
gegenbauer_two w j c = let x = double j in let b = gegenbauer_two_b j in
    let mu = (two ⊗ x ⊕ one) ⊘ x ⊗ b ⊘ gegenbauer_two_b (j - 1) in
    let mu~ = mu ⊗ w in
    with_theta c mu (neg (x ⊕ one) ⊘ x ⊗ b ⊘ gegenbauer_two_b (j - 2)) mu~ (neg mu~ ⊗ (one ⊖ double (j * (j + 1) / 2) ⊗ gegenbauer_two_b (j - 1)))

-- RKC, RKMC2 and TSRKC2: the polynomial of this stage; RKC: its derivatives, and b
unfoldable pub value_of : Polynomials → Float
value_of p = two ⊗ p.omega_zero ⊗ p.value_previous ⊖ p.value_previous_two

unfoldable pub first_of : Polynomials → Float
first_of p = two ⊗ p.omega_zero ⊗ p.first_previous ⊖ p.first_previous_two ⊕ two ⊗ p.value_previous

unfoldable pub second_of : Polynomials → Float
second_of p = two ⊗ p.omega_zero ⊗ p.second_previous ⊖ p.second_previous_two ⊕ four ⊗ p.first_previous

unfoldable pub b_of : Polynomials → Float
b_of p = second_of p ⊘ square (first_of p)

unfoldable pub chebyshev : Recurrence → Coefficients
chebyshev c = let p = c.polynomials in
    let w = p.omega_zero in
    let b = b_of p in
    let nu~ = one ⊖ p.value_previous ⊗ p.b_previous in
    let mu = two ⊗ w ⊗ b ⊘ p.b_previous in
    let nu = neg b ⊘ p.b_previous_two in
    let mu~ = mu ⊗ p.omega_one ⊘ w in
    let theta = mu ⊗ c.theta_previous ⊕ nu ⊗ c.theta_previous_two ⊕ mu~ ⊗ (one ⊖ nu~) in
    record { mu = mu; nu = nu; mu_tilde = mu~; gamma_tilde = nu~; theta = theta }

-- RKMC2: b, and the row, with b_previous where RKL and RKG have `gamma_tilde` and RKC has `nu_tilde`
unfoldable pub rkmc2_b_of : Polynomials → Float
rkmc2_b_of p = one ⊘ (one ⊕ value_of p)

unfoldable pub rkmc2_row : Recurrence → Coefficients
rkmc2_row c = let p = c.polynomials in
    let b = rkmc2_b_of p in
    let mu = two ⊗ p.omega_zero ⊗ b ⊘ p.b_previous in
    let nu = neg b ⊘ p.b_previous_two in
    let mu~ = two ⊗ p.omega_one ⊗ b ⊘ p.b_previous in
    let theta = mu ⊗ c.theta_previous ⊕ nu ⊗ c.theta_previous_two ⊕ mu~ ⊗ (one ⊖ p.b_previous) in
    record { mu = mu; nu = nu; mu_tilde = mu~; gamma_tilde = p.b_previous; theta = theta }

-- TSRKC2: no first derivative, so nothing stands for `gamma_tilde`
unfoldable pub tsrkc2_row : Recurrence → Coefficients
tsrkc2_row c = let p = c.polynomials in
    let value = value_of p in
    let mu = two ⊗ p.omega_zero ⊗ p.value_previous ⊘ value in
    let nu = neg p.value_previous_two ⊘ value in
    let mu~ = mu ⊗ p.omega_one ⊘ p.omega_zero in
    let theta = mu ⊗ c.theta_previous ⊕ nu ⊗ c.theta_previous_two ⊕ mu~ in
    record { mu = mu; nu = nu; mu_tilde = mu~; gamma_tilde = nought; theta = theta }

-- RKC, RKMC2 and TSRKC2 take omega_zero and omega_one as they were when the stages began; the other families work omega_one out from s in every row
unfoldable pub coefficients_of : Family → ℕ → ℕ → Recurrence → Coefficients
coefficients_of RKC s j c = chebyshev c
coefficients_of RKL1 s j c = legendre_one (orthogonal_omega Legendre1 s) j c
coefficients_of RKL2 s j c = legendre_two (orthogonal_omega Legendre2 s) j c
coefficients_of RKG1 s j c = gegenbauer_one (orthogonal_omega Gegenbauer1 s) j c
coefficients_of RKG2 s j c = gegenbauer_two (orthogonal_omega Gegenbauer2 s) j c
coefficients_of RKMC2 s j c = rkmc2_row c
coefficients_of TSRKC2 s j c = tsrkc2_row c

-- ---- on to the next stage

unfoldable pub polynomials_on : Polynomials → Polynomials
polynomials_on p = record {
  omega_zero = p.omega_zero;
  omega_one = p.omega_one;
  b_previous = b_of p;
  b_previous_two = p.b_previous;
  value_previous = value_of p;
  value_previous_two = p.value_previous;
  first_previous = first_of p;
  first_previous_two = p.first_previous;
  second_previous = second_of p;
  second_previous_two = p.second_previous;
  gain = p.gain;
}

-- (RKMC2, TSRKC2) the polynomial and b, all else as it was
abbrev pub value_on : Float → Float → Polynomials → Polynomials
value_on b b-before q = record {
  omega_zero = q.omega_zero;
  omega_one = q.omega_one;
  b_previous = b;
  b_previous_two = b-before;
  value_previous = value_of q;
  value_previous_two = q.value_previous;
  first_previous = q.first_previous;
  first_previous_two = q.first_previous_two;
  second_previous = q.second_previous;
  second_previous_two = q.second_previous_two;
  gain = q.gain;
}

unfoldable pub rkmc2_polynomials_on : Polynomials → Polynomials
rkmc2_polynomials_on p = value_on (rkmc2_b_of p) p.b_previous p

unfoldable pub tsrkc2_polynomials_on : Polynomials → Polynomials
tsrkc2_polynomials_on p = value_on p.b_previous p.b_previous_two p

unfoldable pub next_polynomials : RowForm → Polynomials → Polynomials
next_polynomials ChebyshevRow p = polynomials_on p
next_polynomials OrthogonalRow p = p
next_polynomials InitialFirstRow p = rkmc2_polynomials_on p
next_polynomials PlainRow p = tsrkc2_polynomials_on p

unfoldable pub next_of : Family → Recurrence → Coefficients → Recurrence
next_of f c row = record {
  theta_previous = row.theta;
  theta_previous_two = c.theta_previous;
  polynomials = next_polynomials (facts_of f).row c.polynomials;
}

-- what an attempt of s stages carries into stage i + 2
unfoldable pub carried_of : Family → Float → ℕ → ℕ → Recurrence
carried_of f q s zero = recurrence_of f q s
carried_of f q s (suc i) = let c = carried_of f q s i in next_of f c (coefficients_of f s (i + 2) c)

-- ---- RKMC2's candidate, after stage s, into which c was carried: the weights of the state, of stage s, of stage s - 2, and of step × the first derivative

unfoldable pub candidate_weights : ℕ → Recurrence → Weights
candidate_weights s c = let p = c.polynomials in
    let b_final = rkmc2_b_of p in
    let gamma = p.b_previous ⊘ (two ⊗ double s ⊗ p.omega_one) in
    let delta = neg p.b_previous ⊘ (two ⊗ (double s ⊖ two) ⊗ p.omega_one) in
    record {
      initial = one ⊖ gamma ⊘ b_final ⊖ delta ⊘ p.b_previous_two;
      last = gamma ⊘ b_final;
      older = delta ⊘ p.b_previous_two;
      slope = p.b_previous;
    }

-- ---- what an attempt runs under decides the family and q, and so the rows

abbrev pub recurrence : Setting → ℕ → Recurrence
recurrence m s = recurrence_of (kind m) m.quotient s

abbrev pub coefficients : Setting → ℕ → ℕ → Recurrence → Coefficients
coefficients m s j c = coefficients_of (kind m) s j c

abbrev pub next : Setting → Recurrence → Coefficients → Recurrence
next m c row = next_of (kind m) c row

abbrev pub carried : Setting → ℕ → ℕ → Recurrence
carried m s i = carried_of (kind m) m.quotient s i

-- A norm of finite doubles is a finite double, or its last product overflows (`finite_or_overflows`); so it is infinite only if an entry is not finite or that
-- product overflows (`infinite_only_if`). From the bounds of proofs/Bounds. Assumes nothing. ⊕ ⊗ ⊘ are operations on doubles: they round.
use mathlib.Core.Path.{◌≡◌, refl, sym, ap, ◌∙◌, subst}
use mathlib.Core.Logic.{◌⊎◌, inl, inr, ⊎_elim}
use mathlib.Core.Bool.{Bool, true, false, cond, ◌&&◌}
use mathlib.Core.List.{List, [], ◌∷◌, foldl, map}
use Prim.Native.Nat.{ℕ, zero, suc, ◌+◌, ◌*◌, ◌^◌, ◌≤◌, ◌<◌}
use native.Mathlib.Nat.{le_trans, le_of_eq, lt_of_lt_of_le, mul-pos, mul-le-mul_right, mul-le-mul_left, mul-lt-mul_of_pos_right, zero-mul, zero-lt-suc}
use native.Mathlib.Nat.{mul_assoc, mul_comm, mul_left_comm, mul_right_comm, mul-one, one-mul}
use native.Mathlib.Omega.{arith}
use lib.Dec.{T, eqb, eqb→eq, lit<, lit≤, eqb-suc-zero}
use lib.IntN.{ℤ, pos, negsuc}
use lib.ListN.{length}
use lib.Pow.{pow-add, pow_pos, pow_mono}
use lib.Count.{count_trailing_zeros}
use lib.Ieee.{Float, nan, inf, fin, binary64, low, up, down, size, span, climb, odd, units, round, sum, add, mul, div, lt, eq, le, fits}
use lib.Ieee.Fits.{up_pos, down_pos, and_l, and_r, add-fits, mul-fits, div-fits, round-fits}
use lib.Ieee.Exact.{HasValue, round_exact}
use lib.Ieee.Order.{le_of_values}
use lib.Ieee.Scale.{finite}
use Rattle.ieee.specs.Double.{◌⊕◌, ◌⊗◌, ◌⊘◌, nought, one, square, nearest}
use Rattle.ieee.specs.Sqrt.{root_below, root, halves, root_units, in_units, sqrt}
use Rattle.ieee.proofs.Logic.{yes, and_right, le_or_lt}
use Rattle.ieee.proofs.Value.{says, spot, bounded, round_own}
use Rattle.ieee.proofs.Monotone.{NonNeg, infinite, number, round_nonneg, cross, le_of_cross, sqrt_mono, sqrt_nonneg}
use Rattle.norm.specs.Norm.{sum_of_squares, all_finite, overflows, lowered, raised, root_over, root_of_squares}
use Rattle.norm.specs.Infinite.{Doubles, second_sum, LastProductOverflows}
use Rattle.norm.proofs.Bounds.{Upto, up_to, upto_finite, upto_nonneg, Kept, round_upto, kept_multiple, below_top, second_upto}

-- ---- a quotient by a divisor from 1 on

nonneg_from_one : (d : Float) → T (le one d) → NonNeg d
unfolding le lt eq
nonneg_from_one (inf false) h = infinite
nonneg_from_one (fin false n c) h = number n c
nonneg_from_one (fin true n c) h = absurd (none (down c) (down_pos c) (eqb→eq (1 * 1 * down c) 0 (and_r (eqb (1 * 1 * down c) (n * up c * 1)) _ h)))
  where
    none : (d : ℕ) → 0 < d → 1 * 1 * d ≡ 0 → ⊥
    none d p e = omega arith
nonneg_from_one nan h = elim h [ ]
nonneg_from_one (inf true) h = elim h [ ]

over_upto : (p q : ℕ) (x d : Float) → 0 < q → Kept p q → Upto p q x → NonNeg d → T (le one d) → Upto p q (x ⊘ d)
unfolding div
over_upto p q x d Q k (up_to m e h) infinite l = up_to 0 (pos 0) (none q p)
  where
    none : (q p : ℕ) → 0 * 1 * q ≤ p * 1
    none q p = omega arith
over_upto p q x d Q k (up_to m e h) (number zero c) l = absurd (none (up c) (down c) (down_pos c) (cross 1 (pos 0) 0 c l))
  where
    none : (u d : ℕ) → 0 < d → 1 * 1 * d ≤ 0 * u * 1 → ⊥
    none u d p h = omega arith
over_upto p q x d Q k (up_to m e h) (number (suc n) c) l =
    subst (λ (b : Bool). Upto p q (cond b (cond (eqb m 0) nan (inf false)) (round binary64 false (m * up e * down c) (suc n * up c * down e))))
    (sym (eqb-suc-zero n))
    (round_upto (m * up e * down c) (suc n * up c * down e) p q (mul-pos (mul-pos (zero-lt-suc n) (up_pos c)) (down_pos e)) Q k
    (go (m * up e) (down e) (suc n * up c) (down c) h (cross 1 (pos 0) (suc n) c l)))
  where
    go : (a d b c : ℕ) → a * q ≤ p * d → 1 * 1 * c ≤ b * 1 → a * c * q ≤ p * (b * d)
    go a d b c h l =
        le_trans (le_of_eq (mul_right_comm a c q))
        (le_trans (mul-le-mul_right c h)
        (le_trans (mul-le-mul_left (p * d) (le_trans (le_of_eq (sym (one-mul c))) (le_trans l (le_of_eq (mul-one b)))))
        (le_of_eq (simp (mul_assoc, mul_comm)))))

-- a finite double that is not negative
pub record FiniteDouble (x : Float) : Type 0 where
  pub not_negative : NonNeg x
  pub is_finite : T (finite x)
  pub is_double : T (fits binary64 x)

own_kept : (m : ℕ) (e : ℤ) → T (fits binary64 (fin false m e)) → Kept (m * up e) (down e)
own_kept m e f = subst (λ (x : Float). HasValue x false (m * up e) (down e)) (sym (round_own false m e f)) (refl, refl)

-- a quotient by a divisor from 1 on
pub quotient_finite : (x d : Float) → FiniteDouble x → T (le one d) → FiniteDouble (x ⊘ d)
quotient_finite x d p l = go x p.not_negative p.is_finite p.is_double
  where
    go : (x : Float) → NonNeg x → T (finite x) → T (fits binary64 x) → FiniteDouble (x ⊘ d)
    go x (number m e) t f =
        let q = over_upto (m * up e) (down e) (fin false m e) d (down_pos e) (own_kept m e f) (up_to m e (le_of_eq refl)) (nonneg_from_one d l) l in
        record { not_negative = upto_nonneg q; is_finite = upto_finite q; is_double = div-fits binary64 (fin false m e) d }
    go _ infinite t f = elim t [ ]

-- and a product with 2 ^ -(k + 1)
pub product_finite : (k : ℕ) (x : Float) → FiniteDouble x → FiniteDouble (fin false 1 (negsuc k) ⊗ x)
unfolding mul
product_finite k x p = go x p.not_negative p.is_finite p.is_double
  where
    go : (x : Float) → NonNeg x → T (finite x) → T (fits binary64 x) → FiniteDouble (fin false 1 (negsuc k) ⊗ x)
    go x (number m e) t f =
        let q = round_upto (1 * 1 * (m * up e)) (2 ^ suc k * down e) (m * up e) (down e) (mul-pos (pow_pos (suc k)) (down_pos e)) (down_pos e) (own_kept m e f)
        (small (m * up e) (down e) (2 ^ suc k) (pow_pos (suc k))) in
        record { not_negative = upto_nonneg q; is_finite = upto_finite q; is_double = mul-fits binary64 (fin false 1 (negsuc k)) (fin false m e) }
      where
        small : (a d P : ℕ) → 0 < P → 1 * 1 * a * d ≤ a * (P * d)
        small a d P h = le_trans (le_of_eq (ap (λ (z : ℕ). z * d) (one-mul a) ∙ sym (one-mul (a * d)))) (le_trans (mul-le-mul_right (a * d) h)
            (le_of_eq (mul_left_comm P a d)))
    go _ infinite t f = elim t [ ]

-- ---- the root of a finite double is finite

root_of_top : sqrt (fin false 1 (pos 1024)) ≡ fin false 1 (pos 512)
unfolding sqrt root_units halves root root_below round units odd size span climb count_trailing_zeros
root_of_top = refl

under : (y : Float) (m : ℕ) (e : ℤ) → NonNeg y → T (le y (fin false m e)) → T (finite y)
under y m e infinite l = absurd (unfold le in l)
under y m e (number n c) l = tt

root_fits : (m : ℕ) (e : ℤ) → T (fits binary64 (sqrt (fin false (suc m) e)))
unfolding sqrt root_units
root_fits m e = round-fits binary64 false (halves (in_units (fin false (suc m) e) * 2 ^ low binary64)) (2 * 2 ^ low binary64)

rooted : (x : Float) → NonNeg x → T (finite x) → T (fits binary64 x) → FiniteDouble (sqrt x)
rooted x (number zero e) t f = record { not_negative = unfold sqrt in number 0 e; is_finite = unfold sqrt in tt; is_double = unfold sqrt in f }
rooted x (number (suc m) e) t f = record {
  not_negative = n;
  is_finite = under (sqrt y) 1 (pos 512) n (subst (λ (z : Float). T (le (sqrt y) z)) root_of_top small);
  is_double = root_fits m e;
}
  where
    y : Float
    y = fin false (suc m) e

    n : NonNeg (sqrt y)
    n = sqrt_nonneg y (number (suc m) e) tt

    go : (a d P : ℕ) → a ≤ P * d → a * 1 ≤ 1 * P * d
    go a d P h = le_trans (le_of_eq (mul-one a)) (le_trans h (le_of_eq (ap (λ (z : ℕ). z * d) (sym (one-mul P)))))

    small : T (le (sqrt y) (sqrt (fin false 1 (pos 1024))))
    small = sqrt_mono y (fin false 1 (pos 1024)) (number (suc m) e) (number 1 (pos 1024)) tt tt
        (le_of_cross (suc m) e 1 (pos 1024) (go (suc m * up e) (down e) (2 ^ 1024) (below_top false (suc m) e f)))
rooted _ infinite t f = elim t [ ]

finite_or_infinite : (x : Float) → NonNeg x → T (finite x) ⊎ (x ≡ inf false)
finite_or_infinite x infinite = inr refl
finite_or_infinite x (number m e) = inl tt

kept_finite : (p q : ℕ) → Kept p q → T (finite (round binary64 false p q))
kept_finite p q = go (round binary64 false p q)
  where
    go : (x : Float) → HasValue x false p q → T (finite x)
    go (fin s m e) v = tt
    go nan v = elim v [ ]
    go (inf _) v = elim v [ ]

-- ---- the last product: infinite only from 2 ^ 504 on, since below that it is exact

exact_below : (m : ℕ) (e : ℤ) → T (fits binary64 (fin false m e)) → m * up e < 2 ^ 504 * down e → Kept (m * up e * (1 * 2 ^ 520)) (down e * 1)
exact_below zero e f h =
    round_exact binary64 false (0 * up e * (1 * 2 ^ 520)) (down e * 1) 0 0 (mul-pos (down_pos e) (lit< tt)) (lit< tt) (lit< tt)
    (none (up e) (1 * 2 ^ 520) (2 ^ 1074) (down e))
  where
    none : (u w z d : ℕ) → 0 * u * w * z ≡ 0 * 2 ^ 0 * (d * 1)
    none u w z d = simp (zero-mul)
exact_below (suc m) e f h =
    let s = says false m e f in
    let p = spot (suc m) e 1594 (le_trans s.1 (pow_mono {i = 1074} {j = 1594} (lit≤ tt))) in
    let w : suc m * up e * 2 ^ 520 * 2 ^ 1074 ≡ suc m * 2 ^ p.0 * down e =
    mul_assoc (suc m * up e) (2 ^ 520) (2 ^ 1074) ∙ ap (λ (z : ℕ). suc m * up e * z) (sym (pow-add 2 520 1074)) ∙ p.1 in
    round_exact binary64 false (suc m * up e * (1 * 2 ^ 520)) (down e * 1) (suc m) p.0 (mul-pos (down_pos e) (lit< tt)) s.0
    (bounded (suc m * up e * 2 ^ 520) (suc m * 2 ^ p.0) (down e) (2 ^ 1074) (2 ^ 1024) (pow_pos 1074) w
    (top (suc m * up e) (down e) (2 ^ 504) (2 ^ 520) (2 ^ 1024) (pow_pos 520) (pow-add 2 504 520) h))
    (w ∙ ap (λ (z : ℕ). suc m * 2 ^ p.0 * z) (sym (mul-one (down e))))
  where
    top : (a d P Q R : ℕ) → 0 < Q → R ≡ P * Q → a < P * d → a * Q < R * d
    top a d P Q R q e h = lt_of_lt_of_le (mul-lt-mul_of_pos_right h q) (le_of_eq (mul_right_comm P d Q ∙ ap (λ (z : ℕ). z * d) (sym e)))

raised_is : (r : Float) → NonNeg r → T (finite r) → T (fits binary64 r)
    → FiniteDouble (raised r) ⊎ (T (le (fin false 1 (pos 504)) r) × (raised r ≡ inf false))
unfolding raised mul
raised_is r (number m e) t f = ⊎_elim large small (le_or_lt (2 ^ 504 * down e) (m * up e))
  where
    a : ℕ
    a = m * up e * (1 * 2 ^ 520)

    b : ℕ
    b = down e * 1

    rounded : T (finite (round binary64 false a b)) → FiniteDouble (round binary64 false a b)
    rounded h = record { not_negative = round_nonneg binary64 a b; is_finite = h; is_double = round-fits binary64 false a b }

    large : 2 ^ 504 * down e ≤ m * up e
        → FiniteDouble (round binary64 false a b) ⊎ (T (le (fin false 1 (pos 504)) (fin false m e)) × (round binary64 false a b ≡ inf false))
    large l = ⊎_elim (λ h. inl (rounded h)) (λ h. inr (le_of_cross 1 (pos 504) m e (turned (2 ^ 504) (down e) (m * up e) l), h))
        (finite_or_infinite (round binary64 false a b) (round_nonneg binary64 a b))
      where
        turned : (P d a : ℕ) → P * d ≤ a → 1 * P * d ≤ a * 1
        turned P d a l = le_trans (le_of_eq (ap (λ (z : ℕ). z * d) (one-mul P))) (le_trans l (le_of_eq (sym (mul-one a))))

    small : m * up e < 2 ^ 504 * down e
        → FiniteDouble (round binary64 false a b) ⊎ (T (le (fin false 1 (pos 504)) (fin false m e)) × (round binary64 false a b ≡ inf false))
    small h = inl (rounded (kept_finite a b (exact_below m e f h)))
raised_is _ infinite t f = elim t [ ]

-- ---- the first sum

square_nonneg : (x : Float) → T (finite x) → NonNeg (square x)
unfolding square mul
square_nonneg (fin true m e) t = round_nonneg binary64 (m * up e * (m * up e)) (down e * down e)
square_nonneg (fin false m e) t = round_nonneg binary64 (m * up e * (m * up e)) (down e * down e)
square_nonneg nan t = elim t [ ]
square_nonneg (inf _) t = elim t [ ]

plus_nonneg : (x y : Float) → NonNeg x → NonNeg y → NonNeg (x ⊕ y)
unfolding add sum
plus_nonneg x y infinite infinite = infinite
plus_nonneg x y infinite (number n d) = infinite
plus_nonneg x y (number m e) infinite = infinite
plus_nonneg x y (number m e) (number n d) = round_nonneg binary64 (m * up e * down d + n * up d * down e) (down e * down d)

folded : (xs : List Float) (t : Float) → T (all_finite xs) → NonNeg t → NonNeg (foldl (λ t x. t ⊕ square x) t xs)
unfolding all_finite
folded [] t f p = p
folded (x ∷ xs) t f p =
    folded xs (t ⊕ square x) (and_r (finite x) (all_finite xs) f) (plus_nonneg t (square x) p (square_nonneg x (and_l (finite x) (all_finite xs) f)))

folded_fits : (xs : List Float) (t : Float) → T (fits binary64 t) → T (fits binary64 (foldl (λ t x. t ⊕ square x) t xs))
folded_fits [] t p = p
folded_fits (x ∷ xs) t p = folded_fits xs (t ⊕ square x) (add-fits binary64 t (square x))

sum_fits : (xs : List Float) → T (fits binary64 (sum_of_squares xs))
unfolding sum_of_squares fits
sum_fits xs = folded_fits xs nought tt

first_nonneg : (xs : List Float) → T (all_finite xs) → NonNeg (sum_of_squares xs)
unfolding sum_of_squares
first_nonneg xs f = folded xs nought f (number 0 (pos 0))

-- where it does not overflow it is finite
first_finite : (xs : List Float) → T (all_finite xs) → overflows xs ≡ false → T (finite (sum_of_squares xs))
unfolding overflows eq
first_finite xs f e = go (sum_of_squares xs) (all_finite xs) (first_nonneg xs f) f e
  where
    go : (s : Float) (t : Bool) → NonNeg s → T t → eq s (inf false) && t ≡ false → T (finite s)
    go s true infinite f e = subst T e tt
    go s t (number m c) f e = tt
    go _ false infinite f e = elim f [ ]

-- ---- the theorems

-- the root over a divisor from 1 on, of a sum that is a finite double
root_is_finite : (d s : Float) → T (le one d) → FiniteDouble s → FiniteDouble (root_over d s)
unfolding root_over
root_is_finite d s l p = let q = quotient_finite s d p l in rooted (s ⊘ d) q.not_negative q.is_finite q.is_double

-- "the second sum never overflows": of n finite doubles, n below 2 ^ 16, it is n × 2 ^ 1008 at most, which is a double
pub second_sum_bounded : (xs : List Float) → Doubles xs → T (all_finite xs) → length xs < 2 ^ 16
    → T (finite (second_sum xs)) × T (le (second_sum xs) (nearest (length xs * 2 ^ 1008) 1))
unfolding nearest
second_sum_bounded xs d f h = go (second_sum xs) (second_upto xs d f h)
  where
    go : (s : Float) → Upto (length xs * 2 ^ 1008) 1 s → T (finite s) × T (le s (round binary64 false (length xs * 2 ^ 1008) 1))
    go s (up_to m e l) = (
      tt,
      le_of_values (fin false m e) (round binary64 false (length xs * 2 ^ 1008) 1) (m * up e) (down e) (length xs * 2 ^ 1008) 1 (down_pos e) (lit< tt)
          (refl, refl) (kept_multiple (length xs) h) l,
    )

-- so wherever the second sum is taken it is finite: that is what the test on the entries is for
pub second_sum_taken : (xs : List Float) → Doubles xs → length xs < 2 ^ 16 → overflows xs ≡ true → T (finite (second_sum xs))
unfolding overflows
second_sum_taken xs d h e = (second_sum_bounded xs d (yes (and_right (eq (sum_of_squares xs) (inf false)) (all_finite xs) e)) h).0

-- of finite doubles the norm over a divisor from 1 on is a finite double, or its last product overflows
pub finite_or_overflows : (d : Float) (xs : List Float) → T (le one d) → Doubles xs → length xs < 2 ^ 16 → T (all_finite xs)
    → FiniteDouble (root_of_squares d xs) ⊎ LastProductOverflows d xs
unfolding root_of_squares
finite_or_overflows d xs l b h f = go (overflows xs) refl
  where
    second : Upto (length xs * 2 ^ 1008) 1 (second_sum xs)
    second = second_upto xs b f h

    go : (t : Bool) → overflows xs ≡ t
        → FiniteDouble (cond t (raised (root_over d (second_sum xs))) (root_over d (sum_of_squares xs))) ⊎ LastProductOverflows d xs
    go true e =
        let r = root_is_finite d (second_sum xs) l
        record { not_negative = upto_nonneg second; is_finite = upto_finite second; is_double = sum_fits (map lowered xs) } in
        ⊎_elim (λ f. inl f) (λ o. inr record {
          first_sum_overflows = e;
          second_sum_finite = upto_finite second;
          root_finite = r.is_finite;
          root_from = o.0;
          product_infinite = o.1;
        }) (raised_is (root_over d (second_sum xs)) r.not_negative r.is_finite r.is_double)
    go false e = inl (root_is_finite d (sum_of_squares xs) l
        record { not_negative = first_nonneg xs f; is_finite = first_finite xs f e; is_double = sum_fits xs })

-- document 02, CR 4: "The norm is then infinite only if an entry is not finite or that last product overflows."
pub infinite_only_if : (d : Float) (xs : List Float) → T (le one d) → Doubles xs → length xs < 2 ^ 16 → root_of_squares d xs ≡ inf false
    → (all_finite xs ≡ false) ⊎ LastProductOverflows d xs
infinite_only_if d xs l b h e = go (all_finite xs) refl
  where
    go : (t : Bool) → all_finite xs ≡ t → (t ≡ false) ⊎ LastProductOverflows d xs
    go false g = inl refl
    go true g = ⊎_elim (λ f. absurd (subst (λ (x : Float). T (finite x)) e f.is_finite)) (λ o. inr o) (finite_or_overflows d xs l b h (yes g))

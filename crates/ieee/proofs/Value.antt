-- A double is determined by its sign and its value (`same_value`), and rounding leaves it as it is (`round_own`); 0 rounds to 0 (`round_none`). So dividing by
-- 1 changes no double. Assumes nothing. ⊘ is an operation on doubles: it rounds.
use Rattle.std.proofs.Common.{◌≡◌, ℕ, zero, suc, ◌+◌, ◌-◌, ◌*◌, ◌/◌, ◌%◌, ◌^◌, ◌<◌, ◌≤◌, Bool, true, false, cond, ◌&&◌, T, eqb, ltb, leb, ℤ, pos, negsuc, sym, refl, ap, ◌∙◌, subst, le_of_eq, lt_of_lt_of_le, le_of_suc-le-suc, lt_irrefl, mul_assoc, lt_of_mul-lt-mul_right, mul-lt-mul_of_pos_right, mul-pos, one-mul, lt_of_not-le, zero-mul, mul-one, mul_right_comm, arith, lit<, ltb→lt, leb→le, pow_pos, pow-add}
use native.Mathlib.Nat.{eq_of_mul-eq-mul_right}
use lib.Pow.{pow-lt}
use lib.Ieee.{Float, nan, inf, fin, binary64, up, down, size, top, hid, fits, round, div, unlike, to_bits, of_bits}
use lib.Ieee.Fits.{down_pos, and_l, and_r, round-fits}
use lib.Ieee.Exact.{HasValue, round_exact}
use lib.Ieee.Nearest.{div_same}
use lib.Ieee.Scale.{round_same}
use lib.Ieee.Bits.{of_bits-to_bits}
use Rattle.ieee.specs.Double.{◌⊘◌, one}

-- ---- what `fits` says: few digits, not too many of them behind the point, not too large
pub says : (s : Bool) (m : ℕ) (e : ℤ) → T (fits binary64 (fin s (suc m) e)) → (suc m < 2 ^ 53) × (down e ≤ 2 ^ 1074) × (suc m * up e < 2 ^ 1024 * down e)
unfolding fits
says s m e h =
    let A = eqb (suc m % 2) 1 in
    let B = ltb (suc m) (2 ^ 53) in
    let C = leb (down e) (2 ^ 1074) in
    let D = ltb (suc m * up e) (2 ^ 1024 * down e) in (
      ltb→lt (suc m) (2 ^ 53) (and_r A B (and_l (A && B) C (and_l (A && B && C) D h))),
      leb→le (down e) (2 ^ 1074) (and_r (A && B) C (and_l (A && B && C) D h)),
      ltb→lt (suc m * up e) (2 ^ 1024 * down e) (and_r (A && B && C) D h),
    )

-- m * 2 ^ e is m * 2 ^ j units of 2 ^ -l
pub spot : (m : ℕ) (e : ℤ) (l : ℕ) → down e ≤ 2 ^ l → (j : ℕ) × (m * up e * 2 ^ l ≡ m * 2 ^ j * down e)
spot m (pos k) l h = (k + l, mul_assoc m (2 ^ k) (2 ^ l) ∙ ap (λ (x : ℕ). m * x) (sym (pow-add 2 k l)) ∙ sym (mul-one (m * 2 ^ (k + l))))
spot m (negsuc k) l h = (
  l - suc k,
  ap (λ (x : ℕ). x * 2 ^ l) (mul-one m)
      ∙ ap (λ (x : ℕ). m * x) (ap (λ (x : ℕ). 2 ^ x) (sym (join (back h))) ∙ pow-add 2 (l - suc k) (suc k)) ∙ sym (mul_assoc m (2 ^ (l - suc k)) (2 ^ suc k)),
)
  where
    back : 2 ^ suc k ≤ 2 ^ l → suc k ≤ l
    back h = le_of_suc-le-suc (lt_of_not-le (λ (g : suc l ≤ suc k). lt_irrefl (2 ^ l) (lt_of_lt_of_le (pow-lt g) h)))

    join : suc k ≤ l → l - suc k + suc k ≡ l
    join g = omega arith

-- n * L / d smallest values, from a value a / d below 2 ^ 1024
pub bounded : (a n d L E : ℕ) → 0 < L → a * L ≡ n * d → a < E * d → n < E * L
bounded a n d L E l e h = lt_of_mul-lt-mul_right d
    (subst (λ (x : ℕ). x < E * L * d) e (lt_of_lt_of_le (mul-lt-mul_of_pos_right h l) (le_of_eq (mul_right_comm E d L))))

-- ---- one double a value
same_bits : (s : Bool) (m : ℕ) (e : ℤ) (n : ℕ) (d : ℤ) → m * up e * down d ≡ n * up d * down e → to_bits binary64 (fin s m e) ≡ to_bits binary64 (fin s n d)
unfolding to_bits
same_bits s m e n d h = ap (λ (w : ℕ). let k = size w - 53 in cond s (top binary64) 0 + k * hid binary64 + w / 2 ^ k)
    (div_same (m * up e * 2 ^ 1074) (down e) (n * up d * 2 ^ 1074) (down d) (down_pos e) (down_pos d)
    (scale (m * up e) (down d) (n * up d) (down e) (2 ^ 1074) h))
  where
    scale : (a d b c l : ℕ) → a * d ≡ b * c → a * l * d ≡ b * l * c
    scale a d b c l h = mul_right_comm a l d ∙ ap (λ (x : ℕ). x * l) h ∙ mul_right_comm b c l

pub same_value : (x y : Float) (s : Bool) (a c : ℕ) → 0 < c → T (fits binary64 x) → T (fits binary64 y) → HasValue x s a c → HasValue y s a c → x ≡ y
same_value nan y s a c C p q v w = absurd v
same_value (inf t) y s a c C p q v w = absurd v
same_value (fin t m e) nan s a c C p q v w = absurd w
same_value (fin t m e) (inf u) s a c C p q v w = absurd w
same_value (fin t m e) (fin u n d) s a c C p q v w =
    sym (of_bits-to_bits binary64 (fin t m e) p)
    ∙ ap (λ (z : Bool). of_bits binary64 (to_bits binary64 (fin z m e))) (v.0 ∙ sym w.0)
    ∙ ap (of_bits binary64) (same_bits u m e n d (eq_of_mul-eq-mul_right c C (m * up e * down d) (n * up d * down e)
    (cross (m * up e) (n * up d) (down e) (down d) v.1 w.1)))
    ∙ of_bits-to_bits binary64 (fin u n d) q
  where
    cross : (x y d d' : ℕ) → x * c ≡ a * d → y * c ≡ a * d' → x * d' * c ≡ y * d * c
    cross x y d d' h k = mul_right_comm x d' c ∙ ap (λ (z : ℕ). z * d') h ∙ mul_right_comm a d d' ∙ ap (λ (z : ℕ). z * d) (sym k) ∙ mul_right_comm y c d

-- ---- rounding a double
exact : (s : Bool) (m : ℕ) (e : ℤ) → T (fits binary64 (fin s m e)) → HasValue (round binary64 s (m * up e) (down e)) s (m * up e) (down e)
exact s zero e h = round_exact binary64 s (0 * up e) (down e) 0 0 (down_pos e) (lit< tt) (lit< tt) (ap (λ (x : ℕ). x * 2 ^ 1074) (zero-mul (up e))
    ∙ zero-mul (2 ^ 1074) ∙ sym (zero-mul (down e)))
exact s (suc m) e h =
    let f = says s m e h in
    let p = spot (suc m) e 1074 f.1 in
    round_exact binary64 s (suc m * up e) (down e) (suc m) p.0 (down_pos e) f.0
    (bounded (suc m * up e) (suc m * 2 ^ p.0) (down e) (2 ^ 1074) (2 ^ 1024) (pow_pos 1074) p.1 f.2) p.1

pub round_own : (s : Bool) (m : ℕ) (e : ℤ) → T (fits binary64 (fin s m e)) → round binary64 s (m * up e) (down e) ≡ fin s m e
round_own s m e h = same_value (round binary64 s (m * up e) (down e)) (fin s m e) s (m * up e) (down e) (down_pos e) (round-fits binary64 s (m * up e) (down e))
    h (exact s m e h) (refl, refl)

-- 0 rounds to 0, whatever it is over
pub round_none : (s : Bool) (a c : ℕ) → 0 < c → a ≡ 0 → round binary64 s a c ≡ fin s 0 (pos 0)
round_none s a c h e = round_same binary64 s a c 0 1 h (lit< tt) (flat a c e) ∙ (unfold round in refl)
  where
    flat : (a c : ℕ) → a ≡ 0 → a * 1 ≡ 0 * c
    flat a c e = omega arith

-- ---- dividing by 1
own : (s : Bool) → unlike s false ≡ s
own true = refl
own false = refl

pub over_one : (x : Float) → T (fits binary64 x) → x ⊘ one ≡ x
unfolding div
over_one nan h = refl
over_one (inf s) h = ap inf (own s)
over_one (fin s m e) h =
    ap (λ (t : Bool). round binary64 t (m * up e * 1) (1 * 1 * down e)) (own s)
    ∙ round_same binary64 s (m * up e * 1) (1 * 1 * down e) (m * up e) (down e) (mul-pos (lit< tt) (down_pos e)) (down_pos e) (flat (m * up e) (down e))
    ∙ round_own s m e h
  where
    flat : (n d : ℕ) → n * 1 * d ≡ n * (1 * 1 * d)
    flat n d = simp (mul-one, one-mul)

-- Rust's cast to a whole number of 64 bits keeps the order of the doubles that are not negative (`cast_mono`), and the maximum of a double and a small whole
-- number may be taken before the cast or after it (`cast_of_max`). Assumes nothing.
use Rattle.std.proofs.Common.{◌≡◌, ℕ, suc, ◌+◌, ◌-◌, ◌*◌, ◌/◌, ◌^◌, ◌<◌, ◌≤◌, min, max, Bool, true, false, cond, not, T, ltb, pos, ap, ◌∙◌, le_refl, zero-lt-suc, div-lt_iff_lt-mul, mul-pos, le-div_iff_mul-le, mul-one, div-one, arith, ltb→lt, lt→ltb, nltb→le}
use lib.Ieee.{Float, nan, inf, fin, up, down, le, to_unsigned}
use lib.Ieee.Fits.{down_pos}
use lib.Ieee.Bits.{is_true}
use lib.Ieee.Nearest.{div_mono}
use Rattle.ieee.specs.Whole as Whole
use Rattle.ieee.proofs.Monotone.{NonNeg, infinite, number, cross}

pub cast_mono : (x y : Float) → NonNeg x → NonNeg y → T (le x y) → to_unsigned 64 x ≤ to_unsigned 64 y
unfolding to_unsigned
cast_mono x y infinite infinite h = le_refl (2 ^ 64 - 1)
cast_mono x y (number m e) infinite h = capped (m * up e / down e)
  where
    capped : (a : ℕ) → min a (2 ^ 64 - 1) ≤ 2 ^ 64 - 1
    capped a = omega arith
cast_mono x y infinite (number n d) h = absurd (unfold le in h)
cast_mono x y (number m e) (number n d) h = mins (m * up e / down e) (n * up d / down d)
    (div_mono (m * up e) (down e) (n * up d) (down d) (down_pos e) (down_pos d) (cross m e n d h))
  where
    mins : (a b : ℕ) → a ≤ b → min a (2 ^ 64 - 1) ≤ min b (2 ^ 64 - 1)
    mins a b h = omega arith

-- the whole number is k + 1
module _ (k : ℕ) (small : suc k < 2 ^ 64) where
  abbrev limit : Float
  limit = fin false (suc k) (pos 0)

  limit_cast : to_unsigned 64 limit ≡ suc k
  unfolding to_unsigned
  limit_cast = go (suc k * 1 / 1) (div-one (suc k * 1) ∙ mul-one (suc k))
    where
      go : (q : ℕ) → q ≡ suc k → min q (2 ^ 64 - 1) ≡ suc k
      go q e = omega arith

  low : suc k ≡ max 0 (suc k)
  low = omega arith

  pub cast_of_max : (x : Float) → to_unsigned 64 (Whole.max x limit) ≡ max (to_unsigned 64 x) (suc k)
  unfolding Whole.max to_unsigned
  cast_of_max nan = limit_cast ∙ low
  cast_of_max (inf true) = limit_cast ∙ low
  cast_of_max (inf false) = high
    where
      high : 2 ^ 64 - 1 ≡ max (2 ^ 64 - 1) (suc k)
      high = omega arith
  cast_of_max (fin true m e) = ap (λ (b : Bool). to_unsigned 64 (cond b limit (fin true m e)))
      (is_true (ltb 0 (m * up e * 1 + suc k * 1 * down e)) (lt→ltb 0 (m * up e * 1 + suc k * 1 * down e) (some (m * up e * 1) (down e) (down_pos e))))
      ∙ limit_cast ∙ low
    where
      some : (a d : ℕ) → 0 < d → 0 < a + suc k * 1 * d
      some a d h = omega (arith, mul-pos (zero-lt-suc k) h)
  cast_of_max (fin false m e) = go (ltb (m * up e * 1) (suc k * 1 * down e)) (ltb→lt (m * up e * 1) (suc k * 1 * down e))
      (nltb→le (m * up e * 1) (suc k * 1 * down e))
    where
      below : (n d : ℕ) → n * 1 < suc k * 1 * d → n < suc k * d
      below n d h = omega arith

      from : (n d : ℕ) → suc k * 1 * d ≤ n * 1 → suc k * d ≤ n
      from n d h = omega arith

      less : (q : ℕ) → q < suc k → suc k ≡ max (min q (2 ^ 64 - 1)) (suc k)
      less q h = omega arith

      more : (q : ℕ) → suc k ≤ q → min q (2 ^ 64 - 1) ≡ max (min q (2 ^ 64 - 1)) (suc k)
      more q h = omega arith

      go : (b : Bool) → (T b → m * up e * 1 < suc k * 1 * down e) → (T (not b) → suc k * 1 * down e ≤ m * up e * 1)
          → to_unsigned 64 (cond b limit (fin false m e)) ≡ max (min (m * up e / down e) (2 ^ 64 - 1)) (suc k)
      go true h l = limit_cast ∙ less (m * up e / down e) ((div-lt_iff_lt-mul (down_pos e)).1 (below (m * up e) (down e) (h tt)))
      go false h l = more (m * up e / down e) ((le-div_iff_mul-le (down_pos e)).1 (from (m * up e) (down e) (l tt)))

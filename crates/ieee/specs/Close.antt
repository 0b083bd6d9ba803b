-- A double as a fraction, and when it is within 2 ^ -n, relatively, of another. Document 01, demand 3. Definitions only.
-- ⊖ is an operation on fractions: it is exact.
use Rattle.std.specs.Prelude.{ℕ, ◌*◌, ◌^◌, ◌≤◌, Bool, true, false, T, ℤ, pos, neg_ℤ, unsigned_abs, Float}
use Rattle.std.specs.Float.{nan, inf, fin}
use Rattle.std.specs.Float.Ieee.Positive.{num, den, den_pos}
use Rattle.std.specs.Float.Ieee.Scale.{finite}
use Rattle.fractions.specs.Frac.{Frac, ◌⊖◌}

abbrev pub signed : Bool → ℕ → ℤ
signed true m = neg_ℤ (pos m)
signed false m = pos m

abbrev pub sign : Float → Bool
sign nan = false
sign (inf s) = s
sign (fin s m e) = s

-- (of a NaN and an infinity nothing is meant)
unfoldable pub value : Float → Frac
value x = record { num = signed (sign x) (num x); den = den x; positive = den_pos x }

-- |x − q| · 2 ^ n ≤ |q|. So x is a zero where q is 0.
pub record Close (n : ℕ) (x : Float) (q : Frac) : Type 0 where
  pub number : T (finite x)
  pub near : unsigned_abs (value x ⊖ q).num * 2 ^ n * q.den ≤ unsigned_abs q.num * (value x ⊖ q).den

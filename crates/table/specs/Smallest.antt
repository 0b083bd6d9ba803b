-- The smallest count whose threshold is at least r. Document 02, CR 1.
use Rattle.std.specs.Prelude.{ℕ, zero, suc, cond, Float}
use Rattle.std.specs.Float.Ieee.{le}

-- of the n counts from s on, and the count after them where none is
unfoldable pub smallest : (ℕ → Float) → Float → ℕ → ℕ → ℕ
smallest threshold r zero s = s
smallest threshold r (suc n) s = cond (le r (threshold s)) s (smallest threshold r n (suc s))

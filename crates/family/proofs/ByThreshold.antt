-- The search over RKMC2's thresholds, from their rising: `table`'s search at 997 counts from 3 on. And what the rule gives: a count from 3 to 1000, which the
-- limits leave as it is (`rkmc2_count`). Assumes nothing.
use mathlib.Core.Path.{◌≡◌}
use mathlib.Core.Bool.{true, false}
use Prim.Native.Nat.{ℕ, suc, ◌+◌, ◌-◌, ◌^◌, ◌≤◌, ◌<◌, min}
use native.Mathlib.Omega.{arith}
use lib.Dec.{T}
use lib.Ieee.{Float, le}
use lib.Ieee.Positive.{positive}
use Rattle.ieee.specs.Double.{nought}
use Rattle.ieee.specs.Whole as Whole
use Rattle.table.specs.Smallest.{smallest}
use Rattle.table.proofs.Order.{le_of_less}
use Rattle.table.proofs.Search as search-by
use Rattle.table.proofs.Search.{Bracket, smallest_from, smallest_to}
use Rattle.rkmc2_threshold.specs.Table.{threshold}
use Rattle.rkmc2_threshold.proofs.Rising.{above_zero, rises}
use Rattle.family.specs.declared.Family.TheVariants.{RKMC2}
use Rattle.family.specs.Family.{smallest_count, largest_count, odd_only, odd_step, limited, before_limits, by_rule, radius_for, facts_of}
use Rattle.family.specs.Family.{stage_count}

some : (i : ℕ) → 3 ≤ i → i < 3 + 997 → T (positive (threshold i))
some i l h = above_zero i l (omega arith)

rise : (i : ℕ) → 3 ≤ i → suc i < 3 + 997 → T (le (threshold i) (threshold (suc i)))
rise i l h = le_of_less (threshold i) (threshold (suc i)) (rises i l (omega arith))

-- the answer is from low to high
abbrev pub Between : Float → ℕ → ℕ → Type 0
Between r low high = Bracket threshold r 3 997 low high

module _ (r : Float) where
  pub all : Between r 3 1000
  all = search-by.bracket_all threshold r 3 997 some rise

  pub lower : (low high m : ℕ) → Between r low high → low ≤ m → m < high → le r (threshold m) ≡ true → Between r low m
  lower = search-by.bracket_lower threshold r 3 997 some rise

  pub higher : (low high m : ℕ) → Between r low high → low ≤ m → m < high → le r (threshold m) ≡ false → Between r (m + 1) high
  higher = search-by.bracket_higher threshold r 3 997 some rise

  pub found : (low high : ℕ) → Between r low high → high ≤ low → smallest threshold r 997 3 ≡ low
  found = search-by.found threshold r 3 997 some rise

-- ---- from 3 to 1000

pub rule_kept : (r : Float) → smallest threshold r 997 3 ≡ min (smallest threshold r 997 3) (2 ^ 64 - 1)
rule_kept r = omega (arith, smallest_to threshold r 997 3)

pub rkmc2_count : (q r : Float) → stage_count RKMC2 q r ≡ smallest threshold (Whole.max r nought) 997 3
unfolding stage_count before_limits limited odd_step odd_only smallest_count largest_count by_rule radius_for facts_of
rkmc2_count q r = let x = Whole.max r nought in omega (arith, smallest_from threshold x 997 3, smallest_to threshold x 997 3)

-- The counts of an infinite r, of what counts as 0, of RKC: in 2 to 200, and 200 where the root reaches 2 ^ 64; of RKMC2: in 3 to 1000, 3 for a NaN and 1000
-- for an infinite r; and of TSRKC2: in 2 to 1000, 2 for a NaN, and the number before limits itself wherever the need is not refused. Assumes nothing.
-- ⊕ ⊖ ⊗ are operations on doubles: they round.
use mathlib.Core.Path.{◌≡◌, refl, sym, ap, ◌∙◌, subst}
use Prim.Native.Nat.{ℕ, ◌+◌, ◌-◌, ◌*◌, ◌^◌, ◌≤◌, ◌<◌, max}
use native.Mathlib.Nat.{le-div_iff_mul-le, mul-le-mul_right}
use native.Mathlib.Omega.{arith}
use mathlib.Core.Bool.{Bool, true, false, ◌&&◌, cond}
use lib.IntN.{pos}
use lib.Dec.{T, ltb, eqb, eqb→eq, lit≤, lit<}
use lib.Ieee.{Float, nan, inf, fin, binary64, up, down, lt, le, to_unsigned, add, sub, mul, round, of_bits}
use borrow.Author.Tests.{ltb-true, ltb-false}
use lib.Ieee.Fits.{and_r, down_pos}
use lib.Ieee.Order.{round_mono}
use Rattle.ieee.specs.Double.{◌⊕◌, ◌⊖◌, ◌⊗◌, nearest, nought, one}
use Rattle.ieee.specs.Sqrt.{sqrt}
use Rattle.ieee.specs.Whole.{floor, ceil, cut}
use Rattle.ieee.specs.Whole as Whole
use Rattle.table.specs.Smallest.{smallest}
use Rattle.rkmc2_threshold.specs.Table.{threshold}
use Rattle.ieee.proofs.Monotone.{cross, round_nonneg}
use Rattle.ieee.proofs.Casts.{cast_mono}
use Rattle.family.specs.declared.Family.{Family}
use Rattle.family.specs.declared.Family.TheVariants.{RKC, RKL1, RKL2, RKG1, RKG2, RKMC2, TSRKC2}
use Rattle.family.specs.Family.{smallest_count, largest_count, odd_only}
use Rattle.family.specs.Family.{keeps_older, before_limits, number_of_stages, odd_step, limited, stage_count, exceeds, facts_of, by_rule, radius_for}
use Rattle.family.proofs.Range.{rkc_between, rkmc2_between, permitted_range}
use Rattle.family.proofs.Limits.{limited_largest}
use Rattle.family.proofs.Counts.{stage_count_permitted}

-- ---- an infinite r gives the largest, but in TSRKC2, which refuses more than the largest
pub infinite_count : (f : Family) (q : Float) → (f ≡ TSRKC2 → ⊥) → stage_count f q (inf false) ≡ largest_count f
unfolding stage_count before_limits limited odd_step odd_only smallest_count largest_count Whole.max lt nearest add sub mul sqrt floor ceil to_unsigned
    by_rule radius_for facts_of smallest threshold of_bits le
infinite_count RKC q h = refl
infinite_count RKL1 q h = refl
infinite_count RKL2 q h = refl
infinite_count RKG1 q h = refl
infinite_count RKG2 q h = refl
infinite_count RKMC2 q h = refl
infinite_count TSRKC2 q h = absurd (h refl)

-- ---- a NaN and what is below 0 count as 0, but in TSRKC2
from_zero : (f : Family) (r : Float) → (f ≡ TSRKC2 → ⊥) → radius_for (facts_of f).rule r ≡ Whole.max r nought
unfolding facts_of radius_for
from_zero RKC r h = refl
from_zero RKL1 r h = refl
from_zero RKL2 r h = refl
from_zero RKG1 r h = refl
from_zero RKG2 r h = refl
from_zero RKMC2 r h = refl
from_zero TSRKC2 r h = absurd (h refl)

counted_as : (f : Family) (q r x : Float) → (f ≡ TSRKC2 → ⊥) → Whole.max r nought ≡ Whole.max x nought
    → stage_count f q r ≡ stage_count f q x
unfolding stage_count
counted_as f q r x h e = ap (λ (z : Float). limited f (before_limits f q z)) (from_zero f r h ∙ e ∙ sym (from_zero f x h))

pub nan_count : (f : Family) (q : Float) → (f ≡ TSRKC2 → ⊥) → stage_count f q nan ≡ stage_count f q nought
unfolding Whole.max lt
nan_count f q h = counted_as f q nan nought h refl

pub negative_count : (f : Family) (q r : Float) → (f ≡ TSRKC2 → ⊥) → lt r nought ≡ true → stage_count f q r ≡ stage_count f q nought
unfolding Whole.max lt
negative_count f q r one-step h = counted_as f q r nought one-step (go r h)
  where
    go : (r : Float) → lt r nought ≡ true → Whole.max r nought ≡ Whole.max nought nought
    go nan h = refl
    go (inf s) h = ap (λ (b : Bool). cond b nought (inf s)) h
    go (fin s m e) h = ap (λ (b : Bool). cond b nought (fin s m e)) h

-- ---- TSRKC2: in 2 to 1000; a NaN gives 2; more than 1000 is refused
pub tsrkc2_nan : (q : Float) → (stage_count TSRKC2 q nan ≡ 2) × (exceeds TSRKC2 q nan ≡ false)
unfolding stage_count exceeds before_limits limited odd_step odd_only smallest_count largest_count nearest add sub mul sqrt floor to_unsigned by_rule radius_for
    facts_of
tsrkc2_nan q = (
  (not_number (one ⊖ q ⊕ sqrt (one ⊕ q ⊗ (q ⊖ nearest 598626091572911 1000000000000000)))).0,
  (not_number (one ⊖ q ⊕ sqrt (one ⊕ q ⊗ (q ⊖ nearest 598626091572911 1000000000000000)))).1,
)
  where
    number : Float → ℕ
    number x = to_unsigned 64 (floor (sqrt (one ⊕ nearest 759782816506459 1000000000000000 ⊗ nan ⊗ x))) + 1

    not_number : (x : Float) → (limited TSRKC2 (number x) ≡ 2) × (ltb 1000 (number x) ≡ false)
    not_number nan = (refl, refl)
    not_number (inf s) = (refl, refl)
    not_number (fin s m e) = (refl, refl)

-- its count is the number before limits and 2 at least, wherever that is no more than 1000; more is refused, and nothing else
pub tsrkc2_met : (q r : Float) → exceeds TSRKC2 q r ≡ false → stage_count TSRKC2 q r ≡ max (number_of_stages TSRKC2 q r) 2
unfolding exceeds stage_count limited odd_step odd_only smallest_count largest_count facts_of
tsrkc2_met q r e = let l = ltb-false 1000 (number_of_stages TSRKC2 q r) e in omega (arith, l)

pub tsrkc2_exceeds : (q r : Float) → exceeds TSRKC2 q r ≡ true → 1000 < number_of_stages TSRKC2 q r
unfolding exceeds largest_count facts_of
tsrkc2_exceeds q r e = ltb-true 1000 (number_of_stages TSRKC2 q r) e

-- an infinite r without a history is refused
pub tsrkc2_infinite : exceeds TSRKC2 nought (inf false) ≡ true
unfolding exceeds before_limits largest_count nearest add sub mul sqrt floor to_unsigned by_rule radius_for facts_of
tsrkc2_infinite = refl

-- it keeps an older state; no other family does, and none refuses a need
pub tsrkc2_keeps : keeps_older TSRKC2 ≡ true
unfolding keeps_older facts_of
tsrkc2_keeps = refl

pub only_tsrkc2 : (f : Family) → (f ≡ TSRKC2 → ⊥) → (keeps_older f ≡ false) × ((q r : Float) → exceeds f q r ≡ false)
unfolding keeps_older exceeds facts_of
only_tsrkc2 RKC h = (refl, λ q r. refl)
only_tsrkc2 RKL1 h = (refl, λ q r. refl)
only_tsrkc2 RKL2 h = (refl, λ q r. refl)
only_tsrkc2 RKG1 h = (refl, λ q r. refl)
only_tsrkc2 RKG2 h = (refl, λ q r. refl)
only_tsrkc2 RKMC2 h = (refl, λ q r. refl)
only_tsrkc2 TSRKC2 h = absurd (h refl)

pub tsrkc2_range : (q r : Float) → (2 ≤ stage_count TSRKC2 q r) × (stage_count TSRKC2 q r ≤ 1000)
tsrkc2_range q r = permitted_range TSRKC2 (stage_count TSRKC2 q r) (stage_count_permitted TSRKC2 q r)

-- ---- RKC
pub rkc_range : (q r : Float) → (2 ≤ stage_count RKC q r) × (stage_count RKC q r ≤ 200)
rkc_range q r = rkc_between (stage_count RKC q r) (stage_count_permitted RKC q r)

-- where the root reaches 2 ^ 64 the cast is 2 ^ 64 - 1, and the number before limits is far above the largest count
from_too_many : (y : Float) → T (le (nearest (2 ^ 64) 1) y) → 200 ≤ to_unsigned 64 (floor y) + 1
unfolding nearest le floor to_unsigned
from_too_many nan h = absurd h
from_too_many (inf true) h = absurd h
from_too_many (inf false) h = lit≤ tt
from_too_many (fin true m e) h = absurd (none (down e) (m * up e * 1) (down_pos e) h)
  where
    none : (d b : ℕ) → 0 < d → T (eqb (2 ^ 64 * d) b && eqb (2 ^ 64 * d) 0) → ⊥
    none d b p t = let z = eqb→eq (2 ^ 64 * d) 0 (and_r (eqb (2 ^ 64 * d) b) (eqb (2 ^ 64 * d) 0) t) in omega arith
from_too_many (fin false m e) h =
    let c : 2 ^ 64 ≤ cut m e = (le-div_iff_mul-le (down_pos e)).1 (from (m * up e) (down e) (cross 1 (pos 64) m e h)) in
    enough (cast_mono (round binary64 false (2 ^ 64) 1) (round binary64 false (cut m e) 1) (round_nonneg binary64 (2 ^ 64) 1)
    (round_nonneg binary64 (cut m e) 1) (round_mono binary64 (2 ^ 64) 1 (cut m e) 1 (lit< tt) (lit< tt) (mul-le-mul_right 1 c)))
  where
    from : (n d : ℕ) → 1 * 2 ^ 64 * d ≤ n * 1 → 2 ^ 64 * d ≤ n
    from n d h = omega arith

    enough : {c : ℕ} → 2 ^ 64 - 1 ≤ c → 200 ≤ c + 1
    enough h = omega arith

pub rkc_from_too_many : (q r : Float) → T (le (nearest (2 ^ 64) 1) (sqrt (nearest 154 100 ⊗ Whole.max r nought ⊕ one))) → stage_count RKC q r ≡ 200
unfolding stage_count before_limits largest_count by_rule radius_for facts_of
rkc_from_too_many q r h = limited_largest RKC _ (from_too_many (sqrt (nearest 154 100 ⊗ Whole.max r nought ⊕ one)) h)

-- ---- RKMC2
pub rkmc2_range : (q r : Float) → (3 ≤ stage_count RKMC2 q r) × (stage_count RKMC2 q r ≤ 1000)
rkmc2_range q r = rkmc2_between (stage_count RKMC2 q r) (stage_count_permitted RKMC2 q r)

pub rkmc2_nan : (q : Float) → stage_count RKMC2 q nan ≡ 3
unfolding stage_count before_limits limited odd_step odd_only smallest_count largest_count Whole.max lt by_rule radius_for facts_of smallest threshold
    of_bits le
rkmc2_nan q = refl

pub rkmc2_infinite : (q : Float) → stage_count RKMC2 q (inf false) ≡ 1000
unfolding largest_count facts_of
rkmc2_infinite q = infinite_count RKMC2 q (λ e. subst other e tt)
  where
    other : Family → Type 0
    other RKC = Unit {0}
    other RKL1 = Unit {0}
    other RKL2 = Unit {0}
    other RKG1 = Unit {0}
    other RKG2 = Unit {0}
    other RKMC2 = Unit {0}
    other TSRKC2 = ⊥

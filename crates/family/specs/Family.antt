-- The families, and how many stages each runs: family.rs, and for TSRKC2 the head of `run_tsrkc2`. Document 01, "family.rs: stage counts", and document 02,
-- CR 1, CR 3, CR 5 and CR 6.
-- ⊕ ⊖ ⊗ are operations on doubles: they round.
use Rattle.std.specs.Prelude.{ℕ, ◌+◌, ◌%◌, min, max, Bool, true, false, cond, not, ◌&&◌, ◌||◌, leb, ltb, eqb, Float}
use Rattle.std.specs.Float.Ieee.{to_unsigned}
use Rattle.ieee.specs.Double.{◌⊕◌, ◌⊖◌, ◌⊗◌, nearest, nought, half, one, three, four, eight, nine, ten, twelve, twenty_five}
use Rattle.ieee.specs.Sqrt.{sqrt}
use Rattle.ieee.specs.Whole.{floor, ceil}
use Rattle.ieee.specs.Whole as Whole
use Rattle.table.specs.Smallest.{smallest}
use Rattle.rkmc2_threshold.specs.Table.{threshold}
use Rattle.family.specs.declared.Family.{Family}
use Rattle.family.specs.declared.Family.TheVariants.{RKC, RKL1, RKL2, RKG1, RKG2, RKMC2, TSRKC2}
use Rattle.family.specs.declared.Setting.{Setting}
use Rattle.family.specs.declared.Facts.{Facts}
use Rattle.family.specs.declared.StageRule.{StageRule}
use Rattle.family.specs.declared.StageRule.TheVariants.{RoundedDown, RoundedUp, ByThreshold, WithQuotient}
use Rattle.family.specs.declared.RowForm.TheVariants.{ChebyshevRow, OrthogonalRow, InitialFirstRow, PlainRow}
use Rattle.family.specs.declared.ErrorForm.TheVariants.{FirstDerivative, BothDerivatives, LastDerivative}
use Rattle.family.specs.declared.CandidateForm.TheVariants.{LastStage, Combined, WithOlder}

-- the families are numbered 1 to 7 in the order of the code's enum
abbrev pub family_count : ℕ
family_count = 7

unfoldable pub known : ℕ → Bool
known number = leb 1 number && leb number family_count

unfoldable pub family_of : ℕ → Family
family_of number =
    cond (eqb number 1) RKC
    (cond (eqb number 2) RKL1
    (cond (eqb number 3) RKL2
    (cond (eqb number 4) RKG1
    (cond (eqb number 6) RKMC2
    (cond (eqb number 7) TSRKC2 RKG2)))))

-- What an attempt runs under: its family, given by number; whether there is a history, a step accepted before; and q, the last accepted step over the present
-- one, 0 without a history (document 02, CR 6: TSRKC2 alone reads the two).
abbrev pub setting : ℕ → Bool → Float → Setting
setting number history q = record { family = family_of number; history = history; quotient = q }

abbrev pub kind : Setting → Family
kind m = m.family

-- The four families of orthogonal.rs, by the polynomial that each is made of: those of demand 3.
pub data Orthogonal : Type 0 where
  Legendre1 Legendre2 Gegenbauer1 Gegenbauer2 : Orthogonal

unfoldable pub made_of : Orthogonal → Family
made_of Legendre1 = RKL1
made_of Legendre2 = RKL2
made_of Gegenbauer1 = RKG1
made_of Gegenbauer2 = RKG2

-- ---- each family's facts: its permitted counts (smallest, largest, only odd ones), its stage rule, whether a need of more than the largest count is refused
-- where others run the largest, whether its area keeps an older state, and the forms of its rows, its error and its candidate

-- the largest count of any family, RKMC2's and TSRKC2's
abbrev pub most_stages : ℕ
most_stages = 1000

-- what RKL and RKG share
abbrev pub orthogonal : ℕ → ℕ → Bool → StageRule → Facts
orthogonal smallest largest odd rule = record {
  smallest = smallest;
  largest = largest;
  odd_only = odd;
  rule = rule;
  refuses_more = false;
  keeps_older = false;
  row = OrthogonalRow;
  error = FirstDerivative;
  candidate = LastStage;
}

unfoldable pub facts_of : Family → Facts
facts_of RKC = record {
  smallest = 2;
  largest = 200;
  odd_only = false;
  rule = RoundedDown (nearest 154 100);
  refuses_more = false;
  keeps_older = false;
  row = ChebyshevRow;
  error = BothDerivatives;
  candidate = LastStage;
}
facts_of RKL1 = orthogonal 3 199 true (RoundedUp one four one)
facts_of RKL2 = orthogonal 3 199 true (RoundedUp nine eight one)
-- (RKG's slopes are half of the Rust's: CR 5)
facts_of RKG1 = orthogonal 2 200 false (RoundedUp nine eight three)
facts_of RKG2 = orthogonal 3 200 false (RoundedUp twenty_five twelve three)
facts_of RKMC2 = record {
  smallest = 3;
  largest = most_stages;
  odd_only = false;
  rule = ByThreshold;
  refuses_more = false;
  keeps_older = false;
  row = InitialFirstRow;
  error = LastDerivative ten;
  candidate = Combined;
}
facts_of TSRKC2 = record {
  smallest = 2;
  largest = most_stages;
  odd_only = false;
  rule = WithQuotient (nearest 759782816506459 1000000000000000) (nearest 598626091572911 1000000000000000);
  refuses_more = true;
  keeps_older = true;
  row = PlainRow;
  error = LastDerivative three;
  candidate = WithOlder;
}

-- ---- permitted counts

unfoldable pub smallest_count : Family → ℕ
smallest_count f = (facts_of f).smallest

unfoldable pub largest_count : Family → ℕ
largest_count f = (facts_of f).largest

unfoldable pub odd_only : Family → Bool
odd_only f = (facts_of f).odd_only

unfoldable pub permitted : Family → ℕ → Bool
permitted f s = leb (smallest_count f) s && leb s (largest_count f) && (not (odd_only f) || eqb (s % 2) 1)

-- ---- whether it keeps, beside the accepted state, the state accepted before it: `previous_accepted_state`

unfoldable pub keeps_older : Family → Bool
keeps_older f = (facts_of f).keeps_older

-- ---- the stage rule

-- The whole number before limits, of q and the scaled radius r; by thresholds the smallest count from 3 to 999 whose threshold is at least r, else 1000.
-- RKL and RKG multiply by 0.5 (CR 3) where document 01 divides by 2, which gives the same number: `Divided`.
unfoldable pub by_rule : StageRule → Float → Float → ℕ
by_rule (RoundedDown slope) q r = to_unsigned 64 (floor (sqrt (slope ⊗ r ⊕ one))) + 1
by_rule (RoundedUp offset slope shift) q r = to_unsigned 64 (ceil ((sqrt (offset ⊕ slope ⊗ r) ⊖ shift) ⊗ half))
by_rule ByThreshold q r = smallest threshold r 997 3
by_rule (WithQuotient slope bend) q r = to_unsigned 64 (floor (sqrt (one ⊕ slope ⊗ r ⊗ (one ⊖ q ⊕ sqrt (one ⊕ q ⊗ (q ⊖ bend)))))) + 1

unfoldable pub before_limits : Family → Float → Float → ℕ
before_limits f q r = by_rule (facts_of f).rule q r

-- an even number goes up by one, where only odd ones are permitted
unfoldable pub odd_step : Family → ℕ → ℕ
odd_step f m = cond (odd_only f && eqb (m % 2) 0) (m + 1) m

unfoldable pub limited : Family → ℕ → ℕ
limited f m = min (odd_step f (max m (smallest_count f))) (largest_count f)

-- the r that a rule takes: a NaN and a negative r count as 0, but in TSRKC2, which takes r as it is
unfoldable pub radius_for : StageRule → Float → Float
radius_for (RoundedDown slope) r = Whole.max r nought
radius_for (RoundedUp offset slope shift) r = Whole.max r nought
radius_for ByThreshold r = Whole.max r nought
radius_for (WithQuotient slope bend) r = r

abbrev pub number_of_stages : Family → Float → Float → ℕ
number_of_stages f q r = before_limits f q (radius_for (facts_of f).rule r)

unfoldable pub stage_count : Family → Float → Float → ℕ
stage_count f q r = limited f (number_of_stages f q r)

-- whether the number before limits is more than the largest count, in a family that refuses such a need: number 11 (document 02, CR 6)
unfoldable pub exceeds : Family → Float → Float → Bool
exceeds f q r = (facts_of f).refuses_more && ltb (largest_count f) (number_of_stages f q r)

-- The stage counts with a division in RKL's and RKG's rule, the form of document 01 and the Rust: (√(offset + slope · r) − shift) / 2 where `by_rule`
-- multiplies by 0.5. RKG's slopes are those of CR 5 here too. Nothing is counted by it; it is here to be compared with. Document 02, CR 3.
-- ⊕ ⊖ ⊗ ⊘ are operations on doubles: they round.
use Rattle.std.specs.Prelude.{ℕ, Float}
use Rattle.std.specs.Float.Ieee.{to_unsigned}
use Rattle.ieee.specs.Double.{◌⊕◌, ◌⊖◌, ◌⊗◌, ◌⊘◌, two}
use Rattle.ieee.specs.Sqrt.{sqrt}
use Rattle.ieee.specs.Whole.{ceil}
use Rattle.family.specs.declared.StageRule.{StageRule}
use Rattle.family.specs.declared.StageRule.TheVariants.{RoundedDown, RoundedUp, ByThreshold, WithQuotient}
use Rattle.family.specs.declared.Family.{Family}
use Rattle.family.specs.Family.{facts_of, by_rule, radius_for, limited}

unfoldable pub by_division : StageRule → Float → Float → ℕ
by_division (RoundedDown slope) q r = by_rule (RoundedDown slope) q r
by_division (RoundedUp offset slope shift) q r = to_unsigned 64 (ceil ((sqrt (offset ⊕ slope ⊗ r) ⊖ shift) ⊘ two))
by_division ByThreshold q r = by_rule ByThreshold q r
by_division (WithQuotient slope bend) q r = by_rule (WithQuotient slope bend) q r

unfoldable pub divided_count : Family → Float → Float → ℕ
divided_count f q r = let rule = (facts_of f).rule in limited f (by_division rule q (radius_for rule r))

-- Every rule gives the number of the rule with the division (`rule_divided`), so every stage count is the one that the division gives, for every family and
-- all doubles q and r (`stage_count_divided`): a double times 0.5 is that double divided by 2. Assumes nothing. ⊕ ⊖ ⊗ are operations on doubles: they round.
use mathlib.Core.Path.{◌≡◌, refl, ap}
use lib.Ieee.{Float, to_unsigned}
use Rattle.ieee.specs.Double.{◌⊕◌, ◌⊖◌, ◌⊗◌}
use Rattle.ieee.specs.Sqrt.{sqrt}
use Rattle.ieee.specs.Whole.{ceil}
use Rattle.ieee.proofs.Halved.{halved}
use Rattle.family.specs.declared.StageRule.{StageRule}
use Rattle.family.specs.declared.StageRule.TheVariants.{RoundedDown, RoundedUp, ByThreshold, WithQuotient}
use Rattle.family.specs.declared.Family.{Family}
use Rattle.family.specs.Family.{facts_of, by_rule, radius_for, before_limits, limited, stage_count}
use Rattle.family.specs.Divided.{by_division, divided_count}

pub rule_divided : (rule : StageRule) (q r : Float) → by_rule rule q r ≡ by_division rule q r
unfolding by_rule by_division
rule_divided (RoundedDown slope) q r = refl
rule_divided (RoundedUp offset slope shift) q r = ap (λ (x : Float). to_unsigned 64 (ceil x)) (halved (sqrt (offset ⊕ slope ⊗ r) ⊖ shift))
rule_divided ByThreshold q r = refl
rule_divided (WithQuotient slope bend) q r = refl

pub stage_count_divided : (f : Family) (q r : Float) → stage_count f q r ≡ divided_count f q r
unfolding stage_count divided_count before_limits
stage_count_divided f q r = let rule = (facts_of f).rule in ap (limited f) (rule_divided rule q (radius_for rule r))

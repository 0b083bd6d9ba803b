-- The rule gives the counts of the twelve marked cases, by computation.
use lib.Dec.{T}
use lib.Ieee.{lt, add, sub, mul, to_unsigned}
use Rattle.ieee.specs.Double.{nearest}
use Rattle.ieee.specs.Sqrt.{sqrt}
use Rattle.ieee.specs.Whole.{floor, ceil}
use Rattle.ieee.specs.Whole as Whole
use Rattle.family.specs.Family.{smallest_count, largest_count, odd_only, before_limits, odd_step, limited, stage_count, facts_of, by_rule, radius_for}
use Rattle.family.specs.Marked.{marked, right, all_right}

pub marked_right : T (all_right marked)
unfolding all_right right marked stage_count before_limits limited odd_step odd_only smallest_count largest_count Whole.max lt nearest add sub mul sqrt
    floor ceil to_unsigned by_rule radius_for facts_of
marked_right = tt

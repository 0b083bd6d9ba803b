-- The half in which the count lies; where low and high meet, it is found.
use Rattle.std.proofs.Common.{sym, ap, ◌∙◌, arith}
use lib.Ieee.{le}
use Rattle.family.proofs.ByThreshold.{all, lower, higher, found}
use Rattle.family.proofs.by_threshold.Goals as goal

pub loop-low-init : goal.loop-low-init
loop-low-init c = record { to = omega arith; between = all _ }

pub loop-low-preserved-then-r-t : goal.loop-low-preserved-then-r-t
loop-low-preserved-then-r-t c = record {
  to = omega arith;
  between = lower _ _ _ _ c.loop-low.invariant.between (omega arith) (omega arith) (ap (le _) (sym c.threshold-t.ensures) ∙ c.if-r-t.true);
}

pub loop-low-preserved : goal.loop-low-preserved
loop-low-preserved c = record {
  to = omega arith;
  between = higher _ _ _ _ c.loop-low.invariant.between (omega arith) (omega arith) (ap (le _) (sym c.threshold-t.ensures) ∙ c.if-r-t.false);
}

pub returns : goal.returns
returns c = sym (found _ _ _ c.loop-low.invariant.between c.loop-low-test.false)

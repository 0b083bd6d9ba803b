use Rattle.std.proofs.Common.{arith}
use Rattle.timed.proofs.Roots.{roots_start, roots_turn, roots_end}
use Rattle.timed.proofs.each_root.Goals as goal

pub loop-i-init : goal.loop-i-init
loop-i-init g c = roots_start c.args.x.now c.args.out.now

pub loop-i-preserved : goal.loop-i-preserved
loop-i-preserved g c =
    roots_turn c.args.x.now c.args.out.now c.loop-i.i (omega arith) (omega arith) c.loop-i.invariant (c.requires.is_root _ _ c.root.ensures)

pub returns : goal.returns
returns g c = roots_end c.args.x.now c.args.out.now c.loop-i.i (omega arith) c.loop-i.invariant

use Rattle.std.proofs.Common.{refl, arith}
use Rattle.std.specs.Float.Ieee.{of_bits}
use Rattle.timed.specs.Left.{root_chain}
use Rattle.timed.proofs.Roots.{chain_turn}
use Rattle.timed.proofs.chain.Goals as goal

pub loop-y-init : goal.loop-y-init
unfolding of_bits root_chain
loop-y-init g c = refl

pub loop-y-preserved : goal.loop-y-preserved
loop-y-preserved g c = chain_turn c.args.x.now c.loop-y.y-index (omega arith) c.loop-y.invariant (c.requires.is_root _ _ c.root-a.ensures)

use Rattle.ieee.proofs.Digit.{one, nought, done, moved}
use Rattle.ieee.proofs.root54.Goals as goal
use Rattle.ieee.proofs.root54.Goals.{then-w-r, else-w-r}

pub loop-preserved : goal.loop-preserved
loop-preserved c =
    let l = c.loop in
    let q = c.args.q in
    elim c.if-w-r.branch [
      | then-w-r w ↦ moved _ _ _ _ _ _ _ w.r-is w.w-is (one q l.u l.r l.w l.counter l.invariant.0 c.loop-test.true w.if-w-r.true)
      | else-w-r w ↦ moved _ _ _ _ _ _ _ w.r-is w.w-is (nought q l.u l.r l.w l.counter l.invariant.0 c.loop-test.true w.if-w-r.false)
    ]

pub returns : goal.returns
returns c = let l = c.loop in done c.args.q l.u l.r l.w l.counter l.invariant.0 c.loop-test.false

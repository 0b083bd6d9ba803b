-- The words before the i-th stand, and the i-th is written.
use Rattle.std.proofs.Common.{◌≢◌, ◌<◌, length, arith, get_or-set_other, get_or-set_same, below_more, ◌∙◌}
use Rattle.std.proofs.Math.ListN.{length-set}
use Rattle.stored.proofs.words.Goals as goal

pub returns : goal.returns
returns g c = λ i h. c.loop-i.invariant.1 i (omega (arith, h, c.loop-i.invariant.0, c.loop-i-test.false))

pub loop-i-preserved : goal.loop-i-preserved
loop-i-preserved g c =
    let long = c.loop-i.invariant.0 in (
      length-set c.loop-i.words c.loop-i.i c.word.result ∙ long,
      below_more _ _
          (λ k h. let ne : k ≢ c.loop-i.i = omega arith in rw get_or-set_other (c.loop-i.invariant.1 k h))
          (let lt : c.loop-i.i < length c.loop-i.words = omega (arith, long, c.loop-i-test.true) in rw get_or-set_same c.word.ensures),
    )

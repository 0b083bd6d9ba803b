-- By the law of a slice written from the front. ⊖ is an operation on doubles: it rounds.
use Rattle.std.proofs.Common.{◌<◌, refl, sym, ap, ◌∙◌, length, arith}
use lib.Ieee.{Float}
use Rattle.ieee.specs.Double.{◌⊖◌}
use Rattle.workspace.proofs.Front.{front_start, front_turn}
use Rattle.heat_sink.specs.Model as spec
use Rattle.heat_sink.proofs.Chain.{length_rates, rate_at, handed_on}
use Rattle.heat_sink.proofs.rates.Goals as goal

pub loop-i-init : goal.loop-i-init
unfolding spec.into
loop-i-init c = let a = c.args in
    record { written = front_start _ _ (c.requires ∙ sym (length_rates a.m a.point.now a.reading)); entering = λ h. refl }

pub loop-i-preserved : goal.loop-i-preserved
loop-i-preserved c =
    let a = c.args in
    let l = c.loop-i in
    let h : l.i < length a.point.now = omega (arith, l.invariant.written.long) in
    let e = c.out_of-out.ensures in
    record {
      written = front_turn _ l.invariant.written (omega (arith, length_rates a.m a.point.now a.reading))
          (ap (λ (x : Float). x ⊖ c.out_of-out.result) (l.invariant.entering h) ∙ ap (λ (x : Float). spec.into a.m a.point.now a.reading l.i ⊖ x) e
          ∙ rate_at a.m a.point.now a.reading l.i h);
      entering = λ k. e ∙ handed_on a.m a.point.now a.reading l.i k;
    }

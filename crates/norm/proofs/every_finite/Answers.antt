use Rattle.std.proofs.Common.{◌≡◌, ℕ, ◌+◌, refl, ap, ◌∙◌, Bool, not, nat_eq, arith}
use mir.Val.{bool_byte}
use Rattle.std.specs.Float.{float_is_finite}
use Rattle.norm.specs.Norm as spec
use Rattle.norm.proofs.Finite.{next_finite, at_most_one}
use Rattle.norm.proofs.every_finite.Goals as goal

pub loop-i-init : goal.loop-i-init
unfolding spec.all_finite
loop-i-init g c = (omega arith, λ xs long given. refl)

pub loop-i-preserved : goal.loop-i-preserved
loop-i-preserved g c =
    let x = c.entry.result in
    let one : c.from-others.result ≡ bool_byte (not (float_is_finite x)) = c.from-others.ensures ∙ ap (λ (b : Bool). bool_byte (not b)) c.is_finite.ensures.value in (
      omega (arith, at_most_one (not (float_is_finite x))),
      λ xs long given. ap (λ (k : ℕ). nat_eq (c.loop-i.others + k) 0) one
          ∙ next_finite xs c.loop-i.i c.loop-i.others (omega arith) (c.loop-i.invariant.1 xs long given) (given c.loop-i.i (omega arith) _ c.entry.ensures),
    )

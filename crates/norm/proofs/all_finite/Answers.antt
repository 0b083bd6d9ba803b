use Rattle.std.proofs.Common.{refl, rules}
use Rattle.norm.proofs.all_finite.Goals as goal

pub returns : goal.returns
returns c = c.every_finite.ensures c.args.v.now refl (λ i h x p. search rules)

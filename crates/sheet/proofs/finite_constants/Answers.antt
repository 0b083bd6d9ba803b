-- `all` over the six, by what the closure tests.
use Rattle.std.proofs.Common.{rules, tests, ◌∙◌}
use Rattle.std.proofs.Math.Bool.{and_assoc, and-true}
use Rattle.std.proofs.lemmas.Iterator.{YieldsList-from_slice}
use Rattle.std.proofs.lemmas.Iterator.Search.{all_from_yields_List}
use Rattle.std.specs.Float.Ieee.Scale.{finite}
use Rattle.sheet.specs.Text.{finite_constants}
use Rattle.sheet.proofs.finite_constants.Goals as goal

pub returns : goal.returns
unfolding finite_constants
returns c =
    all_from_yields_List finite _ _ _ c.all.ensures.ran (YieldsList-from_slice _ c.iter.ensures.rest) (λ x b q k. search (rules, tests))
    ∙ simp (and_assoc, and-true)

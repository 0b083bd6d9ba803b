-- Past the tests it is a stage's reply (Going).
use Rattle.std.proofs.Common.{◌≡◌, true, ◌*◌, List, length, Float, sym, ◌∙◌, le_of_eq, arith, rules}
use Rattle.family.specs.Family.{family_of}
use Rattle.workspace.specs.Vectors.{vector_count}
use Rattle.workspace.proofs.Areas.{whole}
use Rattle.driver.specs.declared.Record.{Record}
use Rattle.driver.specs.declared.Counters.{Counters}
use Rattle.driver.specs.Calls.{in_range}
use Rattle.driver.specs.Promises.{stage_taken}
use Rattle.driver.proofs.Sizes.{both_long}
use Rattle.driver.proofs.Ranges.{stage_in}
use Rattle.driver.proofs.Going.{passed, goes}
use Rattle.driver.proofs.reply_in_stages.Goals as goal

lengths : (r : Record) (c : Counters) (area d : List Float) → stage_taken r c area d ≡ true
    → (length area ≡ vector_count (family_of r.family) * r.n) × (length d ≡ r.n)
lengths r c area d e = both_long r.family r.n area d (passed r c area d e).lengths

pub take_stage-requires-clause-record_in_bounds : goal.take_stage-requires-clause-record_in_bounds
take_stage-requires-clause-record_in_bounds c = whole _ _ _ (lengths _ _ _ _ c.requires).0

pub take_stage-requires-clause-record_in_bounds_2 : goal.take_stage-requires-clause-record_in_bounds_2
take_stage-requires-clause-record_in_bounds_2 c = le_of_eq (sym (lengths _ _ _ _ c.requires).0)

pub take_stage-requires-clause-derivative_len : goal.take_stage-requires-clause-derivative_len
take_stage-requires-clause-derivative_len c = (lengths _ _ _ _ c.requires).1

pub take_stage-requires-clause-bound : goal.take_stage-requires-clause-bound
unfolding in_range
take_stage-requires-clause-bound c =
    let s = stage_in c.args.«record» (passed _ _ _ _ c.requires).place in
    (s.from, omega (arith, s.to, s.most))

pub returns : goal.returns
returns c = goes _ _ _ _ _ _ (passed _ _ _ _ c.requires) (search rules ∙ (lengths _ _ _ _ c.requires).0) c.take_stage.ensures

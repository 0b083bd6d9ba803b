-- `inverter::total_of` meets its contract, by that of `run`: the part of the zeros that is lent is zero. Assumes nothing.
use Rattle.std.proofs.Common.{ℕ, ◌*◌, ◌≤◌, replicate, sym, ap, ◌∙◌, arith}
use mathlib.Core.Path.{subst}
use lib.ListN.{length-replicate}
use lib.Seq.{length-take-le}
use lib.Ieee.{of_bits}
use Rattle.ieee.specs.Double.{nought}
use Rattle.inverter.specs.Day.{largest_area}
use Rattle.std.proofs.lemmas.List.{take-replicate}
use Rattle.inverter.proofs.Outset.{has_room}
use Rattle.inverter.proofs.total_of.Goals as goal

pub overflow_mul-whole : goal.overflow_mul-whole
overflow_mul-whole c = omega (arith, has_room _ c.args.inverter.n c.vector_count.ensures c.requires.1)

pub slice_bounds-area-end : goal.slice_bounds-area-end
slice_bounds-area-end c = omega (arith, has_room _ c.args.inverter.n c.vector_count.ensures c.requires.1)

pub slice_bounds-at_rest-end : goal.slice_bounds-at_rest-end
slice_bounds-at_rest-end c =
    let n = c.args.inverter.n in
    let h = has_room _ n c.vector_count.ensures c.requires.1 in
    sym (length-take-le _ _ (subst (λ (k : ℕ). c.vector_count.result * n ≤ k) (sym (length-replicate largest_area nought)) h))

pub at_rest-engine-requires-clause-area_value : goal.at_rest-engine-requires-clause-area_value
unfolding of_bits
at_rest-engine-requires-clause-area_value c =
    let n = c.args.inverter.n in
    let v = c.vector_count in
    take-replicate (v.result * n) largest_area nought (has_room _ n v.ensures c.requires.1)
    ∙ ap (λ (k : ℕ). replicate (k * n) nought) v.ensures

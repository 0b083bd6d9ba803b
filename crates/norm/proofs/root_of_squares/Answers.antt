use Rattle.std.proofs.Common.{◌∙◌, sym, ap, Float}
use mathlib.Core.Logic.{inl, inr}
use Rattle.norm.specs.Norm.{raised, root_over}
use Rattle.norm.proofs.Ways.{by_second_sum, by_first_sum}
use Rattle.norm.proofs.root_of_squares.Goals as goal
use Rattle.norm.proofs.root_of_squares.Goals.{else-is_infinite-via-then-is_infinite+else-every_finite, else-is_infinite-via-else-is_infinite}

pub returns-then-every_finite : goal.returns-then-every_finite
returns-then-every_finite g c = λ xs long given.
    let first = c.sum_of_squares-sum.ensures xs long given in
    let infinite = sym c.is_infinite.ensures ∙ c.if-is_infinite.true in
    let all = sym (c.every_finite.ensures xs long given) ∙ c.if-every_finite.true in
    c.raised_root_of.ensures
    ∙ ap (λ (s : Float). raised (root_over c.args.divisor s)) (c.sum_of_lowered.ensures xs long given)
    ∙ sym (by_second_sum c.args.divisor xs first infinite all)

pub returns : goal.returns
returns g c = λ xs long given.
    let first = c.sum_of_squares-sum.ensures xs long given in
    elim c.else-is_infinite.branch [
      | else-is_infinite-via-then-is_infinite+else-every_finite w ↦
          c.root_of.ensures ∙ sym (by_first_sum c.args.divisor xs first (inr (sym (w.every_finite.ensures xs long given) ∙ w.if-every_finite.false)))
      | else-is_infinite-via-else-is_infinite w ↦
          c.root_of.ensures ∙ sym (by_first_sum c.args.divisor xs first (inl (sym c.is_infinite.ensures ∙ w.if-is_infinite.false)))
    ]

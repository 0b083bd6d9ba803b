-- Turned away with the refusal found (Ladder); without one (Clear) the history is taken on and two vectors are copied.
use Rattle.std.proofs.Common.{refl, ap, ◌∙◌, arith}
use Rattle.family.specs.Family.{family_of}
use Rattle.workspace.specs.Vectors.{Vectors, ◌with◌≔◌, first_derivative, last_derivative, state, candidate}
use Rattle.workspace.proofs.Areas.{whole}
use Rattle.driver.specs.Calls.{accept_tests, accept, accepted}
use Rattle.driver.proofs.Steps.{keeps}
use Rattle.driver.proofs.Clear.{clear}
use Rattle.driver.proofs.Ladder.{refused_keeps, admitted_keeps, same_answer}
use Rattle.driver.proofs.accept.Goals as goal

pub returns-in-Err : goal.returns-in-Err
unfolding accept
returns-in-Err c = refused_keeps _ _ _ c.in-Err.ensures c.refused.ensures

pub keep_older-requires : goal.keep_older-requires
unfolding accept_tests
keep_older-requires c = (clear _ _ _ _ c.in_default.ensures).long

pub copy_vector-requires-clause-n_in_bounds : goal.copy_vector-requires-clause-n_in_bounds
unfolding accept_tests
copy_vector-requires-clause-n_in_bounds c =
    let l = clear _ _ _ _ c.in_default.ensures in
    omega (arith, whole _ _ _ l.long, c.keep_older.auto.area)

pub copy_vector-requires-clause-n_in_bounds_2 : goal.copy_vector-requires-clause-n_in_bounds_2
unfolding accept_tests
copy_vector-requires-clause-n_in_bounds_2 c =
    let l = clear _ _ _ _ c.in_default.ensures in
    omega (arith, whole _ _ _ l.long, c.keep_older.auto.area)

pub copy_vector-requires-2-clause-n_in_bounds : goal.copy_vector-requires-2-clause-n_in_bounds
unfolding accept_tests
copy_vector-requires-2-clause-n_in_bounds c =
    let l = clear _ _ _ _ c.in_default.ensures in
    omega (arith, whole _ _ _ l.long, c.keep_older.auto.area, c.copy_vector.auto.area)

pub copy_vector-requires-2-clause-n_in_bounds_2 : goal.copy_vector-requires-2-clause-n_in_bounds_2
unfolding accept_tests
copy_vector-requires-2-clause-n_in_bounds_2 c =
    let l = clear _ _ _ _ c.in_default.ensures in
    omega (arith, whole _ _ _ l.long, c.keep_older.auto.area, c.copy_vector.auto.area)

pub returns : goal.returns
unfolding accept accept_tests accepted
returns c =
    let a = c.args in
    let r = a.«record» in
    let l = clear _ _ _ _ c.in_default.ensures in
    admitted_keeps _ _ l.none
    (keeps (family_of r.family) r.n _ (cc (l.long, c.keep_older.auto.area, c.copy_vector.auto.area, c.copy_vector-2.auto.area)) (record {
      answer = same_answer refl;
      kept = c.accepted.ensures;
      vectors = c.copy_vector-2.ensures.vectors
          ∙ ap (λ (v : Vectors). v with state ≔ v candidate) c.copy_vector.ensures.vectors
          ∙ ap (λ (v : Vectors). v with first_derivative ≔ v last_derivative with state ≔ v candidate) c.keep_older.ensures;
    }))

-- Turned away with the refusal found (Ladder); without one (Clear) the state is kept and the eigenvector zeroed.
use Rattle.std.proofs.Common.{refl, ap, ◌∙◌, replicate, arith}
use lib.Ieee.{of_bits}
use Rattle.ieee.specs.Double.{nought}
use Rattle.family.specs.Family.{family_of}
use Rattle.workspace.specs.Vectors.{Vectors, ◌with◌≔◌, eigenvector}
use Rattle.workspace.proofs.Areas.{whole}
use Rattle.driver.specs.Calls.{start_vectors, start_tests, start, going_on}
use Rattle.driver.proofs.Steps.{keeps}
use Rattle.driver.proofs.Clear.{brings}
use Rattle.driver.proofs.Ladder.{refused_keeps, admitted_keeps, same_answer}
use Rattle.driver.proofs.start.Goals as goal

pub returns-in-Err : goal.returns-in-Err
unfolding start
returns-in-Err c = refused_keeps _ _ _ c.in-Err.ensures c.refused.ensures

pub put_vector-requires-clause-n_in_bounds : goal.put_vector-requires-clause-n_in_bounds
unfolding start_tests
put_vector-requires-clause-n_in_bounds c =
    whole _ _ _ (brings _ _ _ _ _ c.in_default.ensures).long

pub put_vector-requires-clause-x_len : goal.put_vector-requires-clause-x_len
unfolding start_tests
put_vector-requires-clause-x_len c =
    let a = c.args in
    (brings a.family a.n a.area.now a.state.now _ c.in_default.ensures).brought

pub fill_vector-requires-clause-n_in_bounds : goal.fill_vector-requires-clause-n_in_bounds
unfolding start_tests
fill_vector-requires-clause-n_in_bounds c =
    let a = c.args in
    let l = brings _ _ _ _ _ c.in_default.ensures in
    omega (arith, whole (family_of a.family) a.n a.area.now l.long, c.put_vector.auto.area)

pub returns : goal.returns
unfolding start start_vectors start_tests going_on of_bits
returns c =
    let a = c.args in
    let l = brings _ _ _ _ _ c.in_default.ensures in
    rw c.asks.ensures (admitted_keeps _ _ l.none
    (keeps (family_of a.family) a.n _ (cc (l.long, c.put_vector.auto.area, c.fill_vector.auto.area)) (record {
      answer = same_answer refl;
      kept = c.first_at-waiting.ensures;
      vectors = c.fill_vector.ensures.vectors ∙ ap (λ (v : Vectors). v with eigenvector ≔ replicate a.n nought) c.put_vector.ensures.vectors;
    })))

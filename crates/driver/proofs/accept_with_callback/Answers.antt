-- Turned away with the refusal found (Ladder); without one (Clear) the state is kept.
use Rattle.std.proofs.Common.{refl}
use Rattle.family.specs.Family.{family_of}
use Rattle.workspace.proofs.Areas.{whole}
use Rattle.driver.specs.Calls.{callback_tests, accept_with_callback, called_back}
use Rattle.driver.proofs.Steps.{keeps}
use Rattle.driver.proofs.Clear.{brings}
use Rattle.driver.proofs.Ladder.{refused_keeps, admitted_keeps, same_answer}
use Rattle.driver.proofs.accept_with_callback.Goals as goal

pub returns-in-Err : goal.returns-in-Err
unfolding accept_with_callback
returns-in-Err c = refused_keeps _ _ _ c.in-Err.ensures c.refused.ensures

pub put_vector-requires-clause-n_in_bounds : goal.put_vector-requires-clause-n_in_bounds
unfolding callback_tests
put_vector-requires-clause-n_in_bounds c =
    whole _ _ _ (brings _ _ _ _ _ c.in_default.ensures).long

pub put_vector-requires-clause-x_len : goal.put_vector-requires-clause-x_len
unfolding callback_tests
put_vector-requires-clause-x_len c =
    let a = c.args in
    (brings a.«record».family a.«record».n a.area.now a.state.now _ c.in_default.ensures).brought

pub returns : goal.returns
unfolding accept_with_callback callback_tests called_back
returns c =
    let a = c.args in
    let r = a.«record» in
    let l = brings _ _ _ _ _ c.in_default.ensures in
    rw c.asks.ensures (admitted_keeps _ _ l.none
    (keeps (family_of r.family) r.n _ (cc (l.long, c.put_vector.auto.area)) (record {
      answer = same_answer refl;
      kept = c.first_at-waiting.ensures;
      vectors = c.put_vector.ensures.vectors;
    })))

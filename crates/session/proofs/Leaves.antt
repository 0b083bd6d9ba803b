-- What a call that is turned away leaves, by the kind of its number: everything as it was, or, with a number that only a reply gives, what `Left` names.
-- ⊕ is an operation on doubles: it rounds.
use mathlib.Core.Path.{◌≡◌, refl, sym, ap, ◌∙◌, subst}
use mathlib.Core.Bool.{Bool, true, false, cond, ◌&&◌, ◌||◌}
use mathlib.Core.List.{List}
use Prim.Native.Nat.{ℕ, ◌+◌}
use mathlib.Core.Logic.{inl, inr}
use lib.Dec.{ltb, eqb}
use borrow.Author.Tests.{eqb-true}
use lib.ListN.{length}
use lib.Ieee.{Float}
use Rattle.ieee.specs.Double.{◌⊕◌}
use Rattle.coefficients.specs.Rows.{coefficients, next}
use Rattle.workspace.specs.declared.Arguments.{Arguments}
use Rattle.workspace.specs.declared.Vector.{Vector}
use Rattle.workspace.specs.Vectors.{Vectors, number, unpack, all_finite, last_derivative}
use Rattle.workspace.specs.declared.Vector.TheVariants.{FirstDerivative, LastDerivative, Derivative, PreviousTwo, PreviousOne, NextStage, Eigenvector, PerturbedState, PerturbedDerivative, State, Candidate, OlderState}
use Rattle.workspace.specs.Vectors.{candidate, older_state}
use Rattle.workspace.specs.Kernel.{turned, radius_of, ended, scaled, with_row, with_row_in, exchanged, with_candidate}
use Rattle.workspace.proofs.Areas.{unpack_pack}
use Rattle.driver.specs.declared.Phase.{Phase}
use Rattle.driver.specs.declared.Phase.TheVariants as P
use Rattle.driver.specs.declared.Record.{Record}
use Rattle.driver.specs.declared.Counters.{Counters}
use Rattle.driver.specs.declared.Need.{Need}
use Rattle.driver.specs.declared.Need.TheVariants.{Met, Unmet}
use Rattle.driver.specs.declared.Answer.{Answer}
use Rattle.driver.specs.declared.Answer.TheVariants.{Evaluate, Refused}
use Rattle.driver.specs.Answers.{SameAnswer}
use Rattle.driver.specs.Numbers.{standing_numbers, need_numbers, after_nine, ending_numbers}
use Rattle.driver.proofs.Ladder.{is_refused, each_passes, by_tests}
use Rattle.driver.specs.Calls.{Held, Called, Step, step_to, in_phase, whole_area, as_long, Test, admitted, first_failing, guarded, counted, setting_of}
use Rattle.driver.specs.Calls.{start_tests, attempt_tests, reply_tests, accept_tests, callback_tests, abandon_tests}
use Rattle.driver.specs.Calls.{at_pass, at_stage, take_first, take_callback, ask_pass, ask_stage, stage_need, by_need, begin_stages, take_pass, ask_candidate}
use Rattle.driver.specs.Calls.{take_stage, take_candidate, replied, going_on, spoiled, settled, attempted, accepted, called_back}
use Rattle.driver.specs.Calls.{start, attempt, reply, accept, accept_with_callback, abandon, made}
use Rattle.driver.specs.Calls.{Call, Start, Attempt, Reply, Accept, AcceptWithCallback, Abandon}
use Rattle.session.specs.Refusals.{verdict_of, ◌∈◌, here, later, written_by_pass, Left}
use Rattle.ieee.proofs.Logic.{and_left, and_right}
use Rattle.session.proofs.Numbers.{is_in, not_both, not_nine, not_ten}
use Rattle.session.proofs.Truth.{differ}
use Rattle.session.proofs.Needs.{Needed, need_holds}
use Rattle.session.proofs.Lengths.{its_family, long_area, replied_long}
use Rattle.session.proofs.Guards.{low, low_fails}
use Rattle.session.proofs.Refused.{same_number, refused_answer}

-- not refused at all
unrefused : (y : Answer) (i : ℕ) → verdict_of y ≡ admitted → y ≡ Refused i → ⊥
unrefused y i g e = subst is_refused (ap verdict_of (sym e) ∙ g) tt

-- ---- a reply that passed its tests

-- the vectors that no attempt writes before its last reply
abbrev pub Stand : Vectors → Vectors → Type 0
Stand v w = (w last_derivative ≡ v last_derivative) × (w older_state ≡ v older_state)

-- all but the two that a pass writes
abbrev pub Others : Vectors → Vectors → Type 0
Others v w = (b : Vector) → written_by_pass b ≡ false → w b ≡ v b

turned_others : (n : ℕ) (v : Vectors) (d : List Float) → Others v (turned n v d)
unfolding turned
turned_others n v d FirstDerivative e = refl
turned_others n v d LastDerivative e = refl
turned_others n v d Derivative e = refl
turned_others n v d PreviousTwo e = refl
turned_others n v d PreviousOne e = refl
turned_others n v d NextStage e = refl
turned_others n v d Eigenvector e = absurd (differ (sym e))
turned_others n v d PerturbedState e = refl
turned_others n v d PerturbedDerivative e = absurd (differ (sym e))
turned_others n v d State e = refl
turned_others n v d Candidate e = refl
turned_others n v d OlderState e = refl

-- refused, its derivative is finite and so the number is not 9, and of the record only the phase is changed; and of the vectors, where the need is refused,
-- only those that a pass writes
pub record High (r : Record) (v : Vectors) (i : ℕ) (x : Step) : Type 0 where
  pub beyond : i ∈ after_nine
  pub record_is : x.kept ≡ in_phase P.Empty r
  pub stand : Stand v x.vectors
  pub others : i ∈ need_numbers → Others v x.vectors

abbrev pub RefusesHigh : Record → Vectors → Step → Type 0
RefusesHigh r v x = (i : ℕ) → x.answer ≡ Refused i → High r v i x

on : (r : Record) (v : Vectors) (x : Step) → verdict_of x.answer ≡ admitted → RefusesHigh r v x
on r v x g i e = absurd (unrefused x.answer i g e)

candidate_high : (r : Record) (v w : Vectors) → Stand v w → RefusesHigh r v (ask_candidate r w)
unfolding ask_candidate
candidate_high r v w same = go (all_finite (w candidate))
  where
    go : (t : Bool) → RefusesHigh r v (cond t (step_to (Evaluate (r.arguments.time ⊕ r.arguments.step) (number candidate)) (in_phase P.Candidate r) w)
        (step_to (Refused 10) (in_phase P.Empty r) w))
    go true = on r v _ refl
    go false = λ i e. record {
      beyond = subst (λ (i : ℕ). i ∈ after_nine) (same_number 10 i e) here;
      record_is = refl;
      stand = same;
      others = λ l. absurd (not_ten l (sym (same_number 10 i e)));
    }

need_high : (need : Need) (r : Record) (v w : Vectors) (radius : Float) → Stand v w → Others v w → Needed (setting_of r) need
    → RefusesHigh r v (by_need need r w radius)
unfolding by_need ask_stage
need_high (Met s) r v w radius same others ok = on r v _ refl
need_high (Unmet j) r v w radius same others ok = λ i e. record {
  beyond = subst (λ (i : ℕ). i ∈ after_nine) (same_number j i e) (later ok);
  record_is = refl;
  stand = same;
  others = λ l. others;
}

pass_high : (t : Bool) (r r' : Record) (v w : Vectors) (radius : Float) → Stand v w → Others v w
    → RefusesHigh r v (cond t (begin_stages r w radius) (ask_pass r' w))
unfolding begin_stages ask_pass
pass_high true r r' v w radius same others = need_high (stage_need (setting_of r) radius) r v w radius same others (need_holds (setting_of r) radius)
pass_high false r r' v w radius same others = on r v _ refl

stage_high : (t : Bool) (r r' : Record) (v u w : Vectors) → Stand v w → RefusesHigh r v (cond t (ask_stage r' u) (ask_candidate r w))
unfolding ask_stage
stage_high true r r' v u w same = on r v _ refl
stage_high false r r' v u w same = candidate_high r v w same

pub replied_high : (φ : Phase) (r : Record) (v : Vectors) (d : List Float) → RefusesHigh r v (replied φ r v d)
unfolding replied take_first take_callback take_pass take_stage take_candidate turned with_row_in with_candidate
replied_high P.Empty r v d = on r v _ refl
replied_high P.First r v d = on r v _ refl
replied_high P.Ready r v d = on r v _ refl
replied_high P.Pass r v d = let w = turned r.n v d in let i = r.iteration in let radius = radius_of i.perturbation w in
    pass_high (ended i.pass i.previous_radius radius || eqb i.pass 12) r (at_pass r.arguments (i.pass + 1) i.perturbation radius r) v w
    (scaled r.arguments.step radius) (refl, refl) (turned_others r.n v d)
replied_high P.Stage r v d =
    let m = setting_of r in
    let s = r.staging.stages in
    let j = r.staging.stage in
    let c = r.staging.recurrence in
    let row = coefficients m s j c in
    let w = with_row m r.n r.arguments.step row v d in
    stage_high (ltb j s) r (at_stage s (j + 1) (next m c row) r) v (exchanged w) (with_candidate m r.n r.arguments.step s c row w) (refl, refl)
replied_high P.Candidate r v d = on r v _ refl
replied_high P.Finished r v d = on r v _ refl
replied_high P.Callback r v d = on r v _ refl

-- ---- every call

abbrev Leaves : Held → Called → Type 0
Leaves h x = (i : ℕ) → x.answer ≡ Refused i → Left h i x.held

same : (h : Held) (i : ℕ) → i ∈ standing_numbers → Left h i h
same h i low = record {
  kind = inl low;
  all_stands = λ l. refl;
  record_is = λ l. absurd (not_both low l);
  evaluations_are = λ l. absurd (not_both low l);
  attempts_are = λ l. refl;
  last_stands = λ l. refl;
  older_stands = λ l. refl;
  area_stands = λ e. refl;
  others_stand = λ l b w. refl;
}

-- behind a list of tests on whose numbers everything stands
guards_leave : (h : Held) (ts : List Test) (go : Called) → low ts ≡ true → (first_failing ts ≡ admitted → Leaves h go) → Leaves h (guarded h ts go)
guards_leave h ts go l on = by_tests (Leaves h) h ts go on
    (λ k e i q. same h i (subst (λ (i : ℕ). i ∈ standing_numbers) (same_number k i q) (is_in standing_numbers k (low_fails ts k l e))))

passed : (h : Held) (x : Called) → verdict_of x.answer ≡ admitted → Leaves h x
passed h x g i e = absurd (unrefused x.answer i g e)

start_leaves : (h : Held) (f n : ℕ) (y : List Float) (t : Float) → Leaves h (start h f n y t)
unfolding start start_tests
start_leaves h f n y t = guards_leave h (start_tests f n h.area y t) _ refl (λ _. passed h _ refl)

attempt_leaves : (h : Held) (a : Arguments) → Leaves h (attempt h a)
unfolding attempt attempt_tests going_on attempted ask_pass
attempt_leaves h a = guards_leave h (attempt_tests h.kept h.area a) _ refl (λ _. passed h _ refl)

reply_leaves : (h : Held) (d : List Float) → Leaves h (reply h d)
unfolding reply reply_tests settled going_on counted spoiled as_long
reply_leaves h d = let ts = reply_tests h.kept h.counters h.area d in guards_leave h ts _ refl (λ e. go (each_passes ts e).1.1.0 (all_finite d))
  where
    v : Vectors
    v = unpack h.kept.n h.area

    count : (i : ℕ) (y : Answer) → y ≡ Refused i → counted y h.counters ≡ record {
      evaluations = h.counters.evaluations + 1;
      finished_attempts = h.counters.finished_attempts;
    }
    count i y e = ap (λ (y : Answer). counted y h.counters) e

    go : whole_area h.kept.family h.kept.n h.area && as_long h.kept.n d ≡ true → (t : Bool)
        → Leaves h (cond t (settled h.counters (replied h.kept.phase h.kept v d)) (spoiled h))
    go lengths true i e =
        let x = replied h.kept.phase h.kept v d in
        let high = replied_high h.kept.phase h.kept v d i e in
        let whole = and_left (whole_area h.kept.family h.kept.n h.area) (as_long h.kept.n d) lengths in
        let long = eqb-true (length d) h.kept.n (and_right (whole_area h.kept.family h.kept.n h.area) (as_long h.kept.n d) lengths) in
        let long_v = long_area h.kept.family h.kept.n h.area whole in
        let back = unpack_pack (its_family h.kept) h.kept.n x.vectors (replied_long h.kept.phase h.kept v d long_v long) in
        record {
          kind = inr (later high.beyond);
          all_stands = λ l. absurd (not_both l (later high.beyond));
          record_is = λ l. high.record_is;
          evaluations_are = λ l. ap (λ (c : Counters). c.evaluations) (count i x.answer e);
          attempts_are = λ l. ap (λ (c : Counters). c.finished_attempts) (count i x.answer e);
          last_stands = λ l. ap (λ (w : Vectors). w last_derivative) back ∙ high.stand.0;
          older_stands = λ l. ap (λ (w : Vectors). w older_state) back ∙ high.stand.1;
          area_stands = λ q. absurd (not_nine high.beyond q);
          others_stand = λ l b w. ap (λ (u : Vectors). u b) back ∙ high.others l b w;
        }
    go lengths false i e = let nine = subst (λ (i : ℕ). i ∈ ending_numbers) (same_number 9 i e) here in record {
      kind = inr nine;
      all_stands = λ l. absurd (not_both l nine);
      record_is = λ l. refl;
      evaluations_are = λ l. refl;
      attempts_are = λ l. refl;
      last_stands = λ l. refl;
      older_stands = λ l. refl;
      area_stands = λ q. refl;
      others_stand = λ l b w. refl;
    }

accept_leaves : (h : Held) → Leaves h (accept h)
unfolding accept accept_tests going_on accepted
accept_leaves h = guards_leave h (accept_tests h.kept h.area) _ refl (λ _. passed h _ refl)

callback_leaves : (h : Held) (y : List Float) (t : Float) → Leaves h (accept_with_callback h y t)
unfolding accept_with_callback callback_tests going_on called_back
callback_leaves h y t = guards_leave h (callback_tests h.kept h.area y t) _ refl (λ _. passed h _ refl)

abandon_leaves : (h : Held) → Leaves h (abandon h)
unfolding abandon abandon_tests
abandon_leaves h = guards_leave h (abandon_tests h.kept h.area) _ refl (λ _. passed h _ refl)

made_leaves : (h : Held) (c : Call) → Leaves h (made h c)
unfolding made
made_leaves h (Start f n y t) = start_leaves h f n y t
made_leaves h (Attempt a) = attempt_leaves h a
made_leaves h (Reply d) = reply_leaves h d
made_leaves h Accept = accept_leaves h
made_leaves h (AcceptWithCallback y t) = callback_leaves h y t
made_leaves h Abandon = abandon_leaves h

pub leaves : (h : Held) (c : Call) (i : ℕ) → SameAnswer (made h c).answer (Refused i) → Left h i (made h c).held
leaves h c i s = made_leaves h c i (refused_answer (made h c).answer i s)

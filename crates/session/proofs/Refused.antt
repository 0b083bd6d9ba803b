-- A call is turned away with a number exactly when that is the number of its first failing test, and with no number outside the call's list. From the call
-- behind its list (Guards), for a reply also from the tests of its phase; the list that the call goes by is the one spelled in Refusals by computation.
use mathlib.Core.Path.{◌≡◌, refl, sym, ap, ◌∙◌, subst}
use mathlib.Core.Logic.{◌↔◌}
use mathlib.Core.Bool.{Bool, true, false, cond, not, true≢false, ◌&&◌, ◌||◌}
use mathlib.Core.List.{List, [], ◌∷◌, ◌++◌}
use Prim.Native.Nat.{ℕ, ◌+◌, ◌≤◌, ◌-◌, ◌^◌}
use native.Mathlib.Omega.{arith}
use lib.Dec.{ltb, eqb}
use borrow.Author.Tests.{le-ltb, ltb-false}
use lib.Ieee.{Float}
use Rattle.family.specs.Family.{family_of, stage_count, exceeds, largest_count, facts_of}
use Rattle.family.proofs.Numbers.{seven_alone}
use Rattle.coefficients.specs.Rows.{coefficients, next}
use Rattle.workspace.specs.declared.Arguments.{Arguments}
use Rattle.workspace.specs.Vectors.{Vectors, unpack, all_finite, candidate}
use Rattle.workspace.specs.Kernel.{turned, radius_of, ended, scaled, with_row, exchanged, with_candidate}
use Rattle.driver.specs.declared.Phase.{Phase}
use Rattle.driver.specs.declared.Phase.TheVariants as P
use Rattle.driver.specs.declared.Record.{Record}
use Rattle.driver.specs.declared.Counters.{Counters}
use Rattle.driver.specs.declared.Need.TheVariants.{Met, Unmet}
use Rattle.driver.specs.declared.Answer.{Answer}
use Rattle.driver.specs.declared.Answer.TheVariants.{Evaluate, Finished, Ready, Refused, Empty}
use Rattle.driver.specs.Answers.{case_number, case_values, Values, SameAnswer}
use Rattle.driver.specs.Numbers.{one_of, need_numbers, after_nine, refusal_numbers}
use Rattle.driver.specs.Calls.{Held, Called, Verdict, admitted, refused_with, Test, ◌∶◌, first_failing, cause_of, finishes, room, has_room, setting_of}
use Rattle.driver.specs.Calls.{start_tests, attempt_tests, reply_tests, accept_tests, callback_tests, abandon_tests}
use Rattle.driver.specs.Calls.{at_pass, at_stage, take_first, take_callback, ask_pass, ask_stage, stage_need, by_need, begin_stages, take_pass, ask_candidate}
use Rattle.driver.specs.Calls.{take_stage, take_candidate, replied, going_on, spoiled, settled, attempted, accepted, called_back}
use Rattle.driver.specs.Calls.{start, attempt, reply, accept, accept_with_callback, abandon, made}
use Rattle.driver.specs.Calls.{Call, Start, Attempt, Reply, Accept, AcceptWithCallback, Abandon}
use Rattle.driver.proofs.Ladder.{is_refused}
use Rattle.session.specs.Refusals.{verdict_of, too_many, pass_tests, stage_tests, replied_tests, tests_of, numbers_of, ◌∈◌, here, later}
use Rattle.session.proofs.Numbers.{every_one, each, is_in}
use Rattle.session.proofs.Guards.{verdict_alone, verdict_then}

-- the call's answer is decided by its tests
pub record DecidedBy (tests : List Test) (x : Called) : Type 0 where
  pub verdict_is : verdict_of x.answer ≡ first_failing tests

start_decided : (h : Held) (f n : ℕ) (y : List Float) (t : Float) → DecidedBy (start_tests f n h.area y t) (start h f n y t)
unfolding start
start_decided h f n y t = record { verdict_is = verdict_alone h _ _ refl }

attempt_decided : (h : Held) (a : Arguments) → DecidedBy (attempt_tests h.kept h.area a) (attempt h a)
unfolding attempt going_on attempted ask_pass
attempt_decided h a = record { verdict_is = verdict_alone h _ _ refl }

accept_decided : (h : Held) → DecidedBy (accept_tests h.kept h.area) (accept h)
unfolding accept going_on accepted
accept_decided h = record { verdict_is = verdict_alone h _ _ refl }

callback_decided : (h : Held) (y : List Float) (t : Float) → DecidedBy (callback_tests h.kept h.area y t) (accept_with_callback h y t)
unfolding accept_with_callback going_on called_back
callback_decided h y t = record { verdict_is = verdict_alone h _ _ refl }

abandon_decided : (h : Held) → DecidedBy (abandon_tests h.kept h.area) (abandon h)
unfolding abandon
abandon_decided h = record { verdict_is = verdict_alone h _ _ refl }

-- ---- a reply: what its phase tests too

candidate_verdict : (t : Bool) (r : Record) (v : Vectors) → all_finite (v candidate) ≡ t
    → verdict_of (ask_candidate r v).answer ≡ cond t admitted (refused_with 10)
unfolding ask_candidate
candidate_verdict true r v e = rw e
candidate_verdict false r v e = rw e

-- the engine's need exceeds exactly where the document's words say so
exceeds_is : (r : Record) (radius : Float) → exceeds (family_of r.family) (setting_of r).quotient radius ≡ too_many r radius
unfolding too_many exceeds largest_count facts_of
exceeds_is r radius = seven_alone (λ f. exceeds f (setting_of r).quotient radius) refl refl refl refl refl refl r.family

need_verdict : (r : Record) (v : Vectors) (radius : Float)
    → verdict_of (begin_stages r v radius).answer ≡ first_failing (11 ∶ not (too_many r radius) ∷ [])
unfolding begin_stages stage_need by_need ask_stage first_failing
need_verdict r v radius = go (exceeds (family_of r.family) q radius) (too_many r radius) (exceeds_is r radius)
  where
    q : Float
    q = (setting_of r).quotient

    go : (t u : Bool) → t ≡ u
        → verdict_of (by_need (cond t (Unmet 11) (Met (stage_count (family_of r.family) q radius))) r v radius).answer
        ≡ cond (not u) admitted (refused_with 11)
    go true true e = refl
    go true false e = absurd (true≢false e)
    go false true e = absurd (true≢false (sym e))
    go false false e = refl

pass_verdict : (t : Bool) (r r' : Record) (v v' : Vectors) (radius : Float)
    → verdict_of (cond t (begin_stages r v radius) (ask_pass r' v')).answer ≡ first_failing (cond t (11 ∶ not (too_many r radius) ∷ []) [])
unfolding ask_pass first_failing
pass_verdict true r r' v v' radius = need_verdict r v radius
pass_verdict false r r' v v' radius = refl

stage_verdict : (t : Bool) (r r' : Record) (v v' : Vectors) → verdict_of (cond t (ask_stage r v) (ask_candidate r' v')).answer
    ≡ first_failing (cond t [] (10 ∶ all_finite (v' candidate) ∷ []))
unfolding ask_stage first_failing
stage_verdict true r r' v v' = refl
stage_verdict false r r' v v' = candidate_verdict (all_finite (v' candidate)) r' v' refl

pub replied_verdict : (φ : Phase) (r : Record) (v : Vectors) (d : List Float) → verdict_of (replied φ r v d).answer ≡ first_failing (replied_tests φ r v d)
unfolding replied take_first take_callback take_pass take_stage take_candidate replied_tests pass_tests stage_tests first_failing
replied_verdict P.Empty r v d = refl
replied_verdict P.First r v d = refl
replied_verdict P.Ready r v d = refl
replied_verdict P.Pass r v d = let w = turned r.n v d in let i = r.iteration in let radius = radius_of i.perturbation w in
    pass_verdict (ended i.pass i.previous_radius radius || eqb i.pass 12) r (at_pass r.arguments (i.pass + 1) i.perturbation radius r) w w
    (scaled r.arguments.step radius)
replied_verdict P.Stage r v d =
    let m = setting_of r in
    let s = r.staging.stages in
    let j = r.staging.stage in
    let c = r.staging.recurrence in
    let row = coefficients m s j c in
    let w = with_row m r.n r.arguments.step row v d in
    stage_verdict (ltb j s) (at_stage s (j + 1) (next m c row) r) r (exchanged w) (with_candidate m r.n r.arguments.step s c row w)
replied_verdict P.Candidate r v d = refl
replied_verdict P.Finished r v d = refl
replied_verdict P.Callback r v d = refl

-- past its own tests, 9 and those of the phase
abbrev beyond_eight : Held → List Float → List Test
beyond_eight h d = 9 ∶ all_finite d ∷ replied_tests h.kept.phase h.kept (unpack h.kept.n h.area) d

reply_decided : (h : Held) (d : List Float) → DecidedBy (reply_tests h.kept h.counters h.area d ++ beyond_eight h d) (reply h d)
unfolding reply settled going_on spoiled first_failing
reply_decided h d = record { verdict_is = verdict_then h _ (beyond_eight h d) _ (go (all_finite d)) }
  where
    v : Vectors
    v = unpack h.kept.n h.area

    go : (t : Bool) → verdict_of (cond t (settled h.counters (replied h.kept.phase h.kept v d)) (spoiled h)).answer
        ≡ cond t (first_failing (replied_tests h.kept.phase h.kept v d)) (refused_with 9)
    go true = replied_verdict h.kept.phase h.kept v d
    go false = refl

-- ---- every call

pub decided : (h : Held) (c : Call) → DecidedBy (tests_of h c) (made h c)
unfolding tests_of made start_tests attempt_tests reply_tests accept_tests callback_tests abandon_tests
decided h (Start f n y t) = start_decided h f n y t
decided h (Attempt a) = attempt_decided h a
decided h (Reply d) = reply_decided h d
decided h Accept = accept_decided h
decided h (AcceptWithCallback y t) = callback_decided h y t
decided h Abandon = abandon_decided h

-- an answer that says refused with k is that
pub refused_answer : (y : Answer) (k : ℕ) → SameAnswer y (Refused k) → y ≡ Refused k
unfolding case_number case_values
refused_answer (Evaluate t b) k s = absurd (omega (arith, s.same_case))
refused_answer (Finished figures) k s = absurd (omega (arith, s.same_case))
refused_answer Ready k s = absurd (omega (arith, s.same_case))
refused_answer (Refused i) k s = ap (λ (v : Values). Refused (first v.numbers)) s.same_values
  where
    first : List ℕ → ℕ
    first [] = 0
    first (i ∷ is) = i
refused_answer Empty k s = absurd (omega (arith, s.same_case))

pub same_number : (i j : ℕ) → Refused i ≡ Refused j → i ≡ j
unfolding cause_of
same_number i j e = ap (λ (y : Answer). cause_of (verdict_of y)) e

-- each number on its own cause and on no other
pub refused : (h : Held) (c : Call) (k : ℕ) → SameAnswer (made h c).answer (Refused k) ↔ first_failing (tests_of h c) ≡ refused_with k
unfolding cause_of
refused h c k = (
  λ s. sym (decided h c).verdict_is ∙ ap verdict_of (refused_answer (made h c).answer k s),
  λ e. go (made h c).answer ((decided h c).verdict_is ∙ e),
)
  where
    go : (y : Answer) → verdict_of y ≡ refused_with k → SameAnswer y (Refused k)
    go (Evaluate s b) e = absurd (subst is_refused (sym e) tt)
    go (Finished s) e = absurd (subst is_refused (sym e) tt)
    go Ready e = absurd (subst is_refused (sym e) tt)
    go (Refused i) e = let same : Refused i ≡ Refused k = ap (λ (x : Verdict). Refused (cause_of x)) e in
        record { same_case = ap case_number same; same_values = ap case_values same }
    go Empty e = absurd (subst is_refused (sym e) tt)

-- ---- no number outside the call's list

abbrev Among : Verdict → List ℕ → Type 0
Among admitted ks = Unit {0}
Among (refused_with i) ks = i ∈ ks

-- the tests fail with a number of the list, or not at all
record Within (tests : List Test) (ks : List ℕ) : Type 0 where
  among : Among (first_failing tests) ks

last : (ks : List ℕ) → Within [] ks
unfolding first_failing
last ks = record { among = tt }

more : (t : Test) (ts : List Test) (ks : List ℕ) → Within ts ks → Within (t ∷ ts) (t.cause ∷ ks)
unfolding first_failing
more t ts ks w = record { among = go t.passes (first_failing ts) w.among }
  where
    go : (b : Bool) (x : Verdict) → Among x ks → Among (cond b x (refused_with t.cause)) (t.cause ∷ ks)
    go true admitted w = tt
    go true (refused_with i) w = later w
    go false x w = here

stage_within : (t u : Bool) → Within (cond t [] (10 ∶ u ∷ [])) after_nine
stage_within true u = last after_nine
stage_within false u = more (10 ∶ u) [] need_numbers (last need_numbers)

pass_within : (t u : Bool) → Within (cond t (11 ∶ u ∷ []) []) after_nine
unfolding first_failing
pass_within true true = record { among = tt }
pass_within true false = record { among = later here }
pass_within false u = last after_nine

replied_within : (φ : Phase) (r : Record) (v : Vectors) (d : List Float) → Within (replied_tests φ r v d) after_nine
unfolding replied_tests pass_tests stage_tests
replied_within P.Empty r v d = last after_nine
replied_within P.First r v d = last after_nine
replied_within P.Ready r v d = last after_nine
replied_within P.Pass r v d = let i = r.iteration in let radius = radius_of i.perturbation (turned r.n v d) in
    pass_within (ended i.pass i.previous_radius radius || eqb i.pass 12) _
replied_within P.Stage r v d = stage_within (ltb r.staging.stage r.staging.stages) _
replied_within P.Candidate r v d = last after_nine
replied_within P.Finished r v d = last after_nine
replied_within P.Callback r v d = last after_nine

within : (h : Held) (c : Call) → Within (tests_of h c) (numbers_of c)
unfolding tests_of numbers_of
within h (Start f n y t) = more _ _ _ (more _ _ _ (more _ _ _ (more _ _ _ (more _ _ _ (last [])))))
within h (Attempt a) = more _ _ _ (more _ _ _ (more _ _ _ (more _ _ _ (more _ _ _ (more _ _ _ (last []))))))
within h (Reply d) =
    more _ _ _ (more _ _ _ (more _ _ _ (more _ _ _ (more _ _ _ (more _ _ _ (replied_within h.kept.phase h.kept (unpack h.kept.n h.area) d))))))
within h Accept = more _ _ _ (more _ _ _ (more _ _ _ (more _ _ _ (last []))))
within h (AcceptWithCallback y t) = more _ _ _ (more _ _ _ (more _ _ _ (more _ _ _ (more _ _ _ (more _ _ _ (last []))))))
within h Abandon = more _ _ _ (more _ _ _ (more _ _ _ (more _ _ _ (last []))))

pub listed : (h : Held) (c : Call) (k : ℕ) → SameAnswer (made h c).answer (Refused k) → k ∈ numbers_of c
listed h c k s = subst (λ (x : Verdict). Among x (numbers_of c)) ((refused h c k).0 s) (within h c).among

-- every number of the lists is one of the table
lists_refuse : (c : Call) → every_one (one_of refusal_numbers) (numbers_of c) ≡ true
unfolding numbers_of
lists_refuse (Start f n y t) = refl
lists_refuse (Attempt a) = refl
lists_refuse (Reply d) = refl
lists_refuse Accept = refl
lists_refuse (AcceptWithCallback y t) = refl
lists_refuse Abandon = refl

pub one_of_the_table : (h : Held) (c : Call) (k : ℕ) → SameAnswer (made h c).answer (Refused k) → k ∈ refusal_numbers
one_of_the_table h c k s = is_in refusal_numbers k (each (one_of refusal_numbers) (numbers_of c) (lists_refuse c) (listed h c k s))

-- ---- number 8's two causes

-- no room: evaluations are at the end, or at a reply to the candidate's evaluation finished attempts are
pub no_room : (φ : Phase) (c : Counters) → has_room φ c ≡ not (not (room c.evaluations) || finishes φ && not (room c.finished_attempts))
unfolding has_room
no_room φ c = go (finishes φ) (room c.finished_attempts) (room c.evaluations)
  where
    go : (p q r : Bool) → r && (not p || q) ≡ not (not r || p && not q)
    go true true true = refl
    go true true false = refl
    go true false true = refl
    go true false false = refl
    go false true true = refl
    go false true false = refl
    go false false true = refl
    go false false false = refl

-- a 64 bit counter has no room exactly from 2^64 - 1 on
pub full : (count : ℕ) → room count ≡ false ↔ 2 ^ 64 - 1 ≤ count
unfolding room
full count = (λ e. omega (arith, ltb-false count (2 ^ 64 - 1) e), λ l. le-ltb count (2 ^ 64 - 1) l)

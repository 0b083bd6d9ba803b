-- What a reply counts: the answer's case tells, and only a reply to the candidate's evaluation finishes an attempt. ⊕ is an operation on doubles: it rounds.
use mathlib.Core.Path.{◌≡◌, refl, sym, ap, ap₂, ◌∙◌}
use mathlib.Core.Bool.{Bool, true, false, cond, not, ◌||◌}
use mathlib.Core.List.{List}
use Prim.Native.Nat.{ℕ, zero, suc, ◌+◌, ◌*◌, ◌<◌, ◌-◌, ◌^◌}
use native.Mathlib.Omega.{arith}
use borrow.Author.Tests.{ltb-true}
use lib.Dec.{ltb, eqb}
use lib.ListN.{length, get_or}
use lib.Ieee.{Float, nan}
use Rattle.ieee.specs.Double.{◌⊕◌}
use Rattle.family.specs.declared.Family.{Family}
use Rattle.coefficients.specs.Rows.{coefficients, next}
use Rattle.workspace.specs.Vectors.{Vectors, number, unpack, vector_count, all_finite, candidate}
use Rattle.workspace.specs.Kernel.{turned, radius_of, ended, scaled, with_row, exchanged, with_candidate}
use Rattle.workspace.proofs.Areas.{packed}
use Rattle.driver.specs.declared.Phase.{Phase}
use Rattle.driver.specs.declared.Phase.TheVariants as P
use Rattle.driver.specs.declared.Record.{Record}
use Rattle.driver.specs.declared.Counters.{Counters}
use Rattle.driver.specs.declared.Need.{Need}
use Rattle.driver.specs.declared.Need.TheVariants.{Met, Unmet}
use Rattle.driver.specs.declared.Next.{Next}
use Rattle.driver.specs.declared.Replied.{Replied}
use Rattle.driver.specs.declared.Answer.{Answer}
use Rattle.driver.specs.declared.Answer.TheVariants.{Evaluate, Finished, Ready, Refused, Empty}
use Rattle.driver.specs.Answers.{case_number, Values, case_values, SameAnswer}
use Rattle.driver.specs.Calls.{Held, Called, Step, step_to, in_phase, at_pass, at_stage, stage_need, ask_pass, ask_stage, by_need, begin_stages}
use Rattle.driver.specs.Calls.{take_first, take_callback, take_pass, ask_candidate, take_stage, figures_of, replied, finishes, room, has_room}
use Rattle.driver.specs.Calls.{counted, going_on, spoiled, settled, setting_of}
use Rattle.driver.specs.Promises.{Meets, Steps}
use Rattle.driver.proofs.Ladder.{same_answer}
use Rattle.driver.proofs.Sizes.{both}

-- ---- an answer is its case and what it carries

answer_of : ℕ → Values → Answer
answer_of zero x = Empty
answer_of (suc zero) x = Evaluate (get_or x.doubles 0 nan) (get_or x.numbers 0 0)
answer_of (suc (suc zero)) x = Finished (figures_of (get_or x.doubles 0 nan) (get_or x.numbers 0 0) (get_or x.numbers 1 0) (get_or x.doubles 1 nan))
answer_of (suc (suc (suc zero))) x = Ready
answer_of (suc (suc (suc (suc zero)))) x = Refused (get_or x.numbers 0 0)
answer_of (suc (suc (suc (suc (suc k))))) x = Empty

answer_told : (a : Answer) → answer_of (case_number a) (case_values a) ≡ a
unfolding answer_of case_number case_values
answer_told (Evaluate t b) = refl
answer_told (Finished figures) = refl
answer_told Ready = refl
answer_told (Refused i) = refl
answer_told Empty = refl

-- so `SameAnswer` leaves nothing of an answer open
pub said : {a b : Answer} → SameAnswer a b → a ≡ b
said {a} {b} s = sym (answer_told a) ∙ ap₂ answer_of s.same_case s.same_values ∙ answer_told b

-- ---- a step that does not finish an attempt

record Goes (x : Step) : Type 0 where
  goes : case_number x.answer ≡ 2 → ⊥

either : (b : Bool) (x y : Step) → Goes x → Goes y → Goes (cond b x y)
either true x y f g = f
either false x y f g = g

asks : (t : Float) (a : ℕ) (r : Record) (v : Vectors) → Goes (step_to (Evaluate t a) r v)
unfolding case_number
asks t a r v = record { goes = λ e. omega arith }

refuses : (i : ℕ) (r : Record) (v : Vectors) → Goes (step_to (Refused i) r v)
unfolding case_number
refuses i r v = record { goes = λ e. omega arith }

need_goes : (need : Need) (r : Record) (v : Vectors) (radius : Float) → Goes (by_need need r v radius)
unfolding by_need ask_stage
need_goes (Met s) r v radius = asks _ _ _ _
need_goes (Unmet i) r v radius = refuses _ _ _

pass_goes : (r : Record) (v : Vectors) (d : List Float) → Goes (take_pass r v d)
unfolding take_pass begin_stages ask_pass
pass_goes r v d =
    let i = r.iteration in
    let w = turned r.n v d in
    let radius = radius_of i.perturbation w in
    let big = scaled r.arguments.step radius in
    either (ended i.pass i.previous_radius radius || eqb i.pass 12)
    (begin_stages r w big)
    (ask_pass (at_pass r.arguments (i.pass + 1) i.perturbation radius r) w)
    (need_goes (stage_need (setting_of r) big) r w big)
    (asks _ _ _ _)

candidate_goes : (r : Record) (v : Vectors) → Goes (ask_candidate r v)
unfolding ask_candidate
candidate_goes r v =
    let a = r.arguments in
    either (all_finite (v candidate))
    (step_to (Evaluate (a.time ⊕ a.step) (number candidate)) (in_phase P.Candidate r) v)
    (step_to (Refused 10) (in_phase P.Empty r) v)
    (asks _ _ _ _)
    (refuses _ _ _)

stage_goes : (r : Record) (v : Vectors) (d : List Float) → Goes (take_stage r v d)
unfolding take_stage ask_stage
stage_goes r v d =
    let m = setting_of r in
    let s = r.staging.stages in
    let j = r.staging.stage in
    let c = r.staging.recurrence in
    let row = coefficients m s j c in
    let w = with_row m r.n r.arguments.step row v d in
    either (ltb j s)
    (ask_stage (at_stage s (j + 1) (next m c row) r) (exchanged w))
    (ask_candidate r (with_candidate m r.n r.arguments.step s c row w))
    (asks _ _ _ _)
    (candidate_goes r (with_candidate m r.n r.arguments.step s c row w))

-- only a reply to the candidate's evaluation says finished
pub finishing : (p : Phase) (r : Record) (v : Vectors) (d : List Float) → case_number (replied p r v d).answer ≡ 2 → finishes p ≡ true
unfolding replied finishes take_first take_callback case_number
finishing P.Empty r v d e = absurd (omega arith)
finishing P.First r v d e = absurd (omega arith)
finishing P.Ready r v d e = absurd (omega arith)
finishing P.Pass r v d e = absurd ((pass_goes r v d).goes e)
finishing P.Stage r v d e = absurd ((stage_goes r v d).goes e)
finishing P.Candidate r v d e = refl
finishing P.Finished r v d e = absurd (omega arith)
finishing P.Callback r v d e = absurd (omega arith)

-- ---- room in the counters

pub evaluations_room : (p : Phase) (c : Counters) → has_room p c ≡ true → c.evaluations < 2 ^ 64 - 1
unfolding has_room room
evaluations_room p c e = ltb-true c.evaluations (2 ^ 64 - 1)
    (both (ltb c.evaluations (2 ^ 64 - 1)) (not (finishes p) || ltb c.finished_attempts (2 ^ 64 - 1)) e).0

pub attempts_room : (p : Phase) (c : Counters) → has_room p c ≡ true → finishes p ≡ true → c.finished_attempts < 2 ^ 64 - 1
unfolding has_room room
attempts_room p c e f =
    let second = (both (ltb c.evaluations (2 ^ 64 - 1)) (not (finishes p) || ltb c.finished_attempts (2 ^ 64 - 1)) e).1 in
    ltb-true c.finished_attempts (2 ^ 64 - 1) (sym (ap (λ (b : Bool). not b || ltb c.finished_attempts (2 ^ 64 - 1)) f) ∙ second)

-- ---- what a reply that is not turned away leaves

-- a derivative that is not finite
pub spoils : (h : Held) {test : Bool} (go : Called) {x : Replied} → test ≡ false
    → x ≡ record { answer = Refused 9; «record» = in_phase P.Empty h.kept; counters = counted (Refused 9) h.counters }
    → Meets (cond test go (spoiled h)) x.answer x.«record» x.counters h.area
unfolding spoiled
spoils h go e q = rw e
    (record {
      answer = same_answer (ap (λ (x : Replied). x.answer) q);
      kept = ap (λ (x : Replied). x.«record») q;
      counters = ap (λ (x : Replied). x.counters) q;
      area = refl;
    })

-- a finite one
pub settles : (h : Held) {test : Bool} (f : Family) (n : ℕ) {s : Step} {x : Next} {c : Counters} (left : List Float) → test ≡ true
    → length left ≡ vector_count f * n
    → Steps s x (unpack n left) → c ≡ counted x.answer h.counters
    → Meets (cond test (settled h.counters s) (spoiled h)) x.answer x.«record» c left
unfolding settled going_on
settles h f n left e l m k = rw e
    (record {
      answer = m.answer;
      kept = m.kept;
      counters = k ∙ ap (λ (a : Answer). counted a h.counters) (said m.answer);
      area = packed f n left l m.vectors;
    })

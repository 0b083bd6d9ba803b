-- A reply to a stage's evaluation, from the tests of it: where they pass it is the call's own (`goes`, `comes`), and where they do not and the call's own
-- tests pass, no stage's evaluation is pending (`elsewhere`).
use mathlib.Core.Path.{◌≡◌, refl, sym, ap, ap₂, subst, ◌∙◌}
use mathlib.Core.Bool.{Bool, true, false, ◌&&◌, false≢true}
use mathlib.Core.List.{List}
use Prim.Native.Nat.{ℕ, ◌*◌, ◌<◌, ◌-◌, ◌^◌}
use native.Mathlib.Omega.{arith}
use borrow.Author.Tests.{ltb-true}
use lib.ListN.{length}
use lib.Ieee.{Float}
use Rattle.family.specs.Family.{known, family_of}
use Rattle.workspace.specs.Vectors.{unpack, vector_count, all_finite}
use Rattle.driver.specs.declared.Phase.{Phase}
use Rattle.driver.specs.declared.Phase.TheVariants as P
use Rattle.driver.specs.declared.Record.{Record}
use Rattle.driver.specs.declared.Counters.{Counters}
use Rattle.driver.specs.declared.Next.{Next}
use Rattle.driver.specs.declared.Replied.{Replied}
use Rattle.driver.specs.declared.Staged.{Staged}
use Rattle.driver.specs.declared.Staged.TheVariants.{On, OnByTheta, Ended, NotFinite}
use Rattle.driver.specs.Answers.{case_number}
use Rattle.driver.specs.Calls.{Called, sized, whole_area, as_long, pending, in_range, good_stage, awaiting, finishes, room, has_room, setting_of}
use Rattle.driver.specs.Calls.{reply_tests, reply, replied, take_stage, one_more, counted}
use Rattle.driver.specs.Promises.{Meets, Steps, StandsFor, holding, in_stages, stage_taken, outcome_of}
use Rattle.driver.proofs.Ladder.{Passing, admits, admitted_meets}
use Rattle.driver.proofs.Sizes.{both, three, four}
use Rattle.driver.proofs.Steps.{as_step}
use Rattle.driver.proofs.Counting.{settles}

-- ---- what the tests say where they pass

pub record Passed (r : Record) (c : Counters) (area d : List Float) : Type 0 where
  pub family : known r.family ≡ true
  pub size : sized r.n ≡ true
  pub phase : r.phase ≡ P.Stage
  pub more : room c.evaluations ≡ true
  pub lengths : (whole_area r.family r.n area && as_long r.n d) ≡ true
  pub place : good_stage (setting_of r) r.staging.stages r.staging.stage ≡ true
  pub finite : all_finite d ≡ true

is_stage : (p : Phase) → in_stages p ≡ true → p ≡ P.Stage
unfolding in_stages
is_stage P.Empty e = absurd (false≢true e)
is_stage P.First e = absurd (false≢true e)
is_stage P.Ready e = absurd (false≢true e)
is_stage P.Pass e = absurd (false≢true e)
is_stage P.Stage e = refl
is_stage P.Candidate e = absurd (false≢true e)
is_stage P.Finished e = absurd (false≢true e)
is_stage P.Callback e = absurd (false≢true e)

pub passed : (r : Record) (c : Counters) (area d : List Float) → stage_taken r c area d ≡ true → Passed r c area d
unfolding stage_taken
passed r c area d e =
    let rounds = both _ _ e in
    let first = four _ _ _ _ rounds.0 in
    let second = three _ _ _ rounds.1 in
    record {
      family = first.0;
      size = first.1;
      phase = is_stage r.phase first.2;
      more = first.3;
      lengths = second.0;
      place = second.1;
      finite = second.2;
    }

-- ---- the reply

awaits : (r : Record) → r.phase ≡ P.Stage → good_stage (setting_of r) r.staging.stages r.staging.stage ≡ true → awaiting r ≡ true
unfolding awaiting pending in_range
awaits r e g = ap (λ (p : Phase). pending p && in_range p r) e ∙ g

counts_one : (k : ℕ) → room k ≡ true → k < 2 ^ 64 - 1
unfolding room
counts_one k e = ltb-true k (2 ^ 64 - 1) e

roomy : (p : Phase) (c : Counters) → p ≡ P.Stage → room c.evaluations ≡ true → has_room p c ≡ true
unfolding has_room finishes
roomy p c e h = ap (λ (p : Phase). has_room p c) e ∙ ap (λ (b : Bool). b && true) h

-- whatever it comes to, it counts as one evaluation
counts_as : (x : Staged) (r : Record) (c : Counters) → one_more c ≡ counted (outcome_of x r).answer c
unfolding outcome_of counted
counts_as (On t g) r c = refl
counts_as (OnByTheta t j theta) r c = refl
counts_as (Ended t) r c = refl
counts_as NotFinite r c = refl

pub goes : (r : Record) (c : Counters) (area d : List Float) (x : Staged) (left : List Float) → Passed r c area d
    → length left ≡ vector_count (family_of r.family) * r.n → Steps (take_stage r (unpack r.n area) d) (outcome_of x r) (unpack r.n left)
    → StandsFor (reply (holding r c area) d) r c x left
unfolding reply reply_tests replied
goes r c area d x left p h t =
    let ts = reply_tests r c area d in
    let each : Passing ts = (p.family, (p.size, (p.lengths, (awaits r p.phase p.place, (roomy r.phase c p.phase p.more, tt))))) in
    let step = as_step (sym (ap (λ (q : Phase). replied q r (unpack r.n area) d) p.phase)) t in
    record { meets = admitted_meets _ _ (admits ts each) (settles _ (family_of r.family) r.n left p.finite h step (counts_as x r c)) }

-- such a reply has room to be counted
pub has_one : (r : Record) (c : Counters) (area d : List Float) → stage_taken r c area d ≡ true → c.evaluations < 2 ^ 64 - 1
has_one r c area d e = counts_one _ (passed r c area d e).more

-- what it stands for, written out
pub comes : {promised : Called} {r : Record} {c : Counters} {left : List Float} {x : Staged} {y : Next} {z : Replied} → StandsFor promised r c x left
    → y ≡ outcome_of x r → z ≡ record { answer = y.answer; «record» = y.«record»; counters = counted y.answer c }
    → Meets promised z.answer z.«record» z.counters left
comes {promised} {r} {c} {left} {x} w m q =
    let of_reply : Next → Replied = λ y. record { answer = y.answer; «record» = y.«record»; counters = counted y.answer c } in
    let out = outcome_of x r in
    subst (λ (u : Replied). Meets promised u.answer u.«record» u.counters left) (sym (q ∙ ap of_reply m))
    (subst (λ (k : Counters). Meets promised out.answer out.«record» k left) (counts_as x r c) w.meets)

-- it finishes no attempt
pub never_finished : (r : Record) (x : Staged) {y : Next} → y ≡ outcome_of x r → case_number y.answer ≡ 2 → ⊥
unfolding outcome_of case_number
never_finished r x m e = go x (ap (λ (y : Next). case_number y.answer) (sym m) ∙ e)
  where
    go : (x : Staged) → case_number (outcome_of x r).answer ≡ 2 → ⊥
    go (On t g) e = omega arith
    go (OnByTheta t j theta) e = omega arith
    go (Ended t) e = omega arith
    go NotFinite e = omega arith

-- ---- a reply that is not taken within the stages, and that the call's own tests pass

stage_passes : (r : Record) (c : Counters) (area d : List Float) → in_stages r.phase ≡ true → Passing (reply_tests r c area d) → all_finite d ≡ true
    → stage_taken r c area d ≡ true
unfolding stage_taken reply_tests awaiting has_room in_range
stage_passes r c area d e p q =
    let t = p.1.1 in
    let range = (both (pending r.phase) (in_range r.phase r) t.1.0).1 in
    let place : in_range P.Stage r ≡ true = ap (λ (k : Phase). in_range k r) (sym (is_stage r.phase e)) ∙ range in
    let more = (both (room c.evaluations) _ t.1.1.0).0 in
    ap₂ ◌&&◌ (ap₂ ◌&&◌ (ap₂ ◌&&◌ (ap₂ ◌&&◌ p.0 p.1.0) e) more) (ap₂ ◌&&◌ (ap₂ ◌&&◌ t.0 place) q)

not_so : (b : Bool) → (b ≡ true → ⊥) → b ≡ false
not_so true n = absurd (n refl)
not_so false n = refl

pub elsewhere : (r : Record) (c : Counters) (area d : List Float) → stage_taken r c area d ≡ false → Passing (reply_tests r c area d) → all_finite d ≡ true
    → in_stages r.phase ≡ false
elsewhere r c area d z p q = not_so (in_stages r.phase) (λ e. false≢true (sym z ∙ stage_passes r c area d e p q))

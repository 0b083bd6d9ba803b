-- From what driver's call keeps to what the call for C tells, of a record that was lent: `before` is that record, `kept` what was read of it.
use Prim.Native.Nat.{ℕ}
use mathlib.Core.Path.{◌≡◌, sym, ap, subst, ◌∙◌}
use mathlib.Core.Bool.{Bool}
use mathlib.Core.List.{List}
use lib.Ieee.{Float}
use Rattle.driver.specs.declared.Answer.{Answer as Case}
use Rattle.driver.specs.declared.Record.{Record as Kept}
use Rattle.driver.specs.declared.Counters.{Counters}
use Rattle.driver.specs.declared.Next.{Next}
use Rattle.driver.specs.declared.Staged.{Staged}
use Rattle.driver.specs.Answers.{SameAnswer}
use Rattle.driver.specs.Calls.{Held, Called, one_more}
use Rattle.driver.specs.Promises.{Meets, Keeps, StandsFor, holding, stage_taken, outcome_of}
use Rattle.driver.proofs.Counting.{said}
use Rattle.lent.specs.Numbers.{Record, Answered, meaning, in_numbers, handed_back}
use Rattle.lent.specs.Lent.{lent, place_of, staged_outcome}
use Rattle.capi.specs.Promises.{MeetsLent, KeepsLent}

same_numbers : {a b : Case} → SameAnswer a b → in_numbers a ≡ in_numbers b
same_numbers s = ap in_numbers (said s)

pub meets_lent : {before : Record} (adaptive : ℕ) (call : Held → Called) {area left : List Float} {kept after : Kept} {a : Case} {c d : Counters}
    {given : Answered}
    → kept ≡ meaning before → Meets (call (holding kept c area)) a after d left → given ≡ handed_back before adaptive (in_numbers a) after
    → MeetsLent before adaptive (call (holding (meaning before) c area)) given d left
meets_lent {before} adaptive call {area} {left} {kept} {after} {a} {c} {d} {given} is m e =
    let at : Called = call (holding kept c area) in
    subst (λ (r : Kept). MeetsLent before adaptive (call (holding r c area)) given d left) is
    (record {
      outcome_is =
          e
          ∙ (ap (λ x. handed_back before adaptive x after) (same_numbers m.answer)
          ∙ ap (λ (r : Kept). handed_back before adaptive (in_numbers at.answer) r) m.kept);
      counters_are = m.counters;
      area_is = m.area;
    })

-- of a reply to a stage's evaluation
pub meets_in_stages : {before : Record} (call : Held → Called) {area left : List Float} {kept : Kept} {c : Counters} {x : Staged} {given : Answered}
    → kept ≡ meaning before → StandsFor (call (holding kept c area)) kept c x left → given ≡ staged_outcome before x
    → MeetsLent before before.arguments.adaptive (call (holding (meaning before) c area)) given (one_more c) left
meets_in_stages {before} call {x = x} is w e =
    let handed : Kept → Answered = λ m. handed_back before before.arguments.adaptive (in_numbers (outcome_of x m).answer) (outcome_of x m).«record» in
    meets_lent before.arguments.adaptive call is w.meets (e ∙ ap handed (sym is))

-- of a call that is lent no counters
pub keeps_lent : {before : Record} (adaptive : ℕ) (call : Held → Called) {area left : List Float} {kept : Kept} {x : Next} {given : Answered}
    → kept ≡ meaning before → Keeps (λ c. call (holding kept c area)) x left → given ≡ handed_back before adaptive (in_numbers x.answer) x.«record»
    → KeepsLent before adaptive call area given left
keeps_lent adaptive call is m e = λ c. meets_lent adaptive call is (m c) e

-- what the call brings is worked out first
pub bringing : {A : Type 0} (call : A → Held → Called) {x y : A} {before : Record} {adaptive : ℕ} {area left : List Float} {given : Answered}
    → x ≡ y → KeepsLent before adaptive (call x) area given left → KeepsLent before adaptive (call y) area given left
bringing {A} call {before = before} {adaptive} {area} {left} {given} e t = subst (λ (b : A). KeepsLent before adaptive (call b) area given left) e t

-- ---- the tests of a stage's reply

-- as they were made, of what was read for them
pub as_tested : (w : List ℕ) (c : Counters) (area d : List Float) {at : Kept} {r b : Bool} → at ≡ place_of w → r ≡ stage_taken at c area d → r ≡ b
    → stage_taken (place_of w) c area d ≡ b
as_tested w c area d e t u = sym (ap (λ (k : Kept). stage_taken k c area d) e) ∙ (sym t ∙ u)

-- they say of the record what they say of its place
pub at_place : (w : List ℕ) (x : List Float) (c : Counters) (area d : List Float) {kept : Kept} {b : Bool} → kept ≡ meaning (lent w x)
    → stage_taken (place_of w) c area d ≡ b → stage_taken kept c area d ≡ b
unfolding stage_taken meaning
at_place w x c area d e h = ap (λ (k : Kept). stage_taken k c area d) e ∙ h

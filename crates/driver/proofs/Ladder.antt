-- Tests in a row, from what the code has found of each: a list of tests that pass; and a call behind its list, by cases for any property (`by_tests`), and
-- for the promises of the calls.
use mathlib.Core.Path.{◌≡◌, refl, sym, ap, subst, ◌∙◌}
use mathlib.Core.Bool.{Bool, true, false, cond}
use mathlib.Core.List.{List, [], ◌∷◌}
use Prim.Native.Nat.{ℕ}
use lib.Ieee.{Float}
use Rattle.driver.specs.declared.Answer.{Answer}
use Rattle.driver.specs.declared.Answer.TheVariants.{Refused}
use Rattle.driver.specs.declared.Record.{Record}
use Rattle.driver.specs.declared.Counters.{Counters}
use Rattle.driver.specs.declared.Next.{Next}
use Rattle.driver.specs.declared.Replied.{Replied}
use Rattle.driver.specs.Answers.{SameAnswer}
use Rattle.driver.specs.Calls.{Held, Called, Test, Verdict, admitted, refused_with, first_failing, decide, guarded}
use Rattle.driver.specs.Promises.{Meets, Keeps, holding, refusal, turned_away}

-- a test as the code has it, r, and as the definition has it, t
pub fails : {r t : Bool} → r ≡ t → r ≡ false → t ≡ false
fails e h = sym e ∙ h

pub passes : {r t : Bool} → r ≡ t → r ≡ true → t ≡ true
passes e h = sym e ∙ h

-- an arm of a match: what holds of the arm's own case, said of the value as it came
pub arm : {A : Type 0} {p q : A} {b : Bool} (test : A → Bool) → q ≡ p → b ≡ test p → b ≡ test q
arm test e h = h ∙ ap test (sym e)

-- ---- no test of the list fails: each passes

abbrev pub Passing : List Test → Type 0
Passing [] = Unit {0}
Passing (t ∷ ts) = (t.passes ≡ true) × Passing ts

abbrev pub is_refused : Verdict → Type 0
is_refused admitted = ⊥
is_refused (refused_with k) = Unit {0}

pub each_passes : (ts : List Test) → first_failing ts ≡ admitted → Passing ts
unfolding first_failing
each_passes [] e = tt
each_passes (t ∷ ts) e = go t.passes e (each_passes ts)
  where
    go : (b : Bool) → cond b (first_failing ts) (refused_with t.cause) ≡ admitted → (first_failing ts ≡ admitted → Passing ts) → (b ≡ true) × Passing ts
    go true e on = (refl, on e)
    go false e on = absurd (subst is_refused e tt)

pub admits : (ts : List Test) → Passing ts → first_failing ts ≡ admitted
unfolding first_failing
admits [] p = refl
admits (t ∷ ts) p = rw p.0 (admits ts p.1)

-- ---- a call behind its list

-- it comes to this where it is turned away with k
abbrev pub away : Held → ℕ → Called
away h k = record { answer = Refused k; held = h }

-- what holds of the call that no test turns away, and of the call turned away with the first failing number, holds of the call
pub by_tests : (P : Called → Type 0) (h : Held) (ts : List Test) (go : Called) → (first_failing ts ≡ admitted → P go)
    → ((k : ℕ) → first_failing ts ≡ refused_with k → P (away h k)) → P (guarded h ts go)
unfolding guarded decide
by_tests P h ts go on off = by (first_failing ts) on off
  where
    by : (v : Verdict) → (v ≡ admitted → P go) → ((k : ℕ) → v ≡ refused_with k → P (away h k)) → P (decide v h go)
    by admitted on off = on refl
    by (refused_with k) on off = off k refl

pub goes_ahead : (h : Held) (ts : List Test) (go : Called) → first_failing ts ≡ admitted → guarded h ts go ≡ go
unfolding guarded decide
goes_ahead h ts go e = rw e

-- turned away with the number k that the code has found
turned_away_by : (h : Held) (ts : List Test) (go : Called) {k : ℕ} → refused_with k ≡ first_failing ts → guarded h ts go ≡ away h k
unfolding guarded decide
turned_away_by h ts go e = rw (sym e)

pub same_answer : {a b : Answer} → a ≡ b → SameAnswer a b
same_answer {a} e = subst (λ (b : Answer). SameAnswer a b) e (record { same_case = refl; same_values = refl })

-- the promise of a call that is lent no counters
pub refused_keeps : {r : Record} {k : ℕ} {x : Next} (area : List Float) (ts : List Test) (go : Counters → Called) → refused_with k ≡ first_failing ts
    → x ≡ refusal k r → Keeps (λ c. guarded (holding r c area) ts (go c)) x area
refused_keeps {r} {k} {x} area ts go e q = λ c.
    subst (λ (y : Called). Meets y x.answer x.«record» c area) (sym (turned_away_by (holding r c area) ts (go c) e))
    (record { answer = same_answer (ap (λ (y : Next). y.answer) q); kept = ap (λ (y : Next). y.«record») q; counters = refl; area = refl })

pub admitted_keeps : {go : Counters → Called} {x : Next} {left : List Float} (h : Counters → Held) (ts : List Test) → first_failing ts ≡ admitted
    → Keeps go x left → Keeps (λ c. guarded (h c) ts (go c)) x left
unfolding guarded decide
admitted_keeps h ts e m = λ c. rw e (m c)

-- and of a reply, which is
pub refused_meets : {k : ℕ} {x : Replied} (h : Held) (ts : List Test) (go : Called) → refused_with k ≡ first_failing ts
    → x ≡ turned_away k h.kept h.counters → Meets (guarded h ts go) x.answer x.«record» x.counters h.area
refused_meets {k} {x} h ts go e q =
    subst (λ (y : Called). Meets y x.answer x.«record» x.counters h.area) (sym (turned_away_by h ts go e)) (record {
      answer = same_answer (ap (λ (y : Replied). y.answer) q);
      kept = ap (λ (y : Replied). y.«record») q;
      counters = ap (λ (y : Replied). y.counters) q;
      area = refl;
    })

pub admitted_meets : {go : Called} {a : Answer} {r : Record} {c : Counters} {left : List Float} (h : Held) (ts : List Test) → first_failing ts ≡ admitted
    → Meets go a r c left → Meets (guarded h ts go) a r c left
unfolding guarded decide
admitted_meets h ts e m = rw e m

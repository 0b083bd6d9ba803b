-- A call behind its list of tests, whatever the list: the verdict of its answer, and whether it is taken. From the two cases of such a call (driver's
-- `by_tests`), by induction over the list.
use mathlib.Core.Path.{◌≡◌, refl, sym, ap, subst, ◌∙◌}
use mathlib.Core.Bool.{Bool, true, false, cond, not, ◌&&◌}
use mathlib.Core.List.{List, [], ◌∷◌, ◌++◌}
use Prim.Native.Nat.{ℕ}
use Rattle.driver.specs.declared.Answer.TheVariants.{Refused}
use Rattle.driver.specs.Numbers.{one_of, standing_numbers}
use Rattle.driver.specs.Calls.{Held, Called, Test, Verdict, admitted, refused_with, first_failing, cause_of, decide, guarded, taken}
use Rattle.driver.proofs.Ladder.{is_refused, by_tests}
use Rattle.session.specs.Refusals.{verdict_of}
use Rattle.ieee.proofs.Logic.{and_left, and_right}
use Rattle.session.proofs.Truth.{differ}

-- on every number everything stands
abbrev pub is_low : ℕ → Bool
is_low k = one_of standing_numbers k

abbrev pub low : List Test → Bool
low [] = true
low (t ∷ ts) = is_low t.cause && low ts

-- then so is the number of the first that fails
pub low_fails : (ts : List Test) (k : ℕ) → low ts ≡ true → first_failing ts ≡ refused_with k → is_low k ≡ true
unfolding first_failing cause_of
low_fails [] k l e = absurd (subst is_refused (sym e) tt)
low_fails (t ∷ ts) k l e = go t.passes e (low_fails ts k (and_right (is_low t.cause) (low ts) l))
  where
    go : (b : Bool) → cond b (first_failing ts) (refused_with t.cause) ≡ refused_with k → (first_failing ts ≡ refused_with k → is_low k ≡ true)
        → is_low k ≡ true
    go true e on = on e
    go false e on = ap is_low (sym (ap cause_of e)) ∙ and_left (is_low t.cause) (low ts) l

pub not_taken : (k : ℕ) → is_low k ≡ true → taken (Refused k) ≡ false
unfolding taken
not_taken k e = ap not e

-- ---- its verdict

-- that of its tests and, past them, v
abbrev after : Verdict → Verdict → Verdict
after admitted v = v
after (refused_with k) v = refused_with k

append_fails : (ts us : List Test) → first_failing (ts ++ us) ≡ after (first_failing ts) (first_failing us)
unfolding first_failing
append_fails [] us = refl
append_fails (t ∷ ts) us = go t.passes (append_fails ts us)
  where
    go : (b : Bool) → first_failing (ts ++ us) ≡ after (first_failing ts) (first_failing us)
        → cond b (first_failing (ts ++ us)) (refused_with t.cause) ≡ after (cond b (first_failing ts) (refused_with t.cause)) (first_failing us)
    go true e = e
    go false e = refl

-- past its tests ts, the tests us decide
pub verdict_then : (h : Held) (ts us : List Test) (go : Called) → verdict_of go.answer ≡ first_failing us
    → verdict_of (guarded h ts go).answer ≡ first_failing (ts ++ us)
verdict_then h ts us go e =
    by_tests (λ (x : Called). verdict_of x.answer ≡ first_failing (ts ++ us)) h ts go (λ q. e ∙ sym (whole q)) (λ k q. sym (whole q))
  where
    whole : {v : Verdict} → first_failing ts ≡ v → first_failing (ts ++ us) ≡ after v (first_failing us)
    whole q = append_fails ts us ∙ ap (λ (v : Verdict). after v (first_failing us)) q

-- only its tests turn it away
pub verdict_alone : (h : Held) (ts : List Test) (go : Called) → verdict_of go.answer ≡ admitted → verdict_of (guarded h ts go).answer ≡ first_failing ts
verdict_alone h ts go e = by_tests (λ (x : Called). verdict_of x.answer ≡ first_failing ts) h ts go (λ q. e ∙ sym q) (λ k q. sym q)

-- ---- whether it is taken

-- taken, no test failed
pub taken_passes : (h : Held) (ts : List Test) (go : Called) → low ts ≡ true → taken (guarded h ts go).answer ≡ true → first_failing ts ≡ admitted
taken_passes h ts go l =
    by_tests (λ (x : Called). taken x.answer ≡ true → first_failing ts ≡ admitted) h ts go (λ q _. q)
    (λ k q t. absurd (differ (sym (not_taken k (low_fails ts k l q)) ∙ t)))

-- all the tests in one (the last without a `true` behind it, so that a list written out is the conjunction as one writes it)
abbrev pub all_of : List Test → Bool
all_of [] = true
all_of (t ∷ []) = t.passes
all_of (t ∷ u ∷ us) = t.passes && all_of (u ∷ us)

-- past its tests it is taken, so it is exactly where they pass
pub taken_exactly : (h : Held) (ts : List Test) (go : Called) → low ts ≡ true → taken go.answer ≡ true → taken (guarded h ts go).answer ≡ all_of ts
unfolding guarded decide first_failing
taken_exactly h [] go l q = q
taken_exactly h (t ∷ []) go l q = by t.passes
  where
    by : (b : Bool) → taken (decide (cond b admitted (refused_with t.cause)) h go).answer ≡ b
    by true = q
    by false = not_taken t.cause (and_left (is_low t.cause) true l)
taken_exactly h (t ∷ u ∷ us) go l q = by t.passes (taken_exactly h (u ∷ us) go (and_right (is_low t.cause) (low (u ∷ us)) l) q)
  where
    by : (b : Bool) → taken (guarded h (u ∷ us) go).answer ≡ all_of (u ∷ us)
        → taken (decide (cond b (first_failing (u ∷ us)) (refused_with t.cause)) h go).answer ≡ b && all_of (u ∷ us)
    by true e = e
    by false e = not_taken t.cause (and_left (is_low t.cause) (low (u ∷ us)) l)

-- What it is for the calls to follow the attempt in one piece, whatever the replies; and from it: on any stream of replies that finds room they call for the
-- same points and end in the same end.
use mathlib.Core.Path.{◌≡◌, refl, ap₂, ◌∙◌, subst}
use mathlib.Core.Bool.{Bool, true, false, not, ◌||◌}
use mathlib.Core.List.{List, [], ◌∷◌, ◌++◌}
use Prim.Native.Nat.{ℕ, suc, ◌+◌, ◌-◌, ◌^◌, ◌≤◌, ◌<◌}
use native.Mathlib.Omega.{arith}
use borrow.Author.Tests.{lt-ltb}
use lib.ListN.{length}
use lib.Ieee.{Float}
use Rattle.workspace.specs.declared.Arguments.{Arguments}
use Rattle.driver.specs.declared.Phase.{Phase}
use Rattle.driver.specs.Calls.{Held, Called, room, finishes, has_room, reply}
use Rattle.session.specs.Attempt.{Purpose, closes, Asking, done, stopped, ask, FinishedAttempt, Evaluated, evaluated, reaches_candidate, end}
use Rattle.session.specs.Claim.{called_for, answers, after, last_found, room_in, Waits, Finishes, Stops, Ends}
use Rattle.session.proofs.Truth.{both, or_left, or_right}

-- (an answer that calls for nothing is no evaluation)
abbrev pub some_empty : List Evaluated → Type 0
some_empty [] = Unit {0}
some_empty (x ∷ xs) = ⊥

-- the candidate's evaluation is that of the phase Candidate and of no other, and after it there is none
pub record Tied (φ : Phase) (why : Purpose) (k : List Float → Asking FinishedAttempt) : Type 0 where
  pub purpose_is : closes why ≡ finishes φ
  pub none_after : closes why ≡ true → (d : List Float) (s : ℕ → List Float) (i : ℕ) → length (evaluated (k d) s i) ≡ 0

-- The calls, x the answer just given by a call that found b, and `replies` made before it, follow the computation: they call for what it asks for, whatever the
-- replies that find room, and end as it ends.
unfoldable pub Follows : Held → Arguments → ℕ → Held → Asking FinishedAttempt → Called → Type 0
Follows h a replies b (done o) x = Finishes h a o replies x
Follows h a replies b (stopped i v) x = Stops h b i v replies x
Follows h a replies b (ask why t p k) x =
    Waits h replies x
    × (called_for x.answer x.held ≡ record { time = t; point = p } ∷ [])
    × ((d : List Float) → length d ≡ h.kept.n → room_in x.held ≡ true → Follows h a (suc replies) x.held (k d) (reply x.held d))
    × Tied x.held.kept.phase why k

pub room_for : (h : Held) (replies : ℕ) (x : Called) → Waits h replies x → h.counters.evaluations + suc replies < 2 ^ 64
    → (finishes x.held.kept.phase ≡ true → h.counters.finished_attempts + 1 < 2 ^ 64) → room_in x.held ≡ true
unfolding has_room room
room_for h replies x w fit last =
    both (lt-ltb x.held.counters.evaluations (2 ^ 64 - 1) (let q = w.evaluations_are in omega arith)) (go (finishes x.held.kept.phase) last)
  where
    go : (t : Bool) → (t ≡ true → h.counters.finished_attempts + 1 < 2 ^ 64) → not t || room x.held.counters.finished_attempts ≡ true
    go true l = lt-ltb x.held.counters.finished_attempts (2 ^ 64 - 1) (let q = w.attempts_are in let l' = l refl in omega arith)
    go false l = refl

-- ---- a stream of replies

module _ (h : Held) (a : Arguments) (d : ℕ → List Float) (long : (i : ℕ) → length (d i) ≡ h.kept.n) (total : ℕ) (fits : h.counters.evaluations
    + total < 2 ^ 64) where
  -- the attempt from here on fits
  abbrev pub Ahead : Asking FinishedAttempt → ℕ → ℕ → Type 0
  Ahead m replies i = (replies + length (evaluated m d i) ≤ total) × (reaches_candidate m d i ≡ true → h.counters.finished_attempts + 1 < 2 ^ 64)

  pub ahead_room : (why : Purpose) (t : Float) (p : List Float) (k : List Float → Asking FinishedAttempt) (replies i : ℕ) (b : Held) (x : Called)
      → Ahead (ask why t p k) replies i → Follows h a replies b (ask why t p k) x
      → room_in x.held ≡ true
  unfolding Follows evaluated reaches_candidate
  ahead_room why t p k replies i b x l f =
      room_for h replies x f.0 (let l0 = l.0 in omega arith) (λ e. l.1 (or_left (closes why) _ (f.3.purpose_is ∙ e)))

  pub ahead_on : (why : Purpose) (t : Float) (p : List Float) (k : List Float → Asking FinishedAttempt) (replies i : ℕ) → Ahead (ask why t p k) replies i
      → Ahead (k (d i)) (suc replies) (suc i)
  unfolding evaluated reaches_candidate
  ahead_on why t p k replies i l = ((let l0 = l.0 in omega arith), λ e. l.1 (or_right (closes why) _ e))

  pub same_points : (m : Asking FinishedAttempt) (replies i : ℕ) (b : Held) (x : Called) → Ahead m replies i → Follows h a replies b m x
      → answers (length (evaluated m d i)) d i x ≡ evaluated m d i
  unfolding Follows evaluated answers
  same_points (done o) replies i b x l f = refl
  same_points (stopped j v) replies i b x l f = refl
  same_points (ask why t p k) replies i b x l f = ap₂ ◌++◌ f.1
      (same_points (k (d i)) (suc replies) (suc i) x.held (reply x.held (d i)) (ahead_on why t p k replies i l)
      (f.2 (d i) (long i) (ahead_room why t p k replies i b x l f)))

  pub same_ends : (m : Asking FinishedAttempt) (replies i : ℕ) (b : Held) (x : Called) → Ahead m replies i → Follows h a replies b m x
      → Ends h a (end m d i) (replies + length (evaluated m d i)) (last_found (length (evaluated m d i)) d i b x) (after (length (evaluated m d i)) d i x)
  unfolding Follows evaluated end after last_found
  same_ends (done o) replies i b x l f = subst (λ (r : ℕ). Finishes h a o r x) (omega arith) f
  same_ends (stopped j v) replies i b x l f = subst (λ (r : ℕ). Stops h b j v r x) (omega arith) f
  same_ends (ask why t p k) replies i b x l f =
      subst (λ (r : ℕ). Ends h a (end (k (d i)) d (suc i)) r (last_found (length (evaluated (k (d i)) d (suc i))) d (suc i) x.held (reply x.held (d i)))
      (after (length (evaluated (k (d i)) d (suc i))) d (suc i) (reply x.held (d i)))) (omega arith)
      (same_ends (k (d i)) (suc replies) (suc i) x.held (reply x.held (d i)) (ahead_on why t p k replies i l)
      (f.2 (d i) (long i) (ahead_room why t p k replies i b x l f)))

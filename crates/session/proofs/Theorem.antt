-- The theorem: an attempt that is not turned away, and then replies of n doubles each, give answer by answer the evaluations of the attempt in one piece, and
-- its end. And what a finished attempt took.
use Prim.Native.Nat.{ℕ, zero, suc, ◌+◌, ◌≤◌, ◌<◌}
use mathlib.Core.Path.{◌≡◌, refl, subst}
use mathlib.Core.List.{List, [], ◌∷◌}
use native.Mathlib.Nat.{zero-add, not-suc-le-zero}
use native.Mathlib.Omega.{arith}
use lib.ListN.{length}
use lib.Ieee.{Float}
use Rattle.workspace.specs.declared.Arguments.{Arguments}
use Rattle.driver.specs.declared.Answer.{Answer}
use Rattle.driver.specs.declared.Answer.TheVariants.{Evaluate, Finished, Ready, Refused, Empty}
use Rattle.driver.specs.Answers.{case_number}
use Rattle.driver.specs.Calls.{Held, Called, attempt, reply}
use Rattle.driver.proofs.Ladder.{same_answer}
use Rattle.session.specs.Attempt.{Asking, done, stopped, ask, FinishedAttempt, Evaluated, evaluated, End, reached, end}
use Rattle.session.specs.Claim.{called_for, Allowed, Fits, Finishes, Ends, after, last_found, in_one_piece, replies_to, Runs, Took}
use Rattle.session.proofs.Served.{stages_from}
use Rattle.session.proofs.Follows.{some_empty, Ahead, ahead_room, ahead_on, Follows, same_points, same_ends}
use Rattle.session.proofs.Passes.{attempt_follows}

pub run : (h : Held) (a : Arguments) (d : ℕ → List Float) → Allowed h a → ((i : ℕ) → length (d i) ≡ h.kept.n) → Fits h a d → Runs h a d
run h a d p long fits = let follows = attempt_follows h a p in let m = in_one_piece h a in let total = replies_to h a d in
    let le : 0 + total ≤ total = omega arith in record {
      same_evaluations = same_points h a d long total fits.evaluations_fit m 0 0 h (attempt h a) (le, fits.attempts_fit) follows;
      same_end =
          subst (λ (replies : ℕ). Ends h a (end m d 0) replies (last_found total d 0 h (attempt h a)) (after total d 0 (attempt h a)))
          (zero-add total) (same_ends h a d long total fits.evaluations_fit m 0 0 h (attempt h a) (le, fits.attempts_fit) follows);
    }

-- ---- a finished attempt

-- an answer that calls for something is the first case
calls : (y : Answer) (g : Held) (e : Evaluated) → called_for y g ≡ e ∷ [] → case_number y ≡ 1
unfolding called_for case_number
calls (Evaluate t b) g e q = refl
calls (Finished t) g e q = absurd (subst some_empty q tt)
calls Ready g e q = absurd (subst some_empty q tt)
calls (Refused i) g e q = absurd (subst some_empty q tt)
calls Empty g e q = absurd (subst some_empty q tt)

each_calls : (h : Held) (a : Arguments) (d : ℕ → List Float) (long : (i : ℕ) → length (d i) ≡ h.kept.n) (total : ℕ) (fits : _) (m : Asking FinishedAttempt)
    (replies i : ℕ) (b : Held) (x : Called)
    → Ahead h a d long total fits m replies i → Follows h a replies b m x → (j : ℕ) → j < length (evaluated m d i) → case_number (after j d i x).answer ≡ 1
unfolding Follows evaluated after
each_calls h a d long total fits (done o) replies i b x l f j lt = absurd (not-suc-le-zero lt)
each_calls h a d long total fits (stopped n v) replies i b x l f j lt = absurd (not-suc-le-zero lt)
each_calls h a d long total fits (ask why t p k) replies i b x l f zero lt = calls x.answer x.held _ f.1
each_calls h a d long total fits (ask why t p k) replies i b x l f (suc j) lt =
    each_calls h a d long total fits (k (d i)) (suc replies) (suc i) x.held (reply x.held (d i)) (ahead_on h a d long total fits why t p k replies i l)
    (f.2 (d i) (long i) (ahead_room h a d long total fits why t p k replies i b x l f)) j (omega arith)

module _ (h : Held) (a : Arguments) (d : ℕ → List Float) (o : FinishedAttempt) (p : Allowed h a) (long : (i : ℕ)
    → length (d i) ≡ h.kept.n) (fits : Fits h a d) (e : end (in_one_piece h a) d 0 ≡ reached o) where
  finishes_then : Finishes h a o (replies_to h a d) (after (replies_to h a d) d 0 (attempt h a))
  finishes_then = subst (λ (z : End FinishedAttempt). Ends h a z (replies_to h a d) (last_found (replies_to h a d) d 0 h (attempt h a))
      (after (replies_to h a d) d 0 (attempt h a))) e (run h a d p long fits).same_end

  pub finished : Finishes h a o (o.stages + o.passes) (after (o.stages + o.passes) d 0 (attempt h a))
  finished = subst (λ (i : ℕ). Finishes h a o i (after i d 0 (attempt h a))) finishes_then.replies_are finishes_then

  pub took : Took h a d o (after (o.stages + o.passes) d 0 (attempt h a))
  took =
      let total = replies_to h a d in
      let le : 0 + total ≤ total = omega arith in
      let q = finishes_then.replies_are in record {
        replies_are = q;
        one_pass = finished.one_pass;
        twelve_passes = finished.twelve_passes;
        stages_are = stages_from h a o _ _ finished;
        each_evaluates = λ j lt. each_calls h a d long total fits.evaluations_fit (in_one_piece h a) 0 0 h (attempt h a) (
          le,
          fits.attempts_fit,
        ) (attempt_follows h a p) j (omega arith);
        answer_is = same_answer finished.answer_is;
        evaluations_are = finished.evaluations_are;
        attempts_are = finished.attempts_are;
      }

-- After any calls, where the phase is one of an attempt: the attempt that was taken, the replies taken since and no other call, how they were answered, and
-- where the attempt stands. From the outcomes of a call, and how each goes on with an attempt under way.
use mathlib.Core.Path.{◌≡◌, refl, sym, ap, ap₂, ◌∙◌, subst}
use mathlib.Core.Bool.{true, false, ◌&&◌}
use mathlib.Core.List.{List, [], ◌∷◌, ◌++◌, map, append-nil}
use Prim.Native.Nat.{ℕ, ◌+◌, ◌-◌}
use native.Mathlib.Omega.{arith}
use lib.ListN.{length, length-append, replicate, replicate-append-replicate}
use lib.Ieee.{Float}
use Rattle.workspace.specs.declared.Arguments.{Arguments}
use Rattle.driver.specs.declared.Phase.{Phase}
use Rattle.driver.specs.declared.Phase.TheVariants as P
use Rattle.driver.specs.Calls.{Held, Called, in_phase, first_at, pending, Call, Attempt, Reply, made, taken}
use Rattle.session.specs.Session.{taken_of, held_after}
use Rattle.session.specs.Concluded.{TakenAmong, found, taken_since, cases_of, cases_since}
use Rattle.ieee.proofs.Logic.{and_left, and_right}
use Rattle.session.proofs.Truth.{differ}
use Rattle.session.proofs.Later.{last, further, taken_further, cases_further}
use Rattle.session.proofs.Outcomes.{Outcome, away, starts, attempts, spoils, readies, iterates, begins, goes_on, asks_candidate, finishes}
use Rattle.session.proofs.Outcomes.{accepts, calls_back, abandons}
use Rattle.session.proofs.Underway.{active, case_at, Underway, attempt_begins, reply_goes}

-- how m replies were answered: by evaluations, the last by finished once the phase says so
unfoldable pub cases_at : Phase → ℕ → List ℕ
cases_at P.Empty m = replicate m 1
cases_at P.First m = replicate m 1
cases_at P.Ready m = replicate m 1
cases_at P.Pass m = replicate m 1
cases_at P.Stage m = replicate m 1
cases_at P.Candidate m = replicate m 1
cases_at P.Finished m = replicate (m - 1) 1 ++ 2 ∷ []
cases_at P.Callback m = replicate m 1

one_more : (φ : Phase) (m : ℕ) → replicate m 1 ++ case_at φ ∷ [] ≡ cases_at φ (m + 1)
unfolding case_at cases_at
one_more P.Empty m = replicate-append-replicate m 1 1
one_more P.First m = replicate-append-replicate m 1 1
one_more P.Ready m = replicate-append-replicate m 1 1
one_more P.Pass m = replicate-append-replicate m 1 1
one_more P.Stage m = replicate-append-replicate m 1 1
one_more P.Candidate m = replicate-append-replicate m 1 1
one_more P.Finished m = let e : m ≡ m + 1 - 1 = omega arith in ap (λ (i : ℕ). replicate i 1 ++ 2 ∷ []) e
one_more P.Callback m = replicate-append-replicate m 1 1

waiting : (φ : Phase) (m : ℕ) → pending φ ≡ true → cases_at φ m ≡ replicate m 1
unfolding pending cases_at
waiting P.Empty m e = refl
waiting P.First m e = refl
waiting P.Ready m e = refl
waiting P.Pass m e = refl
waiting P.Stage m e = refl
waiting P.Candidate m e = refl
waiting P.Finished m e = absurd (differ e)
waiting P.Callback m e = refl

pub record Trail (h : Held) (calls : List Call) (x : Held) : Type 0 where
  pub arguments : Arguments
  pub attempt : TakenAmong h calls (Attempt arguments)
  pub replies : List (List Float)
  pub only_replies : taken_since attempt ≡ map Reply replies
  pub answers_are : cases_since attempt ≡ cases_at x.kept.phase (length replies)
  pub underway : Underway (found attempt) arguments (length replies) x

replies_append : (ds es : List (List Float)) → map Reply ds ++ map Reply es ≡ map Reply (ds ++ es)
replies_append [] es = refl
replies_append (d ∷ ds) es = ap (λ (cs : List Call). Reply d ∷ cs) (replies_append ds es)

-- one more call, of which x is the answer and what it leaves
module _ (h : Held) (calls : List Call) where
  abbrev g : Held
  g = held_after h calls

  -- a call that is not taken
  passes_by : (c : Call) (x : Called) → made g c ≡ x → taken x.answer ≡ false → x.held ≡ g → Trail h calls g → Trail h (calls ++ c ∷ []) x.held
  passes_by c x is q same t = let b = Attempt t.arguments in record {
    arguments = t.arguments;
    attempt = further h calls c x is b t.attempt;
    replies = t.replies;
    only_replies = taken_further h calls c x is b t.attempt ∙ rw (q, append-nil) t.only_replies;
    answers_are = cases_further h calls c x is b t.attempt ∙ rw (q, append-nil, same) t.answers_are;
    underway = rw same t.underway;
  }

  -- an attempt
  attempts_now : (a : Arguments) (x : Called) → made g (Attempt a) ≡ x → Outcome g (Attempt a) x → taken x.answer ≡ true
      → Trail h (calls ++ Attempt a ∷ []) x.held
  unfolding taken_of cases_of
  attempts_now a x is o q = let begins = attempt_begins g a x o q in record {
    arguments = a;
    attempt = last h calls (Attempt a) x is q;
    replies = [];
    only_replies = refl;
    answers_are = sym (waiting x.held.kept.phase 0 begins.1);
    underway = begins.0;
  }

  -- a reply
  replies_on : (d : List Float) (x : Called) → made g (Reply d) ≡ x → Outcome g (Reply d) x → taken x.answer ≡ true
      → active x.held.kept.phase ≡ true → pending g.kept.phase ≡ true → Trail h calls g → Trail h (calls ++ Reply d ∷ []) x.held
  replies_on d x is o q on waits t =
      let b = Attempt t.arguments in
      let m = length t.replies in
      let φ = x.held.kept.phase in
      let goes = reply_goes (found t.attempt) t.arguments m g t.underway d x o q on in
      let more : length (t.replies ++ d ∷ []) ≡ m + 1 = length-append t.replies (d ∷ []) in
      let calls_on = ap (λ (cs : List Call). cs ++ Reply d ∷ []) t.only_replies ∙ replies_append t.replies (d ∷ []) in
      let cases_on = ap₂ (λ (ks : List ℕ) (k : ℕ). ks ++ k ∷ []) (t.answers_are ∙ waiting g.kept.phase m waits) goes.answered in record {
        arguments = t.arguments;
        attempt = further h calls (Reply d) x is b t.attempt;
        replies = t.replies ++ d ∷ [];
        only_replies = taken_further h calls (Reply d) x is b t.attempt ∙ rw q calls_on;
        answers_are = cases_further h calls (Reply d) x is b t.attempt ∙ rw q (cases_on ∙ one_more φ m ∙ ap (cases_at φ) (sym more));
        underway = subst (λ (i : ℕ). Underway (found t.attempt) t.arguments i x.held) (sym more) goes.underway;
      }

  -- a reply that found this phase of an attempt
  from_phase : (φ : Phase) → active φ && pending φ ≡ true → (active g.kept.phase ≡ true → Trail h calls g) → g.kept.phase ≡ φ
      → (d : List Float) (x : Called) → made g (Reply d) ≡ x → Outcome g (Reply d) x → taken x.answer ≡ true → active x.held.kept.phase ≡ true
      → Trail h (calls ++ Reply d ∷ []) x.held
  from_phase φ both t p d x is o q on =
      replies_on d x is o q on (ap pending p ∙ and_right (active φ) (pending φ) both) (t (ap active p ∙ and_left (active φ) (pending φ) both))

  pub trail_on : (active g.kept.phase ≡ true → Trail h calls g) → (c : Call) (x : Called) → made g c ≡ x → Outcome g c x
      → active x.held.kept.phase ≡ true → Trail h (calls ++ c ∷ []) x.held
  unfolding taken in_phase first_at active pending
  trail_on t c x is (away i e) on = passes_by c x is e refl (t on)
  trail_on t c x is (starts area) on = absurd (differ on)
  trail_on t (Attempt a) x is (attempts v s b area same) on = attempts_now a x is (attempts v s b area same) refl
  trail_on t c x is (spoils i area) on = absurd (differ on)
  trail_on t c x is (readies area) on = absurd (differ on)
  trail_on t (Reply d) x is (iterates s radius b area p below same) on = from_phase P.Pass refl t p d x is (iterates s radius b area p below same) refl on
  trail_on t (Reply d) x is (begins w s b area p twelve met same turned) on =
      from_phase P.Pass refl t p d x is (begins w s b area p twelve met same turned) refl on
  trail_on t (Reply d) x is (goes_on s b area p below both) on = from_phase P.Stage refl t p d x is (goes_on s b area p below both) refl on
  trail_on t (Reply d) x is (asks_candidate s b area p at both) on = from_phase P.Stage refl t p d x is (asks_candidate s b area p at both) refl on
  trail_on t (Reply d) x is (finishes w p good long both) on = from_phase P.Candidate refl t p d x is (finishes w p good long both) refl on
  trail_on t c x is (accepts area) on = absurd (differ on)
  trail_on t c x is (calls_back area) on = absurd (differ on)
  trail_on t c x is abandons on = absurd (differ on)

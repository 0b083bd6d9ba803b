-- Demand 2 with calls that are not taken before the attempt and between its replies: where the calls that are taken are an attempt and m replies,
-- they show and leave what the attempt and m replies alone do (`among`), so `run` holds of them; and where the attempt finishes they show its evaluations in
-- order and then finished. From `skipped`, `run` and `took`.
use mathlib.Core.Path.{◌≡◌, refl, sym, ap, ap₂, ◌∙◌, subst}
use mathlib.Core.Bool.{Bool, true, false, cond}
use mathlib.Core.List.{List, [], ◌∷◌, ◌++◌, map}
use Prim.Native.Nat.{ℕ, zero, suc, ◌+◌, ◌<◌}
use native.Mathlib.Omega.{arith}
use lib.ListN.{length}
use lib.Ieee.{Float}
use Rattle.workspace.specs.declared.Arguments.{Arguments}
use Rattle.workspace.proofs.Areas.{unpack_pack}
use Rattle.driver.specs.declared.Answer.{Answer}
use Rattle.driver.specs.declared.Answer.TheVariants.{Evaluate, Finished, Ready, Refused, Empty}
use Rattle.driver.specs.Answers.{case_number}
use Rattle.driver.specs.Calls.{Held, Called, attempt, reply, Call, Attempt, made, taken}
use Rattle.session.specs.Attempt.{FinishedAttempt, Evaluated, evaluated, reached, end}
use Rattle.session.specs.Claim.{called_for, answers, after, replies_from, Allowed, Finishes, in_one_piece, Fits}
use Rattle.session.specs.Session.{Shown, evaluation_shown, finished_shown, Seen, answer_shown, call_seen, seen_of, taken_of, held_after, seen_along}
use Rattle.session.proofs.Lengths.{its_family}
use Rattle.session.proofs.Sequences.{left}
use Rattle.session.proofs.Skipped.{skipped}
use Rattle.session.proofs.Theorem.{run, finished, took}

-- all calls of a list, taken or not
unfoldable all_seen : Held → List Call → List Seen
all_seen h [] = []
all_seen h (c ∷ cs) = call_seen (made h c) ∷ all_seen (made h c).held cs

taken_seen : (h : Held) (cs : List Call) → seen_of h cs ≡ all_seen h (taken_of h cs)
unfolding seen_of taken_of all_seen
taken_seen h [] = refl
taken_seen h (c ∷ cs) = go (taken_seen (made h c).held cs) (taken (made h c).answer) refl
  where
    h' : Held
    h' = (made h c).held

    rest : List Call
    rest = taken_of h' cs

    go : seen_of h' cs ≡ all_seen h' rest → (t : Bool) → taken (made h c).answer ≡ t
        → cond t (call_seen (made h c) ∷ seen_of h' cs) (seen_of h' cs) ≡ all_seen h (cond t (c ∷ rest) rest)
    go on true q = ap (λ (ss : List Seen). call_seen (made h c) ∷ ss) on
    go on false q = on ∙ ap (λ (k : Held). all_seen k rest) (left h c q)

replies_seen : (m : ℕ) (d : ℕ → List Float) (i : ℕ) (x : Called) → call_seen x ∷ all_seen x.held (replies_from m d i) ≡ seen_along m d i x
unfolding all_seen replies_from seen_along made
replies_seen zero d i x = refl
replies_seen (suc m) d i x = ap (λ (ss : List Seen). call_seen x ∷ ss) (replies_seen m d (suc i) (reply x.held (d i)))

replies_leave : (m : ℕ) (d : ℕ → List Float) (i : ℕ) (x : Called) → held_after x.held (replies_from m d i) ≡ (after m d i x).held
unfolding held_after replies_from after made
replies_leave zero d i x = refl
replies_leave (suc m) d i x = replies_leave m d (suc i) (reply x.held (d i))

pub among : (h : Held) (a : Arguments) (d : ℕ → List Float) (m : ℕ) (cs : List Call) → taken_of h cs ≡ Attempt a ∷ replies_from m d 0
    → (seen_of h cs ≡ seen_along m d 0 (attempt h a)) × (held_after h cs ≡ (after m d 0 (attempt h a)).held)
unfolding all_seen held_after made
among h a d m cs e = (
  taken_seen h cs ∙ ap (all_seen h) e ∙ replies_seen m d 0 (attempt h a),
  sym (skipped h cs).1 ∙ ap (held_after h) e ∙ replies_leave m d 0 (attempt h a),
)

-- ---- a finished attempt: its evaluations in order, and then finished

one_shown : (y : Answer) (g : Held) → case_number y ≡ 1 → (shown : List Shown) (more : List Evaluated) (last : List Shown)
    → shown ≡ map evaluation_shown more ++ last
    → answer_shown y g ∷ shown ≡ map evaluation_shown (called_for y g ++ more) ++ last
unfolding answer_shown called_for case_number
one_shown (Evaluate t b) g one shown more last on = ap (λ (ss : List Shown). answer_shown (Evaluate t b) g ∷ ss) on
one_shown (Finished figures) g one shown more last on = absurd (omega arith)
one_shown Ready g one shown more last on = absurd (omega arith)
one_shown (Refused n) g one shown more last on = absurd (omega arith)
one_shown Empty g one shown more last on = absurd (omega arith)

shown_along : (m : ℕ) (d : ℕ → List Float) (i : ℕ) (x : Called) → ((j : ℕ) → j < m → case_number (after j d i x).answer ≡ 1)
    → map (λ (s : Seen). s.shown) (seen_along m d i x) ≡ map evaluation_shown (answers m d i x)
    ++ answer_shown (after m d i x).answer (after m d i x).held ∷ []
unfolding seen_along answers after call_seen
shown_along zero d i x each = refl
shown_along (suc m) d i x each = one_shown x.answer x.held (each 0 (omega arith)) _ (answers m d (suc i) (reply x.held (d i))) _
    (shown_along m d (suc i) (reply x.held (d i)) (λ j l. each (suc j) (omega arith)))

finish_shown : (h : Held) (a : Arguments) (o : FinishedAttempt) (replies : ℕ) (x : Called) → Finishes h a o replies x
    → answer_shown x.answer x.held ≡ finished_shown o
unfolding answer_shown
finish_shown h a o replies x f =
    let back = unpack_pack (its_family h.kept) h.kept.n o.vectors f.vectors_long in
    rw (f.answer_is, f.n_is, f.area_is, back) refl

module _ (h : Held) (a : Arguments) (d : ℕ → List Float) (o : FinishedAttempt) (p : Allowed h a) (long : (i : ℕ)
    → length (d i) ≡ h.kept.n) (fits : Fits h a d) (e : end (in_one_piece h a) d 0 ≡ reached o) (cs : List Call)
    (only : taken_of h cs ≡ Attempt a ∷ replies_from (o.stages + o.passes) d 0) where
  -- what is then held is what the last reply of `took` leaves
  pub finished_among : Finishes h a o (o.stages + o.passes) (after (o.stages + o.passes) d 0 (attempt h a))
      × (held_after h cs ≡ (after (o.stages + o.passes) d 0 (attempt h a)).held)
  finished_among = (finished h a d o p long fits e, (among h a d (o.stages + o.passes) cs only).1)

  pub shown_among : map (λ (s : Seen). s.shown) (seen_of h cs) ≡ map evaluation_shown (evaluated (in_one_piece h a) d 0) ++ finished_shown o ∷ []
  shown_among =
      let t = took h a d o p long fits e in
      let m = o.stages + o.passes in
      let points : answers m d 0 (attempt h a) ≡ evaluated (in_one_piece h a) d 0 =
      subst (λ (i : ℕ). answers i d 0 (attempt h a) ≡ evaluated (in_one_piece h a) d 0) t.replies_are (run h a d p long fits).same_evaluations in
      ap (map (λ (s : Seen). s.shown)) (among h a d m cs only).0 ∙ shown_along m d 0 (attempt h a) t.each_evaluates
      ∙ ap₂ (λ (es : List Evaluated) (s : Shown). map evaluation_shown es ++ s ∷ []) points
      (finish_shown h a o m (after m d 0 (attempt h a)) (finished h a d o p long fits e))

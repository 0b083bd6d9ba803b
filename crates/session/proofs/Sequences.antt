-- From a start on, the calls over any list of them show what the session shows: demand 2 over its whole domain.
use mathlib.Core.Path.{◌≡◌, refl, sym, ap, ap₂, ◌∙◌, subst}
use mathlib.Core.Bool.{Bool, true, false, cond}
use mathlib.Core.List.{List, [], ◌∷◌}
use Prim.Native.Nat.{ℕ}
use borrow.Author.Tests.{not-false}
use lib.ListN.{length}
use lib.Ieee.{Float}
use Rattle.driver.specs.declared.Answer.{Answer}
use Rattle.driver.specs.declared.Answer.TheVariants.{Evaluate, Finished, Ready, Refused, Empty}
use Rattle.driver.specs.Answers.{case_number, case_values}
use Rattle.driver.specs.Numbers.{one_of, standing_numbers}
use Rattle.driver.specs.Calls.{Held, whole_area, start, Call, Start, Attempt, Reply, Accept, AcceptWithCallback, Abandon, made, taken}
use Rattle.session.specs.Session.{Seen, call_seen, seen_of, Session, session_after, session_seen, takes, session, fresh}
use Rattle.session.proofs.Numbers.{is_in}
use Rattle.session.proofs.Truth.{differ}
use Rattle.session.proofs.Leaves.{leaves}
use Rattle.session.proofs.Shows.{Does, Good, seen_alike}
use Rattle.session.proofs.OnStart.{start_tells, start_good, start_area}
use Rattle.session.proofs.OnAttempt.{attempt_agrees, attempt_good, attempt_area}
use Rattle.session.proofs.OnReply.{reply_agrees, reply_good, reply_area}
use Rattle.session.proofs.OnAccept.{accept_agrees, accept_good, accept_area, callback_agrees, callback_good, callback_area}
use Rattle.session.proofs.OnAbandon.{abandon_agrees, abandon_good, abandon_area}

-- ---- any call

good : (h : Held) (σ : Session) (c : Call) → h.counters ≡ σ.counts → Does σ.family σ.n σ.doing h → taken (made h c).answer ≡ true
    → Good (session_after σ c) (made h c)
unfolding made
good h σ (Start f n y t) cs does q = start_good h f n y t q σ cs
good h σ (Attempt a) cs does q = attempt_good h σ cs a does q
good h σ (Reply d) cs does q = reply_good h d q σ cs does
good h σ Accept cs does q = accept_good h q σ cs does
good h σ (AcceptWithCallback y t) cs does q = callback_good h y t q σ cs does
good h σ Abandon cs does q = abandon_good h σ cs does q

-- a session takes the calls that are taken
agrees : (h : Held) (σ : Session) → h.counters ≡ σ.counts → Does σ.family σ.n σ.doing h → (c : Call)
    → taken (made h c).answer ≡ takes (length h.area) σ c
unfolding made takes whole_area
agrees h σ cs does (Start f n y t) = start_tells h f n y t
agrees h σ cs does (Attempt a) = attempt_agrees h σ a does
agrees h σ cs does (Reply d) = reply_agrees h σ cs does d
agrees h σ cs does Accept = accept_agrees h σ does
agrees h σ cs does (AcceptWithCallback y t) = callback_agrees h σ does y t
agrees h σ cs does Abandon = abandon_agrees h σ does

-- the area keeps its length
pub area_stays : (h : Held) (c : Call) → taken (made h c).answer ≡ true → length (made h c).held.area ≡ length h.area
unfolding made
area_stays h (Start f n y t) q = start_area h f n y t q
area_stays h (Attempt a) q = attempt_area h a q
area_stays h (Reply d) q = reply_area h d q
area_stays h Accept q = accept_area h q
area_stays h (AcceptWithCallback y t) q = callback_area h y t q
area_stays h Abandon q = abandon_area h q

-- a call that is not taken leaves everything
pub left : (h : Held) (c : Call) → taken (made h c).answer ≡ false → (made h c).held ≡ h
unfolding taken
left h c e = go (made h c).answer refl e
  where
    go : (y : Answer) → (made h c).answer ≡ y → taken y ≡ false → (made h c).held ≡ h
    go (Evaluate t b) s e = absurd (differ (sym e))
    go (Finished x) s e = absurd (differ (sym e))
    go Ready s e = absurd (differ (sym e))
    go (Refused i) s e = let standing = is_in standing_numbers i (not-false (one_of standing_numbers i) e) in
        (leaves h c i (record { same_case = ap case_number s; same_values = ap case_values s })).all_stands standing
    go Empty s e = absurd (differ (sym e))

-- ---- a list of calls

follow : (cs : List Call) (size : ℕ) (h : Held) (σ : Session) → length h.area ≡ size → h.counters ≡ σ.counts → Does σ.family σ.n σ.doing h
    → seen_of h cs ≡ session size σ cs
unfolding seen_of session
follow [] size h σ l e does = refl
follow (c ∷ cs) size h σ l e does =
    subst (λ (b : Bool). cond (taken (made h c).answer) (call_seen (made h c) ∷ seen_of (made h c).held cs) (seen_of (made h c).held cs)
    ≡ cond b (session_seen (session_after σ c) ∷ session size (session_after σ c) cs) (session size σ cs))
    (agrees h σ e does c ∙ ap (λ (k : ℕ). takes k σ c) l) (go (follow cs size) (taken (made h c).answer) refl)
  where
    go : ((h : Held) (σ : Session) → length h.area ≡ size → h.counters ≡ σ.counts → Does σ.family σ.n σ.doing h
        → seen_of h cs ≡ session size σ cs)
        → (t : Bool) → taken (made h c).answer ≡ t
        → cond t (call_seen (made h c) ∷ seen_of (made h c).held cs) (seen_of (made h c).held cs)
        ≡ cond t (session_seen (session_after σ c) ∷ session size (session_after σ c) cs) (session size σ cs)
    go on true q = let g = good h σ c e does q in
        ap₂ (λ (s : Seen) (ss : List Seen). s ∷ ss) (seen_alike (session_after σ c) (made h c) g)
        (on (made h c).held (session_after σ c) (area_stays h c q ∙ l) g.counts_are g.does)
    go on false q = subst (λ (k : Held). seen_of k cs ≡ session size σ cs) (sym (left h c q)) (on h σ l e does)

-- From any record, area and counters: a start that the session takes, and then any calls at all, show what the session shows. A stop with 10 shows the vectors
-- besides the last derivative too; that one stands, by `leaves`.
pub every_sequence : (h : Held) (f n : ℕ) (y : List Float) (t : Float) (cs : List Call) → takes (length h.area) (fresh h.counters) (Start f n y t) ≡ true
    → seen_of h (Start f n y t ∷ cs) ≡ session (length h.area) (fresh h.counters) (Start f n y t ∷ cs)
unfolding seen_of session made takes whole_area fresh
every_sequence h f n y t cs q =
    let σ = fresh h.counters in
    let q' = start_tells h f n y t ∙ q in
    let g = start_good h f n y t q' σ refl in
    rw (q', q) (ap₂ (λ (s : Seen) (ss : List Seen). s ∷ ss) (seen_alike (session_after σ (Start f n y t)) (start h f n y t) g)
    (follow cs (length h.area) (start h f n y t).held (session_after σ (Start f n y t)) (start_area h f n y t q') g.counts_are g.does))

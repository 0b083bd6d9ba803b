-- Where the counters lack room: the attempt goes on up to the reply that is turned away with 8, and stays there.
use mathlib.Core.Path.{◌≡◌, refl, sym, ap, ap₂, ◌∙◌, subst}
use mathlib.Core.Bool.{Bool, true, false, ◌||◌}
use mathlib.Core.List.{List, [], ◌++◌}
use Prim.Native.Nat.{ℕ, zero, suc, ◌+◌, ◌-◌, ◌≤◌, ◌<◌, ◌^◌}
use native.Mathlib.Nat.{zero-add, not-suc-le-zero}
use native.Mathlib.Omega.{arith}
use borrow.Author.Tests.{le-ltb, eq-eqb}
use lib.ListN.{length, take}
use lib.Ieee.{Float}
use Rattle.workspace.specs.declared.Arguments.{Arguments}
use Rattle.driver.specs.declared.Answer.TheVariants.{Refused}
use Rattle.driver.specs.Calls.{Held, Called, as_long, finishes, room, has_room, attempt, reply, first_failing, decide, guarded, reply_tests}
use Rattle.session.specs.Attempt.{closes, Asking, done, stopped, ask, FinishedAttempt, Evaluated, evaluated, reaches_candidate}
use Rattle.session.specs.Claim.{answers, after, Allowed, Pending, Waits, in_one_piece, room_in, replies_to, RoomForFirst, CountersFullAt}
use Rattle.session.proofs.Truth.{differ, and_none}
use Rattle.session.proofs.Follows.{Follows, room_for}
use Rattle.session.proofs.Passes.{attempt_follows}

abbrev pub refused_with_eight : Held → Called
refused_with_eight g = record { answer = Refused 8; held = g }

pub pends : (h : Held) (a : Arguments) (e : ℕ) (x : Called) → Allowed h a → Waits h e x → Pending x.held
pends h a e x p w = record {
  family_known = rw w.family_is p.family_known;
  n_sized = rw w.n_is p.n_sized;
  area_whole = rw (w.family_is, w.n_is) w.area_whole;
  awaits = w.pending;
}

-- no room: turned away with 8
pub refused_without_room : (g : Held) → Pending g → room_in g ≡ false → (d : List Float) → length d ≡ g.kept.n → reply g d ≡ refused_with_eight g
unfolding reply reply_tests guarded decide first_failing as_long
refused_without_room g p full d hd = rw (p.family_known, p.n_sized, p.area_whole, eq-eqb (length d) g.kept.n hd, p.awaits, full)

stays : (d : ℕ → List Float) (g : Held) → ((i : ℕ) → reply g (d i) ≡ refused_with_eight g) → (i m : ℕ) (x : Called) → x.held ≡ g
    → after (suc i) d m x ≡ refused_with_eight g
unfolding after
stays d g away zero m x e = ap (λ (k : Held). reply k (d m)) e ∙ away m
stays d g away (suc i) m x e = stays d g away i (suc m) (reply x.held (d m)) (ap (λ (k : Held). (reply k (d m)).held) e
    ∙ ap (λ (y : Called). y.held) (away m))

pub none_reaches : (m : Asking FinishedAttempt) (s : ℕ → List Float) (i : ℕ) → length (evaluated m s i) ≡ 0 → reaches_candidate m s i ≡ false
unfolding evaluated reaches_candidate
none_reaches (done o) s i e = refl
none_reaches (stopped n v) s i e = refl
none_reaches (ask why t p k) s i e = absurd (omega arith)

module _ (h : Held) (a : Arguments) (d : ℕ → List Float) (long : (i : ℕ) → length (d i) ≡ h.kept.n) where
  -- j replies that find room
  along : (m : Asking FinishedAttempt) (replies i j : ℕ) (b : Held) (x : Called) → Follows h a replies b m x
      → ((l : ℕ) → l < j → room_in (after l d i x).held ≡ true) → j < length (evaluated m d i)
      → (answers (suc j) d i x ≡ take (suc j) (evaluated m d i)) × Waits h (replies + j) (after j d i x)
  unfolding Follows evaluated answers after
  along (done o) replies i j b x f enough lt = absurd (not-suc-le-zero lt)
  along (stopped n v) replies i j b x f enough lt = absurd (not-suc-le-zero lt)
  along (ask why t p k) replies i zero b x f enough lt = (ap (λ (l : List Evaluated). l ++ []) f.1, subst (λ (r : ℕ). Waits h r x) (omega arith) f.0)
  along (ask why t p k) replies i (suc j) b x f enough lt =
      let on = along (k (d i)) (suc replies) (suc i) j x.held (reply x.held (d i)) (f.2 (d i) (long i) (enough zero (omega arith)))
      (λ l l<. enough (suc l) (omega arith)) (omega arith) in
      (ap₂ ◌++◌ f.1 on.0, subst (λ (r : ℕ). Waits h r (after j d (suc i) (reply x.held (d i)))) (omega arith) on.1)

  pub counters_full_at : Allowed h a → (m : ℕ) → m < replies_to h a d → RoomForFirst h a d m → room_in (after m d 0 (attempt h a)).held ≡ false
      → CountersFullAt h a d m
  unfolding RoomForFirst
  counters_full_at p m lt enough full =
      let x = after m d 0 (attempt h a) in
      let on = along (in_one_piece h a) 0 0 m h (attempt h a) (attempt_follows h a p) enough lt in
      let w = subst (λ (r : ℕ). Waits h r x) (zero-add m) on.1 in
      record {
        same_evaluations = on.0;
        waits = w;
        left = λ i. stays d x.held (λ j. refused_without_room x.held (pends h a m x p w) full (d j) (rw w.n_is (long j))) i m x refl;
      }

  -- j replies find room: there are more to come, so the candidate's is not among them
  finds : (m : Asking FinishedAttempt) (replies i j : ℕ) (b : Held) (x : Called) → Follows h a replies b m x → j < length (evaluated m d i)
      → h.counters.evaluations + (replies + j) < 2 ^ 64
      → (l : ℕ) → l < j → room_in (after l d i x).held ≡ true
  unfolding Follows evaluated after
  finds (done o) replies i j b x f lt fit l l< = absurd (not-suc-le-zero lt)
  finds (stopped n v) replies i j b x f lt fit l l< = absurd (not-suc-le-zero lt)
  finds (ask why t p k) replies i zero b x f lt fit l l< = absurd (not-suc-le-zero l<)
  finds (ask why t p k) replies i (suc j) b x f lt fit l l< =
      go (finds (k (d i)) (suc replies) (suc i) j x.held (reply x.held (d i)) (f.2 (d i) (long i) here) (omega arith) (omega arith)) l l<
    where
      here : room_in x.held ≡ true
      here = room_for h replies x f.0 (omega arith) (λ e. absurd (let z = f.3.none_after (f.3.purpose_is ∙ e) (d i) d (suc i) in omega arith))

      go : ((l : ℕ) → l < j → room_in (after l d (suc i) (reply x.held (d i))).held ≡ true) → (l : ℕ) → l < suc j → room_in (after l d i x).held ≡ true
      go on zero l< = here
      go on (suc l) l< = on l (omega arith)

  -- the last evaluation is the candidate's, where that is reached
  last_is : (m : Asking FinishedAttempt) (replies i j : ℕ) (b : Held) (x : Called) → Follows h a replies b m x → suc j ≡ length (evaluated m d i)
      → reaches_candidate m d i ≡ true
      → ((l : ℕ) → l < j → room_in (after l d i x).held ≡ true) → finishes (after j d i x).held.kept.phase ≡ true
  unfolding Follows evaluated after reaches_candidate
  last_is (done o) replies i j b x f e r enough = absurd (omega arith)
  last_is (stopped n v) replies i j b x f e r enough = absurd (omega arith)
  last_is (ask why t p k) replies i zero b x f e r enough =
      sym f.3.purpose_is ∙ go (closes why) (reaches_candidate (k (d i)) d (suc i)) r (none_reaches (k (d i)) d (suc i) (omega arith))
    where
      go : (p q : Bool) → p || q ≡ true → q ≡ false → p ≡ true
      go true q r e = refl
      go false q r e = absurd (differ (sym e ∙ r))
  last_is (ask why t p k) replies i (suc j) b x f e r enough =
      last_is (k (d i)) (suc replies) (suc i) j x.held (reply x.held (d i)) (f.2 (d i) (long i) (enough zero (omega arith))) (omega arith)
      (go (closes why) (reaches_candidate (k (d i)) d (suc i)) r refl) (λ l l<. enough (suc l) (omega arith))
    where
      go : (p q : Bool) → p || q ≡ true → closes why ≡ p → q ≡ true
      go true q r y = absurd (let z = f.3.none_after y (d i) d (suc i) in omega arith)
      go false q r y = r

  abbrev found : ℕ → Held
  found m = (after m d 0 (attempt h a)).held

  room_for_first : Allowed h a → (m : ℕ) → m < replies_to h a d → h.counters.evaluations + m < 2 ^ 64 → RoomForFirst h a d m
  unfolding RoomForFirst
  room_for_first p m lt fit = finds (in_one_piece h a) 0 0 m h (attempt h a) (attempt_follows h a p) lt (omega arith)

  -- room for m evaluations of those that it asks for, and no more
  pub evaluations_lack : Allowed h a → (m : ℕ) → m < replies_to h a d → h.counters.evaluations + m ≡ 2 ^ 64 - 1 → CountersFullAt h a d m
  unfolding RoomForFirst has_room room
  evaluations_lack p m lt e = counters_full_at p m lt enough (full (along (in_one_piece h a) 0 0 m h (attempt h a) (attempt_follows h a p) enough lt).1)
    where
      enough : RoomForFirst h a d m
      enough = room_for_first p m lt (omega arith)

      full : Waits h (0 + m) (after m d 0 (attempt h a)) → room_in (found m) ≡ false
      full w = rw (le-ltb (found m).counters.evaluations (2 ^ 64 - 1) (let q = w.evaluations_are in omega arith))

  -- room for all evaluations, and none for the finished attempt: the reply to the candidate's evaluation is turned away with 8
  pub attempts_lack : Allowed h a → (m : ℕ) → suc m ≡ replies_to h a d → reaches_candidate (in_one_piece h a) d 0 ≡ true → h.counters.evaluations + m < 2 ^ 64
      → 2 ^ 64 - 1 ≤ h.counters.finished_attempts → CountersFullAt h a d m
  unfolding RoomForFirst has_room room
  attempts_lack p m e r fit t = counters_full_at p m lt enough (full (along (in_one_piece h a) 0 0 m h (attempt h a) (attempt_follows h a p) enough lt).1)
    where
      lt : m < replies_to h a d
      lt = omega arith

      enough : RoomForFirst h a d m
      enough = room_for_first p m lt fit

      closing : finishes (found m).kept.phase ≡ true
      closing = last_is (in_one_piece h a) 0 0 m h (attempt h a) (attempt_follows h a p) e r enough

      full : Waits h (0 + m) (after m d 0 (attempt h a)) → room_in (found m) ≡ false
      full w = and_none (room (found m).counters.evaluations) _
          (rw (closing, le-ltb (found m).counters.finished_attempts (2 ^ 64 - 1) (let q = w.attempts_are in omega arith)))

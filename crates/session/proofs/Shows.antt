-- What it is for what the caller holds to stand where a session stands: it shows the same, counts the same, and goes on as the session does on every reply. And
-- two computations of a session that the calls follow: one evaluation of the kept state, and an attempt.
use mathlib.Core.Path.{◌≡◌, refl, sym, ap, ap₂, ◌∙◌, subst}
use mathlib.Core.Bool.{Bool, true, false, cond}
use mathlib.Core.List.{List, [], ◌∷◌}
use Prim.Native.Nat.{ℕ, suc, ◌+◌}
use native.Mathlib.Omega.{arith}
use lib.ListN.{length}
use lib.Ieee.{Float}
use Rattle.family.specs.Family.{known}
use Rattle.workspace.specs.declared.Arguments.{Arguments}
use Rattle.workspace.specs.Vectors.{Vectors, unpack, pack, all_finite, first_derivative, state, candidate}
use Rattle.workspace.proofs.Areas.{unpack_pack}
use Rattle.driver.specs.declared.Phase.{Phase}
use Rattle.driver.specs.declared.Phase.TheVariants as P
use Rattle.driver.specs.declared.Record.{Record}
use Rattle.driver.specs.declared.Counters.{Counters}
use Rattle.driver.specs.declared.Answer.{Answer}
use Rattle.driver.specs.declared.Answer.TheVariants.{Evaluate, Finished, Ready, Refused, Empty}
use Rattle.driver.specs.declared.History.{History}
use Rattle.driver.specs.Calls.{quotient_of, setting_under}
use Rattle.driver.specs.Calls.{Held, Called, step_to, in_phase, replied, sized, whole_area, awaiting, finishes, going_on, counted, spoiled, settled, reply}
use Rattle.session.specs.Attempt.{for_another, closes, Asking, done, stopped, ask, ◌>>=◌, evaluate, FinishedAttempt, Evaluated, fixed_at}
use Rattle.session.specs.Claim.{called_for, Allowed, room_in}
use Rattle.session.specs.Alike.{Alike, SameVectors, SameStart, SameAttempt}
use Rattle.session.specs.Session.{Shown, evaluates, finished_with, ready_at, stops, nothing, Seen, answer_shown, call_seen, Resting, ready_with}
use Rattle.session.specs.Session.{PreviousStep, no_step, some_step, is_some, quotient, kernel_setting, tried, Doing, none, within, Session}
use Rattle.session.specs.Session.{finished_by, counts_on, doing_shown, session_seen}
use Rattle.session.proofs.Lengths.{its_family, LongIn, whole_pack}
use Rattle.session.proofs.Follows.{some_empty, Follows}
use Rattle.session.proofs.Asked.{reply_is}
use Rattle.session.proofs.Room.{pends}

pub record At (f n : ℕ) (φ : Phase) (h : Held) : Type 0 where
  pub family_is : h.kept.family ≡ f
  pub n_is : h.kept.n ≡ n
  pub phase_is : h.kept.phase ≡ φ
  pub family_known : known h.kept.family ≡ true
  pub n_sized : sized h.kept.n ≡ true
  pub area_whole : whole_area h.kept.family h.kept.n h.area ≡ true

-- the record remembers this step, or that there is none
unfoldable pub Remembers : History → PreviousStep → Type 0
Remembers x no_step = x.present ≡ false
Remembers x (some_step previous) = (x.present ≡ true) × (x.previous_accepted_step ≡ previous)

-- and so runs its attempts under what the kernel does
pub same_setting : (f : ℕ) (x : History) (p : PreviousStep) (step : Float) → Remembers x p → setting_under f x step ≡ kernel_setting f p step
unfolding Remembers quotient_of quotient is_some
same_setting f x no_step step e = rw e
same_setting f x (some_step previous) step e = rw (e.0, e.1)

-- what is held stands where the computation stands, and goes on as it does on every reply of n doubles that finds room
unfoldable pub Shows : ℕ → ℕ → Asking Resting → Held → Type 0
Shows f n (done (ready_with x v)) h = At f n P.Ready h × Remembers h.kept.history x × SameStart (is_some x) (unpack h.kept.n h.area) v
Shows f n (done (tried x step o)) h =
    At f n P.Finished h × Remembers h.kept.history x × (h.kept.arguments.step ≡ step)
    × SameVectors (is_some x) (unpack h.kept.n h.area) o.vectors
Shows f n (stopped i v) h = h.kept.phase ≡ P.Empty
Shows f n (ask why t p k) h =
    At f n h.kept.phase h × (awaiting h.kept ≡ true) × (finishes h.kept.phase ≡ closes why)
    × ((d : List Float) → length d ≡ n → room_in h ≡ true
    → (answer_shown (reply h d).answer (reply h d).held ≡ doing_shown (within (k d)))
    × ((reply h d).held.counters ≡ counts_on (within (k d)) h.counters)
    × Shows f n (k d) (reply h d).held)

unfoldable pub Does : ℕ → ℕ → Doing → Held → Type 0
Does f n none h = h.kept.phase ≡ P.Empty
Does f n (within m) h = Shows f n m h

pub record Good (σ : Session) (x : Called) : Type 0 where
  pub shown_is : answer_shown x.answer x.held ≡ doing_shown σ.doing
  pub counts_are : x.held.counters ≡ σ.counts
  pub does : Does σ.family σ.n σ.doing x.held

pub seen_alike : (σ : Session) (x : Called) → Good σ x → call_seen x ≡ session_seen σ
unfolding call_seen session_seen
seen_alike σ x g = ap₂ {C = Seen} (λ (s : Shown) (c : Counters). record { shown = s; counts = c }) g.shown_is g.counts_are

same_counters : (c e : Counters) → c.evaluations ≡ e.evaluations → c.finished_attempts ≡ e.finished_attempts → c ≡ e
same_counters c e p q = ap₂ {C = Counters} (λ (x y : ℕ). record { evaluations = x; finished_attempts = y }) p q

-- ---- one evaluation: of the kept state, at the start and after a callback

module _ (r : Record) (c : Counters) (v : Vectors) (hk : known r.family ≡ true) (hs : sized r.n ≡ true) (hv : LongIn r v) where
  pub once : (u : Vectors) (t : Float) (y : List Float) (from to : List Float → Vectors)
      → awaiting r ≡ true → finishes r.phase ≡ false
      → ((d : List Float) → length d ≡ r.n → LongIn r (to d))
      → ((d : List Float) → replied r.phase r v d ≡ step_to Ready (in_phase P.Ready r) (to d))
      → r.history.present ≡ false
      → ((d : List Float) → SameStart false (to d) (from d))
      → Shows r.family r.n (evaluate for_another u t y >>= λ d. done (ready_with no_step (from d))) (record { kept = r; counters = c; area = pack v })
  unfolding Shows Remembers is_some evaluate ◌>>=◌ answer_shown doing_shown finished_by counts_on settled going_on counted spoiled in_phase closes fixed_at
  once u t y from to ha hc long will absent same = (
    record { family_is = refl; n_is = refl; phase_is = refl; family_known = hk; n_sized = hs; area_whole = whole_pack r.family r.n v hv },
    ha,
    hc,
    λ d hd hr.
        subst (λ (x : Called). (answer_shown x.answer x.held ≡ doing_shown (within (m d (all_finite d))))
        × (x.held.counters ≡ counts_on (within (m d (all_finite d))) c) × Shows r.family r.n (m d (all_finite d)) x.held)
        (sym (reply_is r c v hk hs hv ha hr d hd)) (go d hd (all_finite d)),
  )
    where
      m : List Float → Bool → Asking Resting
      m d b = cond b (done d) (stopped 9 u) >>= λ d. done (ready_with no_step (from d))

      was : Held
      was = record { kept = r; counters = c; area = pack v }

      go : (d : List Float) → length d ≡ r.n → (b : Bool) →
          let x = cond b (settled c (replied r.phase r v d)) (spoiled was) in
          (answer_shown x.answer x.held ≡ doing_shown (within (m d b))) × (x.held.counters ≡ counts_on (within (m d b)) c)
          × Shows r.family r.n (m d b) x.held
      go d hd true = let back = unpack_pack (its_family r) r.n (to d) (long d hd) in rw (will d) (
        ap₂ ready_at (ap (λ (w : Vectors). w state) back ∙ (same d).state_same) (ap (λ (w : Vectors). w first_derivative) back ∙ (same d).first_same),
        same_counters _ _ refl (omega arith),
        (
          record {
            family_is = refl;
            n_is = refl;
            phase_is = refl;
            family_known = hk;
            n_sized = hs;
            area_whole = whole_pack r.family r.n (to d) (long d hd);
          },
          absent,
          subst (λ (w : Vectors). SameStart false w (from d)) (sym back) (same d),
        ),
      )
      go d hd false = (refl, same_counters _ _ refl (omega arith), refl)

-- ---- an attempt

tell : (t : Float) (p : List Float) (y : Answer) (h : Held) → called_for y h ≡ record { time = t; point = p } ∷ [] → answer_shown y h ≡ evaluates t p
unfolding called_for answer_shown
tell t p (Evaluate u b) h e = ap first e
  where
    first : List Evaluated → Shown
    first [] = nothing
    first (x ∷ xs) = evaluates x.time x.point
tell t p (Finished u) h e = absurd (subst some_empty e tt)
tell t p Ready h e = absurd (subst some_empty e tt)
tell t p (Refused i) h e = absurd (subst some_empty e tt)
tell t p Empty h e = absurd (subst some_empty e tt)

abbrev on : PreviousStep → Float → Asking FinishedAttempt → Asking Resting
on x step m = m >>= λ o. done (tried x step o)

module _ (h : Held) (a : Arguments) (ok : Allowed h a) where
  -- the counters c stood one reply before
  record Before (e : ℕ) (c : Counters) : Type 0 where
    evaluations_were : suc c.evaluations ≡ h.counters.evaluations + e
    attempts_were : c.finished_attempts ≡ h.counters.finished_attempts

  pub record Goes (e : ℕ) (m : Asking Resting) (x : Called) : Type 0 where
    pub shown_is : answer_shown x.answer x.held ≡ doing_shown (within m)
    counts_are : (c : Counters) → Before e c → x.held.counters ≡ counts_on (within m) c
    pub shows : Shows h.kept.family h.kept.n m x.held

  -- calls that follow one attempt show a session's that is alike, with the history that it began from
  pub goes : (p : PreviousStep) → Remembers h.kept.history p → (m m' : Asking FinishedAttempt) (e : ℕ) (b : Held) (x : Called)
      → Follows h a e b m x → Alike (SameAttempt (is_some p)) m m' → Goes e (on p a.step m') x
  unfolding Follows Shows ◌>>=◌ answer_shown doing_shown finished_by counts_on in_phase
  goes η left (done o) (done o') e b x f s = record {
    shown_is = rw (f.answer_is, f.n_is, f.area_is)
        (rw (back, s.norm_same, s.stages_same, s.passes_same, s.radius_same)
        (ap (finished_with o'.norm o'.stages o'.passes o'.scaled_radius) (s.vectors_same candidate refl)));
    counts_are = λ c w. same_counters x.held.counters _ (let q = f.evaluations_are in let q' = w.evaluations_were in
        omega arith) (let q = f.attempts_are in let q' = w.attempts_were in omega arith);
    shows = (
      record {
        family_is = f.family_is;
        n_is = f.n_is;
        phase_is = f.phase_is;
        family_known = rw f.family_is ok.family_known;
        n_sized = rw f.n_is ok.n_sized;
        area_whole = rw (f.family_is, f.n_is, f.area_is) (whole_pack h.kept.family h.kept.n o.vectors f.vectors_long);
      },
      subst (λ (y : History). Remembers y η) (sym f.history_is) left,
      ap (λ (y : Arguments). y.step) f.arguments_are,
      rw (f.n_is, f.area_is, back) s.vectors_same,
    );
  }
    where
      back : unpack h.kept.n (pack o.vectors) ≡ o.vectors
      back = unpack_pack (its_family h.kept) h.kept.n o.vectors f.vectors_long
  goes η left (done o) (stopped j w) e b x f s = absurd s
  goes η left (done o) (ask why' u q l) e b x f s = absurd s
  goes η left (stopped i v) (done o') e b x f s = absurd s
  goes η left (stopped i v) (stopped j w) e b x f s = record {
    shown_is = rw (f.answer_is, f.n_is, f.area_is, unpack_pack (its_family h.kept) h.kept.n v f.vectors_long)
        (ap₂ stops s.number_same s.vectors_same);
    counts_are = λ c w. same_counters x.held.counters _ (let q = f.evaluations_are in let q' = w.evaluations_were in
        omega arith) (let q = f.attempts_are in let q' = w.attempts_were in omega arith);
    shows = ap (λ (r : Record). r.phase) f.record_is;
  }
  goes η left (stopped i v) (ask why' u q l) e b x f s = absurd s
  goes η left (ask why t p k) (done o') e b x f s = absurd s
  goes η left (ask why t p k) (stopped j w) e b x f s = absurd s
  goes η left (ask why t p k) (ask why' u q l) e b x f s = record {
    shown_is = tell t p x.answer x.held f.1 ∙ ap₂ evaluates s.1 s.2;
    counts_are = λ c w. same_counters x.held.counters _ (let q = f.0.evaluations_are in let q' = w.evaluations_were in
        omega arith) (let q = f.0.attempts_are in let q' = w.attempts_were in omega arith);
    shows = (
      record {
        family_is = f.0.family_is;
        n_is = f.0.n_is;
        phase_is = refl;
        family_known = (pends h a e x ok f.0).family_known;
        n_sized = (pends h a e x ok f.0).n_sized;
        area_whole = (pends h a e x ok f.0).area_whole;
      },
      f.0.pending,
      sym f.3.purpose_is ∙ ap closes s.0,
      λ d hd hr.
          let g = goes η left (k d) (l d) (suc e) x.held (reply x.held d) (f.2 d hd hr) (s.3 d) in (
            g.shown_is,
            g.counts_are x.held.counters (record {
              evaluations_were = (let q = f.0.evaluations_are in omega arith);
              attempts_were = f.0.attempts_are;
            }),
            g.shows,
          ),
    );
  }

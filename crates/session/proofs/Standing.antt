-- The phase by what a session does, and whether the first three tests pass: what decides which calls are taken.
use mathlib.Core.Path.{◌≡◌, refl, sym, ap, ap₂, ◌∙◌}
use mathlib.Core.Bool.{Bool, true, false, not, ◌&&◌, ◌||◌}
use mathlib.Core.List.{List}
use Prim.Native.Nat.{ℕ}
use lib.Ieee.{Float}
use Rattle.family.specs.Family.{known}
use Rattle.workspace.specs.Vectors.{unpack}
use Rattle.driver.specs.declared.Phase.{Phase}
use Rattle.driver.specs.declared.Phase.TheVariants as P
use Rattle.driver.specs.declared.Record.{Record}
use Rattle.driver.specs.declared.Counters.{Counters}
use Rattle.driver.specs.Calls.{Held, sized, whole_area, as_long, pending, in_range, awaiting, may_attempt, may_accept, room, has_room}
use Rattle.session.specs.Attempt.{done, stopped, ask, FinishedAttempt}
use Rattle.session.specs.Alike.{SameVectors}
use Rattle.session.specs.Session.{PreviousStep, is_some, ready_with, tried, Doing, none, within, Session, rests, has_tried, waits, waits_with_room}
use Rattle.ieee.proofs.Logic.{and_left}
use Rattle.session.proofs.Truth.{differ}
use Rattle.session.proofs.Shows.{At, Remembers, Shows, Does}

-- ---- the first three tests

pub all_pass : (a b c x : Bool) → a ≡ true → b ≡ true → c ≡ true → a && (b && (c && x)) ≡ x
all_pass a b c x p q r = rw (p, q, r)

pub none_pass : (a b c x : Bool) → x ≡ false → a && (b && (c && x)) ≡ false
none_pass true true true x e = e
none_pass true true false x e = refl
none_pass true false c x e = refl
none_pass false b c x e = refl

-- ---- pending, or ready, or finished, or empty

pub waits_alone : (r : Record) → awaiting r ≡ true → (may_attempt r.phase ≡ false) × (may_accept r.phase ≡ false)
unfolding awaiting pending may_attempt may_accept
waits_alone r e = go r.phase (and_left (pending r.phase) (in_range r.phase r) e)
  where
    go : (φ : Phase) → pending φ ≡ true → (may_attempt φ ≡ false) × (may_accept φ ≡ false)
    go P.Empty x = absurd (differ x)
    go P.First x = (refl, refl)
    go P.Ready x = absurd (differ x)
    go P.Pass x = (refl, refl)
    go P.Stage x = (refl, refl)
    go P.Candidate x = (refl, refl)
    go P.Finished x = absurd (differ x)
    go P.Callback x = (refl, refl)

-- no evaluation is pending
pub idle : (r : Record) (φ : Phase) → r.phase ≡ φ → pending φ ≡ false → awaiting r ≡ false
unfolding awaiting
idle r φ e x = ap (λ (b : Bool). b && in_range r.phase r) (ap pending e ∙ x)

module _ (h : Held) where
  abbrev pub K : Bool
  K = known h.kept.family

  abbrev pub N : Bool
  N = sized h.kept.n

  abbrev pub W : Bool
  W = whole_area h.kept.family h.kept.n h.area

  pub record Standing (δ : Doing) : Type 0 where
    pub attempt_is·rests : may_attempt h.kept.phase ≡ rests δ
    pub accept_is·tried : may_accept h.kept.phase ≡ has_tried δ
    pub awaiting_is·waits : awaiting h.kept ≡ waits δ

  by_phase : (φ : Phase) (δ : Doing) → h.kept.phase ≡ φ → may_attempt φ ≡ rests δ → may_accept φ ≡ has_tried δ → pending φ ≡ false
      → waits δ ≡ false → Standing δ
  by_phase φ δ e p q x y = record {
    attempt_is·rests = ap may_attempt e ∙ p;
    accept_is·tried = ap may_accept e ∙ q;
    awaiting_is·waits = idle h.kept φ e x ∙ sym y;
  }

  pub standing : (f n : ℕ) (δ : Doing) → Does f n δ h → Standing δ
  unfolding Does Shows may_attempt may_accept pending rests has_tried waits
  standing f n none e = by_phase P.Empty none e refl refl refl refl
  standing f n (within (done (ready_with x v))) e = by_phase P.Ready (within (done (ready_with x v))) e.0.phase_is refl refl refl refl
  standing f n (within (done (tried x step o))) e = by_phase P.Finished (within (done (tried x step o))) e.0.phase_is refl refl refl refl
  standing f n (within (stopped i v)) e = by_phase P.Empty (within (stopped i v)) e refl refl refl refl
  standing f n (within (ask why t p k)) e = let no = waits_alone h.kept e.1 in
      record { attempt_is·rests = no.0; accept_is·tried = no.1; awaiting_is·waits = e.1 }

  -- within a session the first three tests pass; else no later one does
  pub data Place (n : ℕ) (δ : Doing) : Type 0 where
    inside : K ≡ true → N ≡ true → W ≡ true → ((y : List Float) → as_long h.kept.n y ≡ as_long n y) → Place n δ
    outside : rests δ ≡ false → has_tried δ ≡ false → waits δ ≡ false → Place n δ

  from_at : (f n : ℕ) (φ : Phase) (δ : Doing) → At f n φ h → Place n δ
  from_at f n φ δ at = inside at.family_known at.n_sized at.area_whole (λ y. ap (λ (n : ℕ). as_long n y) at.n_is)

  pub place : (f n : ℕ) (δ : Doing) → Does f n δ h → Place n δ
  unfolding Does Shows rests has_tried waits
  place f n none e = outside refl refl refl
  place f n (within (done (ready_with x v))) e = from_at f n P.Ready (within (done (ready_with x v))) e.0
  place f n (within (done (tried x step o))) e = from_at f n P.Finished (within (done (tried x step o))) e.0
  place f n (within (stopped i v)) e = outside refl refl refl
  place f n (within (ask why t p k)) e = from_at f n h.kept.phase (within (ask why t p k)) e.0

pub room_alike : (h : Held) (σ : Session) → h.counters ≡ σ.counts → (δ : Doing) → Does σ.family σ.n δ h
    → awaiting h.kept && has_room h.kept.phase h.counters ≡ waits_with_room δ σ.counts
unfolding Does Shows waits_with_room has_room waits
room_alike h σ cs none e = ap (λ (b : Bool). b && has_room h.kept.phase h.counters) (standing h σ.family σ.n none e).awaiting_is·waits
room_alike h σ cs (within (done r)) e = ap (λ (b : Bool). b && has_room h.kept.phase h.counters)
    (standing h σ.family σ.n (within (done r)) e).awaiting_is·waits
room_alike h σ cs (within (stopped i v)) e = ap (λ (b : Bool). b && has_room h.kept.phase h.counters)
    (standing h σ.family σ.n (within (stopped i v)) e).awaiting_is·waits
room_alike h σ cs (within (ask why t p k)) e =
    ap (λ (b : Bool). b && has_room h.kept.phase h.counters) e.1
    ∙ ap₂ (λ (b : Bool) (c : Counters). room c.evaluations && (not b || room c.finished_attempts)) e.2 cs

-- an attempt is finished
pub data FinishedAt (h : Held) (f n : ℕ) : Doing → Type 0 where
  finished_at : (x : PreviousStep) (step : Float) (o : FinishedAttempt) → At f n P.Finished h → Remembers h.kept.history x
      → h.kept.arguments.step ≡ step → SameVectors (is_some x) (unpack h.kept.n h.area) o.vectors
      → FinishedAt h f n (within (done (tried x step o)))

pub rested : (h : Held) (f n : ℕ) (δ : Doing) → Does f n δ h → may_accept h.kept.phase ≡ true → FinishedAt h f n δ
unfolding Does Shows may_accept
rested h f n none e a = absurd (differ (sym (ap may_accept e) ∙ a))
rested h f n (within (done (ready_with x v))) e a = absurd (differ (sym (ap may_accept e.0.phase_is) ∙ a))
rested h f n (within (done (tried x step o))) e a = finished_at x step o e.0 e.1 e.2 e.3
rested h f n (within (stopped i v)) e a = absurd (differ (sym (ap may_accept e) ∙ a))
rested h f n (within (ask why t p k)) e a = absurd (differ (sym (waits_alone h.kept e.1).1 ∙ a))

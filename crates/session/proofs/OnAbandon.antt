-- Abandon: taken exactly where the session takes it, shows what the session shows, and leaves the area as it was.
use mathlib.Core.Path.{◌≡◌, refl, sym, ap, ◌∙◌, subst}
use mathlib.Core.Bool.{Bool, true, false, ◌&&◌}
use lib.ListN.{length}
use Rattle.driver.specs.declared.Phase.TheVariants as P
use Rattle.driver.specs.declared.Answer.TheVariants.{Empty}
use Rattle.driver.specs.Calls.{without_history, Held, Called, in_phase, pending, awaiting, abandon, Abandon, taken, abandon_tests}
use Rattle.driver.proofs.Ladder.{each_passes, goes_ahead}
use Rattle.session.specs.Attempt.{done, stopped, ask}
use Rattle.session.specs.Session.{ready_with, tried, answer_shown, Doing, none, within, Session, waiting, doing_now, session_after, doing_shown, waits}
use Rattle.session.proofs.Truth.{differ}
use Rattle.session.proofs.Shows.{Shows, Does, Good}
use Rattle.session.proofs.Guards.{taken_exactly, taken_passes}
use Rattle.session.proofs.Standing.{all_pass, none_pass, idle, K, N, W, standing, Place, inside, outside, place}

abandon_tells : (h : Held) → taken (abandon h).answer ≡ K h && (N h && (W h && awaiting h.kept))
unfolding abandon abandon_tests taken
abandon_tells h = taken_exactly h (abandon_tests h.kept h.area) _ refl refl

pub abandon_agrees : (h : Held) (σ : Session) → Does σ.family σ.n σ.doing h → taken (abandon h).answer ≡ waits σ.doing
abandon_agrees h σ does =
    abandon_tells h
    ∙ ap (λ (b : Bool). K h && (N h && (W h && b))) (standing h σ.family σ.n σ.doing does).awaiting_is·waits
    ∙ go (place h σ.family σ.n σ.doing does)
  where
    go : Place h σ.n σ.doing → K h && (N h && (W h && waits σ.doing)) ≡ waits σ.doing
    go (inside k n w l) = all_pass (K h) (N h) (W h) _ k n w
    go (outside r t w) = rw w (none_pass (K h) (N h) (W h) false refl)

-- an evaluation was pending, and what it leaves
abandoned : (h : Held) → taken (abandon h).answer ≡ true
    → (awaiting h.kept ≡ true) × (abandon h ≡ record {
      answer = Empty;
      held = record {
        kept = without_history (in_phase P.Empty h.kept);
        counters = h.counters;
        area = h.area;
      };
    })
unfolding abandon abandon_tests
abandoned h q = let ts = abandon_tests h.kept h.area in let none = taken_passes h ts _ refl q in ((each_passes ts none).1.1.1.0, goes_ahead h ts _ none)

pub abandon_good : (h : Held) (σ : Session) → h.counters ≡ σ.counts → Does σ.family σ.n σ.doing h → taken (abandon h).answer ≡ true
    → Good (session_after σ Abandon) (abandon h)
unfolding session_after Does Shows waiting doing_now pending answer_shown doing_shown in_phase
abandon_good h σ cs does q = subst (λ (x : Called). Good (session_after σ Abandon) x) (sym (abandoned h q).1) (go σ.doing does)
  where
    awaits : awaiting h.kept ≡ true
    awaits = (abandoned h q).0

    go : (δ : Doing) → Does σ.family σ.n δ h
        → Good (session_after (doing_now σ δ) Abandon)
        (record { answer = Empty; held = record { kept = without_history (in_phase P.Empty h.kept); counters = h.counters; area = h.area } })
    go none e = absurd (differ (sym (idle h.kept P.Empty e refl) ∙ awaits))
    go (within (done (ready_with x v))) e = absurd (differ (sym (idle h.kept P.Ready e.0.phase_is refl) ∙ awaits))
    go (within (done (tried x step o))) e = absurd (differ (sym (idle h.kept P.Finished e.0.phase_is refl) ∙ awaits))
    go (within (stopped i v)) e = absurd (differ (sym (idle h.kept P.Empty e refl) ∙ awaits))
    go (within (ask why t p k)) e = record { shown_is = refl; counts_are = cs; does = refl }

pub abandon_area : (h : Held) → taken (abandon h).answer ≡ true → length (abandon h).held.area ≡ length h.area
abandon_area h q = ap (λ (x : Called). length x.held.area) (abandoned h q).1

-- Attempt: taken exactly where the session takes it, shows what the session shows, and leaves the area as long as it was.
use mathlib.Core.Path.{◌≡◌, refl, sym, ap, ◌∙◌, subst}
use mathlib.Core.Bool.{Bool, true, false, ◌&&◌}
use Prim.Native.Nat.{ℕ}
use lib.ListN.{length}
use Rattle.workspace.specs.declared.Arguments.{Arguments}
use Rattle.workspace.specs.Vectors.{Vectors, unpack, first_derivative, eigenvector, state, older_state}
use Rattle.workspace.specs.Kernel.{with_direction, perturbation_of}
use Rattle.workspace.proofs.Areas.{long_direction, long_perturbed}
use Rattle.driver.specs.declared.Phase.{Phase}
use Rattle.driver.specs.declared.Phase.TheVariants as P
use Rattle.driver.specs.Calls.{Held, Called, at_pass, ask_pass, may_attempt, good_times, good_tolerances, attempted, going_on, attempt_tests, attempt}
use Rattle.driver.specs.Calls.{setting_for}
use Rattle.driver.specs.Calls.{Attempt, taken}
use Rattle.driver.proofs.Ladder.{each_passes}
use Rattle.family.specs.declared.Setting.{Setting}
use Rattle.session.specs.Attempt.{done, stopped, ask, ◌>>=◌, attempt_step}
use Rattle.session.specs.Claim.{Allowed, in_one_piece}
use Rattle.session.specs.Alike.{SameStart}
use Rattle.session.specs.Session.{ready_with, tried, vectors_of, PreviousStep, is_some, previous_of, tries, Doing, none, within, Session, at_rest}
use Rattle.session.specs.Session.{doing_now}
use Rattle.session.specs.Session.{session_after, rests}
use Rattle.session.proofs.Truth.{differ}
use Rattle.session.proofs.Lengths.{its_family, long_area, pack_length}
use Rattle.session.proofs.Passes.{attempt_is, attempt_follows}
use Rattle.session.proofs.Depends.{attempt_alike}
use Rattle.session.proofs.Shows.{At, Remembers, same_setting, Shows, Does, Good, goes}
use Rattle.session.proofs.Guards.{taken_exactly, taken_passes}
use Rattle.session.proofs.Standing.{all_pass, none_pass, waits_alone, K, N, W, standing, Place, inside, outside, place}

attempt_tells : (h : Held) (a : Arguments) → taken (attempt h a).answer ≡ K h
    && (N h && (W h && (may_attempt h.kept.phase && (good_times a && good_tolerances a))))
unfolding attempt attempt_tests going_on attempted ask_pass taken
attempt_tells h a = taken_exactly h (attempt_tests h.kept h.area a) _ refl refl

pub attempt_agrees : (h : Held) (σ : Session) (a : Arguments) → Does σ.family σ.n σ.doing h → taken (attempt h a).answer ≡ rests σ.doing
    && (good_times a && good_tolerances a)
attempt_agrees h σ a does =
    attempt_tells h a
    ∙ ap (λ (b : Bool). K h && (N h && (W h && (b && (good_times a && good_tolerances a))))) (standing h σ.family σ.n σ.doing does).attempt_is·rests
    ∙ go (place h σ.family σ.n σ.doing does)
  where
    go : Place h σ.n σ.doing → K h && (N h && (W h && (rests σ.doing && (good_times a && good_tolerances a)))) ≡ rests σ.doing
        && (good_times a && good_tolerances a)
    go (inside k n w l) = all_pass (K h) (N h) (W h) _ k n w
    go (outside r t w) = rw r (none_pass (K h) (N h) (W h) false refl)

-- it passed its tests
pub allowed : (h : Held) (a : Arguments) → taken (attempt h a).answer ≡ true → Allowed h a
unfolding attempt attempt_tests
allowed h a q = let p = each_passes (attempt_tests h.kept h.area a) (taken_passes h _ _ refl q) in
    record {
      family_known = p.0;
      n_sized = p.1.0;
      area_whole = p.1.1.0;
      phase_allows = p.1.1.1.0;
      times_good = p.1.1.1.1.0;
      tolerances_good = p.1.1.1.1.1.0;
    }

module _ (h : Held) (σ : Session) (cs : h.counters ≡ σ.counts) (a : Arguments) where
  -- at rest
  tries_good : (x : PreviousStep) (v : Vectors) (φ : Phase) → Allowed h a → At σ.family σ.n φ h → Remembers h.kept.history x
      → SameStart (is_some x) (unpack h.kept.n h.area) v
      → Good (doing_now σ (within (tries σ.family σ.n a x v))) (attempt h a)
  unfolding doing_now Does tries going_on
  tries_good x v φ p at remembered same =
      let F = setting_for h.kept a in
      let own = ap (λ (m : Setting). m.history) (same_setting h.kept.family h.kept.history x a.step remembered) in
      let alike = attempt_alike (is_some x) F own h.kept.n a (unpack h.kept.n h.area) v same in
      let follows = attempt_follows h a p in
      let g = goes h a p x remembered (in_one_piece h a) (attempt_step F h.kept.n a v) 0 h (attempt h a) follows alike in
      let good : Good (doing_as F) (attempt h a) =
      record { shown_is = g.shown_is; counts_are = ap (λ (x : Called). x.held.counters) (attempt_is h a p) ∙ cs; does = g.shows } in
      let ours = subst (λ (m : Setting). Good (doing_as m) (attempt h a)) (same_setting h.kept.family h.kept.history x a.step remembered) good in
      subst (λ (f : ℕ). Good (record { family = f; n = σ.n; doing = within (tries f σ.n a x v); counts = σ.counts }) (attempt h a)) at.family_is
      (subst (λ (n : ℕ). Good (record { family = h.kept.family; n = n; doing = within (tries h.kept.family n a x v); counts = σ.counts })
      (attempt h a)) at.n_is ours)
    where
      doing_as : Setting → Session
      doing_as m = record {
        family = h.kept.family;
        n = h.kept.n;
        doing = within (attempt_step m h.kept.n a v >>= λ o. done (tried x a.step o));
        counts = σ.counts;
      }

  pub attempt_good : Does σ.family σ.n σ.doing h → taken (attempt h a).answer ≡ true → Good (session_after σ (Attempt a)) (attempt h a)
  unfolding session_after doing_now Does Shows at_rest vectors_of previous_of may_attempt
  attempt_good does q = go (allowed h a q) σ.doing does
    where
      go : Allowed h a → (δ : Doing) → Does σ.family σ.n δ h → Good (session_after (doing_now σ δ) (Attempt a)) (attempt h a)
      go p none e = absurd (differ (sym (ap may_attempt e) ∙ p.phase_allows))
      go p (within (done (ready_with x v))) e = tries_good x v P.Ready p e.0 e.1 e.2
      go p (within (done (tried x step o))) e =
          let same = e.3 in
          tries_good x o.vectors P.Finished p e.0 e.1
          (record {
            state_same = same state refl;
            first_same = same first_derivative refl;
            eigenvector_same = same eigenvector refl;
            older_same = same older_state;
          })
      go p (within (stopped i v)) e = absurd (differ (sym (ap may_attempt e) ∙ p.phase_allows))
      go p (within (ask why t q k)) e = absurd (differ (sym (waits_alone h.kept e.1).0 ∙ p.phase_allows))

pub attempt_area : (h : Held) (a : Arguments) → taken (attempt h a).answer ≡ true → length (attempt h a).held.area ≡ length h.area
unfolding going_on attempted ask_pass at_pass
attempt_area h a q =
    let p = allowed h a q in
    let v = unpack h.kept.n h.area in
    let F = its_family h.kept in
    let lv = long_direction F h.kept.n v (long_area h.kept.family h.kept.n h.area p.area_whole) in
    ap (λ (x : Called). length x.held.area) (attempt_is h a p)
    ∙ pack_length h.kept.family h.kept.n _ h.area
    (long_perturbed F h.kept.n (perturbation_of v) (with_direction h.kept.n v) lv) p.area_whole

-- The theorems over sequences: in any calls from a start that is taken, an answer "finished" is that of an attempt that was taken, by the s + k-th reply
-- since, with k from 1 to 12 and s the stage count of r, over the s, k and r that it tells (`concluded`); while an attempt is under way the record holds s, k
-- and r as `UnderWay` says (`under_way`); and a stage's record carries what the recurrence comes to (`carries`). By an invariant over the calls, one after
-- another (Latest, Trails), and the laws of family and coefficients.
use mathlib.Core.Path.{◌≡◌, refl, sym, ap, ◌∙◌, subst}
use mathlib.Core.Bool.{true, false}
use mathlib.Core.List.{List, [], ◌∷◌, ◌++◌, append_assoc, append-nil}
use Prim.Native.Nat.{ℕ, ◌-◌, ◌≤◌}
use native.Mathlib.Omega.{arith}
use lib.Dec.{T}
use lib.ListN.{length}
use lib.Ieee.{Float, le, lt}
use Rattle.ieee.specs.Double.{nought, one}
use Rattle.ieee.specs.Close.{Close}
use Rattle.family.specs.declared.Family.{Family}
use Rattle.family.specs.declared.Family.TheVariants.{RKC, RKMC2, TSRKC2}
use Rattle.family.specs.Family.{Orthogonal, made_of, family_of, permitted, stage_count}
use Rattle.family.specs.Reach.{Serves}
use Rattle.family.proofs.Range.{rkc_between, rkmc2_between}
use Rattle.family.proofs.Counts.{stage_count_permitted, serves}
use Rattle.family.proofs.Special.{infinite_count}
use Rattle.coefficients.specs.declared.Recurrence.{Recurrence}
use Rattle.coefficients.specs.declared.Polynomials.{Polynomials}
use Rattle.coefficients.specs.Rows.{carried_of, recurrence_of}
use Rattle.coefficients.specs.Chebyshev as Chebyshev
use Rattle.coefficients.proofs.CloseTable.{zero_taken, entry_taken, close_taken}
use Rattle.coefficients.proofs.Carried.{rkmc2_zero_taken, rkmc2_one_taken, zero_from_one, one_above_zero, tsrkc2_zero_taken, tsrkc2_one_taken, gain_taken}
use Rattle.coefficients.proofs.CloseRows.{close_row, close_first}
use Rattle.coefficients.proofs.Stable.{stable}
use Rattle.workspace.specs.Vectors.{unpack}
use Rattle.driver.specs.declared.Phase.{Phase}
use Rattle.driver.specs.declared.Phase.TheVariants as P
use Rattle.driver.specs.declared.Figures.{Figures}
use Rattle.driver.specs.declared.Answer.TheVariants.{Finished}
use Rattle.driver.specs.Answers.{case_number}
use Rattle.driver.specs.Calls.{Held, Called, setting_of, first_at, figures_after, figures_in, start, Call, Start, made, taken}
use Rattle.session.specs.Session.{held_after}
use Rattle.session.specs.Concluded.{found, stages_of, scaled_radius_of, DemandThree, Concluded, UnderWay, Carries}
use Rattle.session.proofs.Truth.{differ}
use Rattle.session.proofs.Later.{held_append}
use Rattle.session.proofs.Outcomes.{Outcome, away, starts, outcome}
use Rattle.session.proofs.Underway.{active, InStages, Position, LeftFinished, leaves_finished}
use Rattle.session.proofs.Latest.{Started, starts_now, started_on}
use Rattle.session.proofs.Trails.{cases_at, Trail, trail_on}

-- ---- after any calls

record Holds (h : Held) (calls : List Call) (x : Held) : Type 0 where
  started : Started h calls x
  trail : active x.kept.phase ≡ true → Trail h calls x

holds_on : (h : Held) (calls : List Call) (c : Call) → Holds h calls (held_after h calls) → Holds h (calls ++ c ∷ []) (made (held_after h calls) c).held
holds_on h calls c i = let x = made (held_after h calls) c in
    let o = outcome (held_after h calls) c in
    record { started = started_on h calls i.started c x refl o; trail = trail_on h calls i.trail c x refl o }

holds_along : (h : Held) (calls cs : List Call) → Holds h calls (held_after h calls) → Holds h (calls ++ cs) (held_after h (calls ++ cs))
unfolding held_after
holds_along h calls [] i = rw append-nil i
holds_along h calls (c ∷ cs) i =
    subst (λ (ds : List Call). Holds h ds (held_after h ds)) (append_assoc calls (c ∷ []) cs)
    (holds_along h (calls ++ c ∷ []) cs (subst (Holds h (calls ++ c ∷ [])) (sym (held_append h calls (c ∷ []))) (holds_on h calls c i)))

module _ (h : Held) (f n : ℕ) (y : List Float) (t : Float) where
  begun : (x : Called) → made h (Start f n y t) ≡ x → Outcome h (Start f n y t) x → taken x.answer ≡ true → Holds h (Start f n y t ∷ []) x.held
  unfolding held_after first_at active
  begun x is (away i e) q = absurd (differ (sym e ∙ q))
  begun x is (starts area) q = record { started = starts_now h [] f n y t x is (starts area) q; trail = λ on. absurd (differ on) }

  holds : (cs : List Call) → taken (start h f n y t).answer ≡ true → Holds h (Start f n y t ∷ cs) (held_after h (Start f n y t ∷ cs))
  unfolding held_after made
  holds cs q = holds_along h (Start f n y t ∷ []) cs (begun (start h f n y t) refl (outcome h (Start f n y t)) q)

-- ---- an answer "finished"

demanded : (g : Orthogonal) (q r : Float) (s : ℕ) → lt r nought ≡ false → s ≡ stage_count (made_of g) q r → DemandThree g r s
unfolding recurrence_of
demanded g q r s positive e =
    let permits : T (permitted (made_of g) s) = subst (λ (i : ℕ). T (permitted (made_of g) i)) (sym e) (stage_count_permitted (made_of g) q r) in record {
      serves = λ fin. subst (Serves g r) (sym e) (serves g q r fin positive);
      first_close = λ q. close_first g q s permits;
      rows_close = λ j from to c. close_row g s j permits from to c;
      stable = stable g s permits;
    }

-- the figures of such an answer, by what it left in record and area
abbrev figures_left : Held → Figures
figures_left x = figures_after x.kept (unpack x.kept.n x.area)

concludes : (h : Held) (calls : List Call) (x : Called) → Started h calls x.held → Trail h calls x.held → LeftFinished x
    → Concluded h calls (figures_left x.held) x.held
unfolding cases_at
concludes h calls x s t z =
    let m = length t.replies in
    let g = found t.attempt in
    let f = family_of s.latest.family in
    let r = scaled_radius_of x.held in
    let p : InStages g m 0 1 x.held = subst (Position g m x.held) z.phase_is t.underway.position in
    let q = (setting_of x.held.kept).quotient in
    let stages : stages_of x.held ≡ stage_count f q r = p.suits.stages_are ∙ ap (λ (i : ℕ). stage_count (family_of i) q r) s.family_is in record {
      start = s.latest;
      family_is = s.family_is;
      n_is = s.n_is;
      arguments = t.arguments;
      attempt = t.attempt;
      arguments_are = t.underway.arguments_are;
      phase_is = z.phase_is;
      replies = t.replies;
      only_replies = t.only_replies;
      replies_are = (let e = p.replies_are in omega arith);
      answers_are = t.answers_are ∙ ap (λ (φ : Phase). cases_at φ m) z.phase_is;
      norm_is = rw (s.n_is, t.underway.arguments_are) refl;
      radius_is = p.radius_is ∙ rw (s.n_is, t.underway.arguments_are) refl;
      suits = p.suits;
      evaluations_are = (let e = t.underway.evaluations_are in let e' = p.replies_are in omega arith);
      attempts_are = p.attempts_are;
      largest_at_infinity = λ other e. stages ∙ ap (stage_count f q) e ∙ infinite_count f q other;
      demand_three = λ g is. demanded g q r (stages_of x.held) p.suits.not_negative (stages ∙ ap (λ (f : Family). stage_count f q r) is);
      record_holds = record { stages_held = refl; passes_held = refl; radius_held = refl };
    }

-- From any record, area and counters: a start that is taken, then any calls at all. Whenever the next call is answered "finished" with figures, `Concluded`
-- holds of them and of the calls up to and with it.
pub concluded : (h : Held) (f n : ℕ) (y : List Float) (t : Float) (cs : List Call) (c : Call) (told : Figures)
    → taken (start h f n y t).answer ≡ true
    → (made (held_after h (Start f n y t ∷ cs)) c).answer ≡ Finished told
    → Concluded h (Start f n y t ∷ cs ++ c ∷ []) told (made (held_after h (Start f n y t ∷ cs)) c).held
unfolding active case_number figures_in
concluded h f n y t cs c told q e =
    let calls = Start f n y t ∷ cs in
    let g = held_after h calls in
    let x = made g c in
    let z = leaves_finished g c x (outcome g c) (ap case_number e) in
    let i = holds_on h calls c (holds h f n y t cs q) in
    subst (λ (figures : Figures). Concluded h (calls ++ c ∷ []) figures x.held) (ap figures_in (sym z.figures_are ∙ e))
    (concludes h (calls ++ c ∷ []) x i.started (i.trail (ap active z.phase_is)) z)

-- And while an attempt is under way s, k and r are as `UnderWay` says.
pub under_way : (h : Held) (f n : ℕ) (y : List Float) (t : Float) (cs : List Call) → taken (start h f n y t).answer ≡ true
    → UnderWay (held_after h (Start f n y t ∷ cs))
unfolding active
under_way h f n y t cs q = record {
  pass_from_one = λ e. let is = (at P.Pass refl e).2.pass_is in omega arith;
  pass_to_twelve = λ e. (at P.Pass refl e).2.to_twelve;
  no_radius_yet = λ e. (at P.Pass refl e).2.no_radius_yet;
  own_in_stages = λ e. let p = (at P.Stage refl e).2 in record { radius_is = p.radius_is; suits = p.suits };
  own_at_candidate = λ e. let p = (at P.Candidate refl e).2 in record { radius_is = p.radius_is; suits = p.suits };
}
  where
    x : Held
    x = held_after h (Start f n y t ∷ cs)

    -- with the attempt and the replies since
    at : (φ : Phase) → active φ ≡ true → x.kept.phase ≡ φ → (g : Held) × (m : ℕ) × Position g m x φ
    at φ on e = let trail = (holds h f n y t cs q).trail (ap active e ∙ on) in
        (found trail.attempt, length trail.replies, subst (Position (found trail.attempt) (length trail.replies) x) e trail.underway.position)

-- And wherever a stage awaits its derivative, `Carries` holds of what the calls left.
pub carries : (h : Held) (f n : ℕ) (y : List Float) (t : Float) (cs : List Call) → taken (start h f n y t).answer ≡ true
    → (held_after h (Start f n y t ∷ cs)).kept.phase ≡ P.Stage → Carries (held_after h (Start f n y t ∷ cs))
unfolding active
carries h f n y t cs q e =
    let x = held_after h (Start f n y t ∷ cs) in
    let s = stages_of x in
    let i = x.kept.staging.stage - 2 in
    let trail = (holds h f n y t cs q).trail (ap active e) in
    let p = subst (Position (found trail.attempt) (length trail.replies) x) e trail.underway.position in
    let F = family_of x.kept.family in
    let q₀ = (setting_of x.kept).quotient in
    let permits : T (permitted F s) =
    subst (λ (k : ℕ). T (permitted F k)) (sym p.suits.stages_are) (stage_count_permitted F q₀ (scaled_radius_of x)) in
    let own : (f : Family) → F ≡ f → x.kept.staging.recurrence.polynomials ≡ (carried_of f q₀ s i).polynomials = λ f is.
    ap (λ (c : Recurrence). c.polynomials) p.recurrence_is ∙ ap (λ (f : Family). (carried_of f q₀ s i).polynomials) is in
    let zero_of : (f : Family) → F ≡ f → x.kept.staging.recurrence.polynomials.omega_zero ≡ (carried_of f q₀ s i).polynomials.omega_zero = λ f is.
    ap (λ (p : Polynomials). p.omega_zero) (own f is) in
    let one_of : (f : Family) → F ≡ f → x.kept.staging.recurrence.polynomials.omega_one ≡ (carried_of f q₀ s i).polynomials.omega_one = λ f is.
    ap (λ (p : Polynomials). p.omega_one) (own f is) in
    let chebyshev : F ≡ RKC → (2 ≤ s) × (s ≤ 200) = λ is. rkc_between s (subst (λ (f : Family). T (permitted f s)) is permits) in
    let combined : F ≡ RKMC2 → (3 ≤ s) × (s ≤ 1000) = λ is. rkmc2_between s (subst (λ (f : Family). T (permitted f s)) is permits) in record {
      stages_permitted = permits;
      from_two = p.from_two;
      to_last = p.to_last;
      recurrence_is = p.recurrence_is;
      zero_kept = λ is. zero_of RKC is ∙ zero_taken q₀ s i;
      entry_read = λ is. one_of RKC is ∙ entry_taken q₀ s i;
      entry_close = λ is. let r = chebyshev is in
          subst (λ (w : Float). Close 36 w (Chebyshev.omega_one s)) (sym (one_of RKC is)) (close_taken q₀ s i r.0 r.1);
      rkmc2_zero_read = λ is. zero_of RKMC2 is ∙ rkmc2_zero_taken q₀ s i;
      rkmc2_one_read = λ is. one_of RKMC2 is ∙ rkmc2_one_taken q₀ s i;
      rkmc2_zero_from_one = λ is. let r = combined is in subst (λ (w : Float). T (le one w)) (sym (zero_of RKMC2 is)) (zero_from_one q₀ s i r.0 r.1);
      rkmc2_one_above_zero = λ is. let r = combined is in subst (λ (w : Float). T (lt nought w)) (sym (one_of RKMC2 is)) (one_above_zero q₀ s i r.0 r.1);
      tsrkc2_zero_read = λ is. zero_of TSRKC2 is ∙ tsrkc2_zero_taken q₀ s i;
      tsrkc2_one_read = λ is. one_of TSRKC2 is ∙ tsrkc2_one_taken q₀ s i;
      gain_read = λ is. ap (λ (p : Polynomials). p.gain) (own TSRKC2 is) ∙ gain_taken q₀ s i;
    }

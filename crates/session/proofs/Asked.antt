-- One evaluation: what the computation asks for the call calls for; a derivative that is not finite ends both with 9, and on any other the call goes on by its
-- phase. Beside it what stays through an attempt: the vectors' lengths, the kept state, the first derivative.
use mathlib.Core.Path.{◌≡◌, refl, sym, ap, ◌∙◌, subst}
use mathlib.Core.Bool.{Bool, true, false, cond}
use mathlib.Core.List.{List, [], ◌∷◌}
use Prim.Native.Nat.{ℕ, suc, ◌+◌}
use native.Mathlib.Omega.{arith}
use lib.Dec.{eqb}
use borrow.Author.Tests.{eq-eqb}
use lib.ListN.{length, replicate}
use lib.Ieee.{Float, le}
use Rattle.coefficients.specs.declared.Recurrence.{Recurrence}
use Rattle.family.specs.declared.RowForm.{RowForm}
use Rattle.family.specs.declared.Setting.{Setting}
use Rattle.ieee.specs.Double.{one, min_positive}
use Rattle.family.specs.Family.{known}
use Rattle.coefficients.specs.declared.Coefficients.{Coefficients}
use Rattle.workspace.specs.declared.Arguments.{Arguments}
use Rattle.workspace.specs.declared.Vector.{Vector}
use Rattle.workspace.specs.Vectors.{Vectors, ◌with◌≔◌, number, named, unpack, pack, vector_norm, all_finite, first_derivative, eigenvector, state}
use Rattle.workspace.specs.Vectors.{older_state}
use Rattle.workspace.specs.Kernel.{with_direction, perturbed_by, perturbed, turned, first_stage, exchanged, with_candidate, with_row_in}
use Rattle.workspace.proofs.Areas.{Long, named_number, unpack_pack, long_direction, long_perturbed, long_turned, long_first, long_row, long_exchanged}
use Rattle.workspace.proofs.Areas.{long_candidate}
use Rattle.driver.specs.declared.Phase.{Phase}
use Rattle.driver.specs.declared.Iteration.{Iteration}
use Rattle.driver.specs.declared.Staging.{Staging}
use Rattle.driver.specs.declared.Record.{Record}
use Rattle.driver.specs.declared.Counters.{Counters}
use Rattle.driver.specs.declared.Answer.TheVariants.{Evaluate}
use Rattle.driver.specs.Calls.{Held, Called, step_to, in_phase, replied, sized, as_long, awaiting, finishes, has_room, going_on, counted, spoiled, settled}
use Rattle.driver.specs.Calls.{reply, first_failing, decide, guarded, reply_tests}
use Rattle.session.specs.Attempt.{Purpose, closes, Asking, done, stopped, ask, FinishedAttempt, evaluated}
use Rattle.session.specs.Refusals.{here}
use Rattle.session.specs.Claim.{called_for}
use Rattle.session.proofs.Lengths.{its_family, LongIn, whole_pack}
use Rattle.session.proofs.Follows.{Follows}

-- a reply that is taken
module _ (r : Record) (c : Counters) (v : Vectors) (hk : known r.family ≡ true) (hs : sized r.n ≡ true) (hv : Long (its_family r) r.n v) where
  abbrev pub held_at : Held
  held_at = record { kept = r; counters = c; area = pack v }

  pub reply_is : awaiting r ≡ true → has_room r.phase c ≡ true → (d : List Float) → length d ≡ r.n
      → reply held_at d ≡ cond (all_finite d) (settled c (replied r.phase r v d)) (spoiled held_at)
  unfolding reply reply_tests guarded decide first_failing as_long
  reply_is ha hr d hd = rw (hk, hs, whole_pack r.family r.n v hv, eq-eqb (length d) r.n hd, ha, hr, unpack_pack (its_family r) r.n v hv)

module _ (h : Held) where
  -- the counters after so many replies
  pub record Counted (replies : ℕ) (c : Counters) : Type 0 where
    pub evaluations_are : c.evaluations ≡ h.counters.evaluations + replies
    pub attempts_are : c.finished_attempts ≡ h.counters.finished_attempts

  abbrev pub one_more : Counters → Counters
  one_more c = record { evaluations = c.evaluations + 1; finished_attempts = c.finished_attempts }

  pub counted_on : {e : ℕ} {c : Counters} → Counted e c → Counted (suc e) (one_more c)
  counted_on {e} {c} p = record { evaluations_are = (let q = p.evaluations_are in omega arith); attempts_are = p.attempts_are }

  -- vectors of the area that the attempt began from
  pub record Intact (v : Vectors) : Type 0 where
    pub long : LongIn h.kept v
    pub state_is : v state ≡ unpack h.kept.n h.area state
    pub first_is : v first_derivative ≡ unpack h.kept.n h.area first_derivative
    pub older_is : v older_state ≡ unpack h.kept.n h.area older_state

  -- what the attempt reads of them stands
  still : {v w : Vectors} → Intact v → LongIn h.kept w → w state ≡ v state → w first_derivative ≡ v first_derivative
      → w older_state ≡ v older_state → Intact w
  still i l s f o = record { long = l; state_is = s ∙ i.state_is; first_is = f ∙ i.first_is; older_is = o ∙ i.older_is }

  pub intact_direction : (v : Vectors) → Intact v → Intact (with_direction h.kept.n v)
  unfolding with_direction
  intact_direction v i = let small = le (vector_norm (v eigenvector)) min_positive in let flat = le (vector_norm (v first_derivative)) min_positive in
      still i (long_direction (its_family h.kept) h.kept.n v i.long)
      (go state small flat refl) (go first_derivative small flat refl) (go older_state small flat refl)
    where
      go : (b : Vector) (t u : Bool) → eqb 6 (number b) ≡ false
          → cond t (cond u (v with eigenvector ≔ replicate h.kept.n one) (v with eigenvector ≔ v first_derivative)) v b ≡ v b
      go b true true e = rw e
      go b true false e = rw e
      go b false u e = refl

  pub intact_perturbed : (π : Float) (v : Vectors) → Intact v → Intact (perturbed h.kept.n π v)
  unfolding perturbed_by perturbed
  intact_perturbed π v i = still i (long_perturbed (its_family h.kept) h.kept.n π v i.long) refl refl refl

  pub intact_turned : (v : Vectors) (d : List Float) → Intact v → length d ≡ h.kept.n → Intact (turned h.kept.n v d)
  unfolding turned
  intact_turned v d i hd = still i (long_turned (its_family h.kept) h.kept.n v d i.long hd) refl refl refl

  pub intact_first : (step mu~ : Float) (v : Vectors) → Intact v → Intact (first_stage h.kept.n step mu~ v)
  unfolding first_stage
  intact_first step mu~ v i = still i (long_first (its_family h.kept) h.kept.n step mu~ v i.long) refl refl refl

  pub intact_row : (f : RowForm) (step : Float) (c : Coefficients) (v : Vectors) (d : List Float) → Intact v → length d ≡ h.kept.n
      → Intact (with_row_in f h.kept.n step c v d)
  unfolding with_row_in
  intact_row f step c v d i hd = record {
    long = long_row (its_family h.kept) h.kept.n f step c v d i.long hd;
    state_is = i.state_is;
    first_is = i.first_is;
    older_is = i.older_is;
  }

  pub intact_exchanged : (v : Vectors) → Intact v → Intact (exchanged v)
  unfolding exchanged
  intact_exchanged v i = still i (long_exchanged (its_family h.kept) h.kept.n v i.long) refl refl refl

  pub intact_candidate : (m : Setting) (step : Float) (s : ℕ) (c : Recurrence) (row : Coefficients) (v : Vectors) → Intact v
      → Intact (with_candidate m h.kept.n step s c row v)
  unfolding with_candidate
  intact_candidate m step s c row v i = record {
    long = long_candidate (its_family h.kept) h.kept.n m step s c row v i.long;
    state_is = i.state_is;
    first_is = i.first_is;
    older_is = i.older_is;
  }

module _ (h : Held) (a : Arguments) where
  -- the record within the attempt
  abbrev pub at : Phase → Iteration → Staging → Record
  at φ i g = record { family = h.kept.family; n = h.kept.n; phase = φ; arguments = a; iteration = i; staging = g; history = h.kept.history }

  module _ (hk : known h.kept.family ≡ true) (hs : sized h.kept.n ≡ true) (φ : Phase) (i : Iteration) (g : Staging) where
    abbrev pub pending_at : Vectors → Counters → Held
    pending_at v c = record { kept = at φ i g; counters = c; area = pack v }

    -- an evaluation at the vector b
    pub asked : (v : Vectors) (c : Counters) (e : ℕ) (why : Purpose) (t : Float) (b : Vector) (x : Held) (K : Asking (List Float) → Asking FinishedAttempt)
        → Intact h v → Counted h e c → awaiting (at φ i g) ≡ true → K (stopped 9 v) ≡ stopped 9 v
        → closes why ≡ finishes φ → (closes why ≡ true → (d : List Float) (s : ℕ → List Float) (j : ℕ) → length (evaluated (K (done d)) s j) ≡ 0)
        → ((d : List Float) → length d ≡ h.kept.n → all_finite d ≡ true
        → Follows h a (suc e) (pending_at v c) (K (done d)) (settled c (replied φ (at φ i g) v d)))
        → Follows h a e x (ask why t (v b) (λ d. K (cond (all_finite d) (done d) (stopped 9 v)))) (going_on c (step_to (Evaluate t (number b)) (at φ i g) v))
    unfolding Follows called_for going_on spoiled counted in_phase evaluated
    asked v c e why t b x K iv hc ha hK mark none on = (
      record {
        family_is = refl;
        n_is = refl;
        area_whole = whole_pack h.kept.family h.kept.n v iv.long;
        pending = ha;
        evaluations_are = hc.evaluations_are;
        attempts_are = hc.attempts_are;
      },
      ap (λ (w : Vectors). record { time = t; point = w (named (number b)) } ∷ []) (unpack_pack (its_family h.kept) h.kept.n v iv.long)
          ∙ ap (λ (b : Vector). record { time = t; point = v b } ∷ []) (named_number b),
      λ d hd hr. subst (λ (x : Called). Follows h a (suc e) (pending_at v c) (K (cond (all_finite d) (done d) (stopped 9 v))) x)
          (sym (reply_is (at φ i g) c v hk hs iv.long ha hr d hd)) (go d hd (all_finite d) refl),
      record {
        purpose_is = mark;
        none_after = λ c d s j. over c d s j (all_finite d);
      },
    )
      where
        over : closes why ≡ true → (d : List Float) (s : ℕ → List Float) (j : ℕ) (t : Bool) → length (evaluated (K (cond t (done d) (stopped 9 v))) s j) ≡ 0
        over c d s j true = none c d s j
        over c d s j false = ap (λ (m : Asking FinishedAttempt). length (evaluated m s j)) hK

        go : (d : List Float) → length d ≡ h.kept.n → (t : Bool) → all_finite d ≡ t
            → Follows h a (suc e) (pending_at v c) (K (cond t (done d) (stopped 9 v)))
            (cond t (settled c (replied φ (at φ i g) v d)) (spoiled (pending_at v c)))
        go d hd true fin = on d hd fin
        go d hd false fin = subst (λ (m : Asking FinishedAttempt). Follows h a (suc e) (pending_at v c) m (spoiled (pending_at v c))) (sym hK)
            (record {
              answer_is = refl;
              number_ends = here;
              area_is = refl;
              area_stands = λ nine. refl;
              record_is = refl;
              family_is = refl;
              n_is = refl;
              vectors_long = iv.long;
              evaluations_are = (counted_on h hc).evaluations_are;
              attempts_are = hc.attempts_are;
            })

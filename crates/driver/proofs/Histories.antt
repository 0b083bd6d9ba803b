-- What the calls do to the history, in the words of document 02, CR 6: "Accept keeps them; accept with a callback, start and abandon mark them absent in the
-- record, and that part of the area stands." A family that keeps an older state takes on, at accept, the state that was kept before the candidate takes its
-- place and the step of the finished attempt (`accept_keeps`), and no other family anything (`accept_leaves`); the three others mark the history absent
-- (`start_forgets`, `callback_forgets`, `abandon_forgets`) and leave the older state (`start_stands`, `callback_stands`, `abandon_stands`); an attempt and a
-- reply leave both (`attempt_stands`, `reply_stands`, `spoiled_stands`), so that an attempt that is not accepted leaves no trace in them. From the definitions
-- of the calls alone.
use mathlib.Core.Path.{◌≡◌, refl, ap, ◌∙◌}
use mathlib.Core.Bool.{Bool, true, false, cond, ◌||◌}
use mathlib.Core.List.{List}
use Prim.Native.Nat.{ℕ, ◌+◌}
use lib.Dec.{eqb, ltb}
use lib.ListN.{replicate}
use lib.Ieee.{Float, le}
use Rattle.ieee.specs.Double.{◌⊕◌, one, min_positive}
use Rattle.family.specs.declared.Family.TheVariants.{TSRKC2}
use Rattle.family.specs.Family.{family_of, keeps_older}
use Rattle.family.proofs.Special.{tsrkc2_keeps, only_tsrkc2}
use Rattle.coefficients.specs.Rows.{coefficients, next}
use Rattle.workspace.specs.declared.Arguments.{Arguments}
use Rattle.workspace.specs.Vectors.{Vectors, ◌with◌≔◌, number, unpack, each, vector_norm, all_finite, first_derivative, last_derivative, derivative}
use Rattle.workspace.specs.Vectors.{eigenvector}
use Rattle.workspace.specs.Vectors.{state, candidate, older_state}
use Rattle.workspace.specs.Kernel.{with_direction, perturbed, perturbed_by, turned, radius_of, ended, scaled, first_stage, with_row, with_row_in, exchanged}
use Rattle.workspace.specs.Kernel.{with_candidate, with_last, error}
use Rattle.driver.specs.declared.Phase.{Phase}
use Rattle.driver.specs.declared.Phase.TheVariants as P
use Rattle.driver.specs.declared.Need.{Need}
use Rattle.driver.specs.declared.Need.TheVariants.{Met, Unmet}
use Rattle.driver.specs.declared.Record.{Record}
use Rattle.driver.specs.declared.Answer.TheVariants.{Evaluate, Refused}
use Rattle.driver.specs.Calls.{Held, Called, Step, step_to, admitted, first_failing, start_tests, abandon_tests, start, start_vectors, abandon, first_at}
use Rattle.driver.specs.Calls.{in_phase, accepted, called_back, history_after, with_older, replied, take_first, take_callback, take_pass, take_stage}
use Rattle.driver.specs.Calls.{take_candidate, ask_pass, ask_stage, ask_candidate, stage_need, by_need, begin_stages, at_pass, at_stage, with_radius}
use Rattle.driver.specs.Calls.{attempted, spoiled, setting_of}
use Rattle.driver.proofs.Ladder.{goes_ahead}

-- ---- start, accept with a callback, abandon

pub start_forgets : (h : Held) (f n : ℕ) (y : List Float) (t : Float) → first_failing (start_tests f n h.area y t) ≡ admitted
    → (start h f n y t).held.kept.history.present ≡ false
unfolding start first_at
start_forgets h f n y t e = ap (λ (x : Called). x.held.kept.history.present) (goes_ahead h (start_tests f n h.area y t) _ e)

-- the vectors that it leaves have the older state that it found
pub start_stands : (n : ℕ) (y : List Float) (v : Vectors) → start_vectors n y v older_state ≡ v older_state
unfolding start_vectors
start_stands n y v = refl

module _ (r : Record) (v : Vectors) where
  pub callback_forgets : (y : List Float) (t : Float) → (called_back r y t v).kept.history.present ≡ false
  unfolding called_back first_at
  callback_forgets y t = refl

  pub callback_stands : (y : List Float) (t : Float) → (called_back r y t v).vectors older_state ≡ v older_state
  unfolding called_back
  callback_stands y t = refl

pub abandon_forgets : (h : Held) → first_failing (abandon_tests h.kept h.area) ≡ admitted → (abandon h).held.kept.history.present ≡ false
unfolding abandon
abandon_forgets h e = ap (λ (x : Called). x.held.kept.history.present) (goes_ahead h (abandon_tests h.kept h.area) _ e)

pub abandon_stands : (h : Held) → first_failing (abandon_tests h.kept h.area) ≡ admitted → (abandon h).held.area ≡ h.area
unfolding abandon
abandon_stands h e = ap (λ (x : Called). x.held.area) (goes_ahead h (abandon_tests h.kept h.area) _ e)

-- ---- accept

pub record KeepsHistory (r : Record) (v : Vectors) (x : Step) : Type 0 where
  pub present : x.kept.history.present ≡ true
  pub step_kept : x.kept.history.previous_accepted_step ≡ r.arguments.step
  pub state_kept : x.vectors older_state ≡ v state
  pub candidate_taken : x.vectors state ≡ v candidate

pub accept_keeps : (r : Record) (v : Vectors) → family_of r.family ≡ TSRKC2 → KeepsHistory r v (accepted r v)
unfolding accepted with_older history_after
accept_keeps r v is = let e = ap keeps_older is ∙ tsrkc2_keeps in record { present = rw e; step_kept = rw e; state_kept = rw e; candidate_taken = rw e }

pub accept_leaves : (r : Record) (v : Vectors) → (family_of r.family ≡ TSRKC2 → ⊥)
    → ((accepted r v).kept.history ≡ r.history) × ((accepted r v).vectors older_state ≡ v older_state)
unfolding accepted with_older history_after in_phase
accept_leaves r v other = let e = (only_tsrkc2 (family_of r.family) other).0 in (rw e, rw e)

-- ---- an attempt and its replies

-- of the step x: the history is that of the record r, and the older state that of the vectors v
abbrev pub Stands : Record → Vectors → Step → Type 0
Stands r v x = (x.kept.history ≡ r.history) × (x.vectors older_state ≡ v older_state)

direction_stands : (n : ℕ) (v : Vectors) → with_direction n v older_state ≡ v older_state
unfolding with_direction
direction_stands n v = go (le (vector_norm (v eigenvector)) min_positive) (le (vector_norm (v first_derivative)) min_positive)
  where
    go : (t u : Bool) → cond t (cond u (v with eigenvector ≔ replicate n one) (v with eigenvector ≔ v first_derivative)) v older_state ≡ v older_state
    go true true = refl
    go true false = refl
    go false u = refl

pub attempt_stands : (h : Held) (a : Arguments) → Stands h.kept (unpack h.kept.n h.area) (attempted h a)
unfolding attempted ask_pass at_pass perturbed perturbed_by
attempt_stands h a = (refl, direction_stands h.kept.n (unpack h.kept.n h.area))

need_stands : (need : Need) (r : Record) (v w : Vectors) (radius : Float) → w older_state ≡ v older_state → Stands r v (by_need need r w radius)
unfolding by_need ask_stage at_stage with_radius in_phase first_stage
need_stands (Met s) r v w radius e = (refl, e)
need_stands (Unmet i) r v w radius e = (refl, e)

pass_stands : (t : Bool) (r r' : Record) (v w : Vectors) (radius : Float) → r'.history ≡ r.history → w older_state ≡ v older_state
    → Stands r v (cond t (begin_stages r w radius) (ask_pass r' w))
unfolding begin_stages ask_pass perturbed perturbed_by
pass_stands true r r' v w radius e o = need_stands (stage_need (setting_of r) radius) r v w radius o
pass_stands false r r' v w radius e o = (e, o)

candidate_stands : (r : Record) (v w : Vectors) → w older_state ≡ v older_state → Stands r v (ask_candidate r w)
unfolding ask_candidate in_phase
candidate_stands r v w o = go (all_finite (w candidate))
  where
    go : (t : Bool) → Stands r v (cond t (step_to (Evaluate (r.arguments.time ⊕ r.arguments.step) (number candidate)) (in_phase P.Candidate r) w)
        (step_to (Refused 10) (in_phase P.Empty r) w))
    go true = (refl, o)
    go false = (refl, o)

stage_stands : (t : Bool) (r r' : Record) (v u w : Vectors) → r'.history ≡ r.history → u older_state ≡ v older_state → w older_state ≡ v older_state
    → Stands r v (cond t (ask_stage r' u) (ask_candidate r w))
unfolding ask_stage
stage_stands true r r' v u w e o o' = (e, o)
stage_stands false r r' v u w e o o' = candidate_stands r v w o'

last_stands : (r : Record) (v : Vectors) (d : List Float) → with_last (setting_of r) r.n r.arguments v d older_state ≡ v older_state
unfolding with_last
last_stands r v d = go r.arguments.adaptive
  where
    go : (t : Bool) → cond t (v with last_derivative ≔ d with derivative ≔ each r.n (v with last_derivative ≔ d) (error (setting_of r) r.arguments.step))
        (v with last_derivative ≔ d) older_state ≡ v older_state
    go true = refl
    go false = refl

pub reply_stands : (φ : Phase) (r : Record) (v : Vectors) (d : List Float) → Stands r v (replied φ r v d)
unfolding replied take_first take_callback take_pass take_stage take_candidate in_phase at_pass at_stage turned with_row_in exchanged with_candidate
reply_stands P.Empty r v d = (refl, refl)
reply_stands P.First r v d = (refl, refl)
reply_stands P.Ready r v d = (refl, refl)
reply_stands P.Pass r v d = let w = turned r.n v d in let i = r.iteration in let radius = radius_of i.perturbation w in
    pass_stands (ended i.pass i.previous_radius radius || eqb i.pass 12) r (at_pass r.arguments (i.pass + 1) i.perturbation radius r) v w
    (scaled r.arguments.step radius) refl refl
reply_stands P.Stage r v d =
    let m = setting_of r in
    let s = r.staging.stages in
    let j = r.staging.stage in
    let c = r.staging.recurrence in
    let row = coefficients m s j c in
    let w = with_row m r.n r.arguments.step row v d in
    stage_stands (ltb j s) r (at_stage s (j + 1) (next m c row) r) v (exchanged w) (with_candidate m r.n r.arguments.step s c row w) refl refl refl
reply_stands P.Candidate r v d = (refl, last_stands r v d)
reply_stands P.Finished r v d = (refl, refl)
reply_stands P.Callback r v d = (refl, refl)

-- and one that is refused with 9
pub spoiled_stands : (h : Held) → ((spoiled h).held.kept.history ≡ h.kept.history) × ((spoiled h).held.area ≡ h.area)
unfolding spoiled in_phase
spoiled_stands h = (refl, refl)

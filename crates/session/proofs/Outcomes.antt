-- What a call can come to, each way on a line of its own: the answer, and the record, counters and area it leaves. From the definition of the calls alone.
-- ⊕ is an operation on doubles: it rounds.
use mathlib.Core.Path.{◌≡◌, refl, sym, ap, ◌∙◌, subst}
use mathlib.Core.Bool.{Bool, true, false, cond, ◌&&◌, ◌||◌}
use mathlib.Core.List.{List}
use Prim.Native.Nat.{ℕ, ◌+◌, ◌≤◌, ◌<◌}
use native.Mathlib.Omega.{arith}
use lib.Dec.{leb, ltb, eqb}
use borrow.Author.Tests.{eqb-true, eqb-false, leb-true, ltb-true, ltb-false}
use lib.ListN.{length, replicate}
use lib.Ieee.{Float, le}
use Rattle.family.specs.declared.Setting.{Setting}
use Rattle.ieee.specs.Double.{◌⊕◌, min_positive, nought, one}
use Rattle.family.specs.Family.{family_of, facts_of, kind, stage_count, exceeds}
use Rattle.coefficients.specs.declared.Coefficients.{Coefficients}
use Rattle.coefficients.specs.declared.Recurrence.{Recurrence}
use Rattle.coefficients.specs.Rows.{recurrence, coefficients, next}
use Rattle.workspace.specs.declared.Arguments.{Arguments}
use Rattle.workspace.specs.Vectors.{Vectors, ◌with◌≔◌, number, unpack, pack, each, vector_norm, all_finite, first_derivative, last_derivative, derivative}
use Rattle.workspace.specs.Vectors.{eigenvector, state, candidate}
use Rattle.workspace.specs.Kernel.{with_direction, perturbation_of, perturbed_by, perturbed, turned, radius_of, ended, scaled, first_stage}
use Rattle.workspace.specs.Kernel.{with_row_in, with_row, exchanged, with_candidate, error, with_last}
use Rattle.workspace.proofs.Areas.{unpack_pack, long_direction, long_perturbed, long_turned, long_first, long_row, long_exchanged, long_candidate, long_last}
use Rattle.driver.specs.declared.Phase.{Phase}
use Rattle.driver.specs.declared.Phase.TheVariants as P
use Rattle.driver.specs.declared.Record.{Record}
use Rattle.driver.specs.declared.Counters.{Counters}
use Rattle.driver.specs.declared.Answer.{Answer}
use Rattle.driver.specs.declared.Answer.TheVariants.{Evaluate, Finished, Ready, Refused, Empty}
use Rattle.driver.specs.declared.Need.TheVariants.{Met, Unmet}
use Rattle.driver.specs.Calls.{Held, Called, step_to, in_phase, first_at, at_pass, with_radius, at_stage, taken, setting_of, permits, figures_after}
use Rattle.driver.specs.Calls.{with_history, without_history, history_after}
use Rattle.driver.specs.Calls.{take_first, take_callback, ask_pass, ask_stage, stage_need, by_need, begin_stages, take_pass, ask_candidate, take_stage}
use Rattle.driver.specs.Calls.{take_candidate}
use Rattle.driver.specs.Calls.{replied, whole_area, as_long, pending, in_range, awaiting, good_stage, good_end, one_more, counted, spoiled, settled, going_on}
use Rattle.driver.specs.Calls.{start, attempted, attempt, reply, accepted, accept, called_back, accept_with_callback, abandon, made}
use Rattle.driver.specs.Calls.{Test, guarded, start_tests, attempt_tests, reply_tests, accept_tests, callback_tests, abandon_tests}
use Rattle.driver.specs.Calls.{Call, Start, Attempt, Reply, Accept, AcceptWithCallback, Abandon}
use Rattle.driver.proofs.Ladder.{Passing, each_passes, by_tests}
use Rattle.ieee.proofs.Logic.{and_left, and_right}
use Rattle.session.proofs.Truth.{differ}
use Rattle.session.proofs.Lengths.{its_family, LongIn, long_area}
use Rattle.session.proofs.Guards.{low, low_fails, not_taken}

abbrev pub leaving : Answer → Record → Counters → List Float → Called
leaving y r c area = record { answer = y; held = record { kept = r; counters = c; area = area } }

-- the scaled radius after a pass that left the vectors w, and its count of stages
abbrev pub radius_after : Record → Vectors → Float
radius_after r w = scaled r.arguments.step (radius_of r.iteration.perturbation w)

abbrev pub count_after : Record → Vectors → ℕ
count_after r w = stage_count (family_of r.family) (setting_of r).quotient (radius_after r w)

-- what is carried into stage 2, and on from stage j
abbrev pub first_after : Record → Vectors → Recurrence
first_after r w = recurrence (setting_of r) (count_after r w)

abbrev pub carried_on : Setting → ℕ → ℕ → Recurrence → Recurrence
carried_on m s j c = next m c (coefficients m s j c)

-- more stages than the largest count would be needed
abbrev pub exceeds_after : Record → Vectors → Bool
exceeds_after r w = exceeds (family_of r.family) (setting_of r).quotient (radius_after r w)

-- state and eigenvector are as they were
pub record BothStay (v w : Vectors) : Type 0 where
  pub state_stays : w state ≡ v state
  pub eigenvector_stays : w eigenvector ≡ v eigenvector

direction_state : (n : ℕ) (v : Vectors) → with_direction n v state ≡ v state
unfolding with_direction
direction_state n v = go (le (vector_norm (v eigenvector)) min_positive) (le (vector_norm (v first_derivative)) min_positive)
  where
    go : (t u : Bool) → cond t (cond u (v with eigenvector ≔ replicate n one) (v with eigenvector ≔ v first_derivative)) v state ≡ v state
    go true true = refl
    go true false = refl
    go false u = refl

-- a pass that does not end the iteration is not the twelfth
not_twelve : (t : Bool) (k : ℕ) → k ≤ 12 → t || eqb k 12 ≡ false → k < 12
not_twelve true k l e = absurd (differ (sym e))
not_twelve false k l e = let other = eqb-false k 12 e in omega (arith, l, other)

-- an evaluation more, and a finished attempt
abbrev pub one_more_each : Counters → Counters
one_more_each c = record { evaluations = c.evaluations + 1; finished_attempts = c.finished_attempts + 1 }

module _ (h : Held) where
  abbrev r : Record
  r = h.kept

  abbrev c : Counters
  c = h.counters

  abbrev now : Vectors
  now = unpack h.kept.n h.area

  abbrev s : ℕ
  s = h.kept.staging.stages

  abbrev j : ℕ
  j = h.kept.staging.stage

  pub data Outcome : Call → Called → Type 0 where
    away : {q : Call} (i : ℕ) → taken (Refused i) ≡ false → Outcome q (leaving (Refused i) r c h.area)
    starts : {f n : ℕ} {y : List Float} {t : Float} (area : List Float)
        → Outcome (Start f n y t) (leaving (Evaluate t (number state)) (first_at P.First f n t r) c area)
    attempts : {a : Arguments} (v : Vectors) (t : Float) (b : ℕ) (area : List Float) → unpack r.n area state ≡ v state
        → Outcome (Attempt a) (leaving (Evaluate t b) (at_pass a 1 (perturbation_of v) nought r) c area)
    spoils : {d : List Float} (i : ℕ) (area : List Float) → Outcome (Reply d) (leaving (Refused i) (in_phase P.Empty r) (one_more c) area)
    readies : {d : List Float} (area : List Float) → Outcome (Reply d) (leaving Ready (in_phase P.Ready r) (one_more c) area)
    iterates : {d : List Float} (t radius : Float) (b : ℕ) (area : List Float) → r.phase ≡ P.Pass → r.iteration.pass < 12
        → unpack r.n area state ≡ now state
        → Outcome (Reply d) (leaving (Evaluate t b) (at_pass r.arguments (r.iteration.pass + 1) r.iteration.perturbation radius r) (one_more c) area)
    begins : {d : List Float} (w : Vectors) (t : Float) (b : ℕ) (area : List Float) → r.phase ≡ P.Pass → r.iteration.pass ≤ 12 → exceeds_after r w ≡ false
        → unpack r.n area state ≡ now state → unpack r.n area eigenvector ≡ w eigenvector
        → Outcome (Reply d) (leaving (Evaluate t b) (at_stage (count_after r w) 2 (first_after r w) (with_radius (radius_after r w) r)) (one_more c) area)
    goes_on : {d : List Float} (t : Float) (b : ℕ) (area : List Float) → r.phase ≡ P.Stage → j < s → BothStay now (unpack r.n area)
        → Outcome (Reply d) (leaving (Evaluate t b) (at_stage s (j + 1) (carried_on (setting_of r) s j r.staging.recurrence) r) (one_more c) area)
    asks_candidate : {d : List Float} (t : Float) (b : ℕ) (area : List Float) → r.phase ≡ P.Stage → j ≡ s → BothStay now (unpack r.n area)
        → Outcome (Reply d) (leaving (Evaluate t b) (in_phase P.Candidate r) (one_more c) area)
    finishes : {d : List Float} (w : Vectors) → r.phase ≡ P.Candidate → good_end (setting_of r) r.iteration.pass s ≡ true → LongIn r w → BothStay now w
        → Outcome (Reply d) (leaving (Finished (figures_after r w)) (in_phase P.Finished r) (one_more_each c) (pack w))
    accepts : (area : List Float) → Outcome Accept (leaving Ready (with_history (history_after r) (in_phase P.Ready r)) c area)
    calls_back : {y : List Float} {t : Float} (area : List Float)
        → Outcome (AcceptWithCallback y t) (leaving (Evaluate t (number state)) (first_at P.Callback r.family r.n t r) c area)
    abandons : Outcome Abandon (leaving Empty (without_history (in_phase P.Empty r)) c h.area)

  -- past its tests, or away with a number on which everything stands
  tested : {q : Call} (ts : List Test) (go : Called) → low ts ≡ true → (Passing ts → Outcome q go) → Outcome q (guarded h ts go)
  tested {q} ts go l on = by_tests (λ (x : Called). Outcome q x) h ts go (λ e. on (each_passes ts e)) (λ k e. away k (not_taken k (low_fails ts k l e)))

  -- ---- a reply that passed its tests

  module _ (d : List Float) where
    abbrev Comes : Called → Type 0
    Comes x = Outcome (Reply d) x

    -- another pass
    abbrev again : Float → Record
    again radius = at_pass r.arguments (r.iteration.pass + 1) r.iteration.perturbation radius r

    on_pass : (t : Bool) (w : Vectors) (radius : Float) → r.phase ≡ P.Pass → r.iteration.pass ≤ 12 → (t ≡ false → r.iteration.pass < 12)
        → LongIn r w → w state ≡ now state
        → Comes (settled c (cond t (begin_stages r w (radius_after r w)) (ask_pass (again radius) w)))
    unfolding settled going_on counted begin_stages stage_need by_need ask_stage ask_pass at_pass first_stage perturbed perturbed_by
    on_pass true w radius p twelve below long same = go (exceeds_after r w) refl
      where
        go : (t : Bool) → exceeds_after r w ≡ t
            → Comes (settled c (by_need (cond t (Unmet 11) (Met (count_after r w))) r w (radius_after r w)))
        go true e = spoils 11 _
        go false e =
            let mu = (first_after r w).theta_previous in
            let back = unpack_pack (its_family r) r.n (first_stage r.n r.arguments.step mu w)
            (long_first (its_family r) r.n r.arguments.step mu w long) in
            begins w _ _ _ p twelve e (ap (λ (v : Vectors). v state) back ∙ same) (ap (λ (v : Vectors). v eigenvector) back)
    on_pass false w radius p twelve below long same =
        let back = unpack_pack (its_family r) r.n (perturbed r.n r.iteration.perturbation w)
        (long_perturbed (its_family r) r.n r.iteration.perturbation w long) in
        iterates _ radius _ _ p (below refl) (ap (λ (v : Vectors). v state) back ∙ same)

    -- of vectors that are packed
    packed_stay : (w : Vectors) → LongIn r w → BothStay now w → BothStay now (unpack r.n (pack w))
    packed_stay w long b = subst (BothStay now) (sym (unpack_pack (its_family r) r.n w long)) b

    on_last_stage : (w : Vectors) → r.phase ≡ P.Stage → j ≡ s → LongIn r w → BothStay now w → Comes (settled c (ask_candidate r w))
    unfolding settled going_on counted ask_candidate
    on_last_stage w p e long both = go (all_finite (w candidate))
      where
        asked : Answer
        asked = Evaluate (r.arguments.time ⊕ r.arguments.step) (number candidate)

        go : (t : Bool) → Comes (settled c (cond t (step_to asked (in_phase P.Candidate r) w) (step_to (Refused 10) (in_phase P.Empty r) w)))
        go true = asks_candidate _ _ _ p e (packed_stay w long both)
        go false = spoils 10 _

    on_stage : r.phase ≡ P.Stage → good_stage (setting_of r) s j ≡ true → LongIn r now → length d ≡ r.n → Comes (settled c (take_stage r now d))
    unfolding settled going_on counted take_stage ask_stage at_stage with_row_in exchanged with_candidate
    on_stage p good lv ld = go (ltb j s) refl
      where
        m : Setting
        m = setting_of r

        to : j ≤ s
        to = leb-true j s (and_right (leb 2 j) (leb j s) (and_right (permits m s) (leb 2 j && leb j s) good))

        row : Coefficients
        row = coefficients m s j r.staging.recurrence

        w : Vectors
        w = with_row m r.n r.arguments.step row now d

        long : LongIn r w
        long = long_row (its_family r) r.n (facts_of (kind m)).row r.arguments.step row now d lv ld

        both : BothStay now w
        both = record { state_stays = refl; eigenvector_stays = refl }

        last : Vectors
        last = with_candidate m r.n r.arguments.step s r.staging.recurrence row w

        on : Record
        on = at_stage s (j + 1) (next m r.staging.recurrence row) r

        go : (t : Bool) → ltb j s ≡ t → Comes (settled c (cond t (ask_stage on (exchanged w)) (ask_candidate r last)))
        go true e = goes_on _ _ _ p (ltb-true j s e)
            (packed_stay (exchanged w) (long_exchanged (its_family r) r.n w long) (record { state_stays = refl; eigenvector_stays = refl }))
        go false e = on_last_stage last p (let l = ltb-false j s e in omega (arith, to))
            (long_candidate (its_family r) r.n m r.arguments.step s r.staging.recurrence row w long)
            (record { state_stays = refl; eigenvector_stays = refl })

    last_stays : (t : Bool) → BothStay now (cond t
        (now with last_derivative ≔ d with derivative ≔ each r.n (now with last_derivative ≔ d) (error (setting_of r) r.arguments.step))
        (now with last_derivative ≔ d))
    last_stays true = record { state_stays = refl; eigenvector_stays = refl }
    last_stays false = record { state_stays = refl; eigenvector_stays = refl }

    by_phase : (φ : Phase) → r.phase ≡ φ → pending φ && in_range φ r ≡ true → LongIn r now → length d ≡ r.n
        → Comes (settled c (replied φ r now d))
    unfolding replied pending in_range take_first take_callback take_pass take_candidate settled going_on counted turned with_last
    by_phase P.Empty p good lv ld = readies _
    by_phase P.First p good lv ld = readies _
    by_phase P.Ready p good lv ld = readies _
    by_phase P.Pass p good lv ld = let i = r.iteration in
        let w = turned r.n now d in
        let radius = radius_of i.perturbation w in
        let twelve = leb-true i.pass 12 (and_right (leb 1 i.pass) (leb i.pass 12) good) in
        let t = ended i.pass i.previous_radius radius in
        on_pass (t || eqb i.pass 12) w radius p twelve (not_twelve t i.pass twelve) (long_turned (its_family r) r.n now d lv ld) refl
    by_phase P.Stage p good lv ld = on_stage p good lv ld
    by_phase P.Candidate p good lv ld = let f = setting_of r in
        finishes (with_last f r.n r.arguments now d) p good (long_last (its_family r) r.n f r.arguments now d lv ld)
        (last_stays r.arguments.adaptive)
    by_phase P.Finished p good lv ld = readies _
    by_phase P.Callback p good lv ld = readies _

    on_reply : Comes (reply h d)
    unfolding reply reply_tests spoiled counted awaiting as_long
    on_reply = tested (reply_tests r c h.area d) _ refl (λ p. go p.1.1.0 p.1.1.1.0 (all_finite d))
      where
        W : Bool
        W = whole_area r.family r.n h.area

        go : W && as_long r.n d ≡ true → awaiting r ≡ true → (t : Bool) → Comes (cond t (settled c (replied r.phase r now d)) (spoiled h))
        go lengths good true =
            by_phase r.phase refl good (long_area r.family r.n h.area (and_left W (as_long r.n d) lengths))
            (eqb-true (length d) r.n (and_right W (as_long r.n d) lengths))
        go lengths good false = spoils 9 h.area

  -- ---- every call

  on_start : (f n : ℕ) (y : List Float) (t : Float) → Outcome (Start f n y t) (start h f n y t)
  unfolding start start_tests
  on_start f n y t = tested (start_tests f n h.area y t) _ refl (λ _. starts _)

  on_attempt : (a : Arguments) → Outcome (Attempt a) (attempt h a)
  unfolding attempt attempt_tests going_on attempted ask_pass at_pass perturbed perturbed_by
  on_attempt a = tested (attempt_tests r h.area a) _ refl (λ p. attempts now _ _ _ (kept (long_area r.family r.n h.area p.1.1.0)))
    where
      π : Float
      π = perturbation_of now

      kept : LongIn r now → unpack r.n (pack (perturbed r.n π (with_direction r.n now))) state ≡ now state
      kept long = ap (λ (v : Vectors). v state) (unpack_pack (its_family r) r.n (perturbed r.n π (with_direction r.n now))
          (long_perturbed (its_family r) r.n π (with_direction r.n now) (long_direction (its_family r) r.n now long))) ∙ direction_state r.n now

  pub outcome : (q : Call) → Outcome q (made h q)
  unfolding made going_on accept accept_tests accepted accept_with_callback callback_tests called_back abandon abandon_tests
  outcome (Start f n y t) = on_start f n y t
  outcome (Attempt a) = on_attempt a
  outcome (Reply d) = on_reply d
  outcome Accept = tested (accept_tests r h.area) _ refl (λ _. accepts _)
  outcome (AcceptWithCallback y t) = tested (callback_tests r h.area y t) _ refl (λ _. calls_back _)
  outcome Abandon = tested (abandon_tests r h.area) _ refl (λ _. abandons)

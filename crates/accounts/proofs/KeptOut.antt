-- The theorem on readings that are not finite, of every report of a day (`keeps_out`): by the minutes one after another, each by `kept_out_minute` of
-- `inverter`, and by `left_by_finite` and `above_by_finite`.
use mathlib.Core.Path.{◌≡◌, refl, sym, ap, subst, ◌∙◌}
use mathlib.Core.Bool.{false}
use mathlib.Core.List.{List, [], ◌∷◌, ◌++◌}
use Prim.Native.Nat.{ℕ, zero, suc, ◌+◌, ◌<◌}
use native.Mathlib.Nat.{le_of_suc-le-suc, not-suc-le-zero, zero-add}
use native.Mathlib.Omega.{arith}
use lib.ListN.{length, get_or, length-append, get_or-append}
use lib.Seq.{get_or-append_seam}
use lib.Ieee.{Float, nan}
use lib.Ieee.Scale.{finite}
use Rattle.workspace.specs.Vectors.{unpack, state}
use Rattle.driver.specs.Calls.{Held, may_accept}
use Rattle.heat_sink.specs.declared.Inverter.{Inverter}
use Rattle.sheet.specs.Text as Text
use Rattle.inverter.specs.declared.Total.{Total}
use Rattle.std.specs.Prelude.{Ok}
use Rattle.inverter.specs.Day.{whole_minute, upcoming, junction, refusal, minute_counted, Minutes, longer, SoFar, held, with_minute, run, no_count, outset}
use Rattle.inverter.specs.Day.{first_area, total_of, total, reported, day, Reports}
use Rattle.inverter.specs.Finite.{kept_out}
use Rattle.inverter.proofs.Finite.{kept_out_minute, left_by_finite, above_by_finite}
use Rattle.accounts.specs.Accounts.{engine_alone, KeepsOut}

module _ (m : Inverter) where
  -- what stands in the lists of numbers and of junctions stays
  number_stays : (minute : ℕ) (readings : List Float) (t : SoFar) (j : ℕ) → j < length t.lists.refusals
      → get_or (run m minute readings t).lists.refusals j 0 ≡ get_or t.lists.refusals j 0
  unfolding run with_minute longer
  number_stays minute [] t j h = refl
  number_stays minute (reading ∷ readings) t j h =
      let c = whole_minute m minute reading (upcoming reading readings) (held t) in
      let k = refusal c.answer in
      number_stays (minute + 1) readings (with_minute m c t) j (omega (arith, length-append t.lists.refusals (k ∷ [])))
      ∙ get_or-append t.lists.refusals (k ∷ []) 0 j h

  junction_stays : (minute : ℕ) (readings : List Float) (t : SoFar) (j : ℕ) → j < length t.lists.junctions
      → get_or (run m minute readings t).lists.junctions j nan ≡ get_or t.lists.junctions j nan
  unfolding run with_minute longer
  junction_stays minute [] t j h = refl
  junction_stays minute (reading ∷ readings) t j h =
      let c = whole_minute m minute reading (upcoming reading readings) (held t) in
      let x = junction m c.held.kept.phase c.held.area in
      junction_stays (minute + 1) readings (with_minute m c t) j (omega (arith, length-append t.lists.junctions (x ∷ [])))
      ∙ get_or-append t.lists.junctions (x ∷ []) nan j h

  -- the number of minute i from here on, at its place p
  number_there : (minute : ℕ) (readings : List Float) (t : SoFar) (i p : ℕ) → p ≡ length t.lists.refusals + i → i < length readings
      → finite (get_or readings i nan) ≡ false → get_or (run m minute readings t).lists.refusals p 0 ≡ 9
  unfolding run with_minute longer kept_out
  number_there minute [] t i p q h e = absurd (not-suc-le-zero h)
  number_there minute (reading ∷ readings) t zero p q h e =
      let there : p ≡ length t.lists.refusals = omega (arith, q) in
      ap (λ (x : SoFar). get_or (run m (minute + 1) readings x).lists.refusals p 0) (kept_out_minute m minute reading (upcoming reading readings) t e)
      ∙ number_stays (minute + 1) readings (kept_out m t) p (omega (arith, there, length-append t.lists.refusals (9 ∷ [])))
      ∙ ap (λ (k : ℕ). get_or (t.lists.refusals ++ (9 ∷ [])) k 0) there
      ∙ get_or-append_seam t.lists.refusals 9 [] 0
  number_there minute (reading ∷ readings) t (suc i) p q h e =
      let c = whole_minute m minute reading (upcoming reading readings) (held t) in
      let u = with_minute m c t in
      let place : p ≡ length u.lists.refusals + i = omega (arith, q, length-append t.lists.refusals (refusal c.answer ∷ [])) in
      number_there (minute + 1) readings u i p place (le_of_suc-le-suc h) e

  -- two minutes with the same junction x, the second at place p + 1
  twice : (minute : ℕ) (readings : List Float) (t : SoFar) (p : ℕ) (js : List Float) (x : Float) → p ≡ length js
      → t.lists.junctions ≡ (js ++ (x ∷ [])) ++ (x ∷ [])
      → get_or (run m minute readings t).lists.junctions (p + 1) nan ≡ get_or (run m minute readings t).lists.junctions p nan
  twice minute readings t p js x q e =
      let one = length-append js (x ∷ []) in
      let two = length-append (js ++ (x ∷ [])) (x ∷ []) in
      let all = ap length e in
      let first = junction_stays minute readings t p (omega (arith, q, one, two, all))
      ∙ ap (λ (l : List Float). get_or l p nan) e
      ∙ get_or-append (js ++ (x ∷ [])) (x ∷ []) nan p (omega (arith, q, one))
      ∙ ap (λ (k : ℕ). get_or (js ++ (x ∷ [])) k nan) q
      ∙ get_or-append_seam js x [] nan in
      let place : p + 1 ≡ length (js ++ (x ∷ [])) = omega (arith, q, one) in
      let second = junction_stays minute readings t (p + 1) (omega (arith, q, one, two, all))
      ∙ ap (λ (l : List Float). get_or l (p + 1) nan) e
      ∙ ap (λ (k : ℕ). get_or ((js ++ (x ∷ [])) ++ (x ∷ [])) k nan) place
      ∙ get_or-append_seam (js ++ (x ∷ [])) x [] nan in
      second ∙ sym first

  -- the junction of minute i + 1 from here on
  junction_there : (minute : ℕ) (readings : List Float) (t : SoFar) (i p : ℕ) → p ≡ length t.lists.junctions + i → i + 1 < length readings
      → finite (get_or readings (i + 1) nan) ≡ false
      → get_or (run m minute readings t).lists.junctions (p + 1) nan ≡ get_or (run m minute readings t).lists.junctions p nan
  unfolding run with_minute minute_counted longer kept_out
  junction_there minute [] t i p q h e = absurd (omega arith)
  junction_there minute (reading ∷ []) t i p q h e = absurd (omega arith)
  junction_there minute (reading ∷ next ∷ readings) t zero p q h e =
      let c = whole_minute m minute reading (upcoming reading (next ∷ readings)) (held t) in
      let u = with_minute m c t in
      let x = junction m c.held.kept.phase c.held.area in
      let after : SoFar → List Float = λ v. (run m (minute + 1 + 1) readings v).lists.junctions in
      subst (λ (v : SoFar). get_or (after v) (p + 1) nan ≡ get_or (after v) p nan)
      (sym (kept_out_minute m (minute + 1) next (upcoming next readings) u e))
      (twice (minute + 1 + 1) readings (kept_out m u) p t.lists.junctions x (omega (arith, q)) refl)
  junction_there minute (reading ∷ next ∷ readings) t (suc i) p q h e =
      let c = whole_minute m minute reading (upcoming reading (next ∷ readings)) (held t) in
      let x = junction m c.held.kept.phase c.held.area in
      let later : suc i + 1 ≡ suc (i + 1) = omega arith in
      let bad = subst (λ (k : ℕ). finite (get_or (reading ∷ next ∷ readings) k nan) ≡ false) later e in
      junction_there (minute + 1) (next ∷ readings) (with_minute m c t) i p (omega (arith, q, length-append t.lists.junctions (x ∷ [])))
      (omega (arith, h)) bad

  -- the junction of minute 0, at the outset
  at_first : (readings : List Float) (area : List Float) → 0 < length readings → finite (get_or readings 0 nan) ≡ false
      → get_or (run m 0 readings (outset area)).lists.junctions 0 nan ≡ get_or (unpack m.n area state) 0 nan
  unfolding run longer kept_out junction no_count may_accept
  at_first [] area h e = absurd (not-suc-le-zero h)
  at_first (reading ∷ readings) area h e =
      ap (λ (x : SoFar). get_or (run m (0 + 1) readings x).lists.junctions 0 nan) (kept_out_minute m 0 reading (upcoming reading readings) (outset area) e)
      ∙ junction_stays (0 + 1) readings (kept_out m (outset area)) 0 (omega arith)

  day_keeps_out : (readings : List Float) → let t = run m 0 readings (outset (first_area m)) in KeepsOut m readings (total t) t.lists
  unfolding total_of engine_alone no_count
  day_keeps_out readings = let t = outset (first_area m) in
      let left = left_by_finite m 0 readings t in
      record {
        number_nine = λ i. number_there 0 readings t i i (let e : i ≡ 0 + i = omega arith in e);
        junction_stands = λ i. junction_there 0 readings t i i (let e : i ≡ 0 + i = omega arith in e);
        first_junction = at_first readings (first_area m);
        above_alone = above_by_finite m 0 readings t ∙ zero-add _;
        evaluations_alone = ap (λ (h : Held). h.counters.evaluations) left;
        finished_alone = ap (λ (h : Held). h.counters.finished_attempts) left;
      }

-- of a report of a day, whatever the lists held before
module _ (text : List ℕ) (before : Minutes) (m : Inverter) (readings : List Float) (r : Total) where
  pub keeps_out : {left : Minutes} → Text.parsed text ≡ Text.Day m readings → Reports (day text before) (Ok r) left → KeepsOut m readings r left
  unfolding day reported
  keeps_out {left} parsed h =
      let t = run m 0 readings (outset (first_area m)) in
      let results : Ok r ≡ Ok (total t) = h.results ∙ ap (λ (p : Text.Parsed). (reported p before).result) parsed in
      let same : total t ≡ r = cc in
      let lists : t.lists ≡ left = sym (h.lists ∙ ap (λ (p : Text.Parsed). (reported p before).lists) parsed) in
      subst (λ (x : Total). KeepsOut m readings x left) same (subst (KeepsOut m readings (total t)) lists (day_keeps_out m readings))

-- The theorem: the report of a text that is a day accounts for its 1,440 minutes (`accounts`). By the minutes one after another, each by `minute_ended`;
-- the number of readings is that of the text's lines.
use mathlib.Core.Path.{◌≡◌, refl, sym, ap, subst}
use mathlib.Core.Bool.{Bool, false, not, ◌&&◌, false≢true}
use mathlib.Core.List.{List, [], ◌∷◌}
use Prim.Native.Nat.{ℕ, suc, ◌+◌, ◌≤◌}
use native.Mathlib.Omega.{arith}
use borrow.Author.Tests.{eq-eqb, ne_eqb}
use lib.Dec.{eqb}
use lib.ListN.{length}
use lib.Ieee.{Float, lt}
use Rattle.driver.specs.Calls.{Called, may_accept, figures_in}
use Rattle.driver.specs.Numbers.{refusal_numbers, ending_numbers}
use Rattle.session.specs.Refusals.{◌∈◌, here}
use Rattle.session.proofs.Numbers.{ending_refuses, not_zero}
use Rattle.heat_sink.specs.declared.Inverter.{Inverter}
use Rattle.sheet.specs.Text as Text
use Rattle.sheet.specs.Text.{minutes_a_day}
use Rattle.sheet.proofs.Soundness.{day_minutes}
use Rattle.inverter.specs.declared.Total.{Total}
use Rattle.std.specs.Prelude.{Ok}
use Rattle.inverter.specs.Day.{one_if, whole_minute, upcoming, finished, junction, is_above, refusal, minute_counted, Minutes, Entries, longer}
use Rattle.inverter.specs.Day.{SoFar, held, with_minute, run, no_count, outset, first_area, total_of, total, reported, day, Reports}
use Rattle.inverter.proofs.Run.{one_most}
use Rattle.accounts.specs.Accounts.{Acceptable, Ended, Completed, GivenUp, KeptOut, listed, Rising, Numbered, RefusedUntold, Accounts}
use Rattle.accounts.proofs.Minute.{minute_ended}
use Rattle.accounts.proofs.Hours.{minutes_told}
use Rattle.accounts.proofs.Listing.{listed_grown, numbered_grown, listed_rising}
use Rattle.accounts.proofs.Lists.{refused_answer, longer_entries, longer_untold}

-- what holds after so many minutes
record After (k : ℕ) (t : SoFar) : Type 0 where
  every_minute : t.count.counters.finished_attempts + t.count.refused ≡ k
  above_finished : t.count.above ≤ t.count.counters.finished_attempts
  an_entry_each : Entries k t.lists
  all_listed : length (listed 0 t.lists.refusals) ≡ t.count.refused
  numbered : Numbered (listed 0 t.lists.refusals)
  refused_untold : RefusedUntold t.lists
  acceptable : Acceptable (held t)

one_if_not : (x : ℕ) → x ≡ 0 → one_if (not (eqb x 0)) ≡ 0
one_if_not x e = ap (λ (b : Bool). one_if (not b)) (eq-eqb x 0 e)

one_if_some : (x : ℕ) → 1 ≤ x → one_if (not (eqb x 0)) ≡ 1
one_if_some x h = ap (λ (b : Bool). one_if (not b)) (ne_eqb x 0 (λ e. omega arith))

above_none : (f b : Bool) → f ≡ false → one_if (f && b) ≡ 0
above_none f b e = ap (λ (x : Bool). one_if (x && b)) e

-- a minute more, finished
with_finished : (m : Inverter) (k : ℕ) (c : Called) (t : SoFar) → refusal c.answer ≡ 0
    → c.held.counters.finished_attempts ≡ t.count.counters.finished_attempts + 1 → Acceptable c.held
    → After k t → After (k + 1) (with_minute m c t)
unfolding with_minute minute_counted is_above longer
with_finished m k c t z n o a =
    let x = refusal c.answer in
    let temperature = junction m c.held.kept.phase c.held.area in
    let none = one_if_not x z in
    let above = one_most (finished c.answer && lt m.rated temperature) in
    let grown = listed_grown 0 t.lists.refusals x in
    record {
      every_minute = omega (arith, n, none, a.every_minute);
      above_finished = omega (arith, n, above, a.above_finished);
      an_entry_each = longer_entries t.lists x temperature (figures_in c.answer) k a.an_entry_each;
      all_listed = omega (arith, grown, a.all_listed);
      numbered = numbered_grown 0 t.lists.refusals x (λ some. absurd (some z)) a.numbered;
      refused_untold = longer_untold t.lists x temperature (figures_in c.answer) k a.an_entry_each (refused_answer c.answer) a.refused_untold;
      acceptable = o;
    }

-- a minute more, refused, by the engine or before it
with_refused : (m : Inverter) (k : ℕ) (c : Called) (t : SoFar) → finished c.answer ≡ false → refusal c.answer ∈ refusal_numbers
    → c.held.counters.finished_attempts ≡ t.count.counters.finished_attempts → Acceptable c.held
    → After k t → After (k + 1) (with_minute m c t)
unfolding with_minute minute_counted is_above longer
with_refused m k c t f l n o a =
    let x = refusal c.answer in
    let temperature = junction m c.held.kept.phase c.held.area in
    let some = one_if_some x (not_zero l) in
    let above = above_none (finished c.answer) (lt m.rated temperature) f in
    let grown = listed_grown 0 t.lists.refusals x in
    record {
      every_minute = omega (arith, n, some, a.every_minute);
      above_finished = omega (arith, n, above, a.above_finished);
      an_entry_each = longer_entries t.lists x temperature (figures_in c.answer) k a.an_entry_each;
      all_listed = omega (arith, grown, a.all_listed);
      numbered = numbered_grown 0 t.lists.refusals x (λ _. l) a.numbered;
      refused_untold = longer_untold t.lists x temperature (figures_in c.answer) k a.an_entry_each (refused_answer c.answer) a.refused_untold;
      acceptable = o;
    }

-- a minute more
with_minute_after : (m : Inverter) (k : ℕ) (reading : Float) (c : Called) (t : SoFar) → Ended reading (held t) c → Acceptable c.held
    → After k t → After (k + 1) (with_minute m c t)
unfolding finished refusal
with_minute_after m k reading c t (Completed r f z p n) o a = with_finished m k c t z n o a
with_minute_after m k reading c t (GivenUp r f l p n) o a = with_refused m k c t f l n o a
with_minute_after m k reading c t (KeptOut r e) o a =
    let nine : refusal c.answer ∈ ending_numbers = subst (λ (x : Called). refusal x.answer ∈ ending_numbers) (sym e) here in
    let none = ap (λ (x : Called). finished x.answer) e in
    let same = ap (λ (x : Called). x.held.counters.finished_attempts) e in
    with_refused m k c t none (ending_refuses nine) same o a

run_after : (m : Inverter) (minute k : ℕ) (readings : List Float) (t : SoFar) → After k t → After (k + length readings) (run m minute readings t)
unfolding run
run_after m minute k [] t a = let e : k ≡ k + 0 = omega arith in subst (λ (j : ℕ). After j t) e a
run_after m minute k (reading ∷ readings) t a =
    let c = whole_minute m minute reading (upcoming reading readings) (held t) in
    let e : k + 1 + length readings ≡ k + suc (length readings) = omega arith in
    let end = minute_ended m minute reading (upcoming reading readings) (held t) a.acceptable in
    subst (λ (j : ℕ). After j (run m (minute + 1) readings (with_minute m c t))) e
    (run_after m (minute + 1) (k + 1) readings (with_minute m c t) (with_minute_after m k reading c t end.0 end.1 a))

outset_after : (area : List Float) → After 0 (outset area)
unfolding no_count may_accept listed Numbered
outset_after area =
    record {
      every_minute = refl;
      above_finished = omega arith;
      an_entry_each = record { a_number_each = refl; a_junction_each = refl; stages_each = refl; passes_each = refl; a_radius_each = refl };
      all_listed = refl;
      numbered = tt;
      refused_untold = λ i some. absurd (some refl);
      acceptable = λ e. absurd (false≢true e);
    }

-- a day's minutes, all together
after_accounts : (t : SoFar) → After minutes_a_day t → Accounts (total t) t.lists
unfolding total_of
after_accounts t a =
    record {
      every_minute = a.every_minute;
      above_finished = a.above_finished;
      an_entry_each = a.an_entry_each;
      all_listed = a.all_listed;
      in_order = let l = t.lists.refusals in
          let e : 0 + length l ≡ minutes_a_day = omega (arith, a.an_entry_each.a_number_each) in
          subst (λ (k : ℕ). Rising 0 k (listed 0 l)) e (listed_rising 0 l);
      numbered = a.numbered;
      refused_untold = a.refused_untold;
      hours_are = refl;
      minutes_told = minutes_told t.count.above (omega (arith, a.every_minute, a.above_finished));
    }

module _ (text : List ℕ) (before : Minutes) (r : Total) where
  parsed_accounts : (p : Text.Parsed) → Text.parsed text ≡ p → (reported p before).result ≡ Ok r → Accounts r (reported p before).lists
  unfolding reported
  parsed_accounts (Text.Day m readings) e o =
      let t = run m 0 readings (outset (first_area m)) in
      let all : 0 + length readings ≡ minutes_a_day = omega (arith, day_minutes text m readings e) in
      let a = subst (λ (k : ℕ). After k t) all (run_after m 0 0 readings (outset (first_area m)) (outset_after (first_area m))) in
      let same : total t ≡ r = cc in
      subst (λ (x : Total). Accounts x t.lists) same (after_accounts t a)
  parsed_accounts (Text.BadAt line) e o = let z : ◌≡◌ {A = ℕ} 0 1 = cc in absurd (omega arith)

  -- of a report that gives a total, whatever the lists held before
  pub accounts : {left : Minutes} → Reports (day text before) (Ok r) left → Accounts r left
  unfolding day
  accounts h = subst (Accounts r) (sym h.lists) (parsed_accounts (Text.parsed text) refl (sym h.results))

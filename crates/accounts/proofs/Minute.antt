-- A minute comes to one of its three ends, and what it leaves can be accepted if it is finished: `minute_ended`, from a record of which that holds. From
-- the definitions of the calls, from `ends`, that the calls of a minute are enough, and from the lengths that a reply keeps.
-- ⊕ is an operation on doubles: it rounds.
use mathlib.Core.Path.{◌≡◌, refl, sym, ap, subst, ◌∙◌}
use mathlib.Core.Bool.{Bool, true, false, cond, ◌&&◌, ◌||◌, false≢true}
use mathlib.Core.List.{List}
use Prim.Native.Nat.{ℕ, zero, suc, ◌+◌}
use native.Mathlib.Omega.{arith}
use borrow.Author.Tests.{eqb-true}
use lib.Dec.{ltb, eqb}
use lib.ListN.{length}
use lib.Ieee.{Float}
use lib.Ieee.Scale.{finite}
use Rattle.ieee.specs.Double.{◌⊕◌}
use Rattle.family.specs.declared.Setting.{Setting}
use Rattle.family.specs.Family.{known}
use Rattle.workspace.specs.declared.Arguments.{Arguments}
use Rattle.workspace.specs.Vectors.{Vectors, number, unpack, pack, all_finite, state, candidate}
use Rattle.workspace.specs.Kernel.{turned, radius_of, ended, scaled, with_row, exchanged, with_candidate}
use Rattle.coefficients.specs.Rows.{coefficients}
use Rattle.coefficients.specs.Rows as rows
use Rattle.driver.specs.declared.Phase.{Phase}
use Rattle.driver.specs.declared.Phase.TheVariants as P
use Rattle.driver.specs.declared.Answer.{Answer}
use Rattle.driver.specs.declared.Answer.TheVariants.{Evaluate, Finished, Ready, Refused, Empty}
use Rattle.driver.specs.declared.Record.{Record}
use Rattle.driver.specs.declared.Need.{Need}
use Rattle.driver.specs.declared.Need.TheVariants.{Met, Unmet}
use Rattle.driver.specs.Calls as calls
use Rattle.driver.specs.Calls.{Held, Called, Step, Test, admitted, first_failing, guarded}
use Rattle.driver.specs.Promises.{holding}
use Rattle.ieee.proofs.Logic.{both}
use Rattle.driver.proofs.Ladder.{each_passes, admits, by_tests, goes_ahead}
use Rattle.driver.specs.Numbers.{standing_numbers, refusal_numbers}
use Rattle.session.specs.Refusals.{◌∈◌, here, later}
use Rattle.session.proofs.Numbers.{is_in, standing_refuses, ending_refuses}
use Rattle.session.proofs.Needs.{Needed, need_holds}
use Rattle.session.proofs.Guards.{low, low_fails}
use Rattle.session.proofs.Lengths.{LongIn, whole_pack, long_area, replied_long}
use Rattle.heat_sink.specs.declared.Inverter.{Inverter}
use Rattle.inverter.specs.Day.{time_of, called, begun, go_on, next, driven, most_calls, passed, whole_minute, finished, refusal}
use Rattle.inverter.specs.Day as day
use Rattle.inverter.proofs.Ends.{ends}
use Rattle.accounts.specs.Accounts.{Acceptable, Ended, Completed, GivenUp, KeptOut}

-- ---- what a reply that passed its tests can answer: not empty, and no number outside the table; the phase is that of a finished attempt on finished alone

module _ (r : Record) where
  unfoldable AnswerOf : Answer → Record → Type 0
  AnswerOf (Evaluate time vector) k = calls.may_accept k.phase ≡ false
  AnswerOf (Finished figures) k = (calls.may_accept k.phase ≡ true) × (k.family ≡ r.family) × (k.n ≡ r.n)
  AnswerOf Ready k = calls.may_accept k.phase ≡ false
  AnswerOf (Refused i) k = (i ∈ refusal_numbers) × (calls.may_accept k.phase ≡ false)
  AnswerOf Empty k = ⊥

  abbrev Answers : Step → Type 0
  Answers x = AnswerOf x.answer x.kept

  needed : (m : Setting) (n : Need) (v : Vectors) (radius : Float) → Needed m n → Answers (calls.by_need n r v radius)
  unfolding AnswerOf calls.by_need calls.ask_stage calls.at_stage calls.in_phase calls.may_accept
  needed m (Met s) v radius h = refl
  needed m (Unmet i) v radius h = (ending_refuses (later (later h)), refl)

  at_candidate : (v : Vectors) → Answers (calls.ask_candidate r v)
  unfolding AnswerOf calls.ask_candidate calls.in_phase calls.may_accept
  at_candidate v = go (all_finite (v candidate))
    where
      go : (t : Bool) → Answers (cond t (calls.step_to (Evaluate (r.arguments.time ⊕ r.arguments.step) (number candidate)) (calls.in_phase P.Candidate r) v)
          (calls.step_to (Refused 10) (calls.in_phase P.Empty r) v))
      go true = refl
      go false = (ending_refuses (later here), refl)

  after_pass : (t : Bool) (k : Record) (v : Vectors) (radius : Float) → calls.may_accept k.phase ≡ false
      → Answers (cond t (calls.begin_stages r v radius) (calls.ask_pass k v))
  unfolding AnswerOf calls.begin_stages calls.ask_pass
  after_pass true k v radius e = let m = calls.setting_of r in
      needed m (calls.stage_need m radius) v radius (need_holds m radius)
  after_pass false k v radius e = e

  after_stage : (t : Bool) (k : Record) (v w : Vectors) → calls.may_accept k.phase ≡ false → Answers (cond t (calls.ask_stage k w) (calls.ask_candidate r v))
  unfolding AnswerOf calls.ask_stage
  after_stage true k v w e = e
  after_stage false k v w e = at_candidate v

  replied_answers : (p : Phase) (v : Vectors) (d : List Float) → Answers (calls.replied p r v d)
  unfolding AnswerOf calls.replied calls.take_first calls.take_callback calls.take_pass calls.take_stage calls.take_candidate calls.in_phase calls.at_pass
      calls.at_stage calls.may_accept
  replied_answers P.Empty v d = refl
  replied_answers P.First v d = refl
  replied_answers P.Ready v d = refl
  replied_answers P.Pass v d =
      let i = r.iteration in
      let w = turned r.n v d in
      let radius = radius_of i.perturbation w in
      let k = calls.at_pass r.arguments (i.pass + 1) i.perturbation radius r in
      after_pass (ended i.pass i.previous_radius radius || eqb i.pass 12) k w (scaled r.arguments.step radius) refl
  replied_answers P.Stage v d =
      let m = calls.setting_of r in
      let s = r.staging.stages in
      let j = r.staging.stage in
      let c = r.staging.recurrence in
      let row = coefficients m s j c in
      let w = with_row m r.n r.arguments.step row v d in
      let last = with_candidate m r.n r.arguments.step s c row w in
      after_stage (ltb j s) (calls.at_stage s (j + 1) (rows.next m c row) r) last (exchanged w) refl
  replied_answers P.Candidate v d = (refl, refl, refl)
  replied_answers P.Finished v d = refl
  replied_answers P.Callback v d = refl

-- an accept whose tests pass
accept_goes : (h : Held) → known h.kept.family ≡ true → calls.sized h.kept.n ≡ true → calls.whole_area h.kept.family h.kept.n h.area ≡ true
    → calls.may_accept h.kept.phase ≡ true → (calls.accept h).answer ≡ Ready
unfolding calls.accept calls.accept_tests calls.going_on calls.accepted
accept_goes h f n w p = ap (λ (x : Called). x.answer)
    (goes_ahead h (calls.accept_tests h.kept h.area) _ (admits (calls.accept_tests h.kept h.area) (f, (n, (w, (p, tt))))))

-- ---- where a call stands, in a minute that began with so many finished attempts

unfoldable Stand : ℕ → Answer → Held → Type 0
Stand n (Evaluate time vector) h = (h.counters.finished_attempts ≡ n) × (calls.may_accept h.kept.phase ≡ false)
Stand n (Finished figures) h = (h.counters.finished_attempts ≡ n + 1) × (calls.may_accept h.kept.phase ≡ true) × ((calls.accept h).answer ≡ Ready)
Stand n Ready h = (h.counters.finished_attempts ≡ n) × (calls.may_accept h.kept.phase ≡ false)
Stand n (Refused i) h = (i ∈ refusal_numbers) × (h.counters.finished_attempts ≡ n) × (calls.may_accept h.kept.phase ≡ false)
Stand n Empty h = ⊥

abbrev Stands : ℕ → Called → Type 0
Stands n c = Stand n c.answer c.held

module _ (n : ℕ) (h : Held) (e : h.counters.finished_attempts ≡ n) where
  -- a reply that passed its tests, counted
  counts : (a : Answer) (k : Record) (v : Vectors) → AnswerOf h.kept a k → known h.kept.family ≡ true → calls.sized h.kept.n ≡ true
      → LongIn h.kept v → Stand n a (holding k (calls.counted a h.counters) (pack v))
  unfolding AnswerOf Stand calls.counted
  counts (Evaluate time vector) k v o f s l = (e, o)
  counts (Finished figures) k v o f s l =
      let w = whole_pack h.kept.family h.kept.n v l in
      let area = pack v in
      let family = subst (λ (x : ℕ). known x ≡ true) (sym o.1) f in
      let size = subst (λ (x : ℕ). calls.sized x ≡ true) (sym o.2) s in
      let sized = subst (λ (x : ℕ). calls.whole_area h.kept.family x area ≡ true) (sym o.2) w in
      let whole = subst (λ (x : ℕ). calls.whole_area x k.n area ≡ true) (sym o.1) sized in
      (ap (λ (j : ℕ). j + 1) e, o.0, accept_goes _ family size whole o.0)
  counts Ready k v o f s l = (e, o)
  counts (Refused i) k v o f s l = (o.0, e, o.1)
  counts Empty k v o f s l = o

  -- an accept that is not turned away
  accept_stands : (calls.accept h).answer ≡ Ready → Stands n (calls.accept h)
  unfolding calls.accept calls.going_on calls.accepted calls.in_phase calls.may_accept Stand
  accept_stands =
      by_tests (λ (x : Called). x.answer ≡ Ready → Stands n x) h (calls.accept_tests h.kept h.area) _ (λ _ _. (e, refl))
      (λ k _ q. let z : ◌≡◌ {A = ℕ} 0 1 = cc in absurd (omega arith))

  module _ (p : calls.may_accept h.kept.phase ≡ false) where
    guarded_stands : (ts : List Test) (go : Called) → low ts ≡ true → (first_failing ts ≡ admitted → Stands n go) → Stands n (guarded h ts go)
    unfolding Stand
    guarded_stands ts go l s = by_tests (Stands n) h ts go s
        (λ k q. (standing_refuses (is_in standing_numbers k (low_fails ts k l q)), e, p))

    start_stands : (f k : ℕ) (y : List Float) (t : Float) → Stands n (calls.start h f k y t)
    unfolding calls.start calls.start_tests calls.first_at calls.may_accept Stand
    start_stands f k y t = guarded_stands (calls.start_tests f k h.area y t) _ refl (λ _. (e, refl))

    attempt_stands : (a : Arguments) → Stands n (calls.attempt h a)
    unfolding calls.attempt calls.attempt_tests calls.going_on calls.attempted calls.ask_pass calls.at_pass calls.may_accept Stand
    attempt_stands a = guarded_stands (calls.attempt_tests h.kept h.area a) _ refl (λ _. (e, refl))

    replied_stands : (d : List Float) → known h.kept.family ≡ true → calls.sized h.kept.n ≡ true
        → calls.whole_area h.kept.family h.kept.n h.area && calls.as_long h.kept.n d ≡ true → (t : Bool)
        → Stands n (cond t (calls.settled h.counters (calls.replied h.kept.phase h.kept (unpack h.kept.n h.area) d)) (calls.spoiled h))
    unfolding calls.settled calls.going_on calls.spoiled calls.counted calls.in_phase calls.may_accept calls.as_long Stand
    replied_stands d f s w true =
        let r = h.kept in
        let v = unpack r.n h.area in
        let lengths = both (calls.whole_area r.family r.n h.area) (calls.as_long r.n d) w in
        let long = replied_long r.phase r v d (long_area r.family r.n h.area lengths.0) (eqb-true (length d) r.n lengths.1) in
        let x = calls.replied r.phase r v d in
        counts x.answer x.kept x.vectors (replied_answers r r.phase v d) f s long
    replied_stands d f s w false = (ending_refuses here, e, refl)

    reply_stands : (d : List Float) → Stands n (calls.reply h d)
    unfolding calls.reply calls.reply_tests
    reply_stands d = let ts = calls.reply_tests h.kept h.counters h.area d in
        guarded_stands ts _ refl (λ q. let t = each_passes ts q in replied_stands d t.0 t.1.0 t.1.1.0 (all_finite d))

-- ---- a minute

module _ (m : Inverter) (minute : ℕ) where
  begun_stands : (h : Held) → Acceptable h → Stands h.counters.finished_attempts (begun m minute h)
  unfolding begun
  begun_stands h o = go (calls.may_accept h.kept.phase) refl
    where
      go : (b : Bool) → calls.may_accept h.kept.phase ≡ b
          → Stands h.counters.finished_attempts (cond b (calls.accept h)
          (calls.start h m.family m.n (unpack m.n h.area state) (time_of minute)))
      go true e = accept_stands h.counters.finished_attempts h refl (o e)
      go false e = start_stands h.counters.finished_attempts h refl e _ _ _ _

  module _ (reading upcoming : Float) where
    on : (n : ℕ) (a : Answer) (h : Held) → Stand n a h → Stands n (go_on m minute reading upcoming a h)
    unfolding go_on Stand
    on n (Evaluate time vector) h s = reply_stands n h s.0 s.1 _
    on n (Finished figures) h s = s
    on n Ready h s = attempt_stands n h s.0 s.1 _
    on n (Refused number) h s = s
    on n Empty h s = s

    driven_stands : (n k : ℕ) (c : Called) → Stands n c → Stands n (driven m minute reading upcoming k c)
    unfolding driven next
    driven_stands n zero c s = s
    driven_stands n (suc k) c s = driven_stands n k (next m minute reading upcoming c) (on n c.answer c.held s)

    -- the last answer, which asks for no call
    last : (h : Held) (c : Called) (a : Answer) → finite reading ≡ true → c.answer ≡ a → day.asks_no_call a ≡ true
        → Stand h.counters.finished_attempts a c.held → Ended reading h c × Acceptable c.held
    unfolding Stand day.asks_no_call finished refusal
    last h c (Evaluate time vector) r e g s = absurd (false≢true g)
    last h c (Finished figures) r e g s = (Completed r (ap finished e) (ap refusal e) s.1 s.0, λ q. s.2)
    last h c Ready r e g s = absurd (false≢true g)
    last h c (Refused i) r e g s =
        let up : Ended reading h c = GivenUp r (ap finished e) (subst (λ (k : ℕ). k ∈ refusal_numbers) (sym (ap refusal e)) s.0) s.2 s.1 in
        (up, λ q. absurd (false≢true (sym s.2 ∙ q)))
    last h c Empty r e g s = absurd s

    -- from what can be accepted if it is finished, and so again
    pub minute_ended : (h : Held) → Acceptable h → Ended reading h (whole_minute m minute reading upcoming h)
        × Acceptable (whole_minute m minute reading upcoming h).held
    unfolding whole_minute passed
    minute_ended h o = go (finite reading) refl
      where
        go : (b : Bool) → finite reading ≡ b
            → Ended reading h (cond b (passed m minute reading upcoming h) (called (Refused 9) h))
            × Acceptable (cond b (passed m minute reading upcoming h) (called (Refused 9) h)).held
        go true e = let c = driven m minute reading upcoming most_calls (begun m minute h) in
            last h c c.answer e refl (ends m minute reading upcoming h)
            (driven_stands h.counters.finished_attempts most_calls (begun m minute h) (begun_stands h o))
        go false e = (KeptOut e refl, o)

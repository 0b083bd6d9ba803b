-- A minute ends: of the calls that may follow, each leaves one less, so that the last answer is finished, refused or empty. On the way an evaluation
-- asks for a vector of the area. From the definitions of the calls alone. ⊕ is an operation on doubles: it rounds.
use mathlib.Core.Path.{◌≡◌, refl, subst}
use mathlib.Core.Bool.{Bool, true, false, cond, ◌||◌, false≢true}
use mathlib.Core.List.{List}
use Prim.Native.Nat.{ℕ, zero, suc, ◌+◌, ◌-◌, ◌≤◌, ◌<◌}
use native.Mathlib.Omega.{arith}
use borrow.Author.Tests.{ltb-true}
use lib.Dec.{ltb, eqb}
use lib.Ieee.{Float}
use Rattle.ieee.specs.Double.{◌⊕◌}
use Rattle.family.specs.Family.{most_stages}
use Rattle.workspace.specs.declared.Arguments.{Arguments}
use Rattle.workspace.specs.Vectors.{Vectors, number, unpack, all_finite, state, candidate}
use Rattle.workspace.specs.Kernel.{turned, radius_of, ended, scaled, with_row, exchanged, with_candidate}
use Rattle.coefficients.specs.declared.Recurrence.{Recurrence}
use Rattle.coefficients.specs.Rows.{coefficients}
use Rattle.coefficients.specs.Rows as rows
use Rattle.driver.specs.declared.Phase.{Phase}
use Rattle.driver.specs.declared.Phase.TheVariants as P
use Rattle.driver.specs.declared.Answer.{Answer}
use Rattle.driver.specs.declared.Answer.TheVariants.{Evaluate, Finished, Ready, Refused, Empty}
use Rattle.driver.specs.declared.Record.{Record}
use Rattle.driver.specs.declared.Need.{Need}
use Rattle.driver.specs.declared.Need.TheVariants.{Met, Unmet}
use Rattle.driver.specs.Calls as calls
use Rattle.driver.specs.Calls.{Held, Called, Step, Test, guarded}
use Rattle.driver.proofs.Sizes.{both}
use Rattle.driver.proofs.Ladder.{Passing, each_passes, by_tests}
use Rattle.driver.proofs.Ranges.{pass_in, need_most}
use Rattle.heat_sink.specs.declared.Inverter.{Inverter}
use Rattle.inverter.specs.Day.{begun, go_on, next, driven, asks_no_call, asked, passed, time_of, most_calls}

-- the most calls that follow an evaluation in this phase, its reply included
unfoldable pub calls_left : Phase → Record → ℕ
calls_left P.Empty r = 1
calls_left P.First r = most_calls
calls_left P.Ready r = 1
calls_left P.Pass r = most_calls - 2 - r.iteration.pass + 1
calls_left P.Stage r = r.staging.stages - r.staging.stage + 2
calls_left P.Candidate r = 1
calls_left P.Finished r = 1
calls_left P.Callback r = most_calls

-- at most k calls follow
unfoldable pub Follow : ℕ → Answer → Record → Type 0
Follow k (Evaluate time vector) r = (vector < 11) × (calls_left r.phase r ≤ k)
Follow k (Finished figures) r = Unit
Follow k Ready r = most_calls - 1 ≤ k
Follow k (Refused number) r = Unit
Follow k Empty r = Unit

abbrev pub Follows : ℕ → Called → Type 0
Follows k c = Follow k c.answer c.held.kept

pub asked_below : (k : ℕ) (a : Answer) (r : Record) → Follow k a r → asked a < 11
unfolding Follow asked
asked_below k (Evaluate time vector) r h = h.0
asked_below k (Finished figures) r h = omega arith
asked_below k Ready r h = omega arith
asked_below k (Refused number) r h = omega arith
asked_below k Empty r h = omega arith

-- ---- a reply

-- what a step comes to, before it is counted
unfoldable Goes : ℕ → Step → Type 0
Goes k x = Follow k x.answer x.kept

either : (k : ℕ) (b : Bool) (x y : Step) → (b ≡ true → Goes k x) → (b ≡ false → Goes k y) → Goes k (cond b x y)
either k true x y f g = f refl
either k false x y f g = g refl

module _ (k : ℕ) (r : Record) where
  asks_pass : (a : Arguments) (pass : ℕ) (perturbation previous : Float) (v : Vectors) → most_calls - 2 - pass + 1 ≤ k
      → Goes k (calls.ask_pass (calls.at_pass a pass perturbation previous r) v)
  unfolding Goes Follow calls_left calls.ask_pass calls.at_pass
  asks_pass a pass perturbation previous v h = (omega arith, h)

  asks_stage : (s j : ℕ) (c : Recurrence) (v : Vectors) → s - j + 2 ≤ k → Goes k (calls.ask_stage (calls.at_stage s j c r) v)
  unfolding Goes Follow calls_left calls.ask_stage calls.at_stage
  asks_stage s j c v h = (omega arith, h)

  asks_candidate : (v : Vectors) → 1 ≤ k → Goes k (calls.ask_candidate r v)
  unfolding Goes Follow calls_left calls.ask_candidate calls.in_phase
  asks_candidate v h =
      let a = r.arguments in
      let asks : Goes k (calls.step_to (Evaluate (a.time ⊕ a.step) (number candidate)) (calls.in_phase P.Candidate r) v) = (omega arith, h) in
      either k (all_finite (v candidate))
      (calls.step_to (Evaluate (a.time ⊕ a.step) (number candidate)) (calls.in_phase P.Candidate r) v)
      (calls.step_to (Refused 10) (calls.in_phase P.Empty r) v)
      (λ e. asks)
      (λ e. tt)

refuses : (k i : ℕ) (r : Record) (v : Vectors) → Goes k (calls.step_to (Refused i) r v)
unfolding Goes Follow
refuses k i r v = tt

staged : (k : ℕ) (r : Record) (n : Need) (radius : Float) (v : Vectors) → n ≡ calls.stage_need (calls.setting_of r) radius → most_stages ≤ k
    → Goes k (calls.by_need n r v radius)
unfolding calls.by_need
staged k r (Met s) radius v e h =
    let m : s ≤ most_stages = need_most (calls.setting_of r) radius s e in
    asks_stage k (calls.with_radius radius r) s 2 _ _ (omega arith)
staged k r (Unmet i) radius v e h = refuses k i (calls.in_phase P.Empty r) v

module _ (k : ℕ) (r : Record) (v : Vectors) (d : List Float) where
  after_pass : r.iteration.pass ≤ 12 → most_calls - 2 - r.iteration.pass + 1 ≤ suc k → Goes k (calls.take_pass r v d)
  unfolding calls.take_pass calls.begin_stages
  after_pass p h =
      let i = r.iteration in
      let w = turned r.n v d in
      let radius = radius_of i.perturbation w in
      let big = scaled r.arguments.step radius in
      let enough : most_stages ≤ k = omega arith in
      let less : most_calls - 2 - (i.pass + 1) + 1 ≤ k = omega arith in
      either k (ended i.pass i.previous_radius radius || eqb i.pass 12)
      (calls.begin_stages r w big)
      (calls.ask_pass (calls.at_pass r.arguments (i.pass + 1) i.perturbation radius r) w)
      (λ e. staged k r (calls.stage_need (calls.setting_of r) big) big w refl enough)
      (λ e. asks_pass k r r.arguments (i.pass + 1) i.perturbation radius w less)

  after_stage : r.staging.stages - r.staging.stage + 2 ≤ suc k → Goes k (calls.take_stage r v d)
  unfolding calls.take_stage
  after_stage h =
      let m = calls.setting_of r in
      let s = r.staging.stages in
      let j = r.staging.stage in
      let c = r.staging.recurrence in
      let row = coefficients m s j c in
      let w = with_row m r.n r.arguments.step row v d in
      let last = with_candidate m r.n r.arguments.step s c row w in
      let less : j < s → s - (j + 1) + 2 ≤ k = λ l. omega arith in
      let one : 1 ≤ k = omega arith in
      either k (ltb j s)
      (calls.ask_stage (calls.at_stage s (j + 1) (rows.next m c row) r) (exchanged w))
      (calls.ask_candidate r last)
      (λ e. asks_stage k r s (j + 1) (rows.next m c row) (exchanged w) (less (ltb-true j s e)))
      (λ e. asks_candidate k r last one)

  replied_goes : (p : Phase) → calls.pending p ≡ true → calls.in_range p r ≡ true → calls_left p r ≤ suc k → Goes k (calls.replied p r v d)
  unfolding Goes Follow calls_left calls.pending calls.replied calls.take_first calls.take_callback calls.take_candidate
  replied_goes P.Empty w e h = absurd (false≢true w)
  replied_goes P.First w e h = omega arith
  replied_goes P.Ready w e h = absurd (false≢true w)
  replied_goes P.Pass w e h = after_pass (pass_in r e) h
  replied_goes P.Stage w e h = after_stage h
  replied_goes P.Candidate w e h = tt
  replied_goes P.Finished w e h = absurd (false≢true w)
  replied_goes P.Callback w e h = omega arith

-- ---- the calls

-- turned away, or not
guarded_follows : (k : ℕ) (h : Held) (ts : List Test) (go : Called) → (Passing ts → Follows k go) → Follows k (guarded h ts go)
unfolding Follow
guarded_follows k h ts go f = by_tests (Follows k) h ts go (λ e. f (each_passes ts e)) (λ i e. tt)

module _ (k : ℕ) (h : Held) where
  followed : (d : List Float) → calls.awaiting h.kept ≡ true → calls_left h.kept.phase h.kept ≤ suc k → (t : Bool)
      → Follows k (cond t (calls.settled h.counters (calls.replied h.kept.phase h.kept (unpack h.kept.n h.area) d)) (calls.spoiled h))
  unfolding calls.awaiting calls.settled calls.going_on calls.spoiled Goes Follow
  followed d e l true = let w = both (calls.pending h.kept.phase) (calls.in_range h.kept.phase h.kept) e in
      replied_goes k h.kept (unpack h.kept.n h.area) d h.kept.phase w.0 w.1 l
  followed d e l false = tt

  reply_follows : (d : List Float) → calls_left h.kept.phase h.kept ≤ suc k → Follows k (calls.reply h d)
  unfolding calls.reply calls.reply_tests
  reply_follows d l = let ts = calls.reply_tests h.kept h.counters h.area d in
      guarded_follows k h ts _ (λ p. followed d p.1.1.1.0 l (all_finite d))

  attempted : (a : Arguments) → most_calls - 2 ≤ k → Follows k (calls.going_on h.counters (calls.attempted h a))
  unfolding calls.going_on calls.attempted Goes
  attempted a l = asks_pass k h.kept a 1 _ _ _ (omega arith)

  attempt_follows : (a : Arguments) → most_calls - 2 ≤ k → Follows k (calls.attempt h a)
  unfolding calls.attempt
  attempt_follows a l = guarded_follows k h _ _ (λ e. attempted a l)

  start_follows : (f n : ℕ) (y : List Float) (t : Float) → most_calls ≤ k → Follows k (calls.start h f n y t)
  unfolding calls.start calls.first_at Follow calls_left
  start_follows f n y t l = guarded_follows k h _ _ (λ e. (omega arith, l))

  accept_follows : most_calls - 1 ≤ k → Follows k (calls.accept h)
  unfolding calls.accept calls.going_on calls.accepted Follow
  accept_follows l = guarded_follows k h _ _ (λ e. l)

-- ---- a minute

module _ (m : Inverter) (minute : ℕ) where
  pub begun_follows : (h : Held) → Follows most_calls (begun m minute h)
  unfolding begun
  begun_follows h = go (calls.may_accept h.kept.phase)
    where
      go : (b : Bool) → Follows most_calls (cond b (calls.accept h) (calls.start h m.family m.n (unpack m.n h.area state) (time_of minute)))
      go true = accept_follows most_calls h (omega arith)
      go false = start_follows most_calls h _ _ _ _ (omega arith)

  module _ (reading upcoming : Float) where
    on : (k : ℕ) (a : Answer) (h : Held) → Follow (suc k) a h.kept → Follows k (go_on m minute reading upcoming a h)
    unfolding go_on Follow
    on k (Evaluate time vector) h f = reply_follows k h _ f.1
    on k (Finished figures) h f = tt
    on k Ready h f = attempt_follows k h _ (omega arith)
    on k (Refused number) h f = tt
    on k Empty h f = tt

    next_follows : (k : ℕ) (c : Called) → Follows (suc k) c → Follows k (next m minute reading upcoming c)
    unfolding next
    next_follows k c f = on k c.answer c.held f

    pub turn_follows : (k i : ℕ) (c : Called) → i < k → Follows (k - i) c → Follows (k - (i + 1)) (next m minute reading upcoming c)
    turn_follows k i c h f = let e : k - i ≡ suc (k - (i + 1)) = omega arith in
        next_follows (k - (i + 1)) c (subst (λ (j : ℕ). Follows j c) e f)

    some_left : (p : Phase) (r : Record) → 1 ≤ calls_left p r
    unfolding calls_left
    some_left P.Empty r = omega arith
    some_left P.First r = omega arith
    some_left P.Ready r = omega arith
    some_left P.Pass r = omega arith
    some_left P.Stage r = omega arith
    some_left P.Candidate r = omega arith
    some_left P.Finished r = omega arith
    some_left P.Callback r = omega arith

    none_left : (a : Answer) (r : Record) → Follow 0 a r → asks_no_call a ≡ true
    unfolding Follow asks_no_call
    none_left (Evaluate time vector) r f = absurd (omega (arith, some_left r.phase r, f.1))
    none_left (Finished figures) r f = refl
    none_left Ready r f = absurd (omega arith)
    none_left (Refused number) r f = refl
    none_left Empty r f = refl

    driven_ends : (k : ℕ) (c : Called) → Follows k c → asks_no_call (driven m minute reading upcoming k c).answer ≡ true
    unfolding driven
    driven_ends zero c f = none_left c.answer c.held.kept f
    driven_ends (suc k) c f = driven_ends k (next m minute reading upcoming c) (next_follows k c f)

    -- the calls that a minute may take are enough
    pub ends : (h : Held) → asks_no_call (passed m minute reading upcoming h).answer ≡ true
    unfolding passed
    ends h = driven_ends most_calls (begun m minute h) (begun_follows h)

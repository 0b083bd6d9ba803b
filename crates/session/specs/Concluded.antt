-- What an answer "finished" stands for, wherever it comes in a sequence of calls: the attempt, the replies since it, the counters, and the s, k and r that it
-- tells (`Concluded`). And what the record carries wherever a stage awaits its derivative (`Carries`).
-- Document 01: demand 2's domain is "every call that the last table does not turn away, in a sequence from a start that it does not turn away either";
-- "The evaluations of one finished attempt are s + k, with k from 1 to 12, each one reply"; demand 3 "holds also of the s that a finished attempt ran, for
-- its own r where that is finite". Document 02, CR 2: the finished answer carries "s, k and the scaled radius beside the norm, and the record keeps them until
-- the next attempt"; "Evaluations of the attempt still equal s + k, now over the written values".
use Rattle.std.specs.Prelude.{ℕ, ◌+◌, ◌-◌, ◌≤◌, ◌≡◌, Bool, true, false, cond, not, ◌&&◌, List, [], ◌∷◌, ◌++◌, map, T, length, replicate, Float}
use Rattle.std.specs.Float.{inf}
use Rattle.std.specs.Float.Ieee.{le, lt}
use Rattle.std.specs.Float.Ieee.Scale.{finite}
use Rattle.ieee.specs.Double.{nought, one}
use Rattle.ieee.specs.Close.{Close}
use Rattle.family.specs.declared.Family.TheVariants.{RKC, RKMC2, TSRKC2}
use Rattle.family.specs.Family.{Orthogonal, made_of, family_of, kind, permitted, largest_count, stage_count, exceeds}
use Rattle.family.specs.declared.Setting.{Setting}
use Rattle.family.specs.Reach.{Serves}
use Rattle.coefficients.specs.declared.Recurrence.{Recurrence}
use Rattle.coefficients.specs.Paper as Paper
use Rattle.coefficients.specs.Rows.{omega_zero, recurrence_of, coefficients_of, carried, tsrkc2_omega_zero, tsrkc2_omega_one, tsrkc2_gain}
use Rattle.coefficients.specs.Table as Table
use Rattle.coefficients.specs.Chebyshev as Chebyshev
use Rattle.rkmc2_omega_zero.specs.Table as rkmc2-zero
use Rattle.rkmc2_omega_one.specs.Table as rkmc2-one
use Rattle.coefficients.specs.Closeness.{CloseRow}
use Rattle.coefficients.specs.Multiplier.{Stable}
use Rattle.workspace.specs.declared.Arguments.{Arguments}
use Rattle.workspace.specs.Vectors.{Vectors, unpack}
use Rattle.workspace.specs.Kernel.{perturbation_of, radius_of, scaled, error_norm}
use Rattle.driver.specs.declared.Phase.TheVariants as P
use Rattle.driver.specs.declared.Figures.{Figures}
use Rattle.driver.specs.Answers.{case_number}
use Rattle.driver.specs.Calls.{Held, setting_of, Call, Start, Attempt, Reply, made, taken, is_start, is_attempt, HoldsFigures}
use Rattle.session.specs.Session.{taken_of, held_after}

-- ---- one call of a list

-- Of these calls from h on, each handed what the call before left, c is one and is taken; those before it, and those since.
pub record TakenAmong (h : Held) (calls : List Call) (c : Call) : Type 0 where
  pub before : List Call
  pub since : List Call
  pub calls_are : calls ≡ before ++ c ∷ since
  pub is_taken : taken (made (held_after h before) c).answer ≡ true

-- what it found
abbrev pub found : {h : Held} {calls : List Call} {c : Call} → TakenAmong h calls c → Held
found {h} m = held_after h m.before

-- the calls since that are taken
abbrev pub taken_since : {h : Held} {calls : List Call} {c : Call} → TakenAmong h calls c → List Call
taken_since {h} {c = c} m = taken_of (made (held_after h m.before) c).held m.since

-- the cases of the answers to those of a list that are taken
unfoldable pub cases_of : Held → List Call → List ℕ
cases_of h [] = []
cases_of h (c ∷ cs) = let rest = cases_of (made h c).held cs in
    cond (taken (made h c).answer) (case_number (made h c).answer ∷ rest) rest

abbrev pub cases_since : {h : Held} {calls : List Call} {c : Call} → TakenAmong h calls c → List ℕ
cases_since {h} {c = c} m = cases_of (made (held_after h m.before) c).held m.since

-- no call of a list is of this kind
unfoldable pub none_is : (Call → Bool) → List Call → Bool
none_is kind [] = true
none_is kind (c ∷ cs) = not (kind c) && none_is kind cs

-- ---- the latest start that is taken

pub record LatestStart (h : Held) (calls : List Call) : Type 0 where
  pub family : ℕ
  pub n : ℕ
  pub state : List Float
  pub time : Float
  pub among : TakenAmong h calls (Start family n state time)
  pub none_since : none_is is_start (taken_since among) ≡ true

-- ---- the statement

-- s, k and r, as the record holds them
abbrev pub stages_of : Held → ℕ
stages_of x = x.kept.staging.stages

abbrev pub passes_of : Held → ℕ
passes_of x = x.kept.iteration.pass

abbrev pub scaled_radius_of : Held → Float
scaled_radius_of x = x.kept.iteration.scaled_radius

-- r, as the state and the eigenvector that an attempt leaves tell it: from the first stage on it moves neither
unfoldable pub radius_left : Arguments → Vectors → Float
radius_left a v = scaled a.step (radius_of (perturbation_of v) v)

-- what holds of k, s and r once an attempt under this setting has them
pub record Suits (m : Setting) (k s : ℕ) (r : Float) : Type 0 where
  pub one_pass : 1 ≤ k
  pub twelve_passes : k ≤ 12
  pub not_negative : lt r nought ≡ false
  pub stages_are : s ≡ stage_count (kind m) m.quotient r
  pub need_met : exceeds (kind m) m.quotient r ≡ false

-- demand 3 of an attempt of s stages for the scaled radius r: RKL1, RKL2, RKG1, RKG2
pub record DemandThree (g : Orthogonal) (r : Float) (s : ℕ) : Type 0 where
  pub serves : T (finite r) → Serves g r s
  pub first_close : (q : Float) → Close 48 (recurrence_of (made_of g) q s).theta_previous (Paper.first_mu_tilde g s)
  pub rows_close : (j : ℕ) → 2 ≤ j → j ≤ s → (c : Recurrence) → CloseRow g s j (coefficients_of (made_of g) s j c)
  pub stable : Stable g s

-- The last of these calls from h on is answered "finished", and told are its norm, s, k and r; x is what it leaves. An attempt was taken, and the calls taken
-- since are s + k replies and no other call, answered by evaluations and at last by finished, with norm and r of the vectors that are left.
pub record Concluded (h : Held) (calls : List Call) (told : Figures) (x : Held) : Type 0 where
  pub start : LatestStart h calls
  pub family_is : x.kept.family ≡ start.family
  pub n_is : x.kept.n ≡ start.n
  pub arguments : Arguments
  pub attempt : TakenAmong h calls (Attempt arguments)
  pub arguments_are : x.kept.arguments ≡ arguments
  pub phase_is : x.kept.phase ≡ P.Finished
  pub replies : List (List Float)
  pub only_replies : taken_since attempt ≡ map Reply replies
  pub replies_are : length replies ≡ told.stages + told.passes
  pub answers_are : cases_since attempt ≡ replicate (length replies - 1) 1 ++ 2 ∷ []
  pub norm_is : told.norm ≡ error_norm (setting_of x.kept) start.n told.stages arguments (unpack start.n x.area)
  pub radius_is : told.scaled_radius ≡ radius_left arguments (unpack start.n x.area)
  pub suits : Suits (setting_of x.kept) told.passes told.stages told.scaled_radius
  pub evaluations_are : x.counters.evaluations ≡ (found attempt).counters.evaluations + (told.stages + told.passes)
  pub attempts_are : x.counters.finished_attempts ≡ (found attempt).counters.finished_attempts + 1
  pub largest_at_infinity : (family_of start.family ≡ TSRKC2 → ⊥) → told.scaled_radius ≡ inf false
      → told.stages ≡ largest_count (family_of start.family)
  pub demand_three : (g : Orthogonal) → family_of start.family ≡ made_of g → DemandThree g told.scaled_radius told.stages
  pub record_holds : HoldsFigures told x.kept

-- whatever record was handed in: k is from 1 to 12, and s permitted to the record's family
pub record ToldInRange (told : Figures) (x : Held) : Type 0 where
  pub one_pass : 1 ≤ told.passes
  pub twelve_passes : told.passes ≤ 12
  pub stages_permitted : T (permitted (family_of x.kept.family) told.stages)

-- ---- until the next attempt

-- of these calls from x on, none is an attempt that is taken
abbrev pub NoAttemptTaken : Held → List Call → Type 0
NoAttemptTaken x cs = none_is is_attempt (taken_of x cs) ≡ true

-- s, k and r of the record stand
pub record ThreeStand (h x : Held) : Type 0 where
  pub stages_stand : stages_of x ≡ stages_of h
  pub passes_stand : passes_of x ≡ passes_of h
  pub radius_stands : scaled_radius_of x ≡ scaled_radius_of h

-- k, s and r as this attempt has found them: r by the state and the eigenvector, which its passes left
pub record OwnFigures (x : Held) : Type 0 where
  pub radius_is : scaled_radius_of x ≡ radius_left x.kept.arguments (unpack x.kept.n x.area)
  pub suits : Suits (setting_of x.kept) (passes_of x) (stages_of x) (scaled_radius_of x)

-- s, k and r of the record while an attempt is under way, in a sequence. Among the passes k is from 1 to 12 and r is 0; of s nothing is said. From the first
-- stage on they are the attempt's own.
pub record UnderWay (x : Held) : Type 0 where
  pub pass_from_one : x.kept.phase ≡ P.Pass → 1 ≤ passes_of x
  pub pass_to_twelve : x.kept.phase ≡ P.Pass → passes_of x ≤ 12
  pub no_radius_yet : x.kept.phase ≡ P.Pass → scaled_radius_of x ≡ nought
  pub own_in_stages : x.kept.phase ≡ P.Stage → OwnFigures x
  pub own_at_candidate : x.kept.phase ≡ P.Candidate → OwnFigures x

-- ---- a stage that awaits its derivative, in a sequence

-- What the record carries into the stage is what the recurrence comes to there, from family, q and s alone; in RKC `omega_zero` is that of s, and `omega_one`
-- the table's entry for s, within 2 ^ -36 of the paper's fraction; in RKMC2 both are the tables' entries for s, at least 1 and above 0; in TSRKC2 they and the
-- gain are those of q and s.
pub record Carries (x : Held) : Type 0 where
  pub stages_permitted : T (permitted (family_of x.kept.family) (stages_of x))
  pub from_two : 2 ≤ x.kept.staging.stage
  pub to_last : x.kept.staging.stage ≤ stages_of x
  pub recurrence_is : x.kept.staging.recurrence ≡ carried (setting_of x.kept) (stages_of x) (x.kept.staging.stage - 2)
  pub zero_kept : family_of x.kept.family ≡ RKC → x.kept.staging.recurrence.polynomials.omega_zero ≡ omega_zero (stages_of x)
  pub entry_read : family_of x.kept.family ≡ RKC → x.kept.staging.recurrence.polynomials.omega_one ≡ Table.omega (stages_of x)
  pub entry_close : family_of x.kept.family ≡ RKC → Close 36 x.kept.staging.recurrence.polynomials.omega_one (Chebyshev.omega_one (stages_of x))
  pub rkmc2_zero_read : family_of x.kept.family ≡ RKMC2 → x.kept.staging.recurrence.polynomials.omega_zero ≡ rkmc2-zero.omega_zero (stages_of x)
  pub rkmc2_one_read : family_of x.kept.family ≡ RKMC2 → x.kept.staging.recurrence.polynomials.omega_one ≡ rkmc2-one.omega_one (stages_of x)
  pub rkmc2_zero_from_one : family_of x.kept.family ≡ RKMC2 → T (le one x.kept.staging.recurrence.polynomials.omega_zero)
  pub rkmc2_one_above_zero : family_of x.kept.family ≡ RKMC2 → T (lt nought x.kept.staging.recurrence.polynomials.omega_one)
  pub tsrkc2_zero_read : family_of x.kept.family ≡ TSRKC2 → x.kept.staging.recurrence.polynomials.omega_zero ≡ tsrkc2_omega_zero (stages_of x)
  pub tsrkc2_one_read : family_of x.kept.family ≡ TSRKC2
      → x.kept.staging.recurrence.polynomials.omega_one ≡ tsrkc2_omega_one (setting_of x.kept).quotient (stages_of x)
  pub gain_read : family_of x.kept.family ≡ TSRKC2
      → x.kept.staging.recurrence.polynomials.gain
      ≡ tsrkc2_gain (setting_of x.kept).quotient (tsrkc2_omega_one (setting_of x.kept).quotient (stages_of x)) (stages_of x)

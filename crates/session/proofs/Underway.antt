-- An attempt under way, as record and counters tell it: an attempt that is taken begins it, and each reply that is taken goes on with it, up to finished.
-- And what an answer "finished" leaves; the family and the n stand but for a start. From the outcomes of a call, and Signs (r is not below 0).
-- ⊘ is an operation on doubles: it rounds.
use mathlib.Core.Path.{◌≡◌, refl, sym, ap, ◌∙◌, subst}
use mathlib.Core.Bool.{Bool, true, false}
use mathlib.Core.List.{List}
use Prim.Native.Nat.{ℕ, ◌+◌, ◌-◌, ◌≤◌}
use native.Mathlib.Omega.{arith}
use lib.Ieee.{Float}
use Rattle.ieee.specs.Double.{◌⊘◌, nought}
use Rattle.family.specs.Family.{family_of, stage_count}
use Rattle.family.proofs.Range.{permitted_range}
use Rattle.family.proofs.Counts.{stage_count_permitted}
use Rattle.coefficients.specs.Rows.{carried, carried_of}
use Rattle.coefficients.proofs.Carried.{carried_next}
use Rattle.workspace.specs.declared.Arguments.{Arguments}
use Rattle.workspace.specs.Vectors.{Vectors, unpack, vector_norm, eigenvector}
use Rattle.workspace.specs.Kernel.{perturbation_of, radius_of, scaled}
use Rattle.workspace.proofs.Areas.{unpack_pack}
use Rattle.driver.specs.declared.Phase.{Phase}
use Rattle.driver.specs.declared.Phase.TheVariants as P
use Rattle.driver.specs.declared.Record.{Record}
use Rattle.driver.specs.declared.Answer.TheVariants.{Finished}
use Rattle.driver.specs.Answers.{case_number}
use Rattle.driver.specs.Calls.{Held, Called, in_phase, first_at, at_pass, with_radius, at_stage, pending, figures_after, good_end, Call, Attempt, Reply, taken}
use Rattle.driver.specs.Calls.{setting_of, is_start}
use Rattle.session.specs.Concluded.{stages_of, passes_of, scaled_radius_of, radius_left, Suits}
use Rattle.session.proofs.Truth.{differ}
use Rattle.session.proofs.Lengths.{its_family}
use Rattle.session.proofs.Signs.{Plus, not_below, perturbation_plus, radius_plus, scaled_plus}
use Rattle.session.proofs.Outcomes.{radius_after, BothStay, Outcome, away, starts, attempts, spoils, readies}
use Rattle.session.proofs.Left.{perturbation_same, left_same}
use Rattle.session.proofs.Outcomes.{iterates, begins, goes_on, asks_candidate, finishes, accepts, calls_back, abandons}

-- ---- the phases of an attempt

unfoldable pub active : Phase → Bool
active P.Empty = false
active P.First = false
active P.Ready = false
active P.Pass = true
active P.Stage = true
active P.Candidate = true
active P.Finished = true
active P.Callback = false

-- the case of the answer that leaves it
unfoldable pub case_at : Phase → ℕ
case_at P.Empty = 1
case_at P.First = 1
case_at P.Ready = 1
case_at P.Pass = 1
case_at P.Stage = 1
case_at P.Candidate = 1
case_at P.Finished = 2
case_at P.Callback = 1

-- Below, the attempt found g, its arguments are a, m replies are taken since, and x is what is held.

-- among the passes, before s and r are known
pub record InPasses (g : Held) (m : ℕ) (x : Held) : Type 0 where
  pub pass_is : passes_of x ≡ m + 1
  pub to_twelve : passes_of x ≤ 12
  pub no_radius_yet : scaled_radius_of x ≡ nought
  pub perturbation_is : x.kept.iteration.perturbation ≡ perturbation_of (unpack x.kept.n x.area)
  pub unsigned : Plus x.kept.iteration.perturbation
  pub attempts_are : x.counters.finished_attempts ≡ g.counters.finished_attempts

-- and then: so many replies to come, so many finished attempts more
pub record InStages (g : Held) (m to_come finished : ℕ) (x : Held) : Type 0 where
  pub radius_is : scaled_radius_of x ≡ radius_left x.kept.arguments (unpack x.kept.n x.area)
  pub suits : Suits (setting_of x.kept) (passes_of x) (stages_of x) (scaled_radius_of x)
  pub replies_are : m + to_come ≡ stages_of x + passes_of x
  pub from_two : 2 ≤ x.kept.staging.stage
  pub to_last : x.kept.staging.stage ≤ stages_of x
  pub recurrence_is : x.kept.staging.recurrence ≡ carried (setting_of x.kept) (stages_of x) (x.kept.staging.stage - 2)
  pub attempts_are : x.counters.finished_attempts ≡ g.counters.finished_attempts + finished

abbrev pub Position : Held → ℕ → Held → Phase → Type 0
Position g m x P.Empty = Unit {0}
Position g m x P.First = Unit {0}
Position g m x P.Ready = Unit {0}
Position g m x P.Pass = InPasses g m x
Position g m x P.Stage = InStages g m (stages_of x + 2 - x.kept.staging.stage) 0 x
Position g m x P.Candidate = InStages g m 1 0 x
Position g m x P.Finished = InStages g m 0 1 x
Position g m x P.Callback = Unit {0}

pub record Underway (g : Held) (a : Arguments) (m : ℕ) (x : Held) : Type 0 where
  pub arguments_are : x.kept.arguments ≡ a
  pub evaluations_are : x.counters.evaluations ≡ g.counters.evaluations + m
  pub position : Position g m x x.kept.phase

found_same : (r : Record) (w v : Vectors) → r.iteration.perturbation ≡ perturbation_of v → v eigenvector ≡ w eigenvector
    → radius_after r w ≡ radius_left r.arguments v
unfolding radius_left radius_of
found_same r w v e f =
    ap (λ (p : Float). scaled r.arguments.step (vector_norm (w eigenvector) ⊘ p)) e
    ∙ ap (λ (y : List Float). scaled r.arguments.step (vector_norm y ⊘ perturbation_of v)) (sym f)

-- every count is at least 2
least_count : (f : ℕ) (q r : Float) → 2 ≤ stage_count (family_of f) q r
least_count f q r = (permitted_range (family_of f) (stage_count (family_of f) q r) (stage_count_permitted (family_of f) q r)).0

-- a call leaves it so, and answers so
pub record Goes (g : Held) (a : Arguments) (m : ℕ) (x : Called) : Type 0 where
  pub underway : Underway g a m x.held
  pub answered : case_number x.answer ≡ case_at x.held.kept.phase

-- ---- an attempt begins it, a reply goes on with it

pub attempt_begins : (g : Held) (a : Arguments) (y : Called) → Outcome g (Attempt a) y → taken y.answer ≡ true
    → Underway g a 0 y.held × (pending y.held.kept.phase ≡ true)
unfolding at_pass pending
attempt_begins g a y (away i e) q = absurd (differ (sym e ∙ q))
attempt_begins g a y (attempts v t b area same) q = (
  record {
    arguments_are = refl;
    evaluations_are = omega arith;
    position = record {
      pass_is = refl;
      to_twelve = omega arith;
      no_radius_yet = refl;
      perturbation_is = perturbation_same v _ same;
      unsigned = perturbation_plus v;
      attempts_are = refl;
    };
  },
  refl,
)

module _ (g : Held) (a : Arguments) (m : ℕ) (x : Held) (u : Underway g a m x) where
  abbrev now : Vectors
  now = unpack x.kept.n x.area

  at_phase : (φ : Phase) → x.kept.phase ≡ φ → Position g m x φ
  at_phase φ p = subst (Position g m x) p u.position

  pub reply_goes : (d : List Float) (y : Called) → Outcome x (Reply d) y → taken y.answer ≡ true → active y.held.kept.phase ≡ true → Goes g a (m + 1) y
  unfolding in_phase at_pass with_radius at_stage active case_number case_at carried_of
  reply_goes d y (away i e) q on = absurd (differ (sym e ∙ q))
  reply_goes d y (spoils i area) q on = absurd (differ on)
  reply_goes d y (readies area) q on = absurd (differ on)
  reply_goes d y (iterates t radius b area p below same) q on = let i = at_phase P.Pass p in record {
    underway = record {
      arguments_are = u.arguments_are;
      evaluations_are = omega arith;
      position = record {
        pass_is = omega arith;
        to_twelve = (let l = below in omega arith);
        no_radius_yet = refl;
        perturbation_is = i.perturbation_is ∙ perturbation_same now _ same;
        unsigned = i.unsigned;
        attempts_are = i.attempts_are;
      };
    };
    answered = refl;
  }
  reply_goes d y (begins w t b area p twelve met same turned) q on = let i = at_phase P.Pass p in
      let r = x.kept in
      let plus = radius_plus r.iteration.perturbation w i.unsigned in record {
        underway = record {
          arguments_are = u.arguments_are;
          evaluations_are = omega arith;
          position = record {
            radius_is = found_same r w _ (i.perturbation_is ∙ perturbation_same now _ same) turned;
            suits = record {
              one_pass = omega arith;
              twelve_passes = twelve;
              not_negative = not_below (radius_after r w) (scaled_plus r.arguments.step (radius_of r.iteration.perturbation w) plus);
              stages_are = refl;
              need_met = met;
            };
            replies_are = omega arith;
            from_two = omega arith;
            to_last = least_count r.family (setting_of r).quotient (radius_after r w);
            recurrence_is = refl;
            attempts_are = omega arith;
          };
        };
        answered = refl;
      }
  reply_goes d y (goes_on t b area p below both) q on = let i = at_phase P.Stage p in record {
    underway = record {
      arguments_are = u.arguments_are;
      evaluations_are = omega arith;
      position = record {
        radius_is = i.radius_is ∙ left_same x.kept.arguments now _ both;
        suits = i.suits;
        replies_are = omega arith;
        from_two = (let l = i.from_two in omega arith);
        to_last = (let l = below in omega arith);
        recurrence_is = carried_next (setting_of x.kept) (stages_of x) x.kept.staging.stage x.kept.staging.recurrence i.from_two
            i.recurrence_is;
        attempts_are = i.attempts_are;
      };
    };
    answered = refl;
  }
  reply_goes d y (asks_candidate t b area p at both) q on = let i = at_phase P.Stage p in record {
    underway = record {
      arguments_are = u.arguments_are;
      evaluations_are = omega arith;
      position = record {
        radius_is = i.radius_is ∙ left_same x.kept.arguments now _ both;
        suits = i.suits;
        replies_are = omega arith;
        from_two = i.from_two;
        to_last = i.to_last;
        recurrence_is = i.recurrence_is;
        attempts_are = i.attempts_are;
      };
    };
    answered = refl;
  }
  reply_goes d y (finishes w p good long both) q on = let i = at_phase P.Candidate p in record {
    underway = record {
      arguments_are = u.arguments_are;
      evaluations_are = omega arith;
      position = record {
        radius_is = i.radius_is ∙ left_same x.kept.arguments now _
            (subst (BothStay now) (sym (unpack_pack (its_family x.kept) x.kept.n w long)) both);
        suits = i.suits;
        replies_are = omega arith;
        from_two = i.from_two;
        to_last = i.to_last;
        recurrence_is = i.recurrence_is;
        attempts_are = omega arith;
      };
    };
    answered = refl;
  }

-- ---- every call

-- the family and the n stand, but for a start
pub stays : (x : Held) (c : Call) (y : Called) → Outcome x c y → is_start c ≡ false
    → (y.held.kept.family ≡ x.kept.family) × (y.held.kept.n ≡ x.kept.n)
unfolding in_phase first_at at_pass with_radius at_stage is_start
stays x c y (away i e) other = (refl, refl)
stays x c y (starts area) other = absurd (differ (sym other))
stays x c y (attempts v t b area same) other = (refl, refl)
stays x c y (spoils i area) other = (refl, refl)
stays x c y (readies area) other = (refl, refl)
stays x c y (iterates t radius b area p below same) other = (refl, refl)
stays x c y (begins w t b area p twelve met same turned) other = (refl, refl)
stays x c y (goes_on t b area p below both) other = (refl, refl)
stays x c y (asks_candidate t b area p at both) other = (refl, refl)
stays x c y (finishes w p good long both) other = (refl, refl)
stays x c y (accepts area) other = (refl, refl)
stays x c y (calls_back area) other = (refl, refl)
stays x c y abandons other = (refl, refl)

-- an answer "finished" leaves that phase, has the norm of the vectors left, and k and s of the record, in their ranges
pub record LeftFinished (x : Called) : Type 0 where
  pub phase_is : x.held.kept.phase ≡ P.Finished
  pub told_in_range : good_end (setting_of x.held.kept) (passes_of x.held) (stages_of x.held) ≡ true
  pub figures_are : x.answer ≡ Finished (figures_after x.held.kept (unpack x.held.kept.n x.held.area))

pub leaves_finished : (x : Held) (c : Call) (y : Called) → Outcome x c y → case_number y.answer ≡ 2 → LeftFinished y
unfolding case_number in_phase
leaves_finished x c y (away i e) two = absurd (omega arith)
leaves_finished x c y (starts area) two = absurd (omega arith)
leaves_finished x c y (attempts v t b area same) two = absurd (omega arith)
leaves_finished x c y (spoils i area) two = absurd (omega arith)
leaves_finished x c y (readies area) two = absurd (omega arith)
leaves_finished x c y (iterates t radius b area p below same) two = absurd (omega arith)
leaves_finished x c y (begins w t b area p twelve met same turned) two = absurd (omega arith)
leaves_finished x c y (goes_on t b area p below both) two = absurd (omega arith)
leaves_finished x c y (asks_candidate t b area p at both) two = absurd (omega arith)
leaves_finished x c y (finishes w p good long both) two = record {
  phase_is = refl;
  told_in_range = good;
  figures_are = ap (λ (v : Vectors). Finished (figures_after x.kept v)) (sym (unpack_pack (its_family x.kept) x.kept.n w long));
}
leaves_finished x c y (accepts area) two = absurd (omega arith)
leaves_finished x c y (calls_back area) two = absurd (omega arith)
leaves_finished x c y abandons two = absurd (omega arith)

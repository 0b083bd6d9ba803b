-- Document 01's case, by computation, as a session: RKL1, n = 1, state 1, step 1, every reply 0. A start and its reply, an attempt and four replies, an accept;
-- among them calls that are not taken. An attempt from a hot state, whose norms are finite (document 02, CR 4); and one whose r is a NaN, which its finished
-- answer tells as one (CR 2).
use mathlib.Core.Path.{◌≡◌, refl, ap, ap₂, ◌∙◌}
use mathlib.Core.Bool.{true, false, cond}
use mathlib.Core.List.{List, [], ◌∷◌, ◌++◌, map}
use Prim.Native.Nat.{ℕ, ◌^◌}
use lib.Count.{count_trailing_zeros}
use lib.Dec.{eqb}
use lib.ListN.{length, replicate}
use lib.Ieee.{Float, binary64, to_bits, add, sub, mul, div, neg, le, lt, eq, of_int, round, to_unsigned, sum, units, odd, size, span, climb, is_nan}
use Rattle.ieee.specs.Double.{double, nearest, square, min_positive, root_epsilon, nought, one}
use Rattle.ieee.specs.Sqrt.{root_below, root, halves, root_units, sqrt}
use Rattle.ieee.specs.Whole.{abs, max, floor, ceil}
use Rattle.family.specs.Family.{known, family_of, keeps_older, smallest_count, largest_count, odd_only, permitted, before_limits, odd_step, limited}
use Rattle.family.specs.Family.{stage_count, exceeds, by_rule, radius_for, facts_of}
use Rattle.coefficients.specs.Rows.{omega_zero, orthogonal_omega, omega_one_of, b_first, first_mu_tilde, first_polynomials, first_polynomials_in}
use Rattle.coefficients.specs.Rows.{recurrence_of, with_theta}
use Rattle.coefficients.specs.Rows.{legendre_one, coefficients_of, next_polynomials, next_of}
use Rattle.workspace.specs.declared.Arguments.{Arguments}
use Rattle.norm.specs.Norm.{overflows, lowered, raised, root_over}
use Rattle.workspace.specs.Vectors.{join, vector_count, each, sum_of_squares, root_of_squares, vector_norm, all_finite}
use Rattle.workspace.specs.Kernel.{with_direction, perturbation_of, perturbed_by, perturbed, turned, radius_of, ended, scaled, first_stage, orthogonal_entry}
use Rattle.workspace.specs.Kernel.{entry_in, with_row_in, exchanged, with_candidate, candidate_in, error_in, with_last, divisor_in, scaled_error}
use Rattle.workspace.specs.Kernel.{scaled_error_norm, error_norm}
use Rattle.driver.specs.declared.Counters.{Counters}
use Rattle.driver.specs.Calls.{Held, stage_need, Call, Start, Attempt, Reply, Accept, Abandon, sized, as_long, good_times, good_tolerance, good_tolerances}
use Rattle.driver.specs.Calls.{room}
use Rattle.session.specs.Attempt.{closes, ◌>>=◌, evaluate, stages_for, iterate, spectral_radius, stage_row, stage_loop, run_recurrence, finished_attempt}
use Rattle.session.specs.Attempt.{close, attempt_step}
use Rattle.session.specs.Session.{Shown, evaluates, finished_with, ready_at, stops, nothing, Seen, seen_of, vectors_of, initialize, tries, accept_step}
use Rattle.session.specs.Session.{at_rest, after_attempt, waiting, finished_by, counts_on, doing_now, replied_with, session_after, doing_shown}
use Rattle.session.specs.Session.{previous_of, is_some, quotient, step_after, state_after, session_seen, rests, has_tried, waits, waits_with_room}
use Rattle.session.specs.Session.{takes, session, fresh}
use Rattle.session.proofs.Sequences.{every_sequence}

-- opens, where it is named on an `unfolding` line, what a double's operation, an attempt (its rows, of RKL1) and a session are made of
unfoldable pub doubles : Unit {0}
unfolding to_bits add sub mul div neg le lt eq of_int round to_unsigned sum units odd size span climb is_nan count_trailing_zeros root_below root halves root_units sqrt
    abs max floor ceil double nearest square min_positive root_epsilon
doubles = tt

unfoldable pub attempts : Unit {0}
unfolding smallest_count largest_count odd_only before_limits odd_step limited stage_count omega_zero omega_one_of b_first first_mu_tilde first_polynomials
    first_polynomials_in recurrence_of with_theta legendre_one coefficients_of next_polynomials next_of each sum_of_squares overflows lowered raised root_over
    root_of_squares vector_norm all_finite with_direction perturbation_of perturbed_by perturbed turned radius_of ended scaled first_stage orthogonal_entry
    entry_in with_row_in exchanged with_candidate candidate_in error_in with_last divisor_in scaled_error scaled_error_norm error_norm stage_need ◌>>=◌
    evaluate stages_for iterate spectral_radius stage_row stage_loop run_recurrence finished_attempt close attempt_step closes by_rule radius_for exceeds
    orthogonal_omega facts_of
attempts = tt

unfoldable pub sessions : Unit {0}
unfolding known family_of permitted keeps_older vector_count sized as_long good_times good_tolerance good_tolerances room vectors_of initialize tries
    accept_step at_rest after_attempt waiting finished_by counts_on doing_now replied_with session_after doing_shown session_seen rests has_tried waits
    waits_with_room takes session fresh facts_of previous_of is_some quotient step_after
    state_after
sessions = tt

unfoldable pub arguments : Arguments
arguments = record { time = nought; step = one; absolute_tolerance = nearest 1 1000000; relative_tolerance = nearest 1 1000000; adaptive = true }

pub calls : List Call
calls = Start 2 1 (one ∷ []) nought ∷ Attempt arguments ∷ Reply zeros ∷ Attempt arguments ∷ Reply zeros ∷ Reply zeros ∷ Accept ∷ Reply zeros ∷ Reply zeros
    ∷ Reply zeros ∷ Accept ∷ Accept ∷ Abandon ∷ []
  where
    zeros : List Float
    zeros = nought ∷ []

unfoldable pub bits : Float → ℕ
bits x = to_bits binary64 x

-- 1 evaluate: time and point; 2 finished: norm, s, k, r, candidate; 3 ready: state and derivative; 4 stopped: number and vectors; 5 nothing
unfoldable pub kind : Shown → List ℕ
kind (evaluates t p) = 1 ∷ bits t ∷ map bits p
kind (finished_with e s k r p) = 2 ∷ bits e ∷ s ∷ k ∷ bits r ∷ map bits p
kind (ready_at y d) = 3 ∷ map bits y ++ map bits d
kind (stops i vs) = 4 ∷ i ∷ map bits (join vs)
kind nothing = 5 ∷ []

-- and both counts before
unfoldable pub numbers : Seen → List ℕ
numbers x = x.counts.evaluations ∷ x.counts.finished_attempts ∷ kind x.shown

pub numbers_in_case : List (List ℕ)
numbers_in_case =
    (0 ∷ 0 ∷ 1 ∷ 0 ∷ 0x3ff0000000000000 ∷ [])
    ∷ (1 ∷ 0 ∷ 3 ∷ 0x3ff0000000000000 ∷ 0 ∷ [])
    ∷ (1 ∷ 0 ∷ 1 ∷ 0 ∷ 0x3ff0000004000000 ∷ [])
    ∷ (2 ∷ 0 ∷ 1 ∷ 0x3fc5555555555555 ∷ 0x3ff0000000000000 ∷ [])
    ∷ (3 ∷ 0 ∷ 1 ∷ 0x3fe0000000000000 ∷ 0x3ff0000000000000 ∷ [])
    ∷ (4 ∷ 0 ∷ 1 ∷ 0x3ff0000000000000 ∷ 0x3fefffffffffffff ∷ [])
    ∷ (5 ∷ 1 ∷ 2 ∷ 0x3db4585555555555 ∷ 3 ∷ 1 ∷ 0 ∷ 0x3fefffffffffffff ∷ [])
    ∷ (5 ∷ 1 ∷ 3 ∷ 0x3fefffffffffffff ∷ 0 ∷ [])
    ∷ []

unfoldable pub zeroes : Counters
zeroes = record { evaluations = 0; finished_attempts = 0 }

pub case : map numbers (session 11 (fresh zeroes) calls) ≡ numbers_in_case
unfolding numbers kind bits calls arguments numbers_in_case zeroes doubles attempts sessions
case = refl

-- ---- and so of the calls

-- of a start that is taken, with nothing counted before
pub from_start : (h : Held) (size f n : ℕ) (y : List Float) (t : Float) (cs : List Call) → length h.area ≡ size → h.counters ≡ zeroes
    → takes size (fresh zeroes) (Start f n y t) ≡ true → seen_of h (Start f n y t ∷ cs) ≡ session size (fresh zeroes) (Start f n y t ∷ cs)
from_start h size f n y t cs l e start =
    let taken = ap₂ (λ (size : ℕ) (counts : Counters). takes size (fresh counts) (Start f n y t)) l e ∙ start in
    every_sequence h f n y t cs taken ∙ ap₂ (λ (size : ℕ) (counts : Counters). session size (fresh counts) (Start f n y t ∷ cs)) l e

starts : takes 11 (fresh zeroes) (Start 2 1 (one ∷ []) nought) ≡ true
unfolding sessions all_finite zeroes
starts = refl

pub case_of_calls : (h : Held) → length h.area ≡ 11 → h.counters ≡ zeroes → map numbers (seen_of h calls) ≡ numbers_in_case
unfolding calls
case_of_calls h l e = ap (map numbers) (from_start h 11 2 1 (one ∷ []) nought _ l e starts) ∙ case

-- the last thing seen
unfoldable pub last_seen : List Seen → List ℕ
last_seen [] = []
last_seen (x ∷ xs) = cond (eqb (length xs) 0) (numbers x) (last_seen xs)

-- a start from this state, the first derivative 0, and an attempt in which every reply is the state
abbrev from_zero : ℕ → List Float → Arguments → ℕ → List Call
from_zero n state arguments replies = Start 2 n state nought ∷ Reply (replicate n nought) ∷ Attempt arguments ∷ replicate replies (Reply state)

-- ---- a hot vector's norms are finite (document 02, CR 4): the state 2 ^ 600, whose square overflows. The perturbation is 2 ^ 574, the direction's norm
-- 2 ^ 600, the radius 2 ^ 26; and the errors over their tolerances are about 2 ^ 577, with a norm that is a double too

abbrev hot : List Float
hot = nearest (2 ^ 600) 1 ∷ []

unfoldable hot_arguments : Arguments
hot_arguments = record {
  time = nought;
  step = nearest 1 (2 ^ 22);
  absolute_tolerance = one;
  relative_tolerance = nearest 1 (2 ^ 600);
  adaptive = true;
}

pub hot_calls : List Call
hot_calls = from_zero 1 hot hot_arguments 7

-- As `numbers` tells it: both passes are at 2 ^ 600 + 2 ^ 574; finished: the norm 8.387e172, s = 5, k = 2, r = 19.2, and the candidate.
pub hot_told : map numbers (session 11 (fresh zeroes) hot_calls)
    ≡ (0 ∷ 0 ∷ 1 ∷ 0 ∷ 0x6570000000000000 ∷ [])
    ∷ (1 ∷ 0 ∷ 3 ∷ 0x6570000000000000 ∷ 0 ∷ [])
    ∷ (1 ∷ 0 ∷ 1 ∷ 0 ∷ 0x6570000004000000 ∷ [])
    ∷ (2 ∷ 0 ∷ 1 ∷ 0 ∷ 0x6570000004000000 ∷ [])
    ∷ (3 ∷ 0 ∷ 1 ∷ 0x3e51111111111111 ∷ 0x6570000000000000 ∷ [])
    ∷ (4 ∷ 0 ∷ 1 ∷ 0x3e6999999999999a ∷ 0x6570000006666666 ∷ [])
    ∷ (5 ∷ 0 ∷ 1 ∷ 0x3e7999999999999a ∷ 0x6570000011c71c71 ∷ [])
    ∷ (6 ∷ 0 ∷ 1 ∷ 0x3e85555555555556 ∷ 0x6570000021c71c71 ∷ [])
    ∷ (7 ∷ 0 ∷ 1 ∷ 0x3e90000000000000 ∷ 0x657000003641fdb9 ∷ [])
    ∷ (8 ∷ 1 ∷ 2 ∷ 0x63d5b3fef2004ce2 ∷ 5 ∷ 2 ∷ 0x4033333333333333 ∷ 0x657000003641fdb9 ∷ [])
    ∷ []
unfolding numbers kind bits hot_calls hot_arguments zeroes doubles attempts sessions
hot_told = refl

-- ---- a NaN is told as a NaN: four entries of 2 ^ 1023, whose norm is no double, so that the perturbation is infinite; so is the direction's norm, and the
-- radius is infinite over infinite, pass by pass

abbrev huge : List Float
huge = replicate 4 (nearest (2 ^ 1023) 1)

-- without `adaptive`: the norm is 0
unfoldable without_norm : Arguments
without_norm = record {
  time = nought;
  step = nearest 1 (2 ^ 20);
  absolute_tolerance = one;
  relative_tolerance = one;
  adaptive = false;
}

pub nan_calls : List Call
nan_calls = from_zero 4 huge without_norm 15

-- 16 evaluations and a finished attempt; finished: norm 0, s = 3, k = 12, r a NaN, and the candidate
pub nan_told : last_seen (session 44 (fresh zeroes) nan_calls)
    ≡ 16 ∷ 1 ∷ 2 ∷ 0 ∷ 3 ∷ 12 ∷ 0x7ff8000000000000 ∷ replicate 4 0x7fe00000b1c71c73
unfolding last_seen numbers kind bits nan_calls without_norm zeroes doubles attempts sessions
nan_told = refl

-- Which number a call is turned away with: that of the first of its tests that fails. Document 01, "When a call is turned away", and document 02,
-- CR 6.
use Rattle.std.specs.Prelude.{ℕ, ◌+◌, ◌≡◌, ◌⊎◌, Bool, false, cond, not, ◌&&◌, ◌||◌, List, [], ◌∷◌, ltb, eqb, Float}
use Rattle.std.specs.Float.Ieee.Scale.{finite}
use Rattle.family.specs.declared.Family.TheVariants.{TSRKC2}
use Rattle.family.specs.Family.{known, number_of_stages}
use Rattle.coefficients.specs.Rows.{coefficients}
use Rattle.workspace.specs.declared.Vector.{Vector}
use Rattle.workspace.specs.Vectors.{Vectors, number, unpack, all_finite, last_derivative, eigenvector, perturbed_derivative, candidate, older_state}
use Rattle.workspace.specs.Kernel.{turned, radius_of, ended, scaled, with_row, with_candidate}
use Rattle.driver.specs.declared.Phase.{Phase}
use Rattle.driver.specs.declared.Phase.TheVariants as P
use Rattle.driver.specs.declared.Record.{Record}
use Rattle.driver.specs.declared.Answer.{Answer}
use Rattle.driver.specs.declared.Answer.TheVariants.{Evaluate, Finished, Ready, Refused, Empty}
use Rattle.driver.specs.Numbers.{standing_numbers, need_numbers, ending_numbers}
use Rattle.driver.specs.Calls.{Held, in_phase, setting_of, Test, ◌∶◌, Verdict, admitted, refused_with}
use Rattle.driver.specs.Calls.{sized, whole_area, as_long, awaiting, may_attempt, may_accept, good_times, good_tolerances, has_room}
use Rattle.driver.specs.Calls.{Call, Start, Attempt, Reply, Accept, AcceptWithCallback, Abandon}

abbrev pub verdict_of : Answer → Verdict
verdict_of (Evaluate t b) = admitted
verdict_of (Finished figures) = admitted
verdict_of Ready = admitted
verdict_of (Refused i) = refused_with i
verdict_of Empty = admitted

-- "11, when family 7 would need more than 1000 stages" (document 02, CR 6): family 7, and the formula's number, for its q and the scaled radius
unfoldable pub too_many : Record → Float → Bool
too_many r radius = eqb r.family 7 && ltb 1000 (number_of_stages TSRKC2 (setting_of r).quotient radius)

-- "found by the reply that ends the power iteration after tests 1 to 9"
unfoldable pub pass_tests : Record → Vectors → List Float → List Test
pass_tests r v d = let i = r.iteration in
    let radius = radius_of i.perturbation (turned r.n v d) in
    cond (ended i.pass i.previous_radius radius || eqb i.pass 12)
    (11 ∶ not (too_many r (scaled r.arguments.step radius)) ∷ [])
    []

-- "the reply that ends stage s also 10"
unfoldable pub stage_tests : Record → Vectors → List Float → List Test
stage_tests r v d = let m = setting_of r in
    let s = r.staging.stages in
    let j = r.staging.stage in
    let c = r.staging.recurrence in
    let row = coefficients m s j c in
    let w = with_row m r.n r.arguments.step row v d in
    cond (ltb j s)
    []
    (10 ∶ all_finite (with_candidate m r.n r.arguments.step s c row w candidate) ∷ [])

unfoldable pub replied_tests : Phase → Record → Vectors → List Float → List Test
replied_tests P.Empty r v d = []
replied_tests P.First r v d = []
replied_tests P.Ready r v d = []
replied_tests P.Pass r v d = pass_tests r v d
replied_tests P.Stage r v d = stage_tests r v d
replied_tests P.Candidate r v d = []
replied_tests P.Finished r v d = []
replied_tests P.Callback r v d = []

-- ---- the tests of every call, spelled from the document's sentence and not from the lists that the calls go by: `refused` holds those against these

abbrev pub one_to_three : ℕ → ℕ → Bool → List Test → List Test
one_to_three f n lengths more = 1 ∶ known f ∷ 2 ∶ sized n ∷ 3 ∶ lengths ∷ more

abbrev pub one_to_four : Record → Bool → Bool → List Test → List Test
one_to_four r lengths phase_allows more = one_to_three r.family r.n lengths (4 ∶ phase_allows ∷ more)

-- "area not 11 × n", of family 7 12 × n (document 02, CR 6); "or vector not n long"
abbrev pub area_good : Held → Bool
area_good h = whole_area h.kept.family h.kept.n h.area

abbrev pub lengths_good : Held → List Float → Bool
lengths_good h v = area_good h && as_long h.kept.n v

-- "Every call has 1 to 4 (start: on what it brings, and no phase); start and accept with a callback 5 and time in 6; attempt 6 and 7, with or without
-- `adaptive`; every reply 8 and 9; the reply that ends stage s also 10."
unfoldable pub tests_of : Held → Call → List Test
tests_of h (Start f n y t) = one_to_three f n (whole_area f n h.area && as_long n y) (5 ∶ all_finite y ∷ 6 ∶ finite t ∷ [])
tests_of h (Attempt a) = one_to_four h.kept (area_good h) (may_attempt h.kept.phase) (6 ∶ good_times a ∷ 7 ∶ good_tolerances a ∷ [])
tests_of h (Reply d) = let r = h.kept in
    one_to_four r (lengths_good h d) (awaiting r)
    (8 ∶ has_room r.phase h.counters ∷ 9 ∶ all_finite d ∷ replied_tests r.phase r (unpack r.n h.area) d)
tests_of h Accept = one_to_four h.kept (area_good h) (may_accept h.kept.phase) []
tests_of h (AcceptWithCallback y t) =
    one_to_four h.kept (lengths_good h y) (may_accept h.kept.phase) (5 ∶ all_finite y ∷ 6 ∶ finite t ∷ [])
tests_of h Abandon = one_to_four h.kept (area_good h) (awaiting h.kept) []

-- the numbers that a call can answer, and no other
unfoldable pub numbers_of : Call → List ℕ
numbers_of (Start f n y t) = 1 ∷ 2 ∷ 3 ∷ 5 ∷ 6 ∷ []
numbers_of (Attempt a) = 1 ∷ 2 ∷ 3 ∷ 4 ∷ 6 ∷ 7 ∷ []
numbers_of (Reply d) = 1 ∷ 2 ∷ 3 ∷ 4 ∷ 8 ∷ 9 ∷ 10 ∷ 11 ∷ []
numbers_of Accept = 1 ∷ 2 ∷ 3 ∷ 4 ∷ []
numbers_of (AcceptWithCallback y t) = 1 ∷ 2 ∷ 3 ∷ 4 ∷ 5 ∷ 6 ∷ []
numbers_of Abandon = 1 ∷ 2 ∷ 3 ∷ 4 ∷ []

infix 40 ◌∈◌
pub data ◌∈◌ (k : ℕ) : List ℕ → Type 0 where
  here : {ks : List ℕ} → k ∈ (k ∷ ks)
  later : {i : ℕ} {ks : List ℕ} → k ∈ ks → k ∈ (i ∷ ks)

-- ---- what a call that is turned away with i leaves, by the kind of i: everything; or the reply is counted, the phase is empty, the rest of the record, the
-- last derivative and the older state stand, on 9 the whole area, and on 11 all of it but for what a pass writes

-- the two vectors that the reply of a pass writes: the iteration's work
abbrev pub written_by_pass : Vector → Bool
written_by_pass b = eqb (number b) (number eigenvector) || eqb (number b) (number perturbed_derivative)

pub record Left (h : Held) (i : ℕ) (x : Held) : Type 0 where
  pub kind : (i ∈ standing_numbers) ⊎ (i ∈ ending_numbers)
  pub all_stands : i ∈ standing_numbers → x ≡ h
  pub record_is : i ∈ ending_numbers → x.kept ≡ in_phase P.Empty h.kept
  pub evaluations_are : i ∈ ending_numbers → x.counters.evaluations ≡ h.counters.evaluations + 1
  pub attempts_are : i ∈ ending_numbers → x.counters.finished_attempts ≡ h.counters.finished_attempts
  pub last_stands : i ∈ ending_numbers → unpack h.kept.n x.area last_derivative ≡ unpack h.kept.n h.area last_derivative
  pub older_stands : i ∈ ending_numbers → unpack h.kept.n x.area older_state ≡ unpack h.kept.n h.area older_state
  pub area_stands : i ≡ 9 → x.area ≡ h.area
  pub others_stand : i ∈ need_numbers → (b : Vector) → written_by_pass b ≡ false → unpack h.kept.n x.area b ≡ unpack h.kept.n h.area b

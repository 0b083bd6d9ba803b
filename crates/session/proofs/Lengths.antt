-- The area's length by the family's number of vectors, and every reply keeps its vectors n long. ⊕ is an operation on doubles: it rounds.
use mathlib.Core.Path.{◌≡◌, refl, sym, ◌∙◌}
use mathlib.Core.Bool.{Bool, true, false, cond, ◌||◌}
use mathlib.Core.List.{List}
use Prim.Native.Nat.{ℕ, ◌+◌, ◌*◌}
use lib.Dec.{ltb, eqb}
use borrow.Author.Tests.{eqb-true, eq-eqb}
use lib.ListN.{length, length-replicate, replicate}
use lib.Ieee.{Float}
use Rattle.ieee.specs.Double.{◌⊕◌, nought}
use Rattle.family.specs.declared.Family.{Family}
use Rattle.family.specs.Family.{family_of, facts_of, kind}
use Rattle.coefficients.specs.Rows.{recurrence, coefficients, next}
use Rattle.workspace.specs.Vectors.{Vectors, ◌with◌≔◌, number, vector_count, unpack, pack, all_finite, first_derivative, eigenvector, candidate}
use Rattle.workspace.specs.Kernel.{turned, radius_of, ended, scaled, with_row, exchanged, with_candidate}
use Rattle.workspace.proofs.Areas.{Long, long_unpack, length_pack, long_with, long_perturbed, long_turned, long_first, long_row, long_exchanged}
use Rattle.workspace.proofs.Areas.{long_candidate, long_last}
use Rattle.driver.specs.declared.Phase.{Phase}
use Rattle.driver.specs.declared.Phase.TheVariants as P
use Rattle.driver.specs.declared.Record.{Record}
use Rattle.driver.specs.declared.Need.{Need}
use Rattle.driver.specs.declared.Need.TheVariants.{Met, Unmet}
use Rattle.driver.specs.declared.Answer.TheVariants.{Evaluate, Refused}
use Rattle.driver.specs.Calls.{step_to, in_phase, at_pass, at_stage, with_radius, take_first, take_callback, ask_pass, ask_stage, stage_need, by_need}
use Rattle.driver.specs.Calls.{begin_stages, take_pass, ask_candidate, take_stage, take_candidate, replied, whole_area, setting_of, Step}

-- the family of a record
abbrev pub its_family : Record → Family
its_family r = family_of r.family

-- every vector is as long as in its area
abbrev pub LongIn : Record → Vectors → Type 0
LongIn r v = Long (its_family r) r.n v

pub whole_pack : (f n : ℕ) (v : Vectors) → Long (family_of f) n v → whole_area f n (pack v) ≡ true
unfolding whole_area
whole_pack f n v h = eq-eqb (length (pack v)) (vector_count (family_of f) * n) (length_pack (family_of f) n v h)

pub long_area : (f n : ℕ) (area : List Float) → whole_area f n area ≡ true → Long (family_of f) n (unpack n area)
unfolding whole_area
long_area f n area h = long_unpack (family_of f) n area (eqb-true (length area) (vector_count (family_of f) * n) h)

pub pack_length : (f n : ℕ) (v : Vectors) (area : List Float) → Long (family_of f) n v → whole_area f n area ≡ true → length (pack v) ≡ length area
unfolding whole_area
pack_length f n v area lv hw = length_pack (family_of f) n v lv ∙ sym (eqb-true (length area) (vector_count (family_of f) * n) hw)

-- ---- a reply, by phase

need_long : (need : Need) (r : Record) (w : Vectors) (radius : Float) → LongIn r w → LongIn r (by_need need r w radius).vectors
unfolding by_need ask_stage at_stage with_radius
need_long (Met s) r w radius lw = long_first (its_family r) r.n r.arguments.step (recurrence (setting_of r) s).theta_previous w lw
need_long (Unmet i) r w radius lw = lw

pass_long : (t : Bool) (r r' : Record) (radius : Float) (w : Vectors) → r'.n ≡ r.n → LongIn r w
    → LongIn r (cond t (begin_stages r w radius) (ask_pass r' w)).vectors
unfolding begin_stages ask_pass
pass_long true r r' radius w e lw = need_long (stage_need (setting_of r) radius) r w radius lw
pass_long false r r' radius w e lw = rw e (long_perturbed (its_family r) r.n r'.iteration.perturbation w lw)

candidate_long : (r : Record) (w : Vectors) → LongIn r w → LongIn r (ask_candidate r w).vectors
unfolding ask_candidate
candidate_long r w lw = go (all_finite (w candidate))
  where
    asked : Step
    asked = step_to (Evaluate (r.arguments.time ⊕ r.arguments.step) (number candidate)) (in_phase P.Candidate r) w

    go : (t : Bool) → LongIn r (cond t asked (step_to (Refused 10) (in_phase P.Empty r) w)).vectors
    go true = lw
    go false = lw

stage_long : (t : Bool) (r r' : Record) (w x : Vectors) → Long (its_family r) r.n w → Long (its_family r) r.n x
    → Long (its_family r) r.n (cond t (ask_stage r' (exchanged w)) (ask_candidate r x)).vectors
unfolding ask_stage
stage_long true r r' w x lw lx = long_exchanged (its_family r) r.n w lw
stage_long false r r' w x lw lx = candidate_long r x lx

pub replied_long : (φ : Phase) (r : Record) (v : Vectors) (d : List Float) → LongIn r v → length d ≡ r.n → LongIn r (replied φ r v d).vectors
unfolding replied take_first take_callback take_pass take_stage take_candidate at_pass
replied_long P.Empty r v d lv hd = long_with (its_family r) r.n v first_derivative d lv hd
replied_long P.First r v d lv hd = long_with (its_family r) r.n v first_derivative d lv hd
replied_long P.Ready r v d lv hd = long_with (its_family r) r.n v first_derivative d lv hd
replied_long P.Pass r v d lv hd = let w = turned r.n v d in let i = r.iteration in let radius = radius_of i.perturbation w in
    pass_long (ended i.pass i.previous_radius radius || eqb i.pass 12) r (at_pass r.arguments (i.pass + 1) i.perturbation radius r)
    (scaled r.arguments.step radius) w refl (long_turned (its_family r) r.n v d lv hd)
replied_long P.Stage r v d lv hd =
    let m = setting_of r in
    let n = r.n in
    let h = r.arguments.step in
    let s = r.staging.stages in
    let j = r.staging.stage in
    let c = r.staging.recurrence in
    let row = coefficients m s j c in
    let w = with_row m n h row v d in
    let lw = long_row (its_family r) n (facts_of (kind m)).row h row v d lv hd in
    stage_long (ltb j s) r (at_stage s (j + 1) (next m c row) r) w (with_candidate m n h s c row w) lw (long_candidate (its_family r) n m h s c row w lw)
replied_long P.Candidate r v d lv hd = long_last (its_family r) r.n (setting_of r) r.arguments v d lv hd
replied_long P.Finished r v d lv hd = long_with (its_family r) r.n v first_derivative d lv hd
replied_long P.Callback r v d lv hd =
    long_with (its_family r) r.n (v with first_derivative ≔ d) eigenvector (replicate r.n nought)
    (long_with (its_family r) r.n v first_derivative d lv hd) (length-replicate r.n nought)

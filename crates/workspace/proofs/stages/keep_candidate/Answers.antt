use Rattle.std.proofs.Common.{◌≡◌, sym, ap, ◌∙◌, subst, ℕ, ◌+◌, ◌*◌, ◌≤◌, arith, Float}
use Rattle.family.specs.declared.Setting.{Setting}
use Rattle.family.specs.declared.Facts.{Facts}
use Rattle.family.specs.declared.CandidateForm.{CandidateForm}
use Rattle.family.specs.declared.CandidateForm.TheVariants.{WithOlder}
use Rattle.family.specs.declared.Family.{Family}
use Rattle.family.specs.Family.{facts_of, kind}
use Rattle.coefficients.specs.declared.Recurrence.{Recurrence}
use Rattle.coefficients.specs.declared.Coefficients.{Coefficients}
use Rattle.coefficients.specs.declared.Weights.{Weights}
use Rattle.workspace.specs.declared.Vector.{Vector}
use Rattle.workspace.specs.Vectors.{Vectors, number, vector_count, ◌with◌≔◌, each, unpack, candidate}
use Rattle.workspace.specs.Kernel.{candidate_in, combined_entry, mixed_entry, with_candidate}
use Rattle.workspace.proofs.Areas.{number_below, room, eleven, twelve, becomes_as}
use Rattle.workspace.proofs.stages.keep_candidate.Goals as goal

-- the family's form is the one that was matched
kept_in : (form : CandidateForm) (x : Facts) (m : Setting) (n : ℕ) (h : Float) (s : ℕ) (c : Recurrence) (row : Coefficients) (v : Vectors)
    → x ≡ facts_of (kind m) → x.candidate ≡ form → (v with candidate ≔ candidate_in form m n h s c row v) ≡ with_candidate m n h s c row v
unfolding with_candidate
kept_in form x m n h s c row v e k =
    ap (λ (f : CandidateForm). v with candidate ≔ candidate_in f m n h s c row v) (sym k ∙ ap (λ (y : Facts). y.candidate) e)

-- the older state lies within an area of twelve vectors
fits : (f : Family) (b : Vector) (n l : ℕ) → (facts_of f).candidate ≡ WithOlder → vector_count f * n ≤ l → (number b + 1) * n ≤ l
fits f b n l told h =
    let all : 12 * n ≤ l = subst (λ (k : ℕ). k * n ≤ l) (twelve f told) h in
    omega (arith, room 12 (number b) n (number_below b))

pub copy_vector-requires-clause-n_in_bounds : goal.copy_vector-requires-clause-n_in_bounds
copy_vector-requires-clause-n_in_bounds c = let e = eleven (kind c.args.setting) c.args.n in omega arith

pub copy_vector-requires-clause-n_in_bounds_2 : goal.copy_vector-requires-clause-n_in_bounds_2
copy_vector-requires-clause-n_in_bounds_2 c = let e = eleven (kind c.args.setting) c.args.n in (omega arith, omega arith)

pub combine-requires : goal.combine-requires
combine-requires c = let e = eleven (kind c.args.setting) c.args.n in omega arith

pub mix-requires-clause-n_in_bounds : goal.mix-requires-clause-n_in_bounds
mix-requires-clause-n_in_bounds c = let e = eleven (kind c.args.setting) c.args.n in omega arith

pub mix-requires-clause-n_in_bounds_2 : goal.mix-requires-clause-n_in_bounds_2
mix-requires-clause-n_in_bounds_2 c =
    let m = c.args.setting in
    let told = sym (ap (λ (y : Facts). y.candidate) c.facts.ensures) ∙ c.in-WithOlder.is in
    fits (kind m) _ c.args.n _ told c.requires

pub returns-in-LastStage : goal.returns-in-LastStage
unfolding candidate_in
returns-in-LastStage c =
    let x = c.args in
    becomes_as c.copy_vector.ensures
    (kept_in _ _ x.setting x.n x.step x.s x.c x.row (unpack x.n x.area.now) c.facts.ensures c.in-LastStage.is)

pub returns-in-Combined : goal.returns-in-Combined
unfolding candidate_in
returns-in-Combined c =
    let x = c.args in
    let v = unpack x.n x.area.now in
    becomes_as c.combine.ensures
    (ap (λ (w : Weights). v with candidate ≔ each x.n v (combined_entry x.step w)) c.candidate_weights.ensures
    ∙ kept_in _ _ x.setting x.n x.step x.s x.c x.row v c.facts.ensures c.in-Combined.is)

pub returns-in-WithOlder : goal.returns-in-WithOlder
unfolding candidate_in
returns-in-WithOlder c =
    let x = c.args in
    let v = unpack x.n x.area.now in
    becomes_as c.mix.ensures
    (ap (λ (b : Vector). v with candidate ≔ each x.n v (mixed_entry b x.c.polynomials.gain)) c.older_of.ensures
    ∙ kept_in _ _ x.setting x.n x.step x.s x.c x.row v c.facts.ensures c.in-WithOlder.is)

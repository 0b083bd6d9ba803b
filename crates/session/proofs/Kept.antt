-- The record keeps s, k and r until the next attempt: from a finished answer on, whatever calls follow that are no attempt that is taken, they are those of the
-- answer (`kept`). Its k and s are in their ranges (`told_in_range`). And a call that is turned away, with any number, leaves the three as they were
-- (`refusal_keeps`). From `position_stands` of driver, the outcomes of a call and `leaves`.
use mathlib.Core.Path.{◌≡◌, refl, sym, ap, ◌∙◌, subst}
use mathlib.Core.Bool.{Bool, true, false, cond, not}
use mathlib.Core.List.{List, [], ◌∷◌}
use mathlib.Core.Logic.{◌⊎◌, inl, inr}
use Prim.Native.Nat.{ℕ}
use borrow.Author.Tests.{not-true, leb-true}
use lib.Dec.{leb}
use Rattle.ieee.proofs.Logic.{yes, and_left, and_right}
use Rattle.family.specs.Family.{family_of, permitted}
use Rattle.workspace.specs.Vectors.{unpack}
use Rattle.driver.specs.declared.Phase.TheVariants as P
use Rattle.driver.specs.declared.Iteration.{Iteration}
use Rattle.driver.specs.declared.Staging.{Staging}
use Rattle.driver.specs.declared.Record.{Record}
use Rattle.driver.specs.declared.Figures.{Figures}
use Rattle.driver.specs.declared.Answer.TheVariants.{Finished, Refused}
use Rattle.driver.specs.Answers.{case_number}
use Rattle.driver.specs.Calls.{Held, in_phase, figures_after, figures_in, HoldsFigures, good_pass, Call, made, is_attempt, taken}
use Rattle.driver.specs.Numbers.{standing_numbers, ending_numbers}
use Rattle.driver.proofs.Ladder.{same_answer}
use Rattle.driver.proofs.Kept.{between, Stands, position_stands}
use Rattle.session.specs.Refusals.{◌∈◌, Left}
use Rattle.session.specs.Session.{taken_of, held_after}
use Rattle.session.specs.Concluded.{none_is, NoAttemptTaken, stages_of, passes_of, ToldInRange, ThreeStand}
use Rattle.session.proofs.Sequences.{left}
use Rattle.session.proofs.Leaves.{leaves}
use Rattle.session.proofs.Outcomes.{outcome}
use Rattle.session.proofs.Underway.{leaves_finished}

-- ---- calls that are no attempt

stands_still : (x : Held) → between x.kept.phase ≡ true → Stands x.kept x.kept
stands_still x b = record { iteration_stands = refl; staging_stands = refl; between_again = b }

then : {r s t : Record} → Stands r s → Stands s t → Stands r t
then a b = record {
  iteration_stands = b.iteration_stands ∙ a.iteration_stands;
  staging_stands = b.staging_stands ∙ a.staging_stands;
  between_again = b.between_again;
}

stands_after : (x : Held) (cs : List Call) → between x.kept.phase ≡ true → NoAttemptTaken x cs → Stands x.kept (held_after x cs).kept
unfolding taken_of held_after none_is
stands_after x [] b none = stands_still x b
stands_after x (c ∷ cs) b none = go (λ on more. stands_after (made x c).held cs on more) (taken (made x c).answer) refl none
  where
    y : Held
    y = (made x c).held

    go : (between y.kept.phase ≡ true → NoAttemptTaken y cs → Stands y.kept (held_after y cs).kept)
        → (t : Bool) → taken (made x c).answer ≡ t → none_is is_attempt (cond t (c ∷ taken_of y cs) (taken_of y cs)) ≡ true
        → Stands x.kept (held_after y cs).kept
    go rest true e all =
        let other = not-true (is_attempt c) (and_left (not (is_attempt c)) (none_is is_attempt (taken_of y cs)) all) in
        let on = position_stands x b c other in
        then on (rest on.between_again (and_right (not (is_attempt c)) (none_is is_attempt (taken_of y cs)) all))
    go rest false e all =
        let on : Stands x.kept y.kept = subst (λ (z : Held). Stands x.kept z.kept) (sym (left x c e)) (stands_still x b) in
        then on (rest on.between_again all)

-- For every record, counters and area: whatever call is answered "finished", and whatever calls follow.
pub kept : (h : Held) (c : Call) (told : Figures) (cs : List Call) → (made h c).answer ≡ Finished told
    → NoAttemptTaken (made h c).held cs → HoldsFigures told (held_after (made h c).held cs).kept
unfolding case_number figures_in between
kept h c told cs e none =
    let x = made h c in
    let z = leaves_finished h c x (outcome h c) (ap case_number e) in
    let is : figures_after x.held.kept (unpack x.held.kept.n x.held.area) ≡ told = ap figures_in (sym z.figures_are ∙ e) in
    let s = stands_after x.held cs (ap between z.phase_is) none in record {
      stages_held = ap (λ (g : Staging). g.stages) s.staging_stands ∙ ap (λ (f : Figures). f.stages) is;
      passes_held = ap (λ (i : Iteration). i.pass) s.iteration_stands ∙ ap (λ (f : Figures). f.passes) is;
      radius_held = ap (λ (i : Iteration). i.scaled_radius) s.iteration_stands ∙ ap (λ (f : Figures). f.scaled_radius) is;
    }

-- And for every record: the k and s of a finished answer are in their ranges, since test 4 asks for them where the candidate's derivative is awaited.
pub told_in_range : (h : Held) (c : Call) (told : Figures) → (made h c).answer ≡ Finished told → ToldInRange told (made h c).held
unfolding case_number figures_in
told_in_range h c told e =
    let x = made h c in
    let k = passes_of x.held in
    let z = leaves_finished h c x (outcome h c) (ap case_number e) in
    let is : figures_after x.held.kept (unpack x.held.kept.n x.held.area) ≡ told = ap figures_in (sym z.figures_are ∙ e) in
    let permits = permitted (family_of x.held.kept.family) (stages_of x.held) in
    let pass = and_left (good_pass k) permits z.told_in_range in
    subst (λ (f : Figures). ToldInRange f x.held) is (record {
      one_pass = leb-true 1 k (and_left (leb 1 k) (leb k 12) pass);
      twelve_passes = leb-true k 12 (and_right (leb 1 k) (leb k 12) pass);
      stages_permitted = yes (and_right (good_pass k) permits z.told_in_range);
    })

-- ---- a call that is turned away

as_before : (h x : Held) → x ≡ h → ThreeStand h x
as_before h x e = record {
  stages_stand = ap (λ (z : Held). z.kept.staging.stages) e;
  passes_stand = ap (λ (z : Held). z.kept.iteration.pass) e;
  radius_stands = ap (λ (z : Held). z.kept.iteration.scaled_radius) e;
}

emptied : (h x : Held) → x.kept ≡ in_phase P.Empty h.kept → ThreeStand h x
unfolding in_phase
emptied h x e = record {
  stages_stand = ap (λ (r : Record). r.staging.stages) e;
  passes_stand = ap (λ (r : Record). r.iteration.pass) e;
  radius_stands = ap (λ (r : Record). r.iteration.scaled_radius) e;
}

pub refusal_keeps : (h : Held) (c : Call) (i : ℕ) → (made h c).answer ≡ Refused i → ThreeStand h (made h c).held
refusal_keeps h c i e = go (leaves h c i (same_answer e)).kind
  where
    l : Left h i (made h c).held
    l = leaves h c i (same_answer e)

    go : (i ∈ standing_numbers) ⊎ (i ∈ ending_numbers) → ThreeStand h (made h c).held
    go (inl standing) = as_before h (made h c).held (l.all_stands standing)
    go (inr ending) = emptied h (made h c).held (l.record_is ending)

-- The five lists with one minute more: an entry more in each, and if that minute is refused, no attempt is told of it. From their definitions alone.
use mathlib.Core.Path.{◌≡◌, refl, sym, ap, ◌∙◌}
use mathlib.Core.Bool.{Bool, true, false}
use mathlib.Core.List.{[], ◌∷◌}
use Prim.Native.Nat.{ℕ, ◌+◌, ◌<◌}
use native.Mathlib.Omega.{arith}
use borrow.Author.Tests.{ltb-true, ltb-false, eqb-true, eqb-false}
use lib.Dec.{ltb, eqb}
use lib.ListN.{get_or, length-append, get_or-append, get_or-eq_default}
use lib.Seq.{get_or_at}
use lib.Ieee.{Float, nan}
use Rattle.driver.specs.declared.Figures.{Figures}
use Rattle.driver.specs.declared.Answer.{Answer}
use Rattle.driver.specs.declared.Answer.TheVariants.{Evaluate, Finished, Ready, Refused, Empty}
use Rattle.driver.specs.Calls.{no_figures, figures_in}
use Rattle.inverter.specs.Day.{refusal, Minutes, Entries, longer}
use Rattle.accounts.specs.Accounts.{Untold, RefusedUntold}

-- a refused answer tells no attempt
pub refused_answer : (a : Answer) → (refusal a ≡ 0 → ⊥) → figures_in a ≡ no_figures
unfolding refusal figures_in
refused_answer (Evaluate time vector) some = refl
refused_answer (Finished figures) some = absurd (some refl)
refused_answer Ready some = refl
refused_answer (Refused number) some = refl
refused_answer Empty some = refl

module _ (l : Minutes) (number : ℕ) (temperature : Float) (f : Figures) (k : ℕ) (e : Entries k l) where
  pub longer_entries : Entries (k + 1) (longer l number temperature f)
  unfolding longer
  longer_entries =
      record {
        a_number_each = omega (arith, length-append l.refusals (number ∷ []), e.a_number_each);
        a_junction_each = omega (arith, length-append l.junctions (temperature ∷ []), e.a_junction_each);
        stages_each = omega (arith, length-append l.stages (f.stages ∷ []), e.stages_each);
        passes_each = omega (arith, length-append l.passes (f.passes ∷ []), e.passes_each);
        a_radius_each = omega (arith, length-append l.scaled_radii (f.scaled_radius ∷ []), e.a_radius_each);
      }

  -- a minute before
  before : RefusedUntold l → (i : ℕ) → i < k → (get_or (longer l number temperature f).refusals i 0 ≡ 0 → ⊥) → Untold (longer l number temperature f) i
  unfolding longer
  before all i h some =
      let u = all i (λ z. some (get_or-append l.refusals (number ∷ []) 0 i (omega (arith, e.a_number_each)) ∙ z)) in
      record {
        no_stages = get_or-append l.stages (f.stages ∷ []) 0 i (omega (arith, e.stages_each)) ∙ u.no_stages;
        no_passes = get_or-append l.passes (f.passes ∷ []) 0 i (omega (arith, e.passes_each)) ∙ u.no_passes;
        no_radius = get_or-append l.scaled_radii (f.scaled_radius ∷ []) nan i (omega (arith, e.a_radius_each)) ∙ u.no_radius;
      }

  -- the minute itself
  itself : ((number ≡ 0 → ⊥) → f ≡ no_figures) → (i : ℕ) → i ≡ k → (get_or (longer l number temperature f).refusals i 0 ≡ 0 → ⊥)
      → Untold (longer l number temperature f) i
  unfolding longer
  itself none i h some =
      let q = none (λ z. some (get_or_at l.refusals number [] 0 i (e.a_number_each ∙ sym h) ∙ z)) in
      record {
        no_stages = get_or_at l.stages f.stages [] 0 i (e.stages_each ∙ sym h) ∙ ap (λ (x : Figures). x.stages) q;
        no_passes = get_or_at l.passes f.passes [] 0 i (e.passes_each ∙ sym h) ∙ ap (λ (x : Figures). x.passes) q;
        no_radius = get_or_at l.scaled_radii f.scaled_radius [] nan i (e.a_radius_each ∙ sym h) ∙ ap (λ (x : Figures). x.scaled_radius) q;
      }

  -- no other has a number
  beyond : (i : ℕ) → k < i → get_or (longer l number temperature f).refusals i 0 ≡ 0
  beyond i h = get_or-eq_default (longer l number temperature f).refusals 0 (omega (arith, longer_entries.a_number_each))

  pub longer_untold : ((number ≡ 0 → ⊥) → f ≡ no_figures) → RefusedUntold l → RefusedUntold (longer l number temperature f)
  longer_untold none all i some = go (ltb i k) refl (eqb i k) refl
    where
      go : (b : Bool) → ltb i k ≡ b → (c : Bool) → eqb i k ≡ c → Untold (longer l number temperature f) i
      go true p c q = before all i (ltb-true i k p) some
      go false p true q = itself none i (eqb-true i k q) some
      go false p false q = absurd (some (beyond i (let other = eqb-false i k q in omega (arith, ltb-false i k p, other))))

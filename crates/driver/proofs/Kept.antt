-- The step that finishes an attempt tells the s, k and r that it leaves in the record (`told_left`). Where no attempt is under way, a call that is no attempt
-- leaves the position among the passes and among the stages, and so the three, and then again none is under way (`position_stands`). From the definitions.
use mathlib.Core.Path.{◌≡◌, refl, sym}
use mathlib.Core.Bool.{Bool, true, false, cond, false≢true}
use mathlib.Core.List.{List}
use lib.Ieee.{Float}
use Rattle.workspace.specs.Vectors.{Vectors, unpack, all_finite}
use Rattle.driver.specs.declared.Phase.{Phase}
use Rattle.driver.specs.declared.Phase.TheVariants as P
use Rattle.driver.specs.declared.Record.{Record}
use Rattle.driver.specs.Calls.{Held, Called, Test, guarded, in_phase, first_at, figures_in, HoldsFigures, take_first, take_callback}
use Rattle.driver.specs.Calls.{take_candidate, replied, going_on, settled, spoiled}
use Rattle.driver.specs.Calls.{start_tests, reply_tests, accept_tests, callback_tests, abandon_tests, start, reply, accepted, accept, called_back}
use Rattle.driver.specs.Calls.{accept_with_callback, abandon, Call, Start, Attempt, Reply, Accept, AcceptWithCallback, Abandon, made, is_attempt}
use Rattle.driver.proofs.Ladder.{by_tests}

pub told_left : (r : Record) (v : Vectors) (d : List Float) → HoldsFigures (figures_in (take_candidate r v d).answer) (take_candidate r v d).kept
unfolding figures_in take_candidate in_phase
told_left r v d = record { stages_held = refl; passes_held = refl; radius_held = refl }

-- the phases in which no attempt is under way
unfoldable pub between : Phase → Bool
between P.Empty = true
between P.First = true
between P.Ready = true
between P.Pass = false
between P.Stage = false
between P.Candidate = false
between P.Finished = true
between P.Callback = true

pub record Stands (before after : Record) : Type 0 where
  pub iteration_stands : after.iteration ≡ before.iteration
  pub staging_stands : after.staging ≡ before.staging
  pub between_again : between after.phase ≡ true

module _ (h : Held) (b : between h.kept.phase ≡ true) where
  abbrev StandsIn : Called → Type 0
  StandsIn x = Stands h.kept x.held.kept

  -- past its tests, or turned away, where all stands
  tested : (ts : List Test) (go : Called) → StandsIn go → StandsIn (guarded h ts go)
  tested ts go on = by_tests StandsIn h ts go (λ _. on) (λ k e. record { iteration_stands = refl; staging_stands = refl; between_again = b })

  on_reply : (φ : Phase) → between φ ≡ true → (v : Vectors) (d : List Float) → StandsIn (settled h.counters (replied φ h.kept v d))
  unfolding between replied take_first take_callback settled going_on in_phase
  on_reply P.Empty e v d = record { iteration_stands = refl; staging_stands = refl; between_again = refl }
  on_reply P.First e v d = record { iteration_stands = refl; staging_stands = refl; between_again = refl }
  on_reply P.Ready e v d = record { iteration_stands = refl; staging_stands = refl; between_again = refl }
  on_reply P.Pass e v d = absurd (false≢true e)
  on_reply P.Stage e v d = absurd (false≢true e)
  on_reply P.Candidate e v d = absurd (false≢true e)
  on_reply P.Finished e v d = record { iteration_stands = refl; staging_stands = refl; between_again = refl }
  on_reply P.Callback e v d = record { iteration_stands = refl; staging_stands = refl; between_again = refl }

  replied_stands : (d : List Float) → StandsIn (reply h d)
  unfolding reply spoiled in_phase between
  replied_stands d = tested (reply_tests h.kept h.counters h.area d) _ (go (all_finite d))
    where
      v : Vectors
      v = unpack h.kept.n h.area

      go : (t : Bool) → StandsIn (cond t (settled h.counters (replied h.kept.phase h.kept v d)) (spoiled h))
      go true = on_reply h.kept.phase b v d
      go false = record { iteration_stands = refl; staging_stands = refl; between_again = refl }

  pub position_stands : (c : Call) → is_attempt c ≡ false → StandsIn (made h c)
  unfolding made is_attempt start accept accept_with_callback abandon accepted called_back going_on first_at in_phase between
  position_stands (Start f n y t) e =
      tested (start_tests f n h.area y t) _ (record { iteration_stands = refl; staging_stands = refl; between_again = refl })
  position_stands (Attempt a) e = absurd (false≢true (sym e))
  position_stands (Reply d) e = replied_stands d
  position_stands Accept e = tested (accept_tests h.kept h.area) _ (record { iteration_stands = refl; staging_stands = refl; between_again = refl })
  position_stands (AcceptWithCallback y t) e =
      tested (callback_tests h.kept h.area y t) _ (record { iteration_stands = refl; staging_stands = refl; between_again = refl })
  position_stands Abandon e = tested (abandon_tests h.kept h.area) _ (record { iteration_stands = refl; staging_stands = refl; between_again = refl })

-- After a finished attempt: a further attempt without any call between, as after a rejection, and an accept.
use mathlib.Core.Path.{◌≡◌, ap}
use mathlib.Core.Bool.{true}
use Prim.Native.Nat.{ℕ}
use Rattle.family.specs.Family.{known}
use Rattle.workspace.specs.Vectors.{unpack}
use Rattle.workspace.specs.declared.Arguments.{Arguments}
use Rattle.driver.specs.Calls.{Held, Called, accepted, sized, whole_area, may_attempt, may_accept, good_times, good_tolerances, going_on, accept}
use Rattle.driver.specs.Calls.{first_failing, decide, guarded, accept_tests}
use Rattle.session.specs.Attempt.{FinishedAttempt}
use Rattle.session.specs.Claim.{Allowed, Finishes}
use Rattle.workspace.proofs.Areas.{unpack_pack}
use Rattle.session.proofs.Lengths.{its_family, whole_pack}

module _ (h : Held) (a : Arguments) (p : Allowed h a) (o : FinishedAttempt) (replies : ℕ) (x : Called) (f : Finishes h a o replies x) where
  family_known : known x.held.kept.family ≡ true
  family_known = rw f.family_is p.family_known

  n_sized : sized x.held.kept.n ≡ true
  n_sized = rw f.n_is p.n_sized

  area_whole : whole_area x.held.kept.family x.held.kept.n x.held.area ≡ true
  area_whole = rw (f.family_is, f.n_is, f.area_is) (whole_pack h.kept.family h.kept.n o.vectors f.vectors_long)

  -- the area holds the vectors of the finished attempt
  pub vectors_are : unpack x.held.kept.n x.held.area ≡ o.vectors
  vectors_are = rw (f.n_is, f.area_is) (unpack_pack (its_family h.kept) h.kept.n o.vectors f.vectors_long)

  -- the next attempt is allowed, from the same state and first derivative (`state_stands`, `first_stands`)
  pub again : (a' : Arguments) → good_times a' ≡ true → good_tolerances a' ≡ true → Allowed x.held a'
  unfolding may_attempt
  again a' t s = record {
    family_known = family_known;
    n_sized = n_sized;
    area_whole = area_whole;
    phase_allows = ap may_attempt f.phase_is;
    times_good = t;
    tolerances_good = s;
  }

  -- accept goes through: the last derivative becomes the first, the candidate the kept state
  pub accepts : accept x.held ≡ going_on x.held.counters (accepted x.held.kept o.vectors)
  unfolding accept accept_tests guarded decide first_failing may_accept
  accepts = rw (family_known, n_sized, area_whole, f.phase_is, vectors_are)

-- Calls that are not taken may be left out of any list of calls: the others show the same and leave the same. So what is proved of an attempt and
-- its replies holds with such calls among them.
use mathlib.Core.Path.{◌≡◌, refl, sym, ap, ◌∙◌}
use mathlib.Core.Bool.{Bool, true, false, cond}
use mathlib.Core.List.{List, [], ◌∷◌}
use Rattle.driver.specs.Calls.{Held, Call, made, taken}
use Rattle.session.specs.Session.{Seen, call_seen, seen_of, taken_of, held_after}
use Rattle.session.proofs.Sequences.{left}

pub skipped : (h : Held) (cs : List Call) → (seen_of h (taken_of h cs) ≡ seen_of h cs) × (held_after h (taken_of h cs) ≡ held_after h cs)
unfolding seen_of taken_of held_after
skipped h [] = (refl, refl)
skipped h (c ∷ cs) = go (skipped (made h c).held cs) (taken (made h c).answer) refl
  where
    h' : Held
    h' = (made h c).held

    rest : List Call
    rest = taken_of h' cs

    go : (seen_of h' rest ≡ seen_of h' cs) × (held_after h' rest ≡ held_after h' cs) → (t : Bool) → taken (made h c).answer ≡ t
        → (seen_of h (cond t (c ∷ rest) rest) ≡ cond t (call_seen (made h c) ∷ seen_of h' cs) (seen_of h' cs))
        × (held_after h (cond t (c ∷ rest) rest) ≡ held_after h' cs)
    go on true q = (rw q (ap (λ (ss : List Seen). call_seen (made h c) ∷ ss) on.0), on.1)
    go on false q = let same = left h c q in (ap (λ (k : Held). seen_of k rest) (sym same) ∙ on.0, ap (λ (k : Held). held_after k rest) (sym same) ∙ on.1)

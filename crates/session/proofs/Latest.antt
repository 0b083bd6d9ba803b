-- After any calls the family and the n of the record are those of the latest start that was taken. From the outcomes of a call.
use mathlib.Core.Path.{◌≡◌, refl, sym, ap, ◌∙◌}
use mathlib.Core.Bool.{Bool, true, false, cond}
use mathlib.Core.List.{List, [], ◌∷◌, ◌++◌}
use Prim.Native.Nat.{ℕ}
use lib.Ieee.{Float}
use Rattle.driver.specs.Calls.{Held, Called, first_at, Call, Start, Attempt, Reply, Accept, AcceptWithCallback, Abandon, made, taken, is_start}
use Rattle.session.specs.Session.{taken_of, held_after}
use Rattle.session.specs.Concluded.{taken_since, none_is, LatestStart}
use Rattle.session.proofs.Truth.{differ, both}
use Rattle.session.proofs.Later.{none_append, last, further, taken_further}
use Rattle.session.proofs.Outcomes.{Outcome, away, starts}
use Rattle.session.proofs.Underway.{stays}

-- after these calls from h on x is held
pub record Started (h : Held) (calls : List Call) (x : Held) : Type 0 where
  pub latest : LatestStart h calls
  pub family_is : x.kept.family ≡ latest.family
  pub n_is : x.kept.n ≡ latest.n

no_start_if : (t : Bool) (c : Call) → is_start c ≡ false → none_is is_start (cond t (c ∷ []) []) ≡ true
unfolding none_is
no_start_if true c e = rw e refl
no_start_if false c e = refl

-- a start that is taken is the latest
pub starts_now : (h : Held) (calls : List Call) (f n : ℕ) (y : List Float) (t : Float) (x : Called) → made (held_after h calls) (Start f n y t) ≡ x
    → Outcome (held_after h calls) (Start f n y t) x → taken x.answer ≡ true → Started h (calls ++ Start f n y t ∷ []) x.held
unfolding taken_of none_is first_at
starts_now h calls f n y t x is (away i e) q = absurd (differ (sym e ∙ q))
starts_now h calls f n y t x is (starts area) q = record {
  latest = record { family = f; n = n; state = y; time = t; among = last h calls (Start f n y t) x is q; none_since = refl };
  family_is = refl;
  n_is = refl;
}

-- one more call, of which x is the answer and what it leaves
module _ (h : Held) (calls : List Call) (s : Started h calls (held_after h calls)) where
  abbrev g : Held
  g = held_after h calls

  -- the latest start stays so
  carried : (c : Call) (x : Called) → made g c ≡ x → none_is is_start (cond (taken x.answer) (c ∷ []) []) ≡ true → x.held.kept.family ≡ g.kept.family
      → x.held.kept.n ≡ g.kept.n → Started h (calls ++ c ∷ []) x.held
  carried c x is none family n = let l = s.latest in
      let b = Start l.family l.n l.state l.time in
      let more = none_append is_start (taken_since l.among) (cond (taken x.answer) (c ∷ []) []) in record {
        latest = record {
          family = l.family;
          n = l.n;
          state = l.state;
          time = l.time;
          among = further h calls c x is b l.among;
          none_since = ap (none_is is_start) (taken_further h calls c x is b l.among) ∙ more ∙ both l.none_since none;
        };
        family_is = family ∙ s.family_is;
        n_is = n ∙ s.n_is;
      }

  other : (c : Call) (x : Called) → made g c ≡ x → is_start c ≡ false → Outcome g c x → Started h (calls ++ c ∷ []) x.held
  other c x is e o = let same = stays g c x o e in carried c x is (no_start_if (taken x.answer) c e) same.0 same.1

  pub started_on : (c : Call) (x : Called) → made g c ≡ x → Outcome g c x → Started h (calls ++ c ∷ []) x.held
  unfolding none_is is_start taken
  started_on (Start f n y t) x is (away i e) = carried (Start f n y t) x is (ap (λ (b : Bool). none_is is_start (cond b (Start f n y t ∷ []) [])) e) refl refl
  started_on (Start f n y t) x is (starts area) = starts_now h calls f n y t x is (starts area) refl
  started_on (Attempt a) x is o = other (Attempt a) x is refl o
  started_on (Reply d) x is o = other (Reply d) x is refl o
  started_on Accept x is o = other Accept x is refl o
  started_on (AcceptWithCallback y t) x is o = other (AcceptWithCallback y t) x is refl o
  started_on Abandon x is o = other Abandon x is refl o

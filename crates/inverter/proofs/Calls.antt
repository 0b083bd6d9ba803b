-- The calls of a minute, one after another, by their definitions. Assumes nothing.
use mathlib.Core.Path.{◌≡◌, refl, sym, ap, subst, ◌∙◌}
use mathlib.Core.Bool.{true, false, false≢true}
use Prim.Native.Nat.{ℕ, zero, suc, ◌+◌, ◌-◌, ◌<◌}
use native.Mathlib.Omega.{arith}
use lib.Ieee.{Float}
use lib.Ieee.Scale.{finite}
use Rattle.workspace.specs.Vectors.{named, unpack, state}
use Rattle.driver.specs.declared.Answer.{Answer}
use Rattle.driver.specs.declared.Answer.TheVariants.{Evaluate, Finished, Ready, Refused, Empty}
use Rattle.driver.specs.Calls.{Held, Called, may_accept, start, attempt, reply, accept}
use Rattle.heat_sink.specs.declared.Inverter.{Inverter}
use Rattle.heat_sink.specs.Model.{rates}
use Rattle.inverter.specs.Day.{time_of, arguments, called, begun, reading_at, go_on, next, driven, passed, whole_minute, asked, asks_no_call}

pub asked_vector : {a : Answer} {time : Float} {vector : ℕ} → a ≡ Evaluate time vector → asked a < 11 → vector < 11
unfolding asked
asked_vector e h = subst (λ (k : ℕ). k < 11) (ap asked e) h

pub no_call_else : (a : Answer) → ((time : Float) (vector : ℕ) → a ≡ Evaluate time vector → ⊥) → (a ≡ Ready → ⊥) → asks_no_call a ≡ true
unfolding asks_no_call
no_call_else (Evaluate time vector) e r = absurd (e time vector refl)
no_call_else (Finished figures) e r = refl
no_call_else Ready e r = absurd (r refl)
no_call_else (Refused number) e r = refl
no_call_else Empty e r = refl

-- ---- the first call

module _ (m : Inverter) (minute : ℕ) (h : Held) where
  pub accepted : may_accept h.kept.phase ≡ true → accept h ≡ begun m minute h
  unfolding begun
  accepted e = simp e

  pub started : may_accept h.kept.phase ≡ false → start h m.family m.n (unpack m.n h.area state) (time_of minute) ≡ begun m minute h
  unfolding begun
  started e = simp e

-- ---- the calls that follow

module _ (m : Inverter) (minute : ℕ) (reading upcoming : Float) where
  pub next_reply : {a : Answer} {time : Float} {vector : ℕ} (h : Held) → a ≡ Evaluate time vector
      → reply h (rates m (unpack m.n h.area (named vector)) (reading_at reading upcoming vector)) ≡ next m minute reading upcoming (called a h)
  unfolding next go_on
  next_reply h e = ap (λ (x : Answer). go_on m minute reading upcoming x h) (sym e)

  pub next_attempt : {a : Answer} (h : Held) → a ≡ Ready → attempt h (arguments minute) ≡ next m minute reading upcoming (called a h)
  unfolding next go_on
  next_attempt h e = ap (λ (x : Answer). go_on m minute reading upcoming x h) (sym e)

  stays : (a : Answer) (h : Held) → asks_no_call a ≡ true → go_on m minute reading upcoming a h ≡ called a h
  unfolding go_on asks_no_call
  stays (Evaluate time vector) h e = absurd (false≢true e)
  stays (Finished figures) h e = refl
  stays Ready h e = absurd (false≢true e)
  stays (Refused number) h e = refl
  stays Empty h e = refl

  pub next_stays : (c : Called) → asks_no_call c.answer ≡ true → next m minute reading upcoming c ≡ c
  unfolding next
  next_stays c e = stays c.answer c.held e

  pub driven_stays : (k : ℕ) (c : Called) → asks_no_call c.answer ≡ true → driven m minute reading upcoming k c ≡ c
  unfolding driven
  driven_stays zero c e = refl
  driven_stays (suc k) c e = ap (driven m minute reading upcoming k) (next_stays c e) ∙ driven_stays k c e

  pub driven_none : (c : Called) → driven m minute reading upcoming 0 c ≡ c
  unfolding driven
  driven_none c = refl

  pub driven_turn : (k i : ℕ) (c : Called) → i < k → driven m minute reading upcoming (k - i) c
      ≡ driven m minute reading upcoming (k - (i + 1)) (next m minute reading upcoming c)
  unfolding driven
  driven_turn k i c h = let e : k - i ≡ suc (k - (i + 1)) = omega arith in
      ap (λ (j : ℕ). driven m minute reading upcoming j c) e

  -- ---- a minute

  pub minute_finite : (h : Held) → finite reading ≡ true → passed m minute reading upcoming h ≡ whole_minute m minute reading upcoming h
  unfolding whole_minute
  minute_finite h e = simp e

  pub minute_not_finite : (h : Held) → finite reading ≡ false → called (Refused 9) h ≡ whole_minute m minute reading upcoming h
  unfolding whole_minute
  minute_not_finite h e = simp e

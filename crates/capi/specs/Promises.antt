-- The promises of the calls for C: answer, record and area are those of the definition, handed what the record means. `before` is the record as it was lent,
-- `given` the answer with the record as it was left (lent/specs/Lent).
use Rattle.std.specs.Prelude.{ℕ, ◌≡◌, List, Float}
use Rattle.driver.specs.declared.Counters.{Counters}
use Rattle.driver.specs.Calls.{Held, Called, reply}
use Rattle.driver.specs.Promises.{holding}
use Rattle.lent.specs.Numbers.{Record, Answered, meaning, in_numbers, handed_back}

-- what a call hands back and leaves, `adaptive` being the number that it brings or finds
pub record MeetsLent (before : Record) (adaptive : ℕ) (promised : Called) (given : Answered) (c : Counters) (left : List Float) : Type 0 where
  pub outcome_is : given ≡ handed_back before adaptive (in_numbers promised.answer) promised.held.kept
  pub counters_are : c ≡ promised.held.counters
  pub area_is : left ≡ promised.held.area

abbrev pub counting : ℕ → ℕ → Counters
counting evaluations finished = record { evaluations = evaluations; finished_attempts = finished }

-- a call that is lent no counters: whatever they are, they stand
abbrev pub KeepsLent : Record → ℕ → (Held → Called) → List Float → Answered → List Float → Type 0
KeepsLent before adaptive call area given left = (c : Counters) → MeetsLent before adaptive (call (holding (meaning before) c area)) given c left

-- and that brings no number for `adaptive`: the one that it finds stands
abbrev pub KeepsAsFound : Record → (Held → Called) → List Float → Answered → List Float → Type 0
KeepsAsFound before = KeepsLent before before.arguments.adaptive

-- a reply, which finds its number for `adaptive` too, and counts
abbrev pub Replies : Record → Counters → List Float → List Float → Answered → Counters → List Float → Type 0
Replies before c area derivative = MeetsLent before before.arguments.adaptive (reply (holding (meaning before) c area) derivative)

-- A list of calls with one more at its end: what is held, which calls are taken and how they are answered, and where a call among them stands then.
-- From the definitions alone.
use mathlib.Core.Path.{◌≡◌, refl, sym, ap, ◌∙◌}
use mathlib.Core.Bool.{Bool, true, false, cond, not, ◌&&◌}
use mathlib.Core.List.{List, [], ◌∷◌, ◌++◌, append_assoc}
use Prim.Native.Nat.{ℕ}
use Rattle.driver.specs.Answers.{case_number}
use Rattle.driver.specs.Calls.{Held, Called, Call, made, taken}
use Rattle.session.specs.Session.{taken_of, held_after}
use Rattle.session.specs.Concluded.{TakenAmong, found, taken_since, cases_of, cases_since, none_is}

-- ---- two lists, one after the other

pub held_append : (h : Held) (cs ds : List Call) → held_after h (cs ++ ds) ≡ held_after (held_after h cs) ds
unfolding held_after
held_append h [] ds = refl
held_append h (c ∷ cs) ds = held_append (made h c).held cs ds

cond_append : {A : Type 0} (t : Bool) (x : A) (xs ys : List A) → cond t (x ∷ (xs ++ ys)) (xs ++ ys) ≡ cond t (x ∷ xs) xs ++ ys
cond_append true x xs ys = refl
cond_append false x xs ys = refl

taken_append : (h : Held) (cs ds : List Call) → taken_of h (cs ++ ds) ≡ taken_of h cs ++ taken_of (held_after h cs) ds
unfolding taken_of held_after
taken_append h [] ds = refl
taken_append h (c ∷ cs) ds =
    let t = taken (made h c).answer in
    ap (λ (rest : List Call). cond t (c ∷ rest) rest) (taken_append (made h c).held cs ds)
    ∙ cond_append t c (taken_of (made h c).held cs) (taken_of (held_after (made h c).held cs) ds)

cases_append : (h : Held) (cs ds : List Call) → cases_of h (cs ++ ds) ≡ cases_of h cs ++ cases_of (held_after h cs) ds
unfolding cases_of held_after
cases_append h [] ds = refl
cases_append h (c ∷ cs) ds =
    let t = taken (made h c).answer in
    let k = case_number (made h c).answer in
    ap (λ (rest : List ℕ). cond t (k ∷ rest) rest) (cases_append (made h c).held cs ds)
    ∙ cond_append t k (cases_of (made h c).held cs) (cases_of (held_after (made h c).held cs) ds)

pub none_append : (kind : Call → Bool) (cs ds : List Call) → none_is kind (cs ++ ds) ≡ none_is kind cs && none_is kind ds
unfolding none_is
none_append kind [] ds = refl
none_append kind (c ∷ cs) ds = go (not (kind c)) (none_append kind cs ds)
  where
    go : (t : Bool) → none_is kind (cs ++ ds) ≡ none_is kind cs && none_is kind ds → t && none_is kind (cs ++ ds) ≡ t && none_is kind cs && none_is kind ds
    go true e = e
    go false e = refl

-- ---- one more call, of which x is the answer and what it leaves

module _ (h : Held) (calls : List Call) (c : Call) (x : Called) (is : made (held_after h calls) c ≡ x) where
  -- it is the last of them
  abbrev pub last : taken x.answer ≡ true → TakenAmong h (calls ++ c ∷ []) c
  last q = record { before = calls; since = []; calls_are = refl; is_taken = ap (λ (x : Called). taken x.answer) is ∙ q }

  module _ (b : Call) (m : TakenAmong h calls b) where
    -- one that was among them is so still
    abbrev pub further : TakenAmong h (calls ++ c ∷ []) b
    further = record {
      before = m.before;
      since = m.since ++ c ∷ [];
      calls_are = ap (λ (cs : List Call). cs ++ c ∷ []) m.calls_are ∙ append_assoc m.before (b ∷ m.since) (c ∷ []);
      is_taken = m.is_taken;
    }

    -- what the calls since leave is what all of them leave
    held_since : held_after (made (found m) b).held m.since ≡ held_after h calls
    unfolding held_after
    held_since = sym (ap (held_after h) m.calls_are ∙ held_append h m.before (b ∷ m.since))

    pub taken_further : taken_since further ≡ taken_since m ++ cond (taken x.answer) (c ∷ []) []
    unfolding taken_of
    taken_further =
        taken_append (made (found m) b).held m.since (c ∷ [])
        ∙ ap (λ (g : Held). taken_since m ++ taken_of g (c ∷ [])) held_since
        ∙ ap (λ (x : Called). taken_since m ++ cond (taken x.answer) (c ∷ []) []) is

    pub cases_further : cases_since further ≡ cases_since m ++ cond (taken x.answer) (case_number x.answer ∷ []) []
    unfolding cases_of
    cases_further =
        cases_append (made (found m) b).held m.since (c ∷ [])
        ∙ ap (λ (g : Held). cases_since m ++ cases_of g (c ∷ [])) held_since
        ∙ ap (λ (x : Called). cases_since m ++ cond (taken x.answer) (case_number x.answer ∷ []) []) is

-- A table of doubles read at an index is the double of the bits read there: the law over a const of the code and its bits in
-- specs/. From the law of a list mapped.
use Rattle.std.specs.Prelude.{◌≡◌, ◌<◌, ℕ, List, length, map, get_or}
use Rattle.std.specs.Float.{Float, nan, binary64}
use Rattle.std.specs.Float.Ieee.{of_bits}
use Rattle.std.proofs.Common.{◌∙◌, ap}
use Rattle.std.proofs.lemmas.List.{get_or-map}

abbrev pub doubles : List ℕ → List Float
doubles l = map (of_bits binary64) l

-- the code's index j is the definition's, i
pub read_at : (l : List ℕ) (j i : ℕ) → j ≡ i → i < length l → get_or (doubles l) j nan ≡ of_bits binary64 (get_or l i 0)
read_at l j i e h = ap (λ (k : ℕ). get_or (doubles l) k nan) e ∙ get_or-map (of_bits binary64) l i 0 nan h

-- Numbers as text, byte after byte, by their digits. Definitions only.
use Rattle.std.specs.Prelude.{ℕ, zero, suc, ◌+◌, ◌/◌, ◌%◌, cond, List, [], ◌∷◌, ◌++◌, ltb}

-- the ASCII code of a digit: `0` to `9`, then `A` to `F`
unfoldable pub glyph : ℕ → ℕ
glyph d = cond (ltb d 10) (48 + d) (55 + d)

-- the last k digits of n in this base, the highest first
unfoldable pub digits : ℕ → ℕ → ℕ → List ℕ
digits base zero n = []
digits base (suc k) n = digits base k (n / base) ++ (glyph (n % base) ∷ [])

-- how many decimal digits n has, counted to k
unfoldable pub places : ℕ → ℕ → ℕ
places zero n = 0
places (suc k) n = cond (ltb n 10) 1 (places k (n / 10) + 1)

-- a number of 64 bits without leading zeros: it has 20 digits at most
unfoldable pub decimal : ℕ → List ℕ
decimal n = digits 10 (places 20 n) n

-- a number of 64 bits as 16 hexadecimal digits
unfoldable pub word : ℕ → List ℕ
word n = digits 16 16 n

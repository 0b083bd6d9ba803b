-- The words of a file of test data. Definitions only.
use Rattle.std.specs.Prelude.{ℕ, ◌+◌, ◌*◌, ◌/◌, ◌^◌, cond, List, length, nat_lt, slice_index}

-- the number that the four bytes from k on are, the lowest first
unfoldable pub four_bytes : List ℕ → ℕ → ℕ
four_bytes s k = slice_index s k + slice_index s (k + 1) * 2 ^ 8 + slice_index s (k + 2) * 2 ^ 16 + slice_index s (k + 3) * 2 ^ 24

-- the i-th eight bytes likewise, and 0 where they are not there
unfoldable pub word : List ℕ → ℕ → ℕ
unfolding four_bytes
word s i = cond (nat_lt i (length s / 8)) (four_bytes s (i * 8) + four_bytes s (i * 8 + 4) * 2 ^ 32) 0

-- A table of the code, which is the table of its bits row by row, is read as they are. Assumes nothing.
use Rattle.std.specs.Prelude.{◌≡◌, ℕ, ◌/◌, List, [], map}
use Rattle.std.specs.Float.{binary64}
use Rattle.std.specs.Float.Ieee.{of_bits}
use Rattle.std.proofs.Math.ListN.{get_or-map}
use Rattle.table.specs.Rows.{entry, entry_in}

pub read_by_bits : (bits : List (List ℕ)) (s : ℕ) → entry_in (map (map (of_bits binary64)) bits) s ≡ entry bits s
read_by_bits bits s = rw (get_or-map (map (of_bits binary64)) bits (s / 16) [])

-- Over the bytes of the text: those so far stand after what stood on the page.
use Rattle.std.proofs.Common.{◌≡◌, ◌+◌, ◌++◌, length, take}
use Rattle.page.proofs.Page.put.Given as goal

abbrev pub invariant-loop-byte : goal.invariant-loop-byte
invariant-loop-byte g l = (l.self ≡ l.fn.self ++ take l.byte-index l.text) × (length l.self ≡ length l.fn.self + l.byte-index)

-- The i-th chunk of eight bytes is those from 8 i on, and their weighted sum is the definition's.
use Rattle.std.proofs.Common.{◌≡◌, ℕ, zero, suc, ◌+◌, ◌*◌, ◌/◌, ◌<◌, ◌≤◌, ◌^◌, Bool, cond, List, length, take, drop, slice_index, get_or, ap, sym, ◌∙◌, arith, lt-ltb, le-ltb}
use Rattle.std.proofs.lemmas.List.{get_or-take, get_or-drop, drop-drop}
use Rattle.std.specs.Simd.{first_chunks}
use Rattle.std.specs.Int.{from_le_bytes, w64}
use Rattle.stored.specs.Stored.{four_bytes, word}
use Rattle.stored.proofs.word.Goals as goal

get_or-first_chunks : (n k : ℕ) (s : List ℕ) (i : ℕ) (e : List ℕ) → i < k → get_or (first_chunks n k s) i e ≡ take n (drop (i * n) s)
get_or-first_chunks n zero s i e h = absurd (omega arith)
get_or-first_chunks n (suc k) s zero e h = let z : 0 ≡ 0 * n = omega arith in ap (λ (j : ℕ). take n (drop j s)) z
get_or-first_chunks n (suc k) s (suc i) e h =
    let z : n + i * n ≡ suc i * n = omega arith in
    get_or-first_chunks n k (drop n s) i e (omega arith) ∙ ap (take n) (drop-drop (i * n) n s) ∙ ap (λ (j : ℕ). take n (drop j s)) z

byte : (s : List ℕ) (at k j : ℕ) → k < 8 → at + k ≡ j → slice_index (take 8 (drop at s)) k ≡ slice_index s j
byte s at k j h e = get_or-take 8 (drop at s) k 0 h ∙ get_or-drop at s k 0 ∙ ap (slice_index s) e

abbrev weighted : List ℕ → ℕ
weighted b =
    slice_index b 0 + slice_index b 1 * 256 + slice_index b 2 * 65536 + slice_index b 3 * 16777216 + slice_index b 4 * 4294967296 + slice_index b 5 * 1099511627776 + slice_index b 6 * 281474976710656 + slice_index b 7 * 72057594037927936

by_bytes : (s : List ℕ) (at : ℕ) → weighted (take 8 (drop at s)) ≡ four_bytes s at + four_bytes s (at + 4) * 2 ^ 32
unfolding four_bytes
by_bytes s at =
    let b0 = byte s at 0 at (omega arith) (omega arith) in
    let b1 = byte s at 1 (at + 1) (omega arith) (omega arith) in
    let b2 = byte s at 2 (at + 2) (omega arith) (omega arith) in
    let b3 = byte s at 3 (at + 3) (omega arith) (omega arith) in
    let b4 = byte s at 4 (at + 4) (omega arith) (omega arith) in
    let b5 = byte s at 5 (at + 4 + 1) (omega arith) (omega arith) in
    let b6 = byte s at 6 (at + 4 + 2) (omega arith) (omega arith) in
    let b7 = byte s at 7 (at + 4 + 3) (omega arith) (omega arith) in
    omega arith

read : (s : List ℕ) (at : ℕ) → from_le_bytes w64 (take 8 (drop at s)) ≡ four_bytes s at + four_bytes s (at + 4) * 2 ^ 32
read s at = by_bytes s at

there : (s : List ℕ) (i : ℕ) → i < length s / 8 → four_bytes s (i * 8) + four_bytes s (i * 8 + 4) * 2 ^ 32 ≡ word s i
unfolding word
there s i h = sym (ap (λ (b : Bool). cond b (four_bytes s (i * 8) + four_bytes s (i * 8 + 4) * 2 ^ 32) 0) (lt-ltb i (length s / 8) h))

past : (s : List ℕ) (i : ℕ) → length s / 8 ≤ i → 0 ≡ word s i
unfolding word
past s i h = sym (ap (λ (b : Bool). cond b (four_bytes s (i * 8) + four_bytes s (i * 8 + 4) * 2 ^ 32) 0) (le-ltb i (length s / 8) h))

pub returns-in-Some : goal.returns-in-Some
returns-in-Some c =
    let s = c.args.s.now in
    let i = c.args.i in
    let n : length c.as_chunks.result.0.now ≡ length s / 8 = c.as_chunks.ensures.front_len in
    let k : i < length s / 8 = omega (arith, c.in-Some.ensures.lookup) in
    c.from_le_bytes.ensures
    ∙ ap (from_le_bytes w64) (c.in-Some.ensures.lookup.1 ∙ ap (λ (l : List (List ℕ)). get_or l i c.in-Some.bytes.now) c.as_chunks.ensures.front ∙ get_or-first_chunks 8 (length s / 8) s i _ k)
    ∙ read s (i * 8)
    ∙ there s i k

pub returns-in-None : goal.returns-in-None
returns-in-None c =
    let n : length c.as_chunks.result.0.now ≡ length c.args.s.now / 8 = c.as_chunks.ensures.front_len in
    past c.args.s.now c.args.i (omega (arith, c.in-None.ensures.lookup))

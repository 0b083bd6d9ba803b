-- Each turn and the end, by the laws of digits from the last one on.
use Rattle.std.proofs.Common.{◌+◌, ◌-◌, ◌≤◌, length, ap, arith, ◌∙◌}
use lib.ListN.{length-set, length-append}
use lib.Seq.{take-set-le, length-take-le}
use Rattle.page.specs.Page.{digits}
use Rattle.page.proofs.FromTheBack.{digits_back, digits_done}
use Rattle.page.proofs.Digits.{length_digits}
use Rattle.page.proofs.Page.put_digits.Goals as goal

pub loop-i-preserved : goal.loop-i-preserved
loop-i-preserved g c = let a = c.args in
    let s = c.loop-i.self-inside in
    let held = c.loop-i.invariant in
    let at = s.end + (c.loop-i.i - 1) in
    let e = length-take-le c.self.inside.end c.self.inside.bytes (omega (arith, c.self.invariant, c.self.told)) in
    let l = ap length c.self.view_is in
    let room : s.end + a.k ≤ length s.bytes = omega (arith, held.0, held.1, c.self.told, c.requires.room, e, l) in (
      held.0,
      length-set s.bytes at c.glyph.result ∙ held.1,
      take-set-le s.end s.bytes at c.glyph.result (omega arith) ∙ held.2,
      digits_back s.bytes (digits a.base a.k a.n) s.end a.base a.k c.loop-i.i c.loop-i.rest c.glyph.result c.loop-i-test.true
          c.loop-i.auto.i room c.glyph.ensures held.3,
    )

pub returns-clause-text : goal.returns-clause-text
returns-clause-text g c = let a = c.args in
    let s = c.loop-i.self-inside in
    let held = c.loop-i.invariant in
    digits_done s.bytes a.self.now (digits a.base a.k a.n) s.end a.base a.k c.loop-i.i c.loop-i.rest c.loop-i-test.false
    (held.2 ∙ c.self.view_is) held.3

pub returns-clause-len : goal.returns-clause-len
returns-clause-len g c = let a = c.args in
    let e = length-append a.self.now (digits a.base a.k a.n) in
    ap length (returns-clause-text g c) ∙ omega (arith, e, length_digits a.base a.k a.n)

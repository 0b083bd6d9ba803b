-- One digit more, by the law of one turn; the value so far fits.
use Rattle.std.proofs.Common.{◌≡◌, ℕ, ◌+◌, ◌-◌, ◌*◌, ◌<◌, sym, ap, ◌∙◌, arith}
use Rattle.fields.specs.Fields.{digit_at, digits_from}
use Rattle.fields.proofs.Reading.{digit_within, is_digit, no_digit, digit_on, digits_stop, digits_full, grows, fits}
use Rattle.fields.proofs.digits.Goals as goal

pub returns-in_default : goal.returns-in_default
returns-in_default c =
    let a = c.args in
    let l = c.loop-count in
    c.then_some.ensures
    ∙ digits_stop a.base a.text.now l.at l.value a.least l.count (a.most - l.count) (omega arith) (no_digit _ _ c.in_default.ensures)
    ∙ sym l.invariant.rest

-- with a digit that is at hand, or with 0, the value still fits
pub overflow_mul-value : goal.overflow_mul-value
overflow_mul-value c =
    let a = c.args in
    let l = c.loop-count in
    let g = grows a.base l.count l.value 0 l.invariant.below c.requires.base_nonzero.0 in
    let f = fits a.base (l.count + 1) a.most (l.value * a.base + 0) c.requires.base_nonzero.0 c.requires.most_bound (omega arith) g in
    omega (arith, f)

pub overflow_add-value : goal.overflow_add-value
overflow_add-value c =
    let a = c.args in
    let l = c.loop-count in
    let e = is_digit a.base (digit_at a.text.now l.at) c.in-Some.ensures in
    let h : c.in-Some.d < a.base = omega (arith, e) in
    let g = grows a.base l.count l.value c.in-Some.d l.invariant.below h in
    let f = fits a.base (l.count + 1) a.most (l.value * a.base + c.in-Some.d) c.requires.base_nonzero.0 c.requires.most_bound (omega arith) g in
    omega (arith, f)

pub overflow_add-at : goal.overflow_add-at
overflow_add-at c =
    let e = is_digit c.args.base (digit_at c.args.text.now c.loop-count.at) c.in-Some.ensures in
    let h : digit_at c.args.text.now c.loop-count.at < 16 = omega (arith, e) in
    let w = digit_within c.args.text.now c.loop-count.at h in
    omega (arith, w)

pub loop-count-preserved : goal.loop-count-preserved
loop-count-preserved c =
    let a = c.args in
    let l = c.loop-count in
    let e = is_digit a.base (digit_at a.text.now l.at) c.in-Some.ensures in
    let d = digit_at a.text.now l.at in
    let h : c.in-Some.d < a.base = omega (arith, e) in
    let p : a.least - l.count - 1 ≡ a.least - (l.count + 1) = omega arith in
    let q : a.most - l.count - 1 ≡ a.most - (l.count + 1) = omega arith in
    record {
      rest =
          l.invariant.rest
          ∙ digit_on a.base a.text.now l.at l.value (a.least - l.count) (a.most - l.count) (omega arith) e.0
          ∙ ap (λ (k : ℕ). digits_from a.base k (a.most - l.count - 1) a.text.now (l.at + 1) (l.value * a.base + d)) p
          ∙ ap (λ (k : ℕ). digits_from a.base (a.least - (l.count + 1)) k a.text.now (l.at + 1) (l.value * a.base + d)) q
          ∙ ap (λ (x : ℕ). digits_from a.base (a.least - (l.count + 1)) (a.most - (l.count + 1)) a.text.now (l.at + 1) (l.value * a.base + x)) (sym e.1);
      below = grows a.base l.count l.value c.in-Some.d l.invariant.below h;
    }

pub returns : goal.returns
returns c =
    let a = c.args in
    let l = c.loop-count in
    let z : a.most - l.count ≡ 0 = omega arith in
    sym
    (l.invariant.rest
    ∙ ap (λ (k : ℕ). digits_from a.base (a.least - l.count) k a.text.now l.at l.value) z
    ∙ digits_full a.base a.text.now l.at l.value (a.least - l.count))

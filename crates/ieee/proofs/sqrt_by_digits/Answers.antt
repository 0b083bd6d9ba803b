-- Infinity, a subnormal, a normal number, below 0, and what is left (Cases).
use Rattle.std.proofs.Common.{◌∙◌, rules}
use lib.Ieee.{of_bits, div}
use Rattle.ieee.proofs.Logic.{yes}
use Rattle.ieee.proofs.Cases.{negative_root, positive, neither_root, high_root, low_digits, low_root, mid_root, low_bits}
use Rattle.ieee.proofs.sqrt_by_digits.Goals as goal

pub returns-then-b-ge9218868437227405312 : goal.returns-then-b-ge9218868437227405312
unfolding of_bits
returns-then-b-ge9218868437227405312 c = high_root c.args.x (yes c.well_formed.0.1) (positive c.args.x c.if-x.true) c.if-b-ge9218868437227405312.true

pub root_bits-requires : goal.root_bits-requires
unfolding of_bits
root_bits-requires c = (low_digits c.args.x (yes c.well_formed.0.1) (positive c.args.x c.if-x.true) c.if-field-eq0.true, search rules, search rules)

pub float_from_bits-result : goal.float_from_bits-result
float_from_bits-result c = low_bits c.root_bits.result c.root_bits.ensures.0

pub returns-then-field-eq0 : goal.returns-then-field-eq0
unfolding of_bits
returns-then-field-eq0 c = c.root_bits.ensures.1 ∙ low_root c.args.x (yes c.well_formed.0.1) (positive c.args.x c.if-x.true) c.if-field-eq0.true

pub float_from_bits-result-else-field-eq0 : goal.float_from_bits-result-else-field-eq0
float_from_bits-result-else-field-eq0 c = low_bits c.root_bits-else-field-eq0.result c.root_bits-else-field-eq0.ensures.0

pub returns-else-field-eq0 : goal.returns-else-field-eq0
unfolding of_bits
returns-else-field-eq0 c =
    c.root_bits-else-field-eq0.ensures.1
    ∙ mid_root c.args.x (yes c.well_formed.0.1) (positive c.args.x c.if-x.true) c.if-field-eq0.false c.if-b-ge9218868437227405312.false

pub returns-then-x-2 : goal.returns-then-x-2
unfolding of_bits div
returns-then-x-2 c = negative_root c.args.x c.if-x-2.true

pub returns-else-x-2 : goal.returns-else-x-2
unfolding of_bits
returns-else-x-2 c = neither_root c.args.x c.if-x.false c.if-x-2.false

-- What is still to be read from `at` on gives the same field, and the value so far has its digits.
use Rattle.std.proofs.Common.{◌≡◌, ◌^◌, ◌<◌, ◌-◌}
use Rattle.fields.specs.Fields.{digits_from}
use Rattle.fields.proofs.digits.Given as goal

abbrev pub invariant-loop-count : goal.invariant-loop-count
invariant-loop-count l = record {
  rest : digits_from l.base l.least l.most l.text l.from 0 ≡ digits_from l.base (l.least - l.count) (l.most - l.count) l.text l.at l.value;
  below : l.value < l.base ^ l.count;
}

use Rattle.std.proofs.Common.{◌≡◌, ◌<◌, ◌^◌, true, take}
use Rattle.std.specs.List.{list_all}
use Rattle.agc_word.specs.Numeral.{is_digit, digits_value}
use Rattle.agc_word.proofs.numeral.read_digits.Given as goal

abbrev pub invariant-loop-b : goal.invariant-loop-b
invariant-loop-b l = record {
  digits : list_all (is_digit l.base) (take l.b-index l.digits) ≡ true;
  value : l.value ≡ digits_value l.base (take l.b-index l.digits);
  below : l.value < l.base ^ l.b-index;
}

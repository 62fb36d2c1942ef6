use Rattle.std.proofs.Common.{◌≡◌, ◌<◌, ◌^◌, true, take}
use Rattle.std.specs.List.{list_all}
use Rattle.std.specs.Char.{is_ascii_digit}
use Rattle.conf_values.specs.Numbers.{decimal}
use Rattle.conf_values.proofs.number.whole_number.Given as goal

abbrev pub invariant-loop-digit : goal.invariant-loop-digit
invariant-loop-digit l = record {
  are_digits : list_all is_ascii_digit (take l.digit-index l.text) ≡ true;
  value_is : decimal (take l.digit-index l.text) ≡ l.value;
  fits : l.value < 2 ^ 64;
}

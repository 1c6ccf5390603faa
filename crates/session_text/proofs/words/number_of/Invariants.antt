use Rattle.std.proofs.Common.{◌≡◌, ◌≤◌, true, drop}
use Rattle.std.specs.List.{list_all}
use Rattle.std.specs.Char.{is_ascii_digit}
use Rattle.slon_model.specs.Forms.{value_from}
use Rattle.session_text.proofs.words.number_of.Given as goal

abbrev pub invariant-loop-digit : goal.invariant-loop-digit
invariant-loop-digit l = record {
  small : l.number ≤ l.high;
  value : value_from l.number (drop l.digit-index l.word) ≡ value_from 0 l.word;
  digits : list_all is_ascii_digit (drop l.digit-index l.word) ≡ true;
}

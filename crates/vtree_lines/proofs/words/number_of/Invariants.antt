use Rattle.std.proofs.Common.{◌≡◌, ◌<◌, ◌^◌, take, true}
use Rattle.std.specs.Str.{all_ascii_digits}
use Rattle.vtree_lines.specs.Lines.{value_from}
use Rattle.vtree_lines.proofs.words.number_of.Given as goal

abbrev pub invariant-loop-byte : goal.invariant-loop-byte
invariant-loop-byte l = record {
  digits : all_ascii_digits (take l.byte-index l.word) ≡ true;
  value : l.number ≡ value_from 0 (take l.byte-index l.word);
  small : l.number < 2 ^ 64;
}

use Rattle.std.proofs.Common.{◌≡◌, ◌≤◌, drop}
use Rattle.jade_lexer.specs.Alphabet.{value_after}
use Rattle.jade_lexer.proofs.alphabet.is_small.Given as goal

abbrev pub invariant-loop-digit : goal.invariant-loop-digit
invariant-loop-digit l = record {
  same : value_after l.value (drop l.digit-index l.digits) ≡ value_after 0 l.digits;
  small : l.value ≤ 9223372036854775807;
}

use Rattle.std.proofs.Common.{◌≡◌, ◌+◌, ◌≤◌, drop}
use Rattle.jade_lexer.specs.Reading.{pos_after}
use Rattle.jade_lexer.proofs.lexer.pos_after.Given as goal

abbrev pub invariant-loop-byte : goal.invariant-loop-byte
invariant-loop-byte l = record {
  same : pos_after l.pos (drop l.byte-index l.bytes) ≡ pos_after l.initial.pos l.bytes;
  line : l.pos.line ≤ l.initial.pos.line + l.byte-index;
  column : l.pos.column ≤ l.initial.pos.column + l.byte-index;
}

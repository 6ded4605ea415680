use Rattle.std.proofs.Common.{sym, ◌∙◌, arith}
use Rattle.jade_lexer.proofs.Longest.{longest_pair, longest_single, longest_none}
use Rattle.jade_lexer.proofs.alphabet.symbol_length.Goals as goal
use Rattle.jade_lexer.proofs.alphabet.symbol_length.Goals.{else-bytes-gt1-via-then-bytes-gt1+else-is_pair, else-bytes-gt1-via-else-bytes-gt1}

pub returns-then-is_pair : goal.returns-then-is_pair
returns-then-is_pair c =
    sym (longest_pair c.args.bytes.now c.if-bytes-gt1.true c.requires.no_letter c.requires.no_digit (sym c.is_pair.ensures ∙ c.if-is_pair.true))

pub returns-then-is_single : goal.returns-then-is_single
returns-then-is_single c =
    sym (longest_single c.args.bytes.now c.requires.nonempty c.requires.no_letter c.requires.no_digit
    (λ two. elim c.else-bytes-gt1.branch [
      | else-bytes-gt1-via-then-bytes-gt1+else-is_pair w ↦ sym w.is_pair.ensures ∙ w.if-is_pair.false
      | else-bytes-gt1-via-else-bytes-gt1 w ↦ absurd (omega arith)
    ])
    (sym c.is_single.ensures ∙ c.if-is_single.true))

pub returns-else-is_single : goal.returns-else-is_single
returns-else-is_single c =
    sym (longest_none c.args.bytes.now c.requires.nonempty c.requires.no_letter c.requires.no_digit
    (λ two. elim c.else-bytes-gt1.branch [
      | else-bytes-gt1-via-then-bytes-gt1+else-is_pair w ↦ sym w.is_pair.ensures ∙ w.if-is_pair.false
      | else-bytes-gt1-via-else-bytes-gt1 w ↦ absurd (omega arith)
    ])
    (sym c.is_single.ensures ∙ c.if-is_single.false))

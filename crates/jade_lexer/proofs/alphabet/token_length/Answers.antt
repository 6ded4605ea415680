use Rattle.std.proofs.Common.{sym, ◌∙◌}
use Rattle.jade_lexer.proofs.Longest.{longest_word, longest_run}
use Rattle.jade_lexer.proofs.alphabet.token_length.Goals as goal

pub returns-then-is_letter : goal.returns-then-is_letter
returns-then-is_letter c =
    c.word_length.ensures ∙ sym (longest_word c.args.bytes.now c.requires (sym c.is_letter.ensures ∙ c.if-is_letter.true))

pub returns-then-is_ascii_digit : goal.returns-then-is_ascii_digit
returns-then-is_ascii_digit c =
    c.run_length.ensures
    ∙ sym (longest_run c.args.bytes.now c.requires (sym c.is_letter.ensures ∙ c.if-is_letter.false)
    (sym c.is_ascii_digit.ensures.value ∙ c.if-is_ascii_digit.true))

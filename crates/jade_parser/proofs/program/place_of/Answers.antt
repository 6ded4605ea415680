use Rattle.std.proofs.Common.{◌∙◌}
use Rattle.jade_parser.proofs.Texts.{place_within, place_past}
use Rattle.jade_parser.proofs.program.place_of.Goals as goal

pub returns-then-at-len : goal.returns-then-at-len
returns-then-at-len c = place_within c.args.tokens.now.lexemes c.args.at _ c.args.tokens.now.end c.at.ensures

pub returns-else-at-len : goal.returns-else-at-len
returns-else-at-len c = c.end.ensures ∙ place_past _ _ _ (rw c.len.ensures at c.if-at-len.false)

use Rattle.std.proofs.Common.{length, map}
use Rattle.jade_lexer.specs.Lexemes.{token_of}
use Rattle.jade_lexer.proofs.Steps.{Underway}
use Rattle.jade_lexer.proofs.lexer.tokens.Given as goal

abbrev pub invariant-parts : goal.invariant-parts
invariant-parts l = Underway l.text (map token_of l.items.items) l.spot l.rest

abbrev pub decreases-parts : goal.decreases-parts
decreases-parts l = length l.rest

-- Refusals of the same tokens.
use Rattle.std.specs.Prelude.{◌≡◌}
use Rattle.jade_parser.specs.declared.ParseError.{ParseError}
use Rattle.jade_parser.specs.declared.ParseError.TheVariants.{Token, Long, Memory}

-- want of memory, which says nothing of the tokens
abbrev pub IsMemory : ParseError → Type 0
IsMemory (Token p) = ⊥
IsMemory (Long p) = ⊥
IsMemory Memory = Unit {0}

-- one reason and one place, unless memory was wanting
abbrev pub SameRefusal : ParseError → ParseError → Type 0
SameRefusal (Token p) (Token q) = p ≡ q
SameRefusal (Long p) (Long q) = p ≡ q
SameRefusal (Token p) (Long q) = ⊥
SameRefusal (Long p) (Token q) = ⊥
SameRefusal Memory f = Unit {0}
SameRefusal (Token p) Memory = Unit {0}
SameRefusal (Long p) Memory = Unit {0}

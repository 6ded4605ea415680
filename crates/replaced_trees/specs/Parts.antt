-- The tokens of a tree with each name replaced by another, and each place that is kept too.
use Rattle.std.specs.Prelude.{map, Option, Some, None}
use Rattle.jade_base.specs.declared.place.Pos.{Pos}
use Rattle.jade_syntax.specs.Abstract.{Name}
use Rattle.jade_parser.specs.Spelled.{Token, Fixed, Called, Counted, Unknown, Part, Parts}

-- `to` gives another name for each, `home` another place
module _ (to : Name → Name) (home : Pos → Pos) where
  abbrev pub token_replaced : Token → Token
  token_replaced (Fixed s) = Fixed s
  token_replaced (Called x) = Called (to x)
  token_replaced (Counted z) = Counted z
  token_replaced Unknown = Unknown

  abbrev pub kept_replaced : Option Pos → Option Pos
  kept_replaced None = None
  kept_replaced (Some p) = Some (home p)

  abbrev pub part_replaced : Part → Part
  part_replaced p = record { token = token_replaced p.token; at = kept_replaced p.at; nth = p.nth }

  abbrev pub parts_replaced : Parts → Parts
  parts_replaced ps = map part_replaced ps

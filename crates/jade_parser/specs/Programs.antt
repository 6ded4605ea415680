-- The parts of a program.
use Rattle.std.specs.Prelude.{◌≡◌, true, List, [], ◌∷◌, ◌++◌}
use Rattle.std.specs.List.{flat_map, list_all}
use Rattle.jade_syntax.specs.declared.shapes.place.BlockKind.{BlockKind}
use Rattle.jade_syntax.specs.declared.shapes.place.BlockKind.TheVariants.{Main}
use Rattle.jade_syntax.specs.declared.tree.Number.{Number}
use Rattle.jade_syntax.specs.declared.tree.Item.{Item}
use Rattle.jade_syntax.specs.declared.tree.Item.TheVariants.{Input, Single, Family}
use Rattle.jade_syntax.specs.declared.tree.Program.{Program}
use Rattle.jade_syntax.specs.declared.tree.Statement.{Statement}
use Rattle.jade_syntax.specs.Shapes.{is_placed}
use Rattle.jade_parser.specs.declared.Sign.{Sign}
use Rattle.jade_parser.specs.declared.Sign.TheVariants.{InputWord, ObjectWord, ObjectsWord, MainWord, LeftBracket, RightBracket, Colon, Semicolon}
use Rattle.jade_parser.specs.Spelled.{Parts, Called, fixed, marked, number_part}
use Rattle.jade_parser.specs.Statements.{block_parts}

-- a number between two signs
abbrev pub between_parts : Sign → Sign → Number → Parts
between_parts opener closer n = fixed opener ∷ number_part n ∷ fixed closer ∷ []

-- `input name ;`, `object name : size ;`, `objects name [ count ] : size ;`
abbrev pub item_parts : Item → Parts
item_parts (Input name pos) = fixed InputWord ∷ marked (Called name) pos ∷ fixed Semicolon ∷ []
item_parts (Single name pos size) = fixed ObjectWord ∷ marked (Called name) pos ∷ between_parts Colon Semicolon size
item_parts (Family name pos count size) =
    fixed ObjectsWord ∷ marked (Called name) pos ∷ (between_parts LeftBracket RightBracket count ++ between_parts Colon Semicolon size)

-- the items and `main`
abbrev pub head_parts : List Item → Parts
head_parts items = flat_map item_parts items ++ fixed MainWord ∷ []

-- items, `main`, and a block
abbrev pub program_parts : Program → Parts
program_parts p = head_parts p.items ++ block_parts p.main

-- the statement may stand there
pub record Fits (c : BlockKind) (s : Statement) : Type 0 where
  pub is : is_placed c s ≡ true

-- each statement may stand there
pub record FitsAll (c : BlockKind) (b : List Statement) : Type 0 where
  pub is : list_all (is_placed c) b ≡ true

-- each statement stands where the grammar has it
pub record Proper (p : Program) : Type 0 where
  pub is : FitsAll Main p.main

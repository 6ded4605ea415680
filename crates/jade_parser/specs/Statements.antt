-- The parts of a statement.
use Rattle.std.specs.Prelude.{List, [], ◌∷◌, ◌++◌, Option, Some, None}
use Rattle.std.specs.List.{flat_map}
use Rattle.jade_syntax.specs.declared.tree.ValueKind.{ValueKind}
use Rattle.jade_syntax.specs.declared.tree.ValueKind.TheVariants.{Int, Bool as BoolKind}
use Rattle.jade_syntax.specs.declared.tree.DeclareWord.{DeclareWord}
use Rattle.jade_syntax.specs.declared.tree.DeclareWord.TheVariants.{Rd, Wr, RdWr, DfRd, DfWr, DfRdWr, Cm, NoRd, NoWr, NoRdWr}
use Rattle.jade_syntax.specs.declared.tree.ObjectRef.{ObjectRef}
use Rattle.jade_syntax.specs.declared.tree.Statement.{Statement, fold-Statement}
use Rattle.jade_syntax.specs.declared.tree.Statement.TheOpen.{Statement-F}
use Rattle.jade_parser.specs.declared.Sign.TheVariants.{LeftParen, RightParen, LeftBrace, RightBrace, Becomes}
use Rattle.jade_parser.specs.declared.Sign.TheVariants.{Semicolon, Comma, DotDot, IfWord, ElseWord, ForWord}
use Rattle.jade_parser.specs.declared.Sign.TheVariants.{InWord, IntWord, BoolWord, WithonlyWord, WithWord}
use Rattle.jade_parser.specs.declared.Sign.TheVariants.{DoWord, ContWord, RdWord, WrWord, RdWrWord, DfRdWord}
use Rattle.jade_parser.specs.declared.Sign.TheVariants.{DfWrWord, DfRdWrWord, CmWord, NoRdWord, NoWrWord, NoRdWrWord}
use Rattle.jade_syntax.specs.declared.tree.CellRef.{CellRef, out-CellRef}
use Rattle.jade_syntax.specs.declared.tree.Expr.{Expr}
use Rattle.jade_syntax.specs.declared.tree.Named.{Named}
use Rattle.jade_parser.specs.Spelled.{Token, Fixed, Called, Parts, plain, fixed, marked, bracketed, outer}

-- the word of a kind
abbrev pub kind_word : ValueKind → Token
kind_word Int = Fixed IntWord
kind_word BoolKind = Fixed BoolWord

-- the word of a declaration
abbrev pub declare_word : DeclareWord → Token
declare_word Rd = Fixed RdWord
declare_word Wr = Fixed WrWord
declare_word RdWr = Fixed RdWrWord
declare_word DfRd = Fixed DfRdWord
declare_word DfWr = Fixed DfWrWord
declare_word DfRdWr = Fixed DfRdWrWord
declare_word Cm = Fixed CmWord
declare_word NoRd = Fixed NoRdWord
declare_word NoWr = Fixed NoWrWord
declare_word NoRdWr = Fixed NoRdWrWord

-- ---- statements

-- the index of a target or of a declared object, where there is one
abbrev pub outer_index : Option Expr → Parts
outer_index None = []
outer_index (Some e) = bracketed (outer e)

-- a declared object
abbrev pub object_parts : ObjectRef → Parts
object_parts o = marked (Called o.name) o.pos ∷ outer_index o.member

-- the cell that is stored to, whose indexes lie in no other expression
abbrev pub target_parts : CellRef → Parts
target_parts c = marked (Called (out-CellRef c).name) (out-CellRef c).pos ∷ (outer_index (out-CellRef c).family ++ bracketed (outer (out-CellRef c).cell))

-- a block, by its statements
abbrev pub braced : List Parts → Parts
braced parts = fixed LeftBrace ∷ [] ++ flat_map (λ t. t) parts ++ fixed RightBrace ∷ []

-- each name with the comma before it
abbrev pub more_names : List Named → Parts
more_names ns = flat_map (λ n. fixed Comma ∷ marked (Called n.name) n.pos ∷ []) ns

-- names with commas between them
abbrev pub name_parts : List Named → Parts
name_parts [] = []
name_parts (n ∷ ns) = marked (Called n.name) n.pos ∷ more_names ns

-- the other branch, where there is one
abbrev pub else_parts : Option (List Parts) → Parts
else_parts None = []
else_parts (Some b) = fixed ElseWord ∷ braced b

-- a statement, by those within it
abbrev pub at_statement : Statement-F Parts → Parts
at_statement (Statement-F.Local kind name pos value) = plain (kind_word kind) ∷ marked (Called name) pos ∷ fixed Becomes ∷ [] ++ outer value
    ++ fixed Semicolon
    ∷ []
at_statement (Statement-F.Assign name pos value) = marked (Called name) pos ∷ fixed Becomes ∷ [] ++ outer value ++ fixed Semicolon ∷ []
at_statement (Statement-F.Store target value) = target_parts target ++ fixed Becomes ∷ [] ++ outer value ++ fixed Semicolon ∷ []
at_statement (Statement-F.If test then otherwise) = fixed IfWord ∷ [] ++ outer test ++ braced then ++ else_parts otherwise
at_statement (Statement-F.For name pos low high body) =
    fixed ForWord ∷ marked (Called name) pos ∷ fixed InWord ∷ [] ++ outer low ++ fixed DotDot ∷ [] ++ outer high ++ braced body
at_statement (Statement-F.Withonly pos section names body) =
    marked (Fixed WithonlyWord) pos ∷ [] ++ braced section ++ fixed DoWord ∷ [] ++ fixed LeftParen ∷ [] ++ name_parts names ++ fixed RightParen ∷ []
    ++ braced body
at_statement (Statement-F.With pos section) = marked (Fixed WithWord) pos ∷ [] ++ braced section ++ fixed ContWord ∷ [] ++ fixed Semicolon ∷ []
at_statement (Statement-F.Declare word pos object) = marked (declare_word word) pos ∷ fixed LeftParen ∷ [] ++ object_parts object ++ fixed RightParen ∷ []
    ++ fixed Semicolon ∷ []

-- the parts of a statement
abbrev pub statement_parts : Statement → Parts
statement_parts = fold-Statement Parts at_statement

-- the parts of a block
abbrev pub block_parts : List Statement → Parts
block_parts b = fixed LeftBrace ∷ [] ++ flat_map statement_parts b ++ fixed RightBrace ∷ []

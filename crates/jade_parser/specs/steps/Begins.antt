-- What a word begins where a statement may stand.
use Rattle.std.specs.Prelude.{◌≡◌, true, cond, ◌∷◌, ◌++◌, Option, Some, None}
use Rattle.jade_syntax.specs.declared.tree.ValueKind.TheVariants.{Int, Bool}
use Rattle.jade_syntax.specs.declared.tree.DeclareWord.{DeclareWord}
use Rattle.jade_syntax.specs.Shapes.{declares}
use Rattle.jade_syntax.specs.declared.shapes.place.BlockKind.{BlockKind}
use Rattle.jade_syntax.specs.declared.shapes.place.BlockKind.TheVariants.{Main, Section, Amends}
use Rattle.jade_parser.specs.declared.Sign.{Sign}
use Rattle.jade_parser.specs.declared.Sign.TheVariants.{RightBrace, LeftBrace, LeftParen, RightParen, Becomes}
use Rattle.jade_parser.specs.declared.Sign.TheVariants.{Semicolon, InWord, DotDot, DoWord, ContWord, IntWord}
use Rattle.jade_parser.specs.declared.Sign.TheVariants.{BoolWord, IfWord, ForWord, WithonlyWord, WithWord}
use Rattle.jade_parser.specs.declared.begins.Begin.{Begin}
use Rattle.jade_parser.specs.declared.begins.Begin.TheVariants.{Local, If, For, Withonly, With, Declare, Closing, Nothing}
use Rattle.jade_parser.specs.steps.Ops.{declare_of}
use Rattle.jade_parser.specs.Spelled.{Fixed}
use Rattle.jade_parser.specs.steps.Machine.{Stack, Must, NameIs, Names, Second, Body, Else, expr_in, statement_sign}
use Rattle.jade_parser.specs.Statements.{kind_word, declare_word}

-- a declaration, where one with this word may stand
abbrev pub declaration_of : BlockKind → Option DeclareWord → Begin
declaration_of c None = Nothing
declaration_of c (Some w) = cond (declares c w) (Declare w) Nothing

-- what begins only statements of a body
abbrev pub main_only : BlockKind → Begin → Begin
main_only Main b = b
main_only Section b = Nothing
main_only Amends b = Nothing

-- what a word begins there
abbrev pub begin_of : BlockKind → Sign → Begin
begin_of c RightBrace = Closing
begin_of c IntWord = Local Int
begin_of c BoolWord = Local Bool
begin_of c IfWord = If
begin_of c ForWord = For
begin_of c WithonlyWord = main_only c Withonly
begin_of c WithWord = main_only c With
begin_of c s = declaration_of c (declare_of s)

-- a word predicts a statement: with it at hand the grammar goes on by the rule of that statement, and by none where the word begins nothing
abbrev pub Predicts : BlockKind → Sign → Begin → Type 0
Predicts c s (Local k) = (kind_word k ≡ Fixed s)
    × ((st : Stack) → statement_sign c s st ≡ Some (NameIs ∷ Must Becomes ∷ expr_in ++ Must Semicolon ∷ Body c ∷ st))
Predicts c s If = (s ≡ IfWord) × ((st : Stack) → statement_sign c s st ≡ Some (expr_in ++ Must LeftBrace ∷ Body c ∷ Else c ∷ Body c ∷ st))
Predicts c s For = (s ≡ ForWord) × ((st : Stack) → statement_sign c s st
    ≡ Some (NameIs ∷ Must InWord ∷ expr_in ++ Must DotDot ∷ expr_in ++ Must LeftBrace ∷ Body c ∷ Body c ∷ st))
Predicts c s Withonly = (c ≡ Main) × (s ≡ WithonlyWord)
    × ((st : Stack) → statement_sign c s st
    ≡ Some (Must LeftBrace ∷ Body Section ∷ Must DoWord ∷ Must LeftParen ∷ Names ∷ Must LeftBrace ∷ Body Main ∷ Body c ∷ st))
Predicts c s With = (c ≡ Main) × (s ≡ WithWord)
    × ((st : Stack) → statement_sign c s st ≡ Some (Must LeftBrace ∷ Body Amends ∷ Must ContWord ∷ Must Semicolon ∷ Body c ∷ st))
Predicts c s (Declare w) = (declare_word w ≡ Fixed s) × (declares c w ≡ true)
    × ((st : Stack) → statement_sign c s st ≡ Some (Must LeftParen ∷ NameIs ∷ Second ∷ Must RightParen ∷ Must Semicolon ∷ Body c ∷ st))
Predicts c s Closing = s ≡ RightBrace
Predicts c s Nothing = (st : Stack) → statement_sign c s st ≡ None

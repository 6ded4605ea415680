-- What it is for tokens to read as a source: they are spelled by its tree, and each call is of a procedure before it that takes its arguments.
use Rattle.std.specs.Prelude.{◌≡◌, ℕ, ◌+◌, Bool, true, false, ◌&&◌, nat_eq, nat_le, List, [], ◌∷◌, ◌++◌, map, length, codes, Some, None, if◌then◌else◌}
use Rattle.std.specs.List.{flat_map, list_all}
use Rattle.jade_alphabet.specs.declared.TheConstants.{WORD_LIMIT}
use Rattle.jade_base.specs.declared.place.Pos.{Pos}
use Rattle.jade_lexer.specs.Lexemes.{TokenAt, TokenList}
use Rattle.jade_syntax.specs.declared.shapes.place.BlockKind.{BlockKind}
use Rattle.jade_syntax.specs.declared.shapes.place.BlockKind.TheVariants.{Main}
use Rattle.jade_syntax.specs.declared.tree.Expr.{Expr}
use Rattle.jade_syntax.specs.declared.tree.Statement.TheOpen.{Statement-F}
use Rattle.jade_syntax.specs.Abstract.{Name}
use Rattle.jade_syntax.specs.Numbering.{same_name}
use Rattle.jade_syntax.specs.Shapes.{at_place, all_placed}
use Rattle.jade_parser.specs.declared.Sign.TheVariants.{MainWord, LeftParen, RightParen, LeftBrace, RightBrace, Comma, Semicolon}
use Rattle.jade_parser.specs.Spelled.{Called, Part, Parts, plain, fixed, marked, outer, AllValid, AllShort, Agrees}
use Rattle.jade_parser.specs.Statements.{kind_word, at_statement, braced}
use Rattle.jade_parser.specs.Programs.{item_parts}
use Rattle.jade_parser.specs.Grammar.{bytes_of, texts, positions}
use Rattle.proc_expand.specs.Words.{sign_of, closing, is_after}
use Rattle.proc_expand.specs.Written.{MadeToken, expansion}
use Rattle.proc_laws.specs.SourceTree.{HeadParam, Spoken, Local, Assign, Store, If, IfElse, For, Withonly, With, Declare, Call, Spokens, Done, Then, SpokenProcedure, Piece, AnItem, AProcedure, Unread, SourceText, spoken_procedures}

-- ---- the parts of a source, in text order

-- each argument with the comma before it
abbrev pub more_arguments : List Expr → Parts
more_arguments [] = []
more_arguments (e ∷ es) = fixed Comma ∷ (outer e ++ more_arguments es)

-- arguments with commas between them
abbrev pub argument_parts : List Expr → Parts
argument_parts [] = []
argument_parts (e ∷ es) = outer e ++ more_arguments es

abbrev mutual
  -- a statement: a call, or as in a program
  pub spoken_parts : Spoken → Parts
  spoken_parts (Local kind x at e) = at_statement (Statement-F.Local kind x at e)
  spoken_parts (Assign x at e) = at_statement (Statement-F.Assign x at e)
  spoken_parts (Store c e) = at_statement (Statement-F.Store c e)
  spoken_parts (If e first) = at_statement (Statement-F.If e (block_of first) None)
  spoken_parts (IfElse e first other) = at_statement (Statement-F.If e (block_of first) (Some (block_of other)))
  spoken_parts (For x at low high body) = at_statement (Statement-F.For x at low high (block_of body))
  spoken_parts (Withonly at section names body) = at_statement (Statement-F.Withonly at (block_of section) names (block_of body))
  spoken_parts (With at section) = at_statement (Statement-F.With at (block_of section))
  spoken_parts (Declare how at o) = at_statement (Statement-F.Declare how at o)
  spoken_parts (Call x at args) =
      marked (Called x) at ∷ fixed LeftParen ∷ (argument_parts args ++ fixed RightParen ∷ fixed Semicolon ∷ [])

  -- the statements of a block
  pub block_of : Spokens → List Parts
  block_of Done = []
  block_of (Then a more) = spoken_parts a ∷ block_of more

-- a parameter: its kind and its name
abbrev pub param_parts : HeadParam → Parts
param_parts p = plain (kind_word p.kind) ∷ marked (Called p.name) p.at ∷ []

-- each parameter with the comma before it
abbrev pub more_params : List HeadParam → Parts
more_params [] = []
more_params (p ∷ ps) = fixed Comma ∷ (param_parts p ++ more_params ps)

-- parameters with commas between them
abbrev pub params_parts : List HeadParam → Parts
params_parts [] = []
params_parts (p ∷ ps) = param_parts p ++ more_params ps

-- the head of a procedure after the word `proc`: its name, and its parameters in brackets
abbrev pub title_parts : Name → Pos → List HeadParam → Parts
title_parts x at params = marked (Called x) at ∷ fixed LeftParen ∷ (params_parts params ++ fixed RightParen ∷ [])

-- bytes that need be no token of a program
abbrev pub free_part : List ℕ → Part
free_part bytes = plain (Called bytes)

-- what stands before `main`
abbrev pub piece_parts : Piece → Parts
piece_parts (AnItem i) = item_parts i
piece_parts (AProcedure p) = free_part (codes "proc") ∷ (title_parts p.name p.at p.params ++ braced (block_of p.body))
piece_parts (Unread x at params body) =
    free_part (codes "proc") ∷ (title_parts x at params ++ fixed LeftBrace ∷ (map free_part body ++ fixed RightBrace ∷ []))

-- `main`, and its block
abbrev pub main_parts : Spokens → Parts
main_parts main = fixed MainWord ∷ braced (block_of main)

-- the whole source
abbrev pub source_parts : SourceText → Parts
source_parts q = flat_map piece_parts q.pieces ++ main_parts q.main

-- ---- which sources are sound

-- the parts that are as in a program: all but the word `proc` and the bodies that are not read
abbrev pub read_parts : Piece → Parts
read_parts (AnItem i) = item_parts i
read_parts (AProcedure p) = title_parts p.name p.at p.params ++ braced (block_of p.body)
read_parts (Unread x at params body) = title_parts x at params

-- a body that is not read ends at its own `}`
abbrev pub ends_there : List (List ℕ) → Bool
ends_there body = is_after 0 (closing (map sign_of (codes "{" ∷ (body ++ codes "}" ∷ []))) 0) (length body + 1)

-- the last procedure of this name, of pieces with the newest first, takes so many arguments; one whose body is not read takes none
abbrev pub takes : List Piece → Name → ℕ → Bool
takes [] x n = false
takes (AnItem i ∷ before) x n = takes before x n
takes (AProcedure p ∷ before) x n = if same_name x p.name then nat_eq (length p.params) n else takes before x n
takes (Unread y at params body ∷ before) x n = if same_name x y then false else takes before x n

module _ (before : List Piece) where
  abbrev mutual
    -- each call of a statement is of a procedure before it, with as many arguments as that has parameters
    pub calls_fit : Spoken → Bool
    calls_fit (Local kind x at e) = true
    calls_fit (Assign x at e) = true
    calls_fit (Store c e) = true
    calls_fit (If e first) = all_fit first
    calls_fit (IfElse e first other) = all_fit first && all_fit other
    calls_fit (For x at low high body) = all_fit body
    calls_fit (Withonly at section names body) = all_fit section && all_fit body
    calls_fit (With at section) = all_fit section
    calls_fit (Declare how at o) = true
    calls_fit (Call x at args) = takes before x (length args)

    -- each call of statements
    pub all_fit : Spokens → Bool
    all_fit Done = true
    all_fit (Then a more) = calls_fit a && all_fit more

-- a piece after others: its calls are of procedures before it, and if it is not read, it ends where it says
abbrev pub piece_fits : List Piece → Piece → Bool
piece_fits before (AnItem i) = true
piece_fits before (AProcedure p) = all_fit before p.body
piece_fits before (Unread x at params body) = ends_there body

-- pieces after others, and then `main`
abbrev pub fits_after : List Piece → List Piece → Spokens → Bool
fits_after before [] main = all_fit before main
fits_after before (p ∷ ps) main = piece_fits before p && fits_after (p ∷ before) ps main

-- ---- where statements stand

-- `calls` tells of each name where a call of it may stand
module _ (calls : Name → BlockKind → Bool) where
  abbrev mutual
    -- where a statement may stand: as in a program
    pub stands : Spoken → BlockKind → Bool
    stands (Local kind x at e) = at_place (Statement-F.Local kind x at e)
    stands (Assign x at e) = at_place (Statement-F.Assign x at e)
    stands (Store c e) = at_place (Statement-F.Store c e)
    stands (If e first) = at_place (Statement-F.If e (all_stand first) None)
    stands (IfElse e first other) = at_place (Statement-F.If e (all_stand first) (Some (all_stand other)))
    stands (For x at low high body) = at_place (Statement-F.For x at low high (all_stand body))
    stands (Withonly at section names body) = at_place (Statement-F.Withonly at (all_stand section) names (all_stand body))
    stands (With at section) = at_place (Statement-F.With at (all_stand section))
    stands (Declare how at o) = at_place (Statement-F.Declare how at o)
    stands (Call x at args) = calls x

    -- of each statement of a block
    pub all_stand : Spokens → List (BlockKind → Bool)
    all_stand Done = []
    all_stand (Then a more) = stands a ∷ all_stand more

-- one procedure more, for calls of its name: they may stand where each statement of its body may
abbrev pub and_stands : (Name → BlockKind → Bool) → SpokenProcedure → Name → BlockKind → Bool
and_stands calls p x place = if same_name x p.name then all_placed place (all_stand calls p.body) else calls x place

-- all procedures, in text order
abbrev pub calls_stand : (Name → BlockKind → Bool) → List SpokenProcedure → Name → BlockKind → Bool
calls_stand calls [] = calls
calls_stand calls (p ∷ ps) = calls_stand (and_stands calls p) ps

-- each statement of `main`, and of what it calls, stands where the grammar has it
abbrev pub is_proper : SourceText → Bool
is_proper q = all_placed Main (all_stand (calls_stand (λ x place. true) (spoken_procedures q.pieces)) q.main)

-- the tokens are the source's, each place that the tree keeps of a token is that token's, names and numbers are such, no outermost expression has
-- more than 256 tokens, calls are of procedures before them, and statements stand where the grammar has them
pub record IsSourceReading (l : TokenList) (q : SourceText) : Type 0 where
  pub spelled : bytes_of (source_parts q) ≡ texts l
  pub placed : Agrees (positions l) 0 (source_parts q)
  pub valid : AllValid (flat_map read_parts q.pieces ++ main_parts q.main)
  pub short : AllShort (source_parts q)
  pub known : fits_after [] q.pieces q.main ≡ true
  pub proper : is_proper q ≡ true

-- ---- the tokens that are written

-- a token that is written, at its origin
abbrev pub made_token : MadeToken → TokenAt
made_token t = record { bytes = t.bytes; start = 0; pos = t.origin }

-- the tokens that are written for a text, each at its origin
abbrev pub expanded_tokens : TokenList → TokenList
expanded_tokens l = record { lexemes = map made_token (expansion l.lexemes l.end); end = l.end }

-- no token that is written for a text is longer than a word may be
pub record AreWords (l : TokenList) : Type 0 where
  pub each : list_all (λ (t : MadeToken). nat_le (length t.bytes) WORD_LIMIT) (expansion l.lexemes l.end) ≡ true

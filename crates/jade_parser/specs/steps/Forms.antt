-- What the parsers of the pieces of a statement promise.
use Rattle.std.specs.Prelude.{◌≡◌, ℕ, List, [], ◌∷◌, ◌++◌, drop, Option, Some, None, Result, MatchResult}
use Rattle.jade_syntax.specs.declared.tree.Expr.{Expr}
use Rattle.jade_syntax.specs.declared.tree.Named.{Named}
use Rattle.jade_syntax.specs.declared.tree.ObjectRef.{ObjectRef}
use Rattle.jade_parser.specs.Spelled.{Parts, AllShort, fixed, bracketed, outer}
use Rattle.jade_parser.specs.steps.Machine.{Stack}
use Rattle.jade_parser.specs.Statements.{object_parts, name_parts}
use Rattle.jade_parser.specs.steps.Reads.{Whole, OnStop, head_sign, kinds}
use Rattle.jade_parser.specs.steps.Parts.{Any, RefusalIn, LongIn}
use Rattle.jade_parser.specs.declared.Sign.{Sign}
use Rattle.jade_parser.specs.declared.Sign.TheVariants.{LeftParen, RightParen, RightBracket, Semicolon}
use Rattle.jade_parser.specs.declared.Seen.{Seen}
use Rattle.jade_parser.specs.declared.Stop.{Stop}

-- these parts were read, and no outermost expression is too long
pub record Came (all : List Seen) (a : ℕ) (xs : Stack) (b : ℕ) (ys : Stack) (ps : Parts) : Type 0 where
  pub whole : Whole all a xs b ys ps
  pub short : AllShort ps

-- what a parser of a piece promises: such trees, which f spells, and which xs asks for
abbrev pub ParsedAs : {X : Type 0} (f : X → Parts) (all : List Seen) (a : ℕ) (xs : Stack) → Result (X × ℕ) Stop → Type 0
ParsedAs f all a xs r = MatchResult r (λ p. Came all a xs p.1 [] (f p.0)) (λ e. OnStop e (RefusalIn Any f all a xs) (LongIn Any f all a))

-- another token stands there
pub record NoHead (w : Sign) (all : List Seen) (at : ℕ) : Type 0 where
  pub none : Some w ≡ head_sign (drop at (kinds all)) → ⊥

-- an outermost expression and the sign that ends it
abbrev pub ended : Sign → Expr → Parts
ended s e = outer e ++ fixed s ∷ []

-- one index or two, the first bracket left out
abbrev pub first_index : Option Expr → Expr → Parts
first_index None c = ended RightBracket c
first_index (Some o) c = ended RightBracket o ++ bracketed (outer c)

-- the indexes of a target, the first bracket left out
abbrev pub indexes : Option Expr × Expr → Parts
indexes p = first_index p.0 p.1

-- what follows the word of a declaration
abbrev pub declared : ObjectRef → Parts
declared o = fixed LeftParen ∷ [] ++ object_parts o ++ fixed RightParen ∷ [] ++ fixed Semicolon ∷ []

-- the names of a `do` list and the parenthesis that ends them
abbrev pub named_list : List Named → Parts
named_list ns = name_parts ns ++ fixed RightParen ∷ []

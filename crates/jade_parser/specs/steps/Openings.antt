-- What a parser of items promises.
use Rattle.std.specs.Prelude.{ℕ, ◌+◌, List, [], ◌∷◌, ◌++◌, Option, Result, MatchOption, MatchResult}
use Rattle.jade_syntax.specs.declared.shapes.place.BlockKind.TheVariants.{Main}
use Rattle.jade_syntax.specs.declared.tree.Item.{Item}
use Rattle.jade_parser.specs.declared.Seen.{Seen}
use Rattle.jade_parser.specs.declared.Stop.{Stop}
use Rattle.jade_parser.specs.declared.Sign.{Sign}
use Rattle.jade_parser.specs.declared.Sign.TheVariants.{InputWord, ObjectWord, ObjectsWord, MainWord}
use Rattle.jade_parser.specs.declared.Sign.TheVariants.{LeftBracket, RightBracket, LeftBrace, Colon}
use Rattle.jade_parser.specs.declared.Sign.TheVariants.{Semicolon}
use Rattle.jade_parser.specs.declared.items.Opening.{Opening}
use Rattle.jade_parser.specs.declared.items.Opening.TheVariants as opening
use Rattle.jade_parser.specs.Spelled.{fixed}
use Rattle.jade_parser.specs.Programs.{item_parts}
use Rattle.jade_parser.specs.steps.Machine.{Stack, Must, NameIs, NumberIs, Items, Body}
use Rattle.jade_parser.specs.steps.Reads.{Whole, Stops, OnStop}
use Rattle.jade_parser.specs.steps.Parts.{Any, ReadIn, RefusalIn, LongIn}

-- what a word begins where an item or `main` may stand
abbrev pub opening_of : Sign → Opening
opening_of InputWord = opening.Input
opening_of ObjectWord = opening.Single
opening_of ObjectsWord = opening.Family
opening_of MainWord = opening.Body
opening_of s = opening.Nothing

-- a size and its semicolon
abbrev pub size_in : Stack
size_in = Must Colon ∷ NumberIs ∷ Must Semicolon ∷ []

-- the number of members
abbrev pub count_in : Stack
count_in = Must LeftBracket ∷ NumberIs ∷ Must RightBracket ∷ []

-- what is asked for after `main`
abbrev pub body_in : Stack
body_in = Must LeftBrace ∷ Body Main ∷ []

-- what is asked for once the word was read
abbrev pub OpeningAt : List Seen → ℕ → Opening → Type 0
OpeningAt all at opening.Input = Whole all at (Items ∷ []) (at + 1) (NameIs ∷ Must Semicolon ∷ Items ∷ []) (fixed InputWord ∷ [])
OpeningAt all at opening.Single = Whole all at (Items ∷ []) (at + 1) (NameIs ∷ size_in ++ Items ∷ []) (fixed ObjectWord ∷ [])
OpeningAt all at opening.Family = Whole all at (Items ∷ []) (at + 1) (NameIs ∷ count_in ++ size_in ++ Items ∷ []) (fixed ObjectsWord ∷ [])
OpeningAt all at opening.Body = Whole all at (Items ∷ []) (at + 1) body_in (fixed MainWord ∷ [])
OpeningAt all at opening.Nothing = Stops all at (Items ∷ []) at

-- `main`, an item, or what is refused
abbrev pub ItemAt : List Seen → ℕ → Result (Option (Item × ℕ)) Stop → Type 0
ItemAt all at r = MatchResult r
    (λ o. MatchOption o (Whole all at (Items ∷ []) (at + 1) body_in (fixed MainWord ∷ []))
    (λ p. ReadIn Any item_parts all at (Items ∷ []) p.1 (Items ∷ []) p.0))
    (λ e. OnStop e (RefusalIn Any item_parts all at (Items ∷ [])) (LongIn Any item_parts all at))

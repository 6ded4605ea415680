-- What serves the contracts of the functions that read a text.
use Rattle.std.specs.Prelude.{◌≡◌, ℕ, false, List}
use Rattle.jade_base.specs.declared.place.Pos.{Pos}
use Rattle.jade_lexer.specs.Reading.{reading, Whole}
use Rattle.jade_lexer.specs.Lexemes.{TokenList}
use Rattle.jade_parser.specs.Grammar.{IsRefusedAt, IsTooLongAt}
use Rattle.proc_expand.specs.Expanded.{text_of, origin_of}
use Rattle.proc_expand.specs.Words.{has_proc}
use Rattle.std.specs.Prelude.{codes}
use Rattle.jade_run.specs.declared.standing.Home.{Home}
use Rattle.jade_run.specs.declared.standing.Home.TheVariants.{Here, There}
use Rattle.jade_run.specs.declared.standing.Standing.{Standing}
use Rattle.jade_run.specs.declared.standing.Standing.TheVariants.{Itself, Expanded}
use Rattle.jade_run.specs.Answered.{RefusedAs}
use Rattle.jade_run.specs.Standing.{StandsFor}

-- where each place comes from
abbrev pub home_of : Home → Pos → Pos
home_of Here = λ at. at
home_of (There e) = origin_of e

-- what is read in place of the bytes: tokens that are theirs, or what they expand to
abbrev pub IsStanding : List ℕ → Standing → Type 0
IsStanding bytes (Itself tokens) = (reading bytes ≡ Whole tokens) × (has_proc tokens.lexemes ≡ false)
IsStanding bytes (Expanded e) = StandsFor bytes (text_of e) (origin_of e)

-- the place at which tokens are refused, and why: no program goes on so
pub data RefusedTokens (tokens : TokenList) (place : Pos) (why : List ℕ) : Type 0 where
  at_token : IsRefusedAt tokens place → why ≡ codes "token" → RefusedTokens tokens place why
  too_long : IsTooLongAt tokens place → why ≡ codes "long" → RefusedTokens tokens place why

-- the place from which the place comes at which a text is refused, and why
abbrev pub RefusedIn : (text : List ℕ) → (home : Pos → Pos) → (place : Pos) → (why : List ℕ) → Type 0
RefusedIn text home place why = (at : Pos) × (RefusedAs text at why × (place ≡ home at))

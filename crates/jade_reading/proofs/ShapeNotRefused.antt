-- Tokens that spell a program with no outermost expression too long are not refused, wherever they stand.
use Rattle.std.proofs.Common.{◌≡◌, ℕ, List, length, ⊎_elim}
use Rattle.std.proofs.lemmas.Bool.{cases_lt}
use Rattle.jade_syntax.specs.declared.tree.Program.{Program}
use Rattle.jade_lexer.specs.Lexemes.{TokenList}
use Rattle.jade_parser.specs.declared.ParseError.{ParseError}
use Rattle.jade_parser.specs.declared.ParseError.TheVariants.{Token as AtToken, Long, Memory}
use Rattle.jade_parser.specs.Spelled.{AllShort}
use Rattle.jade_parser.specs.Programs.{program_parts}
use Rattle.jade_parser.specs.Grammar.{bytes_of, texts, IsProgram, IsRefused, IsRefusal}
use Rattle.jade_parser.specs.OneReading.{IsMemory}
use Rattle.jade_parser.proofs.OneReading.{read_or_refused, read_or_long}

-- what spells a program is refused at no token, and not at the end
nowhere_refused : (ts : List (List ℕ)) (p : Program) (k : ℕ) → IsProgram p → bytes_of (program_parts p) ≡ ts → IsRefused ts k → ⊥
nowhere_refused ts p k sound e r =
    let w = r.within in
    ⊎_elim (λ lt. read_or_refused ts p k sound e r lt) (λ ge. r.no_end p sound e) (cases_lt k (length ts))

pub not_refused : (tokens : TokenList) (p : Program) (e : ParseError) → IsProgram p → AllShort (program_parts p) → bytes_of (program_parts p)
    ≡ texts tokens → IsRefusal tokens e → IsMemory e
not_refused tokens p (AtToken at) sound short s r = nowhere_refused (texts tokens) p r.number sound s r.refused
not_refused tokens p (Long at) sound short s r = read_or_long (texts tokens) p r.number sound short s r.too_long
not_refused tokens p Memory sound short s r = tt

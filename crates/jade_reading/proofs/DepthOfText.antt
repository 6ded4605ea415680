-- A program that a text reads as has brackets at most 64 deep, and no more tokens than the text has bytes.
use Rattle.std.proofs.Common.{◌≡◌, ℕ, ◌≤◌, true, List, [], ◌++◌, length, sym, ap, subst, ◌∙◌, arith, append-nil}
use Rattle.std.proofs.lemmas.List.{length-map}
use Rattle.jade_lexer.specs.Cut.{IsCut}
use Rattle.jade_lexer.specs.Lexemes.{TokenList}
use Rattle.jade_lexer.specs.Reading.{first_spot}
use Rattle.jade_syntax.specs.declared.tree.Program.{Program}
use Rattle.jade_syntax.specs.Shapes.{program_extent}
use Rattle.jade_layout.specs.Spelling.{spelling}
use Rattle.jade_reading.proofs.DepthOfTokens.{Shallow, bytes_of, cut_shallow, cut_count}
use Rattle.jade_reading.proofs.DepthOfStatements.{program_nested}

pub depth_of_text : (text : List ℕ) (tokens : TokenList) (p : Program) → IsCut text tokens → spelling p ≡ bytes_of tokens.lexemes
    → (program_extent p.items p.main).sound ≡ true → (program_extent p.items p.main).depth ≤ 64
depth_of_text text tokens p cut same sound =
    let read : Shallow 0 (bytes_of tokens.lexemes) = cut_shallow tokens.end first_spot.pos 0 0 text tokens.lexemes (omega arith) cut in
    let spelled : Shallow 0 (spelling p ++ []) = subst (λ ts. Shallow 0 ts) (sym same ∙ sym (append-nil (spelling p))) read in
    let room = ((program_nested p).by sound).room 0 [] spelled in
    omega arith

pub count_of_text : (text : List ℕ) (tokens : TokenList) (p : Program) → IsCut text tokens → spelling p ≡ bytes_of tokens.lexemes
    → length (spelling p) ≤ length text
count_of_text text tokens p cut same =
    let count = cut_count tokens.end first_spot.pos 0 0 text tokens.lexemes cut in
    let all : length (spelling p) ≡ length tokens.lexemes = ap length same ∙ length-map tokens.lexemes (λ t. t.bytes) in
    omega arith

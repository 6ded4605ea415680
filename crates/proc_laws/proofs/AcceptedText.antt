-- A text that is not refused, and for which a program is written, reads as a source.
use Rattle.std.proofs.Common.{◌≡◌, ℕ, suc, ◌+◌, true, List, [], ◌∷◌, length, map, refl, sym, ap, ◌∙◌, subst}
use Rattle.std.specs.Prelude.{not, nat_le, None}
use Rattle.std.specs.List.{list_all}
use Rattle.std.proofs.lemmas.Bool.{and_parts}
use Rattle.jade_alphabet.specs.declared.TheConstants.{WORD_LIMIT, EXPRESSION_LIMIT}
use Rattle.jade_base.specs.declared.place.Pos.{Pos}
use Rattle.jade_lexer.specs.Cut.{IsCut}
use Rattle.jade_lexer.specs.Lexemes.{TokenAt, TokenList}
use Rattle.jade_lexer.specs.Reading.{reading, Whole, first_spot}
use Rattle.jade_syntax.specs.declared.shapes.place.BlockKind.TheVariants.{Main}
use Rattle.jade_syntax.specs.declared.tree.Program.{Program}
use Rattle.jade_syntax.specs.declared.tree.Statement.{Statement}
use Rattle.jade_parser.specs.Spelled.{Part, Parts, is_valid, tokens_of}
use Rattle.jade_parser.specs.Kinds.{token_of_bytes}
use Rattle.jade_parser.specs.Statements.{braced, statement_parts}
use Rattle.jade_parser.specs.Programs.{program_parts}
use Rattle.jade_parser.specs.Grammar.{IsReading, bytes_of, texts}
use Rattle.jade_parser.proofs.Known.{back}
use Rattle.proc_expand.specs.Words.{signs, those}
use Rattle.proc_expand.specs.Refusals.{refusal}
use Rattle.proc_expand.specs.Written.{MadeToken, CallWriter, from, in_procedure, write_places, text_names, fresh_name, expansion, expanded_text}
use Rattle.proc_laws.specs.SourceTree.{Spokens, SourceText}
use Rattle.proc_laws.specs.SourceReading.{main_parts, block_of, is_proper, made_token, expanded_tokens}
use Rattle.proc_laws.specs.AcceptedSource.{ReadsAsSource}
use Rattle.proc_laws.specs.ExpandedTree.{expanded_tree}
use Rattle.proc_laws.proofs.PlacesInText.{after, Reads}
use Rattle.proc_laws.proofs.PiecesInText.{those_are}
use Rattle.proc_laws.proofs.AllTokens.{expansion_ok, cut_ok}
use Rattle.proc_laws.proofs.TextRead.{text_read}
use Rattle.proc_laws.proofs.ProperTree.{placed_as_source}
use Rattle.proc_laws.proofs.WrittenTree.{as_program, StandsIn, spelled_there, valid_there}
use Rattle.proc_laws.proofs.WrittenMeaning.{are_short}
use Rattle.proc_laws.proofs.TokensAhead.{Says}
use Rattle.proc_laws.proofs.Walking.{all_told}
use Rattle.proc_laws.proofs.CallsRead.{writers, told, Facts}
use Rattle.proc_laws.proofs.Begun.{begun, writers_are}
use Rattle.proc_laws.proofs.PiecesRead.{written, Reached, text_reached}
use Rattle.proc_laws.proofs.PiecesChosen.{onto, all_needs, needs_told, needs_fit, choose}
use Rattle.proc_laws.proofs.SourceStands.{stands}
use Rattle.proc_laws.proofs.PlacedAlike.{placed_alike}

-- ---- tokens that are spelled by parts

-- tokens with the bytes of such parts are said by them
said_by : (us : List MadeToken) (ps : Parts) → bytes_of ps ≡ map (λ (t : TokenAt). t.bytes) (map made_token us)
    → list_all (λ (p : Part). is_valid p.token) ps ≡ true → list_all (λ (p : Part). nat_le p.nth EXPRESSION_LIMIT) ps ≡ true → Says us ps
said_by [] [] e v s = tt
said_by [] (p ∷ ps) e v s = absurd (cc)
said_by (u ∷ us) [] e v s = absurd (cc)
said_by (u ∷ us) (p ∷ ps) e v s =
    let b = and_parts (is_valid p.token) (list_all (λ (q : Part). is_valid q.token) ps) v in
    let c = and_parts (nat_le p.nth EXPRESSION_LIMIT) (list_all (λ (q : Part). nat_le q.nth EXPRESSION_LIMIT) ps) s in
    (record { bytes = sym (ap (first_or []) e); valid = b.0; short = c.0 }, said_by us ps (ap rest_of e) b.1 c.1)
  where
    first_or : List ℕ → List (List ℕ) → List ℕ
    first_or d [] = d
    first_or d (x ∷ xs) = x

    rest_of : List (List ℕ) → List (List ℕ)
    rest_of [] = []
    rest_of (x ∷ xs) = xs

tokens_back : (ps : Parts) → list_all (λ (q : Part). is_valid q.token) ps ≡ true → tokens_of ps ≡ map token_of_bytes (bytes_of ps)
tokens_back [] e = refl
tokens_back (p ∷ ps) e =
    let b = and_parts (is_valid p.token) (list_all (λ (q : Part). is_valid q.token) ps) e in λ i. sym (back p.token b.0) i ∷ tokens_back ps b.1 i

-- `main` stands at a place, what is told of its calls holds, and it ends the text
pub record MainStands (ts : List TokenAt) (end : Pos) (k : ℕ) : Type 0 where
  pub main : Spokens
  pub reads : Reads ts end k (braced (block_of main))
  pub ends : after k (braced (block_of main)) ≡ length ts
  pub sound : all_told (told ts end (begun (signs ts) (length ts))) main

-- wherever what is written to the end of a text is spelled by a block, it stands there
pub record MainReads (ts : List TokenAt) (end : Pos) : Type 0 where
  pub by : (k m : ℕ) (ys : List Statement) → k + m ≡ length ts
      → Says (write_places ts end (writers ts end (begun (signs ts) (length ts))) (λ x. x) 0 (from ts end k m) 0).tokens (braced (map statement_parts ys))
      → MainStands ts end k

module _ (l : TokenList) (facts : Facts l.lexemes l.end (begun (signs l.lexemes) (length l.lexemes)) (length l.lexemes)) (mains : MainReads l.lexemes l.end) where
  written_is : expansion l.lexemes l.end ≡ written l.lexemes l.end facts 0 (length l.lexemes)
  written_is =
      ap (λ (c : CallWriter l.lexemes l.end). (write_places l.lexemes l.end c (λ x. x) 0 (those (length l.lexemes) (λ k. not (in_procedure l.lexemes l.end k))) 0).tokens)
      (writers_are l.lexemes l.end)
      ∙ ap (λ (ks : List ℕ). (write_places l.lexemes l.end (writers l.lexemes l.end (begun (signs l.lexemes) (length l.lexemes))) (λ x. x) 0 ks 0).tokens)
      (those_are l.lexemes l.end (length l.lexemes) (λ k. not (in_procedure l.lexemes l.end k)))

  -- a source that stands in the text
  record Standing : Type 0 where
    source : SourceText
    is : StandsIn l source

  standing_by : (b : Parts) → Reached l.lexemes l.end facts b → ((r : Reached l.lexemes l.end facts b) → MainStands l.lexemes l.end (suc r.place)) → Standing
  standing_by b r f =
      let m = f r in
      let c = choose l.lexemes l.end r.track (all_needs m.main)
      (needs_told (told l.lexemes l.end (begun (signs l.lexemes) (length l.lexemes))) m.main m.sound) in
      record {
        source = record { pieces = onto c.pieces []; main = m.main };
        is = stands l (record { pieces = onto c.pieces []; main = m.main }) (c.here [] tt)
            (subst (λ (i : ℕ). Reads l.lexemes l.end i (main_parts m.main)) (sym (c.place [])) (r.word, m.reads))
            (ap (λ (i : ℕ). after i (main_parts m.main)) (c.place []) ∙ m.ends)
            (c.fits [] m.main (needs_fit c.pieces m.main c.taken));
      }

  standing : (p : Program) → Says (expansion l.lexemes l.end) (program_parts p) → Standing
  standing p s =
      let b : Parts = braced (map statement_parts p.main) in
      standing_by b (text_reached l.lexemes l.end facts p.items b
      (subst (Says (written l.lexemes l.end facts 0 (length l.lexemes))) (sym (as_program p)) (subst (λ (us : List MadeToken). Says us (program_parts p)) written_is s)))
      (λ r. mains.by (suc r.place) r.togo p.main r.counts r.rest)

-- ---- and its statements stand where the grammar has them

module _ (l : TokenList) (none_refused : refusal l.lexemes ≡ None) (there : TokenList) (same : texts there ≡ texts (expanded_tokens l)) (p : Program)
    (read : IsReading there p) where
  words : list_all (λ (t : MadeToken). nat_le (length t.bytes) WORD_LIMIT) (expansion l.lexemes l.end) ≡ true
  words = are_short (expansion l.lexemes l.end) (program_parts p) (read.spelled ∙ same) read.sound.valid.is

  proper_source : (q : SourceText) → StandsIn l q → is_proper q ≡ true
  proper_source q s =
      let fresh = fresh_name (text_names l.lexemes l.end) in
      let valid = valid_there l q s none_refused (record { each = words }) in
      sym (placed_as_source fresh q)
      ∙ sym (placed_alike p (expanded_tree fresh q)
      (tokens_back (program_parts p) read.sound.valid.is ∙ ap (map token_of_bytes) (read.spelled ∙ same ∙ sym (spelled_there l q s none_refused))
      ∙ sym (tokens_back (program_parts (expanded_tree fresh q)) valid)) Main)
      ∙ read.sound.proper.is.is

  said : Says (expansion l.lexemes l.end) (program_parts p)
  said = said_by (expansion l.lexemes l.end) (program_parts p) (read.spelled ∙ same) read.sound.valid.is read.short.is

  pub source_read : Facts l.lexemes l.end (begun (signs l.lexemes) (length l.lexemes)) (length l.lexemes) → MainReads l.lexemes l.end → ReadsAsSource l
  source_read facts mains =
      let s = standing l facts mains p said in
      record {
        source = s.source;
        is = record {
          spelled = s.is.spelled;
          placed = s.is.placed;
          valid = s.is.valid;
          short = s.is.short;
          known = s.is.known;
          proper = proper_source s.source s.is;
        };
      }

-- the tokens that are written for a text stand in the text that is written
pub same_texts : ((text : List ℕ) (tokens : TokenList) → reading text ≡ Whole tokens → IsCut text tokens) → (text : List ℕ) (l : TokenList)
    → reading text ≡ Whole l → (there : TokenList) → reading (expanded_text l) ≡ Whole there → texts there ≡ texts (expanded_tokens l)
same_texts cut text l h there r =
    text_read l there (expansion_ok l.lexemes l.end (cut_ok l.end first_spot text l.lexemes (cut text l h))) r

-- What the tokens that are written for a source read as does what the source does.
use Rattle.std.proofs.Common.{◌≡◌, ℕ, ◌^◌, ◌<◌, ◌≤◌, Bool, true, false, ◌&&◌, List, [], ◌∷◌, length, map, refl, sym, ap, ◌∙◌, subst, arith}
use Rattle.std.specs.Prelude.{ℤ, not, nat_le, None}
use Rattle.std.specs.List.{list_all}
use Rattle.std.specs.Fmt.{decimal}
use Rattle.std.proofs.lemmas.Fmt.{length-decimal-le}
use Rattle.std.proofs.lemmas.Bool.{and_parts, leb-true, le-leb}
use Rattle.jade_alphabet.specs.declared.TheConstants.{WORD_LIMIT}
use Rattle.jade_base.specs.declared.place.Pos.{Pos}
use Rattle.jade_lexer.specs.Lexemes.{TokenAt, TokenList}
use Rattle.jade_syntax.specs.declared.tree.Program.{Program}
use Rattle.jade_syntax.specs.Names.{is_reserved}
use Rattle.jade_alphabet.specs.Letters.{is_word}
use Rattle.jade_syntax.specs.Erased.{erased_program}
use Rattle.jade_syntax.specs.Image.{program}
use Rattle.jade_syntax.specs.PlacedImage.{placed_program}
use Rattle.jade_syntax.specs.StaticFaults.{static_faults}
use Rattle.jade_parser.specs.declared.Sign as lexicon
use Rattle.jade_parser.specs.declared.Sign.TheVariants.{InputWord}
use Rattle.jade_parser.specs.Spelled.{Token, Fixed, Called, Counted, Unknown, Part, Parts, Agrees, is_valid}
use Rattle.jade_parser.specs.Kinds.{token_bytes, sign_bytes}
use Rattle.jade_parser.specs.Programs.{program_parts}
use Rattle.jade_parser.specs.Grammar.{IsReading, bytes_of, texts, positions}
use Rattle.jade_meaning.specs.Course.{root_course}
use Rattle.proc_expand.specs.Expanded.{origin_of}
use Rattle.proc_expand.specs.Refusals.{refusal}
use Rattle.proc_expand.specs.Written.{MadeToken, text_names, fresh_name, expansion, expanded_text}
use Rattle.replaced_trees.specs.MovedTree.{token_moved, tokens_moved}
use Rattle.proc_laws.specs.ExpandedTree.{expanded_tree}
use Rattle.proc_laws.specs.Moved.{moved_course}
use Rattle.proc_laws.specs.SourceMeaning.{source_course}
use Rattle.proc_laws.specs.SourceTree.{SourceText, source_of}
use Rattle.proc_laws.specs.SourceReading.{IsSourceReading, made_token, expanded_tokens}
use Rattle.proc_laws.proofs.TokensToSource.{tokens_do}
use Rattle.jade_lexer.specs.Reading.{reading, Whole}
use Rattle.proc_laws.proofs.TextRead.{text_read}
use Rattle.proc_laws.proofs.TextPlaces.{places_come}
use Rattle.proc_laws.proofs.WrittenTree.{written_reads, all_tokens}
use Rattle.proc_laws.proofs.WrittenNames.{items_listed, main_listed}

-- ---- tokens of a program are no longer than a word may be

sign_short : (s : lexicon.Sign) → nat_le (length (sign_bytes s)) WORD_LIMIT ≡ true
sign_short InputWord = refl
sign_short s = refl

first_of_three : (a b c : Bool) → (a && b && c) ≡ true → a ≡ true
first_of_three true b c h = refl
first_of_three false b c h = absurd (cc)

pub token_short : (t : Token) → is_valid t ≡ true → nat_le (length (token_bytes t)) WORD_LIMIT ≡ true
token_short (Fixed s) h = sign_short s
token_short (Called x) h = first_of_three (nat_le (length x) WORD_LIMIT) (is_word x) (not (is_reserved x)) h
token_short (Counted (ℤ.pos n)) h =
    let m = leb-true n 9223372036854775807 h in
    let s : length (decimal n) ≤ 20 = length-decimal-le 20 n (omega arith) (let big : 9223372036854775807 < 10 ^ 20 = omega arith in omega (arith, m, big)) (omega (arith, m)) in
    le-leb (length (decimal n)) WORD_LIMIT (omega (arith, s))
token_short (Counted (ℤ.negsuc n)) h = absurd (cc)
token_short Unknown h = absurd (cc)

-- whatever has the bytes of such parts
pub are_short : (us : List MadeToken) (ps : Parts) → bytes_of ps ≡ map (λ (t : TokenAt). t.bytes) (map made_token us)
    → list_all (λ (p : Part). is_valid p.token) ps ≡ true → list_all (λ (t : MadeToken). nat_le (length t.bytes) WORD_LIMIT) us ≡ true
are_short [] ps e v = refl
are_short (u ∷ us) [] e v = absurd (cc)
are_short (u ∷ us) (p ∷ ps) e v =
    let b = and_parts (is_valid p.token) (list_all (λ (q : Part). is_valid q.token) ps) v in
    let f : token_bytes p.token ≡ u.bytes = ap (first_or []) e in
    λ i. (ap (λ (x : List ℕ). nat_le (length x) WORD_LIMIT) (sym f) ∙ token_short p.token b.0) i && are_short us ps (ap rest_of e) b.1 i
  where
    first_or : List ℕ → List (List ℕ) → List ℕ
    first_or d [] = d
    first_or d (x ∷ xs) = x

    rest_of : List (List ℕ) → List (List ℕ)
    rest_of [] = []
    rest_of (x ∷ xs) = xs

-- ---- tokens elsewhere

texts_stay : (f : Pos → Pos) (ts : List TokenAt) → map (λ (t : TokenAt). t.bytes) ts ≡ map (λ (t : TokenAt). t.bytes) (map (token_moved f) ts)
texts_stay f [] = refl
texts_stay f (t ∷ ts) = ap (λ (l : List (List ℕ)). t.bytes ∷ l) (texts_stay f ts)

places_move : (f : Pos → Pos) (ts : List TokenAt) → map f (map (λ (t : TokenAt). t.pos) ts) ≡ map (λ (t : TokenAt). t.pos) (map (token_moved f) ts)
places_move f [] = refl
places_move f (t ∷ ts) = ap (λ (l : List Pos). f t.pos ∷ l) (places_move f ts)

-- what is read depends on bytes and places
read_alike : (a b : TokenList) (p : Program) → texts a ≡ texts b → positions a ≡ positions b → IsReading a p → IsReading b p
read_alike a b p e f r =
    record { spelled = r.spelled ∙ e; placed = subst (λ (ps : List Pos). Agrees ps 0 (program_parts p)) f r.placed; sound = r.sound; short = r.short }

-- what reads as a program, each token at its origin, reads as the expanded tree
pub there_reads : (origin : Pos → Pos) (l : TokenList) (q : SourceText) → IsSourceReading l q → refusal l.lexemes ≡ None
    → (there : TokenList) → texts there ≡ texts (expanded_tokens l) → map origin (positions there) ≡ positions (expanded_tokens l)
    → (p : Program) → IsReading there p → IsReading (tokens_moved origin there) (expanded_tree (fresh_name (text_names l.lexemes l.end)) q)
there_reads origin l q r none_refused there e f p read =
    read_alike (expanded_tokens l) (tokens_moved origin there) (expanded_tree (fresh_name (text_names l.lexemes l.end)) q)
    (sym e ∙ texts_stay origin there.lexemes) (sym f ∙ places_move origin there.lexemes)
    (written_reads l q r none_refused
    (record { each = are_short (expansion l.lexemes l.end) (program_parts p) (read.spelled ∙ e) read.sound.valid.is }))

module _ (whole : (p : Program) → erased_program (placed_program p) ≡ program p)
    (one : (tokens : TokenList) (p q : Program) → IsReading tokens p → IsReading tokens q → placed_program p ≡ placed_program q) where
  pub written_does : (origin : Pos → Pos) (l : TokenList) (q : SourceText) → IsSourceReading l q → refusal l.lexemes ≡ None
      → (there : TokenList) → texts there ≡ texts (expanded_tokens l) → map origin (positions there) ≡ positions (expanded_tokens l)
      → (p : Program) → IsReading there p → static_faults (placed_program p) ≡ [] → (ns : List ℤ) (limit : ℕ)
      → moved_course origin (root_course (program p) ns limit) ≡ source_course (source_of q) ns limit
  written_does origin l q r none_refused there e f p read faultless ns limit =
      tokens_do whole one origin (text_names l.lexemes l.end) q (items_listed l q r none_refused) (main_listed l q r none_refused) there
      (there_reads origin l q r none_refused there e f p read) p read faultless ns limit

  -- the text that is written, where it reads as tokens
  pub text_does : (l : TokenList) (q : SourceText) → IsSourceReading l q → refusal l.lexemes ≡ None
      → (there : TokenList) → reading (expanded_text l) ≡ Whole there
      → (p : Program) → IsReading there p → static_faults (placed_program p) ≡ [] → (ns : List ℤ) (limit : ℕ)
      → moved_course (origin_of (record { tokens = expansion l.lexemes l.end; end = l.end })) (root_course (program p) ns limit)
      ≡ source_course (source_of q) ns limit
  text_does l q r none_refused there e p read faultless ns limit =
      let h = all_tokens l q r none_refused in
      written_does (origin_of (record { tokens = expansion l.lexemes l.end; end = l.end })) l q r none_refused there (text_read l there h e) (places_come l there h e)
      p read faultless ns limit

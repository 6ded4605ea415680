-- The text that is written for a source reads as the tokens that are written, where it reads as tokens at all.
use Rattle.std.proofs.Common.{◌≡◌, ℕ, ◌+◌, ◌<◌, Bool, true, false, ◌&&◌, ◌||◌, List, [], ◌∷◌, ◌++◌, length, map, take, drop, codes, Result, Ok, Err, refl, sym, ap, ◌∙◌, ⊎_elim, arith}
use Rattle.std.specs.Prelude.{not, nat_le, nat_lt, ◌==◌, if◌then◌else◌}
use Rattle.std.specs.List.{list_all, list_any}
use Rattle.std.specs.Char.{is_ascii_digit}
use Rattle.std.proofs.lemmas.Bool.{and_parts, and_right, or_from, or_cases, cond-false, eqb-true, not-true}
use Rattle.std.proofs.lemmas.List.{append_assoc, length-append}
use Rattle.jade_alphabet.specs.declared.TheConstants.{WORD_LIMIT, DEPTH_LIMIT}
use Rattle.jade_alphabet.specs.Letters.{is_letter, is_letter_or_digit, is_word}
use Rattle.jade_base.specs.declared.place.Pos.{Pos}
use Rattle.jade_lexer.specs.declared.lexeme.LexError.{LexError}
use Rattle.jade_lexer.specs.declared.lexeme.LexError.TheVariants.{Byte, Number, Deep}
use Rattle.jade_lexer.specs.Alphabet.{is_token, is_run, is_symbol, is_single, is_pair, is_number, is_opener, longest}
use Rattle.jade_lexer.specs.Lexemes.{TokenAt, TokenList}
use Rattle.jade_lexer.specs.Reading.{Reading, Whole, Refused, add, first_part, token_part, read_from, reading, first_spot, spot_after, depth_after, next_pos, pos_after}
use Rattle.jade_lexer.proofs.Longest.{longest_is}
use Rattle.jade_lexer.proofs.Parts.{part_token, part_separator}
use Rattle.jade_lexer.proofs.Steps.{blank_read, token_read, refused_read}
use Rattle.jade_layout.proofs.Apart.{cutters, apart_cutter, apart_longest}
use Rattle.jade_parser.specs.Grammar.{texts}
use Rattle.proc_expand.specs.Written.{MadeToken, expansion, spaced, expanded_text}
use Rattle.proc_laws.specs.SourceReading.{made_token, expanded_tokens}

-- ---- one token, and what comes after it

taken : (a b : List ℕ) → take (length a) (a ++ b) ≡ a
taken [] b = refl
taken (x ∷ a) b = ap (λ (l : List ℕ). x ∷ l) (taken a b)

dropped : (a b : List ℕ) → drop (length a) (a ++ b) ≡ b
dropped [] b = refl
dropped (x ∷ a) b = dropped a b

-- tokens with one in front of what is read then
record Front (reads : Reading) (t : TokenAt) (tokens : TokenList) : Type 0 where
  rest : TokenList
  next : reads ≡ Whole rest
  is : tokens.lexemes ≡ t ∷ rest.lexemes

no_refusal : {R : Type 0} (e : LexError) (tokens : TokenList) → Refused e ≡ Whole tokens → R
no_refusal e tokens h = absurd (cc)

-- what a token comes to: itself, unless it is refused
either : {R P : Type 0} (a b c d : Bool) (e f g h : LexError) (itself : P) (r : Result P LexError)
    → r ≡ (if a then Err e else (if b then Err f else (if c then Err g else (if d then Err h else Ok itself))))
    → ((x : LexError) → r ≡ Err x → R) → (r ≡ Ok itself → R) → R
either true b c d e f g h n r s bad good = bad e s
either false true c d e f g h n r s bad good = bad f s
either false false true d e f g h n r s bad good = bad g s
either false false false true e f g h n r s bad good = bad h s
either false false false false e f g h n r s bad good = good s

abbrev lexemes_or : List TokenAt → Reading → List TokenAt
lexemes_or d (Whole l) = l.lexemes
lexemes_or d (Refused x) = d

added : (token : TokenAt) (tokens : TokenList) (reads : Reading) → add token reads ≡ Whole tokens → Front reads token tokens
added token tokens (Whole rest) h = record { rest = rest; next = refl; is = sym (ap (lexemes_or []) h) }
added token tokens (Refused x) h = no_refusal x tokens h

front : (spot : _) (b : ℕ) (t : List ℕ) (c : ℕ) (more : List ℕ) (tokens : TokenList) → read_from 0 spot (b ∷ t ++ c ∷ more) ≡ Whole tokens
    → is_token (b ∷ t) ≡ true → list_any (λ x. x == c) cutters ≡ true
    → Front (read_from 0 (spot_after spot (b ∷ t) (depth_after spot.depth b)) (c ∷ more)) (record { bytes = b ∷ t; start = spot.start; pos = spot.pos }) tokens
front spot b t c more tokens h is cut =
    let bytes : List ℕ = b ∷ t ++ c ∷ more in
    let l = apart_longest (b ∷ t) c more is (apart_cutter (b ∷ t) c is cut) in
    let some : 0 < length bytes = omega arith in
    let many = length-append (b ∷ t) (c ∷ more) in
    let long : longest bytes ≡ length (b ∷ t) =
    longest_is bytes (length (b ∷ t)) (omega (arith, many)) (ap is_token (taken (b ∷ t) (c ∷ more)) ∙ is) (λ k over under. l.longest k over under) in
    let part : first_part spot bytes ≡ token_part spot (b ∷ t) (drop (longest bytes) bytes) =
    part_token spot bytes l.no_separator l.no_comment
    ∙ ap (λ (u : List ℕ). token_part spot u (drop (longest bytes) bytes)) (ap (λ n. take n bytes) long ∙ taken (b ∷ t) (c ∷ more)) in
    either (length (b ∷ t) == 0) (is_letter b && nat_lt WORD_LIMIT (length (b ∷ t))) (is_ascii_digit b && not (is_number (b ∷ t) (drop (longest bytes) bytes)))
    (is_opener b && nat_le DEPTH_LIMIT spot.depth) (Byte spot.pos) (Byte (pos_after spot.pos (take WORD_LIMIT (b ∷ t)))) (Number spot.pos) (Deep spot.pos)
    _ (first_part spot bytes) part
    (λ x g. no_refusal x tokens (sym (refused_read spot bytes x some (sym g)) ∙ h))
    (λ g. added (record { bytes = b ∷ t; start = spot.start; pos = spot.pos }) tokens
    (read_from 0 (spot_after spot (b ∷ t) (depth_after spot.depth b)) (c ∷ more))
    ((λ i. add (record { bytes = sym (taken (b ∷ t) (c ∷ more)) i; start = spot.start; pos = spot.pos })
    (read_from 0 (spot_after spot (sym (taken (b ∷ t) (c ∷ more)) i) (depth_after spot.depth b)) (sym (dropped (b ∷ t) (c ∷ more)) i)))
    ∙ sym (token_read spot bytes (length (b ∷ t)) some (omega arith) (sym g)) ∙ h))

-- ---- no token has a line feed

but : (p : ℕ → Bool) → p 10 ≡ false → (b : ℕ) → p b ≡ true → not (b == 10) ≡ true
but p n b h = by (b == 10) refl
  where
    by : (t : Bool) → (b == 10) ≡ t → not t ≡ true
    by true e = absurd (let f : p b ≡ p 10 = ap p (eqb-true b 10 e) in cc)
    by false e = refl

all_but : (p : ℕ → Bool) → p 10 ≡ false → (x : List ℕ) → list_all p x ≡ true → list_all (λ b. not (b == 10)) x ≡ true
all_but p n [] h = refl
all_but p n (b ∷ x) h = let g = and_parts (p b) (list_all p x) h in λ i. but p n b g.0 i && all_but p n x g.1 i

feed_before : (b : ℕ) → is_pair 10 b ≡ false
feed_before b =
    or_from (b == 61 && list_any (λ c. c == 10) (codes "=!<>")) (b == 10 && list_any (λ c. c == 10) (codes "&|."))
    (and_right (b == 61) (list_any (λ c. c == 10) (codes "=!<>")) refl) (and_right (b == 10) (list_any (λ c. c == 10) (codes "&|.")) refl)

feed_after : (a : ℕ) → is_pair a 10 ≡ false
feed_after a = by (10 == a) refl
  where
    by : (t : Bool) → (10 == a) ≡ t → (t && list_any (λ c. c == a) (codes "&|.")) ≡ false
    by true e = ap (λ k. list_any (λ c. c == k) (codes "&|.")) (sym (eqb-true 10 a e))
    by false e = refl

no_feed : (x : List ℕ) → is_token x ≡ true → list_all (λ b. not (b == 10)) x ≡ true
no_feed [] h = refl
no_feed (b ∷ x) h =
    ⊎_elim
    (λ k. ⊎_elim (λ w. let g = and_parts (is_letter b) (list_all is_letter_or_digit x) w in λ i. but is_letter refl b g.0 i && all_but is_letter_or_digit refl x g.1 i)
    (λ r. all_but is_ascii_digit refl (b ∷ x) r) (or_cases (is_word (b ∷ x)) (is_run (b ∷ x)) k))
    (symbol x) (or_cases (is_word (b ∷ x) || is_run (b ∷ x)) (is_symbol (b ∷ x)) h)
  where
    symbol : (y : List ℕ) → is_symbol (b ∷ y) ≡ true → list_all (λ b. not (b == 10)) (b ∷ y) ≡ true
    symbol [] s = λ i. but is_single refl b s i && true
    symbol (c ∷ []) s = λ i. but (λ a. is_pair a c) (feed_before c) b s i && (but (is_pair b) (feed_after b) c s i && true)
    symbol (c ∷ d ∷ y) s = absurd (cc)

-- ---- where tokens stand

-- the place in the first line at a column
abbrev in_line : ℕ → Pos
in_line column = record { line = 1; column = column }

-- tokens in the first line, a space between them, from a byte and its column on
abbrev pub laid : (start column : ℕ) → List MadeToken → List TokenAt
laid start column [] = []
laid start column (t ∷ us) =
    record { bytes = t.bytes; start = start; pos = in_line column } ∷ laid (start + length t.bytes + 1) (column + length t.bytes + 1) us

along : (column : ℕ) (x : List ℕ) → list_all (λ b. not (b == 10)) x ≡ true → pos_after (in_line column) x ≡ in_line (column + length x)
along column [] h = ap in_line (omega arith)
along column (b ∷ x) h =
    let g = and_parts (not (b == 10)) (list_all (λ c. not (c == 10)) x) h in
    let n : (b == 10) ≡ false = not-true (b == 10) g.0 in
    ap (λ p. pos_after p x) (cond-false (b == 10) (record { line = 2; column = 1 }) (in_line (column + 1)) n)
    ∙ along (column + 1) x g.1 ∙ ap in_line (omega arith)

-- after a token
after_token : (p : Pos) (column : ℕ) (x : List ℕ) → p ≡ in_line column → is_token x ≡ true → pos_after p x ≡ in_line (column + length x)
after_token p column x at is = ap (λ q. pos_after q x) at ∙ along column x (no_feed x is)

-- ---- all tokens

line_end : (spot : _) (tokens : TokenList) → read_from 0 spot (10 ∷ []) ≡ Whole tokens → tokens.lexemes ≡ []
line_end spot tokens h = sym (ap (lexemes_or []) h)

tokens_read : (us : List MadeToken) → list_all (λ (t : MadeToken). is_token t.bytes) us ≡ true → (spot : _) (tokens : TokenList)
    → read_from 0 spot (spaced us ++ 10 ∷ []) ≡ Whole tokens → (column : ℕ) → spot.pos ≡ in_line column → tokens.lexemes ≡ laid spot.start column us
tokens_read [] h spot tokens r column at = line_end spot tokens r
tokens_read (t ∷ []) h spot tokens r column at = last t.bytes (and_parts (is_token t.bytes) true h).0 r
  where
    last : (x : List ℕ) → is_token x ≡ true → read_from 0 spot (x ++ 10 ∷ []) ≡ Whole tokens
        → tokens.lexemes ≡ record { bytes = x; start = spot.start; pos = in_line column } ∷ []
    last [] g k = absurd (cc)
    last (b ∷ x) g k =
        let f = front spot b x 10 [] tokens k g refl in
        let end = line_end (spot_after spot (b ∷ x) (depth_after spot.depth b)) f.rest f.next in
        f.is ∙ (λ i. record { bytes = b ∷ x; start = spot.start; pos = at i } ∷ end i)
tokens_read (t ∷ u ∷ us) h spot tokens r column at =
    let g = and_parts (is_token t.bytes) (list_all (λ (t : MadeToken). is_token t.bytes) (u ∷ us)) h in
    more t.bytes (spaced (u ∷ us)) (λ start c. laid start c (u ∷ us)) g.0 (λ next rest k c p. tokens_read (u ∷ us) g.1 next rest k c p) r
  where
    more : (x ys : List ℕ) (zs : ℕ → ℕ → List TokenAt) → is_token x ≡ true
        → ((next : _) (rest : TokenList) → read_from 0 next (ys ++ 10 ∷ []) ≡ Whole rest → (c : ℕ) → next.pos ≡ in_line c → rest.lexemes ≡ zs next.start c)
        → read_from 0 spot ((x ++ 32 ∷ ys) ++ 10 ∷ []) ≡ Whole tokens
        → tokens.lexemes ≡ record { bytes = x; start = spot.start; pos = in_line column } ∷ zs (spot.start + length x + 1) (column + length x + 1)
    more [] ys zs g go k = absurd (cc)
    more (b ∷ x) ys zs g go k =
        let f = front spot b x 32 (ys ++ 10 ∷ []) tokens (ap (read_from 0 spot) (sym (append_assoc (b ∷ x) (32 ∷ ys) (10 ∷ []))) ∙ k) g refl in
        let there = spot_after spot (b ∷ x) (depth_after spot.depth b) in
        let later =
        go (spot_after there (32 ∷ []) there.depth) f.rest
        (sym (blank_read there (32 ∷ (ys ++ 10 ∷ [])) 1 (omega arith) (omega arith) (sym (part_separator there (32 ∷ (ys ++ 10 ∷ [])) refl))) ∙ f.next)
        (column + length (b ∷ x) + 1) (ap (λ p. next_pos p 32) (after_token spot.pos column (b ∷ x) at g)) in
        f.is ∙ (λ i. record { bytes = b ∷ x; start = spot.start; pos = at i } ∷ later i)

-- where each token stands is told by the lengths of those before it
pub text_laid : (l there : TokenList) → list_all (λ (t : MadeToken). is_token t.bytes) (expansion l.lexemes l.end) ≡ true
    → reading (expanded_text l) ≡ Whole there → there.lexemes ≡ laid 0 1 (expansion l.lexemes l.end)
text_laid l there h r = tokens_read (expansion l.lexemes l.end) h first_spot there r 1 refl

bytes_laid : (start column : ℕ) (us : List MadeToken) → map (λ (t : TokenAt). t.bytes) (laid start column us) ≡ map (λ (t : TokenAt). t.bytes) (map made_token us)
bytes_laid start column [] = refl
bytes_laid start column (t ∷ us) = ap (λ (l : List (List ℕ)). t.bytes ∷ l) (bytes_laid (start + length t.bytes + 1) (column + length t.bytes + 1) us)

pub text_read : (l there : TokenList) → list_all (λ (t : MadeToken). is_token t.bytes) (expansion l.lexemes l.end) ≡ true
    → reading (expanded_text l) ≡ Whole there → texts there ≡ texts (expanded_tokens l)
text_read l there h r = ap (map (λ (t : TokenAt). t.bytes)) (text_laid l there h r) ∙ bytes_laid 0 1 (expansion l.lexemes l.end)

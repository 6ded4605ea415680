-- What stands first at a spot, by what the bytes begin with.
use Rattle.std.proofs.Common.{
  ◌≡◌,
  ℕ,
  suc,
  ◌+◌,
  ◌<◌,
  Bool,
  true,
  false,
  not,
  cond,
  ◌&&◌,
  List,
  [],
  ◌∷◌,
  ◌++◌,
  length,
  take,
  drop,
  get_or,
  Result,
  Ok,
  Err,
  refl,
  sym,
  ap,
  subst,
  ◌∙◌,
  ⊎_elim,
  arith,
}
use Rattle.std.proofs.Math.Dec.{eqb, ltb}
use Rattle.std.specs.List.{list_all, prefix_len}
use Rattle.std.specs.Char.{is_ascii_digit}
use Rattle.std.proofs.lemmas.Bool.{cond-true, cond-false, and_parts, cases_Bool, true≢false, eqb-true, eq-eqb}
use Rattle.std.proofs.Math.Nat.{eq-zero-or-pos}
use Rattle.jade_lexer.specs.declared.lexeme.LexError.{LexError}
use Rattle.jade_lexer.specs.declared.lexeme.LexError.TheVariants.{Byte, Number, Deep}
use Rattle.jade_lexer.specs.declared.lexer.Part.{Part}
use Rattle.jade_lexer.specs.declared.lexer.Part.TheVariants.{Blank, Token}
use Rattle.jade_lexer.specs.declared.lexer.Spot.{Spot}
use Rattle.jade_lexer.specs.Alphabet.{is_separator, is_number, is_opener, longest}
use Rattle.jade_alphabet.specs.Letters.{is_letter}
use Rattle.jade_lexer.specs.Reading.{first_part, token_part, begins_comment, pos_after}
use Rattle.jade_lexer.specs.Cut.{EndsLine}

-- how long a line's bytes are
abbrev pub line_len : List ℕ → ℕ
line_len bytes = prefix_len (λ c. not (eqb c 10)) bytes

abbrev rest_part : Spot → List ℕ → Result Part LexError
rest_part spot bytes = token_part spot (take (longest bytes) bytes) (drop (longest bytes) bytes)

pub part_separator : (spot : Spot) (bytes : List ℕ) → is_separator (get_or bytes 0 0) ≡ true → first_part spot bytes ≡ Ok (Blank 1)
part_separator spot bytes separator =
    cond-true (is_separator (get_or bytes 0 0)) (Ok (Blank 1)) (cond (begins_comment bytes) (Ok (Blank (line_len bytes))) (rest_part spot bytes)) separator

pub part_comment : (spot : Spot) (bytes : List ℕ) → is_separator (get_or bytes 0 0) ≡ false → begins_comment bytes ≡ true → first_part spot bytes
    ≡ Ok (Blank (line_len bytes))
part_comment spot bytes separator comment =
    cond-false (is_separator (get_or bytes 0 0)) (Ok (Blank 1)) (cond (begins_comment bytes) (Ok (Blank (line_len bytes))) (rest_part spot bytes)) separator
    ∙ cond-true (begins_comment bytes) (Ok (Blank (line_len bytes))) (rest_part spot bytes) comment

pub part_token : (spot : Spot) (bytes : List ℕ) → is_separator (get_or bytes 0 0) ≡ false → begins_comment bytes ≡ false → first_part spot bytes
    ≡ token_part spot (take (longest bytes) bytes) (drop (longest bytes) bytes)
part_token spot bytes separator comment =
    cond-false (is_separator (get_or bytes 0 0)) (Ok (Blank 1)) (cond (begins_comment bytes) (Ok (Blank (line_len bytes))) (rest_part spot bytes)) separator
    ∙ cond-false (begins_comment bytes) (Ok (Blank (line_len bytes))) (rest_part spot bytes) comment

-- a comment's first byte is no separator
pub comment_no_separator : (bytes : List ℕ) → begins_comment bytes ≡ true → is_separator (get_or bytes 0 0) ≡ false
comment_no_separator bytes comment =
    ap is_separator (eqb-true (get_or bytes 0 0) 47 (and_parts (eqb (get_or bytes 0 0) 47) (eqb (get_or bytes 1 0) 47) comment).0)

-- the tests of a token, in their order
module _ (spot : Spot) (token after : List ℕ) where
  abbrev pub too_long : Bool
  too_long = is_letter (get_or token 0 0) && ltb 64 (length token)

  abbrev pub no_number : Bool
  no_number = is_ascii_digit (get_or token 0 0) && not (is_number token after)

  abbrev pub too_deep : Bool
  too_deep = is_opener (get_or token 0 0) && ltb 63 spot.depth

  abbrev from_deep : Result Part LexError
  from_deep = cond too_deep (Err (Deep spot.pos)) (Ok (Token (length token)))

  abbrev from_number : Result Part LexError
  from_number = cond no_number (Err (Number spot.pos)) from_deep

  abbrev from_long : Result Part LexError
  from_long = cond too_long (Err (Byte (pos_after spot.pos (take 64 token)))) from_number

  pub token_none : eqb (length token) 0 ≡ true → token_part spot token after ≡ Err (Byte spot.pos)
  token_none none = cond-true (eqb (length token) 0) (Err (Byte spot.pos)) from_long none

  pub token_long : eqb (length token) 0 ≡ false → too_long ≡ true → token_part spot token after ≡ Err (Byte (pos_after spot.pos (take 64 token)))
  token_long some long = cond-false (eqb (length token) 0) (Err (Byte spot.pos)) from_long some
      ∙ cond-true too_long (Err (Byte (pos_after spot.pos (take 64 token)))) from_number long

  pub token_number : eqb (length token) 0 ≡ false → too_long ≡ false → no_number ≡ true → token_part spot token after ≡ Err (Number spot.pos)
  token_number some long number =
      cond-false (eqb (length token) 0) (Err (Byte spot.pos)) from_long some
      ∙ cond-false too_long (Err (Byte (pos_after spot.pos (take 64 token)))) from_number long
      ∙ cond-true no_number (Err (Number spot.pos)) from_deep number

  pub token_deep : eqb (length token) 0 ≡ false → too_long ≡ false → no_number ≡ false → too_deep ≡ true → token_part spot token after ≡ Err (Deep spot.pos)
  token_deep some long number deep =
      cond-false (eqb (length token) 0) (Err (Byte spot.pos)) from_long some
      ∙ cond-false too_long (Err (Byte (pos_after spot.pos (take 64 token)))) from_number long
      ∙ cond-false no_number (Err (Number spot.pos)) from_deep number ∙ cond-true too_deep (Err (Deep spot.pos)) (Ok (Token (length token))) deep

  pub token_fine : eqb (length token) 0 ≡ false → too_long ≡ false → no_number ≡ false → too_deep ≡ false → token_part spot token after
      ≡ Ok (Token (length token))
  token_fine some long number deep =
      cond-false (eqb (length token) 0) (Err (Byte spot.pos)) from_long some
      ∙ cond-false too_long (Err (Byte (pos_after spot.pos (take 64 token)))) from_number long
      ∙ cond-false no_number (Err (Number spot.pos)) from_deep number ∙ cond-false too_deep (Err (Deep spot.pos)) (Ok (Token (length token))) deep

-- a comment's line is the comment, where a line could end after it
pub line_len_is : (blank after : List ℕ) → list_all (λ c. not (eqb c 10)) blank ≡ true → EndsLine after → line_len (blank ++ after) ≡ length blank
line_len_is [] [] whole ends = refl
line_len_is [] (b ∷ after) whole ends = cond-false (not (eqb b 10)) (1 + line_len after) 0 (ap not (eq-eqb b 10 ends))
line_len_is (b ∷ blank) after whole ends =
    let parts = and_parts (not (eqb b 10)) (list_all (λ c. not (eqb c 10)) blank) whole in
    cond-true (not (eqb b 10)) (1 + line_len (blank ++ after)) 0 parts.0
    ∙ (let so : line_len (blank ++ after) ≡ length blank = line_len_is blank after parts.1 ends in omega arith)

line_len-cons : (b : ℕ) (bytes : List ℕ) → eqb b 10 ≡ false → line_len (b ∷ bytes) ≡ suc (line_len bytes)
line_len-cons b bytes other = cond-true (not (eqb b 10)) (1 + line_len bytes) 0 (ap not other) ∙ omega arith

-- what follows a line ends it
pub line_ends : (bytes : List ℕ) → EndsLine (drop (line_len bytes) bytes)
line_ends [] = tt
line_ends (b ∷ bytes) =
    ⊎_elim
    (λ feed. subst (λ n. EndsLine (drop n (b ∷ bytes))) (sym (cond-false (not (eqb b 10)) (1 + line_len bytes) 0 (ap not feed))) (eqb-true b 10 feed))
    (λ other. subst (λ n. EndsLine (drop n (b ∷ bytes))) (sym (line_len-cons b bytes other)) (line_ends bytes))
    (cases_Bool (eqb b 10))

-- a comment's line has its two slashes
pub line_begins : (bytes : List ℕ) → begins_comment bytes ≡ true → begins_comment (take (line_len bytes) bytes) ≡ true
line_begins [] comment = absurd (true≢false (sym comment))
line_begins (a ∷ []) comment = absurd (true≢false (sym (and_parts (eqb a 47) false comment).1))
line_begins (a ∷ b ∷ bytes) comment =
    let parts = and_parts (eqb a 47) (eqb b 47) comment in
    let first : eqb a 10 ≡ false = ap (λ x. eqb x 10) (eqb-true a 47 parts.0) in
    let second : eqb b 10 ≡ false = ap (λ x. eqb x 10) (eqb-true b 47 parts.1) in
    subst (λ n. begins_comment (take n (a ∷ b ∷ bytes)) ≡ true) (sym (line_len-cons a (b ∷ bytes) first ∙ ap suc (line_len-cons b bytes second))) comment

pub line_some : (bytes : List ℕ) → begins_comment bytes ≡ true → 0 < line_len bytes
line_some bytes comment =
    ⊎_elim
    (λ none. absurd (true≢false (sym (subst (λ n. begins_comment (take n bytes) ≡ true) none (line_begins bytes comment)))))
    (λ some. some)
    (eq-zero-or-pos (line_len bytes))

pub begins_more : (front after : List ℕ) → begins_comment front ≡ true → begins_comment (front ++ after) ≡ true
begins_more [] after comment = absurd (true≢false (sym comment))
begins_more (a ∷ []) after comment = absurd (true≢false (sym (and_parts (eqb a 47) false comment).1))
begins_more (a ∷ b ∷ front) after comment = comment

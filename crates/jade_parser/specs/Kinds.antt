-- What the bytes of a token say that it is.
use Rattle.std.specs.Prelude.{◌≡◌, ℕ, ◌≤◌, Bool, true, false, not, ◌&&◌, ◌==◌, nat_le, if◌then◌else◌, List, [], ◌∷◌, length, codes, Option, Some, None, ℤ}
use Rattle.std.specs.Fmt.{signed_decimal}
use Rattle.jade_lexer.specs.Alphabet.{is_run, value_after}
use Rattle.jade_alphabet.specs.declared.TheConstants.{WORD_LIMIT, GREATEST_NUMBER}
use Rattle.jade_alphabet.specs.Letters.{is_word}
use Rattle.jade_syntax.specs.Numbering.{same_name}
use Rattle.jade_parser.specs.declared.Sign.{Sign}
use Rattle.jade_parser.specs.declared.Sign.TheVariants.{InputWord, ObjectWord, ObjectsWord, MainWord, IntWord}
use Rattle.jade_parser.specs.declared.Sign.TheVariants.{BoolWord, TrueWord, FalseWord, IfWord, ElseWord}
use Rattle.jade_parser.specs.declared.Sign.TheVariants.{ForWord, InWord, WithonlyWord, DoWord, WithWord}
use Rattle.jade_parser.specs.declared.Sign.TheVariants.{ContWord, RdWord, WrWord, RdWrWord, DfRdWord}
use Rattle.jade_parser.specs.declared.Sign.TheVariants.{DfWrWord, DfRdWrWord, CmWord, NoRdWord, NoWrWord, NoRdWrWord}
use Rattle.jade_parser.specs.declared.Sign.TheVariants.{LeftParen, RightParen, LeftBracket, RightBracket}
use Rattle.jade_parser.specs.declared.Sign.TheVariants.{LeftBrace, RightBrace, Semicolon, Colon, Comma}
use Rattle.jade_parser.specs.declared.Sign.TheVariants.{DotDot, Becomes, EqualSign, UnequalSign, LessSign}
use Rattle.jade_parser.specs.declared.Sign.TheVariants.{LessEqualSign, GreaterSign, GreaterEqualSign}
use Rattle.jade_parser.specs.declared.Sign.TheVariants.{PlusSign, MinusSign, TimesSign, OverSign, PercentSign}
use Rattle.jade_parser.specs.declared.Sign.TheVariants.{NotSign, OrSign, AndSign}
use Rattle.jade_parser.specs.Spelled.{Token, Fixed, Called, Counted, Unknown}

-- the bytes of a sign
abbrev pub sign_bytes : Sign → List ℕ
sign_bytes InputWord = codes "input"
sign_bytes ObjectWord = codes "object"
sign_bytes ObjectsWord = codes "objects"
sign_bytes MainWord = codes "main"
sign_bytes IntWord = codes "int"
sign_bytes BoolWord = codes "bool"
sign_bytes TrueWord = codes "true"
sign_bytes FalseWord = codes "false"
sign_bytes IfWord = codes "if"
sign_bytes ElseWord = codes "else"
sign_bytes ForWord = codes "for"
sign_bytes InWord = codes "in"
sign_bytes WithonlyWord = codes "withonly"
sign_bytes DoWord = codes "do"
sign_bytes WithWord = codes "with"
sign_bytes ContWord = codes "cont"
sign_bytes RdWord = codes "rd"
sign_bytes WrWord = codes "wr"
sign_bytes RdWrWord = codes "rd_wr"
sign_bytes DfRdWord = codes "df_rd"
sign_bytes DfWrWord = codes "df_wr"
sign_bytes DfRdWrWord = codes "df_rd_wr"
sign_bytes CmWord = codes "cm"
sign_bytes NoRdWord = codes "no_rd"
sign_bytes NoWrWord = codes "no_wr"
sign_bytes NoRdWrWord = codes "no_rd_wr"
sign_bytes LeftParen = codes "("
sign_bytes RightParen = codes ")"
sign_bytes LeftBracket = codes "["
sign_bytes RightBracket = codes "]"
sign_bytes LeftBrace = codes "{"
sign_bytes RightBrace = codes "}"
sign_bytes Semicolon = codes ";"
sign_bytes Colon = codes ":"
sign_bytes Comma = codes ","
sign_bytes DotDot = codes ".."
sign_bytes Becomes = codes "="
sign_bytes EqualSign = codes "=="
sign_bytes UnequalSign = codes "!="
sign_bytes LessSign = codes "<"
sign_bytes LessEqualSign = codes "<="
sign_bytes GreaterSign = codes ">"
sign_bytes GreaterEqualSign = codes ">="
sign_bytes PlusSign = codes "+"
sign_bytes MinusSign = codes "-"
sign_bytes TimesSign = codes "*"
sign_bytes OverSign = codes "/"
sign_bytes PercentSign = codes "%"
sign_bytes NotSign = codes "!"
sign_bytes OrSign = codes "||"
sign_bytes AndSign = codes "&&"

-- the bytes of a token; those of no form have none here
abbrev pub token_bytes : Token → List ℕ
token_bytes (Fixed s) = sign_bytes s
token_bytes (Called n) = n
token_bytes (Counted v) = signed_decimal v
token_bytes Unknown = []

-- the words of items and of values
abbrev pub item_signs : List Sign
item_signs = InputWord ∷ ObjectWord ∷ ObjectsWord ∷ MainWord ∷ IntWord ∷ BoolWord ∷ TrueWord ∷ FalseWord ∷ []

-- the words of statements
abbrev pub statement_signs : List Sign
statement_signs = IfWord ∷ ElseWord ∷ ForWord ∷ InWord ∷ WithonlyWord ∷ DoWord ∷ WithWord ∷ ContWord ∷ []

-- the words that declare accesses, now or later
abbrev pub access_signs : List Sign
access_signs = RdWord ∷ WrWord ∷ RdWrWord ∷ DfRdWord ∷ DfWrWord ∷ DfRdWrWord ∷ CmWord ∷ []

-- the words that give accesses up
abbrev pub change_signs : List Sign
change_signs = NoRdWord ∷ NoWrWord ∷ NoRdWrWord ∷ []

-- brackets
abbrev pub bracket_signs : List Sign
bracket_signs = LeftParen ∷ RightParen ∷ LeftBracket ∷ RightBracket ∷ LeftBrace ∷ RightBrace ∷ []

-- what stands between the parts of a form
abbrev pub mark_signs : List Sign
mark_signs = Semicolon ∷ Colon ∷ Comma ∷ DotDot ∷ Becomes ∷ []

-- relations
abbrev pub relation_signs : List Sign
relation_signs = EqualSign ∷ UnequalSign ∷ LessSign ∷ LessEqualSign ∷ GreaterSign ∷ GreaterEqualSign ∷ []

-- the other operators
abbrev pub operator_signs : List Sign
operator_signs = PlusSign ∷ MinusSign ∷ TimesSign ∷ OverSign ∷ PercentSign ∷ NotSign ∷ OrSign ∷ AndSign ∷ []

-- the first of some signs that has these bytes
abbrev pub sign_among : List Sign → List ℕ → Option Sign
sign_among [] bytes = None
sign_among (s ∷ signs) bytes = if same_name bytes (sign_bytes s) then Some s else sign_among signs bytes

-- the first of two that is there
abbrev pub first_of : Option Sign → Option Sign → Option Sign
first_of (Some s) later = Some s
first_of None later = later

-- the first sign of some groups that has these bytes
abbrev pub sign_in : List (List Sign) → List ℕ → Option Sign
sign_in [] bytes = None
sign_in (signs ∷ groups) bytes = first_of (sign_among signs bytes) (sign_in groups bytes)

-- the words and symbols of the language
abbrev pub all_signs : List (List Sign)
all_signs = item_signs ∷ statement_signs ∷ access_signs ∷ change_signs ∷ bracket_signs ∷ mark_signs ∷ relation_signs ∷ operator_signs ∷ []

-- a reserved word that stands in no form
abbrev pub is_kept : List ℕ → Bool
is_kept bytes = same_name bytes (codes "proc")

-- letters and digits that are no reserved word of a form, nor any other
abbrev pub is_free : List ℕ → Bool
is_free bytes = nat_le (length bytes) WORD_LIMIT && is_word bytes && not (is_kept bytes)

-- one or more digits of a value no greater than the greatest number
abbrev pub is_small_run : List ℕ → Bool
is_small_run bytes = is_run bytes && nat_le (value_after 0 bytes) GREATEST_NUMBER

-- these digits have this value
pub record IsValue (bytes : List ℕ) (n : ℕ) : Type 0 where
  pub run : is_small_run bytes ≡ true
  pub value : n ≡ value_after 0 bytes
  pub small : n ≤ GREATEST_NUMBER

-- a 0 in front of more
abbrev pub has_needless_zero : List ℕ → Bool
has_needless_zero [] = false
has_needless_zero (b ∷ []) = false
has_needless_zero (b ∷ c ∷ bytes) = b == 48

-- the digits of a number that a text may write
abbrev pub is_counted : List ℕ → Bool
is_counted bytes = is_small_run bytes && not (has_needless_zero bytes)

-- these bytes write this number
pub record IsNumber (bytes : List ℕ) (v : ℤ) : Type 0 where
  pub counted : is_counted bytes ≡ true
  pub value : v ≡ ℤ.pos (value_after 0 bytes)

-- what some bytes are that are no sign
abbrev pub plain_token : List ℕ → Token
plain_token bytes = if is_free bytes then Called bytes else (if is_counted bytes then Counted (ℤ.pos (value_after 0 bytes)) else Unknown)

-- the sign, where there is one, and else what is plain
abbrev pub sign_or : Option Sign → Token → Token
sign_or (Some s) plain = Fixed s
sign_or None plain = plain

-- what some bytes are: a sign, a name, a number, or none of them
abbrev pub token_of_bytes : List ℕ → Token
token_of_bytes bytes = sign_or (sign_in all_signs bytes) (plain_token bytes)

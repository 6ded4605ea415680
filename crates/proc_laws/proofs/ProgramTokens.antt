-- The tokens of a program are tokens of a text.
use Rattle.std.proofs.Common.{◌≡◌, ℕ, Bool, true, false, ◌&&◌, ◌||◌, List, length, refl, ap}
use Rattle.std.specs.Prelude.{ℤ, not, nat_le}
use Rattle.std.specs.Fmt.{decimal}
use Rattle.std.proofs.lemmas.Bool.{and_parts, leb-true}
use Rattle.jade_alphabet.specs.declared.TheConstants.{WORD_LIMIT}
use Rattle.jade_alphabet.specs.Letters.{is_word}
use Rattle.jade_lexer.specs.Alphabet.{is_token, is_run, is_symbol}
use Rattle.jade_layout.specs.Readable.{is_sound}
use Rattle.jade_layout.proofs.Goes.{is_plain, decimal_plain}
use Rattle.jade_syntax.specs.Names.{is_reserved}
use Rattle.jade_parser.specs.declared.Sign as lexicon
use Rattle.jade_parser.specs.declared.Sign.TheVariants.{InputWord}
use Rattle.jade_parser.specs.Spelled.{Token, Fixed, Called, Counted, Unknown, is_valid}
use Rattle.jade_parser.specs.Kinds.{token_bytes, sign_bytes}

first_and : (a b : Bool) → (a && b) ≡ true → a ≡ true
first_and true b h = refl
first_and false b h = absurd (cc)

sign_token : (s : lexicon.Sign) → is_token (sign_bytes s) ≡ true
sign_token InputWord = refl
sign_token s = refl

pub word_token : (x : List ℕ) → is_word x ≡ true → is_token x ≡ true
word_token x w = ap (λ t. t || is_run x || is_symbol x) w

pub is_token_of : (t : Token) → is_valid t ≡ true → is_token (token_bytes t) ≡ true
is_token_of (Fixed s) h = sign_token s
is_token_of (Called x) h =
    let a = first_and (nat_le (length x) WORD_LIMIT && is_word x) (not (is_reserved x)) h in
    let b = and_parts (nat_le (length x) WORD_LIMIT) (is_word x) a in
    word_token x b.1
is_token_of (Counted (ℤ.pos n)) h = token_of_plain (decimal n) (decimal_plain n (leb-true n 9223372036854775807 h))
  where
    firsts : (a b c d e : Bool) → (a && b && c && d && e) ≡ true → a ≡ true
    firsts true b c d e h = refl
    firsts false b c d e h = absurd (cc)

    token_of_plain : (x : List ℕ) → is_plain x ≡ true → is_token x ≡ true
    token_of_plain x g = first_and (is_token x) _ (first_and _ _ (firsts (is_sound x) _ _ _ _ g))
is_token_of (Counted (ℤ.negsuc n)) h = absurd (cc)
is_token_of Unknown h = absurd (cc)

-- What the tokens of a tree are to procedures and calls.
use Rattle.std.proofs.Common.{◌≡◌, ℕ, Bool, true, false, List, map, codes, refl, sym, ap, ◌∙◌}
use Rattle.std.specs.Prelude.{if◌then◌else◌}
use Rattle.jade_syntax.specs.Abstract.{Name}
use Rattle.jade_syntax.specs.Names.{is_name}
use Rattle.jade_syntax.specs.Numbering.{same_name}
use Rattle.jade_parser.specs.Spelled.{Token, Fixed, Called, Counted, Unknown, Parts, tokens_of, is_valid}
use Rattle.jade_parser.specs.Kinds.{token_bytes, token_of_bytes, sign_bytes}
use Rattle.jade_parser.proofs.Known.{back}
use Rattle.proc_expand.specs.declared.sign.Sign.{Sign}
use Rattle.proc_expand.specs.declared.sign.Sign.TheVariants as mark
use Rattle.proc_expand.specs.Words.{sign_of}
use Rattle.proc_laws.proofs.Basics.{by_case, no_both, not_same}

abbrev pub token_sign : Token → Sign
token_sign (Fixed s) = sign_of (sign_bytes s)
token_sign (Called x) = mark.Called
token_sign (Counted v) = mark.Other
token_sign Unknown = mark.Other

abbrev pub parts_signs : Parts → List Sign
parts_signs ps = map token_sign (tokens_of ps)

-- a test that holds of some bytes and not of others
differs : (is : List ℕ → Bool) (x w : List ℕ) → is x ≡ true → is w ≡ false → same_name x w ≡ false
differs is x w h k = not_same x w (λ e. no_both (is w) (sym (ap is e) ∙ h) k)

word_sign : (is : List ℕ → Bool) (x : List ℕ) → is x ≡ true
    → is (codes ";") ≡ false → is (codes ",") ≡ false → is (codes "(") ≡ false → is (codes ")") ≡ false → is (codes "[") ≡ false
    → is (codes "]") ≡ false → is (codes "{") ≡ false → is (codes "}") ≡ false → is (codes "proc") ≡ false → is (codes "main") ≡ false
    → is (codes "else") ≡ false → is (codes "int") ≡ false → is (codes "bool") ≡ false → is (codes "input") ≡ false → is (codes "object") ≡ false
    → is (codes "objects") ≡ false → sign_of x ≡ (if is_name x then mark.Called else mark.Other)
word_sign is x h a b c d e f g i j k l m n o p q =
    rw (
      differs is x (codes ";") h a,
      differs is x (codes ",") h b,
      differs is x (codes "(") h c,
      differs is x (codes ")") h d,
      differs is x (codes "[") h e,
      differs is x (codes "]") h f,
      differs is x (codes "{") h g,
      differs is x (codes "}") h i,
      differs is x (codes "proc") h j,
      differs is x (codes "main") h k,
      differs is x (codes "else") h l,
      differs is x (codes "int") h m,
      differs is x (codes "bool") h n,
      differs is x (codes "input") h o,
      differs is x (codes "object") h p,
      differs is x (codes "objects") h q,
    ) refl

name_sign : (x : Name) → is_name x ≡ true → sign_of x ≡ mark.Called
name_sign x h =
    word_sign is_name x h refl refl refl refl refl refl refl refl refl refl refl refl refl refl refl refl
    ∙ ap (λ t. if t then mark.Called else mark.Other) h

abbrev counts : Token → Bool
counts (Fixed s) = false
counts (Called x) = false
counts (Counted v) = true
counts Unknown = false

abbrev is_count : List ℕ → Bool
is_count x = counts (token_of_bytes x)

number_sign : (x : List ℕ) → is_count x ≡ true → sign_of x ≡ mark.Other
number_sign x h =
    word_sign is_count x h refl refl refl refl refl refl refl refl refl refl refl refl refl refl refl refl
    ∙ ap (λ t. if t then mark.Called else mark.Other)
    (by_case (is_name x) (λ n. no_both (is_count x) h (ap counts (back (Called x) n))) (λ n. n))

-- what the bytes of a token that may stand in a program are
pub sign_is : (t : Token) → is_valid t ≡ true → sign_of (token_bytes t) ≡ token_sign t
sign_is (Fixed s) h = refl
sign_is (Called x) h = name_sign x h
sign_is (Counted v) h = number_sign (token_bytes (Counted v)) (ap counts (back (Counted v) h))
sign_is Unknown h = absurd (cc)

-- Which bytes are which words.
use Rattle.std.proofs.Common.{◌≡◌, ◌≢◌, ℕ, suc, Bool, true, false, ◌&&◌, ◌||◌, not, List, [], ◌∷◌, length, refl, sym, ap, ◌∙◌, arith}
use Rattle.std.specs.Prelude.{nat_eq, nat_le, codes, slice_index_or, if◌then◌else◌}
use Rattle.std.specs.List.{list_any}
use Rattle.jade_alphabet.specs.Letters.{is_letter, is_word}
use Rattle.jade_syntax.specs.Abstract.{Name}
use Rattle.jade_syntax.specs.Names.{item_words, statement_words, declare_words, is_reserved, is_name}
use Rattle.jade_syntax.specs.Numbering.{same_name}
use Rattle.proc_expand.specs.declared.sign.Sign.{Sign}
use Rattle.proc_expand.specs.declared.sign.Sign.TheVariants.{Called, Other}
use Rattle.proc_expand.specs.Words.{word_of, sign_of}
use Rattle.proc_expand.proofs.First.{by_case, eq_true, eq_not}

-- words of other lengths
pub other_length : (x y : Name) → length x ≢ length y → same_name x y ≡ false
other_length [] [] h = absurd (h refl)
other_length [] (b ∷ y) h = refl
other_length (a ∷ x) [] h = refl
other_length (a ∷ x) (b ∷ y) h = by (nat_eq a b) (other_length x y (λ e. h (ap suc e)))
  where
    by : (t : Bool) → same_name x y ≡ false → (t && same_name x y) ≡ false
    by true g = g
    by false g = refl

-- a word with some property is none of those that do not have it
same_is : (a b : Name) → same_name a b ≡ true → a ≡ b
same_is [] [] g = refl
same_is [] (d ∷ b) g = absurd (cc)
same_is (c ∷ a) [] g = absurd (cc)
same_is (c ∷ a) (d ∷ b) g = by (nat_eq c d) refl (same_is a b) g
  where
    by : (t : Bool) → nat_eq c d ≡ t → (same_name a b ≡ true → a ≡ b) → (t && same_name a b) ≡ true → c ∷ a ≡ d ∷ b
    by true e f g = ap (λ i. i ∷ a) (eq_true c d e) ∙ ap (λ u. d ∷ u) (f g)
    by false e f g = absurd (cc)

pub none_such : (test : Name → Bool) (x : Name) (words : List Name) → list_any test words ≡ false → test x ≡ true → list_any (same_name x) words ≡ false
none_such test x [] h g = refl
none_such test x (w ∷ words) h g = by (test w) refl h (λ f. none_such test x words f g)
  where
    by : (t : Bool) → test w ≡ t → (t || list_any test words) ≡ false → (list_any test words ≡ false → list_any (same_name x) words ≡ false)
        → (same_name x w || list_any (same_name x) words) ≡ false
    by true e f more = absurd (cc)
    by false e f more =
        by_case (same_name x w) (λ s. absurd (let z = sym (ap test (same_is x w s) ∙ e) ∙ g in cc))
        (λ s. ap (λ b. b || list_any (same_name x) words) s ∙ more f)

-- of one byte
abbrev is_one : Name → Bool
is_one x = nat_eq (length x) 1

pub one_byte : (x : Name) (d : ℕ) → length x ≡ 1 → sign_of x ≡ sign_of (slice_index_or x 0 d ∷ [])
one_byte [] d h = absurd (omega (arith, h))
one_byte (b ∷ []) d h = refl
one_byte (b ∷ c ∷ x) d h = absurd (omega (arith, h))

-- what is tried first is not so
past : (b : Bool) (s r : Sign) → b ≡ false → (if b then s else r) ≡ r
past b s r h = ap (λ t. if t then s else r) h

none_of : (a b : Bool) → a ≡ false → b ≡ false → (a || b) ≡ false
none_of a b h g = ap (λ t. t || b) h ∙ g

pub sign_of_word : (x : Name) → length x ≢ 1 → sign_of x ≡ word_of x
sign_of_word x h =
    past _ _ _ (other_length x (codes ";") h) ∙ past _ _ _ (other_length x (codes ",") h) ∙ past _ _ _ (other_length x (codes "(") h)
    ∙ past _ _ _ (other_length x (codes ")") h) ∙ past _ _ _ (other_length x (codes "[") h) ∙ past _ _ _ (other_length x (codes "]") h)
    ∙ past _ _ _ (other_length x (codes "{") h) ∙ past _ _ _ (other_length x (codes "}") h)

-- a byte alone is no word that the language keeps
alone_free : (b : ℕ) → is_reserved (b ∷ []) ≡ false
alone_free b =
    none_of _ _ (none_of _ _ (none_such is_one (b ∷ []) item_words refl refl) (none_such is_one (b ∷ []) statement_words refl refl))
    (none_such is_one (b ∷ []) declare_words refl refl)

alone_name : (b : ℕ) → is_name (b ∷ []) ≡ is_letter b
alone_name b = ap (λ r. (nat_le 1 64 && is_word (b ∷ [])) && not r) (alone_free b) ∙ by (is_letter b)
  where
    by : (t : Bool) → ((nat_le 1 64 && (t && true)) && true) ≡ t
    by true = refl
    by false = refl

alone_other : (b : ℕ) (w : Name) → length w ≢ 1 → same_name (b ∷ []) w ≡ false
alone_other b w h = other_length (b ∷ []) w (λ e. h (sym e))

pub letter_alone : (b : ℕ) → word_of (b ∷ []) ≡ (if is_letter b then Called else Other)
letter_alone b =
    past _ _ _ (alone_other b (codes "proc") (λ e. absurd (cc))) ∙ past _ _ _ (alone_other b (codes "main") (λ e. absurd (cc)))
    ∙ past _ _ _ (alone_other b (codes "else") (λ e. absurd (cc)))
    ∙ past _ _ _ (none_of _ _ (alone_other b (codes "int") (λ e. absurd (cc))) (alone_other b (codes "bool") (λ e. absurd (cc))))
    ∙ past _ _ _ (none_of _ _ (none_of _ _ (alone_other b (codes "input") (λ e. absurd (cc))) (alone_other b (codes "object") (λ e. absurd (cc))))
    (alone_other b (codes "objects") (λ e. absurd (cc))))
    ∙ ap (λ t. if t then Called else Other) (alone_name b)

-- nor a bracket, `;` or `,` if it is none of these bytes
pub other_alone : (b : ℕ) → b ≢ 59 → b ≢ 44 → b ≢ 40 → b ≢ 41 → b ≢ 91 → b ≢ 93 → b ≢ 123 → b ≢ 125 → sign_of (b ∷ []) ≡ word_of (b ∷ [])
other_alone b h1 h2 h3 h4 h5 h6 h7 h8 =
    past _ _ _ (unlike 59 h1) ∙ past _ _ _ (unlike 44 h2) ∙ past _ _ _ (unlike 40 h3) ∙ past _ _ _ (unlike 41 h4) ∙ past _ _ _ (unlike 91 h5)
    ∙ past _ _ _ (unlike 93 h6) ∙ past _ _ _ (unlike 123 h7) ∙ past _ _ _ (unlike 125 h8)
  where
    unlike : (c : ℕ) → b ≢ c → same_name (b ∷ []) (c ∷ []) ≡ false
    unlike c h = ap (λ t. t && true) (eq_not b c h)

-- What bytes say of a token, there and back.
use Rattle.std.proofs.Common.{◌≡◌, ℕ, ◌<◌, ◌≤◌, zero, suc, ◌^◌, Bool, true, false, ◌&&◌, ◌||◌, not, nat_le}
use Rattle.std.proofs.Common.{if◌then◌else◌, List, [], ◌∷◌, ◌++◌, Option, Some, None, length, map, codes}
use Rattle.std.proofs.Common.{get_or, refl, sym, ap, ◌∙◌, arith, rules, ℤ}
use Rattle.std.specs.List.{list_any, list_all}
use Rattle.std.specs.Char.{is_ascii_digit}
use Rattle.std.specs.Fmt.{decimal}
use Rattle.std.proofs.lemmas.Fmt.{digits_decimal, digits_value-decimal, decimal-digits_value, decimal_nonempty, decimal_digit, first_decimal}
use Rattle.std.proofs.lemmas.Bool.{le-leb, leb-true}
use Rattle.std.proofs.lemmas.Bool.Decides.{nat_tests}
use Rattle.std.proofs.lemmas.Slice.Eq.{compares_Decides, IsBytesEq}
use Rattle.std.proofs.lemmas.Str.Parse.{IsNumeralModel, numerals_by_fold}
use Rattle.jade_lexer.specs.Alphabet.{value_after, is_run}
use Rattle.jade_syntax.specs.Numbering.{same_name}
use Rattle.jade_syntax.specs.Names.{is_name, is_reserved, item_words, statement_words, declare_words}
use Rattle.jade_alphabet.specs.Letters.{is_letter, is_word}
use Rattle.jade_parser.specs.declared.Sign.{Sign}
use Rattle.jade_parser.specs.declared.Sign.TheVariants.{InputWord, ObjectWord, ObjectsWord, MainWord, IntWord}
use Rattle.jade_parser.specs.declared.Sign.TheVariants.{BoolWord, TrueWord, FalseWord, IfWord, ElseWord}
use Rattle.jade_parser.specs.declared.Sign.TheVariants.{ForWord, InWord, WithonlyWord, DoWord, WithWord}
use Rattle.jade_parser.specs.declared.Sign.TheVariants.{ContWord, RdWord, WrWord, RdWrWord, DfRdWord}
use Rattle.jade_parser.specs.declared.Sign.TheVariants.{DfWrWord, DfRdWrWord, CmWord, NoRdWord, NoWrWord, NoRdWrWord}
use Rattle.jade_parser.specs.declared.Sign.TheVariants.{LeftParen, RightParen, LeftBracket, RightBracket}
use Rattle.jade_parser.specs.declared.Sign.TheVariants.{LeftBrace, RightBrace, Semicolon, Colon, Comma}
use Rattle.jade_parser.specs.declared.Sign.TheVariants.{DotDot, Becomes, EqualSign, UnequalSign, LessSign}
use Rattle.jade_parser.specs.declared.Sign.TheVariants.{LessEqualSign, GreaterSign, GreaterEqualSign}
use Rattle.jade_parser.specs.declared.Sign.TheVariants.{PlusSign, MinusSign, TimesSign, OverSign, PercentSign}
use Rattle.jade_parser.specs.declared.Sign.TheVariants.{NotSign, OrSign, AndSign}
use Rattle.jade_parser.specs.Spelled.{Token, Fixed, Called, Counted, Unknown, is_valid}
use Rattle.jade_parser.specs.Kinds.{sign_bytes, token_bytes, sign_among, first_of, sign_in, all_signs}
use Rattle.jade_parser.specs.Kinds.{item_signs, statement_signs, access_signs, change_signs, bracket_signs}
use Rattle.jade_parser.specs.Kinds.{mark_signs, relation_signs, operator_signs, is_kept, is_free}
use Rattle.jade_parser.specs.Kinds.{is_small_run, has_needless_zero, is_counted, plain_token, sign_or}
use Rattle.jade_parser.specs.Kinds.{token_of_bytes}
use Rattle.jade_parser.proofs.Digits.{run_is}

bytes_like : IsBytesEq same_name
bytes_like = search rules

same_from : (x y : List ℕ) → same_name x y ≡ true → x ≡ y
same_from x y h = (compares_Decides same_name bytes_like x y).0 h

pub both_true : (a b : Bool) → (a && b) ≡ true → (a ≡ true) × (b ≡ true)
both_true true b e = (refl, e)
both_true false b e = absurd (cc)

not_true : (b : Bool) → (b ≡ true → ⊥) → b ≡ false
not_true true h = absurd (h refl)
not_true false h = refl

not_is : (b : Bool) → not b ≡ true → b ≡ false
not_is true h = absurd (cc)
not_is false h = refl

-- bytes of a kind are not those of none
differs : (P : List ℕ → Bool) (x y : List ℕ) → P x ≡ true → P y ≡ false → same_name x y ≡ false
differs P x y p q = not_true (same_name x y) (λ h. let e = ap P (same_from x y h) in absurd (cc))

abbrev none_are : (List ℕ → Bool) → List Sign → Bool
none_are P [] = true
none_are P (s ∷ signs) = not (P (sign_bytes s)) && none_are P signs

abbrev none_in : (List ℕ → Bool) → List (List Sign) → Bool
none_in P [] = true
none_in P (signs ∷ groups) = none_are P signs && none_in P groups

none_among : (P : List ℕ → Bool) (signs : List Sign) (x : List ℕ) → P x ≡ true → none_are P signs ≡ true → sign_among signs x ≡ None
none_among P [] x p q = refl
none_among P (s ∷ signs) x p q =
    let r = both_true (not (P (sign_bytes s))) (none_are P signs) q in
    let d : same_name x (sign_bytes s) ≡ false = differs P x (sign_bytes s) p (not_is (P (sign_bytes s)) r.0) in
    rw d (none_among P signs x p r.1)

no_sign : (P : List ℕ → Bool) (groups : List (List Sign)) (x : List ℕ) → P x ≡ true → none_in P groups ≡ true → sign_in groups x ≡ None
no_sign P [] x p q = refl
no_sign P (signs ∷ groups) x p q =
    let r = both_true (none_are P signs) (none_in P groups) q in
    let d : sign_among signs x ≡ None = none_among P signs x p r.0 in
    rw d (no_sign P groups x p r.1)

-- ---- a name, and back

free_of : (a b c d : Bool) → (a && b && c) ≡ true → d ≡ false → (a && b && not d) ≡ true
free_of true true true d h e = rw e refl
free_of true true false d h e = absurd (cc)
free_of true false c d h e = absurd (cc)
free_of false b c d h e = absurd (cc)

name_free : (n : List ℕ) → is_name n ≡ true → is_free n ≡ true
name_free n h =
    let p : same_name n (codes "proc") ≡ false = differs is_name n (codes "proc") h refl in
    free_of (nat_le (length n) 64) (is_word n) (not (is_reserved n)) (is_kept n) h p

called_back : (n : List ℕ) → is_name n ≡ true → token_of_bytes n ≡ Called n
called_back n h =
    let s : sign_in all_signs n ≡ None = no_sign is_name all_signs n h refl in
    let f : is_free n ≡ true = name_free n h in
    rw (s, f) refl

-- ---- a number, and back

pub own : IsNumeralModel (λ ds. list_all is_ascii_digit ds ≡ true) (value_after 0)
own = numerals_by_fold _ (search rules) value_after (search rules)

digit_no_letter : (b : ℕ) → is_ascii_digit b ≡ true → is_letter b ≡ false
digit_no_letter b h = grind (arith, nat_tests)

run_not_spelled : (x : List ℕ) → is_run x ≡ true → is_word x ≡ false
run_not_spelled [] h = absurd (cc)
run_not_spelled (b ∷ x) h =
    let p = both_true (is_ascii_digit b) (list_all is_ascii_digit x) h in
    rw (digit_no_letter b p.0) refl

not_free : (a b c : Bool) → b ≡ false → (a && b && c) ≡ false
not_free true b c e = rw e refl
not_free false b c e = refl

counted_is : (x : List ℕ) → is_counted x ≡ true → token_of_bytes x ≡ Counted (ℤ.pos (value_after 0 x))
counted_is x h =
    let s : sign_in all_signs x ≡ None = no_sign is_counted all_signs x h refl in
    let p = both_true (is_small_run x) (not (has_needless_zero x)) h in
    let q = both_true (is_run x) (nat_le (value_after 0 x) 9223372036854775807) p.0 in
    let f : is_free x ≡ false = not_free (nat_le (length x) 64) (is_word x) (not (is_kept x)) (run_not_spelled x q.0) in
    rw (s, f, h) refl

no_zero : (x : List ℕ) → 48 < get_or x 0 0 → has_needless_zero x ≡ false
no_zero [] h = refl
no_zero (b ∷ []) h = refl
no_zero (b ∷ c ∷ x) h = grind (arith, nat_tests)

decimal_no_zero : (n : ℕ) → n < 2 ^ 64 → has_needless_zero (decimal n) ≡ false
decimal_no_zero zero h = rw (decimal_digit zero (omega arith)) refl
decimal_no_zero (suc n) h = no_zero (decimal (suc n)) (first_decimal (suc n) (omega arith) h)

and_true : (a b : Bool) → a ≡ true → b ≡ true → (a && b) ≡ true
and_true a b p q = rw (p, q) refl

decimal_counted : (n : ℕ) → n ≤ 9223372036854775807 → is_counted (decimal n) ≡ true
decimal_counted n h =
    let small : n < 2 ^ 64 = omega arith in
    let r : is_run (decimal n) ≡ true = run_is (decimal n) (decimal_nonempty n small) ∙ digits_decimal own n small in
    let v : value_after 0 (decimal n) ≡ n = digits_value-decimal own n small in
    let l : nat_le (value_after 0 (decimal n)) 9223372036854775807 ≡ true = le-leb (value_after 0 (decimal n)) 9223372036854775807 (omega arith) in
    let z : not (has_needless_zero (decimal n)) ≡ true = ap not (decimal_no_zero n small) in
    and_true (is_small_run (decimal n)) (not (has_needless_zero (decimal n)))
    (and_true (is_run (decimal n)) (nat_le (value_after 0 (decimal n)) 9223372036854775807) r l) z

number_back : (n : ℕ) → nat_le n 9223372036854775807 ≡ true → token_of_bytes (decimal n) ≡ Counted (ℤ.pos n)
number_back n h =
    let le : n ≤ 9223372036854775807 = leb-true n 9223372036854775807 h in
    counted_is (decimal n) (decimal_counted n le) ∙ ap (λ v. Counted (ℤ.pos v)) (digits_value-decimal own n (omega arith))

is_the_decimal : (x : List ℕ) → is_counted x ≡ true → decimal (value_after 0 x) ≡ x
is_the_decimal x h =
    let p = both_true (is_small_run x) (not (has_needless_zero x)) h in
    let q = both_true (is_run x) (nat_le (value_after 0 x) 9223372036854775807) p.0 in
    let l : value_after 0 x ≤ 9223372036854775807 = leb-true (value_after 0 x) 9223372036854775807 q.1 in
    decimal-digits_value own x (sym (run_is x (nonempty x q.0)) ∙ q.0) (nonempty x q.0) (alone x (not_is (has_needless_zero x) p.1)) (omega arith)
  where
    nonempty : (x : List ℕ) → is_run x ≡ true → 0 < length x
    nonempty [] h = absurd (cc)
    nonempty (b ∷ x) h = omega arith

    alone : (x : List ℕ) → has_needless_zero x ≡ false → get_or x 0 0 ≡ 48 → length x ≡ 1
    alone [] h e = absurd (omega arith)
    alone (b ∷ []) h e = refl
    alone (b ∷ c ∷ x) h e = grind (arith, nat_tests)

-- ---- a sign, and back

-- what a token is, its bytes being these
abbrev pub Known : List ℕ → Token → Type 0
Known x Unknown = Unit {0}
Known x (Fixed s) = (is_valid (Fixed s) ≡ true) × (token_bytes (Fixed s) ≡ x)
Known x (Called n) = (is_valid (Called n) ≡ true) × (token_bytes (Called n) ≡ x)
Known x (Counted v) = (is_valid (Counted v) ≡ true) × (token_bytes (Counted v) ≡ x)

found_one : (t : Sign) (later : Option Sign) (x : List ℕ) (s : Sign) (b : Bool) → same_name x (sign_bytes t) ≡ b → (later ≡ Some s → sign_bytes s ≡ x)
    → (if b then Some t else later) ≡ Some s → sign_bytes s ≡ x
found_one t later x s true h more e = let w : t ≡ s = cc in ap sign_bytes (sym w) ∙ sym (same_from x (sign_bytes t) h)
found_one t later x s false h more e = more e

found_among : (signs : List Sign) (x : List ℕ) (s : Sign) → sign_among signs x ≡ Some s → sign_bytes s ≡ x
found_among [] x s e = absurd (cc)
found_among (t ∷ signs) x s e = found_one t (sign_among signs x) x s (same_name x (sign_bytes t)) refl (λ k. found_among signs x s k) e

first_is : (a b : Option Sign) (s : Sign) (Q : Type 0) → (a ≡ Some s → Q) → (b ≡ Some s → Q) → first_of a b ≡ Some s → Q
first_is (Some t) b s Q f g e = f e
first_is None b s Q f g e = g e

found : (groups : List (List Sign)) (x : List ℕ) (s : Sign) → sign_in groups x ≡ Some s → sign_bytes s ≡ x
found [] x s e = absurd (cc)
found (signs ∷ groups) x s e = first_is (sign_among signs x) (sign_in groups x) s (sign_bytes s ≡ x) (λ k. found_among signs x s k)
    (λ k. found groups x s k) e

-- ---- what no sign is, is no reserved word of a form

none_one : (t : Sign) (later : Option Sign) (b : Bool) (Q : Type 0) → (b ≡ false → later ≡ None → Q) → (if b then Some t else later) ≡ None → Q
none_one t later true Q f e = absurd (cc)
none_one t later false Q f e = f refl e

or_false : (a b : Bool) → a ≡ false → b ≡ false → (a || b) ≡ false
or_false a b p q = rw (p, q) refl

none_listed : (signs : List Sign) (x : List ℕ) → sign_among signs x ≡ None → list_any (same_name x) (map sign_bytes signs) ≡ false
none_listed [] x e = refl
none_listed (t ∷ signs) x e = none_one t (sign_among signs x) (same_name x (sign_bytes t)) (list_any (same_name x) (map sign_bytes (t ∷ signs)) ≡ false)
    (λ p q. or_false (same_name x (sign_bytes t)) (list_any (same_name x) (map sign_bytes signs)) p (none_listed signs x q)) e

none_both : (a b : Option Sign) → first_of a b ≡ None → (a ≡ None) × (b ≡ None)
none_both (Some t) b e = absurd (cc)
none_both None b e = (refl, e)

none_with : (f : List ℕ → Bool) (xs ys : List (List ℕ)) → list_any f xs ≡ false → list_any f ys ≡ false → list_any f (xs ++ ys) ≡ false
none_with f [] ys p q = q
none_with f (x ∷ xs) ys p q =
    let r = neither (f x) (list_any f xs) p in
    or_false (f x) (list_any f (xs ++ ys)) r.0 (none_with f xs ys r.1 q)
  where
    neither : (a b : Bool) → (a || b) ≡ false → (a ≡ false) × (b ≡ false)
    neither true b e = absurd (cc)
    neither false b e = (refl, e)

not_reserved : (x : List ℕ) → sign_in all_signs x ≡ None → is_kept x ≡ false → is_reserved x ≡ false
not_reserved x e k =
    let a = none_both (sign_among item_signs x)
    (sign_in (statement_signs ∷ access_signs ∷ change_signs ∷ bracket_signs ∷ mark_signs ∷ relation_signs ∷ operator_signs ∷ []) x) e in
    let b = none_both (sign_among statement_signs x)
    (sign_in (access_signs ∷ change_signs ∷ bracket_signs ∷ mark_signs ∷ relation_signs ∷ operator_signs ∷ []) x) a.1 in
    let c = none_both (sign_among access_signs x) (sign_in (change_signs ∷ bracket_signs ∷ mark_signs ∷ relation_signs ∷ operator_signs ∷ []) x) b.1 in
    let d = none_both (sign_among change_signs x) (sign_in (bracket_signs ∷ mark_signs ∷ relation_signs ∷ operator_signs ∷ []) x) c.1 in
    let items : list_any (same_name x) item_words ≡ false = none_listed item_signs x a.0 in
    let statements : list_any (same_name x) statement_words ≡ false =
    none_with (same_name x) (map sign_bytes statement_signs) (codes "proc" ∷ []) (none_listed statement_signs x b.0)
    (or_false (same_name x (codes "proc")) false k refl) in
    let declares : list_any (same_name x) declare_words ≡ false =
    none_with (same_name x) (map sign_bytes access_signs) (map sign_bytes change_signs) (none_listed access_signs x c.0)
    (none_listed change_signs x d.0) in
    rw (items, statements, declares) refl

free_name : (x : List ℕ) → sign_in all_signs x ≡ None → is_free x ≡ true → is_name x ≡ true
free_name x e h = named (nat_le (length x) 64) (is_word x) (is_kept x) (is_reserved x) h (λ k. not_reserved x e k)
  where
    named : (a b c d : Bool) → (a && b && not c) ≡ true → (c ≡ false → d ≡ false) → (a && b && not d) ≡ true
    named true true true d h f = absurd (cc)
    named true true false d h f = rw (f refl) refl
    named true false c d h f = absurd (cc)
    named false b c d h f = absurd (cc)

plain_known : (x : List ℕ) → sign_in all_signs x ≡ None → Known x (plain_token x)
plain_known x e = by_free (is_free x) refl
  where
    number_known : (b : Bool) → is_counted x ≡ b → Known x (if b then Counted (ℤ.pos (value_after 0 x)) else Unknown)
    number_known true h =
        let p = both_true (is_small_run x) (not (has_needless_zero x)) h in
        let q = both_true (is_run x) (nat_le (value_after 0 x) 9223372036854775807) p.0 in
        (q.1, is_the_decimal x h)
    number_known false h = tt

    by_free : (b : Bool) → is_free x ≡ b → Known x (if b then Called x else (if is_counted x then Counted (ℤ.pos (value_after 0 x)) else Unknown))
    by_free true h = (free_name x e h, refl)
    by_free false h = number_known (is_counted x) refl

-- what is not unknown is a token that a program may have, and has these bytes
pub known : (x : List ℕ) → Known x (token_of_bytes x)
known x = here (sign_in all_signs x) refl
  where
    here : (o : Option Sign) → sign_in all_signs x ≡ o → Known x (sign_or o (plain_token x))
    here (Some s) e = (refl, found all_signs x s e)
    here None e = plain_known x e

sign_back : (s : Sign) → token_of_bytes (sign_bytes s) ≡ Fixed s
sign_back InputWord = refl
sign_back ObjectWord = refl
sign_back ObjectsWord = refl
sign_back MainWord = refl
sign_back IntWord = refl
sign_back BoolWord = refl
sign_back TrueWord = refl
sign_back FalseWord = refl
sign_back IfWord = refl
sign_back ElseWord = refl
sign_back ForWord = refl
sign_back InWord = refl
sign_back WithonlyWord = refl
sign_back DoWord = refl
sign_back WithWord = refl
sign_back ContWord = refl
sign_back RdWord = refl
sign_back WrWord = refl
sign_back RdWrWord = refl
sign_back DfRdWord = refl
sign_back DfWrWord = refl
sign_back DfRdWrWord = refl
sign_back CmWord = refl
sign_back NoRdWord = refl
sign_back NoWrWord = refl
sign_back NoRdWrWord = refl
sign_back LeftParen = refl
sign_back RightParen = refl
sign_back LeftBracket = refl
sign_back RightBracket = refl
sign_back LeftBrace = refl
sign_back RightBrace = refl
sign_back Semicolon = refl
sign_back Colon = refl
sign_back Comma = refl
sign_back DotDot = refl
sign_back Becomes = refl
sign_back EqualSign = refl
sign_back UnequalSign = refl
sign_back LessSign = refl
sign_back LessEqualSign = refl
sign_back GreaterSign = refl
sign_back GreaterEqualSign = refl
sign_back PlusSign = refl
sign_back MinusSign = refl
sign_back TimesSign = refl
sign_back OverSign = refl
sign_back PercentSign = refl
sign_back NotSign = refl
sign_back OrSign = refl
sign_back AndSign = refl

-- a token that a program may have is what its bytes are
pub back : (t : Token) → is_valid t ≡ true → token_of_bytes (token_bytes t) ≡ t
back (Fixed s) h = sign_back s
back (Called n) h = called_back n h
back (Counted (ℤ.pos n)) h = number_back n h
back (Counted (ℤ.negsuc n)) h = absurd (cc)
back Unknown h = absurd (cc)

-- Which token is the longest one that begins some bytes.
use Rattle.std.proofs.Common.{
  ◌≡◌,
  ℕ,
  zero,
  suc,
  ◌+◌,
  ◌<◌,
  ◌≤◌,
  Bool,
  true,
  false,
  not,
  ◌&&◌,
  ◌||◌,
  List,
  [],
  ◌∷◌,
  length,
  take,
  get_or,
  codes,
  refl,
  sym,
  ap,
  subst,
  ◌∙◌,
  ⊎_elim,
  arith,
}
use Rattle.std.proofs.Math.Dec.{eqb, leb}
use Rattle.std.specs.List.{list_any, list_all, prefix_len}
use Rattle.std.specs.Char.{is_ascii_digit, is_ascii_alphabetic}
use Rattle.std.specs.Int.{is_in_range}
use Rattle.std.proofs.lemmas.Bool.{
  cases_lt,
  cases_Bool,
  cond-true,
  cond-false,
  and_from,
  and_left,
  and_right,
  and_parts,
  or_from,
  or_cases,
  eqb-true,
  leb-true,
  true≢false,
  not-true,
  false_from_ne_true,
}
use Rattle.std.proofs.lemmas.List.Sums.{prefix_len-le-length}
use Rattle.jade_lexer.specs.Alphabet.{is_single, is_pair, is_symbol, is_run, is_token, greatest, longest}
use Rattle.jade_alphabet.specs.Letters.{is_letter, is_letter_or_digit, is_word}

-- a number up to n that passes, above which none does, is the greatest
greatest_is : (p : ℕ → Bool) (n k : ℕ) → k ≤ n → (0 < k → p k ≡ true) → ((j : ℕ) → k < j → j ≤ n → p j ≡ false) → greatest p n ≡ k
greatest_is p zero k le passes above = omega arith
greatest_is p (suc n) k le passes above =
    ⊎_elim
    (λ below. cond-false (p (suc n)) (suc n) (greatest p n) (above (suc n) below (omega arith))
    ∙ greatest_is p n k (omega arith) passes (λ j over under. above j over (omega arith)))
    (λ beyond. let same : suc n ≡ k = omega arith in
    cond-true (p (suc n)) (suc n) (greatest p n) (subst (λ m. p m ≡ true) (sym same) (passes (omega arith))) ∙ same)
    (cases_lt k (suc n))

-- no prefix longer than this one passes whole
pub prefix_passes : (q : ℕ → Bool) (k : ℕ) (xs : List ℕ) → k ≤ prefix_len q xs → list_all q (take k xs) ≡ true
prefix_passes q zero xs le = refl
prefix_passes q (suc k) [] le = refl
prefix_passes q (suc k) (x ∷ xs) le =
    ⊎_elim
    (λ holds. let within : suc k ≤ 1 + prefix_len q xs = subst (λ m. suc k ≤ m) (cond-true (q x) (1 + prefix_len q xs) 0 holds) le in
    and_from (q x) (list_all q (take k xs)) holds (prefix_passes q k xs (omega arith)))
    (λ fails. let within : suc k ≤ 0 = subst (λ m. suc k ≤ m) (cond-false (q x) (1 + prefix_len q xs) 0 fails) le in absurd (omega arith))
    (cases_Bool (q x))

prefix_fails : (q : ℕ → Bool) (k : ℕ) (xs : List ℕ) → prefix_len q xs < k → k ≤ length xs → list_all q (take k xs) ≡ false
prefix_fails q zero xs over le = absurd (omega arith)
prefix_fails q (suc k) [] over le = absurd (omega arith)
prefix_fails q (suc k) (x ∷ xs) over le =
    ⊎_elim
    (λ holds. let past : 1 + prefix_len q xs < suc k = subst (λ m. m < suc k) (cond-true (q x) (1 + prefix_len q xs) 0 holds) over in
    and_right (q x) (list_all q (take k xs)) (prefix_fails q k xs (omega arith) (omega arith)))
    (λ fails. and_left (q x) (list_all q (take k xs)) fails)
    (cases_Bool (q x))

-- where a first byte makes a token exactly of what passes, the longest is the prefix that passes
above_prefix : (q : ℕ → Bool) (b : ℕ) (bytes : List ℕ) → ((t : List ℕ) → is_token (b ∷ t) ≡ list_all q t) → (j : ℕ) → suc (prefix_len q bytes) < j
    → j ≤ suc (length bytes) → is_token (take j (b ∷ bytes)) ≡ false
above_prefix q b bytes same zero over under = absurd (omega arith)
above_prefix q b bytes same (suc j) over under = same (take j bytes) ∙ prefix_fails q j bytes (omega arith) (omega arith)

longest_prefix : (q : ℕ → Bool) (b : ℕ) (bytes : List ℕ) → ((t : List ℕ) → is_token (b ∷ t) ≡ list_all q t) → longest (b ∷ bytes) ≡ suc (prefix_len q bytes)
longest_prefix q b bytes same =
    greatest_is (λ n. is_token (take n (b ∷ bytes))) (suc (length bytes)) (suc (prefix_len q bytes)) (omega (arith, prefix_len-le-length q bytes))
    (λ _. same (take (prefix_len q bytes) bytes) ∙ prefix_passes q (prefix_len q bytes) bytes (omega arith))
    (above_prefix q b bytes same)

-- one test of three
first_only : (a b c : Bool) → b ≡ false → c ≡ false → (a || b || c) ≡ a
first_only true b c p q = refl
first_only false b c p q = or_from b c p q

second_only : (a b c : Bool) → a ≡ false → c ≡ false → (a || b || c) ≡ b
second_only true b c p q = absurd (true≢false p)
second_only false true c p q = refl
second_only false false c p q = q

third_only : (a b c : Bool) → a ≡ false → b ≡ false → (a || b || c) ≡ c
third_only true b c p q = absurd (true≢false p)
third_only false true c p q = absurd (true≢false q)
third_only false false c p q = refl

and_true : (a b : Bool) → a ≡ true → (a && b) ≡ b
and_true true b p = refl
and_true false b p = absurd (true≢false (sym p))

-- a byte of a class is none of a list that has none of that class
no_such : (f : ℕ → Bool) (cs : List ℕ) → list_all (λ c. not (f c)) cs ≡ true → (b : ℕ) → f b ≡ true → list_any (λ c. eqb c b) cs ≡ false
no_such f [] none b holds = refl
no_such f (c ∷ cs) none b holds =
    let parts = and_parts (not (f c)) (list_all (λ x. not (f x)) cs) none in
    or_from (eqb c b) (list_any (λ x. eqb x b) cs)
    (false_from_ne_true (eqb c b) (λ same. true≢false (sym holds ∙ sym (ap f (eqb-true c b same)) ∙ not-true (f c) parts.0)))
    (no_such f cs parts.1 b holds)

-- a byte of a class that has no first byte of a symbol begins none
no_symbol : (f : ℕ → Bool) → list_all (λ c. not (f c)) (codes "{}()[];:,=<>+-*/%!") ≡ true → list_all (λ c. not (f c)) (codes "=!<>") ≡ true
    → list_all (λ c. not (f c)) (codes "&|.") ≡ true → (b : ℕ) → f b ≡ true → (t : List ℕ) → is_symbol (b ∷ t) ≡ false
no_symbol f singles equals doubles b holds [] = no_such f (codes "{}()[];:,=<>+-*/%!") singles b holds
no_symbol f singles equals doubles b holds (c ∷ []) =
    or_from (eqb c 61 && list_any (λ x. eqb x b) (codes "=!<>")) (eqb c b && list_any (λ x. eqb x b) (codes "&|."))
    (and_right (eqb c 61) (list_any (λ x. eqb x b) (codes "=!<>")) (no_such f (codes "=!<>") equals b holds))
    (and_right (eqb c b) (list_any (λ x. eqb x b) (codes "&|.")) (no_such f (codes "&|.") doubles b holds))
no_symbol f singles equals doubles b holds (c ∷ d ∷ t) = refl

-- no digit is a letter
pub letter_is_no_digit : (b : ℕ) → is_letter b ≡ true → is_ascii_digit b ≡ false
letter_is_no_digit b letter =
    false_from_ne_true (is_ascii_digit b) (λ digit.
    let low = leb-true 48 b (and_parts (leb 48 b) (leb b 57) digit).0 in
    let high = leb-true b 57 (and_parts (leb 48 b) (leb b 57) digit).1 in
    ⊎_elim
    (λ alphabetic. ⊎_elim
    (λ upper. let from = leb-true 65 b (and_parts (leb 65 b) (leb b 90) upper).0 in omega arith)
    (λ lower. let from = leb-true 97 b (and_parts (leb 97 b) (leb b 122) lower).0 in omega arith)
    (or_cases (is_in_range 65 90 b) (is_in_range 97 122 b) alphabetic))
    (λ underscore. let is : b ≡ 95 = eqb-true b 95 underscore in omega arith)
    (or_cases (is_ascii_alphabetic b) (eqb b 95) letter))

pub letter_token : (b : ℕ) → is_letter b ≡ true → (t : List ℕ) → is_token (b ∷ t) ≡ list_all is_letter_or_digit t
letter_token b letter t =
    first_only (is_word (b ∷ t)) (is_run (b ∷ t)) (is_symbol (b ∷ t)) (and_left (is_ascii_digit b) (list_all is_ascii_digit t) (letter_is_no_digit b letter))
    (no_symbol is_letter refl refl refl b letter t)
    ∙ and_true (is_letter b) (list_all is_letter_or_digit t) letter

pub digit_token : (b : ℕ) → is_letter b ≡ false → is_ascii_digit b ≡ true → (t : List ℕ) → is_token (b ∷ t) ≡ list_all is_ascii_digit t
digit_token b letter digit t =
    second_only (is_word (b ∷ t)) (is_run (b ∷ t)) (is_symbol (b ∷ t)) (and_left (is_letter b) (list_all is_letter_or_digit t) letter)
    (no_symbol is_ascii_digit refl refl refl b digit t)
    ∙ and_true (is_ascii_digit b) (list_all is_ascii_digit t) digit

symbol_token : (b : ℕ) → is_letter b ≡ false → is_ascii_digit b ≡ false → (t : List ℕ) → is_token (b ∷ t) ≡ is_symbol (b ∷ t)
symbol_token b letter digit t =
    third_only (is_word (b ∷ t)) (is_run (b ∷ t)) (is_symbol (b ∷ t)) (and_left (is_letter b) (list_all is_letter_or_digit t) letter)
    (and_left (is_ascii_digit b) (list_all is_ascii_digit t) digit)

-- the longest token of bytes that begin with a letter is as long as a word can be
pub longest_word : (bytes : List ℕ) → 0 < length bytes → is_letter (get_or bytes 0 0) ≡ true → longest bytes ≡ prefix_len is_letter_or_digit bytes
longest_word [] some letter = absurd (omega arith)
longest_word (b ∷ bytes) some letter =
    longest_prefix is_letter_or_digit b bytes (letter_token b letter)
    ∙ sym (cond-true (is_letter_or_digit b) (1 + prefix_len is_letter_or_digit bytes) 0 (ap (λ x. x || is_ascii_digit b) letter) ∙ omega arith)

-- the like for digits
pub longest_run : (bytes : List ℕ) → 0 < length bytes → is_letter (get_or bytes 0 0) ≡ false → is_ascii_digit (get_or bytes 0 0) ≡ true → longest bytes
    ≡ prefix_len is_ascii_digit bytes
longest_run [] some letter digit = absurd (omega arith)
longest_run (b ∷ bytes) some letter digit =
    longest_prefix is_ascii_digit b bytes (digit_token b letter digit)
    ∙ sym (cond-true (is_ascii_digit b) (1 + prefix_len is_ascii_digit bytes) 0 digit ∙ omega arith)

-- no symbol has three bytes
above_pair : (b c : ℕ) (more : List ℕ) → ((t : List ℕ) → is_token (b ∷ t) ≡ is_symbol (b ∷ t)) → (j : ℕ) → 2 < j → j ≤ suc (suc (length more))
    → is_token (take j (b ∷ c ∷ more)) ≡ false
above_pair b c more same zero over under = absurd (omega arith)
above_pair b c more same (suc zero) over under = absurd (omega arith)
above_pair b c more same (suc (suc zero)) over under = absurd (omega arith)
above_pair b c [] same (suc (suc (suc j))) over under = absurd (omega arith)
above_pair b c (d ∷ more) same (suc (suc (suc j))) over under = same (c ∷ d ∷ take j more)

-- a symbol of two bytes is the longest token
pub longest_pair : (bytes : List ℕ) → 1 < length bytes → is_letter (get_or bytes 0 0) ≡ false → is_ascii_digit (get_or bytes 0 0) ≡ false
    → is_pair (get_or bytes 0 0) (get_or bytes 1 0) ≡ true → longest bytes ≡ 2
longest_pair [] two letter digit pair = absurd (omega arith)
longest_pair (b ∷ []) two letter digit pair = absurd (omega arith)
longest_pair (b ∷ c ∷ more) two letter digit pair =
    greatest_is (λ n. is_token (take n (b ∷ c ∷ more))) (suc (suc (length more))) 2 (omega arith)
    (λ _. symbol_token b letter digit (c ∷ []) ∙ pair)
    (above_pair b c more (symbol_token b letter digit))

above_single : (b : ℕ) (bytes : List ℕ) → ((t : List ℕ) → is_token (b ∷ t) ≡ is_symbol (b ∷ t)) → (0 < length bytes → is_pair b (get_or bytes 0 0) ≡ false)
    → (j : ℕ) → 1 < j → j ≤ suc (length bytes) → is_token (take j (b ∷ bytes)) ≡ false
above_single b bytes same no_pair zero over under = absurd (omega arith)
above_single b bytes same no_pair (suc zero) over under = absurd (omega arith)
above_single b [] same no_pair (suc (suc j)) over under = absurd (omega arith)
above_single b (c ∷ more) same no_pair (suc (suc zero)) over under = same (c ∷ []) ∙ no_pair (omega arith)
above_single b (c ∷ more) same no_pair (suc (suc (suc j))) over under = above_pair b c more same (suc (suc (suc j))) (omega arith) under

-- a symbol of one byte is the longest token where the next byte makes no symbol with it
pub longest_single : (bytes : List ℕ) → 0 < length bytes → is_letter (get_or bytes 0 0) ≡ false → is_ascii_digit (get_or bytes 0 0) ≡ false
    → (1 < length bytes → is_pair (get_or bytes 0 0) (get_or bytes 1 0) ≡ false) → is_single (get_or bytes 0 0) ≡ true → longest bytes ≡ 1
longest_single [] some letter digit no_pair single = absurd (omega arith)
longest_single (b ∷ bytes) some letter digit no_pair single =
    greatest_is (λ n. is_token (take n (b ∷ bytes))) (suc (length bytes)) 1 (omega arith)
    (λ _. symbol_token b letter digit [] ∙ single)
    (above_single b bytes (symbol_token b letter digit) (λ more. no_pair (omega arith)))

above_none : (b : ℕ) (bytes : List ℕ) → ((t : List ℕ) → is_token (b ∷ t) ≡ is_symbol (b ∷ t)) → (0 < length bytes → is_pair b (get_or bytes 0 0) ≡ false)
    → is_single b ≡ false → (j : ℕ) → 0 < j → j ≤ suc (length bytes) → is_token (take j (b ∷ bytes)) ≡ false
above_none b bytes same no_pair no_single zero over under = absurd (omega arith)
above_none b bytes same no_pair no_single (suc zero) over under = same [] ∙ no_single
above_none b bytes same no_pair no_single (suc (suc j)) over under = above_single b bytes same no_pair (suc (suc j)) (omega arith) under

-- where neither is a symbol, no token begins
pub longest_none : (bytes : List ℕ) → 0 < length bytes → is_letter (get_or bytes 0 0) ≡ false → is_ascii_digit (get_or bytes 0 0) ≡ false
    → (1 < length bytes → is_pair (get_or bytes 0 0) (get_or bytes 1 0) ≡ false) → is_single (get_or bytes 0 0) ≡ false → longest bytes ≡ 0
longest_none [] some letter digit no_pair no_single = absurd (omega arith)
longest_none (b ∷ bytes) some letter digit no_pair no_single =
    greatest_is (λ n. is_token (take n (b ∷ bytes))) (suc (length bytes)) 0 (omega arith)
    (λ over. absurd (omega arith))
    (above_none b bytes (symbol_token b letter digit) (λ more. no_pair (omega arith)) no_single)

greatest-le : (p : ℕ → Bool) (n : ℕ) → greatest p n ≤ n
greatest-le p zero = omega arith
greatest-le p (suc n) =
    ⊎_elim
    (λ holds. subst (λ m. m ≤ suc n) (sym (cond-true (p (suc n)) (suc n) (greatest p n) holds)) (omega arith))
    (λ fails. subst (λ m. m ≤ suc n) (sym (cond-false (p (suc n)) (suc n) (greatest p n) fails)) (omega (arith, greatest-le p n)))
    (cases_Bool (p (suc n)))

-- the longest token is a part of the bytes
pub longest-le : (bytes : List ℕ) → longest bytes ≤ length bytes
longest-le bytes = greatest-le (λ n. is_token (take n bytes)) (length bytes)

greatest_passes : (p : ℕ → Bool) (n : ℕ) → 0 < greatest p n → p (greatest p n) ≡ true
greatest_passes p zero some = absurd (omega arith)
greatest_passes p (suc n) some =
    ⊎_elim
    (λ holds. subst (λ m. p m ≡ true) (sym (cond-true (p (suc n)) (suc n) (greatest p n) holds)) holds)
    (λ fails. let same = cond-false (p (suc n)) (suc n) (greatest p n) fails in
    subst (λ m. p m ≡ true) (sym same) (greatest_passes p n (subst (λ m. 0 < m) same some)))
    (cases_Bool (p (suc n)))

greatest_above : (p : ℕ → Bool) (n k : ℕ) → greatest p n < k → k ≤ n → p k ≡ false
greatest_above p zero k over under = absurd (omega arith)
greatest_above p (suc n) k over under =
    ⊎_elim
    (λ holds. let high : suc n < k = subst (λ m. m < k) (cond-true (p (suc n)) (suc n) (greatest p n) holds) over in absurd (omega arith))
    (λ fails. let low : greatest p n < k = subst (λ m. m < k) (cond-false (p (suc n)) (suc n) (greatest p n) fails) over in
    ⊎_elim
    (λ below. greatest_above p n k low (omega arith))
    (λ beyond. let same : suc n ≡ k = omega arith in subst (λ m. p m ≡ false) same fails)
    (cases_lt k (suc n)))
    (cases_Bool (p (suc n)))

-- the longest token is one, no longer one begins these bytes, and that fixes it
pub longest_token : (bytes : List ℕ) → 0 < longest bytes → is_token (take (longest bytes) bytes) ≡ true
longest_token bytes some = greatest_passes (λ n. is_token (take n bytes)) (length bytes) some

pub longest_above : (bytes : List ℕ) (k : ℕ) → longest bytes < k → k ≤ length bytes → is_token (take k bytes) ≡ false
longest_above bytes k over under = greatest_above (λ n. is_token (take n bytes)) (length bytes) k over under

pub longest_is : (bytes : List ℕ) (n : ℕ) → n ≤ length bytes → is_token (take n bytes) ≡ true
    → ((k : ℕ) → n < k → k ≤ length bytes → is_token (take k bytes) ≡ false) → longest bytes ≡ n
longest_is bytes n within token above = greatest_is (λ k. is_token (take k bytes)) (length bytes) n within (λ _. token) above

pub longest_zero : (bytes : List ℕ) → ((k : ℕ) → 0 < k → k ≤ length bytes → is_token (take k bytes) ≡ false) → longest bytes ≡ 0
longest_zero bytes above = greatest_is (λ k. is_token (take k bytes)) (length bytes) 0 (omega arith) (λ over. absurd (omega arith)) above

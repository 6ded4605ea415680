-- Which bytes stand in spelled numbers, paths, labels and lines.
use Rattle.std.proofs.Common.{◌≡◌, ◌≢◌, ℕ, suc, ◌+◌, ◌%◌, ◌<◌, ◌≤◌, ◌^◌, Bool, true, false, ◌&&◌, List, [], ◌∷◌, ◌++◌, map, ℤ, pos, negsuc, nat_lt, refl, sym, subst, arith, All}
use Rattle.std.specs.List.{list_all}
use Rattle.std.specs.Fmt.{decimal, signed_decimal}
use Rattle.std.proofs.lemmas.Bool.{ltb-true, leb-true}
use Rattle.std.proofs.lemmas.Fmt.{decimal_by_steps}
use Rattle.std.proofs.lemmas.List.Elements.{All-nil, All-cons, All-head, All-tail, All-append, All-weaker}
use Rattle.jade_alphabet.specs.Letters.{is_letter, is_letter_or_digit, is_word}
use Rattle.number_words.specs.Numbers.{is_number}
use Rattle.number_words.proofs.Signed.{small}
use Rattle.run_record.specs.Pieces.{Lacks, each_after, path_text, IsPath, IsLabel, single, member}

-- each byte is greater than one
abbrev pub Above : ℕ → List ℕ → Type 0
Above c text = All (λ b. c < b) text

-- and so it lacks that one and all below
pub lacks : (c d : ℕ) (text : List ℕ) → d ≤ c → Above c text → Lacks d text
lacks c d text le h = All-weaker (λ b. c < b) (λ b. b ≢ d) (λ b lt e. absurd (omega arith)) text h

pub lower : (c d : ℕ) (text : List ℕ) → d ≤ c → Above c text → Above d text
lower c d text le h = All-weaker (λ b. c < b) (λ b. d < b) (λ b lt. omega arith) text h

pub and_left : (a b : Bool) → (a && b) ≡ true → a ≡ true
and_left true b h = refl
and_left false b h = absurd (cc)

pub and_right : (a b : Bool) → (a && b) ≡ true → b ≡ true
and_right true b h = h
and_right false b h = absurd (cc)

-- what a test says of each byte
pub tested : {A : Type 0} (p : A → Bool) (xs : List A) → list_all p xs ≡ true → All (λ x. p x ≡ true) xs
tested p [] h = All-nil (λ x. p x ≡ true)
tested p (x ∷ xs) h = All-cons (λ y. p y ≡ true) x xs (and_left (p x) (list_all p xs) h) (tested p xs (and_right (p x) (list_all p xs) h))

pub testing : {A : Type 0} (p : A → Bool) (xs : List A) → All (λ x. p x ≡ true) xs → list_all p xs ≡ true
testing p [] h = refl
testing p (x ∷ xs) h =
    let first : p x ≡ true = All-head (λ y. p y ≡ true) x xs h in
    rw first (testing p xs (All-tail (λ y. p y ≡ true) x xs h))

pub above : (c : ℕ) (text : List ℕ) → list_all (λ b. nat_lt c b) text ≡ true → Above c text
above c text h = All-weaker (λ b. nat_lt c b ≡ true) (λ b. c < b) (λ b t. ltb-true c b t) text (tested (λ b. nat_lt c b) text h)

-- digits
pub decimal_above : (n : ℕ) → n < 2 ^ 64 → Above 47 (decimal n)
decimal_above n h =
    let P : ℕ → List ℕ → Type 0 = λ m ds. Above 47 ds in
    decimal_by_steps P (λ m lt. All-cons (λ b. 47 < b) (48 + m) [] (omega arith) (All-nil (λ b. 47 < b)))
    (λ m ds lt ih. All-append (λ b. 47 < b) ds ((48 + m % 10) ∷ []) ih (All-cons (λ b. 47 < b) (48 + m % 10) [] (omega arith) (All-nil (λ b. 47 < b)))) n h

-- digits, or a sign and digits
pub signed_above : (z : ℤ) → is_number z ≡ true → Above 44 (signed_decimal z)
signed_above (pos n) h = let s = small (pos n) h in lower 47 44 (decimal n) (omega arith) (decimal_above n (omega (arith, s)))
signed_above (negsuc n) h =
    let le : n ≤ 9223372036854775807 = leb-true n 9223372036854775807 h in
    All-cons (λ b. 44 < b) 45 (decimal (suc n)) (omega arith) (lower 47 44 (decimal (suc n)) (omega arith) (decimal_above (suc n) (omega (arith, le))))

-- pieces above a bound, each after such a byte
pub pieces_above : {A : Type 0} (f : A → List ℕ) (P : A → Type 0) (c d : ℕ) → d < c → ((x : A) → P x → Above d (f x)) → (xs : List A) → All P xs → Above d (each_after c (map f xs))
pieces_above f P c d lt h [] p = All-nil (λ b. d < b)
pieces_above f P c d lt h (x ∷ xs) p =
    All-cons (λ b. d < b) c (f x ++ each_after c (map f xs)) lt
    (All-append (λ b. d < b) (f x) (each_after c (map f xs)) (h x (All-head P x xs p)) (pieces_above f P c d lt h xs (All-tail P x xs p)))

-- digits and dots
pub path_above : (path : List ℕ) → IsPath path → Above 44 (path_text path)
path_above path h =
    let F : List ℕ → Type 0 = λ p. Above 44 (path_text p) in
    subst F (sym h.root)
    (All-append (λ b. 44 < b) (decimal 0) (each_after 46 (map decimal h.more)) (lower 47 44 (decimal 0) (omega arith) (decimal_above 0 (omega arith)))
    (pieces_above decimal (λ k. k < 4294967296) 46 44 (omega arith) (λ k lt. lower 47 44 (decimal k) (omega arith) (decimal_above k (omega arith))) h.more h.fit))

letter_above : (b : ℕ) → is_letter b ≡ true → 47 < b
letter_above b h = grind arith

letter_or_digit_above : (b : ℕ) → is_letter_or_digit b ≡ true → 47 < b
letter_or_digit_above b h = grind arith

letter_is_no_bracket : (b : ℕ) → is_letter_or_digit b ≡ true → b ≢ 91
letter_is_no_bracket b h e = grind arith

letter_goes_on : (b : ℕ) → is_letter b ≡ true → is_letter_or_digit b ≡ true
letter_goes_on b h = rw h refl

pub word_letters : (name : List ℕ) → is_word name ≡ true → All (λ b. is_letter_or_digit b ≡ true) name
word_letters [] h = absurd (cc)
word_letters (b ∷ bytes) h =
    All-cons (λ x. is_letter_or_digit x ≡ true) b bytes (letter_goes_on b (and_left (is_letter b) (list_all is_letter_or_digit bytes) h))
    (tested is_letter_or_digit bytes (and_right (is_letter b) (list_all is_letter_or_digit bytes) h))

pub word_above : (name : List ℕ) → is_word name ≡ true → Above 47 name
word_above name h = All-weaker (λ b. is_letter_or_digit b ≡ true) (λ b. 47 < b) letter_or_digit_above name (word_letters name h)

-- the bracket of an index does not stand in a word
pub word_lacks : (name : List ℕ) → is_word name ≡ true → Lacks 91 name
word_lacks name h = All-weaker (λ b. is_letter_or_digit b ≡ true) (λ b. b ≢ 91) letter_is_no_bracket name (word_letters name h)

pub label_above : (label : List ℕ) → IsLabel label → Above 44 label
label_above label (single word) = lower 47 44 label (omega arith) (word_above label word)
label_above label (member name index word lt e) =
    let F : List ℕ → Type 0 = Above 44 in
    subst F (sym e)
    (All-append (λ b. 44 < b) name (91 ∷ (decimal index ++ 93 ∷ [])) (lower 47 44 name (omega arith) (word_above name word))
    (All-cons (λ b. 44 < b) 91 (decimal index ++ 93 ∷ []) (omega arith)
    (All-append (λ b. 44 < b) (decimal index) (93 ∷ []) (lower 47 44 (decimal index) (omega arith) (decimal_above index (omega arith)))
    (All-cons (λ b. 44 < b) 93 [] (omega arith) (All-nil (λ b. 44 < b))))))

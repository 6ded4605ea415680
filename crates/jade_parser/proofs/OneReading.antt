-- Tokens are read in one way: as a program's, or as refused at one place.
use Rattle.std.proofs.Common.{◌≡◌, ℕ, zero, suc, ◌+◌, ◌<◌, ◌≤◌, Bool, true, false, ◌&&◌, nat_le, List, []}
use Rattle.std.proofs.Common.{◌∷◌, ◌++◌, refl, ap, sym, ◌∙◌, map, take, length, arith, append_assoc}
use Rattle.std.proofs.Common.{append-nil, length-append}
use Rattle.std.specs.List.{list_all}
use Rattle.std.proofs.lemmas.List.{map-append, length-map, take_at, take_all, length-take-le}
use Rattle.std.proofs.lemmas.List.Folds.{list_all-append, list_all-map}
use Rattle.jade_syntax.specs.declared.tree.Program.{Program}
use Rattle.jade_parser.specs.Spelled.{Tokens, Part, Parts, tokens_of, is_valid, AllShort}
use Rattle.jade_parser.specs.Kinds.{token_bytes, token_of_bytes}
use Rattle.jade_parser.specs.Programs.{program_parts}
use Rattle.jade_lexer.specs.Lexemes.{TokenList}
use Rattle.jade_parser.specs.declared.ParseError.{ParseError}
use Rattle.jade_parser.specs.declared.ParseError.TheVariants.{Token as AtToken, Long, Memory}
use Rattle.jade_parser.specs.Grammar.{bytes_of, texts, place_of, IsProgram, IsReading, IsBegun, IsBegunShort, IsRefused, IsTooLong, IsRefusal}
use Rattle.jade_parser.specs.OneReading.{SameRefusal, IsMemory}
use Rattle.jade_parser.proofs.Known.{back, both_true}
use Rattle.jade_parser.proofs.Marking.{Standing, Before, marks, after, role, stands_after, nths, marks_append}
use Rattle.jade_parser.proofs.MarkedStatements.{program_goes}

-- numbers of tokens, none past the 256th
abbrev fine : List ℕ → Bool
fine ns = list_all (λ n. nat_le n 256) ns

fine_front : (a b : List ℕ) → fine (a ++ b) ≡ true → fine a ≡ true
fine_front a b e = (both_true (fine a) (fine b) (sym (list_all-append (λ n. nat_le n 256) a b) ∙ e)).0

and_false : (b : Bool) → (b && false) ≡ false
and_false true = refl
and_false false = refl

not_fine : (a : List ℕ) (n : ℕ) → n ≡ 257 → fine (a ++ n ∷ []) ≡ false
not_fine a n e = list_all-append (λ n. nat_le n 256) a (n ∷ []) ∙ ap (λ k. fine a && fine (k ∷ [])) e ∙ and_false (fine a)

-- a list begins with its first items
record Front {A : Type 0} (i j : ℕ) (xs : List A) : Type 0 where
  more : List A
  same : take j xs ≡ take i xs ++ more

front : {A : Type 0} (i j : ℕ) (xs : List A) → i ≤ j → Front i j xs
front zero j xs le = record { more = take j xs; same = refl }
front (suc i) zero xs le = absurd (omega arith)
front (suc i) (suc j) [] le = record { more = []; same = refl }
front (suc i) (suc j) (x ∷ xs) le = let r = front i j xs (omega arith) in record { more = r.more; same = ap (λ ys. x ∷ ys) r.same }

same_front : {B : Type 0} (xs ys us vs : List B) → length xs ≡ length ys → xs ++ us ≡ ys ++ vs → xs ≡ ys
same_front xs ys us vs e h = sym (take_at xs us (length xs) refl) ∙ ap (take (length xs)) h ∙ take_at ys vs (length xs) (sym e)

marks_length : (s : Standing) (ts : Tokens) → length (marks s ts) ≡ length ts
marks_length s [] = refl
marks_length s (t ∷ ts) = ap suc (marks_length (after s (role t)) ts)

-- the first parts of a program have the numbers that their tokens tell
numbers_are : (p : Program) (read more : Parts) → program_parts p ≡ read ++ more → nths read ≡ marks Before (tokens_of read)
numbers_are p read more e =
    let whole : marks Before (tokens_of (program_parts p)) ≡ nths (program_parts p) = ap (marks Before) (sym (append-nil (tokens_of (program_parts p))))
    ∙ (program_goes p).by [] ∙ append-nil (nths (program_parts p)) in
    let a : nths read ++ nths more ≡ marks Before (tokens_of read) ++ marks (stands_after Before (tokens_of read)) (tokens_of more) =
    sym (map-append (λ (q : Part). q.nth) read more) ∙ ap nths (sym e) ∙ sym whole ∙ ap (λ ps. marks Before (tokens_of ps)) e
    ∙ ap (marks Before) (map-append (λ (q : Part). q.token) read more) ∙ marks_append Before (tokens_of read) (tokens_of more) in
    let n : length (nths read) ≡ length (marks Before (tokens_of read)) =
    length-map read _ ∙ sym (length-map read _) ∙ sym (marks_length Before (tokens_of read)) in
    same_front (nths read) (marks Before (tokens_of read)) _ _ n a

tokens_back : (ps : Parts) → list_all (λ (q : Part). is_valid q.token) ps ≡ true → tokens_of ps ≡ map token_of_bytes (bytes_of ps)
tokens_back [] e = refl
tokens_back (p ∷ ps) e =
    let b = both_true (is_valid p.token) (list_all (λ (q : Part). is_valid q.token) ps) e in
    ap (λ t. t ∷ tokens_of ps) (sym (back p.token b.0)) ∙ ap (λ ts. token_of_bytes (token_bytes p.token) ∷ ts) (tokens_back ps b.1)

-- the numbers of the first k tokens
abbrev numbers : List (List ℕ) → ℕ → List ℕ
numbers ts k = marks Before (map token_of_bytes (take k ts))

numbers_read : (p : Program) (read more : Parts) (ts : List (List ℕ)) (k : ℕ) → IsProgram p → program_parts p ≡ read ++ more → bytes_of read ≡ take k ts
    → nths read ≡ numbers ts k
numbers_read p read more ts k sound e s =
    let v = both_true (list_all (λ (q : Part). is_valid q.token) read) (list_all (λ (q : Part). is_valid q.token) more)
    (sym (list_all-append (λ (q : Part). is_valid q.token) read more) ∙ ap (list_all (λ (q : Part). is_valid q.token)) (sym e) ∙ sound.valid.is) in
    numbers_are p read more e ∙ ap (marks Before) (tokens_back read v.0 ∙ ap (map token_of_bytes) s)

short_fine : (ps : Parts) → AllShort ps → fine (nths ps) ≡ true
short_fine ps s = list_all-map (λ n. nat_le n 256) (λ (q : Part). q.nth) ps ∙ s.is

fine_less : (ts : List (List ℕ)) (i j : ℕ) → i ≤ j → fine (numbers ts j) ≡ true → fine (numbers ts i) ≡ true
fine_less ts i j le e =
    let f = front i j ts le in
    let a : numbers ts j ≡ numbers ts i ++ marks (stands_after Before (map token_of_bytes (take i ts))) (map token_of_bytes f.more) =
    ap (λ l. marks Before (map token_of_bytes l)) f.same ∙ ap (marks Before) (map-append token_of_bytes (take i ts) f.more)
    ∙ marks_append Before (map token_of_bytes (take i ts)) (map token_of_bytes f.more) in
    fine_front (numbers ts i) _ (ap fine (sym a) ∙ e)

begun_fine : (ts : List (List ℕ)) (k : ℕ) → IsBegunShort (take k ts) → fine (numbers ts k) ≡ true
begun_fine ts k b = ap fine (sym (numbers_read b.program b.read b.more ts k b.sound b.by b.spelled)) ∙ short_fine b.read b.short

long_not : (ts : List (List ℕ)) (k : ℕ) → IsTooLong ts k → fine (numbers ts (k + 1)) ≡ false
long_not ts k b =
    ap fine (sym (numbers_read b.program (b.read ++ b.last ∷ []) b.more ts (k + 1) b.sound b.by b.spelled)
    ∙ map-append (λ (q : Part). q.nth) b.read (b.last ∷ [])) ∙ not_fine (nths b.read) b.last.nth b.too_many

-- before the 257th token the others stand
long_fine : (ts : List (List ℕ)) (k : ℕ) → IsTooLong ts k → fine (numbers ts k) ≡ true
long_fine ts k b =
    let f = front k (k + 1) ts (omega arith) in
    let cut : bytes_of b.read ++ token_bytes b.last.token ∷ [] ≡ take k ts ++ f.more =
    sym (ap (map token_bytes) (map-append (λ (q : Part). q.token) b.read (b.last ∷ [])) ∙ map-append token_bytes (tokens_of b.read) (b.last.token ∷ []))
    ∙ b.spelled ∙ f.same in
    let w = b.within in
    let n : length (take (k + 1) ts) ≡ k + 1 = length-take-le (k + 1) ts (omega arith) in
    let m : length (bytes_of b.read ++ token_bytes b.last.token ∷ []) ≡ length (bytes_of b.read) + 1 =
    length-append (bytes_of b.read) (token_bytes b.last.token ∷ []) in
    let l : length (bytes_of b.read ++ token_bytes b.last.token ∷ []) ≡ length (take (k + 1) ts) = ap length (cut ∙ sym f.same) in
    let d : length (take k ts) ≡ k = length-take-le k ts (omega arith) in
    let same : bytes_of b.read ≡ take k ts = same_front (bytes_of b.read) (take k ts) _ _ (omega (arith, n, m, l, d)) cut in
    ap fine (sym (numbers_read b.program b.read (b.last ∷ [] ++ b.more) ts k b.sound (b.by ∙ append_assoc b.read (b.last ∷ []) b.more) same))
    ∙ short_fine b.read b.short

begun_less : (p : Program) (more ts : List (List ℕ)) (i j : ℕ) → i ≤ j → IsProgram p → bytes_of (program_parts p) ≡ take j ts ++ more → IsBegun (take i ts)
begun_less p more ts i j le sound e =
    let f = front i j ts le in
    record { program = p; more = f.more ++ more; sound = sound; spelled = e ∙ ap (λ l. l ++ more) f.same ∙ append_assoc (take i ts) f.more more }

bytes_append : (a b : Parts) → bytes_of (a ++ b) ≡ bytes_of a ++ bytes_of b
bytes_append a b = ap (map token_bytes) (map-append (λ (q : Part). q.token) a b) ∙ map-append token_bytes (tokens_of a) (tokens_of b)

-- what is refused at one place is refused at no later one
pub refused_once : (ts : List (List ℕ)) (i j : ℕ) → IsRefused ts i → IsRefused ts j → i < j → ⊥
refused_once ts i j a b lt =
    let w = b.within in
    let s = b.begun in
    a.no_more (omega arith) (begun_less s.program (bytes_of s.more) ts (i + 1) j (omega arith) s.sound
    (ap bytes_of s.by ∙ bytes_append s.read s.more ∙ ap (λ l. l ++ bytes_of s.more) s.spelled))

pub long_once : (ts : List (List ℕ)) (i j : ℕ) → IsTooLong ts i → IsTooLong ts j → i < j → ⊥
long_once ts i j a b lt = let e : true ≡ false = sym (fine_less ts (i + 1) j (omega arith) (long_fine ts j b)) ∙ long_not ts i a in absurd (cc)

pub refused_or_long : (ts : List (List ℕ)) (i j : ℕ) → IsRefused ts i → IsTooLong ts j → j < i → ⊥
refused_or_long ts i j a b lt = let e : true ≡ false = sym (fine_less ts (j + 1) i (omega arith) (begun_fine ts i a.begun)) ∙ long_not ts j b in
    absurd (cc)

pub long_or_refused : (ts : List (List ℕ)) (i j : ℕ) → IsRefused ts i → IsTooLong ts j → i ≤ j → ⊥
long_or_refused ts i j a b le =
    let w = b.within in
    a.no_more (omega arith) (begun_less b.program (bytes_of b.more) ts (i + 1) (j + 1) (omega arith) b.sound
    (ap bytes_of b.by ∙ bytes_append (b.read ++ b.last ∷ []) b.more ∙ ap (λ l. l ++ bytes_of b.more) b.spelled))

-- a program's tokens are refused nowhere
pub read_or_refused : (ts : List (List ℕ)) (p : Program) (i : ℕ) → IsProgram p → bytes_of (program_parts p) ≡ ts → IsRefused ts i → i < length ts → ⊥
read_or_refused ts p i sound e a lt =
    a.no_more lt (begun_less p [] ts (i + 1) (length ts) (omega arith) sound
    (e ∙ sym (take_all (length ts) ts (omega arith)) ∙ sym (append-nil (take (length ts) ts))))

pub read_or_long : (ts : List (List ℕ)) (p : Program) (i : ℕ) → IsProgram p → AllShort (program_parts p) → bytes_of (program_parts p) ≡ ts → IsTooLong ts i
    → ⊥
read_or_long ts p i sound short e b =
    let w = b.within in
    let same : bytes_of (program_parts p) ≡ take (length ts) ts = e ∙ sym (take_all (length ts) ts (omega arith)) in
    let f : fine (numbers ts (length ts)) ≡ true =
    ap fine (sym (numbers_read p (program_parts p) [] ts (length ts) sound (sym (append-nil (program_parts p))) same))
    ∙ short_fine (program_parts p) short in
    let d : true ≡ false = sym (fine_less ts (i + 1) (length ts) (omega arith) f) ∙ long_not ts i b in
    absurd (cc)

by_order : {A : Type 0} (i j : ℕ) → (i < j → A) → (i ≡ j → A) → (j < i → A) → A
by_order zero zero l e g = e refl
by_order zero (suc j) l e g = l (omega arith)
by_order (suc i) zero l e g = g (omega arith)
by_order (suc i) (suc j) l e g = by_order i j (λ h. l (omega (arith, h))) (λ h. e (ap suc h)) (λ h. g (omega (arith, h)))

pub refusals_same : (ts : TokenList) (e f : ParseError) → IsRefusal ts e → IsRefusal ts f → SameRefusal e f
refusals_same ts (AtToken p) (AtToken q) a b =
    by_order a.number b.number (λ l. absurd (refused_once (texts ts) a.number b.number a.refused b.refused l)) (λ h. a.at ∙ ap (place_of ts) h ∙ sym b.at)
    (λ l. absurd (refused_once (texts ts) b.number a.number b.refused a.refused l))
refusals_same ts (Long p) (Long q) a b =
    by_order a.number b.number (λ l. absurd (long_once (texts ts) a.number b.number a.too_long b.too_long l)) (λ h. a.at ∙ ap (place_of ts) h ∙ sym b.at)
    (λ l. absurd (long_once (texts ts) b.number a.number b.too_long a.too_long l))
refusals_same ts (AtToken p) (Long q) a b =
    by_order a.number b.number (λ l. long_or_refused (texts ts) a.number b.number a.refused b.too_long (omega (arith, l)))
    (λ h. long_or_refused (texts ts) a.number b.number a.refused b.too_long (omega (arith, h)))
    (λ l. refused_or_long (texts ts) a.number b.number a.refused b.too_long l)
refusals_same ts (Long p) (AtToken q) a b =
    by_order b.number a.number (λ l. long_or_refused (texts ts) b.number a.number b.refused a.too_long (omega (arith, l)))
    (λ h. long_or_refused (texts ts) b.number a.number b.refused a.too_long (omega (arith, h)))
    (λ l. refused_or_long (texts ts) b.number a.number b.refused a.too_long l)
refusals_same ts Memory f a b = tt
refusals_same ts (AtToken p) Memory a b = tt
refusals_same ts (Long p) Memory a b = tt

pub apart_is : (ts : TokenList) (p : Program) (e : ParseError) → IsReading ts p → IsRefusal ts e → IsMemory e
apart_is ts p (AtToken q) r a =
    by_order a.number (length (texts ts)) (λ l. read_or_refused (texts ts) p a.number r.sound r.spelled a.refused l)
    (λ h. a.refused.no_end p r.sound r.spelled)
    (λ l. let w = a.refused.within in absurd (omega (arith, l, w)))
apart_is ts p (Long q) r a = read_or_long (texts ts) p a.number r.sound r.short r.spelled a.too_long
apart_is ts p Memory r a = tt

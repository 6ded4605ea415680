-- Where the tokens of a text stand, at most 64 brackets are open, and the text has a byte for each of them.
use Rattle.std.proofs.Common.{◌≡◌, ℕ, ◌+◌, ◌-◌, ◌<◌, ◌≤◌, max, Bool, true, false, not, ◌&&◌, List, [], ◌∷◌}
use Rattle.std.proofs.Common.{◌++◌, length, map, get_or, codes, refl, ap, subst, ◌∙◌, arith, append_assoc}
use Rattle.std.proofs.Common.{length-append, if◌then◌else◌}
use Rattle.std.proofs.Math.Dec.{eqb}
use Rattle.std.proofs.lemmas.Bool.{and_parts, not-true}
use Rattle.jade_base.specs.declared.place.Pos.{Pos}
use Rattle.jade_lexer.specs.Alphabet.{is_opener, is_closer}
use Rattle.jade_lexer.specs.Lexemes.{TokenAt}
use Rattle.jade_lexer.specs.Reading.{depth_after, pos_after}
use Rattle.jade_lexer.specs.Cut.{Cut, IsSound, nothing, blank, token}
use Rattle.jade_lexer.proofs.Cuts.{token_some}
use Rattle.jade_layout.specs.Spelling.{Token, Tokens}
use Rattle.jade_layout.specs.Readable.{is_sound, is_bang}
use Rattle.jade_layout.proofs.Goes.{is_plain}

-- the number of open brackets after a token, before which so many are open
abbrev pub past : ℕ → Token → ℕ
past depth t = depth_after depth (get_or t 0 0)

-- at most 64 brackets are open before these tokens, between them and after them, where so many are open before the first
abbrev pub Shallow : ℕ → Tokens → Type 0
Shallow depth [] = depth ≤ 64
Shallow depth (t ∷ ts) = (depth ≤ 64) × Shallow (past depth t) ts

shallow_start : (depth : ℕ) (ts : Tokens) → Shallow depth ts → depth ≤ 64
shallow_start depth [] h = h
shallow_start depth (t ∷ ts) h = h.0

-- wherever at most 64 brackets are open, these tokens leave as many open as they find, and so many more are open somewhere in them
pub record Nests (deep : ℕ) (ts : Tokens) : Type 0 where
  pub room : (depth : ℕ) (rest : Tokens) → Shallow depth (ts ++ rest) → depth + deep ≤ 64
  pub left : (depth : ℕ) (rest : Tokens) → Shallow depth (ts ++ rest) → Shallow depth rest

pub less : {k : ℕ} {ts : Tokens} (m : ℕ) → m ≤ k → Nests k ts → Nests m ts
less m le n = record { room = λ depth rest s. let r = n.room depth rest s in omega arith; left = n.left }

pub nests_nothing : Nests 0 []
nests_nothing = record { room = λ depth rest s. let r = shallow_start depth rest s in omega arith; left = λ depth rest s. s }

pub join : {k m : ℕ} {a b : Tokens} → Nests k a → Nests m b → Nests (max k m) (a ++ b)
join {k} {m} {a} {b} p q = record {
  room = λ depth rest s.
      let whole : Shallow depth (a ++ (b ++ rest)) = subst (λ ts. Shallow depth ts) (append_assoc a b rest) s in
      let first = p.room depth (b ++ rest) whole in
      let second = q.room depth rest (p.left depth (b ++ rest) whole) in
      omega arith;
  left = λ depth rest s. q.left depth rest (p.left depth (b ++ rest) (subst (λ ts. Shallow depth ts) (append_assoc a b rest) s));
}

-- a token that is no bracket
pub sign : (t : Token) → ((depth : ℕ) → past depth t ≡ depth) → Nests 0 (t ∷ [])
sign t same = record {
  room = λ depth rest s. let le = s.0 in omega arith;
  left = λ depth rest s. subst (λ d. Shallow d rest) (same depth) s.1;
}

-- tokens in brackets
enclosed : {k : ℕ} {ts : Tokens} (opening closing : Token) → ((depth : ℕ) → past depth opening ≡ depth + 1)
    → ((depth : ℕ) → past (depth + 1) closing ≡ depth) → Nests k ts → Nests (k + 1) (opening ∷ (ts ++ closing ∷ []))
enclosed {k} {ts} opening closing opens closes n = record {
  room = λ depth rest s. let r = n.room (depth + 1) (closing ∷ rest) (inner depth rest s) in omega arith;
  left = λ depth rest s. subst (λ d. Shallow d rest) (closes depth) (n.left (depth + 1) (closing ∷ rest) (inner depth rest s)).1;
}
  where
    inner : (depth : ℕ) (rest : Tokens) → Shallow depth ((opening ∷ (ts ++ closing ∷ [])) ++ rest) → Shallow (depth + 1) (ts ++ closing ∷ rest)
    inner depth rest s = subst (λ l. Shallow (depth + 1) l) (append_assoc ts (closing ∷ []) rest)
        (subst (λ d. Shallow d ((ts ++ closing ∷ []) ++ rest)) (opens depth) s.1)

pub round : {k : ℕ} {ts : Tokens} → Nests k ts → Nests (k + 1) (codes "(" ∷ (ts ++ codes ")" ∷ []))
round n = enclosed (codes "(") (codes ")") (λ depth. refl) (λ depth. omega arith) n

pub square : {k : ℕ} {ts : Tokens} → Nests k ts → Nests (k + 1) (codes "[" ∷ (ts ++ codes "]" ∷ []))
square n = enclosed (codes "[") (codes "]") (λ depth. refl) (λ depth. omega arith) n

pub curly : {k : ℕ} {ts : Tokens} → Nests k ts → Nests (k + 1) (codes "{" ∷ (ts ++ codes "}" ∷ []))
curly n = enclosed (codes "{") (codes "}") (λ depth. refl) (λ depth. omega arith) n

-- a token that is neither an opening bracket nor a closing one leaves as many open as it finds
no_bracket : (depth b : ℕ) → is_opener b ≡ false → is_closer b ≡ false → depth_after depth b ≡ depth
no_bracket depth b opens closes = (λ i. if opens i then depth + 1 else (if closes i then depth - 1 else depth))

-- words, names and numbers are no brackets
pub plain : (t : Token) → is_plain t ≡ true → Nests 0 (t ∷ [])
plain t h =
    let p = and_parts (is_sound t && not (is_opener (get_or t 0 0)) && not (is_closer (get_or t 0 0)) && not (eqb (get_or t 0 0) 61)) (not (is_bang t))
    h in
    let q = and_parts (is_sound t && not (is_opener (get_or t 0 0)) && not (is_closer (get_or t 0 0))) (not (eqb (get_or t 0 0) 61)) p.0 in
    let r = and_parts (is_sound t && not (is_opener (get_or t 0 0))) (not (is_closer (get_or t 0 0))) q.0 in
    let s = and_parts (is_sound t) (not (is_opener (get_or t 0 0))) r.0 in
    sign t (λ depth. no_bracket depth (get_or t 0 0) (not-true (is_opener (get_or t 0 0)) s.1) (not-true (is_closer (get_or t 0 0)) r.1))

-- after a token at most 64 brackets are open, if fewer are before one that opens
past_bounded : (opens closes : Bool) (depth : ℕ) → depth ≤ 64 → (opens ≡ true → depth < 64)
    → (if opens then depth + 1 else (if closes then depth - 1 else depth)) ≤ 64
past_bounded true closes depth le room = let lt = room refl in omega arith
past_bounded false true depth le room = omega arith
past_bounded false false depth le room = le

past_sound : (depth : ℕ) (t after : Token) → depth ≤ 64 → IsSound depth t after → past depth t ≤ 64
past_sound depth t after le sound = past_bounded (is_opener (get_or t 0 0)) (is_closer (get_or t 0 0)) depth le sound.shallow

-- the tokens as their bytes
abbrev pub bytes_of : List TokenAt → Tokens
bytes_of tokens = map (λ t. t.bytes) tokens

-- where a text is cut into tokens, at most 64 brackets are open
pub cut_shallow : (end pos : Pos) (start depth : ℕ) (bytes : List ℕ) (tokens : List TokenAt) → depth ≤ 64
    → Cut end (record { start = start; pos = pos; depth = depth }) bytes tokens → Shallow depth (bytes_of tokens)
cut_shallow end pos start depth [] [] le (nothing is) = le
cut_shallow end pos start depth bytes tokens le (blank front after is is_blank rest) =
    cut_shallow end (pos_after pos front) (start + length front) depth after tokens le rest
cut_shallow end pos start depth bytes (t ∷ tokens) le (token after is starts stands first sound rest) =
    (le, cut_shallow end (pos_after pos t.bytes) (start + length t.bytes) (past depth t.bytes) after tokens (past_sound depth t.bytes after le sound) rest)

-- a text that is cut into tokens has a byte for each
pub cut_count : (end pos : Pos) (start depth : ℕ) (bytes : List ℕ) (tokens : List TokenAt)
    → Cut end (record { start = start; pos = pos; depth = depth }) bytes tokens → length tokens ≤ length bytes
cut_count end pos start depth [] [] (nothing is) = omega arith
cut_count end pos start depth bytes tokens (blank front after is is_blank rest) =
    let later = cut_count end (pos_after pos front) (start + length front) depth after tokens rest in
    let whole : length bytes ≡ length front + length after = ap length is ∙ length-append front after in
    omega arith
cut_count end pos start depth bytes (t ∷ tokens) (token after is starts stands first sound rest) =
    let later = cut_count end (pos_after pos t.bytes) (start + length t.bytes) (past depth t.bytes) after tokens rest in
    let whole : length bytes ≡ length t.bytes + length after = ap length is ∙ length-append t.bytes after in
    let some = token_some t.bytes first.a_token in
    omega arith

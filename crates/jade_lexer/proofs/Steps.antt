-- How a reading goes on from one part of a text to the next.
use Rattle.std.proofs.Common.{
  ◌≡◌,
  ℕ,
  zero,
  suc,
  ◌+◌,
  ◌-◌,
  ◌<◌,
  ◌≤◌,
  List,
  [],
  ◌∷◌,
  ◌++◌,
  length,
  get_or,
  map,
  take,
  drop,
  Ok,
  Err,
  refl,
  sym,
  ap,
  ◌∙◌,
  arith,
  length-drop,
  length-take-le,
}
use Rattle.jade_base.specs.declared.place.Pos.{Pos}
use Rattle.jade_lexer.specs.declared.lexeme.Lexeme.{Lexeme}
use Rattle.jade_lexer.specs.declared.lexeme.LexError.{LexError}
use Rattle.jade_lexer.specs.declared.lexeme.LexError.TheVariants.{Byte, Number, Deep, Memory}
use Rattle.jade_lexer.specs.declared.lexer.Part.TheVariants.{Blank, Token}
use Rattle.jade_lexer.specs.declared.lexer.Spot.{Spot}
use Rattle.jade_lexer.specs.Lexemes.{TokenAt, token_of}
use Rattle.jade_lexer.specs.Reading.{Reading, Whole, Refused, add, part_reading, read_from, reading, first_part, spot_after, depth_after, IsRefusal}

-- tokens before the rest of a reading
abbrev pub add_all : List TokenAt → Reading → Reading
add_all [] r = r
add_all (t ∷ ts) r = add t (add_all ts r)

add_all-push : (ts : List TokenAt) (t : TokenAt) (r : Reading) → add_all (ts ++ t ∷ []) r ≡ add_all ts (add t r)
add_all-push [] t r = refl
add_all-push (u ∷ ts) t r = ap (add u) (add_all-push ts t r)

add_all-whole : (ts : List TokenAt) (p : Pos) → add_all ts (Whole (record { lexemes = []; end = p })) ≡ Whole (record { lexemes = ts; end = p })
add_all-whole [] p = refl
add_all-whole (t ∷ ts) p = ap (add t) (add_all-whole ts p)

add_all-refused : (ts : List TokenAt) (e : LexError) → add_all ts (Refused e) ≡ Refused e
add_all-refused [] e = refl
add_all-refused (t ∷ ts) e = ap (add t) (add_all-refused ts e)

-- passing bytes is dropping them
passed : (n : ℕ) (spot : Spot) (bytes : List ℕ) → read_from n spot bytes ≡ read_from 0 spot (drop n bytes)
passed zero spot bytes = refl
passed (suc n) spot [] = refl
passed (suc n) spot (b ∷ bytes) = passed n spot bytes

passed_one_less : (n : ℕ) (spot : Spot) (b : ℕ) (bytes : List ℕ) → 0 < n → read_from (n - 1) spot bytes ≡ read_from 0 spot (drop n (b ∷ bytes))
passed_one_less zero spot b bytes some = absurd (omega arith)
passed_one_less (suc n) spot b bytes some = let less : suc n - 1 ≡ n = omega arith in ap (λ k. read_from k spot bytes) less ∙ passed n spot bytes

-- a reading, by its first part
pub blank_read : (spot : Spot) (bytes : List ℕ) (n : ℕ) → 0 < length bytes → 0 < n → Ok (Blank n) ≡ first_part spot bytes → read_from 0 spot bytes
    ≡ read_from 0 (spot_after spot (take n bytes) spot.depth) (drop n bytes)
blank_read spot [] n nonempty some part = absurd (omega arith)
blank_read spot (b ∷ bytes) n nonempty some part =
    ap (λ p. part_reading spot (b ∷ bytes) p (λ k after. read_from k after bytes)) (sym part)
    ∙ passed_one_less n (spot_after spot (take n (b ∷ bytes)) spot.depth) b bytes some

abbrev pub token_at : Spot → List ℕ → TokenAt
token_at spot token = record { bytes = token; start = spot.start; pos = spot.pos }

pub token_read : (spot : Spot) (bytes : List ℕ) (n : ℕ) → 0 < length bytes → 0 < n → Ok (Token n) ≡ first_part spot bytes → read_from 0 spot bytes
    ≡ add (token_at spot (take n bytes)) (read_from 0 (spot_after spot (take n bytes) (depth_after spot.depth (get_or bytes 0 0))) (drop n bytes))
token_read spot [] n nonempty some part = absurd (omega arith)
token_read spot (b ∷ bytes) n nonempty some part =
    ap (λ p. part_reading spot (b ∷ bytes) p (λ k after. read_from k after bytes)) (sym part)
    ∙ ap (add (token_at spot (take n (b ∷ bytes)))) (passed_one_less n (spot_after spot (take n (b ∷ bytes)) (depth_after spot.depth b)) b bytes some)

pub refused_read : (spot : Spot) (bytes : List ℕ) (e : LexError) → 0 < length bytes → Err e ≡ first_part spot bytes → read_from 0 spot bytes ≡ Refused e
refused_read spot [] e nonempty part = absurd (omega arith)
refused_read spot (b ∷ bytes) e nonempty part =
    ap (λ p. part_reading spot (b ∷ bytes) p (λ k after. read_from k after bytes)) (sym part)

-- the loop's invariant: the tokens found and the reading of what is left are the reading of the text
pub record Underway (text : List ℕ) (found : List TokenAt) (spot : Spot) (rest : List ℕ) : Type 0 where
  pub same : reading text ≡ add_all found (read_from 0 spot rest)
  pub start : spot.start + length rest ≡ length text
  pub line : spot.pos.line ≤ spot.start + 1
  pub column : spot.pos.column ≤ spot.start + 1
  pub depth : spot.depth ≤ spot.start

-- what a step takes off: the first n bytes of the rest, of which there are some
pub record Takes (n : ℕ) (rest front after : List ℕ) : Type 0 where
  pub some : 0 < n
  pub within : n ≤ length rest
  pub front_is : front ≡ take n rest
  pub after_is : after ≡ drop n rest

-- the spot after a step
pub record Moves (spot : Spot) (front : List ℕ) (depth : ℕ) (next : Spot) : Type 0 where
  pub is : next ≡ spot_after spot front depth
  pub line : next.pos.line ≤ spot.pos.line + length front
  pub column : next.pos.column ≤ spot.pos.column + length front

front_length : (n : ℕ) (rest front after : List ℕ) → Takes n rest front after → length front ≡ n
front_length n rest front after takes = ap length takes.front_is ∙ length-take-le n rest takes.within

after_length : (n : ℕ) (rest front after : List ℕ) → Takes n rest front after → n + length after ≡ length rest
after_length n rest front after takes = omega (arith, ap length takes.after_is, length-drop n rest, takes.within)

pub underway_blank : (text : List ℕ) (found : List TokenAt) (spot next : Spot) (n : ℕ) (rest front after : List ℕ) → Underway text found spot rest
    → Takes n rest front after → Moves spot front spot.depth next → Ok (Blank n) ≡ first_part spot rest → Underway text found next after
underway_blank text found spot next n rest front after so_far takes moves part =
    let front_long = front_length n rest front after takes in
    let after_long = after_length n rest front after takes in
    let some = takes.some in
    let nonempty : 0 < length rest = omega arith in
    let to_next : spot_after spot (take n rest) spot.depth ≡ next = ap (λ b. spot_after spot b spot.depth) (sym takes.front_is) ∙ sym moves.is in
    let to_after : drop n rest ≡ after = sym takes.after_is in
    let start_is : next.start ≡ spot.start + length front = ap (λ s. s.start) moves.is in
    let depth_is : next.depth ≡ spot.depth = ap (λ s. s.depth) moves.is in
    record {
      same = so_far.same ∙ ap (add_all found) (blank_read spot rest n nonempty some part ∙ (λ i. read_from 0 (to_next i) (to_after i)));
      start = omega (arith, so_far.start);
      line = omega (arith, so_far.line, moves.line);
      column = omega (arith, so_far.column, moves.column);
      depth = omega (arith, so_far.depth);
    }

pub underway_token : (text : List ℕ) (found new : List TokenAt) (token : TokenAt) (spot next : Spot) (depth n : ℕ) (rest front after : List ℕ)
    → Underway text found spot rest → Takes n rest front after → Moves spot front depth next → Ok (Token n) ≡ first_part spot rest → depth
    ≡ depth_after spot.depth (get_or rest 0 0) → depth ≤ spot.depth + 1 → token ≡ token_at spot front → new ≡ found ++ token ∷ [] → Underway text new next after
underway_token text found new token spot next depth n rest front after so_far takes moves part depth_is bound token_is new_is =
    let front_long = front_length n rest front after takes in
    let after_long = after_length n rest front after takes in
    let some = takes.some in
    let nonempty : 0 < length rest = omega arith in
    let to_next : spot_after spot (take n rest) (depth_after spot.depth (get_or rest 0 0)) ≡ next =
    (λ i. spot_after spot (sym takes.front_is i) (sym depth_is i)) ∙ sym moves.is in
    let to_after : drop n rest ≡ after = sym takes.after_is in
    let to_token : token_at spot (take n rest) ≡ token = ap (token_at spot) (sym takes.front_is) ∙ sym token_is in
    let start_is : next.start ≡ spot.start + length front = ap (λ s. s.start) moves.is in
    let next_depth : next.depth ≡ depth = ap (λ s. s.depth) moves.is in
    record {
      same = so_far.same
          ∙ ap (add_all found) (token_read spot rest n nonempty some part ∙ (λ i. add (to_token i) (read_from 0 (to_next i) (to_after i))))
          ∙ sym (add_all-push found token (read_from 0 next after))
          ∙ ap (λ ts. add_all ts (read_from 0 next after)) (sym new_is);
      start = omega (arith, so_far.start);
      line = omega (arith, so_far.line, moves.line);
      column = omega (arith, so_far.column, moves.column);
      depth = omega (arith, so_far.depth);
    }

-- with nothing left, what was found is the whole reading
pub underway_end : (text : List ℕ) (found : List TokenAt) (spot : Spot) (rest : List ℕ) → Underway text found spot rest → length rest ≡ 0 → reading text
    ≡ Whole (record { lexemes = found; end = spot.pos })
underway_end text found spot [] so_far none = so_far.same ∙ add_all-whole found spot.pos
underway_end text found spot (b ∷ rest) so_far none = absurd (omega arith)

is_refusal : (r : Reading) (e : LexError) → r ≡ Refused e → IsRefusal r e
is_refusal r (Byte p) same = same
is_refusal r (Number p) same = same
is_refusal r (Deep p) same = same
is_refusal r Memory same = tt

-- a refusal at the spot is the text's
pub underway_refused : (text : List ℕ) (found : List TokenAt) (spot : Spot) (rest : List ℕ) (e : LexError) → Underway text found spot rest → 0 < length rest
    → Err e ≡ first_part spot rest → IsRefusal (reading text) e
underway_refused text found spot rest e so_far nonempty part =
    is_refusal (reading text) e (so_far.same ∙ ap (add_all found) (refused_read spot rest e nonempty part) ∙ add_all-refused found e)

-- nothing found yet
pub underway_begin : (text : List ℕ) (spot : Spot) → spot ≡ record { start = 0; pos = record { line = 1; column = 1 }; depth = 0 } → Underway text [] spot text
underway_begin text spot is =
    let s : spot.start ≡ 0 = ap (λ x. x.start) is in
    let l : spot.pos.line ≡ 1 = ap (λ x. x.pos.line) is in
    let k : spot.pos.column ≡ 1 = ap (λ x. x.pos.column) is in
    let d : spot.depth ≡ 0 = ap (λ x. x.depth) is in
    record {
      same = ap (λ x. read_from 0 x text) (sym is);
      start = omega arith;
      line = omega arith;
      column = omega arith;
      depth = omega arith;
    }

pub map_push : (ls : List Lexeme) (l : Lexeme) → map token_of (ls ++ l ∷ []) ≡ map token_of ls ++ token_of l ∷ []
map_push [] l = refl
map_push (x ∷ ls) l = ap (λ ts. token_of x ∷ ts) (map_push ls l)

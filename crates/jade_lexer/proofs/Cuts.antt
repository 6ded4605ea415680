-- A text reads as these tokens exactly where it is cut into them, and as a refusal exactly where that is refused.
use Rattle.std.proofs.Common.{
  ◌≡◌,
  ℕ,
  zero,
  suc,
  ◌+◌,
  ◌-◌,
  ◌<◌,
  ◌≤◌,
  Bool,
  true,
  false,
  not,
  ◌||◌,
  List,
  [],
  ◌∷◌,
  ◌++◌,
  length,
  take,
  drop,
  get_or,
  Result,
  Ok,
  Err,
  refl,
  sym,
  ap,
  subst,
  ◌∙◌,
  ⊎_elim,
  arith,
  length-append,
  length-drop,
  length-take-le,
  get_or-take,
}
use Rattle.std.proofs.Math.Dec.{eqb, ltb}
use Rattle.std.proofs.Math.ListN.{get_or-append}
use Rattle.std.proofs.Math.Seq.{take-append_seam, drop-append_seam}
use Rattle.std.proofs.Math.Nat.{eq-zero-or-pos}
use Rattle.std.proofs.lemmas.List.{take-append-drop}
use Rattle.std.specs.List.{list_all}
use Rattle.std.specs.Char.{is_ascii_digit}
use Rattle.std.proofs.lemmas.Bool.{
  and_parts,
  and_from,
  and_left,
  and_right,
  and_cases,
  or_cases,
  cases_Bool,
  true≢false,
  lt-ltb,
  ltb-true,
  ltb-false,
  le-ltb,
  not-true,
  not-false,
  eqb-true,
  ne_eqb,
  false_from_ne_true,
}
use Rattle.jade_base.specs.declared.place.Pos.{Pos}
use Rattle.jade_lexer.specs.declared.lexeme.LexError.{LexError}
use Rattle.jade_lexer.specs.declared.lexeme.LexError.TheVariants.{Byte, Number, Deep}
use Rattle.jade_lexer.specs.declared.lexer.Part.{Part}
use Rattle.jade_lexer.specs.declared.lexer.Part.TheVariants.{Blank, Token}
use Rattle.jade_lexer.specs.declared.lexer.Spot.{Spot}
use Rattle.jade_lexer.specs.Alphabet.{is_separator, is_run, is_token, is_number, is_opener, longest}
use Rattle.jade_alphabet.specs.Letters.{is_letter, is_letter_or_digit, is_word}
use Rattle.jade_lexer.specs.Lexemes.{TokenAt, TokenList}
use Rattle.jade_lexer.specs.Reading.{Reading, Whole, Refused, add, read_from, first_part, token_part, spot_after, depth_after, begins_comment, pos_after}
use Rattle.jade_lexer.specs.Cut.{
  IsBlank,
  one_separator,
  comment,
  IsLongest,
  IsSound,
  Breaks,
  long_word,
  bad_number,
  deep,
  Cut,
  nothing,
  blank,
  token,
  Stops,
  after_blank,
  after_token,
  no_token,
  breaks,
}
use Rattle.jade_lexer.proofs.Longest.{
  prefix_passes,
  letter_token,
  digit_token,
  letter_is_no_digit,
  longest-le,
  longest_token,
  longest_above,
  longest_is,
  longest_zero,
}
use Rattle.jade_lexer.proofs.Parts.{
  line_len,
  part_separator,
  part_comment,
  part_token,
  comment_no_separator,
  too_long,
  no_number,
  too_deep,
  token_none,
  token_long,
  token_number,
  token_deep,
  token_fine,
  line_len_is,
  line_ends,
  line_begins,
  line_some,
  begins_more,
}
use Rattle.jade_lexer.proofs.Steps.{token_at, blank_read, token_read, refused_read}

abbrev blank_of : ℕ → Result Part LexError
blank_of n = Ok (Blank n)

abbrev token_of_length : ℕ → Result Part LexError
token_of_length n = Ok (Token n)

-- a token has a first byte, and that tells its class
pub token_some : (t : List ℕ) → is_token t ≡ true → 0 < length t
token_some [] is = absurd (true≢false (sym is))
token_some (b ∷ t) is = omega arith

word_head : (t : List ℕ) → is_word t ≡ true → is_letter (get_or t 0 0) ≡ true
word_head [] is = absurd (true≢false (sym is))
word_head (b ∷ t) is = (and_parts (is_letter b) (list_all is_letter_or_digit t) is).0

run_head : (t : List ℕ) → is_run t ≡ true → is_ascii_digit (get_or t 0 0) ≡ true
run_head [] is = absurd (true≢false (sym is))
run_head (b ∷ t) is = (and_parts (is_ascii_digit b) (list_all is_ascii_digit t) is).0

word_from_head : (t : List ℕ) → is_token t ≡ true → is_letter (get_or t 0 0) ≡ true → is_word t ≡ true
word_from_head [] is letter = absurd (true≢false (sym is))
word_from_head (b ∷ t) is letter = and_from (is_letter b) (list_all is_letter_or_digit t) letter (sym (letter_token b letter t) ∙ is)

run_from_head : (t : List ℕ) → is_token t ≡ true → is_ascii_digit (get_or t 0 0) ≡ true → is_run t ≡ true
run_from_head [] is digit = absurd (true≢false (sym is))
run_from_head (b ∷ t) is digit =
    let letter = false_from_ne_true (is_letter b) (λ l. true≢false (sym digit ∙ letter_is_no_digit b l)) in
    and_from (is_ascii_digit b) (list_all is_ascii_digit t) digit (sym (digit_token b letter digit t) ∙ is)

-- from a cut to the reading
blank_step : (spot : Spot) (front after : List ℕ) (r : Reading) → IsBlank front after → read_from 0 (spot_after spot front spot.depth) after ≡ r
    → read_from 0 spot (front ++ after) ≡ r
blank_step spot (b ∷ []) after r (one_separator separator) rest =
    blank_read spot (b ∷ after) 1 (omega arith) (omega arith) (sym (part_separator spot (b ∷ after) separator)) ∙ rest
blank_step spot front after r (comment begins line ends) rest =
    let bytes = front ++ after in
    let begun = begins_more front after begins in
    let long = line_len_is front after line ends in
    let some : 0 < length front = subst (λ n. 0 < n) long (line_some bytes begun) in
    let first : first_part spot bytes ≡ blank_of (length front) = part_comment spot bytes (comment_no_separator bytes begun) begun ∙ ap blank_of long in
    blank_read spot bytes (length front) (omega (arith, length-append front after)) some (sym first)
    ∙ (λ i. read_from 0 (spot_after spot (take-append_seam front after i) spot.depth) (drop-append_seam front after i))
    ∙ rest

-- no two classes of tokens share a first byte
digit_is_no_letter : (b : ℕ) → is_ascii_digit b ≡ true → is_letter b ≡ false
digit_is_no_letter b digit = false_from_ne_true (is_letter b) (λ l. true≢false (sym digit ∙ letter_is_no_digit b l))

opener_is : (f : ℕ → Bool) → f 40 ≡ false → f 91 ≡ false → f 123 ≡ false → (b : ℕ) → is_opener b ≡ true → f b ≡ false
opener_is f round square curly b opener =
    ⊎_elim
    (λ first. ⊎_elim
    (λ is. ap f (eqb-true b 40 is) ∙ round)
    (λ is. ap f (eqb-true b 91 is) ∙ square)
    (or_cases (eqb b 40) (eqb b 91) first))
    (λ is. ap f (eqb-true b 123 is) ∙ curly)
    (or_cases (eqb b 40 || eqb b 91) (eqb b 123) opener)

token_fits : (spot : Spot) (t after : List ℕ) → IsLongest t after → IsSound spot.depth t after → token_part spot t after ≡ Ok (Token (length t))
token_fits spot t after first sound =
    let some = token_some t first.a_token in
    token_fine spot t after
    (ne_eqb (length t) 0 (λ none. omega arith))
    (⊎_elim
    (λ letter. and_right (is_letter (get_or t 0 0)) (ltb 64 (length t)) (le-ltb 64 (length t) (sound.short (word_from_head t first.a_token letter))))
    (λ other. and_left (is_letter (get_or t 0 0)) (ltb 64 (length t)) other)
    (cases_Bool (is_letter (get_or t 0 0))))
    (⊎_elim
    (λ digit. and_right (is_ascii_digit (get_or t 0 0)) (not (is_number t after)) (ap not (sound.number (run_from_head t first.a_token digit))))
    (λ other. and_left (is_ascii_digit (get_or t 0 0)) (not (is_number t after)) other)
    (cases_Bool (is_ascii_digit (get_or t 0 0))))
    (⊎_elim
    (λ opener. let room = sound.shallow opener in and_right (is_opener (get_or t 0 0)) (ltb 63 spot.depth) (le-ltb 63 spot.depth (omega arith)))
    (λ other. and_left (is_opener (get_or t 0 0)) (ltb 63 spot.depth) other)
    (cases_Bool (is_opener (get_or t 0 0))))

-- a longest token stands first
first_longest : (spot : Spot) (t after : List ℕ) → IsLongest t after → first_part spot (t ++ after) ≡ token_part spot t after
first_longest spot t after first =
    let bytes = t ++ after in
    let n = length t in
    let some = token_some t first.a_token in
    let total : length bytes ≡ n + length after = length-append t after in
    let head : get_or bytes 0 0 ≡ get_or t 0 0 = get_or-append t after 0 0 some in
    let long : longest bytes ≡ n = longest_is bytes n (omega arith) (ap is_token (take-append_seam t after) ∙ first.a_token) first.longest in
    part_token spot bytes (ap is_separator head ∙ first.no_separator) first.no_comment
    ∙ ap (λ k. token_part spot (take k bytes) (drop k bytes)) long
    ∙ (λ i. token_part spot (take-append_seam t after i) (drop-append_seam t after i))

some_bytes : (t after : List ℕ) → IsLongest t after → 0 < length (t ++ after)
some_bytes t after first = let some = token_some t first.a_token in omega (arith, length-append t after)

token_step : (spot : Spot) (t : TokenAt) (after : List ℕ) (r : Reading) → t.start ≡ spot.start → t.pos ≡ spot.pos → IsLongest t.bytes after
    → IsSound spot.depth t.bytes after → read_from 0 (spot_after spot t.bytes (depth_after spot.depth (get_or t.bytes 0 0))) after ≡ r
    → read_from 0 spot (t.bytes ++ after) ≡ add t r
token_step spot t after r start pos first sound rest =
    let bytes = t.bytes ++ after in
    let n = length t.bytes in
    let some = token_some t.bytes first.a_token in
    let head : get_or bytes 0 0 ≡ get_or t.bytes 0 0 = get_or-append t.bytes after 0 0 some in
    let part : first_part spot bytes ≡ token_of_length n = first_longest spot t.bytes after first ∙ token_fits spot t.bytes after first sound in
    let same : token_at spot t.bytes ≡ t = (λ i. record { bytes = t.bytes; start = sym start i; pos = sym pos i }) in
    token_read spot bytes n (some_bytes t.bytes after first) some (sym part)
    ∙ (λ i. add (token_at spot (take-append_seam t.bytes after i))
    (read_from 0 (spot_after spot (take-append_seam t.bytes after i) (depth_after spot.depth (head i))) (drop-append_seam t.bytes after i)))
    ∙ (λ i. add (same i) (rest i))

abbrev whole_of : Pos → List TokenAt → Reading
whole_of end tokens = Whole (record { lexemes = tokens; end = end })

pub cut_whole : (end : Pos) (spot : Spot) (bytes : List ℕ) (tokens : List TokenAt) → Cut end spot bytes tokens → read_from 0 spot bytes ≡ whole_of end tokens
cut_whole end spot [] [] (nothing is) = ap (λ p. whole_of p []) (sym is)
cut_whole end spot bytes tokens (blank front after is is_blank rest) =
    ap (λ l. read_from 0 spot l) is
    ∙ blank_step spot front after (whole_of end tokens) is_blank (cut_whole end (spot_after spot front spot.depth) after tokens rest)
cut_whole end spot bytes (t ∷ tokens) (token after is start pos first sound rest) =
    ap (λ l. read_from 0 spot l) is
    ∙ token_step spot t after (whole_of end tokens) start pos first sound
    (cut_whole end (spot_after spot t.bytes (depth_after spot.depth (get_or t.bytes 0 0))) after tokens rest)

abbrev err_of : LexError → Result Part LexError
err_of e = Err e

-- a broken rule is what the token comes to
token_breaks : (spot : Spot) (t after : List ℕ) (e : LexError) → IsLongest t after → Breaks spot t after e → token_part spot t after ≡ err_of e
token_breaks spot t after e first (long_word word long is) =
    let some = token_some t first.a_token in
    token_long spot t after (ne_eqb (length t) 0 (λ none. omega arith))
    (and_from (is_letter (get_or t 0 0)) (ltb 64 (length t)) (word_head t word) (lt-ltb 64 (length t) long)) ∙ ap err_of (sym is)
token_breaks spot t after e first (bad_number run bad is) =
    let some = token_some t first.a_token in
    token_number spot t after (ne_eqb (length t) 0 (λ none. omega arith))
    (and_left (is_letter (get_or t 0 0)) (ltb 64 (length t)) (digit_is_no_letter (get_or t 0 0) (run_head t run)))
    (and_from (is_ascii_digit (get_or t 0 0)) (not (is_number t after)) (run_head t run) (ap not bad)) ∙ ap err_of (sym is)
token_breaks spot t after e first (deep opener below is) =
    let some = token_some t first.a_token in
    token_deep spot t after (ne_eqb (length t) 0 (λ none. omega arith))
    (and_left (is_letter (get_or t 0 0)) (ltb 64 (length t)) (opener_is is_letter refl refl refl (get_or t 0 0) opener))
    (and_left (is_ascii_digit (get_or t 0 0)) (not (is_number t after)) (opener_is is_ascii_digit refl refl refl (get_or t 0 0) opener))
    (and_from (is_opener (get_or t 0 0)) (ltb 63 spot.depth) opener (lt-ltb 63 spot.depth (omega arith))) ∙ ap err_of (sym is)

pub stop_refused : (e : LexError) (spot : Spot) (bytes : List ℕ) → Stops e spot bytes → read_from 0 spot bytes ≡ Refused e
stop_refused e spot bytes (after_blank front after is is_blank rest) =
    ap (λ l. read_from 0 spot l) is ∙ blank_step spot front after (Refused e) is_blank (stop_refused e (spot_after spot front spot.depth) after rest)
stop_refused e spot bytes (after_token front after is first sound rest) =
    ap (λ l. read_from 0 spot l) is
    ∙ token_step spot (token_at spot front) after (Refused e) refl refl first sound
    (stop_refused e (spot_after spot front (depth_after spot.depth (get_or front 0 0))) after rest)
stop_refused e spot bytes (no_token nonempty separator begins none is) =
    let part : first_part spot bytes ≡ err_of e =
    part_token spot bytes separator begins
    ∙ ap (λ k. token_part spot (take k bytes) (drop k bytes)) (longest_zero bytes none)
    ∙ token_none spot [] bytes refl ∙ ap err_of (sym is) in
    refused_read spot bytes e nonempty (sym part)
stop_refused e spot bytes (breaks front after is first broken) =
    ap (λ l. read_from 0 spot l) is
    ∙ refused_read spot (front ++ after) e (some_bytes front after first)
    (sym (first_longest spot front after first ∙ token_breaks spot front after e first broken))

-- what a reading says of some bytes
abbrev Sees : Reading → Spot → List ℕ → Type 0
Sees (Whole tokens) spot bytes = Cut tokens.end spot bytes tokens.lexemes
Sees (Refused e) spot bytes = Stops e spot bytes

sees_blank : (r : Reading) (spot : Spot) (front after bytes : List ℕ) → bytes ≡ front ++ after → IsBlank front after
    → Sees r (spot_after spot front spot.depth) after → Sees r spot bytes
sees_blank (Whole tokens) spot front after bytes is is_blank rest = blank front after is is_blank rest
sees_blank (Refused e) spot front after bytes is is_blank rest = after_blank front after is is_blank rest

sees_token : (r : Reading) (spot : Spot) (front after bytes : List ℕ) → bytes ≡ front ++ after → IsLongest front after → IsSound spot.depth front after
    → Sees r (spot_after spot front (depth_after spot.depth (get_or front 0 0))) after → Sees (add (token_at spot front) r) spot bytes
sees_token (Whole tokens) spot front after bytes is first sound rest = token {t = token_at spot front} after is refl refl first sound rest
sees_token (Refused e) spot front after bytes is first sound rest = after_token front after is first sound rest

-- the longest token of bytes where one begins
longest_of : (bytes : List ℕ) → 0 < longest bytes → is_separator (get_or bytes 0 0) ≡ false → begins_comment bytes ≡ false
    → IsLongest (take (longest bytes) bytes) (drop (longest bytes) bytes)
longest_of bytes some separator begins =
    let n = longest bytes in
    let whole : take n bytes ++ drop n bytes ≡ bytes = take-append-drop n bytes in
    let size : length (take n bytes) ≡ n = length-take-le n bytes (longest-le bytes) in
    let total : length (take n bytes ++ drop n bytes) ≡ length bytes = ap length whole in
    record {
      no_separator = ap is_separator (get_or-take n bytes 0 0 some) ∙ separator;
      no_comment = ap begins_comment whole ∙ begins;
      a_token = longest_token bytes some;
      longest = λ k over under. ap (λ l. is_token (take k l)) whole ∙ longest_above bytes k (omega arith) (omega arith);
    }

sound_of : (spot : Spot) (t after : List ℕ) → too_long spot t after ≡ false → no_number spot t after ≡ false → too_deep spot t after ≡ false
    → IsSound spot.depth t after
sound_of spot t after long number deeper = record {
  short = λ word. ⊎_elim
      (λ other. absurd (true≢false (sym (word_head t word) ∙ other)))
      (λ within. ltb-false 64 (length t) within)
      (and_cases (is_letter (get_or t 0 0)) (ltb 64 (length t)) long);
  number = λ run. ⊎_elim
      (λ other. absurd (true≢false (sym (run_head t run) ∙ other)))
      (λ is. not-false (is_number t after) is)
      (and_cases (is_ascii_digit (get_or t 0 0)) (not (is_number t after)) number);
  shallow = λ opener. ⊎_elim
      (λ other. absurd (true≢false (sym opener ∙ other)))
      (λ within. omega (arith, ltb-false 63 spot.depth within))
      (and_cases (is_opener (get_or t 0 0)) (ltb 63 spot.depth) deeper);
}

-- a longest token and the rest, or the rule that it breaks
token_seen : (spot : Spot) (bytes : List ℕ) → ((next : Spot) (after : List ℕ) → length after < length bytes → Sees (read_from 0 next after) next after)
    → 0 < length bytes → 0 < longest bytes → is_separator (get_or bytes 0 0) ≡ false → begins_comment bytes ≡ false → Sees (read_from 0 spot bytes) spot bytes
token_seen spot bytes shorter nonempty some separator begins =
    let n = longest bytes in
    let t = take n bytes in
    let after = drop n bytes in
    let size : length t ≡ n = length-take-le n bytes (longest-le bytes) in
    let left : length after ≡ length bytes - n = length-drop n bytes in
    let whole : bytes ≡ t ++ after = sym (take-append-drop n bytes) in
    let first = longest_of bytes some separator begins in
    let part = part_token spot bytes separator begins in
    let there : eqb (length t) 0 ≡ false = ne_eqb (length t) 0 (λ none. omega arith) in
    let refuse : (e : LexError) → token_part spot t after ≡ err_of e → Breaks spot t after e → Sees (read_from 0 spot bytes) spot bytes =
    λ e is broken. subst (λ r. Sees r spot bytes) (sym (refused_read spot bytes e nonempty (sym (part ∙ is)))) (breaks t after whole first broken) in
    ⊎_elim
    (λ long. let parts = and_parts (is_letter (get_or t 0 0)) (ltb 64 (length t)) long in
    refuse (Byte (pos_after spot.pos (take 64 t))) (token_long spot t after there long)
    (long_word (word_from_head t first.a_token parts.0) (ltb-true 64 (length t) parts.1) refl))
    (λ short. ⊎_elim
    (λ bad. let parts = and_parts (is_ascii_digit (get_or t 0 0)) (not (is_number t after)) bad in
    refuse (Number spot.pos) (token_number spot t after there short bad)
    (bad_number (run_from_head t first.a_token parts.0) (not-true (is_number t after) parts.1) refl))
    (λ good. ⊎_elim
    (λ below. let parts = and_parts (is_opener (get_or t 0 0)) (ltb 63 spot.depth) below in
    refuse (Deep spot.pos) (token_deep spot t after there short good below) (deep parts.0 (omega (arith, ltb-true 63 spot.depth parts.1)) refl))
    (λ shallow.
    let fine : token_of_length n ≡ first_part spot bytes = sym (part ∙ token_fine spot t after there short good shallow ∙ ap token_of_length size) in
    let head : get_or t 0 0 ≡ get_or bytes 0 0 = get_or-take n bytes 0 0 some in
    let next = spot_after spot t (depth_after spot.depth (get_or t 0 0)) in
    let read : read_from 0 spot bytes ≡ add (token_at spot t) (read_from 0 next after) =
    token_read spot bytes n nonempty some fine
    ∙ ap (λ b. add (token_at spot t) (read_from 0 (spot_after spot t (depth_after spot.depth b)) after)) (sym head) in
    subst (λ r. Sees r spot bytes) (sym read)
    (sees_token (read_from 0 next after) spot t after bytes whole first (sound_of spot t after short good shallow) (shorter next after (omega arith))))
    (cases_Bool (too_deep spot t after)))
    (cases_Bool (no_number spot t after)))
    (cases_Bool (too_long spot t after))

none_seen : (spot : Spot) (bytes : List ℕ) → 0 < length bytes → longest bytes ≡ 0 → is_separator (get_or bytes 0 0) ≡ false → begins_comment bytes ≡ false
    → Sees (read_from 0 spot bytes) spot bytes
none_seen spot bytes nonempty none separator begins =
    let part : first_part spot bytes ≡ err_of (Byte spot.pos) =
    part_token spot bytes separator begins
    ∙ ap (λ k. token_part spot (take k bytes) (drop k bytes)) none
    ∙ token_none spot [] bytes refl in
    subst (λ r. Sees r spot bytes) (sym (refused_read spot bytes (Byte spot.pos) nonempty (sym part)))
    (no_token nonempty separator begins (λ n over under. longest_above bytes n (omega arith) under) refl)

comment_seen : (spot : Spot) (bytes : List ℕ) → ((next : Spot) (after : List ℕ) → length after < length bytes → Sees (read_from 0 next after) next after)
    → 0 < length bytes → is_separator (get_or bytes 0 0) ≡ false → begins_comment bytes ≡ true → Sees (read_from 0 spot bytes) spot bytes
comment_seen spot bytes shorter nonempty separator begins =
    let n = line_len bytes in
    let some = line_some bytes begins in
    let left : length (drop n bytes) ≡ length bytes - n = length-drop n bytes in
    let next = spot_after spot (take n bytes) spot.depth in
    subst (λ r. Sees r spot bytes) (sym (blank_read spot bytes n nonempty some (sym (part_comment spot bytes separator begins))))
    (sees_blank (read_from 0 next (drop n bytes)) spot (take n bytes) (drop n bytes) bytes (sym (take-append-drop n bytes))
    (comment (line_begins bytes begins) (prefix_passes (λ c. not (eqb c 10)) n bytes (omega arith)) (line_ends bytes))
    (shorter next (drop n bytes) (omega arith)))

seen_below : (fuel : ℕ) (spot : Spot) (bytes : List ℕ) → length bytes ≤ fuel → Sees (read_from 0 spot bytes) spot bytes
seen_below fuel spot [] bound = nothing refl
seen_below zero spot (b ∷ bytes) bound = absurd (omega arith)
seen_below (suc fuel) spot (b ∷ bytes) bound =
    let shorter : (next : Spot) (after : List ℕ) → length after < length (b ∷ bytes) → Sees (read_from 0 next after) next after =
    λ next after less. seen_below fuel next after (omega arith) in
    let next = spot_after spot (b ∷ []) spot.depth in
    ⊎_elim
    (λ separator. subst (λ r. Sees r spot (b ∷ bytes))
    (sym (blank_read spot (b ∷ bytes) 1 (omega arith) (omega arith) (sym (part_separator spot (b ∷ bytes) separator))))
    (sees_blank (read_from 0 next bytes) spot (b ∷ []) bytes (b ∷ bytes) refl (one_separator separator) (shorter next bytes (omega arith))))
    (λ other. ⊎_elim
    (λ begins. comment_seen spot (b ∷ bytes) shorter (omega arith) other begins)
    (λ plain. ⊎_elim
    (λ none. none_seen spot (b ∷ bytes) (omega arith) none other plain)
    (λ some. token_seen spot (b ∷ bytes) shorter (omega arith) some other plain)
    (eq-zero-or-pos (longest (b ∷ bytes))))
    (cases_Bool (begins_comment (b ∷ bytes))))
    (cases_Bool (is_separator b))

pub whole_cut : (spot : Spot) (bytes : List ℕ) (tokens : TokenList) → read_from 0 spot bytes ≡ Whole tokens → Cut tokens.end spot bytes tokens.lexemes
whole_cut spot bytes tokens same = subst (λ r. Sees r spot bytes) same (seen_below (length bytes) spot bytes (omega arith))

pub refused_stop : (spot : Spot) (bytes : List ℕ) (e : LexError) → read_from 0 spot bytes ≡ Refused e → Stops e spot bytes
refused_stop spot bytes e same = subst (λ r. Sees r spot bytes) same (seen_below (length bytes) spot bytes (omega arith))

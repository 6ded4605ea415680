-- What was seen is what the bytes say.
use Rattle.std.proofs.Common.{◌≡◌, ℕ, zero, suc, ◌+◌, ◌<◌, ◌≤◌, true, ◌&&◌, List, [], ◌∷◌, ◌++◌, refl, ap}
use Rattle.std.proofs.Common.{sym, ◌∙◌, length, take, drop, map, arith, slice_get, Some}
use Rattle.std.specs.List.{list_all}
use Rattle.std.proofs.lemmas.List.{length-map, take_all, take-append-le, take-map, map-append}
use Rattle.jade_base.specs.declared.place.Pos.{Pos}
use Rattle.jade_lexer.specs.Lexemes.{TokenAt, TokenList}
use Rattle.jade_syntax.specs.declared.tree.Program.{Program}
use Rattle.jade_parser.specs.declared.Seen.{Seen}
use Rattle.jade_parser.specs.Spelled.{Token, Tokens, Fixed, Called, Counted, Unknown, Part, Parts, tokens_of, is_valid, AllValid}
use Rattle.jade_parser.specs.Kinds.{token_bytes, token_of_bytes}
use Rattle.jade_parser.specs.steps.Reads.{IsSeen}
use Rattle.jade_parser.specs.Programs.{program_parts, Proper}
use Rattle.jade_parser.specs.steps.Reads.{kinds, is_known, Known, Reads}
use Rattle.jade_parser.specs.steps.Parts.{BegunIn}
use Rattle.jade_parser.specs.steps.Refused.{ReadAll, RefusedAt, TooLongAt}
use Rattle.jade_parser.specs.Grammar.{bytes_of, texts, IsProgram, IsReading, IsBegun, IsBegunShort, IsRefused}
use Rattle.jade_parser.specs.Grammar.{IsTooLong, place_or, place_of, IsRefusedAt, IsTooLongAt}
use Rattle.jade_parser.proofs.Known.{Known as Says, known, back, both_true}
use Rattle.jade_parser.proofs.Reading.{all_valid, reads_length}

-- ---- tokens and their bytes

said : (x : List ℕ) (t : Token) → Says x t → is_valid t ≡ true → token_bytes t ≡ x
said x (Fixed s) k v = k.1
said x (Called n) k v = k.1
said x (Counted n) k v = k.1
said x Unknown k v = absurd (cc)

said_known : (x : List ℕ) (t : Token) → Says x t → is_known t ≡ true
said_known x (Fixed s) k = refl
said_known x (Called n) k = k.0
said_known x (Counted n) k = k.0
said_known x Unknown k = refl

bytes_back : (xs : List (List ℕ)) → list_all is_valid (map token_of_bytes xs) ≡ true → map token_bytes (map token_of_bytes xs) ≡ xs
bytes_back [] v = refl
bytes_back (x ∷ xs) v =
    let b = both_true (is_valid (token_of_bytes x)) (list_all is_valid (map token_of_bytes xs)) v in
    let h : token_bytes (token_of_bytes x) ≡ x = said x (token_of_bytes x) (known x) b.0 in
    ap (λ y. y ∷ map token_bytes (map token_of_bytes xs)) h ∙ ap (λ ys. x ∷ ys) (bytes_back xs b.1)

tokens_back : (ts : Tokens) → list_all is_valid ts ≡ true → map token_of_bytes (map token_bytes ts) ≡ ts
tokens_back [] v = refl
tokens_back (t ∷ ts) v =
    let b = both_true (is_valid t) (list_all is_valid ts) v in
    ap (λ y. y ∷ map token_of_bytes (map token_bytes ts)) (back t b.0) ∙ ap (λ ys. t ∷ ys) (tokens_back ts b.1)

all_known : (xs : List (List ℕ)) → list_all is_known (map token_of_bytes xs) ≡ true
all_known [] = refl
all_known (x ∷ xs) = rw (said_known x (token_of_bytes x) (known x), all_known xs) refl

valid_tokens : (ps : Parts) → AllValid ps → list_all is_valid (tokens_of ps) ≡ true
valid_tokens ps v = same ps ∙ v.is
  where
    same : (ps : Parts) → list_all is_valid (tokens_of ps) ≡ list_all (λ (p : Part). is_valid p.token) ps
    same [] = refl
    same (p ∷ ps) = ap (λ b. is_valid p.token && b) (same ps)

-- valid parts that stand as these bytes have these bytes
parts_back : (ps : Parts) (xs : List (List ℕ)) → tokens_of ps ≡ map token_of_bytes xs → AllValid ps → bytes_of ps ≡ xs
parts_back ps xs e v = ap (map token_bytes) e ∙ bytes_back xs (rw (← e) (valid_tokens ps v))

take_read : (ts read : Tokens) (k : ℕ) → ts ≡ read ++ drop k ts → k ≡ length read → take k ts ≡ read
take_read ts read k e n =
    let a : take k ts ≡ take k (read ++ drop k ts) = ap (take k) e in
    a ∙ take-append-le k read (drop k ts) (omega arith) ∙ take_all k read (omega arith)

module _ (ts : TokenList) (all : List Seen) (seen : IsSeen ts.lexemes all) where
  seen_as : kinds all ≡ map token_of_bytes (texts ts)
  seen_as = seen.tokens ∙ twice ts.lexemes
    where
      twice : (ls : List TokenAt) → map (λ (t : TokenAt). token_of_bytes t.bytes) ls ≡ map token_of_bytes (map (λ (t : TokenAt). t.bytes) ls)
      twice [] = refl
      twice (l ∷ ls) = ap (λ ys. token_of_bytes l.bytes ∷ ys) (twice ls)

  same_length : length (texts ts) ≡ length all
  same_length =
      let a : length (kinds all) ≡ length (map token_of_bytes (texts ts)) = ap length seen_as in
      let b : length (kinds all) ≡ length all = length-map all _ in
      let c : length (map token_of_bytes (texts ts)) ≡ length (texts ts) = length-map (texts ts) _ in
      omega arith

  -- each token that was seen may stand in a program, or is unknown
  pub seen_known : Known all
  seen_known = record { is = rw seen_as (all_known (texts ts)) }

  first_read : (k : ℕ) (ps : Parts) → Reads all 0 k ps → bytes_of ps ≡ take k (texts ts)
  first_read k ps r =
      let n : k ≡ 0 + length ps = reads_length r in
      let m : length (tokens_of ps) ≡ length ps = length-map ps _ in
      let t : take k (kinds all) ≡ tokens_of ps = take_read (kinds all) (tokens_of ps) k r.stands (omega arith) in
      parts_back ps (take k (texts ts)) (sym t ∙ ap (take k) seen_as ∙ take-map token_of_bytes k (texts ts)) (r.valid seen_known)

  pub reading : (p : Program) → ReadAll all p → IsReading ts p
  reading p r =
      let n = same_length in
      record {
        spelled = first_read (length all) (program_parts p) r.reads ∙ take_all (length all) (texts ts) (omega arith);
        placed = rw (← seen.places) r.reads.agrees;
        sound = record { proper = r.proper; valid = r.reads.valid seen_known };
        short = r.short;
      }

  begun_so : (k : ℕ) → BegunIn Proper program_parts all 0 k → IsBegunShort (take k (texts ts))
  begun_so k b = record {
    program = b.tree;
    read = b.read;
    more = b.more;
    sound = record { proper = b.fits; valid = rw b.by (all_valid b.read b.more (b.reads.valid seen_known) b.valid) };
    by = b.by;
    spelled = first_read k b.read b.reads;
    short = b.short;
  }

  -- a program's tokens as what its bytes are
  as_tokens : (p : Program) (xs : List (List ℕ)) → IsProgram p → bytes_of (program_parts p) ≡ xs → tokens_of (program_parts p) ≡ map token_of_bytes xs
  as_tokens p xs s e = sym (tokens_back (tokens_of (program_parts p)) (valid_tokens (program_parts p) s.valid)) ∙ ap (map token_of_bytes) e

  pub refused : (k : ℕ) → RefusedAt all k → IsRefused (texts ts) k
  refused k r =
      let n = same_length in
      let w = r.begun.reads.within in
      record {
        within = omega arith;
        begun = begun_so k r.begun;
        no_more = λ lt b. goes_on lt b;
        no_end = λ p s e. r.no_end.none p s.proper (as_tokens p (texts ts) s e ∙ sym seen_as);
      }
    where
      goes_on : k < length (texts ts) → IsBegun (take (k + 1) (texts ts)) → ⊥
      goes_on lt b =
          let n = same_length in
          let e : tokens_of (program_parts b.program) ≡ take (k + 1) (kinds all) ++ map token_of_bytes b.more =
          as_tokens b.program (take (k + 1) (texts ts) ++ b.more) b.sound b.spelled ∙ map-append token_of_bytes (take (k + 1) (texts ts)) b.more
          ∙ ap (λ l. l ++ map token_of_bytes b.more) (sym (ap (take (k + 1)) seen_as ∙ take-map token_of_bytes (k + 1) (texts ts))) in
          (r.no_more (omega arith)).none b.program (map token_of_bytes b.more) b.sound.proper e

  pub too_long : (k : ℕ) → TooLongAt all k → IsTooLong (texts ts) k
  too_long k l =
      let n = same_length in
      let w = l.reads.within in
      record {
        within = omega arith;
        program = l.tree;
        read = l.read;
        last = l.last;
        more = l.more;
        sound = record { proper = l.fits; valid = rw l.by (all_valid (l.read ++ l.last ∷ []) l.more (l.reads.valid seen_known) (l.valid seen_known)) };
        by = l.by;
        spelled = first_read (k + 1) (l.read ++ l.last ∷ []) l.reads;
        short = l.short;
        too_many = l.too_many;
      }

  pub refused_place : (k : ℕ) (p : Pos) → p ≡ place_of ts k → RefusedAt all k → IsRefusedAt ts p
  refused_place k p e r = record { number = k; refused = refused k r; at = e }

  pub long_place : (k : ℕ) (p : Pos) → p ≡ place_of ts k → TooLongAt all k → IsTooLongAt ts p
  long_place k p e l = record { number = k; too_long = too_long k l; at = e }

pub place_within : (ls : List TokenAt) (k : ℕ) (t : TokenAt) (end : Pos) → slice_get ls k ≡ Some t → t.pos ≡ place_or ls k end
place_within [] zero t end e = absurd (cc)
place_within [] (suc k) t end e = absurd (cc)
place_within (l ∷ ls) zero t end e = let w : l ≡ t = cc in ap (λ (x : TokenAt). x.pos) (sym w)
place_within (l ∷ ls) (suc k) t end e = place_within ls k t end e

pub place_past : (ls : List TokenAt) (k : ℕ) (end : Pos) → length ls ≤ k → end ≡ place_or ls k end
place_past [] zero end le = refl
place_past [] (suc k) end le = refl
place_past (l ∷ ls) zero end le = absurd (omega arith)
place_past (l ∷ ls) (suc k) end le = place_past ls k end (omega arith)

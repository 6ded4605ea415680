-- Where the pieces of a source and its `main` stand in a text, the text reads as the source but for where its statements stand.
use Rattle.std.proofs.Common.{◌≡◌, ℕ, zero, suc, ◌<◌, Bool, true, false, ◌&&◌, List, [], ◌∷◌, ◌++◌, length, map, drop, refl, sym, ◌∙◌, subst, arith}
use Rattle.std.specs.Prelude.{nat_le}
use Rattle.std.specs.List.{flat_map, list_all}
use Rattle.jade_alphabet.specs.declared.TheConstants.{EXPRESSION_LIMIT}
use Rattle.jade_base.specs.declared.place.Pos.{Pos}
use Rattle.jade_lexer.specs.Lexemes.{TokenAt, TokenList}
use Rattle.jade_parser.specs.declared.Sign.TheVariants.{LeftBrace, RightBrace}
use Rattle.jade_parser.specs.Spelled.{Part, Parts, fixed, is_valid, KeptAt, Agrees}
use Rattle.jade_parser.specs.Statements.{braced}
use Rattle.jade_parser.specs.Programs.{item_parts}
use Rattle.jade_parser.specs.Grammar.{bytes_of}
use Rattle.proc_expand.specs.Words.{bytes_at}
use Rattle.proc_laws.specs.SourceTree.{Piece, AnItem, AProcedure, Unread, SourceText}
use Rattle.proc_laws.specs.SourceReading.{title_parts, free_part, piece_parts, read_parts, main_parts, source_parts, block_of, fits_after}
use Rattle.proc_laws.proofs.PlacesInText.{after, plus_one, Lies, Reads, pos_is, after_both}
use Rattle.proc_laws.proofs.HeadsInText.{stop_of}
use Rattle.proc_laws.proofs.WrittenCalls.{PiecesHere}
use Rattle.proc_laws.proofs.WrittenTree.{StandsIn}

abbrev good : Part → Bool
good p = is_valid p.token

all_both : (is : Part → Bool) (a b : Parts) → list_all is a ≡ true → list_all is b ≡ true → list_all is (a ++ b) ≡ true
all_both is [] b h g = g
all_both is (p ∷ a) b h g = by (is p) h (λ k. all_both is a b k g)
  where
    by : (t : Bool) → (t && list_all is a) ≡ true → (list_all is a ≡ true → list_all is (a ++ b) ≡ true) → (t && list_all is (a ++ b)) ≡ true
    by true h f = f h
    by false h f = absurd (cc)

module _ (ts : List TokenAt) (end : Pos) where
  lies_both : (k : ℕ) (a b : Parts) → Lies ts end k a → Lies ts end (after k a) b → Lies ts end k (a ++ b)
  lies_both k [] b h g = g
  lies_both k (p ∷ a) b h g = (h.0, lies_both (suc k) a b h.1 g)

  lies_of : (k : ℕ) (ps : Parts) → Reads ts end k ps → Lies ts end k ps
  lies_of k [] h = tt
  lies_of k (p ∷ ps) h = (h.0.stand, lies_of (suc k) ps h.1)

  valid_of : (k : ℕ) (ps : Parts) → Reads ts end k ps → list_all (λ (p : Part). is_valid p.token) ps ≡ true
  valid_of k [] h = refl
  valid_of k (p ∷ ps) h = λ i. h.0.valid i && valid_of (suc k) ps h.1 i

  pieces_lie : (k : ℕ) (ps : List Piece) → PiecesHere ts end k ps → Lies ts end k (flat_map piece_parts ps)
  pieces_lie k [] h = tt
  pieces_lie k (AnItem i ∷ ps) h =
      lies_both k (item_parts i) (flat_map piece_parts ps) (lies_of k (item_parts i) h.0) (pieces_lie (after k (item_parts i)) ps h.1)
  pieces_lie k (AProcedure p ∷ ps) h =
      let t : Parts = title_parts p.name p.at p.params in
      lies_both k (piece_parts (AProcedure p)) (flat_map piece_parts ps)
      (h.0.0, lies_both (suc k) t (braced (block_of p.body)) (lies_of (suc k) t h.0.1) (lies_of (stop_of ts end k p.name p.at p.params) (braced (block_of p.body)) h.0.2))
      (pieces_lie (after k (piece_parts (AProcedure p))) ps h.1)
  pieces_lie k (Unread x p params body ∷ ps) h =
      let t : Parts = title_parts x p params in
      lies_both k (piece_parts (Unread x p params body)) (flat_map piece_parts ps)
      (h.0.0, lies_both (suc k) t (fixed LeftBrace ∷ (map free_part body ++ fixed RightBrace ∷ [])) (lies_of (suc k) t h.0.1) h.0.2)
      (pieces_lie (after k (piece_parts (Unread x p params body))) ps h.1)

  pieces_valid : (k : ℕ) (ps : List Piece) → PiecesHere ts end k ps → list_all (λ (p : Part). is_valid p.token) (flat_map read_parts ps) ≡ true
  pieces_valid k [] h = refl
  pieces_valid k (AnItem i ∷ ps) h =
      all_both good (item_parts i) (flat_map read_parts ps) (valid_of k (item_parts i) h.0) (pieces_valid (after k (item_parts i)) ps h.1)
  pieces_valid k (AProcedure p ∷ ps) h =
      let t : Parts = title_parts p.name p.at p.params in
      all_both good (read_parts (AProcedure p)) (flat_map read_parts ps)
      (all_both good t (braced (block_of p.body)) (valid_of (suc k) t h.0.1) (valid_of (stop_of ts end k p.name p.at p.params) (braced (block_of p.body)) h.0.2))
      (pieces_valid (after k (piece_parts (AProcedure p))) ps h.1)
  pieces_valid k (Unread x p params body ∷ ps) h =
      all_both good (title_parts x p params) (flat_map read_parts ps) (valid_of (suc k) (title_parts x p params) h.0.1)
      (pieces_valid (after k (piece_parts (Unread x p params body))) ps h.1)

  -- ---- parts that stand in a text

  short_of : (k : ℕ) (ps : Parts) → Lies ts end k ps → list_all (λ (p : Part). nat_le p.nth EXPRESSION_LIMIT) ps ≡ true
  short_of k [] h = refl
  short_of k (p ∷ ps) h = λ i. h.0.short i && short_of (suc k) ps h.1 i

  placed_of : (k : ℕ) (ps : Parts) → Lies ts end k ps → Agrees (map (λ (t : TokenAt). t.pos) ts) k ps
  placed_of k [] h = tt
  placed_of k (p ∷ ps) h = (
    subst (KeptAt p.at) (sym (pos_is ts end ts k h.0.below)) h.0.kept,
    subst (λ (i : ℕ). Agrees (map (λ (t : TokenAt). t.pos) ts) i ps) (sym (plus_one k)) (placed_of (suc k) ps h.1),
  )

  bytes_from : (us : List TokenAt) (k : ℕ) → k < length us
      → map (λ (t : TokenAt). t.bytes) (drop k us) ≡ bytes_at us k ∷ map (λ (t : TokenAt). t.bytes) (drop (suc k) us)
  bytes_from [] k l = absurd (omega (arith, l))
  bytes_from (t ∷ us) zero l = refl
  bytes_from (t ∷ us) (suc k) l = bytes_from us k (omega (arith, l))

  nothing_left : (us : List TokenAt) (k : ℕ) → k ≡ length us → [] ≡ map (λ (t : TokenAt). t.bytes) (drop k us)
  nothing_left [] zero e = refl
  nothing_left [] (suc k) e = refl
  nothing_left (t ∷ us) zero e = absurd (omega (arith, e))
  nothing_left (t ∷ us) (suc k) e = nothing_left us k (omega (arith, e))

  spelled_of : (k : ℕ) (ps : Parts) → Lies ts end k ps → after k ps ≡ length ts → bytes_of ps ≡ map (λ (t : TokenAt). t.bytes) (drop k ts)
  spelled_of k [] h e = nothing_left ts k e
  spelled_of k (p ∷ ps) h e =
      (λ i. sym h.0.bytes i ∷ spelled_of (suc k) ps h.1 e i) ∙ sym (bytes_from ts k h.0.below)

-- pieces, and then `main`, to the end of a text
pub stands : (l : TokenList) (q : SourceText) → PiecesHere l.lexemes l.end 0 q.pieces
    → Reads l.lexemes l.end (after 0 (flat_map piece_parts q.pieces)) (main_parts q.main)
    → after (after 0 (flat_map piece_parts q.pieces)) (main_parts q.main) ≡ length l.lexemes → fits_after [] q.pieces q.main ≡ true → StandsIn l q
stands l q here main e fits =
    let a : Parts = flat_map piece_parts q.pieces in
    let lies : Lies l.lexemes l.end 0 (source_parts q) =
    lies_both l.lexemes l.end 0 a (main_parts q.main) (pieces_lie l.lexemes l.end 0 q.pieces here) (lies_of l.lexemes l.end (after 0 a) (main_parts q.main) main) in
    record {
      spelled = spelled_of l.lexemes l.end 0 (source_parts q) lies (after_both 0 a (main_parts q.main) ∙ e);
      placed = placed_of l.lexemes l.end 0 (source_parts q) lies;
      valid = record {
        is = all_both good (flat_map read_parts q.pieces) (main_parts q.main) (pieces_valid l.lexemes l.end 0 q.pieces here)
            (valid_of l.lexemes l.end (after 0 a) (main_parts q.main) main);
      };
      short = record { is = short_of l.lexemes l.end 0 (source_parts q) lies };
      known = fits;
    }

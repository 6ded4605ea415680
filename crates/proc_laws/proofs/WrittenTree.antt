-- The tokens that are written for a source, each at its origin, read as the tree that stands for the source.
use Rattle.std.proofs.Common.{◌≡◌, ℕ, zero, suc, ◌+◌, ◌<◌, ◌≤◌, Bool, true, false, ◌&&◌, ◌||◌, List, [], ◌∷◌, ◌++◌, Option, Some, None, length, map, refl, sym, ap, ◌∙◌, subst, arith}
use Rattle.std.specs.Prelude.{not, nat_le, if◌then◌else◌}
use Rattle.std.specs.List.{flat_map, list_all}
use Rattle.std.proofs.lemmas.List.{append_assoc, append-nil, length-map}
use Rattle.std.proofs.lemmas.Bool.{and_parts, leb-true, le-leb}
use Rattle.jade_alphabet.specs.declared.TheConstants.{WORD_LIMIT, EXPRESSION_LIMIT}
use Rattle.jade_base.specs.declared.place.Pos.{Pos}
use Rattle.jade_lexer.specs.Alphabet.{is_token}
use Rattle.jade_lexer.specs.Lexemes.{TokenAt, TokenList}
use Rattle.jade_syntax.specs.declared.tree.Item.{Item}
use Rattle.jade_syntax.specs.declared.tree.Item.TheVariants.{Input, Single, Family}
use Rattle.jade_syntax.specs.declared.tree.Program.{Program}
use Rattle.jade_syntax.specs.declared.tree.Statement.{Statement}
use Rattle.jade_parser.specs.declared.Sign.TheVariants.{MainWord, LeftBrace, RightBrace, LeftBracket, RightBracket, Colon, Semicolon, InputWord, ObjectWord, ObjectsWord}
use Rattle.jade_parser.specs.Spelled.{Part, Parts, fixed, number_part, is_valid, tokens_of, Agrees, AllValid, AllShort}
use Rattle.jade_parser.specs.Statements.{braced, statement_parts, block_parts}
use Rattle.jade_parser.specs.Programs.{item_parts, program_parts}
use Rattle.jade_parser.specs.Grammar.{IsReading, bytes_of, texts, positions}
use Rattle.jade_parser.specs.Kinds.{token_bytes}
use Rattle.proc_expand.specs.declared.sign.Sign.{Sign}
use Rattle.proc_expand.specs.declared.sign.Sign.TheVariants.{Other}
use Rattle.proc_expand.specs.declared.refusal.Reason.{Reason}
use Rattle.proc_expand.specs.declared.refusal.Reason.TheVariants.{Shape}
use Rattle.proc_expand.specs.declared.refusal.Refusal.{Refusal}
use Rattle.proc_expand.specs.Words.{sign_of, signs, at, before, is_called, is_proc, opens_round, ends_statement, some}
use Rattle.proc_expand.specs.Refusals.{is_call, begins, proc_fails, call_fails, misplaced, within, is_shape, reason, or_reason, first_reason, refusal}
use Rattle.proc_expand.specs.Written.{MadeToken, Written, CallWriter, write_places, all_writers, no_writer, items, text_names, fresh_name, expansion, names_at}
use Rattle.proc_laws.specs.Expansion.{item_name, block_names}
use Rattle.proc_laws.specs.SourceTree.{Piece, AnItem, AProcedure, Unread, SourceText, items_of, spoken_procedures, spoken_actions}
use Rattle.proc_laws.specs.SourceReading.{title_parts, free_part, piece_parts, read_parts, main_parts, source_parts, block_of, fits_after, is_proper, IsSourceReading, AreWords, made_token, expanded_tokens}
use Rattle.proc_laws.specs.ExpandedTree.{CallTrees, trees, all_trees, no_trees, expanded_tree}
use Rattle.proc_laws.proofs.SignsOfTokens.{token_sign}
use Rattle.proc_laws.proofs.PlacesInText.{after, places, Sound, Lies, Reads, lies, lies_left, lies_right, left, right, reads, sign_at}
use Rattle.proc_laws.proofs.WrittenParts.{Spells, spells_both, none, one, onto, Keeps, Writes, NoCalls, no_call_sign, no_call_after, quiet, renamed_parts}
use Rattle.proc_laws.proofs.WrittenStatements.{join, word, block, spokens}
use Rattle.proc_laws.proofs.WrittenCalls.{PiecesHere, procedures_at, AllWritten, all_written}
use Rattle.proc_laws.proofs.ProperTree.{proper_tree}
use Rattle.proc_laws.proofs.PiecesInText.{item_places, procedures_are, outer_are, items_are}

-- ---- what no refusal says of calls

pub and_no_reason : (n : ℕ) (why : ℕ → Option Reason) → first_reason n why ≡ None → (k : ℕ) → k < n → why k ≡ None
and_no_reason zero why h k l = absurd (omega (arith, l))
and_no_reason (suc n) why h k l = by (first_reason n why) (why n) refl refl h (and_no_reason n why)
  where
    by : (a : Option Refusal) (b : Option Reason) → first_reason n why ≡ a → why n ≡ b → or_reason a b n ≡ None
        → (first_reason n why ≡ None → (k : ℕ) → k < n → why k ≡ None) → why k ≡ None
    by (Some r) b e f g go = absurd (cc)
    by None (Some w) e f g go = absurd (cc)
    by None None e f g go = last (nat_le n k) refl (go e)
      where
        last : (t : Bool) → nat_le n k ≡ t → ((k : ℕ) → k < n → why k ≡ None) → why k ≡ None
        last true q go = let m = leb-true n k q in let s : n ≡ k = omega (arith, m, l) in subst (λ (i : ℕ). why i ≡ None) s f
        last false q go = go k (let m : n ≤ k → ⊥ = λ u. absurd (let v = le-leb n k u in cc) in omega (arith, m))

pub past_end : (ss : List Sign) (k : ℕ) → length ss ≤ k → at ss k ≡ Other
past_end [] zero h = refl
past_end [] (suc k) h = refl
past_end (s ∷ ss) zero h = absurd (omega (arith, h))
past_end (s ∷ ss) (suc k) h = past_end ss k (omega (arith, h))

no_shape : (a : Bool) (b : Option Reason) → (if a then Some Shape else b) ≡ None → a ≡ false
no_shape true b h = absurd (cc)
no_shape false b h = refl

second_false : (a b c : Bool) → (a || (b || c)) ≡ false → b ≡ false
second_false true b c h = absurd (cc)
second_false false true c h = absurd (cc)
second_false false false c h = refl

then_ends : (a b : Bool) → a ≡ true → (a && not b) ≡ false → b ≡ true
then_ends true true h g = refl
then_ends true false h g = absurd (cc)
then_ends false b h g = absurd (cc)

first_of_three : (a b c : Bool) → (a && b && c) ≡ true → a ≡ true
first_of_three true b c h = refl
first_of_three false b c h = absurd (cc)

pub calls_follow : (ts : List TokenAt) → refusal ts ≡ None → (k : ℕ) → is_call (signs ts) k ≡ true → ends_statement (before (signs ts) k) ≡ true
calls_follow ts h k c =
    let n : reason ts k ≡ None = and_no_reason (suc (length ts)) (reason ts) h k (below (nat_le (length ts) k) refl) in
    then_ends (is_call (signs ts) k) (ends_statement (before (signs ts) k)) c
    (second_false (some (length (signs ts)) (λ p. begins (signs ts) p && proc_fails (signs ts) p k)) (misplaced (signs ts) k)
    (within (signs ts) k || some (length (signs ts)) (λ i. is_call (signs ts) i && call_fails (signs ts) i k))
    (no_shape (is_shape (signs ts) k) _ n))
  where
    below : (t : Bool) → nat_le (length ts) k ≡ t → k < suc (length ts)
    below true q =
        let m = leb-true (length ts) k q in
        let l = length-map ts (λ (t : TokenAt). sign_of t.bytes) in
        let o : at (signs ts) k ≡ Other = past_end (signs ts) k (omega (arith, m, l)) in
        absurd (let e : is_called (at (signs ts) k) ≡ true = first_of_three (is_called (at (signs ts) k)) (opens_round (at (signs ts) (k + 1)))
        (not (is_proc (before (signs ts) k))) c in
        let f : is_called (at (signs ts) k) ≡ false = ap is_called o in cc)
    below false q = let m : length ts ≤ k → ⊥ = λ u. absurd (let v = le-leb (length ts) k u in cc) in omega (arith, m)

-- ---- where the source stands

all_split : (is : Part → Bool) (a b : Parts) → list_all is (a ++ b) ≡ true → (list_all is a ≡ true) × (list_all is b ≡ true)
all_split is [] b h = (refl, h)
all_split is (p ∷ a) b h =
    let g = and_parts (is p) (list_all is (a ++ b)) h in
    let r = all_split is a b g.1 in (λ i. g.0 i && r.0 i, r.1)

abbrev good : Part → Bool
good p = is_valid p.token

module _ (ts : List TokenAt) (end : Pos) where
  pieces_here : (k : ℕ) (ps : List Piece) → Lies ts end k (flat_map piece_parts ps) → list_all (λ (p : Part). is_valid p.token) (flat_map read_parts ps) ≡ true
      → PiecesHere ts end k ps
  pieces_here k [] h v = tt
  pieces_here k (AnItem i ∷ ps) h v =
      let g = all_split good (item_parts i) (flat_map read_parts ps) v in (
        reads ts end k (item_parts i) (lies_left ts end k (item_parts i) (flat_map piece_parts ps) h) g.0,
        pieces_here (after k (item_parts i)) ps (lies_right ts end k (item_parts i) (flat_map piece_parts ps) h) g.1,
      )
  pieces_here k (AProcedure p ∷ ps) h v =
      let a : Parts = piece_parts (AProcedure p) in
      let t : Parts = title_parts p.name p.at p.params in
      let g = all_split good (read_parts (AProcedure p)) (flat_map read_parts ps) v in
      let l = lies_left ts end k a (flat_map piece_parts ps) h in
      let r = reads ts end (suc k) (t ++ braced (block_of p.body)) l.1 g.0 in (
        (l.0, left ts end (suc k) t (braced (block_of p.body)) r, right ts end (suc k) t (braced (block_of p.body)) r),
        pieces_here (after k a) ps (lies_right ts end k a (flat_map piece_parts ps) h) g.1,
      )
  pieces_here k (Unread x p params body ∷ ps) h v =
      let a : Parts = piece_parts (Unread x p params body) in
      let t : Parts = title_parts x p params in
      let b : Parts = fixed LeftBrace ∷ (map free_part body ++ fixed RightBrace ∷ []) in
      let g = all_split good (read_parts (Unread x p params body)) (flat_map read_parts ps) v in
      let l = lies_left ts end k a (flat_map piece_parts ps) h in (
        (l.0, reads ts end (suc k) t (lies_left ts end (suc k) t b l.1) g.0, lies_right ts end (suc k) t b l.1),
        pieces_here (after k a) ps (lies_right ts end k a (flat_map piece_parts ps) h) g.1,
      )

  module _ (follows : (k : ℕ) → is_call (signs ts) k ≡ true → ends_statement (before (signs ts) k) ≡ true) where
    -- ---- items

    silent : (k : ℕ) (p : Part) → Sound ts end k p → is_called (token_sign p.token) ≡ false → is_call (signs ts) k ≡ false
    silent k p s h = no_call_sign ts end k (ap is_called (sign_at ts end k p s) ∙ h)

    item_no_calls : (i : Item) (k : ℕ) → Reads ts end k (item_parts i) → NoCalls ts end k (item_parts i)
    item_no_calls (Input x p) k r = (
      silent k (fixed InputWord) r.0 refl,
      (
        no_call_after ts end follows (suc k) (ap ends_statement (sign_at ts end k (fixed InputWord) r.0)),
        (silent (suc (suc k)) (fixed Semicolon) r.1.1.0 refl, tt),
      ),
    )
    item_no_calls (Single x p size) k r = (
      silent k (fixed ObjectWord) r.0 refl,
      (
        no_call_after ts end follows (suc k) (ap ends_statement (sign_at ts end k (fixed ObjectWord) r.0)),
        (
          silent (suc (suc k)) (fixed Colon) r.1.1.0 refl,
          (
            silent (suc (suc (suc k))) (number_part size) r.1.1.1.0 refl,
            (silent (suc (suc (suc (suc k)))) (fixed Semicolon) r.1.1.1.1.0 refl, tt),
          ),
        ),
      ),
    )
    item_no_calls (Family x p count size) k r = (
      silent k (fixed ObjectsWord) r.0 refl,
      (
        no_call_after ts end follows (suc k) (ap ends_statement (sign_at ts end k (fixed ObjectsWord) r.0)),
        (
          silent (suc (suc k)) (fixed LeftBracket) r.1.1.0 refl,
          (
            silent (suc (suc (suc k))) (number_part count) r.1.1.1.0 refl,
            (
              silent (suc (suc (suc (suc k)))) (fixed RightBracket) r.1.1.1.1.0 refl,
              (
                silent (suc (suc (suc (suc (suc k))))) (fixed Colon) r.1.1.1.1.1.0 refl,
                (silent (suc (suc (suc (suc (suc (suc k)))))) (number_part size) r.1.1.1.1.1.1.0 refl, (silent (suc (suc (suc (suc (suc (suc (suc k))))))) (fixed Semicolon) r.1.1.1.1.1.1.1.0 refl, tt)),
              ),
            ),
          ),
        ),
      ),
    )

    keeps_all : Keeps (λ x. x)
    keeps_all = record { name = λ x h l. h; word = λ x h. h }

    item_same : (i : Item) → renamed_parts (λ x. x) (item_parts i) ≡ item_parts i
    item_same (Input x p) = refl
    item_same (Single x p size) = refl
    item_same (Family x p count size) = refl

    record ItemsWritten (calls : CallWriter ts end) (k : ℕ) (ps : List Piece) : Type 0 where
      made : List MadeToken
      spells : Spells made (flat_map item_parts (items_of ps))
      by : (ks : List ℕ) → write_places ts end calls (λ x. x) 0 (item_places ts end k ps ++ ks) 0 ≡ onto made (write_places ts end calls (λ x. x) 0 ks 0)

    items_written : (calls : CallWriter ts end) (k : ℕ) (ps : List Piece) → PiecesHere ts end k ps → ItemsWritten calls k ps
    items_written calls k [] h = record { made = []; spells = none; by = λ ks. refl }
    items_written calls k (AnItem i ∷ ps) h =
        let n : ℕ = after k (item_parts i) in
        let w = quiet ts end (λ x. x) keeps_all calls k 0 (item_parts i) h.0 (item_no_calls i k h.0) in
        let r = items_written calls n ps h.1 in
        record {
          made = w.made ++ r.made;
          spells = spells_both (subst (Spells w.made) (item_same i) w.spells) r.spells;
          by = λ ks.
              ap (λ (u : List ℕ). write_places ts end calls (λ x. x) 0 u 0) (append_assoc (places k (item_parts i)) (item_places ts end n ps) ks)
              ∙ w.by (item_places ts end n ps ++ ks) ∙ ap (onto w.made) (r.by ks)
              ∙ (λ j. record {
                tokens = sym (append_assoc w.made r.made (write_places ts end calls (λ x. x) 0 ks 0).tokens) j;
                next = (write_places ts end calls (λ x. x) 0 ks 0).next;
              });
        }
    items_written calls k (AProcedure p ∷ ps) h =
        let r = items_written calls (after k (piece_parts (AProcedure p))) ps h.1 in record { made = r.made; spells = r.spells; by = r.by }
    items_written calls k (Unread x p params body ∷ ps) h =
        let r = items_written calls (after k (piece_parts (Unread x p params body))) ps h.1 in record { made = r.made; spells = r.spells; by = r.by }

-- ---- tokens that are spelled so read so

abbrev bytes_made : List MadeToken → List (List ℕ)
bytes_made us = map (λ (t : TokenAt). t.bytes) (map made_token us)

abbrev places_made : List MadeToken → List Pos
places_made us = map (λ (t : TokenAt). t.pos) (map made_token us)

spelled_by : {us : List MadeToken} {ps : Parts} → Spells us ps → bytes_of ps ≡ bytes_made us
spelled_by none = refl
spelled_by (one t us p ps h r) = λ i. sym h.bytes i ∷ spelled_by r i

agrees_on : (q : Pos) (qs : List Pos) (n : ℕ) (ps : Parts) → Agrees qs n ps → Agrees (q ∷ qs) (suc n) ps
agrees_on q qs n [] h = tt
agrees_on q qs n (p ∷ ps) h =
    let e : suc (n + 1) ≡ suc n + 1 = omega arith in
    (h.0, subst (λ (i : ℕ). Agrees (q ∷ qs) i ps) e (agrees_on q qs (n + 1) ps h.1))

placed_by : {us : List MadeToken} {ps : Parts} → Spells us ps → Agrees (places_made us) 0 ps
placed_by none = tt
placed_by (one t us p ps h r) = (h.kept, agrees_on t.origin (places_made us) 0 ps (placed_by r))

valid_by : {us : List MadeToken} {ps : Parts} → Spells us ps → list_all (λ (t : MadeToken). nat_le (length t.bytes) WORD_LIMIT) us ≡ true
    → list_all (λ (p : Part). is_valid p.token) ps ≡ true
valid_by none g = refl
valid_by (one t us p ps h r) g =
    let b = and_parts (nat_le (length t.bytes) WORD_LIMIT) (list_all (λ (t : MadeToken). nat_le (length t.bytes) WORD_LIMIT) us) g in
    λ i. h.valid b.0 i && valid_by r b.1 i

short_by : {us : List MadeToken} {ps : Parts} → Spells us ps → list_all (λ (p : Part). nat_le p.nth EXPRESSION_LIMIT) ps ≡ true
short_by none = refl
short_by (one t us p ps h r) = λ i. h.short i && short_by r i

tokens_by : {us : List MadeToken} {ps : Parts} → Spells us ps → list_all (λ (t : MadeToken). is_token t.bytes) us ≡ true
tokens_by none = refl
tokens_by (one t us p ps h r) = λ i. h.token i && tokens_by r i

run_is : (b : List Statement) → flat_map (λ (t : Parts). t) (map statement_parts b) ≡ flat_map statement_parts b
run_is [] = refl
run_is (s ∷ b) = ap (λ (l : Parts). statement_parts s ++ l) (run_is b)

pub as_program : (p : Program) → flat_map item_parts p.items ++ fixed MainWord ∷ braced (map statement_parts p.main) ≡ program_parts p
as_program p =
    ap (λ (l : Parts). flat_map item_parts p.items ++ fixed MainWord ∷ fixed LeftBrace ∷ (l ++ fixed RightBrace ∷ [])) (run_is p.main)
    ∙ sym (append_assoc (flat_map item_parts p.items) (fixed MainWord ∷ []) (block_parts p.main))

-- what reading as a source asks, but for where its statements stand
pub record StandsIn (l : TokenList) (q : SourceText) : Type 0 where
  pub spelled : bytes_of (source_parts q) ≡ texts l
  pub placed : Agrees (positions l) 0 (source_parts q)
  pub valid : AllValid (flat_map read_parts q.pieces ++ main_parts q.main)
  pub short : AllShort (source_parts q)
  pub known : fits_after [] q.pieces q.main ≡ true

stands_in : (l : TokenList) (q : SourceText) → IsSourceReading l q → StandsIn l q
stands_in l q r = record { spelled = r.spelled; placed = r.placed; valid = r.valid; short = r.short; known = r.known }

module _ (l : TokenList) (q : SourceText) (r : StandsIn l q) (none_refused : refusal l.lexemes ≡ None) where
  follows : (k : ℕ) → is_call (signs l.lexemes) k ≡ true → ends_statement (before (signs l.lexemes) k) ≡ true
  follows = calls_follow l.lexemes none_refused

  lying : Lies l.lexemes l.end 0 (flat_map piece_parts q.pieces ++ main_parts q.main)
  lying = lies l.lexemes l.end 0 (source_parts q) r.spelled r.placed r.short.is

  valid : (list_all (λ (p : Part). is_valid p.token) (flat_map read_parts q.pieces) ≡ true) × (list_all (λ (p : Part). is_valid p.token) (main_parts q.main) ≡ true)
  valid = all_split good (flat_map read_parts q.pieces) (main_parts q.main) r.valid.is

  here : PiecesHere l.lexemes l.end 0 q.pieces
  here = pieces_here l.lexemes l.end 0 q.pieces (lies_left l.lexemes l.end 0 (flat_map piece_parts q.pieces) (main_parts q.main) lying) valid.0

  abbrev km : ℕ
  km = after 0 (flat_map piece_parts q.pieces)

  main_here : Reads l.lexemes l.end (after 0 (flat_map piece_parts q.pieces)) (main_parts q.main)
  main_here = reads l.lexemes l.end (after 0 (flat_map piece_parts q.pieces)) (main_parts q.main)
      (lies_right l.lexemes l.end 0 (flat_map piece_parts q.pieces) (main_parts q.main) lying) valid.1

  many : length l.lexemes ≡ length (source_parts q)
  many =
      let a : length (bytes_of (source_parts q)) ≡ length (texts l) = ap length r.spelled in
      let b = length-map (tokens_of (source_parts q)) token_bytes in let c = length-map (source_parts q) (λ (p : Part). p.token) in
      let d = length-map l.lexemes (λ (t : TokenAt). t.bytes) in omega (arith, a, b, c, d)

  items_there : items l.lexemes l.end ≡ map item_name (items_of q.pieces)
  items_there = items_are l.lexemes l.end q many here main_here r.known

  abbrev makes : CallTrees
  makes = all_trees (map item_name (items_of q.pieces)) (fresh_name (text_names l.lexemes l.end)) no_trees (spoken_procedures q.pieces)

  abbrev calls : CallWriter l.lexemes l.end
  calls = all_writers l.lexemes l.end (no_writer l.lexemes l.end) (procedures_at l.lexemes l.end 0 q.pieces)

  aw : AllWritten l.lexemes l.end follows (map item_name (items_of q.pieces)) items_there (no_writer l.lexemes l.end) no_trees 0 q.pieces q.main
  aw = all_written l.lexemes l.end follows (map item_name (items_of q.pieces)) items_there (no_writer l.lexemes l.end) no_trees 0 [] q.pieces q.main
      (record { by = λ k x p args made n b g t a. absurd (cc) }) here r.known

  abbrev made_main : List Statement
  made_main = (trees makes (λ x. x) q.main 0).made

  iw : ItemsWritten l.lexemes l.end follows calls 0 q.pieces
  iw = items_written l.lexemes l.end follows calls 0 q.pieces here

  wm : Writes l.lexemes l.end (λ x. x) (keeps_all l.lexemes l.end follows) calls km (main_parts q.main)
      (fixed MainWord ∷ braced (map statement_parts made_main)) (block_names (spoken_actions q.main)) 0 (trees makes (λ x. x) q.main 0).next
  wm =
      let body : Parts = flat_map (λ (t : Parts). t) (block_of q.main) in
      join l.lexemes l.end follows (λ x. x) (keeps_all l.lexemes l.end follows) calls makes aw.pieces aw.called
      (word l.lexemes l.end follows (λ x. x) (keeps_all l.lexemes l.end follows) calls makes aw.pieces aw.called km 0 MainWord main_here.0)
      (block l.lexemes l.end follows (λ x. x) (keeps_all l.lexemes l.end follows) calls makes aw.pieces aw.called (suc km) 0
      (trees makes (λ x. x) q.main 0).next (block_of q.main) (map statement_parts made_main) (block_names (spoken_actions q.main)) main_here.1
      (spokens l.lexemes l.end follows (λ x. x) (keeps_all l.lexemes l.end follows) calls makes aw.pieces aw.called q.main (suc (suc km)) 0
      (left l.lexemes l.end (suc (suc km)) body (fixed RightBrace ∷ []) main_here.1.1) aw.fits
      (ap is_proc (sign_at l.lexemes l.end (suc km) (fixed LeftBrace) main_here.1.0))))

  is_made : expansion l.lexemes l.end ≡ iw.made ++ (wm.made ++ [])
  is_made =
      ap (λ (w : Written). w.tokens)
      ((λ i. write_places l.lexemes l.end (all_writers l.lexemes l.end (no_writer l.lexemes l.end) (procedures_are l.lexemes l.end q many here main_here r.known i))
      (λ x. x) 0 (outer_are l.lexemes l.end q many here main_here r.known i) 0)
      ∙ iw.by (places km (main_parts q.main))
      ∙ ap (λ (u : List ℕ). onto iw.made (write_places l.lexemes l.end calls (λ x. x) 0 u 0)) (sym (append-nil (places km (main_parts q.main))))
      ∙ ap (onto iw.made) (wm.by []))

  spelt : Spells (expansion l.lexemes l.end) (program_parts (expanded_tree (fresh_name (text_names l.lexemes l.end)) q))
  spelt =
      subst (λ (u : List MadeToken). Spells u (program_parts (expanded_tree (fresh_name (text_names l.lexemes l.end)) q)))
      (sym (is_made ∙ ap (λ (u : List MadeToken). iw.made ++ u) (append-nil wm.made)))
      (subst (Spells (iw.made ++ wm.made)) (as_program (expanded_tree (fresh_name (text_names l.lexemes l.end)) q)) (spells_both iw.spells wm.spells))

  -- the tokens of the tree are those that are written
  pub spelled_there : bytes_of (program_parts (expanded_tree (fresh_name (text_names l.lexemes l.end)) q)) ≡ texts (expanded_tokens l)
  spelled_there = spelled_by spelt

  pub valid_there : AreWords l → list_all (λ (p : Part). is_valid p.token) (program_parts (expanded_tree (fresh_name (text_names l.lexemes l.end)) q)) ≡ true
  valid_there words = valid_by spelt words.each

  reads_there : is_proper q ≡ true → AreWords l → IsReading (expanded_tokens l) (expanded_tree (fresh_name (text_names l.lexemes l.end)) q)
  reads_there proper words = record {
    spelled = spelled_by spelt;
    placed = placed_by spelt;
    sound = record { proper = proper_tree (fresh_name (text_names l.lexemes l.end)) q proper; valid = record { is = valid_there words } };
    short = record { is = short_by spelt };
  }

  names_there : names_at l.lexemes l.end (places (after 0 (flat_map piece_parts q.pieces)) (main_parts q.main)) ≡ block_names (spoken_actions q.main)
  names_there = wm.names

  tokens_there : list_all (λ (t : MadeToken). is_token t.bytes) (expansion l.lexemes l.end) ≡ true
  tokens_there = tokens_by spelt

module _ (l : TokenList) (q : SourceText) (r : IsSourceReading l q) (none_refused : refusal l.lexemes ≡ None) where
  pub same_items : items l.lexemes l.end ≡ map item_name (items_of q.pieces)
  same_items = items_there l q (stands_in l q r) none_refused

  pub written_reads : AreWords l → IsReading (expanded_tokens l) (expanded_tree (fresh_name (text_names l.lexemes l.end)) q)
  written_reads = reads_there l q (stands_in l q r) none_refused r.proper

  -- the names of `main`
  pub main_names : names_at l.lexemes l.end (places (after 0 (flat_map piece_parts q.pieces)) (main_parts q.main)) ≡ block_names (spoken_actions q.main)
  main_names = names_there l q (stands_in l q r) none_refused

  -- what is written is tokens
  pub all_tokens : list_all (λ (t : MadeToken). is_token t.bytes) (expansion l.lexemes l.end) ≡ true
  all_tokens = tokens_there l q (stands_in l q r) none_refused

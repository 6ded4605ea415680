-- From what is told of each call that is reached: the pieces of a source, each procedure with a body that reads, or with one that is not read.
use Rattle.std.proofs.Common.{◌≡◌, ℕ, suc, ◌+◌, Bool, true, false, ◌&&◌, nat_eq, List, [], ◌∷◌, ◌++◌, length, map, refl, sym, ap, ◌∙◌, subst}
use Rattle.std.specs.Prelude.{if◌then◌else◌}
use Rattle.std.specs.List.{flat_map}
use Rattle.std.proofs.lemmas.Bool.{eq-eqb}
use Rattle.jade_base.specs.declared.place.Pos.{Pos}
use Rattle.jade_lexer.specs.Lexemes.{TokenAt}
use Rattle.jade_syntax.specs.declared.tree.Item.{Item}
use Rattle.jade_syntax.specs.Abstract.{Name}
use Rattle.jade_syntax.specs.Numbering.{same_name}
use Rattle.jade_parser.specs.declared.Sign.TheVariants.{RightBrace}
use Rattle.jade_parser.specs.Spelled.{Parts, fixed}
use Rattle.jade_parser.specs.Programs.{item_parts}
use Rattle.proc_expand.specs.declared.sign.End.TheVariants.{Closed}
use Rattle.proc_expand.specs.Words.{signs, bytes_at}
use Rattle.proc_expand.specs.Refusals.{head}
use Rattle.proc_expand.specs.Written.{pos_at, closed_at}
use Rattle.proc_laws.specs.SourceTree as source
use Rattle.proc_laws.specs.SourceTree.{HeadParam, Spoken, Spokens, SpokenProcedure, Piece, AnItem, AProcedure, Unread}
use Rattle.proc_laws.specs.SourceReading.{free_part, piece_parts, block_of, takes, calls_fit, all_fit, piece_fits, fits_after}
use Rattle.proc_laws.proofs.PlacesInText.{after, after_both, plus_one, Sound, Reads, lies_right}
use Rattle.proc_laws.proofs.WrittenCalls.{PiecesHere}
use Rattle.proc_laws.proofs.PiecesInText.{after_rest}
use Rattle.proc_laws.proofs.TokensAhead.{reads_both}
use Rattle.proc_laws.proofs.Walking.{calls_told, all_told}
use Rattle.proc_laws.proofs.CallsRead.{Either, Here, told}
use Rattle.proc_laws.proofs.PiecesRead.{stop_at, last_at, ProcHere, Track, at_start, on_item, on_proc}

-- ---- calls

-- a call: the name that is called, and how many arguments it has
pub record Need : Type 0 where
  pub name : Name
  pub count : ℕ

abbrev mutual
  -- the calls of a statement
  needs_of : Spoken → List Need
  needs_of (source.Local kind x at e) = []
  needs_of (source.Assign x at e) = []
  needs_of (source.Store c e) = []
  needs_of (source.If e first) = all_needs first
  needs_of (source.IfElse e first other) = all_needs first ++ all_needs other
  needs_of (source.For x at low high body) = all_needs body
  needs_of (source.Withonly at section names body) = all_needs section ++ all_needs body
  needs_of (source.With at section) = all_needs section
  needs_of (source.Declare how at o) = []
  needs_of (source.Call x at args) = record { name = x; count = length args } ∷ []

  -- the calls of statements
  pub all_needs : Spokens → List Need
  all_needs source.Done = []
  all_needs (source.Then a more) = needs_of a ++ all_needs more

-- something holds of each call
abbrev pub Every : (Name → ℕ → Type 0) → List Need → Type 0
Every P [] = Unit {0}
Every P (x ∷ xs) = P x.name x.count × Every P xs

every_both : (P : Name → ℕ → Type 0) (a b : List Need) → Every P a → Every P b → Every P (a ++ b)
every_both P [] b h g = g
every_both P (x ∷ a) b h g = (h.0, every_both P a b h.1 g)

every_left : (P : Name → ℕ → Type 0) (a b : List Need) → Every P (a ++ b) → Every P a
every_left P [] b h = tt
every_left P (x ∷ a) b h = (h.0, every_left P a b h.1)

every_right : (P : Name → ℕ → Type 0) (a b : List Need) → Every P (a ++ b) → Every P b
every_right P [] b h = h
every_right P (x ∷ a) b h = every_right P a b h.1

-- what is told of the calls of statements is told of each
module _ (P : Name → ℕ → Type 0) where
  mutual
    need_told : (a : Spoken) → calls_told P a → Every P (needs_of a)
    need_told (source.Local kind x at e) h = tt
    need_told (source.Assign x at e) h = tt
    need_told (source.Store c e) h = tt
    need_told (source.If e first) h = needs_told first h
    need_told (source.IfElse e first other) h = every_both P (all_needs first) (all_needs other) (needs_told first h.0) (needs_told other h.1)
    need_told (source.For x at low high body) h = needs_told body h
    need_told (source.Withonly at section names body) h =
        every_both P (all_needs section) (all_needs body) (needs_told section h.0) (needs_told body h.1)
    need_told (source.With at section) h = needs_told section h
    need_told (source.Declare how at o) h = tt
    need_told (source.Call x at args) h = (h, tt)

    pub needs_told : (b : Spokens) → all_told P b → Every P (all_needs b)
    needs_told source.Done h = tt
    needs_told (source.Then a more) h = every_both P (needs_of a) (all_needs more) (need_told a h.0) (needs_told more h.1)

-- each call is of a procedure that takes its arguments
abbrev pub Taken : List Piece → Name → ℕ → Type 0
Taken pieces x n = takes pieces x n ≡ true

module _ (pieces : List Piece) where
  mutual
    need_fits : (a : Spoken) → Every (Taken pieces) (needs_of a) → calls_fit pieces a ≡ true
    need_fits (source.Local kind x at e) h = refl
    need_fits (source.Assign x at e) h = refl
    need_fits (source.Store c e) h = refl
    need_fits (source.If e first) h = needs_fit first h
    need_fits (source.IfElse e first other) h =
        λ i. needs_fit first (every_left (Taken pieces) (all_needs first) (all_needs other) h) i
        && needs_fit other (every_right (Taken pieces) (all_needs first) (all_needs other) h) i
    need_fits (source.For x at low high body) h = needs_fit body h
    need_fits (source.Withonly at section names body) h =
        λ i. needs_fit section (every_left (Taken pieces) (all_needs section) (all_needs body) h) i
        && needs_fit body (every_right (Taken pieces) (all_needs section) (all_needs body) h) i
    need_fits (source.With at section) h = needs_fit section h
    need_fits (source.Declare how at o) h = refl
    need_fits (source.Call x at args) h = h.0

    pub needs_fit : (b : Spokens) → Every (Taken pieces) (all_needs b) → all_fit pieces b ≡ true
    needs_fit source.Done h = refl
    needs_fit (source.Then a more) h =
        λ i. need_fits a (every_left (Taken pieces) (needs_of a) (all_needs more) h) i
        && needs_fit more (every_right (Taken pieces) (needs_of a) (all_needs more) h) i

-- pieces, the newest first, before others
abbrev pub onto : List Piece → List Piece → List Piece
onto [] later = later
onto (p ∷ ps) later = onto ps (p ∷ later)

module _ (ts : List TokenAt) (end : Pos) where
  -- ---- the calls of one procedure

  -- other names
  abbrev Unlike : Name → Name → ℕ → Type 0
  Unlike x y n = same_name y x ≡ false

  -- how calls are met by a procedure at p, of name x, and by those before it
  data Met (x : Name) (p : ℕ) (before : List ℕ) (needs : List Need) : Type 0 where
    none : Every (told ts end before) needs → Every (Unlike x) needs → Met x p before needs
    some : (n : ℕ) → Here ts end p (told ts end before) n → (others : List Need) → Every (told ts end before) others
        → ((pieces : List Piece) (q : SpokenProcedure) → q.name ≡ x → length q.params ≡ (head (signs ts) p).params → Every (Taken pieces) others
        → Every (Taken (AProcedure q ∷ pieces)) needs) → Met x p before needs

  taken_here : (pieces : List Piece) (q : SpokenProcedure) (y : Name) (n : ℕ) → same_name y q.name ≡ true → length q.params ≡ n → Taken (AProcedure q ∷ pieces) y n
  taken_here pieces q y n h e =
      ap (λ t. if t then nat_eq (length q.params) n else takes pieces y n) h ∙ eq-eqb (length q.params) n e

  taken_past : (pieces : List Piece) (q : SpokenProcedure) (y : Name) (n : ℕ) → same_name y q.name ≡ false → Taken pieces y n → Taken (AProcedure q ∷ pieces) y n
  taken_past pieces q y n h g = ap (λ t. if t then nat_eq (length q.params) n else takes pieces y n) h ∙ g

  all_past : (pieces : List Piece) (q : SpokenProcedure) (x : Name) (needs : List Need) → q.name ≡ x → Every (Unlike x) needs → Every (Taken pieces) needs
      → Every (Taken (AProcedure q ∷ pieces)) needs
  all_past pieces q x [] e h g = tt
  all_past pieces q x (y ∷ needs) e h g =
      (taken_past pieces q y.name y.count (ap (same_name y.name) e ∙ h.0) g.0, all_past pieces q x needs e h.1 g.1)

  unread_past : (pieces : List Piece) (x : Name) (at : Pos) (params : List HeadParam) (body : List (List ℕ)) (needs : List Need)
      → Every (Unlike x) needs → Every (Taken pieces) needs → Every (Taken (Unread x at params body ∷ pieces)) needs
  unread_past pieces x at params body [] h g = tt
  unread_past pieces x at params body (y ∷ needs) h g =
      (ap (λ t. if t then false else takes pieces y.name y.count) h.0 ∙ g.0, unread_past pieces x at params body needs h.1 g.1)

  meet_one : (x : Name) (p : ℕ) (before : List ℕ) (y : Need) (needs : List Need) (t : Bool) → same_name y.name x ≡ t
      → Either t (Here ts end p (told ts end before) y.count) (told ts end before y.name y.count) → Met x p before needs → Met x p before (y ∷ needs)
  meet_one x p before y needs true e h (none g u) =
      some y.count h needs g (λ pieces q s m w.
      (taken_here pieces q y.name y.count (ap (same_name y.name) s ∙ e) (m ∙ sym h.many), all_past pieces q x needs s u w))
  meet_one x p before y needs true e h (some n g others o f) =
      some n g others o (λ pieces q s m w. (taken_here pieces q y.name y.count (ap (same_name y.name) s ∙ e) (m ∙ sym h.many), f pieces q s m w))
  meet_one x p before y needs false e h (none g u) = none (h, g) (e, u)
  meet_one x p before y needs false e h (some n g others o f) =
      some n g (y ∷ others) (h, o) (λ pieces q s m w. (taken_past pieces q y.name y.count (ap (same_name y.name) s ∙ e) w.0, f pieces q s m w.1))

  -- each call is of this procedure or of one before it
  meet : (p : ℕ) (before : List ℕ) (needs : List Need) → Every (told ts end (p ∷ before)) needs → Met (bytes_at ts (p + 1)) p before needs
  meet p before [] h = none tt tt
  meet p before (y ∷ needs) h = meet_one (bytes_at ts (p + 1)) p before y needs (same_name y.name (bytes_at ts (p + 1))) refl h.0 (meet p before needs h.1)

  -- ---- all pieces

  -- pieces up to a place, the newest first, that meet calls
  pub record Chosen (k : ℕ) (needs : List Need) : Type 0 where
    pub pieces : List Piece
    pub here : (later : List Piece) → PiecesHere ts end k later → PiecesHere ts end 0 (onto pieces later)
    pub place : (later : List Piece) → after 0 (flat_map piece_parts (onto pieces later)) ≡ after k (flat_map piece_parts later)
    pub fits : (later : List Piece) (main : Spokens) → fits_after pieces later main ≡ true → fits_after [] (onto pieces later) main ≡ true
    pub taken : Every (Taken pieces) needs

  with_item : (k : ℕ) (i : Item) (needs : List Need) → Reads ts end k (item_parts i) → Chosen k needs → Chosen (after k (item_parts i)) needs
  with_item k i needs r c = record {
    pieces = AnItem i ∷ c.pieces;
    here = λ later h. c.here (AnItem i ∷ later) (r, h);
    place = λ later. c.place (AnItem i ∷ later) ∙ after_both k (item_parts i) (flat_map piece_parts later);
    fits = λ later main h. c.fits (AnItem i ∷ later) main h;
    taken = same needs c.taken;
  }
    where
      same : (xs : List Need) → Every (Taken c.pieces) xs → Every (Taken (AnItem i ∷ c.pieces)) xs
      same [] h = tt
      same (x ∷ xs) h = (h.0, same xs h.1)

  both_true : (a b : Bool) → a ≡ true → b ≡ true → (a && b) ≡ true
  both_true a b h g = λ i. h i && g i

  -- a procedure of which no call is told
  unread : (k : ℕ) (h : ProcHere ts end k) (needs : List Need) → Every (Unlike (bytes_at ts (suc k))) needs → Chosen k needs
      → Chosen (suc (last_at ts end k h.params h.body)) needs
  unread k h needs u c =
      let x = bytes_at ts (suc k) in let at = pos_at ts end ts (suc k) in
      let p : Piece = Unread x at h.params h.body in record {
        pieces = p ∷ c.pieces;
        here = λ later g. c.here (p ∷ later) ((h.word, h.title, h.lies), subst (λ (i : ℕ). PiecesHere ts end i later) (sym (after_rest ts end k x at h.params (map free_part h.body))) g);
        place = λ later. c.place (p ∷ later) ∙ after_both k (piece_parts p) (flat_map piece_parts later)
            ∙ ap (λ (i : ℕ). after i (flat_map piece_parts later)) (after_rest ts end k x at h.params (map free_part h.body));
        fits = λ later main g. c.fits (p ∷ later) main (both_true (piece_fits c.pieces p) (fits_after (p ∷ c.pieces) later main) h.there g);
        taken = unread_past c.pieces x at h.params h.body needs u c.taken;
      }

  closed_same : (a b : ℕ) → Closed a ≡ Closed b → a ≡ b
  closed_same a b h = ap (closed_at ts end) h

  -- a procedure of which a call is told
  called : (k : ℕ) (before : List ℕ) (h : ProcHere ts end k) (needs : List Need) (n : ℕ) → (g : Here ts end k (told ts end before) n) → (others : List Need)
      → ((pieces : List Piece) (q : SpokenProcedure) → q.name ≡ bytes_at ts (suc k) → length q.params ≡ (head (signs ts) k).params
      → Every (Taken pieces) others → Every (Taken (AProcedure q ∷ pieces)) needs)
      → Chosen k (all_needs g.body ++ others) → Chosen (suc (last_at ts end k h.params h.body)) needs
  called k before h needs n g others back c =
      let x = bytes_at ts (suc k) in let at = pos_at ts end ts (suc k) in
      let q : SpokenProcedure = record { name = x; at = at; params = h.params; body = g.body } in
      let p : Piece = AProcedure q in
      let body : Parts = flat_map (λ (t : Parts). t) (block_of g.body) in
      let s : ℕ = stop_at ts end k h.params in
      let reads : Reads ts end (suc s) body = subst (λ (i : ℕ). Reads ts end (suc i) body) (sym h.stop) g.reads in
      let ends : after (suc s) body ≡ last_at ts end k h.params h.body =
      closed_same (after (suc s) body) (last_at ts end k h.params h.body) (ap (λ (i : ℕ). Closed (after (suc i) body)) h.stop ∙ sym g.ends ∙ h.closed) in
      let close : Sound ts end (after (suc s) body) (fixed RightBrace) = subst (λ (i : ℕ). Sound ts end i (fixed RightBrace)) (sym ends)
      (record { stand = (lies_right ts end (suc s) (map free_part h.body) (fixed RightBrace ∷ []) h.lies.1).0; valid = refl }) in
      let e : after k (piece_parts p) ≡ suc (last_at ts end k h.params h.body) = after_rest ts end k x at h.params body ∙ ap suc ends in
      let all = every_left (Taken c.pieces) (all_needs g.body) others c.taken in
      record {
        pieces = p ∷ c.pieces;
        here = λ later w. c.here (p ∷ later)
            ((h.word, h.title, (h.brace, reads_both ts end (suc s) body (fixed RightBrace ∷ []) reads (close, tt))), subst (λ (i : ℕ). PiecesHere ts end i later) (sym e) w);
        place = λ later. c.place (p ∷ later) ∙ after_both k (piece_parts p) (flat_map piece_parts later) ∙ ap (λ (i : ℕ). after i (flat_map piece_parts later)) e;
        fits = λ later main w. c.fits (p ∷ later) main
            (both_true (piece_fits c.pieces p) (fits_after (p ∷ c.pieces) later main) (needs_fit c.pieces g.body all) w);
        taken = back c.pieces q refl h.many (every_right (Taken c.pieces) (all_needs g.body) others c.taken);
      }

  none_told : (needs : List Need) → Every (told ts end []) needs → Every (Taken []) needs
  none_told [] h = tt
  none_told (x ∷ needs) h = absurd h.0

  chosen_proc : (k : ℕ) (before : List ℕ) (h : ProcHere ts end k) (needs : List Need) → Met (bytes_at ts (suc k)) k before needs
      → ((others : List Need) → Every (told ts end before) others → Chosen k others) → Chosen (suc (last_at ts end k h.params h.body)) needs
  chosen_proc k before h needs (none g u) go = unread k h needs u (go needs g)
  chosen_proc k before h needs (some n g others o back) go =
      called k before h needs n g others back
      (go (all_needs g.body ++ others) (every_both (told ts end before) (all_needs g.body) others (needs_told (told ts end before) g.body g.calls) o))

  -- for all calls of which is told there are pieces
  pub choose : {k : ℕ} {procs : List ℕ} → Track ts end k procs → (needs : List Need) → Every (told ts end procs) needs → Chosen k needs
  choose at_start needs h =
      record { pieces = []; here = λ later g. g; place = λ later. refl; fits = λ later main g. g; taken = none_told needs h }
  choose (on_item j ps t i r) needs h = with_item j i needs r (choose t needs h)
  choose (on_proc j ps t p) needs h =
      chosen_proc j ps p needs (subst (λ (i : ℕ). Met (bytes_at ts i) j ps needs) (plus_one j) (meet j ps needs h)) (λ others o. choose t others o)

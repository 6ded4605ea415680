-- Where the items and procedures of a source stand in its text.
use Rattle.std.proofs.Common.{◌≡◌, ℕ, zero, suc, ◌+◌, ◌<◌, ◌≤◌, Bool, true, false, ◌&&◌, ◌||◌, nat_eq, List, [], ◌∷◌, ◌++◌, length, map, cond, codes, refl, sym, ap, ◌∙◌, subst, arith}
use Rattle.std.specs.Prelude.{not, nat_le}
use Rattle.std.specs.List.{flat_map, list_all, list_any, filter}
use Rattle.std.proofs.lemmas.List.{map-append, append_assoc, append-nil}
use Rattle.std.proofs.lemmas.List.Elements.{filter-append}
use Rattle.std.proofs.lemmas.Bool.{and_parts, eq-eqb, eqb-true, leb-true, le-leb}
use Rattle.jade_base.specs.declared.place.Pos.{Pos}
use Rattle.jade_lexer.specs.Lexemes.{TokenAt}
use Rattle.jade_syntax.specs.declared.tree.Item.{Item}
use Rattle.jade_syntax.specs.declared.tree.Item.TheVariants.{Input, Single, Family}
use Rattle.jade_syntax.specs.Abstract.{Name}
use Rattle.jade_parser.specs.declared.Sign.TheVariants.{RightParen, LeftBrace, RightBrace, Semicolon}
use Rattle.jade_parser.specs.declared.Sign.TheVariants.{InputWord, ObjectWord, ObjectsWord, Colon, LeftBracket, RightBracket}
use Rattle.jade_parser.specs.Spelled.{Part, Parts, Called, fixed, marked}
use Rattle.jade_parser.specs.Programs.{between_parts, item_parts}
use Rattle.proc_expand.specs.declared.sign.Sign.{Sign}
use Rattle.proc_expand.specs.declared.sign.End.TheVariants.{Closed}
use Rattle.proc_expand.specs.declared.procedures.Procedure.{Procedure}
use Rattle.proc_expand.specs.Words.{signs, at, before, bytes_at, is_main, is_proc, is_item_word, is_called, ends_item, open_after, open_before, closing, those, one_if, some}
use Rattle.proc_expand.specs.Refusals.{begins, is_outer_main, procedure}
use Rattle.proc_expand.specs.Written.{from, closed_at, procedures, in_procedure, items, before_item}
use Rattle.proc_laws.specs.Expansion.{item_name}
use Rattle.proc_laws.specs.SourceTree.{HeadParam, Spokens, Piece, AnItem, AProcedure, Unread, SourceText, items_of}
use Rattle.proc_laws.specs.SourceReading.{more_params, title_parts, free_part, piece_parts, main_parts, source_parts, block_of, piece_fits, fits_after}
use Rattle.proc_laws.proofs.SignsOfTokens.{token_sign, parts_signs}
use Rattle.proc_laws.proofs.PlacesInText.{after, places, after_both, places_both, after_is, places_from, Stand, Reads, right, lies_right, sign_at, stand_sign}
use Rattle.proc_laws.proofs.LevelParts.{bare, even_spokens, even_braced}
use Rattle.proc_laws.proofs.WrittenParts.{no_proc}
use Rattle.proc_laws.proofs.HeadsInText.{kind_sign, stop_of, procedure_of, rest_of, procedure_here, closed_body, closed_free, Deep, deep_body}
use Rattle.proc_laws.proofs.WrittenCalls.{body_of, PiecesHere, procedures_at}

-- ---- truth values

or_true : (a : Bool) → (a || true) ≡ true
or_true true = refl
or_true false = refl

pub or_none : (a b : Bool) → a ≡ false → b ≡ false → (a || b) ≡ false
or_none a b h g = λ i. h i || g i

pub and_false : (a : Bool) → (a && false) ≡ false
and_false true = refl
and_false false = refl

not_true : (a : Bool) → not a ≡ true → a ≡ false
not_true true h = absurd (cc)
not_true false h = refl

other_number : (a b : ℕ) → (a ≡ b → ⊥) → nat_eq a b ≡ false
other_number a b f = by (nat_eq a b) refl
  where
    by : (t : Bool) → nat_eq a b ≡ t → t ≡ false
    by true q = absurd (f (eqb-true a b q))
    by false q = refl

not_up : (a b : ℕ) → b < a → nat_le a b ≡ false
not_up a b h = by (nat_le a b) refl
  where
    by : (t : Bool) → nat_le a b ≡ t → t ≡ false
    by true q = absurd (let l = leb-true a b q in omega (arith, l, h))
    by false q = refl

pub up : (a b : ℕ) → a ≤ b → nat_le a b ≡ true
up a b h = le-leb a b h

-- a test of places from k on, which the first has or the others
first_or : (Q : ℕ → Type 0) (k j : ℕ) → k ≤ j → Q k → (suc k ≤ j → Q j) → Q j
first_or Q k j l h g = by (nat_eq k j) refl
  where
    by : (t : Bool) → nat_eq k j ≡ t → Q j
    by true q = subst Q (eqb-true k j q) h
    by false q = let f : k ≡ j → ⊥ = λ e. absurd (let y = eq-eqb k j e in cc) in g (omega (arith, l, f))

-- ---- places with a property

filter_all : (is : ℕ → Bool) (k : ℕ) (ps : Parts) → ((j : ℕ) → k ≤ j → j < after k ps → is j ≡ true) → filter is (places k ps) ≡ places k ps
filter_all is k [] h = refl
filter_all is k (p ∷ ps) h =
    let l = after_is (suc k) ps in
    ap (λ t. cond t (k ∷ filter is (places (suc k) ps)) (filter is (places (suc k) ps))) (h k (omega arith) (omega (arith, l)))
    ∙ ap (λ (u : List ℕ). k ∷ u) (filter_all is (suc k) ps (λ j a b. h j (omega (arith, a)) b))

filter_none : (is : ℕ → Bool) (k : ℕ) (ps : Parts) → ((j : ℕ) → k ≤ j → j < after k ps → is j ≡ false) → filter is (places k ps) ≡ []
filter_none is k [] h = refl
filter_none is k (p ∷ ps) h =
    let l = after_is (suc k) ps in
    ap (λ t. cond t (k ∷ filter is (places (suc k) ps)) (filter is (places (suc k) ps))) (h k (omega arith) (omega (arith, l)))
    ∙ filter_none is (suc k) ps (λ j a b. h j (omega (arith, a)) b)

pub some_none : (n : ℕ) (is : ℕ → Bool) → ((j : ℕ) → j < n → is j ≡ false) → some n is ≡ false
some_none zero is h = refl
some_none (suc k) is h = or_none (some k is) (is k) (some_none k is (λ j l. h j (omega (arith, l)))) (h k (omega arith))

-- how many brackets are open after some signs
abbrev depth_after : List Sign → ℕ → ℕ
depth_after [] d = d
depth_after (s ∷ us) d = depth_after us (open_after s d)

abbrev no_main : Sign → Bool
no_main s = not (is_main s)

more_depth : (ps : List HeadParam) (rest : Parts) (d : ℕ) → depth_after (parts_signs (more_params ps ++ rest)) d ≡ depth_after (parts_signs rest) d
more_depth [] rest d = refl
more_depth (p ∷ ps) rest d =
    ap (λ (s : Sign). depth_after (parts_signs (more_params ps ++ rest)) (open_after s d)) (kind_sign p.kind) ∙ more_depth ps rest d

title_depth : (x : Name) (p : Pos) (params : List HeadParam) → depth_after (parts_signs (title_parts x p params)) 0 ≡ 0
title_depth x p [] = refl
title_depth x p (q ∷ params) =
    ap (λ (s : Sign). depth_after (parts_signs (more_params params ++ fixed RightParen ∷ [])) (open_after s 1)) (kind_sign q.kind)
    ∙ more_depth params (fixed RightParen ∷ []) 1

more_plain : (ps : List HeadParam) (rest : Parts) → list_all no_main (parts_signs rest) ≡ true → list_all no_main (parts_signs (more_params ps ++ rest)) ≡ true
more_plain [] rest h = h
more_plain (p ∷ ps) rest h =
    ap (λ (s : Sign). no_main s && list_all no_main (parts_signs (more_params ps ++ rest))) (kind_sign p.kind) ∙ more_plain ps rest h

title_plain : (x : Name) (p : Pos) (params : List HeadParam) → list_all no_main (parts_signs (title_parts x p params)) ≡ true
title_plain x p [] = refl
title_plain x p (q ∷ params) =
    ap (λ (s : Sign). no_main s && list_all no_main (parts_signs (more_params params ++ fixed RightParen ∷ []))) (kind_sign q.kind)
    ∙ more_plain params (fixed RightParen ∷ []) refl

item_depth : (i : Item) → depth_after (parts_signs (item_parts i)) 0 ≡ 0
item_depth (Input x p) = refl
item_depth (Single x p size) = refl
item_depth (Family x p count size) = refl

item_plain : (i : Item) → list_all no_main (parts_signs (item_parts i)) ≡ true
item_plain (Input x p) = refl
item_plain (Single x p size) = refl
item_plain (Family x p count size) = refl

all_no_proc : (ps : Parts) → list_all (λ (s : Sign). not (is_proc s)) (parts_signs ps) ≡ true
all_no_proc [] = refl
all_no_proc (p ∷ ps) =
    ap (λ t. not t && list_all (λ (s : Sign). not (is_proc s)) (parts_signs ps)) (no_proc p.token) ∙ all_no_proc ps

pub any_both : (is : Procedure → Bool) (a b : List Procedure) → list_any is (a ++ b) ≡ (list_any is a || list_any is b)
any_both is [] b = refl
any_both is (p ∷ a) b = by (is p) (any_both is a b)
  where
    by : (t : Bool) → list_any is (a ++ b) ≡ (list_any is a || list_any is b) → (t || list_any is (a ++ b)) ≡ ((t || list_any is a) || list_any is b)
    by true h = refl
    by false h = h

module _ (ts : List TokenAt) (end : Pos) where
  -- ---- the places before a number

  from_last : (k n : ℕ) → from ts end k (suc n) ≡ from ts end k n ++ (k + n) ∷ []
  from_last k zero = let e : k ≡ k + 0 = omega arith in ap (λ (i : ℕ). i ∷ []) e
  from_last k (suc n) =
      let e : suc k + n ≡ k + suc n = omega arith in
      ap (λ (l : List ℕ). k ∷ l) (from_last (suc k) n ∙ ap (λ (i : ℕ). from ts end (suc k) n ++ i ∷ []) e)

  pub those_are : (n : ℕ) (is : ℕ → Bool) → those n is ≡ filter is (from ts end 0 n)
  those_are zero is = refl
  those_are (suc k) is =
      (λ i. those_are k is i ++ one k (is k) i)
      ∙ sym (filter-append is (from ts end 0 k) (k ∷ []))
      ∙ ap (filter is) (ap (λ (i : ℕ). from ts end 0 k ++ i ∷ []) zero_up ∙ sym (from_last 0 k))
    where
      zero_up : k ≡ 0 + k
      zero_up = omega arith

      one : (k : ℕ) (t : Bool) → one_if t k ≡ cond t (k ∷ []) []
      one k true = refl
      one k false = refl

  each_at : (Q : Sign → Bool) (k : ℕ) (ps : Parts) → Reads ts end k ps → list_all Q (parts_signs ps) ≡ true → (j : ℕ) → k ≤ j → j < after k ps
      → Q (at (signs ts) j) ≡ true
  each_at Q k [] r h j l m = absurd (omega (arith, l, m))
  each_at Q k (p ∷ ps) r h j l m =
      let b = and_parts (Q (token_sign p.token)) (list_all Q (parts_signs ps)) h in
      first_or (λ (i : ℕ). Q (at (signs ts) i) ≡ true) k j l (ap Q (sign_at ts end k p r.0) ∙ b.0) (λ g. each_at Q (suc k) ps r.1 b.1 j g m)

  reads_depth : (k : ℕ) (ps : Parts) → Reads ts end k ps → open_before (signs ts) (after k ps) ≡ depth_after (parts_signs ps) (open_before (signs ts) k)
  reads_depth k [] r = refl
  reads_depth k (p ∷ ps) r =
      reads_depth (suc k) ps r.1 ∙ ap (λ (s : Sign). depth_after (parts_signs ps) (open_after s (open_before (signs ts) k))) (sign_at ts end k p r.0)

  -- ---- where pieces begin

  pub record Open (k : ℕ) : Type 0 where
    pub depth : open_before (signs ts) k ≡ 0
    pub no_mains : (j : ℕ) → j < k → is_outer_main (signs ts) j ≡ false
    pub may : (nat_eq k 0 || ends_item (before (signs ts) k)) ≡ true

  pub opened : Open 0
  opened = record { depth = refl; no_mains = λ j l. absurd (omega (arith, l)); may = refl }

  may_by : (k : ℕ) → ends_item (before (signs ts) k) ≡ true → (nat_eq k 0 || ends_item (before (signs ts) k)) ≡ true
  may_by k h = ap (λ t. nat_eq k 0 || t) h ∙ or_true (nat_eq k 0)

  item_ends : (i : Item) (k : ℕ) → Reads ts end k (item_parts i) → ends_item (before (signs ts) (after k (item_parts i))) ≡ true
  item_ends (Input x p) k r = ap ends_item (sign_at ts end (suc (suc k)) (fixed Semicolon) r.1.1.0)
  item_ends (Single x p size) k r = ap ends_item (sign_at ts end (suc (suc (suc (suc k)))) (fixed Semicolon) r.1.1.1.1.0)
  item_ends (Family x p count size) k r =
      ap ends_item (sign_at ts end (suc (suc (suc (suc (suc (suc (suc k))))))) (fixed Semicolon) r.1.1.1.1.1.1.1.0)

  no_outer : (j : ℕ) → no_main (at (signs ts) j) ≡ true → is_outer_main (signs ts) j ≡ false
  no_outer j h = ap (λ t. t && nat_eq (open_before (signs ts) j) 0) (not_true (is_main (at (signs ts) j)) h)

  no_outer_deep : (j : ℕ) → 0 < open_before (signs ts) j → is_outer_main (signs ts) j ≡ false
  no_outer_deep j h =
      ap (λ t. is_main (at (signs ts) j) && t) (other_number (open_before (signs ts) j) 0 (λ e. omega (arith, e, h))) ∙ and_false (is_main (at (signs ts) j))

  pub no_begin : (j : ℕ) → is_proc (at (signs ts) j) ≡ false → begins (signs ts) j ≡ false
  no_begin j h =
      ap (λ t. nat_eq (open_before (signs ts) j) 0 && not (some j (is_outer_main (signs ts))) && (t && (nat_eq j 0 || ends_item (before (signs ts) j)))) h
      ∙ and_false (nat_eq (open_before (signs ts) j) 0 && not (some j (is_outer_main (signs ts))))

  pub no_begin_deep : (j : ℕ) → 0 < open_before (signs ts) j → begins (signs ts) j ≡ false
  no_begin_deep j h =
      ap (λ t. t && not (some j (is_outer_main (signs ts))) && (is_proc (at (signs ts) j) && (nat_eq j 0 || ends_item (before (signs ts) j))))
      (other_number (open_before (signs ts) j) 0 (λ e. omega (arith, e, h)))

  pub reads_no_begin : (k : ℕ) (ps : Parts) → Reads ts end k ps → (j : ℕ) → k ≤ j → j < after k ps → begins (signs ts) j ≡ false
  reads_no_begin k ps r j l m =
      no_begin j (not_true (is_proc (at (signs ts) j)) (each_at (λ (s : Sign). not (is_proc s)) k ps r (all_no_proc ps) j l m))

  pub item_open : (i : Item) (k : ℕ) → Open k → Reads ts end k (item_parts i) → Open (after k (item_parts i))
  item_open i k o r = record {
    depth = reads_depth k (item_parts i) r ∙ ap (depth_after (parts_signs (item_parts i))) o.depth ∙ item_depth i;
    no_mains = λ j l. by j l (nat_le k j) refl;
    may = may_by (after k (item_parts i)) (item_ends i k r);
  }
    where
      by : (j : ℕ) → j < after k (item_parts i) → (t : Bool) → nat_le k j ≡ t → is_outer_main (signs ts) j ≡ false
      by j l true q = no_outer j (each_at no_main k (item_parts i) r (item_plain i) j (leb-true k j q) l)
      by j l false q = o.no_mains j (let f : k ≤ j → ⊥ = λ u. absurd (let v = up k j u in cc) in omega (arith, f))

  -- ---- a procedure

  abbrev proc_part : Part
  proc_part = free_part (codes "proc")

  pub after_rest : (k : ℕ) (x : Name) (p : Pos) (params : List HeadParam) (body : Parts)
      → after (suc k) (rest_of ts end x p params body) ≡ suc (after (suc (stop_of ts end k x p params)) body)
  after_rest k x p params body =
      after_both (suc k) (title_parts x p params) (fixed LeftBrace ∷ (body ++ fixed RightBrace ∷ []))
      ∙ after_both (suc (stop_of ts end k x p params)) body (fixed RightBrace ∷ [])

  module _ (k : ℕ) (x : Name) (p : Pos) (params : List HeadParam) (body : Parts) (o : Open k) (first : Stand ts end k (free_part (codes "proc")))
      (title : Reads ts end (suc k) (title_parts x p params)) (brace : Stand ts end (stop_of ts end k x p params) (fixed LeftBrace))
      (close : Stand ts end (after (suc (stop_of ts end k x p params)) body) (fixed RightBrace))
      (closes : closing (signs ts) (stop_of ts end k x p params) ≡ Closed (after (suc (stop_of ts end k x p params)) body)) where
    inside : Deep ts end (suc (stop_of ts end k x p params)) (after (suc (stop_of ts end k x p params)) body)
    inside =
        deep_body ts end (stop_of ts end k x p params) (after (suc (stop_of ts end k x p params)) body) brace
        (reads_depth (suc k) (title_parts x p params) title
        ∙ ap (depth_after (parts_signs (title_parts x p params))) (ap (λ (s : Sign). open_after s (open_before (signs ts) k)) (stand_sign ts end k proc_part first) ∙ o.depth)
        ∙ title_depth x p params)
        closes

    -- each place after the first is in the title, or the `{`, or after that
    pub where_is : (Q : ℕ → Type 0) → ((j : ℕ) → suc k ≤ j → j < stop_of ts end k x p params → Q j) → Q (stop_of ts end k x p params)
        → ((j : ℕ) → 0 < open_before (signs ts) j → Q j) → (j : ℕ) → suc k ≤ j → j < suc (after (suc (stop_of ts end k x p params)) body) → Q j
    where_is Q a b c j l m = by (nat_le (stop_of ts end k x p params) j) refl
      where
        by : (t : Bool) → nat_le (stop_of ts end k x p params) j ≡ t → Q j
        by true q =
            first_or Q (stop_of ts end k x p params) j (leb-true (stop_of ts end k x p params) j q) b
            (λ g. c j (inside.above j g (omega (arith, m))))
        by false q = a j l (let f : stop_of ts end k x p params ≤ j → ⊥ = λ u. absurd (let v = up (stop_of ts end k x p params) j u in cc) in omega (arith, f))

    pub proc_open : Open (suc (after (suc (stop_of ts end k x p params)) body))
    proc_open = record {
      depth = inside.then_none;
      no_mains = λ j m. by j m (nat_le k j) refl;
      may = may_by (suc (after (suc (stop_of ts end k x p params)) body)) (ap ends_item (stand_sign ts end (after (suc (stop_of ts end k x p params)) body) (fixed RightBrace) close));
    }
      where
        by : (j : ℕ) → j < suc (after (suc (stop_of ts end k x p params)) body) → (t : Bool) → nat_le k j ≡ t → is_outer_main (signs ts) j ≡ false
        by j m true q =
            first_or (λ (i : ℕ). is_outer_main (signs ts) i ≡ false) k j (leb-true k j q)
            (no_outer k (ap no_main (stand_sign ts end k proc_part first)))
            (λ g. where_is (λ (i : ℕ). is_outer_main (signs ts) i ≡ false)
            (λ i a b. no_outer i (each_at no_main (suc k) (title_parts x p params) title (title_plain x p params) i a b))
            (no_outer (stop_of ts end k x p params) (ap no_main (stand_sign ts end (stop_of ts end k x p params) (fixed LeftBrace) brace)))
            no_outer_deep j g m)
        by j m false q = o.no_mains j (let f : k ≤ j → ⊥ = λ u. absurd (let v = up k j u in cc) in omega (arith, f))

    begins_here : begins (signs ts) k ≡ true
    begins_here =
        λ i. nat_eq (o.depth i) 0 && not (some_none k (is_outer_main (signs ts)) o.no_mains i) && (is_proc (stand_sign ts end k proc_part first i) && o.may i)

    pub proc_begins : map (procedure (signs ts)) (filter (begins (signs ts)) (places k (proc_part ∷ rest_of ts end x p params body)))
        ≡ procedure_of ts end k x p params body ∷ []
    proc_begins =
        ap (λ t. map (procedure (signs ts)) (cond t (k ∷ filter (begins (signs ts)) (places (suc k) (rest_of ts end x p params body)))
        (filter (begins (signs ts)) (places (suc k) (rest_of ts end x p params body))))) begins_here
        ∙ ap (λ (u : List ℕ). procedure (signs ts) k ∷ map (procedure (signs ts)) u)
        (filter_none (begins (signs ts)) (suc k) (rest_of ts end x p params body) (λ j l m.
        where_is (λ (i : ℕ). begins (signs ts) i ≡ false) (reads_no_begin (suc k) (title_parts x p params) title)
        (no_begin (stop_of ts end k x p params) (ap is_proc (stand_sign ts end (stop_of ts end k x p params) (fixed LeftBrace) brace)))
        no_begin_deep j l (subst (λ (i : ℕ). j < i) (after_rest k x p params body) m)))
        ∙ ap (λ (q : Procedure). q ∷ []) (procedure_here ts end k x p params body title brace closes)

  -- ---- all pieces

  abbrev pub all_parts : List Piece → Parts
  all_parts ps = flat_map piece_parts ps

  split : (k : ℕ) (a b : Parts) → map (procedure (signs ts)) (filter (begins (signs ts)) (places k (a ++ b)))
      ≡ map (procedure (signs ts)) (filter (begins (signs ts)) (places k a)) ++ map (procedure (signs ts)) (filter (begins (signs ts)) (places (after k a) b))
  split k a b =
      ap (λ (u : List ℕ). map (procedure (signs ts)) (filter (begins (signs ts)) u)) (places_both k a b)
      ∙ ap (map (procedure (signs ts))) (filter-append (begins (signs ts)) (places k a) (places (after k a) b))
      ∙ map-append (procedure (signs ts)) (filter (begins (signs ts)) (places k a)) (filter (begins (signs ts)) (places (after k a) b))

  -- procedures begin where the source has them
  pub record Walk (k : ℕ) (ps : List Piece) : Type 0 where
    pub starts : map (procedure (signs ts)) (filter (begins (signs ts)) (places k (all_parts ps))) ≡ procedures_at ts end k ps
    pub open_after : Open (after k (all_parts ps))

  pub walk : (past : List Piece) (k : ℕ) (ps : List Piece) (main : Spokens) → Open k → PiecesHere ts end k ps → fits_after past ps main ≡ true → Walk k ps
  walk past k [] main o h f = record { starts = refl; open_after = o }
  walk past k (AnItem i ∷ ps) main o h f =
      let r = walk (AnItem i ∷ past) (after k (item_parts i)) ps main (item_open i k o h.0) h.1 f in
      let none : filter (begins (signs ts)) (places k (item_parts i)) ≡ [] = filter_none (begins (signs ts)) k (item_parts i) (reads_no_begin k (item_parts i) h.0) in
      record {
        starts = split k (item_parts i) (all_parts ps) ∙ (λ j. map (procedure (signs ts)) (none j) ++ r.starts j);
        open_after = subst Open (sym (after_both k (item_parts i) (all_parts ps))) r.open_after;
      }
  walk past k (AProcedure p ∷ ps) main o h f =
      let here = h.0 in
      let g = and_parts (piece_fits past (AProcedure p)) (fits_after (AProcedure p ∷ past) ps main) f in
      let s : ℕ = stop_of ts end k p.name p.at p.params in
      let close = (right ts end (suc s) (body_of ts end p) (fixed RightBrace ∷ []) here.2.1).0.stand in
      let closes = closed_body ts end s p.body here.2 in
      let r = walk (AProcedure p ∷ past) (after k (piece_parts (AProcedure p))) ps main
      (subst Open (sym (after_rest k p.name p.at p.params (body_of ts end p)))
      (proc_open k p.name p.at p.params (body_of ts end p) o here.0 here.1 here.2.0.stand close closes)) h.1 g.1 in
      record {
        starts = split k (piece_parts (AProcedure p)) (all_parts ps)
            ∙ (λ j. proc_begins k p.name p.at p.params (body_of ts end p) o here.0 here.1 here.2.0.stand close closes j ++ r.starts j);
        open_after = subst Open (sym (after_both k (piece_parts (AProcedure p)) (all_parts ps))) r.open_after;
      }
  walk past k (Unread x p params body ∷ ps) main o h f =
      let here = h.0 in
      let g = and_parts (piece_fits past (Unread x p params body)) (fits_after (Unread x p params body ∷ past) ps main) f in
      let s : ℕ = stop_of ts end k x p params in
      let close = (lies_right ts end (suc s) (map free_part body) (fixed RightBrace ∷ []) here.2.1).0 in
      let closes = closed_free ts end s body here.2 g.0 in
      let r = walk (Unread x p params body ∷ past) (after k (piece_parts (Unread x p params body))) ps main
      (subst Open (sym (after_rest k x p params (map free_part body)))
      (proc_open k x p params (map free_part body) o here.0 here.1 here.2.0 close closes)) h.1 g.1 in
      record {
        starts = split k (piece_parts (Unread x p params body)) (all_parts ps)
            ∙ (λ j. proc_begins k x p params (map free_part body) o here.0 here.1 here.2.0 close closes j ++ r.starts j);
        open_after = subst Open (sym (after_both k (piece_parts (Unread x p params body)) (all_parts ps))) r.open_after;
      }

  -- ---- what stands outside of procedures

  abbrev within : ℕ → Procedure → Bool
  within j p = nat_le p.place j && nat_le j (closed_at ts end p.end)

  abbrev cover : List Procedure → ℕ → Bool
  cover ps j = list_any (λ (p : Procedure). nat_le p.place j && nat_le j (closed_at ts end p.end)) ps

  abbrev item_at : List Procedure → ℕ → Bool
  item_at ps j = is_item_word (at (signs ts) j) && is_called (at (signs ts) (suc j)) && not (cover ps j)

  -- the places of items
  abbrev pub item_places : ℕ → List Piece → List ℕ
  item_places k [] = []
  item_places k (AnItem i ∷ ps) = places k (item_parts i) ++ item_places (after k (item_parts i)) ps
  item_places k (AProcedure p ∷ ps) = item_places (after k (piece_parts (AProcedure p))) ps
  item_places k (Unread x p params body ∷ ps) = item_places (after k (piece_parts (Unread x p params body))) ps

  before_here : (j k : ℕ) (x : Name) (p : Pos) (params : List HeadParam) (body : Parts) → j < k → within j (procedure_of ts end k x p params body) ≡ false
  before_here j k x p params body l = ap (λ t. t && nat_le j (closed_at ts end (procedure_of ts end k x p params body).end)) (not_up k j l)

  later_than : (k : ℕ) (ps : List Piece) (j : ℕ) → j < k → cover (procedures_at ts end k ps) j ≡ false
  later_than k [] j l = refl
  later_than k (AnItem i ∷ ps) j l = let a = after_is k (item_parts i) in later_than (after k (item_parts i)) ps j (omega (arith, l, a))
  later_than k (AProcedure p ∷ ps) j l =
      let a = after_is k (piece_parts (AProcedure p)) in
      or_none (within j (procedure_of ts end k p.name p.at p.params (body_of ts end p))) (cover (procedures_at ts end (after k (piece_parts (AProcedure p))) ps) j)
      (before_here j k p.name p.at p.params (body_of ts end p) l) (later_than (after k (piece_parts (AProcedure p))) ps j (omega (arith, l, a)))
  later_than k (Unread x p params body ∷ ps) j l =
      let a = after_is k (piece_parts (Unread x p params body)) in
      or_none (within j (procedure_of ts end k x p params (map free_part body))) (cover (procedures_at ts end (after k (piece_parts (Unread x p params body))) ps) j)
      (before_here j k x p params (map free_part body) l) (later_than (after k (piece_parts (Unread x p params body))) ps j (omega (arith, l, a)))

  pub record Outer (pre : List Procedure) (k : ℕ) (ps : List Piece) : Type 0 where
    pub outer : filter (λ j. not (cover (pre ++ procedures_at ts end k ps) j)) (places k (all_parts ps)) ≡ item_places k ps
    pub named : map (λ j. bytes_at ts (suc j)) (filter (item_at (pre ++ procedures_at ts end k ps)) (places k (all_parts ps))) ≡ map item_name (items_of ps)
    pub later : (j : ℕ) → after k (all_parts ps) ≤ j → cover (pre ++ procedures_at ts end k ps) j ≡ false

  split_outer : (c : List Procedure) (k : ℕ) (a b : Parts) → filter (λ j. not (cover c j)) (places k (a ++ b))
      ≡ filter (λ j. not (cover c j)) (places k a) ++ filter (λ j. not (cover c j)) (places (after k a) b)
  split_outer c k a b =
      ap (filter (λ j. not (cover c j))) (places_both k a b) ∙ filter-append (λ j. not (cover c j)) (places k a) (places (after k a) b)

  split_named : (c : List Procedure) (k : ℕ) (a b : Parts) → map (λ j. bytes_at ts (suc j)) (filter (item_at c) (places k (a ++ b)))
      ≡ map (λ j. bytes_at ts (suc j)) (filter (item_at c) (places k a)) ++ map (λ j. bytes_at ts (suc j)) (filter (item_at c) (places (after k a) b))
  split_named c k a b =
      ap (λ (u : List ℕ). map (λ j. bytes_at ts (suc j)) (filter (item_at c) u)) (places_both k a b)
      ∙ ap (map (λ j. bytes_at ts (suc j))) (filter-append (item_at c) (places k a) (places (after k a) b))
      ∙ map-append (λ j. bytes_at ts (suc j)) (filter (item_at c) (places k a)) (filter (item_at c) (places (after k a) b))

  no_item : (c : List Procedure) (j : ℕ) → bare (at (signs ts) j) ≡ true → item_at c j ≡ false
  no_item c j h = ap (λ t. t && is_called (at (signs ts) (suc j)) && not (cover c j)) (not_true (is_item_word (at (signs ts) j)) h)

  -- of an item its first place alone stands before its name
  item_first : (c : List Procedure) (k : ℕ) (p : Part) (ps : Parts) → Reads ts end k (p ∷ ps) → is_item_word (token_sign p.token) ≡ true
      → list_all bare (parts_signs ps) ≡ true → is_called (at (signs ts) (suc k)) ≡ true → cover c k ≡ false
      → filter (item_at c) (places k (p ∷ ps)) ≡ k ∷ []
  item_first c k p ps r w b n o =
      ap (λ t. cond t (k ∷ filter (item_at c) (places (suc k) ps)) (filter (item_at c) (places (suc k) ps)))
      (λ i. (ap is_item_word (sign_at ts end k p r.0) ∙ w) i && n i && not (o i))
      ∙ ap (λ (u : List ℕ). k ∷ u) (filter_none (item_at c) (suc k) ps (λ j l m. no_item c j (each_at bare (suc k) ps r.1 b j l m)))

  item_named : (c : List Procedure) (k : ℕ) (i : Item) → Reads ts end k (item_parts i) → cover c k ≡ false
      → map (λ j. bytes_at ts (suc j)) (filter (item_at c) (places k (item_parts i))) ≡ item_name i ∷ []
  item_named c k (Input x p) r o =
      ap (map (λ j. bytes_at ts (suc j))) (item_first c k (fixed InputWord) (marked (Called x) p ∷ fixed Semicolon ∷ []) r refl refl (ap is_called (sign_at ts end (suc k) (marked (Called x) p) r.1.0)) o)
      ∙ ap (λ (y : Name). y ∷ []) r.1.0.stand.bytes
  item_named c k (Single x p size) r o =
      ap (map (λ j. bytes_at ts (suc j))) (item_first c k (fixed ObjectWord) (marked (Called x) p ∷ between_parts Colon Semicolon size) r refl refl (ap is_called (sign_at ts end (suc k) (marked (Called x) p) r.1.0)) o)
      ∙ ap (λ (y : Name). y ∷ []) r.1.0.stand.bytes
  item_named c k (Family x p count size) r o =
      ap (map (λ j. bytes_at ts (suc j))) (item_first c k (fixed ObjectsWord)
      (marked (Called x) p ∷ (between_parts LeftBracket RightBracket count ++ between_parts Colon Semicolon size)) r refl refl (ap is_called (sign_at ts end (suc k) (marked (Called x) p) r.1.0)) o)
      ∙ ap (λ (y : Name). y ∷ []) r.1.0.stand.bytes

  -- a procedure, and what comes after it
  proc_outer : (pre : List Procedure) (k : ℕ) (ps : List Piece) (x : Name) (p : Pos) (params : List HeadParam) (body : Parts)
      → ((j : ℕ) → k ≤ j → cover pre j ≡ false)
      → (((j : ℕ) → after k (free_part (codes "proc") ∷ rest_of ts end x p params body) ≤ j → cover (pre ++ procedure_of ts end k x p params body ∷ []) j ≡ false)
      → Outer (pre ++ procedure_of ts end k x p params body ∷ []) (after k (free_part (codes "proc") ∷ rest_of ts end x p params body)) ps)
      → (filter (λ j. not (cover (pre ++ procedure_of ts end k x p params body ∷ procedures_at ts end (after k (free_part (codes "proc") ∷ rest_of ts end x p params body)) ps) j))
      (places k ((free_part (codes "proc") ∷ rest_of ts end x p params body) ++ all_parts ps))
      ≡ item_places (after k (free_part (codes "proc") ∷ rest_of ts end x p params body)) ps)
      × (map (λ j. bytes_at ts (suc j)) (filter (item_at (pre ++ procedure_of ts end k x p params body
      ∷ procedures_at ts end (after k (free_part (codes "proc") ∷ rest_of ts end x p params body)) ps))
      (places k ((free_part (codes "proc") ∷ rest_of ts end x p params body) ++ all_parts ps))) ≡ map item_name (items_of ps))
      × ((j : ℕ) → after k ((free_part (codes "proc") ∷ rest_of ts end x p params body) ++ all_parts ps) ≤ j
      → cover (pre ++ procedure_of ts end k x p params body ∷ procedures_at ts end (after k (free_part (codes "proc") ∷ rest_of ts end x p params body)) ps) j ≡ false)
  proc_outer pre k ps x p params body h go =
      let a : Parts = free_part (codes "proc") ∷ rest_of ts end x p params body in
      let one : Procedure = procedure_of ts end k x p params body in
      let rest : List Procedure = procedures_at ts end (after k a) ps in
      let c : List Procedure = pre ++ one ∷ rest in
      let e : c ≡ (pre ++ one ∷ []) ++ rest = sym (append_assoc pre (one ∷ []) rest) in
      let r = go (gone pre k x p params body h) in
      let inside : (j : ℕ) → k ≤ j → j < after k a → cover c j ≡ true = λ j l m. covered pre rest k x p params body j l m in (
        split_outer c k a (all_parts ps)
            ∙ (λ i. filter_none (λ j. not (cover c j)) k a (λ j l m. ap not (inside j l m)) i
            ++ (ap (λ (d : List Procedure). filter (λ j. not (cover d j)) (places (after k a) (all_parts ps))) e ∙ r.outer) i),
        split_named c k a (all_parts ps)
            ∙ (λ i. map (λ j. bytes_at ts (suc j)) (filter_none (item_at c) k a (λ j l m. out_of c j (inside j l m)) i)
            ++ (ap (λ (d : List Procedure). map (λ j. bytes_at ts (suc j)) (filter (item_at d) (places (after k a) (all_parts ps)))) e ∙ r.named) i),
        λ j l. ap (λ (d : List Procedure). cover d j) e ∙ r.later j (subst (λ (i : ℕ). i ≤ j) (after_both k a (all_parts ps)) l),
      )
    where
      out_of : (c : List Procedure) (j : ℕ) → cover c j ≡ true → item_at c j ≡ false
      out_of c j q =
          ap (λ t. is_item_word (at (signs ts) j) && is_called (at (signs ts) (suc j)) && not t) q
          ∙ and_false (is_item_word (at (signs ts) j) && is_called (at (signs ts) (suc j)))

      gone : (pre : List Procedure) (k : ℕ) (x : Name) (p : Pos) (params : List HeadParam) (body : Parts) → ((j : ℕ) → k ≤ j → cover pre j ≡ false)
          → (j : ℕ) → after k (free_part (codes "proc") ∷ rest_of ts end x p params body) ≤ j → cover (pre ++ procedure_of ts end k x p params body ∷ []) j ≡ false
      gone pre k x p params body h j l =
          let a = after_is k (free_part (codes "proc") ∷ rest_of ts end x p params body) in
          let s = after_rest k x p params body in
          any_both (λ (y : Procedure). nat_le y.place j && nat_le j (closed_at ts end y.end)) pre (procedure_of ts end k x p params body ∷ [])
          ∙ or_none (cover pre j) (cover (procedure_of ts end k x p params body ∷ []) j) (h j (omega (arith, l, a)))
          (or_none (within j (procedure_of ts end k x p params body)) false
          (ap (λ t. nat_le k j && t) (not_up j (after (suc (stop_of ts end k x p params)) body) (omega (arith, l, s))) ∙ and_false (nat_le k j)) refl)

      covered : (pre rest : List Procedure) (k : ℕ) (x : Name) (p : Pos) (params : List HeadParam) (body : Parts) (j : ℕ) → k ≤ j
          → j < after k (free_part (codes "proc") ∷ rest_of ts end x p params body) → cover (pre ++ procedure_of ts end k x p params body ∷ rest) j ≡ true
      covered pre rest k x p params body j l m =
          let s = after_rest k x p params body in
          any_both (λ (y : Procedure). nat_le y.place j && nat_le j (closed_at ts end y.end)) pre (procedure_of ts end k x p params body ∷ rest)
          ∙ ap (λ t. cover pre j || (t || cover rest j))
          (λ i. up k j l i && up j (after (suc (stop_of ts end k x p params)) body) (omega (arith, m, s)) i)
          ∙ or_true (cover pre j)

  pub outers : (pre : List Procedure) (k : ℕ) (ps : List Piece) → ((j : ℕ) → k ≤ j → cover pre j ≡ false) → PiecesHere ts end k ps → Outer pre k ps
  outers pre k [] h g = record { outer = refl; named = refl; later = λ j l. ap (λ (d : List Procedure). cover d j) (append-nil pre) ∙ h j l }
  outers pre k (AnItem i ∷ ps) h g =
      let n : ℕ = after k (item_parts i) in
      let a = after_is k (item_parts i) in
      let c : List Procedure = pre ++ procedures_at ts end n ps in
      let r = outers pre n ps (λ j l. h j (omega (arith, l, a))) g.1 in
      let free : (j : ℕ) → k ≤ j → j < n → cover c j ≡ false =
      λ j l m. any_both (λ (y : Procedure). nat_le y.place j && nat_le j (closed_at ts end y.end)) pre (procedures_at ts end n ps)
      ∙ or_none (cover pre j) (cover (procedures_at ts end n ps) j) (h j l) (later_than n ps j m) in
      record {
        outer = split_outer c k (item_parts i) (all_parts ps)
            ∙ (λ y. filter_all (λ j. not (cover c j)) k (item_parts i) (λ j l m. ap not (free j l m)) y ++ r.outer y);
        named = split_named c k (item_parts i) (all_parts ps)
            ∙ (λ y. item_named c k i g.0 (free k (omega arith) (item_some i k)) y ++ r.named y);
        later = λ j l. r.later j (subst (λ (y : ℕ). y ≤ j) (after_both k (item_parts i) (all_parts ps)) l);
      }
    where
      item_some : (i : Item) (k : ℕ) → k < after k (item_parts i)
      item_some (Input x p) k = omega arith
      item_some (Single x p size) k = omega arith
      item_some (Family x p count size) k = omega arith
  outers pre k (AProcedure p ∷ ps) h g =
      let q = proc_outer pre k ps p.name p.at p.params (body_of ts end p) h
      (λ f. outers (pre ++ procedure_of ts end k p.name p.at p.params (body_of ts end p) ∷ []) (after k (piece_parts (AProcedure p))) ps f g.1) in
      record { outer = q.0; named = q.1; later = q.2 }
  outers pre k (Unread x p params body ∷ ps) h g =
      let q = proc_outer pre k ps x p params (map free_part body) h
      (λ f. outers (pre ++ procedure_of ts end k x p params (map free_part body) ∷ []) (after k (piece_parts (Unread x p params body))) ps f g.1) in
      record { outer = q.0; named = q.1; later = q.2 }

  -- ---- the whole text

  module _ (q : SourceText) (many : length ts ≡ length (source_parts q)) (here : PiecesHere ts end 0 q.pieces)
      (main_here : Reads ts end (after 0 (flat_map piece_parts q.pieces)) (main_parts q.main)) (fits : fits_after [] q.pieces q.main ≡ true) where
    all_places : from ts end 0 (length ts) ≡ places 0 (all_parts q.pieces ++ main_parts q.main)
    all_places = ap (from ts end 0) many ∙ sym (places_from ts end 0 (source_parts q))

    pub procedures_are : procedures ts end ≡ procedures_at ts end 0 q.pieces
    procedures_are =
        ap (map (procedure (signs ts))) (those_are (length ts) (begins (signs ts)) ∙ ap (filter (begins (signs ts))) all_places)
        ∙ split 0 (all_parts q.pieces) (main_parts q.main)
        ∙ (λ i. (walk [] 0 q.pieces q.main opened here fits).starts i
        ++ map (procedure (signs ts)) (filter_none (begins (signs ts)) (after 0 (all_parts q.pieces)) (main_parts q.main)
        (reads_no_begin (after 0 (all_parts q.pieces)) (main_parts q.main) main_here) i))
        ∙ append-nil (procedures_at ts end 0 q.pieces)

    known : Outer [] 0 q.pieces
    known = outers [] 0 q.pieces (λ j l. refl) here

    pub outer_are : those (length ts) (λ j. not (in_procedure ts end j))
        ≡ item_places 0 q.pieces ++ places (after 0 (flat_map piece_parts q.pieces)) (main_parts q.main)
    outer_are =
        those_are (length ts) (λ j. not (in_procedure ts end j)) ∙ ap (filter (λ j. not (in_procedure ts end j))) all_places
        ∙ ap (λ (c : List Procedure). filter (λ j. not (cover c j)) (places 0 (all_parts q.pieces ++ main_parts q.main))) procedures_are
        ∙ split_outer (procedures_at ts end 0 q.pieces) 0 (all_parts q.pieces) (main_parts q.main)
        ∙ (λ i. known.outer i ++ filter_all (λ j. not (cover (procedures_at ts end 0 q.pieces) j)) (after 0 (all_parts q.pieces)) (main_parts q.main)
        (λ j l m. ap not (known.later j l)) i)

    pub items_are : items ts end ≡ map item_name (items_of q.pieces)
    items_are =
        ap (map (λ j. bytes_at ts (suc j))) (those_are (length ts) (before_item ts end) ∙ ap (filter (before_item ts end)) all_places)
        ∙ ap (λ (c : List Procedure). map (λ j. bytes_at ts (suc j)) (filter (item_at c) (places 0 (all_parts q.pieces ++ main_parts q.main)))) procedures_are
        ∙ split_named (procedures_at ts end 0 q.pieces) 0 (all_parts q.pieces) (main_parts q.main)
        ∙ (λ i. known.named i ++ map (λ j. bytes_at ts (suc j)) (filter_none (item_at (procedures_at ts end 0 q.pieces)) (after 0 (all_parts q.pieces))
        (main_parts q.main) (λ j l m. no_item (procedures_at ts end 0 q.pieces) j
        (each_at bare (after 0 (all_parts q.pieces)) (main_parts q.main) main_here (even_braced (block_of q.main) (even_spokens q.main)).level.no_items j l m)) i))
        ∙ append-nil (map item_name (items_of q.pieces))

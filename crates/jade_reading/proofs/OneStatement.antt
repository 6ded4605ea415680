-- The parts of a statement have one image.
use Rattle.std.proofs.Common.{◌≡◌, ℕ, ◌<◌, ◌≤◌, List, [], ◌∷◌, ◌++◌, Option, Some, None, refl, ap, sym, ◌∙◌, subst, map, arith, append_assoc, false, eqb}
use Rattle.std.specs.List.{flat_map}
use Rattle.jade_base.specs.declared.place.Pos.{Pos}
use Rattle.jade_syntax.specs.declared.tree.Expr.{Expr}
use Rattle.jade_syntax.specs.declared.tree.CellRef.{CellRef, out-CellRef}
use Rattle.jade_syntax.specs.declared.tree.Named.{Named}
use Rattle.jade_syntax.specs.declared.tree.ObjectRef.{ObjectRef}
use Rattle.jade_syntax.specs.declared.tree.ValueKind.{ValueKind}
use Rattle.jade_syntax.specs.declared.tree.ValueKind.TheVariants.{Int, Bool as BoolKind}
use Rattle.jade_syntax.specs.declared.tree.DeclareWord.{DeclareWord}
use Rattle.jade_syntax.specs.declared.tree.DeclareWord.TheVariants.{Rd, Wr, RdWr, DfRd, DfWr, DfRdWr, Cm, NoRd, NoWr, NoRdWr}
use Rattle.jade_syntax.specs.declared.tree.Statement.{Statement, out-Statement, fold_out-Statement, map-Statement, fold-roll-Statement, ind-Statement}
use Rattle.jade_syntax.specs.declared.tree.Statement.TheOpen.{Statement-F}
use Rattle.jade_syntax.specs.Placed as syntax
use Rattle.jade_syntax.specs.Placed.{Term, Mention, Phrase, Phrases}
use Rattle.jade_syntax.specs.Forms as general
use Rattle.jade_syntax.specs.PlacedImage as placed
use Rattle.jade_syntax.specs.PlacedImage.{term, member, object, mentioned, phrase, phrases}
use Rattle.jade_parser.specs.declared.Sign.{Sign}
use Rattle.jade_parser.specs.declared.Sign.TheVariants.{LeftBracket, RightBracket, LeftParen, RightParen}
use Rattle.jade_parser.specs.declared.Sign.TheVariants.{RightBrace, Becomes, Semicolon, Comma, DotDot, IfWord}
use Rattle.jade_parser.specs.declared.Sign.TheVariants.{ElseWord, ForWord, IntWord, BoolWord, WithonlyWord}
use Rattle.jade_parser.specs.declared.Sign.TheVariants.{WithWord, DoWord, ContWord, RdWord, WrWord, RdWrWord}
use Rattle.jade_parser.specs.declared.Sign.TheVariants.{DfRdWord, DfWrWord, DfRdWrWord, CmWord, NoRdWord, NoWrWord}
use Rattle.jade_parser.specs.declared.Sign.TheVariants.{NoRdWrWord}
use Rattle.jade_parser.specs.Spelled.{Token, Fixed, Called, Counted, Unknown, Parts, fixed, bracketed, outer}
use Rattle.jade_parser.specs.Statements.{kind_word, declare_word, outer_index, object_parts, target_parts}
use Rattle.jade_parser.specs.Statements.{braced, name_parts, more_names, else_parts, at_statement}
use Rattle.jade_parser.specs.Statements.{statement_parts, block_parts}
use Rattle.jade_parser.specs.steps.Machine.{sign_rank}
use Rattle.jade_reading.specs.Unplaced.{moved, moved_object, moved_mention, moved_phrase, moved_phrases}
use Rattle.jade_reading.proofs.Likeness.{Like, Same, regroup, regroup_left, regroup_right, like_sym}
use Rattle.jade_reading.proofs.OneTerm.{apart, called_is, outer_same, target_same}

-- what a token begins, where a statement may stand: each form, none, the end of the block, or the other branch
abbrev pub begins : Token → ℕ
begins (Fixed IntWord) = 0
begins (Fixed BoolWord) = 0
begins (Fixed IfWord) = 1
begins (Fixed ForWord) = 2
begins (Fixed WithonlyWord) = 3
begins (Fixed WithWord) = 4
begins (Fixed RdWord) = 5
begins (Fixed WrWord) = 5
begins (Fixed RdWrWord) = 5
begins (Fixed DfRdWord) = 5
begins (Fixed DfWrWord) = 5
begins (Fixed DfRdWrWord) = 5
begins (Fixed CmWord) = 5
begins (Fixed NoRdWord) = 5
begins (Fixed NoWrWord) = 5
begins (Fixed NoRdWrWord) = 5
begins (Called n) = 6
begins (Fixed RightBrace) = 8
begins (Fixed ElseWord) = 9
begins (Fixed s) = 7
begins (Counted v) = 7
begins Unknown = 7

abbrev pub beginning : Parts → ℕ
beginning [] = 7
beginning (p ∷ ps) = begins p.token

kind_begins : (k : ValueKind) → begins (kind_word k) ≡ 0
kind_begins Int = refl
kind_begins BoolKind = refl

word_begins : (w : DeclareWord) → begins (declare_word w) ≡ 5
word_begins Rd = refl
word_begins Wr = refl
word_begins RdWr = refl
word_begins DfRd = refl
word_begins DfWr = refl
word_begins DfRdWr = refl
word_begins Cm = refl
word_begins NoRd = refl
word_begins NoWr = refl
word_begins NoRdWr = refl

kind_is : (k l : ValueKind) → kind_word k ≡ kind_word l → k ≡ l
kind_is Int Int e = refl
kind_is Int BoolKind e = absurd (cc)
kind_is BoolKind Int e = absurd (cc)
kind_is BoolKind BoolKind e = refl

abbrev word_of : Token → DeclareWord
word_of (Fixed WrWord) = Wr
word_of (Fixed RdWrWord) = RdWr
word_of (Fixed DfRdWord) = DfRd
word_of (Fixed DfWrWord) = DfWr
word_of (Fixed DfRdWrWord) = DfRdWr
word_of (Fixed CmWord) = Cm
word_of (Fixed NoRdWord) = NoRd
word_of (Fixed NoWrWord) = NoWr
word_of (Fixed NoRdWrWord) = NoRdWr
word_of t = Rd

word_back : (w : DeclareWord) → word_of (declare_word w) ≡ w
word_back Rd = refl
word_back Wr = refl
word_back RdWr = refl
word_back DfRd = refl
word_back DfWr = refl
word_back DfRdWr = refl
word_back Cm = refl
word_back NoRd = refl
word_back NoWr = refl
word_back NoRdWr = refl

word_is : (w v : DeclareWord) → declare_word w ≡ declare_word v → w ≡ v
word_is w v e = sym (word_back w) ∙ ap word_of e ∙ word_back v

-- `to` gives another place for each
module _ (to : Pos → Pos) where
  beginnings : (ps qs : Parts) → Like to ps qs → beginning ps ≡ beginning qs
  beginnings [] [] h = refl
  beginnings [] (q ∷ qs) h = absurd h
  beginnings (p ∷ ps) [] h = absurd h
  beginnings (p ∷ ps) (q ∷ qs) h = ap begins h.0

  -- ---- the pieces of a statement

  -- an expression and the sign after it
  ended_same : (k : Sign) → 5 < sign_rank k → (x y : Expr) (r s : Parts) → Like to ((outer x ++ fixed k ∷ []) ++ r) ((outer y ++ fixed k ∷ []) ++ s)
      → Same to (moved to) (term x) (term y) r s
  ended_same k lt x y r s h =
      let w = outer_same to x y (fixed k ∷ r) (fixed k ∷ s) lt lt (regroup to (outer x) (fixed k ∷ []) r (outer y) (fixed k ∷ []) s h) in
      record { image = w.image; rest = w.rest.2 }

  value_same : (x y : Expr) (r s : Parts) → Like to ((outer x ++ fixed Semicolon ∷ []) ++ r) ((outer y ++ fixed Semicolon ∷ []) ++ s)
      → Same to (moved to) (term x) (term y) r s
  value_same = ended_same Semicolon (omega arith)

  abbrev moved_member : Option Term → Option Term
  moved_member None = None
  moved_member (Some e) = Some (moved to e)

  object_moved : (n : List ℕ) (p : Pos) (m : Option Term) → moved_object to (placed.named_object n p m) ≡ placed.named_object n (to p) (moved_member m)
  object_moved n p None = refl
  object_moved n p (Some e) = refl

  member_same : (m k : Option Expr) (r s : Parts) → Like to ((outer_index m ++ fixed RightParen ∷ []) ++ r) ((outer_index k ++ fixed RightParen ∷ []) ++ s)
      → Same to moved_member (member m) (member k) r s
  member_same None None r s h = record { image = refl; rest = h.2 }
  member_same None (Some y) r s h = let e : Fixed RightParen ≡ Fixed LeftBracket = h.0 in absurd (cc)
  member_same (Some x) None r s h = let e : Fixed LeftBracket ≡ Fixed RightParen = h.0 in absurd (cc)
  member_same (Some x) (Some y) r s h =
      let w = ended_same RightBracket (omega arith) x y (fixed RightParen ∷ r) (fixed RightParen ∷ s)
      (regroup to (outer x ++ fixed RightBracket ∷ []) (fixed RightParen ∷ []) r (outer y ++ fixed RightBracket ∷ []) (fixed RightParen ∷ []) s h.2) in
      record { image = ap Some w.image; rest = w.rest.2 }

  object_same : (o u : ObjectRef) (r s : Parts) → Like to ((object_parts o ++ fixed RightParen ∷ []) ++ r) ((object_parts u ++ fixed RightParen ∷ []) ++ s)
      → Same to (moved_object to) (object o) (object u) r s
  object_same o u r s h =
      let w = member_same o.member u.member r s h.2 in
      record {
        image = object_moved o.name o.pos (member o.member) ∙ (λ i. placed.named_object (called_is o.name u.name h.0 i) (h.1 i) (w.image i))
            ∙ sym (object_moved u.name u.pos (member u.member));
        rest = w.rest;
      }

  abbrev mention_at : (n : List ℕ) (p : Pos) → Mention
  mention_at n p = record { name = n; at = p }

  more_same : (ns ms : List Named) (r s : Parts) → Like to (more_names ns ++ (fixed RightParen ∷ r)) (more_names ms ++ (fixed RightParen ∷ s))
      → Same to (map (moved_mention to)) (map mentioned ns) (map mentioned ms) r s
  more_same [] [] r s h = record { image = refl; rest = h.2 }
  more_same [] (m ∷ ms) r s h = let e : Fixed RightParen ≡ Fixed Comma = h.0 in absurd (cc)
  more_same (n ∷ ns) [] r s h = let e : Fixed Comma ≡ Fixed RightParen = h.0 in absurd (cc)
  more_same (n ∷ ns) (m ∷ ms) r s h =
      let w = more_same ns ms r s h.2.2 in
      record { image = λ i. mention_at (called_is n.name m.name h.2.0 i) (h.2.1 i) ∷ w.image i; rest = w.rest }

  names_same : (ns ms : List Named) (r s : Parts) → Like to (name_parts ns ++ (fixed RightParen ∷ r)) (name_parts ms ++ (fixed RightParen ∷ s))
      → Same to (map (moved_mention to)) (map mentioned ns) (map mentioned ms) r s
  names_same [] [] r s h = record { image = refl; rest = h.2 }
  names_same [] (m ∷ ms) r s h = let e : Fixed RightParen ≡ Called m.name = h.0 in absurd (cc)
  names_same (n ∷ ns) [] r s h = let e : Called n.name ≡ Fixed RightParen = h.0 in absurd (cc)
  names_same (n ∷ ns) (m ∷ ms) r s h =
      let w = more_same ns ms r s h.2 in
      record { image = λ i. mention_at (called_is n.name m.name h.0 i) (h.1 i) ∷ w.image i; rest = w.rest }

  -- ---- statements

  -- no other branch comes next
  abbrev pub NoElse : Parts → Type 0
  NoElse ps = beginning ps < 9

  -- parts of a statement have one image
  pub record Stated (ps : Parts) (t : Phrase) : Type 0 where
    pub by : (z : Statement) (r s : Parts) → NoElse r → NoElse s → Like to (ps ++ r) (statement_parts z ++ s) → Same to (moved_phrase to) t (phrase z) r s

  statement_low : (z : Statement) (r : Parts) → beginning (statement_parts z ++ r) ≤ 6
  statement_low z r = subst (λ (l : Parts). beginning (l ++ r) ≤ 6) (sym (fold_out-Statement Parts at_statement z)) (low (out-Statement z))
    where
      low : (y : Statement-F Statement) → beginning (at_statement (map-Statement Statement Parts statement_parts y) ++ r) ≤ 6
      low (Statement-F.Local k n p x) = omega (arith, kind_begins k)
      low (Statement-F.Assign n p x) = omega arith
      low (Statement-F.Store t x) = omega arith
      low (Statement-F.If x a o) = omega arith
      low (Statement-F.For n p l h b) = omega arith
      low (Statement-F.Withonly p ss ns b) = omega arith
      low (Statement-F.With p ss) = omega arith
      low (Statement-F.Declare v p o) = omega (arith, word_begins v)

  -- the statements of a block
  abbrev run : List Statement → Parts
  run xs = flat_map (λ t. t) (map statement_parts xs)

  run_goes : (xs : List Statement) (r : Parts) → NoElse (run xs ++ (fixed RightBrace ∷ r))
  run_goes [] r = omega arith
  run_goes (x ∷ xs) r = let k = statement_low x (run xs ++ (fixed RightBrace ∷ r)) in
      subst (λ (l : Parts). beginning l < 9) (sym (append_assoc (statement_parts x) (run xs) (fixed RightBrace ∷ r))) (omega (arith, k))

  no_end : (x : Statement) (r s : Parts) → Like to (fixed RightBrace ∷ r) (statement_parts x ++ s) → ⊥
  no_end x r s h = let k : 8 ≡ beginning (statement_parts x ++ s) = beginnings (fixed RightBrace ∷ r) (statement_parts x ++ s) h in let l =
      statement_low x s in omega (arith, k, l)

  no_else : (r s : Parts) → NoElse r → Like to r (fixed ElseWord ∷ s) → ⊥
  no_else r s f h = let k : beginning r ≡ 9 = beginnings r (fixed ElseWord ∷ s) h in omega (arith, k, f)

  module _ {S : Type 0} (val : S → Statement) (ok : (x : S) → Stated (statement_parts (val x)) (phrase (val x))) where
    run_same : (xs : List S) (ys : List Statement) (r s : Parts) → Like to (run (map val xs) ++ (fixed RightBrace ∷ r)) (run ys ++ (fixed RightBrace ∷ s))
        → Same to (moved_phrases to) (phrases (map phrase (map val xs))) (phrases (map phrase ys)) r s
    run_same [] [] r s h = record { image = refl; rest = h.2 }
    run_same [] (y ∷ ys) r s h = absurd
        (no_end y r (run ys ++ (fixed RightBrace ∷ s)) (regroup_right to (fixed RightBrace ∷ r) (statement_parts y) (run ys) (fixed RightBrace ∷ s) h))
    run_same (x ∷ xs) [] r s h =
        absurd (no_end (val x) s (run (map val xs) ++ (fixed RightBrace ∷ r))
        (like_sym to (statement_parts (val x) ++ (run (map val xs) ++ (fixed RightBrace ∷ r))) (fixed RightBrace ∷ s)
        (regroup_left to (statement_parts (val x)) (run (map val xs)) (fixed RightBrace ∷ r) (fixed RightBrace ∷ s) h)))
    run_same (x ∷ xs) (y ∷ ys) r s h =
        let k = (ok x).by y (run (map val xs) ++ (fixed RightBrace ∷ r)) (run ys ++ (fixed RightBrace ∷ s)) (run_goes (map val xs) r) (run_goes ys s)
        (regroup to (statement_parts (val x)) (run (map val xs)) (fixed RightBrace ∷ r) (statement_parts y) (run ys) (fixed RightBrace ∷ s) h) in
        let w = run_same xs ys r s k.rest in
        record { image = λ i. syntax.Then (k.image i) (w.image i); rest = w.rest }

    abbrev block : List S → Parts
    block xs = braced (map statement_parts (map val xs))

    abbrev block_two : List Statement → Parts
    block_two ys = braced (map statement_parts ys)

    pub block_same : (xs : List S) (ys : List Statement) (r s : Parts) → Like to (block xs ++ r) (block_two ys ++ s)
        → Same to (moved_phrases to) (phrases (map phrase (map val xs))) (phrases (map phrase ys)) r s
    block_same xs ys r s h = run_same xs ys r s (regroup to (run (map val xs)) (fixed RightBrace ∷ []) r (run ys) (fixed RightBrace ∷ []) s h.2)

    abbrev spelt : Statement-F S → Parts
    spelt y = at_statement (map-Statement Statement Parts statement_parts (map-Statement S Statement val y))

    abbrev spelt_two : Statement-F Statement → Parts
    spelt_two z = at_statement (map-Statement Statement Parts statement_parts z)

    abbrev shown : Statement-F S → Phrase
    shown y = (general.at_statement placed.forms placed.statement_forms) (map-Statement Statement Phrase phrase (map-Statement S Statement val y))

    abbrev shown_two : Statement-F Statement → Phrase
    shown_two z = (general.at_statement placed.forms placed.statement_forms) (map-Statement Statement Phrase phrase z)

    -- an expression and a block
    headed_same : (x y : Expr) (xs : List S) (ys : List Statement) (r s : Parts) → Like to (outer x ++ (block xs ++ r)) (outer y ++ (block_two ys ++ s))
        → Same to {T = Term × Phrases} (λ p. (moved to p.0, moved_phrases to p.1)) (term x, phrases (map phrase (map val xs)))
        (term y, phrases (map phrase ys)) r s
    headed_same x y xs ys r s h =
        let k = outer_same to x y (block xs ++ r) (block_two ys ++ s) (omega arith) (omega arith) h in
        let w = block_same xs ys r s k.rest in
        record { image = λ i. (k.image i, w.image i); rest = w.rest }

    abbrev alternative : Option (List S) → Option (List Parts)
    alternative None = None
    alternative (Some b) = Some (map statement_parts (map val b))

    abbrev alternative_two : Option (List Statement) → Option (List Parts)
    alternative_two None = None
    alternative_two (Some b) = Some (map statement_parts b)

    abbrev branch : Option (List S) → Option (List Phrase)
    branch None = None
    branch (Some b) = Some (map phrase (map val b))

    abbrev branch_two : Option (List Statement) → Option (List Phrase)
    branch_two None = None
    branch_two (Some b) = Some (map phrase b)

    if_same : (x : Expr) (xs : List S) (o : Option (List S)) (y : Expr) (ys : List Statement) (u : Option (List Statement)) (r s : Parts) → NoElse r
        → NoElse s
        → Like to (((outer x ++ block xs) ++ else_parts (alternative o)) ++ r) (((outer y ++ block_two ys) ++ else_parts (alternative_two u)) ++ s)
        → Same to (moved_phrase to) (placed.branched (term x) (map phrase (map val xs)) (branch o))
        (placed.branched (term y) (map phrase ys) (branch_two u)) r s
    if_same x xs o y ys u r s f g h = of o u (headed_same x y xs ys (else_parts (alternative o) ++ r) (else_parts (alternative_two u) ++ s)
        (regroup to (outer x) (block xs) (else_parts (alternative o) ++ r) (outer y) (block_two ys) (else_parts (alternative_two u) ++ s)
        (regroup to (outer x ++ block xs) (else_parts (alternative o)) r (outer y ++ block_two ys) (else_parts (alternative_two u)) s h)))
      where
        of : (o : Option (List S)) (u : Option (List Statement))
            → Same to {T = Term × Phrases} (λ p. (moved to p.0, moved_phrases to p.1)) (term x, phrases (map phrase (map val xs)))
            (term y, phrases (map phrase ys)) (else_parts (alternative o) ++ r) (else_parts (alternative_two u) ++ s)
            → Same to (moved_phrase to) (placed.branched (term x) (map phrase (map val xs)) (branch o))
            (placed.branched (term y) (map phrase ys) (branch_two u)) r s
        of None None k = record { image = λ i. syntax.If (k.image i).0 (k.image i).1; rest = k.rest }
        of None (Some b) k = absurd (no_else r (block_two b ++ s) f k.rest)
        of (Some a) None k = absurd (no_else s (block a ++ r) g (like_sym to (fixed ElseWord ∷ (block a ++ r)) s k.rest))
        of (Some a) (Some b) k =
            let w = block_same a b r s k.rest.2 in
            record { image = λ i. syntax.IfElse (k.image i).0 (k.image i).1 (w.image i); rest = w.rest }

    for_same : (n : List ℕ) (p : Pos) (l h : Expr) (xs : List S) (m : List ℕ) (q : Pos) (a b : Expr) (ys : List Statement) (r s : Parts)
        → Like to (spelt (Statement-F.For n p l h xs) ++ r) (spelt_two (Statement-F.For m q a b ys) ++ s)
        → Same to (moved_phrase to) (shown (Statement-F.For n p l h xs)) (shown_two (Statement-F.For m q a b ys)) r s
    for_same n p l h xs m q a b ys r s k =
        let c = regroup to ((outer l ++ fixed DotDot ∷ []) ++ outer h) (block xs) r ((outer a ++ fixed DotDot ∷ []) ++ outer b) (block_two ys) s k.2.2.2 in
        let d = regroup to (outer l ++ fixed DotDot ∷ []) (outer h) (block xs ++ r) (outer a ++ fixed DotDot ∷ []) (outer b) (block_two ys ++ s) c in
        let low = ended_same DotDot (omega arith) l a (outer h ++ (block xs ++ r)) (outer b ++ (block_two ys ++ s)) d in
        let w = headed_same h b xs ys r s low.rest in
        record { image = λ i. syntax.For (called_is n m k.2.0 i) (k.2.1 i) (low.image i) (w.image i).0 (w.image i).1; rest = w.rest }

    withonly_same : (p : Pos) (ss : List S) (ns : List Named) (xs : List S) (q : Pos) (us : List Statement) (ms : List Named) (ys : List Statement)
        (r s : Parts)
        → Like to (spelt (Statement-F.Withonly p ss ns xs) ++ r) (spelt_two (Statement-F.Withonly q us ms ys) ++ s)
        → Same to (moved_phrase to) (shown (Statement-F.Withonly p ss ns xs)) (shown_two (Statement-F.Withonly q us ms ys)) r s
    withonly_same p ss ns xs q us ms ys r s k =
        let do_one : Parts = block ss ++ fixed DoWord ∷ [] in let do_two : Parts = block_two us ++ fixed DoWord ∷ [] in
        let open_one : Parts = do_one ++ fixed LeftParen ∷ [] in let open_two : Parts = do_two ++ fixed LeftParen ∷ [] in
        let body : Parts = block xs ++ r in let body_two : Parts = block_two ys ++ s in
        let rest : Parts = name_parts ns ++ (fixed RightParen ∷ body) in let rest_two : Parts = name_parts ms ++ (fixed RightParen ∷ body_two) in
        let a = regroup to ((open_one ++ name_parts ns) ++ fixed RightParen ∷ []) (block xs) r ((open_two ++ name_parts ms) ++ fixed RightParen ∷ [])
        (block_two ys) s k.2 in
        let b = regroup to (open_one ++ name_parts ns) (fixed RightParen ∷ []) body (open_two ++ name_parts ms) (fixed RightParen ∷ []) body_two a in
        let c = regroup to open_one (name_parts ns) (fixed RightParen ∷ body) open_two (name_parts ms) (fixed RightParen ∷ body_two) b in
        let d = regroup to do_one (fixed LeftParen ∷ []) rest do_two (fixed LeftParen ∷ []) rest_two c in
        let e = regroup to (block ss) (fixed DoWord ∷ []) (fixed LeftParen ∷ rest) (block_two us) (fixed DoWord ∷ []) (fixed LeftParen ∷ rest_two) d in
        let section = block_same ss us (fixed DoWord ∷ fixed LeftParen ∷ rest) (fixed DoWord ∷ fixed LeftParen ∷ rest_two) e in
        let names = names_same ns ms body body_two section.rest.2.2 in
        let w = block_same xs ys r s names.rest in
        record { image = λ i. syntax.Withonly (k.1 i) (section.image i) (names.image i) (w.image i); rest = w.rest }

    with_same : (p : Pos) (ss : List S) (q : Pos) (us : List Statement) (r s : Parts)
        → Like to (spelt (Statement-F.With p ss) ++ r) (spelt_two (Statement-F.With q us) ++ s)
        → Same to (moved_phrase to) (shown (Statement-F.With p ss)) (shown_two (Statement-F.With q us)) r s
    with_same p ss q us r s k =
        let a = regroup to (block ss ++ fixed ContWord ∷ []) (fixed Semicolon ∷ []) r (block_two us ++ fixed ContWord ∷ []) (fixed Semicolon ∷ []) s k.2 in
        let b = regroup to (block ss) (fixed ContWord ∷ []) (fixed Semicolon ∷ r) (block_two us) (fixed ContWord ∷ []) (fixed Semicolon ∷ s) a in
        let w = block_same ss us (fixed ContWord ∷ fixed Semicolon ∷ r) (fixed ContWord ∷ fixed Semicolon ∷ s) b in
        record { image = λ i. syntax.With (k.1 i) (w.image i); rest = w.rest.2.2 }

    store_is : (t : CellRef) (x : Expr) (u : CellRef) (y : Expr) (r s : Parts)
        → Like to (spelt (Statement-F.Store t x) ++ r) (spelt_two (Statement-F.Store u y) ++ s)
        → Same to (moved_phrase to) (shown (Statement-F.Store t x)) (shown_two (Statement-F.Store u y)) r s
    store_is t x u y r s k =
        let a = regroup to ((target_parts t ++ fixed Becomes ∷ []) ++ outer x) (fixed Semicolon ∷ []) r ((target_parts u ++ fixed Becomes ∷ []) ++ outer y)
        (fixed Semicolon ∷ []) s k in
        let b = regroup to (target_parts t ++ fixed Becomes ∷ []) (outer x) (fixed Semicolon ∷ r) (target_parts u ++ fixed Becomes ∷ []) (outer y)
        (fixed Semicolon ∷ s) a in
        let c = regroup to (target_parts t) (fixed Becomes ∷ []) (outer x ++ (fixed Semicolon ∷ r)) (target_parts u) (fixed Becomes ∷ [])
        (outer y ++ (fixed Semicolon ∷ s)) b in
        let cell = target_same to t u (fixed Becomes ∷ (outer x ++ (fixed Semicolon ∷ r))) (fixed Becomes ∷ (outer y ++ (fixed Semicolon ∷ s)))
        (omega arith) (omega arith) c in
        let w = outer_same to x y (fixed Semicolon ∷ r) (fixed Semicolon ∷ s) (omega arith) (omega arith) cell.rest.2 in
        record { image = λ i. syntax.Store (cell.image i).place (cell.image i).cell (w.image i); rest = w.rest.2 }

    declare_same : (v : DeclareWord) (p : Pos) (o : ObjectRef) (w : DeclareWord) (q : Pos) (u : ObjectRef) (r s : Parts)
        → Like to (spelt (Statement-F.Declare v p o) ++ r) (spelt_two (Statement-F.Declare w q u) ++ s)
        → Same to (moved_phrase to) (shown (Statement-F.Declare v p o)) (shown_two (Statement-F.Declare w q u)) r s
    declare_same v p o w q u r s k =
        let a = regroup to (object_parts o ++ fixed RightParen ∷ []) (fixed Semicolon ∷ []) r (object_parts u ++ fixed RightParen ∷ [])
        (fixed Semicolon ∷ []) s k.2.2 in
        let b = object_same o u (fixed Semicolon ∷ r) (fixed Semicolon ∷ s) a in
        record { image = λ i. syntax.Declare (word_is v w k.0 i) (k.1 i) (b.image i); rest = b.rest.2 }

    -- a store is no assignment
    not_becomes : (o : Option Expr) (c v : Parts) (t : Parts) (r : Parts)
        → Like to (fixed Becomes ∷ r) (((((outer_index o ++ bracketed c) ++ fixed Becomes ∷ []) ++ v) ++ fixed Semicolon ∷ []) ++ t) → ⊥
    not_becomes None c v t r h = let e : Fixed Becomes ≡ Fixed LeftBracket = h.0 in absurd (cc)
    not_becomes (Some x) c v t r h = let e : Fixed Becomes ≡ Fixed LeftBracket = h.0 in absurd (cc)

    abbrev form : {X : Type 0} → Statement-F X → ℕ
    form (Statement-F.Local k n p x) = 0
    form (Statement-F.If x a o) = 1
    form (Statement-F.For n p l h b) = 2
    form (Statement-F.Withonly p ss ns b) = 3
    form (Statement-F.With p ss) = 4
    form (Statement-F.Declare v p o) = 5
    form (Statement-F.Assign n p x) = 6
    form (Statement-F.Store t x) = 6

    forms : (y : Statement-F S) (r : Parts) → beginning (spelt y ++ r) ≡ form y
    forms (Statement-F.Local k n p x) r = kind_begins k
    forms (Statement-F.If x a o) r = refl
    forms (Statement-F.For n p l h b) r = refl
    forms (Statement-F.Withonly p ss ns b) r = refl
    forms (Statement-F.With p ss) r = refl
    forms (Statement-F.Declare v p o) r = word_begins v
    forms (Statement-F.Assign n p x) r = refl
    forms (Statement-F.Store t x) r = refl

    forms_two : (z : Statement-F Statement) (s : Parts) → beginning (spelt_two z ++ s) ≡ form z
    forms_two (Statement-F.Local k n p x) s = kind_begins k
    forms_two (Statement-F.If x a o) s = refl
    forms_two (Statement-F.For n p l h b) s = refl
    forms_two (Statement-F.Withonly p ss ns b) s = refl
    forms_two (Statement-F.With p ss) s = refl
    forms_two (Statement-F.Declare v p o) s = word_begins v
    forms_two (Statement-F.Assign n p x) s = refl
    forms_two (Statement-F.Store t x) s = refl

    -- statements of two forms begin otherwise
    other : (y : Statement-F S) (z : Statement-F Statement) (r s : Parts) → Like to (spelt y ++ r) (spelt_two z ++ s) → eqb (form y) (form z) ≡ false → ⊥
    other y z r s k = apart (form y) (form z) (sym (forms y r) ∙ beginnings (spelt y ++ r) (spelt_two z ++ s) k ∙ forms_two z s)

    one_local : (k : ValueKind) (n : List ℕ) (p : Pos) (x : Expr) (z : Statement-F Statement) (r s : Parts) → NoElse r → NoElse s
        → Like to (spelt (Statement-F.Local k n p x) ++ r) (spelt_two z ++ s)
        → Same to (moved_phrase to) (shown (Statement-F.Local k n p x)) (shown_two z) r s
    one_local k n p x (Statement-F.Local j m q y) r s fr fs c = let d = value_same x y r s c.2.2.2 in
        record { image = λ i. syntax.Local (kind_is k j c.0 i) (called_is n m c.2.0 i) (c.2.1 i) (d.image i); rest = d.rest }
    one_local k n p x (Statement-F.Assign m q y) r s fr fs c = absurd (other (Statement-F.Local k n p x) (Statement-F.Assign m q y) r s c refl)
    one_local k n p x (Statement-F.Store u y) r s fr fs c = absurd (other (Statement-F.Local k n p x) (Statement-F.Store u y) r s c refl)
    one_local k n p x (Statement-F.If y ys u) r s fr fs c = absurd (other (Statement-F.Local k n p x) (Statement-F.If y ys u) r s c refl)
    one_local k n p x (Statement-F.For m q a b ys) r s fr fs c = absurd (other (Statement-F.Local k n p x) (Statement-F.For m q a b ys) r s c refl)
    one_local k n p x (Statement-F.Withonly q us ms ys) r s fr fs c =
        absurd (other (Statement-F.Local k n p x) (Statement-F.Withonly q us ms ys) r s c refl)
    one_local k n p x (Statement-F.With q us) r s fr fs c = absurd (other (Statement-F.Local k n p x) (Statement-F.With q us) r s c refl)
    one_local k n p x (Statement-F.Declare w q u) r s fr fs c = absurd (other (Statement-F.Local k n p x) (Statement-F.Declare w q u) r s c refl)

    one_assign : (n : List ℕ) (p : Pos) (x : Expr) (z : Statement-F Statement) (r s : Parts) → NoElse r → NoElse s
        → Like to (spelt (Statement-F.Assign n p x) ++ r) (spelt_two z ++ s)
        → Same to (moved_phrase to) (shown (Statement-F.Assign n p x)) (shown_two z) r s
    one_assign n p x (Statement-F.Local j m q y) r s fr fs c = absurd (other (Statement-F.Assign n p x) (Statement-F.Local j m q y) r s c refl)
    one_assign n p x (Statement-F.Assign m q y) r s fr fs c = let d = value_same x y r s c.2.2 in
        record { image = λ i. syntax.Assign (called_is n m c.0 i) (c.1 i) (d.image i); rest = d.rest }
    one_assign n p x (Statement-F.Store u y) r s fr fs c =
        absurd (not_becomes (out-CellRef u).family (outer (out-CellRef u).cell) (outer y) s ((outer x ++ fixed Semicolon ∷ []) ++ r) c.2)
    one_assign n p x (Statement-F.If y ys u) r s fr fs c = absurd (other (Statement-F.Assign n p x) (Statement-F.If y ys u) r s c refl)
    one_assign n p x (Statement-F.For m q a b ys) r s fr fs c = absurd (other (Statement-F.Assign n p x) (Statement-F.For m q a b ys) r s c refl)
    one_assign n p x (Statement-F.Withonly q us ms ys) r s fr fs c = absurd (other (Statement-F.Assign n p x) (Statement-F.Withonly q us ms ys) r s c refl)
    one_assign n p x (Statement-F.With q us) r s fr fs c = absurd (other (Statement-F.Assign n p x) (Statement-F.With q us) r s c refl)
    one_assign n p x (Statement-F.Declare w q u) r s fr fs c = absurd (other (Statement-F.Assign n p x) (Statement-F.Declare w q u) r s c refl)

    one_store : (t : CellRef) (x : Expr) (z : Statement-F Statement) (r s : Parts) → NoElse r → NoElse s
        → Like to (spelt (Statement-F.Store t x) ++ r) (spelt_two z ++ s) → Same to (moved_phrase to) (shown (Statement-F.Store t x)) (shown_two z) r s
    one_store t x (Statement-F.Local j m q y) r s fr fs c = absurd (other (Statement-F.Store t x) (Statement-F.Local j m q y) r s c refl)
    one_store t x (Statement-F.Assign m q y) r s fr fs c =
        absurd (not_becomes (out-CellRef t).family (outer (out-CellRef t).cell) (outer x) r ((outer y ++ fixed Semicolon ∷ []) ++ s)
        (like_sym to (((((outer_index (out-CellRef t).family ++ bracketed (outer (out-CellRef t).cell)) ++ fixed Becomes ∷ []) ++ outer x)
        ++ fixed Semicolon ∷ []) ++ r) (fixed Becomes ∷ ((outer y ++ fixed Semicolon ∷ []) ++ s)) c.2))
    one_store t x (Statement-F.Store u y) r s fr fs c = store_is t x u y r s c
    one_store t x (Statement-F.If y ys u) r s fr fs c = absurd (other (Statement-F.Store t x) (Statement-F.If y ys u) r s c refl)
    one_store t x (Statement-F.For m q a b ys) r s fr fs c = absurd (other (Statement-F.Store t x) (Statement-F.For m q a b ys) r s c refl)
    one_store t x (Statement-F.Withonly q us ms ys) r s fr fs c = absurd (other (Statement-F.Store t x) (Statement-F.Withonly q us ms ys) r s c refl)
    one_store t x (Statement-F.With q us) r s fr fs c = absurd (other (Statement-F.Store t x) (Statement-F.With q us) r s c refl)
    one_store t x (Statement-F.Declare w q u) r s fr fs c = absurd (other (Statement-F.Store t x) (Statement-F.Declare w q u) r s c refl)

    one_if : (x : Expr) (xs : List S) (o : Option (List S)) (z : Statement-F Statement) (r s : Parts) → NoElse r → NoElse s
        → Like to (spelt (Statement-F.If x xs o) ++ r) (spelt_two z ++ s) → Same to (moved_phrase to) (shown (Statement-F.If x xs o)) (shown_two z) r s
    one_if x xs o (Statement-F.Local j m q y) r s fr fs c = absurd (other (Statement-F.If x xs o) (Statement-F.Local j m q y) r s c refl)
    one_if x xs o (Statement-F.Assign m q y) r s fr fs c = absurd (other (Statement-F.If x xs o) (Statement-F.Assign m q y) r s c refl)
    one_if x xs o (Statement-F.Store u y) r s fr fs c = absurd (other (Statement-F.If x xs o) (Statement-F.Store u y) r s c refl)
    one_if x xs None (Statement-F.If y ys None) r s fr fs c = if_same x xs None y ys None r s fr fs c.2
    one_if x xs None (Statement-F.If y ys (Some b)) r s fr fs c = if_same x xs None y ys (Some b) r s fr fs c.2
    one_if x xs (Some a) (Statement-F.If y ys None) r s fr fs c = if_same x xs (Some a) y ys None r s fr fs c.2
    one_if x xs (Some a) (Statement-F.If y ys (Some b)) r s fr fs c = if_same x xs (Some a) y ys (Some b) r s fr fs c.2
    one_if x xs o (Statement-F.For m q a b ys) r s fr fs c = absurd (other (Statement-F.If x xs o) (Statement-F.For m q a b ys) r s c refl)
    one_if x xs o (Statement-F.Withonly q us ms ys) r s fr fs c = absurd (other (Statement-F.If x xs o) (Statement-F.Withonly q us ms ys) r s c refl)
    one_if x xs o (Statement-F.With q us) r s fr fs c = absurd (other (Statement-F.If x xs o) (Statement-F.With q us) r s c refl)
    one_if x xs o (Statement-F.Declare w q u) r s fr fs c = absurd (other (Statement-F.If x xs o) (Statement-F.Declare w q u) r s c refl)

    one_for : (n : List ℕ) (p : Pos) (l h : Expr) (xs : List S) (z : Statement-F Statement) (r s : Parts) → NoElse r → NoElse s
        → Like to (spelt (Statement-F.For n p l h xs) ++ r) (spelt_two z ++ s)
        → Same to (moved_phrase to) (shown (Statement-F.For n p l h xs)) (shown_two z) r s
    one_for n p l h xs (Statement-F.Local j m q y) r s fr fs c = absurd (other (Statement-F.For n p l h xs) (Statement-F.Local j m q y) r s c refl)
    one_for n p l h xs (Statement-F.Assign m q y) r s fr fs c = absurd (other (Statement-F.For n p l h xs) (Statement-F.Assign m q y) r s c refl)
    one_for n p l h xs (Statement-F.Store u y) r s fr fs c = absurd (other (Statement-F.For n p l h xs) (Statement-F.Store u y) r s c refl)
    one_for n p l h xs (Statement-F.If y ys u) r s fr fs c = absurd (other (Statement-F.For n p l h xs) (Statement-F.If y ys u) r s c refl)
    one_for n p l h xs (Statement-F.For m q a b ys) r s fr fs c = for_same n p l h xs m q a b ys r s c
    one_for n p l h xs (Statement-F.Withonly q us ms ys) r s fr fs c =
        absurd (other (Statement-F.For n p l h xs) (Statement-F.Withonly q us ms ys) r s c refl)
    one_for n p l h xs (Statement-F.With q us) r s fr fs c = absurd (other (Statement-F.For n p l h xs) (Statement-F.With q us) r s c refl)
    one_for n p l h xs (Statement-F.Declare w q u) r s fr fs c = absurd (other (Statement-F.For n p l h xs) (Statement-F.Declare w q u) r s c refl)

    one_withonly : (p : Pos) (ss : List S) (ns : List Named) (xs : List S) (z : Statement-F Statement) (r s : Parts) → NoElse r → NoElse s
        → Like to (spelt (Statement-F.Withonly p ss ns xs) ++ r) (spelt_two z ++ s)
        → Same to (moved_phrase to) (shown (Statement-F.Withonly p ss ns xs)) (shown_two z) r s
    one_withonly p ss ns xs (Statement-F.Local j m q y) r s fr fs c =
        absurd (other (Statement-F.Withonly p ss ns xs) (Statement-F.Local j m q y) r s c refl)
    one_withonly p ss ns xs (Statement-F.Assign m q y) r s fr fs c = absurd (other (Statement-F.Withonly p ss ns xs) (Statement-F.Assign m q y) r s c refl)
    one_withonly p ss ns xs (Statement-F.Store u y) r s fr fs c = absurd (other (Statement-F.Withonly p ss ns xs) (Statement-F.Store u y) r s c refl)
    one_withonly p ss ns xs (Statement-F.If y ys u) r s fr fs c = absurd (other (Statement-F.Withonly p ss ns xs) (Statement-F.If y ys u) r s c refl)
    one_withonly p ss ns xs (Statement-F.For m q a b ys) r s fr fs c =
        absurd (other (Statement-F.Withonly p ss ns xs) (Statement-F.For m q a b ys) r s c refl)
    one_withonly p ss ns xs (Statement-F.Withonly q us ms ys) r s fr fs c = withonly_same p ss ns xs q us ms ys r s c
    one_withonly p ss ns xs (Statement-F.With q us) r s fr fs c = absurd (other (Statement-F.Withonly p ss ns xs) (Statement-F.With q us) r s c refl)
    one_withonly p ss ns xs (Statement-F.Declare w q u) r s fr fs c =
        absurd (other (Statement-F.Withonly p ss ns xs) (Statement-F.Declare w q u) r s c refl)

    one_with : (p : Pos) (ss : List S) (z : Statement-F Statement) (r s : Parts) → NoElse r → NoElse s
        → Like to (spelt (Statement-F.With p ss) ++ r) (spelt_two z ++ s) → Same to (moved_phrase to) (shown (Statement-F.With p ss)) (shown_two z) r s
    one_with p ss (Statement-F.Local j m q y) r s fr fs c = absurd (other (Statement-F.With p ss) (Statement-F.Local j m q y) r s c refl)
    one_with p ss (Statement-F.Assign m q y) r s fr fs c = absurd (other (Statement-F.With p ss) (Statement-F.Assign m q y) r s c refl)
    one_with p ss (Statement-F.Store u y) r s fr fs c = absurd (other (Statement-F.With p ss) (Statement-F.Store u y) r s c refl)
    one_with p ss (Statement-F.If y ys u) r s fr fs c = absurd (other (Statement-F.With p ss) (Statement-F.If y ys u) r s c refl)
    one_with p ss (Statement-F.For m q a b ys) r s fr fs c = absurd (other (Statement-F.With p ss) (Statement-F.For m q a b ys) r s c refl)
    one_with p ss (Statement-F.Withonly q us ms ys) r s fr fs c = absurd (other (Statement-F.With p ss) (Statement-F.Withonly q us ms ys) r s c refl)
    one_with p ss (Statement-F.With q us) r s fr fs c = with_same p ss q us r s c
    one_with p ss (Statement-F.Declare w q u) r s fr fs c = absurd (other (Statement-F.With p ss) (Statement-F.Declare w q u) r s c refl)

    one_declare : (v : DeclareWord) (p : Pos) (o : ObjectRef) (z : Statement-F Statement) (r s : Parts) → NoElse r → NoElse s
        → Like to (spelt (Statement-F.Declare v p o) ++ r) (spelt_two z ++ s)
        → Same to (moved_phrase to) (shown (Statement-F.Declare v p o)) (shown_two z) r s
    one_declare v p o (Statement-F.Local j m q y) r s fr fs c = absurd (other (Statement-F.Declare v p o) (Statement-F.Local j m q y) r s c refl)
    one_declare v p o (Statement-F.Assign m q y) r s fr fs c = absurd (other (Statement-F.Declare v p o) (Statement-F.Assign m q y) r s c refl)
    one_declare v p o (Statement-F.Store u y) r s fr fs c = absurd (other (Statement-F.Declare v p o) (Statement-F.Store u y) r s c refl)
    one_declare v p o (Statement-F.If y ys u) r s fr fs c = absurd (other (Statement-F.Declare v p o) (Statement-F.If y ys u) r s c refl)
    one_declare v p o (Statement-F.For m q a b ys) r s fr fs c = absurd (other (Statement-F.Declare v p o) (Statement-F.For m q a b ys) r s c refl)
    one_declare v p o (Statement-F.Withonly q us ms ys) r s fr fs c =
        absurd (other (Statement-F.Declare v p o) (Statement-F.Withonly q us ms ys) r s c refl)
    one_declare v p o (Statement-F.With q us) r s fr fs c = absurd (other (Statement-F.Declare v p o) (Statement-F.With q us) r s c refl)
    one_declare v p o (Statement-F.Declare w q u) r s fr fs c = declare_same v p o w q u r s c

    statement_same : (y : Statement-F S) (z : Statement-F Statement) (r s : Parts) → NoElse r → NoElse s → Like to (spelt y ++ r) (spelt_two z ++ s)
        → Same to (moved_phrase to) (shown y) (shown_two z) r s
    statement_same (Statement-F.Local k n p x) = one_local k n p x
    statement_same (Statement-F.Assign n p x) = one_assign n p x
    statement_same (Statement-F.Store t x) = one_store t x
    statement_same (Statement-F.If x xs o) = one_if x xs o
    statement_same (Statement-F.For n p l h xs) = one_for n p l h xs
    statement_same (Statement-F.Withonly p ss ns xs) = one_withonly p ss ns xs
    statement_same (Statement-F.With p ss) = one_with p ss
    statement_same (Statement-F.Declare v p o) = one_declare v p o

    layer : (y : Statement-F S) → Stated (spelt y) (shown y)
    layer y = record {
      by = λ z r s f g h.
          let k = statement_same y (out-Statement z) r s f g
          (subst (λ (l : Parts). Like to (spelt y ++ r) (l ++ s)) (fold_out-Statement Parts at_statement z) h) in
          record {
            image = k.image ∙ ap (moved_phrase to) (sym (fold_out-Statement Phrase (general.at_statement placed.forms placed.statement_forms) z));
            rest = k.rest;
          };
    }

  pub statement_one : (x : Statement) → Stated (statement_parts x) (phrase x)
  statement_one x = ind-Statement (λ x. Stated (statement_parts x) (phrase x))
      (λ x y k. rw (← k) (rw (
        fold-roll-Statement Parts at_statement,
        fold-roll-Statement Phrase
            (general.at_statement placed.forms placed.statement_forms),
      ) (layer (λ z. z.0) (λ z. z.1) y))) x

  map_self : {A : Type 0} (xs : List A) → map (λ (x : A). x) xs ≡ xs
  map_self [] = refl
  map_self (x ∷ xs) = ap (λ l. x ∷ l) (map_self xs)

  spread : (b : List Statement) → flat_map statement_parts b ≡ run b
  spread [] = refl
  spread (x ∷ xs) = ap (λ (l : Parts). statement_parts x ++ l) (spread xs)

  -- a whole block, and what follows it
  pub whole_block_same : (a b : List Statement) (r s : Parts) → Like to (block_parts a ++ r) (block_parts b ++ s)
      → Same to (moved_phrases to) (placed.block a) (placed.block b) r s
  whole_block_same a b r s h =
      let one : flat_map statement_parts a ≡ run (map (λ (x : Statement). x) a) = spread a ∙ ap run (sym (map_self a)) in
      let k = regroup to (flat_map statement_parts a) (fixed RightBrace ∷ []) r (flat_map statement_parts b) (fixed RightBrace ∷ []) s h.2 in
      let l = subst (λ (x : Parts). Like to (x ++ (fixed RightBrace ∷ r)) (flat_map statement_parts b ++ (fixed RightBrace ∷ s))) one k in
      let m = subst (λ (x : Parts). Like to (run (map (λ (x : Statement). x) a) ++ (fixed RightBrace ∷ r)) (x ++ (fixed RightBrace ∷ s))) (spread b) l in
      let w = run_same (λ (x : Statement). x) statement_one a b r s m in
      record { image = ap (λ (l : List Statement). moved_phrases to (phrases (map phrase l))) (sym (map_self a)) ∙ w.image; rest = w.rest }

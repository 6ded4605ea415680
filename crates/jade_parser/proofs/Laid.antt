-- Each kind of statement runs.
use Rattle.std.proofs.Common.{◌≡◌, ℕ, suc, ◌+◌, Bool, true, false, ◌&&◌, List, [], ◌∷◌, ◌++◌, Option, Some}
use Rattle.std.proofs.Common.{None, refl, ap, length, map, arith, append_assoc, append-nil, length-append}
use Rattle.std.proofs.lemmas.List.{map-append}
use Rattle.jade_base.specs.declared.place.Pos.{Pos}
use Rattle.jade_syntax.specs.declared.tree.Expr.{Expr}
use Rattle.jade_syntax.specs.declared.tree.CellRef.{CellRef, out-CellRef}
use Rattle.jade_syntax.specs.declared.tree.Named.{Named}
use Rattle.jade_syntax.specs.declared.tree.ObjectRef.{ObjectRef}
use Rattle.jade_syntax.specs.declared.tree.ValueKind.{ValueKind}
use Rattle.jade_syntax.specs.declared.tree.ValueKind.TheVariants.{Int, Bool as BoolKind}
use Rattle.jade_syntax.specs.declared.tree.DeclareWord.{DeclareWord}
use Rattle.jade_syntax.specs.declared.tree.DeclareWord.TheVariants.{Rd, Wr, RdWr, DfRd, DfWr, DfRdWr, Cm, NoRd, NoWr, NoRdWr}
use Rattle.jade_syntax.specs.declared.tree.Statement.{Statement, map-Statement, fold-Statement, fold-roll-Statement, ind-Statement}
use Rattle.jade_syntax.specs.declared.tree.Statement.TheOpen.{Statement-F}
use Rattle.jade_parser.specs.Spelled.{Tokens, Part, Parts, tokens_of, fixed, marked, numbered, outer, Fixed, Called, expr_parts, bracketed}
use Rattle.jade_parser.specs.steps.Machine.{Must, Body, Else, Second, NameIs, Names, MoreNames, Stack, goes, expr_in, is_sign}
use Rattle.jade_syntax.specs.declared.shapes.place.BlockKind.{BlockKind}
use Rattle.jade_syntax.specs.declared.shapes.place.BlockKind.TheVariants.{Main, Section, Amends}
use Rattle.jade_syntax.specs.Shapes.{all_placed, other_placed, at_place, is_main, declares, is_placed}
use Rattle.jade_parser.specs.declared.Sign.TheVariants.{LeftBrace, ElseWord, Semicolon, Becomes, DotDot}
use Rattle.jade_parser.specs.declared.Sign.TheVariants.{RightBracket, LeftParen, RightParen, DoWord, ContWord}
use Rattle.jade_parser.specs.Statements.{braced, else_parts, at_statement, statement_parts, outer_index, name_parts, more_names, declare_word}
use Rattle.jade_parser.proofs.Running.{Runs}
use Rattle.jade_parser.proofs.Trees.{expr_runs}
use Rattle.jade_parser.proofs.Layers.{past_second, second_index}
use Rattle.jade_parser.proofs.Blocks.{NotElse, Goes, both, block_goes, split_tokens}

numbered_tokens : (n : ℕ) (ps : Parts) → tokens_of (numbered n ps) ≡ tokens_of ps
numbered_tokens n [] = refl
numbered_tokens n (p ∷ ps) = ap (λ l. p.token ∷ l) (numbered_tokens (n + 1) ps)

numbered_length : (n : ℕ) (ps : Parts) → length (numbered n ps) ≡ length ps
numbered_length n [] = refl
numbered_length n (p ∷ ps) = ap suc (numbered_length (n + 1) ps)

numbered_runs : (ps : Parts) → Runs expr_in 5 ps → Runs expr_in 5 (numbered 0 ps)
numbered_runs ps r = record { by = λ st rest f. rw (numbered_tokens 0 ps, numbered_length 0 ps) (r.by st rest f) }

pub outer_runs : (e : Expr) → Runs expr_in 5 (outer e)
outer_runs e = numbered_runs (expr_parts e) (expr_runs e)

value_goes : (x : Parts) (st : Stack) (rest : Tokens) → Runs expr_in 5 x
    → goes (tokens_of (x ++ fixed Semicolon ∷ []) ++ rest) (expr_in ++ Must Semicolon ∷ st)
    ≡ length (x ++ fixed Semicolon ∷ []) + goes rest st
value_goes x st rest runs =
    let r = runs.by (Must Semicolon ∷ st) (Fixed Semicolon ∷ rest) (omega arith) in
    let d = ap (λ l. goes l (expr_in ++ Must Semicolon ∷ st)) (split_tokens x (fixed Semicolon ∷ []) rest) in
    omega (arith, r, d, length-append x (fixed Semicolon ∷ []))

local_goes : (c : BlockKind) (k : ValueKind) (n : List ℕ) (p : Pos) (x : Expr) → Goes c (at_statement (Statement-F.Local k n p x))
local_goes c Int n p x = record {
  by = λ st rest e. let v = value_goes (outer x) (Body c ∷ st) rest (outer_runs x) in omega (arith, v);
  begins =
      λ rest e. refl;
}
local_goes c BoolKind n p x = record {
  by = λ st rest e. let v = value_goes (outer x) (Body c ∷ st) rest (outer_runs x) in omega (arith, v);
  begins =
      λ rest e. refl;
}

assign_goes : (c : BlockKind) (n : List ℕ) (p : Pos) (x : Expr) → Goes c (at_statement (Statement-F.Assign n p x))
assign_goes c n p x = record {
  by = λ st rest e. let v = value_goes (outer x) (Body c ∷ st) rest (outer_runs x) in omega (arith, v);
  begins =
      λ rest e. refl;
}

pass_else : (c : BlockKind) (st : Stack) (rest : Tokens) → NotElse rest → goes rest (Else c ∷ st) ≡ goes rest st
pass_else c st [] e = refl
pass_else c st (t ∷ ts) e = rw e refl

map-map : {A B C : Type 0} (g : B → C) (f : A → B) (l : List A) → map g (map f l) ≡ map (λ x. g (f x)) l
map-map g f [] = refl
map-map g f (x ∷ xs) = ap (λ k. g (f x) ∷ k) (map-map g f xs)

regroup : (a b : Parts) (t : Part) (c : Parts) (d : Tokens) → tokens_of ((a ++ b) ++ (t ∷ c)) ++ d ≡ tokens_of a
    ++ (tokens_of b ++ (t.token ∷ (tokens_of c ++ d)))
regroup a b t c d = simp (map-append, append_assoc)

two_blocks : (a b : Parts) (d : Tokens) → tokens_of ((a ++ b) ++ []) ++ d ≡ tokens_of a ++ (tokens_of b ++ d)
two_blocks a b d = simp (map-append, append_assoc, append-nil)

with_bounds : (a : Parts) (t : Part) (b c : Parts) (d : Tokens) → tokens_of (((a ++ t ∷ []) ++ b) ++ c) ++ d ≡ tokens_of a
    ++ (t.token ∷ (tokens_of b ++ (tokens_of c ++ d)))
with_bounds a t b c d = simp (map-append, append_assoc)

with_names : (a : Parts) (t u : Part) (n : Parts) (v : Part) (c : Parts) (d : Tokens) → tokens_of (((((a ++ t ∷ []) ++ u ∷ []) ++ n) ++ v ∷ []) ++ c) ++ d
    ≡ tokens_of a ++ (t.token ∷ (u.token ∷ (tokens_of n ++ (v.token ∷ (tokens_of c ++ d)))))
with_names a t u n v c d = simp (map-append, append_assoc)

with_length : (a : Parts) (t u : Part) (n : Parts) (v : Part) (c : Parts) → length (((((a ++ t ∷ []) ++ u ∷ []) ++ n) ++ v ∷ []) ++ c)
    ≡ length a + (1 + (1 + (length n + (1 + length c))))
with_length a t u n v c = simp length-append (omega arith)

with_cont : (a : Parts) (t u : Part) (d : Tokens) → tokens_of ((a ++ t ∷ []) ++ u ∷ []) ++ d ≡ tokens_of a ++ (t.token ∷ (u.token ∷ d))
with_cont a t u d = simp (map-append, append_assoc)

abbrev omap : {A B : Type 0} → (A → B) → Option (List A) → Option (List B)
omap f None = None
omap f (Some xs) = Some (map f xs)

module _ {S : Type 0} (tok : S → Parts) (shape : S → BlockKind → Bool) (ok : (s : S) (c : BlockKind) → shape s c ≡ true → Goes c (tok s)) where
  -- an expression and a block
  headed : (c : BlockKind) (x : Parts) (xs : List S) (st : Stack) (rest : Tokens) → Runs expr_in 5 x → all_placed c (map shape xs) ≡ true
      → goes (tokens_of x ++ (tokens_of (braced (map tok xs)) ++ rest)) (expr_in ++ Must LeftBrace ∷ Body c ∷ st)
      ≡ length x + (length (braced (map tok xs)) + goes rest st)
  headed c x xs st rest runs e =
      let r = runs.by (Must LeftBrace ∷ Body c ∷ st) (tokens_of (braced (map tok xs)) ++ rest) (omega arith) in
      let b = block_goes tok shape ok c xs st rest e in
      omega (arith, r, b)

  if_runs : (c : BlockKind) (x : Parts) (xs : List S) (o : Option (List S)) (st : Stack) (rest : Tokens) → Runs expr_in 5 x → NotElse rest
      → (all_placed c (map shape xs) && other_placed c (omap shape o)) ≡ true
      → goes (tokens_of ((x ++ braced (map tok xs)) ++ else_parts (omap tok o)) ++ rest) (expr_in ++ Must LeftBrace ∷ Body c ∷ Else c ∷ Body c ∷ st)
      ≡ length ((x ++ braced (map tok xs)) ++ else_parts (omap tok o)) + goes rest (Body c ∷ st)
  if_runs c x xs None st rest runs n e =
      let p = both (all_placed c (map shape xs)) true e in
      let h = headed c x xs (Else c ∷ Body c ∷ st) rest runs p.0 in
      let q = pass_else c (Body c ∷ st) rest n in
      let d = ap (λ l. goes l (expr_in ++ Must LeftBrace ∷ Body c ∷ Else c ∷ Body c ∷ st)) (two_blocks x (braced (map tok xs)) rest) in
      omega (arith, h, q, d, length-append x (braced (map tok xs)), length-append (x ++ braced (map tok xs)) [])
  if_runs c x xs (Some ys) st rest runs n e =
      let p = both (all_placed c (map shape xs)) (all_placed c (map shape ys)) e in
      let h = headed c x xs (Else c ∷ Body c ∷ st) (Fixed ElseWord ∷ (tokens_of (braced (map tok ys)) ++ rest)) runs p.0 in
      let q = block_goes tok shape ok c ys (Body c ∷ st) rest p.1 in
      let d = ap (λ l. goes l (expr_in ++ Must LeftBrace ∷ Body c ∷ Else c ∷ Body c ∷ st))
      (regroup x (braced (map tok xs)) (fixed ElseWord) (braced (map tok ys)) rest) in
      omega (arith, h, q, d, length-append x (braced (map tok xs)), length-append (x ++ braced (map tok xs)) (fixed ElseWord ∷ braced (map tok ys)))

  if_goes : (c : BlockKind) (x : Expr) (xs : List S) (o : Option (List S)) → at_place (Statement-F.If x (map shape xs) (omap shape o)) c ≡ true
      → Goes c (at_statement (Statement-F.If x (map tok xs) (omap tok o)))
  if_goes c x xs o e = record {
    by = λ st rest n. let r = if_runs c (outer x) xs o st rest (outer_runs x) n e in omega (arith, r);
    begins = λ rest n. refl;
  }

  for_runs : (c : BlockKind) (l h : Parts) (xs : List S) (st : Stack) (rest : Tokens) → Runs expr_in 5 l → Runs expr_in 5 h → all_placed c (map shape xs)
      ≡ true
      → goes (tokens_of (((l ++ fixed DotDot ∷ []) ++ h) ++ braced (map tok xs)) ++ rest)
      (expr_in ++ Must DotDot ∷ expr_in ++ Must LeftBrace ∷ Body c ∷ Body c ∷ st)
      ≡ length (((l ++ fixed DotDot ∷ []) ++ h) ++ braced (map tok xs)) + goes rest (Body c ∷ st)
  for_runs c l h xs st rest low high e =
      let a = low.by (Must DotDot ∷ expr_in ++ Must LeftBrace ∷ Body c ∷ Body c ∷ st)
      (Fixed DotDot ∷ (tokens_of h ++ (tokens_of (braced (map tok xs)) ++ rest))) (omega arith) in
      let b = headed c h xs (Body c ∷ st) rest high e in
      let d = ap (λ l. goes l (expr_in ++ Must DotDot ∷ expr_in ++ Must LeftBrace ∷ Body c ∷ Body c ∷ st))
      (with_bounds l (fixed DotDot) h (braced (map tok xs)) rest) in
      omega (
        arith,
        a,
        b,
        d,
        length-append l (fixed DotDot ∷ []),
        length-append (l ++ fixed DotDot ∷ []) h,
        length-append ((l ++ fixed DotDot ∷ []) ++ h)
            (braced (map tok xs)),
      )

  for_goes : (c : BlockKind) (n : List ℕ) (p : Pos) (l h : Expr) (xs : List S) → all_placed c (map shape xs) ≡ true
      → Goes c (at_statement (Statement-F.For n p l h (map tok xs)))
  for_goes c n p l h xs e = record {
    by = λ st rest f. let r = for_runs c (outer l) (outer h) xs st rest (outer_runs l) (outer_runs h) e in omega (arith, r);
    begins = λ rest f. refl;
  }

  names_go_on : (ns : List Named) (st : Stack) (rest : Tokens) → goes (tokens_of (more_names ns) ++ (Fixed RightParen ∷ rest)) (MoreNames ∷ st)
      ≡ length (more_names ns) + (1 + goes rest st)
  names_go_on [] st rest = omega arith
  names_go_on (n ∷ ns) st rest = let r = names_go_on ns st rest in omega (arith, r)

  names_go : (ns : List Named) (st : Stack) (rest : Tokens) → goes (tokens_of (name_parts ns) ++ (Fixed RightParen ∷ rest)) (Names ∷ st)
      ≡ length (name_parts ns) + (1 + goes rest st)
  names_go [] st rest = omega arith
  names_go (n ∷ ns) st rest = let r = names_go_on ns st rest in omega (arith, r)

  withonly_goes : (c : BlockKind) (p : Pos) (ss : List S) (ns : List Named) (xs : List S)
      → (is_main c && (all_placed Section (map shape ss) && all_placed Main (map shape xs))) ≡ true
      → Goes c (at_statement (Statement-F.Withonly p (map tok ss) ns (map tok xs)))
  withonly_goes Section p ss ns xs e = absurd (cc)
  withonly_goes Amends p ss ns xs e = absurd (cc)
  withonly_goes Main p ss ns xs e = record {
    by = λ st rest f.
        let q = both (all_placed Section (map shape ss)) (all_placed Main (map shape xs)) e in
        let a = block_goes tok shape ok Section ss (Must DoWord ∷ Must LeftParen ∷ Names ∷ Must LeftBrace ∷ Body Main ∷ Body Main ∷ st)
        (Fixed DoWord ∷ Fixed LeftParen ∷ (tokens_of (name_parts ns) ++ (Fixed RightParen ∷ (tokens_of (braced (map tok xs)) ++ rest)))) q.0 in
        let n = names_go ns (Must LeftBrace ∷ Body Main ∷ Body Main ∷ st) (tokens_of (braced (map tok xs)) ++ rest) in
        let b = block_goes tok shape ok Main xs (Body Main ∷ st) rest q.1 in
        let d = ap (λ l. goes l (Must LeftBrace ∷ Body Section ∷ Must DoWord ∷ Must LeftParen ∷ Names ∷ Must LeftBrace ∷ Body Main ∷ Body Main ∷ st))
        (with_names (braced (map tok ss)) (fixed DoWord) (fixed LeftParen) (name_parts ns) (fixed RightParen) (braced (map tok xs)) rest) in
        let l = with_length (braced (map tok ss)) (fixed DoWord) (fixed LeftParen) (name_parts ns) (fixed RightParen) (braced (map tok xs)) in
        omega (arith, a, n, b, d, l);
    begins = λ rest f. refl;
  }

  with_goes : (c : BlockKind) (p : Pos) (ss : List S) → (is_main c && all_placed Amends (map shape ss)) ≡ true
      → Goes c (at_statement (Statement-F.With p (map tok ss)))
  with_goes Section p ss e = absurd (cc)
  with_goes Amends p ss e = absurd (cc)
  with_goes Main p ss e = record {
    by = λ st rest f.
        let a = block_goes tok shape ok Amends ss (Must ContWord ∷ Must Semicolon ∷ Body Main ∷ st) (Fixed ContWord ∷ Fixed Semicolon ∷ rest) e in
        let d = ap (λ l. goes l (Must LeftBrace ∷ Body Amends ∷ Must ContWord ∷ Must Semicolon ∷ Body Main ∷ st))
        (with_cont (braced (map tok ss)) (fixed ContWord) (fixed Semicolon) rest) in
        omega (
          arith,
          a,
          d,
          length-append (braced (map tok ss)) (fixed ContWord ∷ []),
          length-append (braced (map tok ss) ++ fixed ContWord ∷ [])
              (fixed Semicolon ∷ []),
        );
    begins = λ rest f. refl;
  }

indexed : (c : Parts) (st : Stack) (rest : Tokens) → Runs expr_in 5 c
    → goes (tokens_of (c ++ fixed RightBracket ∷ []) ++ rest) (expr_in ++ Must RightBracket ∷ st) ≡ length (c ++ fixed RightBracket ∷ []) + goes rest st
indexed c st rest runs =
    let r = runs.by (Must RightBracket ∷ st) (Fixed RightBracket ∷ rest) (omega arith) in
    let d = ap (λ l. goes l (expr_in ++ Must RightBracket ∷ st)) (split_tokens c (fixed RightBracket ∷ []) rest) in
    omega (arith, r, d, length-append c (fixed RightBracket ∷ []))

one : (a : Parts) (t : Part) (e : Parts) (u : Part) (r : Tokens) → tokens_of (((a ++ t ∷ []) ++ e) ++ u ∷ []) ++ r ≡ tokens_of a
    ++ (t.token ∷ (tokens_of (e ++ u ∷ []) ++ r))
one a t e u r = simp (map-append, append_assoc)

two : (a b : Parts) (t : Part) (e : Parts) (u : Part) (r : Tokens) → tokens_of ((((a ++ b) ++ t ∷ []) ++ e) ++ u ∷ []) ++ r ≡ tokens_of a
    ++ (tokens_of b ++ (t.token ∷ (tokens_of (e ++ u ∷ []) ++ r)))
two a b t e u r = simp (map-append, append_assoc)

one_long : (a : Parts) (t : Part) (e : Parts) (u : Part) → length (((a ++ t ∷ []) ++ e) ++ u ∷ []) ≡ length a + (1 + length (e ++ u ∷ []))
one_long a t e u = simp length-append (omega arith)

-- after the name: an index and a value
one_stored : (i x : Parts) (st : Stack) (rest : Tokens) → Runs expr_in 5 i → Runs expr_in 5 x
    → goes (tokens_of ((((i ++ fixed RightBracket ∷ []) ++ fixed Becomes ∷ []) ++ x) ++ fixed Semicolon ∷ []) ++ rest)
    (expr_in ++ Must RightBracket ∷ Second ∷ Must Becomes ∷ expr_in ++ Must Semicolon ∷ st)
    ≡ length ((((i ++ fixed RightBracket ∷ []) ++ fixed Becomes ∷ []) ++ x) ++ fixed Semicolon ∷ []) + goes rest st
one_stored i x st rest ri rx =
    let next : Stack = Must Becomes ∷ expr_in ++ Must Semicolon ∷ st in
    let ic : Parts = i ++ fixed RightBracket ∷ [] in
    let after : Tokens = tokens_of (x ++ fixed Semicolon ∷ []) ++ rest in
    let d = ap (λ l. goes l (expr_in ++ Must RightBracket ∷ Second ∷ next)) (one ic (fixed Becomes) x (fixed Semicolon) rest) in
    let a = indexed i (Second ∷ next) (Fixed Becomes ∷ after) ri in
    let s = past_second next (Fixed Becomes ∷ after) (omega arith) in
    let v = value_goes x st rest rx in
    omega (arith, d, a, s, v, one_long ic (fixed Becomes) x (fixed Semicolon))

-- after the name: two indexes and a value
two_stored : (o i x : Parts) (st : Stack) (rest : Tokens) → Runs expr_in 5 o → Runs expr_in 5 i → Runs expr_in 5 x
    → goes (tokens_of (((((o ++ fixed RightBracket ∷ []) ++ bracketed i) ++ fixed Becomes ∷ []) ++ x) ++ fixed Semicolon ∷ []) ++ rest)
    (expr_in ++ Must RightBracket ∷ Second ∷ Must Becomes ∷ expr_in ++ Must Semicolon ∷ st)
    ≡ length (((((o ++ fixed RightBracket ∷ []) ++ bracketed i) ++ fixed Becomes ∷ []) ++ x) ++ fixed Semicolon ∷ []) + goes rest st
two_stored o i x st rest ro ri rx =
    let next : Stack = Must Becomes ∷ expr_in ++ Must Semicolon ∷ st in
    let io : Parts = o ++ fixed RightBracket ∷ [] in
    let after : Tokens = tokens_of (x ++ fixed Semicolon ∷ []) ++ rest in
    let d = ap (λ l. goes l (expr_in ++ Must RightBracket ∷ Second ∷ next)) (two io (bracketed i) (fixed Becomes) x (fixed Semicolon) rest) in
    let a = indexed o (Second ∷ next) (tokens_of (bracketed i) ++ (Fixed Becomes ∷ after)) ro in
    let s = second_index i next (Fixed Becomes ∷ after) ri in
    let v = value_goes x st rest rx in
    omega (arith, d, a, s, v, one_long (io ++ bracketed i) (fixed Becomes) x (fixed Semicolon), length-append io (bracketed i))

store_goes : (t : CellRef) (x : Expr) → Goes Main (at_statement (Statement-F.Store t x))
store_goes t x = record {
  by = λ st rest f. of (out-CellRef t).name (out-CellRef t).pos (out-CellRef t).family (out-CellRef t).cell st rest;
  begins = λ rest f. refl;
}
  where
    of : (n : List ℕ) (p : Pos) (o : Option Expr) (c : Expr) (st : Stack) (rest : Tokens)
        → goes (tokens_of ((((marked (Called n) p ∷ (outer_index o ++ bracketed (outer c))) ++ fixed Becomes ∷ []) ++ outer x) ++ fixed Semicolon ∷ [])
        ++ rest)
        (Body Main ∷ st)
        ≡ length ((((marked (Called n) p ∷ (outer_index o ++ bracketed (outer c))) ++ fixed Becomes ∷ []) ++ outer x) ++ fixed Semicolon ∷ []) + goes rest
        (Body Main ∷ st)
    of n p None c st rest = let r = one_stored (outer c) (outer x) (Body Main ∷ st) rest (outer_runs c) (outer_runs x) in omega (arith, r)
    of n p (Some o) c st rest = let r = two_stored (outer o) (outer c) (outer x) (Body Main ∷ st) rest (outer_runs o) (outer_runs c) (outer_runs x) in
        omega (arith, r)

declared : (c : BlockKind) (w : DeclareWord) (ts : Tokens) (st : Stack) → declares c w ≡ true → goes (declare_word w ∷ ts) (Body c ∷ st)
    ≡ 1 + goes ts (Must LeftParen ∷ NameIs ∷ Second ∷ Must RightParen ∷ Must Semicolon ∷ Body c ∷ st)
declared Main Rd ts st e = absurd (cc)
declared Main Wr ts st e = absurd (cc)
declared Main RdWr ts st e = absurd (cc)
declared Main DfRd ts st e = absurd (cc)
declared Main DfWr ts st e = absurd (cc)
declared Main DfRdWr ts st e = absurd (cc)
declared Main Cm ts st e = absurd (cc)
declared Main NoRd ts st e = absurd (cc)
declared Main NoWr ts st e = absurd (cc)
declared Main NoRdWr ts st e = absurd (cc)
declared Section Rd ts st e = refl
declared Section Wr ts st e = refl
declared Section RdWr ts st e = refl
declared Section DfRd ts st e = refl
declared Section DfWr ts st e = refl
declared Section DfRdWr ts st e = refl
declared Section Cm ts st e = refl
declared Section NoRd ts st e = absurd (cc)
declared Section NoWr ts st e = absurd (cc)
declared Section NoRdWr ts st e = absurd (cc)
declared Amends Rd ts st e = refl
declared Amends Wr ts st e = refl
declared Amends RdWr ts st e = refl
declared Amends DfRd ts st e = absurd (cc)
declared Amends DfWr ts st e = absurd (cc)
declared Amends DfRdWr ts st e = absurd (cc)
declared Amends Cm ts st e = absurd (cc)
declared Amends NoRd ts st e = refl
declared Amends NoWr ts st e = refl
declared Amends NoRdWr ts st e = refl

not_else : (w : DeclareWord) → is_sign ElseWord (declare_word w) ≡ false
not_else Rd = refl
not_else Wr = refl
not_else RdWr = refl
not_else DfRd = refl
not_else DfWr = refl
not_else DfRdWr = refl
not_else Cm = refl
not_else NoRd = refl
not_else NoWr = refl
not_else NoRdWr = refl

named_runs : (m : Option Expr) (n : List ℕ) (st : Stack) (rest : Tokens)
    → goes (Fixed LeftParen ∷ (Called n ∷ (tokens_of ((outer_index m ++ fixed RightParen ∷ []) ++ fixed Semicolon ∷ []) ++ rest)))
    (Must LeftParen ∷ NameIs ∷ Second ∷ Must RightParen ∷ Must Semicolon ∷ st)
    ≡ suc (suc (length ((outer_index m ++ fixed RightParen ∷ []) ++ fixed Semicolon ∷ []))) + goes rest st
named_runs None n st rest = omega arith
named_runs (Some x) n st rest =
    let s = second_index (outer x) (Must RightParen ∷ Must Semicolon ∷ st) (Fixed RightParen ∷ Fixed Semicolon ∷ rest) (outer_runs x) in
    let d = ap (λ l. goes l (Second ∷ Must RightParen ∷ Must Semicolon ∷ st))
    (with_cont (bracketed (outer x)) (fixed RightParen) (fixed Semicolon) rest) in
    omega (
      arith,
      s,
      d,
      length-append (bracketed (outer x)) (fixed RightParen ∷ []),
      length-append (bracketed (outer x) ++ fixed RightParen ∷ [])
          (fixed Semicolon ∷ []),
    )

declare_goes : (c : BlockKind) (w : DeclareWord) (p : Pos) (o : ObjectRef) → declares c w ≡ true → Goes c (at_statement (Statement-F.Declare w p o))
declare_goes c w p o e = record {
  by = λ st rest f.
      let a = declared c w (Fixed LeftParen
      ∷ (Called o.name ∷ (tokens_of ((outer_index o.member ++ fixed RightParen ∷ []) ++ fixed Semicolon ∷ []) ++ rest)))
      st e in
      let b = named_runs o.member o.name (Body c ∷ st) rest in
      omega (arith, a, b);
  begins = λ rest f. not_else w;
}

-- where a statement may stand
abbrev pub stands : Statement → BlockKind → Bool
stands = fold-Statement (BlockKind → Bool) at_place

-- each statement, where it may stand
module _ {S : Type 0} (val : S → Statement) (ok : (s : S) (c : BlockKind) → is_placed c (val s) ≡ true → Goes c (statement_parts (val s))) where
  layer : (y : Statement-F S) (c : BlockKind) → at_place (map-Statement Statement (BlockKind → Bool) stands (map-Statement S Statement val y)) c ≡ true
      → Goes c (at_statement (map-Statement Statement Parts statement_parts (map-Statement S Statement val y)))
  layer (Statement-F.Local k n p x) c e = local_goes c k n p x
  layer (Statement-F.Assign n p x) c e = assign_goes c n p x
  layer (Statement-F.Store t x) Main e = store_goes t x
  layer (Statement-F.Store t x) Section e = absurd (cc)
  layer (Statement-F.Store t x) Amends e = absurd (cc)
  layer (Statement-F.If x then None) c e =
      simp map-map (if_goes (λ (z : S). statement_parts (val z)) (λ (z : S). stands (val z)) ok c x then None (simp map-map at e))
  layer (Statement-F.If x then (Some o)) c e =
      simp map-map (if_goes (λ (z : S). statement_parts (val z)) (λ (z : S). stands (val z)) ok c x then (Some o) (simp map-map at e))
  layer (Statement-F.For n p l h b) c e =
      simp map-map (for_goes (λ (z : S). statement_parts (val z)) (λ (z : S). stands (val z)) ok c n p l h b (simp map-map at e))
  layer (Statement-F.Withonly p ss ns b) c e =
      simp map-map (withonly_goes (λ (z : S). statement_parts (val z)) (λ (z : S). stands (val z)) ok c p ss ns b (simp map-map at e))
  layer (Statement-F.With p ss) c e =
      simp map-map (with_goes (λ (z : S). statement_parts (val z)) (λ (z : S). stands (val z)) ok c p ss (simp map-map at e))
  layer (Statement-F.Declare w p o) c e = declare_goes c w p o e

pub statement_goes : (s : Statement) (c : BlockKind) → is_placed c s ≡ true → Goes c (statement_parts s)
statement_goes s = ind-Statement (λ s. (c : BlockKind) → is_placed c s ≡ true → Goes c (statement_parts s))
    (λ x y k. rw (← k) (rw (fold-roll-Statement Parts at_statement, fold-roll-Statement (BlockKind → Bool) at_place) (layer (λ z. z.0) (λ z. z.1) y))) s

-- Blocks, and the statements that hold blocks.
use Rattle.std.proofs.Common.{◌≡◌, ℕ, ◌+◌, ◌≤◌, Bool, true, ◌&&◌, List, [], ◌∷◌, ◌++◌, Some, None, refl, ap}
use Rattle.std.proofs.Common.{sym, ◌∙◌, length, drop, arith, append_assoc, append-nil}
use Rattle.std.specs.List.{flat_map, list_all}
use Rattle.std.proofs.lemmas.List.Folds.{flat_map-map, list_all-append}
use Rattle.std.proofs.lemmas.List.Concat.{flat_map-append}
use Rattle.jade_base.specs.declared.place.Pos.{Pos}
use Rattle.jade_syntax.specs.declared.tree.Expr.{Expr}
use Rattle.jade_syntax.specs.declared.tree.Named.{Named}
use Rattle.jade_syntax.specs.declared.tree.Statement.{Statement, fold_out-Statement}
use Rattle.jade_syntax.specs.declared.tree.Statement.TheVariants.{If, For, Withonly, With, Assign, outs-If, outs-For, outs-Withonly, outs-With}
use Rattle.jade_syntax.specs.declared.shapes.place.BlockKind.{BlockKind}
use Rattle.jade_syntax.specs.declared.shapes.place.BlockKind.TheVariants.{Main, Section, Amends}
use Rattle.jade_syntax.specs.Shapes.{is_placed}
use Rattle.jade_syntax.proofs.Placing.{placed_opens}
use Rattle.jade_parser.specs.declared.Sign.{Sign}
use Rattle.jade_parser.specs.declared.Sign.TheVariants.{LeftBrace, RightBrace, LeftParen, RightParen, IfWord}
use Rattle.jade_parser.specs.declared.Sign.TheVariants.{ElseWord, ForWord, InWord, DotDot, WithonlyWord}
use Rattle.jade_parser.specs.declared.Sign.TheVariants.{DoWord, WithWord, ContWord, Semicolon}
use Rattle.jade_parser.specs.declared.Seen.{Seen}
use Rattle.jade_parser.specs.declared.Stop.{Stop}
use Rattle.jade_parser.specs.declared.begins.Begin.{Begin}
use Rattle.jade_parser.specs.declared.begins.Begin.TheVariants as begin
use Rattle.jade_parser.specs.Spelled.{Tokens, Fixed, Called, Parts, fixed, marked, outer, AllValid}
use Rattle.jade_parser.specs.steps.Machine.{Stack, Must, NameIs, Names, Body, Else, goes, counted, expr_in, statement_sign}
use Rattle.jade_parser.specs.Statements.{statement_parts, block_parts, name_parts, at_statement}
use Rattle.jade_parser.specs.steps.Reads.{Passes, Stops, Whole, OnStop, OnOther, kinds, head_sign, place_at}
use Rattle.jade_parser.specs.steps.Parts.{Any, ReadIn, RefusalIn, LongIn, OuterIn}
use Rattle.jade_parser.specs.Programs.{Fits, FitsAll}
use Rattle.jade_parser.specs.steps.Forms.{Came, NoHead, ended, named_list}
use Rattle.jade_parser.specs.steps.Begins.{begin_of, Predicts}
use Rattle.jade_parser.specs.steps.Compound.{block_in, if_in, for_in, withonly_in, with_in, BeginAt, Halts}
use Rattle.jade_parser.proofs.Steps.{some_expr}
use Rattle.jade_parser.proofs.Reading.{whole_none, none_valid, all_valid}
use Rattle.jade_parser.proofs.Standing.{takes_sign, takes_marked, split_sign}
use Rattle.jade_parser.proofs.Going.{stop_here, none_short}
use Rattle.jade_parser.proofs.Coming.{came_none, came_on, came_under, came_past, came_fixed, came_marked}
use Rattle.jade_parser.proofs.Coming.{after, other, not_sign, nowhere, some_name, some_valid}
use Rattle.jade_parser.proofs.Simply.{given_valid, read_in, assign_is, assign_fits}
use Rattle.jade_parser.proofs.Beginning.{predicted}

-- ---- what a word begins

opens : (all : List Seen) (at : ℕ) (c : BlockKind) (s : Sign) (ys : Stack) → Some s ≡ head_sign (drop at (kinds all))
    → ((st : Stack) → statement_sign c s st ≡ Some (ys ++ st)) → Whole all at (Body c ∷ []) (at + 1) ys (fixed s ∷ [])
opens all at c s ys e k = takes_sign all at s (Body c ∷ []) ys e (λ rest st. ap (counted (λ q. goes rest q)) (k st))

opens_marked : (all : List Seen) (at : ℕ) (c : BlockKind) (s : Sign) (ys : Stack) → Some s ≡ head_sign (drop at (kinds all))
    → ((st : Stack) → statement_sign c s st ≡ Some (ys ++ st)) → Whole all at (Body c ∷ []) (at + 1) ys (marked (Fixed s) (place_at all at) ∷ [])
opens_marked all at c s ys e k = takes_marked all at s (Body c ∷ []) ys e (λ rest st. ap (counted (λ q. goes rest q)) (k st))

closes : (all : List Seen) (at : ℕ) (c : BlockKind) (s : Sign) → s ≡ RightBrace → Some s ≡ head_sign (drop at (kinds all))
    → Whole all at (Body c ∷ []) (at + 1) [] (fixed RightBrace ∷ [])
closes all at Main s k e = takes_sign all at RightBrace _ _ (rw (← k) e) (λ rest st. refl)
closes all at Section s k e = takes_sign all at RightBrace _ _ (rw (← k) e) (λ rest st. refl)
closes all at Amends s k e = takes_sign all at RightBrace _ _ (rw (← k) e) (λ rest st. refl)

stops_word : (all : List Seen) (at : ℕ) (c : BlockKind) (s : Sign) → Some s ≡ head_sign (drop at (kinds all))
    → ((st : Stack) → statement_sign c s st ≡ None)
    → Stops all at (Body c ∷ []) at
stops_word all at c s e k = record { by = λ st. rw (split_sign all at s e, k st) (omega arith) }

-- the word decides
pub begin_predicted : (all : List Seen) (at : ℕ) (c : BlockKind) (s : Sign) → Some s ≡ head_sign (drop at (kinds all)) → BeginAt c all at (begin_of c s)
begin_predicted all at c s e = by_prediction (begin_of c s) (predicted c s)
  where
    by_prediction : (b : Begin) → Predicts c s b → BeginAt c all at b
    by_prediction (begin.Local k) t = rw (t.0) (opens all at c s _ e t.1)
    by_prediction begin.If t = rw (← t.0) (opens all at c s _ e t.1)
    by_prediction begin.For t = rw (← t.0) (opens all at c s _ e t.1)
    by_prediction begin.Withonly t = (t.0, takes_marked all at WithonlyWord (Body Main ∷ []) withonly_in (rw (← t.1) e) (λ rest st. refl))
    by_prediction begin.With t = (t.0, takes_marked all at WithWord (Body Main ∷ []) with_in (rw (← t.1) e) (λ rest st. refl))
    by_prediction (begin.Declare w) t = (t.1, rw (t.0) (opens_marked all at c s _ e t.2))
    by_prediction begin.Closing t = closes all at c s t e
    by_prediction begin.Nothing t = stops_word all at c s e t

-- no statement begins here
pub nothing_begins : (all : List Seen) (at : ℕ) (c : BlockKind) → at ≤ length all → Stops all at (Body c ∷ []) at
    → RefusalIn (Fits c) statement_parts all at (Body c ∷ []) at
nothing_begins all at c le s =
    let tree = Assign some_name nowhere some_expr in
    let eq = assign_is some_name nowhere some_expr in
    stop_here (Fits c) statement_parts all at at (Body c ∷ []) (Body c ∷ []) [] _ tree eq (assign_fits c some_name nowhere some_expr)
    (all_valid (marked (Called some_name) nowhere ∷ []) _ (record { is = refl }) given_valid) none_short (whole_none all at _ le) s

-- ---- what was read of a part

came_outer : {all : List Seen} {a b : ℕ} {x : Expr} → OuterIn all a b x → Came all a expr_in b [] (outer x)
came_outer o = record { whole = o.whole; short = o.short }

came_block : {all : List Seen} {a b : ℕ} {c : BlockKind} {b' : List Statement} → ReadIn (FitsAll c) block_parts all a (block_in c) b [] b'
    → Came all a (block_in c) b [] (block_parts b')
came_block r = record { whole = r.whole; short = r.short }

-- ---- blocks

abbrev block_open : List Statement → Parts
block_open b = fixed LeftBrace ∷ [] ++ flat_map statement_parts b

both_true : (a b : Bool) → a ≡ true → b ≡ true → (a && b) ≡ true
both_true a b p q = rw (p, q) refl

all_fit : (c : BlockKind) (b : List Statement) (s : Statement) → FitsAll c b → Fits c s → FitsAll c (b ++ s ∷ [])
all_fit c b s f g = record {
  is =
      list_all-append (is_placed c) b (s ∷ [])
      ∙ both_true (list_all (is_placed c) b) (is_placed c s && true) f.is (both_true (is_placed c s) true g.is refl);
}

none_fit : (c : BlockKind) → FitsAll c []
none_fit c = record { is = refl }

pub block_unopened : (all : List Seen) (start : ℕ) (c : BlockKind) (e : Stop) → start ≤ length all → OnOther e all start (Must LeftBrace ∷ [])
    → OnStop e (RefusalIn (FitsAll c) block_parts all start (block_in c)) (LongIn (FitsAll c) block_parts all start)
block_unopened all start c e le o =
    other (FitsAll c) block_parts all start start (block_in c) (Must LeftBrace ∷ []) (Body c ∷ []) [] (block_parts []) [] e refl (none_fit c)
    (record { is = refl }) (came_none all start _ le) o

pub block_opened : (all : List Seen) (start at : ℕ) (c : BlockKind) (b : List Statement) → b ≡ []
    → Whole all start (Must LeftBrace ∷ []) at [] (fixed LeftBrace ∷ [])
    → Came all start (block_in c) at (Body c ∷ []) (block_open b) × FitsAll c b
block_opened all start at c b e w = rw e (came_under (Body c ∷ []) (came_fixed w), none_fit c)

pub block_refused : (all : List Seen) (start at : ℕ) (c : BlockKind) (b : List Statement) (e : Stop)
    → Came all start (block_in c) at (Body c ∷ []) (block_open b) × FitsAll c b → Halts c all at e
    → OnStop e (RefusalIn (FitsAll c) block_parts all start (block_in c)) (LongIn (FitsAll c) block_parts all start)
block_refused all start at c b e i o =
    after (FitsAll c) (Fits c) block_parts statement_parts all start at (block_in c) (Body c ∷ []) [] (block_open b) (λ y. b ++ y ∷ [])
    (fixed RightBrace ∷ [])
    e
    (λ y. rw (flat_map-append statement_parts b (y ∷ [])) (simp (append_assoc, append-nil))) (λ y g. all_fit c b y i.1 g) (record { is = refl }) i.0 o

pub block_kept : (all : List Seen) (start at end : ℕ) (c : BlockKind) (b new : List Statement) (s : Statement) → new ≡ b ++ s ∷ []
    → Came all start (block_in c) at (Body c ∷ []) (block_open b) × FitsAll c b
    → ReadIn (Fits c) statement_parts all at (Body c ∷ []) end (Body c ∷ []) s → Came all start (block_in c) end (Body c ∷ []) (block_open new)
    × FitsAll c new
block_kept all start at end c b new s e i r =
    let q : Came all at (Body c ∷ []) end (Body c ∷ []) (statement_parts s) = record { whole = r.whole; short = r.short } in
    rw e (rw (flat_map-append statement_parts b (s ∷ []), append-nil) (came_on i.0 q), all_fit c b s i.1 r.fits)

pub block_read : (all : List Seen) (start at : ℕ) (c : BlockKind) (b : List Statement) → Came all start (block_in c) at (Body c ∷ []) (block_open b)
    × FitsAll c b
    → Whole all at (Body c ∷ []) (at + 1) [] (fixed RightBrace ∷ []) → ReadIn (FitsAll c) block_parts all start (block_in c) (at + 1) [] b
block_read all start at c b i w =
    let q = came_on i.0 (came_fixed w) in
    record { whole = q.whole; fits = i.1; further = let f = i.0.whole.reads.forward in omega arith; short = q.short }

-- ---- `if`

if_none : (t : Expr) (b : List Statement) → statement_parts (If t b None) ≡ (fixed IfWord ∷ [] ++ outer t ++ block_parts b) ++ []
if_none t b = fold_out-Statement Parts at_statement (If t b None) ∙ rw (outs-If t b None) (simp flat_map-map)

if_some : (t : Expr) (b o : List Statement) → statement_parts (If t b (Some o)) ≡ (fixed IfWord ∷ [] ++ outer t ++ block_parts b)
    ++ (fixed ElseWord ∷ block_parts o)
if_some t b o = fold_out-Statement Parts at_statement (If t b (Some o)) ∙ rw (outs-If t b (Some o)) (simp flat_map-map)

none_fits : (c : BlockKind) (t : Expr) (b : List Statement) → FitsAll c b → Fits c (If t b None)
none_fits c t b f = record { is = placed_opens c (If t b None) ∙ rw (outs-If t b None) (both_true (list_all (is_placed c) b) true f.is refl) }

some_fits : (c : BlockKind) (t : Expr) (b o : List Statement) → FitsAll c b → FitsAll c o → Fits c (If t b (Some o))
some_fits c t b o f g = record {
  is =
      placed_opens c (If t b (Some o)) ∙ rw (outs-If t b (Some o)) (both_true (list_all (is_placed c) b) (list_all (is_placed c) o) f.is g.is);
}

module _ (all : List Seen) (start : ℕ) (c : BlockKind) (w : Whole all start (Body c ∷ []) (start + 1) (if_in c) (fixed IfWord ∷ [])) where
  pub test_refused : (e : Stop) → OnStop e (RefusalIn Any outer all (start + 1) expr_in) (LongIn Any outer all (start + 1)) → Halts c all start e
  test_refused e o = after (Fits c) Any statement_parts outer all start (start + 1) (Body c ∷ []) expr_in (Must LeftBrace ∷ Body c ∷ Else c ∷ Body c ∷ [])
      (fixed IfWord ∷ []) (λ y. If y [] None) (block_parts []) e
      (λ y. if_none y [] ∙ simp append-nil) (λ y k. none_fits c y [] (none_fit c)) (record { is = refl }) (came_fixed w) o

  tested : (at : ℕ) (t : Expr) → OuterIn all (start + 1) at t
      → Came all start (Body c ∷ []) at (Must LeftBrace ∷ Body c ∷ Else c ∷ Body c ∷ []) (fixed IfWord ∷ [] ++ outer t)
  tested at t x = came_on (came_fixed w) (came_under (Must LeftBrace ∷ Body c ∷ Else c ∷ Body c ∷ []) (came_outer x))

  pub then_refused : (at : ℕ) (t : Expr) (e : Stop) → OuterIn all (start + 1) at t
      → OnStop e (RefusalIn (FitsAll c) block_parts all at (block_in c)) (LongIn (FitsAll c) block_parts all at) → Halts c all start e
  then_refused at t e x o = after (Fits c) (FitsAll c) statement_parts block_parts all start at (Body c ∷ []) (block_in c) (Else c ∷ Body c ∷ [])
      (fixed IfWord ∷ [] ++ outer t) (λ y. If t y None) [] e
      (λ y. if_none t y ∙ append_assoc (fixed IfWord ∷ outer t) (block_parts y) []) (λ y f. none_fits c t y f) none_valid (tested at t x) o

  then_read : (at mid : ℕ) (t : Expr) (b : List Statement) → OuterIn all (start + 1) at t → ReadIn (FitsAll c) block_parts all at (block_in c) mid [] b
      → Came all start (Body c ∷ []) mid (Else c ∷ Body c ∷ []) (fixed IfWord ∷ [] ++ outer t ++ block_parts b)
  then_read at mid t b x r = came_on (tested at t x) (came_under (Else c ∷ Body c ∷ []) (came_block r))

  else_taken : (mid : ℕ) → Some ElseWord ≡ head_sign (drop mid (kinds all)) → Whole all mid (Else c ∷ []) (mid + 1) (block_in c) (fixed ElseWord ∷ [])
  else_taken mid e = takes_sign all mid ElseWord (Else c ∷ []) (block_in c) e (λ rest st. refl)

  else_past : (mid : ℕ) → NoHead ElseWord all mid → Passes all mid (Else c ∷ Body c ∷ []) mid (Body c ∷ [])
  else_past mid n = record { by = λ st. ap (λ k. mid + k) (past (drop mid (kinds all)) n.none (Body c ∷ st)) }
    where
      past : (ts : Tokens) → (Some ElseWord ≡ head_sign ts → ⊥) → (st : Stack) → goes ts (Else c ∷ st) ≡ goes ts st
      past [] n st = refl
      past (t ∷ ts) n st = rw (not_sign ElseWord t ts n) refl

  pub if_alone : (at mid : ℕ) (t : Expr) (b : List Statement) → OuterIn all (start + 1) at t → ReadIn (FitsAll c) block_parts all at (block_in c) mid [] b
      → NoHead ElseWord all mid
      → ReadIn (Fits c) statement_parts all start (Body c ∷ []) mid (Body c ∷ []) (If t b None)
  if_alone at mid t b x r n =
      let q = came_past (then_read at mid t b x r) (else_past mid n) in
      let f = x.whole.reads.forward in
      let g = r.further in
      read_in (Fits c) statement_parts all start (start + 1) mid (Body c ∷ []) (Body c ∷ []) _ (If t b None) (if_none t b ∙ append-nil _)
      (none_fits c t b r.fits) (omega arith) (omega arith) q

  elsed : (at mid : ℕ) (t : Expr) (b : List Statement) → OuterIn all (start + 1) at t → ReadIn (FitsAll c) block_parts all at (block_in c) mid [] b
      → Some ElseWord ≡ head_sign (drop mid (kinds all))
      → Came all start (Body c ∷ []) (mid + 1) (Must LeftBrace ∷ Body c ∷ Body c ∷ [])
      ((fixed IfWord ∷ [] ++ outer t ++ block_parts b) ++ fixed ElseWord ∷ [])
  elsed at mid t b x r e = came_on (then_read at mid t b x r) (came_under (Body c ∷ []) (came_fixed (else_taken mid e)))

  pub other_refused : (at mid : ℕ) (t : Expr) (b : List Statement) (e : Stop) → OuterIn all (start + 1) at t
      → ReadIn (FitsAll c) block_parts all at (block_in c) mid [] b → Some ElseWord ≡ head_sign (drop mid (kinds all))
      → OnStop e (RefusalIn (FitsAll c) block_parts all (mid + 1) (block_in c)) (LongIn (FitsAll c) block_parts all (mid + 1)) → Halts c all start e
  other_refused at mid t b e x r h o =
      after (Fits c) (FitsAll c) statement_parts block_parts all start (mid + 1) (Body c ∷ []) (block_in c) (Body c ∷ [])
      ((fixed IfWord ∷ [] ++ outer t ++ block_parts b) ++ fixed ElseWord ∷ []) (λ y. If t b (Some y)) [] e
      (λ y. if_some t b y ∙ again (fixed IfWord ∷ [] ++ outer t ++ block_parts b) (block_parts y)) (λ y f. some_fits c t b y r.fits f) none_valid
      (elsed at mid t b x r h) o
    where
      again : (p s : Parts) → p ++ (fixed ElseWord ∷ s) ≡ (p ++ fixed ElseWord ∷ []) ++ (s ++ [])
      again p s = simp (append_assoc, append-nil)

  pub if_else : (at mid end : ℕ) (t : Expr) (b o : List Statement) → OuterIn all (start + 1) at t
      → ReadIn (FitsAll c) block_parts all at (block_in c) mid [] b
      → Some ElseWord ≡ head_sign (drop mid (kinds all))
      → ReadIn (FitsAll c) block_parts all (mid + 1) (block_in c) end [] o
      → ReadIn (Fits c) statement_parts all start (Body c ∷ []) end (Body c ∷ []) (If t b (Some o))
  if_else at mid end t b o x r h q =
      let y = came_on (elsed at mid t b x r h) (came_under (Body c ∷ []) (came_block q)) in
      let f = x.whole.reads.forward in
      let g = r.further in
      let k = q.further in
      read_in (Fits c) statement_parts all start (start + 1) end (Body c ∷ []) (Body c ∷ []) _ (If t b (Some o))
      (if_some t b o ∙ sym (append_assoc (fixed IfWord ∷ [] ++ outer t ++ block_parts b) (fixed ElseWord ∷ []) (block_parts o)))
      (some_fits c t b o r.fits q.fits) (omega arith) (omega arith) y

-- ---- `for`

abbrev for_word : List ℕ → Pos → Parts
for_word n p = fixed ForWord ∷ marked (Called n) p ∷ fixed InWord ∷ []

for_is : (n : List ℕ) (p : Pos) (l h : Expr) (b : List Statement) → statement_parts (For n p l h b) ≡ for_word n p ++ outer l ++ fixed DotDot ∷ []
    ++ outer h
    ++ block_parts b
for_is n p l h b = fold_out-Statement Parts at_statement (For n p l h b) ∙ rw (outs-For n p l h b) (simp flat_map-map)

for_fits : (c : BlockKind) (n : List ℕ) (p : Pos) (l h : Expr) (b : List Statement) → FitsAll c b → Fits c (For n p l h b)
for_fits c n p l h b f = record { is = placed_opens c (For n p l h b) ∙ rw (outs-For n p l h b) f.is }

-- what may follow `for`, and then the name
abbrev some_range : Parts
some_range = outer some_expr ++ fixed DotDot ∷ [] ++ outer some_expr ++ block_parts []

range_valid : AllValid some_range
range_valid = all_valid (outer some_expr ++ fixed DotDot ∷ [] ++ outer some_expr) (block_parts [])
    (all_valid (outer some_expr ++ fixed DotDot ∷ []) (outer some_expr) (all_valid (outer some_expr) (fixed DotDot ∷ []) some_valid (record { is = refl }))
    some_valid) (record { is = refl })

some_for : (n : List ℕ) (p : Pos) → statement_parts (For n p some_expr some_expr []) ≡ for_word n p ++ some_range
some_for n p = for_is n p some_expr some_expr [] ∙ again (for_word n p) (outer some_expr) (outer some_expr) (block_parts [])
  where
    again : (w x y z : Parts) → w ++ x ++ fixed DotDot ∷ [] ++ y ++ z ≡ w ++ (x ++ fixed DotDot ∷ [] ++ y ++ z)
    again w x y z = simp append_assoc

abbrev dots : Parts
dots = fixed DotDot ∷ []

low_so : (w x d y z : Parts) → w ++ x ++ d ++ y ++ z ≡ w ++ ((x ++ d) ++ (y ++ z))
low_so w x d y z = simp append_assoc

high_so : (w x d y z : Parts) → w ++ x ++ d ++ y ++ z ≡ (w ++ (x ++ d)) ++ (y ++ z)
high_so w x d y z = simp append_assoc

body_so : (w x d y z : Parts) → w ++ x ++ d ++ y ++ z ≡ ((w ++ (x ++ d)) ++ y) ++ (z ++ [])
body_so w x d y z = simp (append_assoc, append-nil)

all_so : (w x d y z : Parts) → w ++ x ++ d ++ y ++ z ≡ ((w ++ (x ++ d)) ++ y) ++ z
all_so w x d y z = simp append_assoc

abbrev range_in : BlockKind → Stack
range_in c = expr_in ++ Must DotDot ∷ expr_in ++ Must LeftBrace ∷ Body c ∷ Body c ∷ []

module _ (all : List Seen) (start : ℕ) (c : BlockKind) (w : Whole all start (Body c ∷ []) (start + 1) (for_in c) (fixed ForWord ∷ [])) where
  pub for_unnamed : (e : Stop) → OnOther e all (start + 1) (NameIs ∷ []) → Halts c all start e
  for_unnamed e o = other (Fits c) statement_parts all start (start + 1) (Body c ∷ []) (NameIs ∷ []) (Must InWord ∷ range_in c) (fixed ForWord ∷ [])
      ((marked (Called some_name) nowhere ∷ fixed InWord ∷ []) ++ some_range) (For some_name nowhere some_expr some_expr []) e
      (some_for some_name nowhere) (for_fits c some_name nowhere some_expr some_expr [] (none_fit c))
      (all_valid (marked (Called some_name) nowhere ∷ fixed InWord ∷ []) some_range (record { is = refl }) range_valid) (came_fixed w) o

  module _ (n : List ℕ) (p : Pos) (at_name : p ≡ place_at all (start + 1))
      (v : Whole all (start + 1) (NameIs ∷ []) (start + 1 + 1) [] (marked (Called n) (place_at all (start + 1)) ∷ [])) where
    for_named : Came all start (Body c ∷ []) (start + 2) (Must InWord ∷ range_in c) (fixed ForWord ∷ marked (Called n) p ∷ [])
    for_named = let two : start + 2 ≡ start + 1 + 1 = omega arith in
        rw (at_name, two) (came_on (came_fixed w) (came_under (Must InWord ∷ range_in c) (came_marked v)))

    pub for_not_in : (e : Stop) → OnOther e all (start + 2) (Must InWord ∷ []) → Halts c all start e
    for_not_in e o = other (Fits c) statement_parts all start (start + 2) (Body c ∷ []) (Must InWord ∷ []) (range_in c)
        (fixed ForWord ∷ marked (Called n) p ∷ []) ((fixed InWord ∷ []) ++ some_range) (For n p some_expr some_expr []) e
        (some_for n p) (for_fits c n p some_expr some_expr [] (none_fit c)) (all_valid (fixed InWord ∷ []) some_range (record { is = refl }) range_valid)
        for_named o

    module _ (begun : ℕ) (i : Whole all (start + 2) (Must InWord ∷ []) begun [] (fixed InWord ∷ [])) where
      for_begun : Came all start (Body c ∷ []) begun (range_in c) (for_word n p)
      for_begun = came_on for_named (came_under (range_in c) (came_fixed i))

      pub low_refused : (e : Stop) → OnStop e (RefusalIn Any (ended DotDot) all begun (expr_in ++ Must DotDot ∷ [])) (LongIn Any (ended DotDot) all begun)
          → Halts c all start e
      low_refused e o = after (Fits c) Any statement_parts (ended DotDot) all start begun (Body c ∷ []) (expr_in ++ Must DotDot ∷ [])
          (expr_in ++ Must LeftBrace ∷ Body c ∷ Body c ∷ []) (for_word n p) (λ y. For n p y some_expr []) (outer some_expr ++ block_parts []) e
          (λ y. for_is n p y some_expr [] ∙ low_so (for_word n p) (outer y) dots (outer some_expr) (block_parts []))
          (λ y k. for_fits c n p y some_expr [] (none_fit c)) (all_valid (outer some_expr) (block_parts []) some_valid (record { is = refl })) for_begun o

      module _ (middle : ℕ) (l : Expr) (lo : Came all begun (expr_in ++ Must DotDot ∷ []) middle [] (ended DotDot l)) where
        for_low : Came all start (Body c ∷ []) middle (expr_in ++ Must LeftBrace ∷ Body c ∷ Body c ∷ []) (for_word n p ++ ended DotDot l)
        for_low = came_on for_begun (came_under (expr_in ++ Must LeftBrace ∷ Body c ∷ Body c ∷ []) lo)

        pub high_refused : (e : Stop) → OnStop e (RefusalIn Any outer all middle expr_in) (LongIn Any outer all middle) → Halts c all start e
        high_refused e o = after (Fits c) Any statement_parts outer all start middle (Body c ∷ []) expr_in (Must LeftBrace ∷ Body c ∷ Body c ∷ [])
            (for_word n p ++ ended DotDot l) (λ y. For n p l y []) (block_parts []) e
            (λ y. for_is n p l y [] ∙ high_so (for_word n p) (outer l) dots (outer y) (block_parts [])) (λ y k. for_fits c n p l y [] (none_fit c))
            (record { is = refl }) for_low o

        module _ (at : ℕ) (h : Expr) (hi : OuterIn all middle at h) where
          for_high : Came all start (Body c ∷ []) at (Must LeftBrace ∷ Body c ∷ Body c ∷ []) ((for_word n p ++ ended DotDot l) ++ outer h)
          for_high = came_on for_low (came_under (Must LeftBrace ∷ Body c ∷ Body c ∷ []) (came_outer hi))

          pub body_refused : (e : Stop) → OnStop e (RefusalIn (FitsAll c) block_parts all at (block_in c)) (LongIn (FitsAll c) block_parts all at)
              → Halts c all start e
          body_refused e o = after (Fits c) (FitsAll c) statement_parts block_parts all start at (Body c ∷ []) (block_in c) (Body c ∷ [])
              ((for_word n p ++ ended DotDot l) ++ outer h) (λ y. For n p l h y) [] e
              (λ y. for_is n p l h y ∙ body_so (for_word n p) (outer l) dots (outer h) (block_parts y)) (λ y f. for_fits c n p l h y f) none_valid for_high
              o

          pub for_read : (end : ℕ) (b : List Statement) → ReadIn (FitsAll c) block_parts all at (block_in c) end [] b
              → ReadIn (Fits c) statement_parts all start (Body c ∷ []) end (Body c ∷ []) (For n p l h b)
          for_read end b r =
              let f = i.reads.forward in
              let g = lo.whole.reads.forward in
              let k = hi.whole.reads.forward in
              let m = r.further in
              read_in (Fits c) statement_parts all start (start + 1) end (Body c ∷ []) (Body c ∷ []) _ (For n p l h b)
              (for_is n p l h b ∙ all_so (for_word n p) (outer l) dots (outer h) (block_parts b)) (for_fits c n p l h b r.fits) (omega arith) (omega arith)
              (came_on for_high (came_under (Body c ∷ []) (came_block r)))

-- ---- `withonly`

abbrev only : Pos → Parts
only p = marked (Fixed WithonlyWord) p ∷ []

abbrev do_word : Parts
do_word = fixed DoWord ∷ []

abbrev paren : Parts
paren = fixed LeftParen ∷ []

withonly_is : (p : Pos) (s : List Statement) (ns : List Named) (b : List Statement) → statement_parts (Withonly p s ns b) ≡ only p ++ block_parts s
    ++ do_word
    ++ paren ++ name_parts ns ++ fixed RightParen ∷ [] ++ block_parts b
withonly_is p s ns b = fold_out-Statement Parts at_statement (Withonly p s ns b) ∙ rw (outs-Withonly p s ns b) (simp flat_map-map)

withonly_fits : (p : Pos) (s : List Statement) (ns : List Named) (b : List Statement) → FitsAll Section s → FitsAll Main b → Fits Main (Withonly p s ns b)
withonly_fits p s ns b f g = record {
  is =
      placed_opens Main (Withonly p s ns b)
      ∙ rw (outs-Withonly p s ns b) (both_true (list_all (is_placed Section) s) (list_all (is_placed Main) b) f.is g.is);
}

section_so : (w x : Parts) → w ++ x ++ do_word ++ paren ++ [] ++ fixed RightParen ∷ [] ++ block_parts [] ≡ w
    ++ (x ++ (fixed DoWord ∷ fixed LeftParen ∷ fixed RightParen ∷ block_parts []))
section_so w x = simp (append_assoc, append-nil)

do_so : (w x : Parts) → w ++ x ++ do_word ++ paren ++ [] ++ fixed RightParen ∷ [] ++ block_parts [] ≡ (w ++ x)
    ++ (fixed DoWord ∷ fixed LeftParen ∷ fixed RightParen ∷ block_parts [])
do_so w x = simp (append_assoc, append-nil)

paren_so : (w x : Parts) → w ++ x ++ do_word ++ paren ++ [] ++ fixed RightParen ∷ [] ++ block_parts [] ≡ (w ++ x ++ do_word)
    ++ (fixed LeftParen ∷ fixed RightParen ∷ block_parts [])
paren_so w x = simp (append_assoc, append-nil)

names_so : (w n r z : Parts) → w ++ n ++ r ++ z ≡ w ++ ((n ++ r) ++ z)
names_so w n r z = simp append_assoc

only_body_so : (w n r z : Parts) → w ++ n ++ r ++ z ≡ (w ++ (n ++ r)) ++ (z ++ [])
only_body_so w n r z = simp (append_assoc, append-nil)

only_all_so : (w n r z : Parts) → w ++ n ++ r ++ z ≡ (w ++ (n ++ r)) ++ z
only_all_so w n r z = simp append_assoc

abbrev named_in : Stack
named_in = Must LeftBrace ∷ Body Main ∷ Body Main ∷ []

module _ (all : List Seen) (start : ℕ)
    (w : Whole all start (Body Main ∷ []) (start + 1) withonly_in (marked (Fixed WithonlyWord) (place_at all start) ∷ []))
  where
    abbrev p : Pos
    p = place_at all start

    pub section_refused : (e : Stop)
        → OnStop e (RefusalIn (FitsAll Section) block_parts all (start + 1) (block_in Section)) (LongIn (FitsAll Section) block_parts all (start + 1))
        → Halts Main all start e
    section_refused e o = after (Fits Main) (FitsAll Section) statement_parts block_parts all start (start + 1) (Body Main ∷ []) (block_in Section)
        (Must DoWord ∷ Must LeftParen ∷ Names ∷ named_in) (only p) (λ y. Withonly p y [] [])
        (fixed DoWord ∷ fixed LeftParen ∷ fixed RightParen ∷ block_parts [])
        e
        (λ y. withonly_is p y [] [] ∙ section_so (only p) (block_parts y)) (λ y f. withonly_fits p y [] [] f (none_fit Main)) (record { is = refl })
        (came_marked w) o

    module _ (closed : ℕ) (s : List Statement) (sr : ReadIn (FitsAll Section) block_parts all (start + 1) (block_in Section) closed [] s) where
      only_section : Came all start (Body Main ∷ []) closed (Must DoWord ∷ Must LeftParen ∷ Names ∷ named_in) (only p ++ block_parts s)
      only_section = came_on (came_marked w) (came_under (Must DoWord ∷ Must LeftParen ∷ Names ∷ named_in) (came_block sr))

      pub do_refused : (e : Stop) → OnOther e all closed (Must DoWord ∷ []) → Halts Main all start e
      do_refused e o = other (Fits Main) statement_parts all start closed (Body Main ∷ []) (Must DoWord ∷ []) (Must LeftParen ∷ Names ∷ named_in)
          (only p ++ block_parts s) (fixed DoWord ∷ fixed LeftParen ∷ fixed RightParen ∷ block_parts []) (Withonly p s [] []) e
          (withonly_is p s [] [] ∙ do_so (only p) (block_parts s)) (withonly_fits p s [] [] sr.fits (none_fit Main)) (record { is = refl }) only_section o

      module _ (done : ℕ) (d : Whole all closed (Must DoWord ∷ []) done [] (fixed DoWord ∷ [])) where
        only_done : Came all start (Body Main ∷ []) done (Must LeftParen ∷ Names ∷ named_in) (only p ++ block_parts s ++ do_word)
        only_done = came_on only_section (came_under (Must LeftParen ∷ Names ∷ named_in) (came_fixed d))

        pub paren_refused : (e : Stop) → OnOther e all done (Must LeftParen ∷ []) → Halts Main all start e
        paren_refused e o = other (Fits Main) statement_parts all start done (Body Main ∷ []) (Must LeftParen ∷ []) (Names ∷ named_in)
            (only p ++ block_parts s ++ do_word) (fixed LeftParen ∷ fixed RightParen ∷ block_parts []) (Withonly p s [] []) e
            (withonly_is p s [] [] ∙ paren_so (only p) (block_parts s)) (withonly_fits p s [] [] sr.fits (none_fit Main)) (record { is = refl }) only_done
            o

        module _ (opened : ℕ) (o : Whole all done (Must LeftParen ∷ []) opened [] (fixed LeftParen ∷ [])) where
          only_opened : Came all start (Body Main ∷ []) opened (Names ∷ named_in) (only p ++ block_parts s ++ do_word ++ paren)
          only_opened = came_on only_done (came_under (Names ∷ named_in) (came_fixed o))

          pub names_refused : (e : Stop) → OnStop e (RefusalIn Any named_list all opened (Names ∷ [])) (LongIn Any named_list all opened)
              → Halts Main all start e
          names_refused e q = after (Fits Main) Any statement_parts named_list all start opened (Body Main ∷ []) (Names ∷ []) named_in
              (only p ++ block_parts s ++ do_word ++ paren) (λ y. Withonly p s y []) (block_parts []) e
              (λ y. withonly_is p s y [] ∙ names_so (only p ++ block_parts s ++ do_word ++ paren) (name_parts y) (fixed RightParen ∷ []) (block_parts []))
              (λ y k. withonly_fits p s y [] sr.fits (none_fit Main)) (record { is = refl }) only_opened q

          module _ (at : ℕ) (ns : List Named) (nr : Came all opened (Names ∷ []) at [] (named_list ns)) where
            only_named : Came all start (Body Main ∷ []) at named_in ((only p ++ block_parts s ++ do_word ++ paren) ++ named_list ns)
            only_named = came_on only_opened (came_under named_in nr)

            pub task_refused : (e : Stop) → OnStop e (RefusalIn (FitsAll Main) block_parts all at (block_in Main))
                (LongIn (FitsAll Main) block_parts all at)
                → Halts Main all start e
            task_refused e q = after (Fits Main) (FitsAll Main) statement_parts block_parts all start at (Body Main ∷ []) (block_in Main) (Body Main ∷ [])
                ((only p ++ block_parts s ++ do_word ++ paren) ++ named_list ns) (λ y. Withonly p s ns y) [] e
                (λ y. withonly_is p s ns y ∙ only_body_so (only p ++ block_parts s ++ do_word ++ paren) (name_parts ns) (fixed RightParen ∷ [])
                (block_parts y))
                (λ y f. withonly_fits p s ns y sr.fits f) none_valid only_named q

            pub withonly_read : (end : ℕ) (b : List Statement) (q : Pos) → q ≡ place_at all start
                → ReadIn (FitsAll Main) block_parts all at (block_in Main) end [] b
                → ReadIn (Fits Main) statement_parts all start (Body Main ∷ []) end (Body Main ∷ []) (Withonly q s ns b)
            withonly_read end b q e r =
                let f = sr.further in
                let g = d.reads.forward in
                let h = o.reads.forward in
                let k = nr.whole.reads.forward in
                let m = r.further in
                rw e (read_in (Fits Main) statement_parts all start (start + 1) end (Body Main ∷ []) (Body Main ∷ []) _ (Withonly p s ns b)
                (withonly_is p s ns b ∙ only_all_so (only p ++ block_parts s ++ do_word ++ paren) (name_parts ns) (fixed RightParen ∷ []) (block_parts b))
                (withonly_fits p s ns b sr.fits r.fits) (omega arith) (omega arith) (came_on only_named (came_under (Body Main ∷ []) (came_block r))))

-- ---- `with`

with_is : (p : Pos) (s : List Statement) → statement_parts (With p s) ≡ marked (Fixed WithWord) p ∷ [] ++ block_parts s ++ fixed ContWord ∷ []
    ++ fixed Semicolon ∷ []
with_is p s = fold_out-Statement Parts at_statement (With p s) ∙ rw (outs-With p s) (simp flat_map-map)

with_fits : (p : Pos) (s : List Statement) → FitsAll Amends s → Fits Main (With p s)
with_fits p s f = record { is = placed_opens Main (With p s) ∙ rw (outs-With p s) f.is }

cont_so : (w x y z : Parts) → w ++ x ++ y ++ z ≡ w ++ (x ++ (y ++ z))
cont_so w x y z = simp append_assoc

module _ (all : List Seen) (start : ℕ) (w : Whole all start (Body Main ∷ []) (start + 1) with_in (marked (Fixed WithWord) (place_at all start) ∷ [])) where
  abbrev amending : Parts
  amending = marked (Fixed WithWord) (place_at all start) ∷ []

  pub amends_refused : (e : Stop)
      → OnStop e (RefusalIn (FitsAll Amends) block_parts all (start + 1) (block_in Amends)) (LongIn (FitsAll Amends) block_parts all (start + 1))
      → Halts Main all start e
  amends_refused e o = after (Fits Main) (FitsAll Amends) statement_parts block_parts all start (start + 1) (Body Main ∷ []) (block_in Amends)
      (Must ContWord ∷ Must Semicolon ∷ Body Main ∷ []) amending (λ y. With (place_at all start) y) (fixed ContWord ∷ fixed Semicolon ∷ []) e
      (λ y. with_is (place_at all start) y ∙ cont_so amending (block_parts y) (fixed ContWord ∷ []) (fixed Semicolon ∷ []))
      (λ y f. with_fits (place_at all start) y f) (record { is = refl }) (came_marked w) o

  module _ (closed : ℕ) (s : List Statement) (sr : ReadIn (FitsAll Amends) block_parts all (start + 1) (block_in Amends) closed [] s) where
    with_section : Came all start (Body Main ∷ []) closed (Must ContWord ∷ Must Semicolon ∷ Body Main ∷ []) (amending ++ block_parts s)
    with_section = came_on (came_marked w) (came_under (Must ContWord ∷ Must Semicolon ∷ Body Main ∷ []) (came_block sr))

    pub cont_refused : (e : Stop) → OnOther e all closed (Must ContWord ∷ []) → Halts Main all start e
    cont_refused e o = other (Fits Main) statement_parts all start closed (Body Main ∷ []) (Must ContWord ∷ []) (Must Semicolon ∷ Body Main ∷ [])
        (amending ++ block_parts s) (fixed ContWord ∷ fixed Semicolon ∷ []) (With (place_at all start) s) e
        (with_is (place_at all start) s ∙ append_assoc (amending ++ block_parts s) (fixed ContWord ∷ []) (fixed Semicolon ∷ []))
        (with_fits (place_at all start) s sr.fits) (record { is = refl }) with_section o

    module _ (done : ℕ) (d : Whole all closed (Must ContWord ∷ []) done [] (fixed ContWord ∷ [])) where
      with_done : Came all start (Body Main ∷ []) done (Must Semicolon ∷ Body Main ∷ []) (amending ++ block_parts s ++ fixed ContWord ∷ [])
      with_done = came_on with_section (came_under (Must Semicolon ∷ Body Main ∷ []) (came_fixed d))

      pub with_open : (e : Stop) → OnOther e all done (Must Semicolon ∷ []) → Halts Main all start e
      with_open e o = other (Fits Main) statement_parts all start done (Body Main ∷ []) (Must Semicolon ∷ []) (Body Main ∷ [])
          (amending ++ block_parts s ++ fixed ContWord ∷ []) (fixed Semicolon ∷ []) (With (place_at all start) s) e
          (with_is (place_at all start) s) (with_fits (place_at all start) s sr.fits) (record { is = refl }) with_done o

      pub with_read : (end : ℕ) (q : Pos) → q ≡ place_at all start → Whole all done (Must Semicolon ∷ []) end [] (fixed Semicolon ∷ [])
          → ReadIn (Fits Main) statement_parts all start (Body Main ∷ []) end (Body Main ∷ []) (With q s)
      with_read end q e z =
          let f = sr.further in
          let g = d.reads.forward in
          let h = z.reads.forward in
          rw e (read_in (Fits Main) statement_parts all start (start + 1) end (Body Main ∷ []) (Body Main ∷ []) _ (With (place_at all start) s)
          (with_is (place_at all start) s) (with_fits (place_at all start) s sr.fits) (omega arith) (omega arith)
          (came_on with_done (came_under (Body Main ∷ []) (came_fixed z))))

-- in a place that is the body
pub in_main : (all : List Seen) (start : ℕ) (c : BlockKind) (e : Stop) → c ≡ Main → Halts Main all start e → Halts c all start e
in_main all start c e k h = rw k h

pub read_main : (all : List Seen) (start end : ℕ) (c : BlockKind) (s : Statement) → c ≡ Main
    → ReadIn (Fits Main) statement_parts all start (Body Main ∷ []) end (Body Main ∷ []) s
    → ReadIn (Fits c) statement_parts all start (Body c ∷ []) end (Body c ∷ []) s
read_main all start end c s k r = rw k r

-- The steps of the parser that are no chains.
use Rattle.std.proofs.Common.{◌≡◌, ℕ, ◌+◌, ◌≤◌, List, [], ◌∷◌, ◌++◌, refl, ◌∙◌, length, drop, codes, arith}
use Rattle.std.proofs.Common.{append_assoc, append-nil, Some, None, Result, Ok, Err, MatchResult, IsErrAnd}
use Rattle.std.proofs.Common.{Global, Bool, true, false}
use denote.RawPtr.{null_ptr}
use Rattle.std.specs.List.{flat_map}
use Rattle.std.specs.declared.boxed.Box.{Box}
use Rattle.jade_base.specs.declared.place.Pos.{Pos}
use Rattle.jade_syntax.specs.declared.tree.Relation.{Relation}
use Rattle.jade_syntax.specs.declared.tree.UnaryOp.{UnaryOp}
use Rattle.jade_syntax.specs.declared.tree.Atom.{Atom, fold_out-Atom}
use Rattle.jade_syntax.specs.declared.tree.Atom.TheVariants.{Whole as WholeAtom, Truth, Group, Named, Cell, outs-Whole, outs-Truth, outs-Named, outs-Cell}
use Rattle.jade_syntax.specs.declared.tree.AndExpr.{roll-AndExpr}
use Rattle.jade_syntax.specs.declared.tree.CellRef.{CellRef, roll-CellRef, fold-roll-CellRef}
use Rattle.jade_syntax.specs.declared.tree.Compare.{roll-Compare, fold-roll-Compare}
use Rattle.jade_syntax.specs.declared.tree.Expr.{Expr, roll-Expr}
use Rattle.jade_syntax.specs.declared.tree.Product.{roll-Product}
use Rattle.jade_syntax.specs.declared.tree.Sum.{Sum, roll-Sum}
use Rattle.jade_syntax.specs.declared.tree.Number.{Number}
use Rattle.jade_parser.specs.Spelled.{Fixed, Called, Counted, Parts, marked, fixed, AllValid, expr_parts}
use Rattle.jade_parser.specs.Spelled.{compare_parts, sum_parts, unary_parts, atom_parts, cell_parts}
use Rattle.jade_parser.specs.Spelled.{relation_sign, truth_word, sign_part, bracketed, at_atom, at_and}
use Rattle.jade_parser.specs.Spelled.{at_cell, at_compare, at_expr, at_product, at_sum, at_unary}
use Rattle.jade_parser.specs.declared.Sign.{Sign}
use Rattle.jade_parser.specs.declared.Sign.TheVariants.{TrueWord, FalseWord, LeftParen, RightParen, LeftBracket, RightBracket}
use Rattle.jade_parser.specs.steps.Machine.{Stack, Need, Rest, Second, Must, unary_in, sum_in, compare_in, expr_in, goes}
use Rattle.jade_parser.specs.declared.Seen.{Seen}
use Rattle.jade_parser.specs.declared.Stop.{Stop}
use Rattle.jade_parser.specs.declared.Stop.TheVariants.{Token as AtToken, Long, Memory}
use Rattle.jade_parser.specs.steps.Reads.{place_at, Stops, Passes, Whole, Refusal, OnToken, OnStop, OnOther, closed, head_sign, kinds}
use Rattle.jade_parser.proofs.Spelling.{unary_opens, group_made}
use Rattle.jade_parser.proofs.Reading.{whole_past, whole_none, whole_on, whole_under, refusal_under, refused_on, lift, reads_none, none_valid}
use Rattle.jade_parser.proofs.Standing.{takes_marked}

pub residual : {T : Type 0} (r : Result T Stop) (e : Stop) (P : T → Type 0) (Q : Stop → Type 0) → IsErrAnd r (λ y. y ≡ e) → Q e → MatchResult r P Q
residual (Ok x) e P Q h q = elim h [ ]
residual (Err y) e P Q h q = rw h q

pub alone_made : (l : Sum) → compare_parts (roll-Compare (record { left = l; right = None })) ≡ sum_parts l ++ []
alone_made l = fold-roll-Compare Parts Parts Parts Parts Parts Parts Parts Parts at_atom at_and at_cell at_compare at_expr at_product at_sum at_unary
    (record { left = l; right = None })

pub pair_made : (l r : Sum) (o : Relation) (p : Pos) → compare_parts (roll-Compare (record { left = l; right = Some (o, p, r) })) ≡ sum_parts l
    ++ marked (relation_sign o) p ∷ sum_parts r
pair_made l r o p = fold-roll-Compare Parts Parts Parts Parts Parts Parts Parts Parts at_atom at_and at_cell at_compare at_expr at_product at_sum at_unary
    (record { left = l; right = Some (o, p, r) })

pub single_made : (n : List ℕ) (p : Pos) (c : Expr) → cell_parts (roll-CellRef (record { name = n; pos = p; family = None; cell = c }))
    ≡ marked (Called n) p
    ∷ bracketed (expr_parts c)
single_made n p c = fold-roll-CellRef Parts Parts Parts Parts Parts Parts Parts Parts at_atom at_and at_cell at_compare at_expr at_product at_sum at_unary
    (record { name = n; pos = p; family = None; cell = c })

pub member_made : (n : List ℕ) (p : Pos) (o c : Expr) → cell_parts (roll-CellRef (record { name = n; pos = p; family = Some o; cell = c }))
    ≡ marked (Called n) p ∷ (bracketed (expr_parts o) ++ bracketed (expr_parts c))
member_made n p o c = fold-roll-CellRef Parts Parts Parts Parts Parts Parts Parts Parts at_atom at_and at_cell at_compare at_expr at_product at_sum
    at_unary
    (record { name = n; pos = p; family = Some o; cell = c })

pub named_made : (n : List ℕ) (p : Pos) → atom_parts (Named n p) ≡ marked (Called n) p ∷ []
named_made n p = fold_out-Atom Parts Parts Parts Parts Parts Parts Parts Parts at_atom at_and at_cell at_compare at_expr at_product at_sum at_unary
    (Named n p)
    ∙ rw (outs-Named n p) refl

pub whole_made : (n : Number) → atom_parts (WholeAtom n) ≡ marked (Counted n.value) n.pos ∷ []
whole_made n = fold_out-Atom Parts Parts Parts Parts Parts Parts Parts Parts at_atom at_and at_cell at_compare at_expr at_product at_sum at_unary
    (WholeAtom n)
    ∙ rw (outs-Whole n) refl

pub truth_made : (b : _) (p : Pos) → atom_parts (Truth b p) ≡ marked (truth_word b) p ∷ []
truth_made b p = fold_out-Atom Parts Parts Parts Parts Parts Parts Parts Parts at_atom at_and at_cell at_compare at_expr at_product at_sum at_unary
    (Truth b p)
    ∙ rw (outs-Truth b p) refl

pub cell_made : (b : Box CellRef Global) → atom_parts (Cell b) ≡ cell_parts b.value
cell_made b = fold_out-Atom Parts Parts Parts Parts Parts Parts Parts Parts at_atom at_and at_cell at_compare at_expr at_product at_sum at_unary (Cell b)
    ∙ rw (outs-Cell b) refl

-- a shortest tree
abbrev pub some_atom : Atom
some_atom = Named (codes "x") (record { line = 0; column = 0 })

abbrev pub some_expr : Expr
some_expr = roll-Expr (record {
  first =
      roll-AndExpr (record {
        first = roll-Compare
            (record {
              left = roll-Sum (record { first = roll-Product (record { first = record { signs = []; atom = some_atom }; rest = [] }); rest = [] });
              right =
                  None;
            });
        rest = [];
      });
  rest = [];
})

pub compare_first : (all : List Seen) (start : ℕ) (e : Stop) → start ≤ length all → OnToken e (Refusal sum_parts all start sum_in)
    → OnToken e (Refusal compare_parts all start compare_in)
compare_first all start e le o = lift e (Refusal sum_parts all start sum_in) (Refusal compare_parts all start compare_in)
    (λ k r. refused_on compare_parts sum_parts all start start compare_in compare_in [] (λ y. roll-Compare (record { left = y; right = None })) []
    alone_made
    none_valid (whole_none all start compare_in le) k (refusal_under (Rest 3 ∷ []) r)) o

pub compare_second : (all : List Seen) (start at next : ℕ) (l : Sum) (op : Relation) (p : Pos) (e : Stop) → Whole all start sum_in at [] (sum_parts l)
    → Whole all at (Rest 3 ∷ []) next sum_in (marked (relation_sign op) p ∷ [])
    → OnToken e (Refusal sum_parts all next sum_in) → OnToken e (Refusal compare_parts all start compare_in)
compare_second all start at next l op p e w step o = lift e (Refusal sum_parts all next sum_in) (Refusal compare_parts all start compare_in)
    (λ k r. refused_on compare_parts sum_parts all start next compare_in sum_in (sum_parts l ++ marked (relation_sign op) p ∷ [])
    (λ y. roll-Compare (record { left = l; right = Some (op, p, y) })) []
    (λ y. pair_made l y op p ∙ simp (append_assoc, append-nil)) none_valid (whole_on (whole_under (Rest 3 ∷ []) w) step) k r) o

pub compare_both : (all : List Seen) (start at next end : ℕ) (l r : Sum) (op : Relation) (p : Pos) → Whole all start sum_in at [] (sum_parts l)
    → Whole all at (Rest 3 ∷ []) next sum_in (marked (relation_sign op) p ∷ [])
    → Whole all next sum_in end [] (sum_parts r)
    → Whole all start compare_in end [] (compare_parts (roll-Compare (record { left = l; right = Some (op, p, r) })))
compare_both all start at next end l r op p w step q = rw (pair_made l r op p) (whole_on (whole_under (Rest 3 ∷ []) w) (whole_on step q))

pub unary_refused : (all : List Seen) (start at : ℕ) (signs : List (UnaryOp × Pos)) (e : Stop)
    → Whole all start (Need ∷ []) at (Need ∷ []) (flat_map sign_part signs)
    → OnToken e (Refusal atom_parts all at unary_in) → OnToken e (Refusal unary_parts all start unary_in)
unary_refused all start at signs e w o = lift e (Refusal atom_parts all at unary_in) (Refusal unary_parts all start unary_in)
    (λ k r. refused_on unary_parts atom_parts all start at unary_in unary_in (flat_map sign_part signs) (λ y. record { signs = signs; atom = y }) []
    (λ y. unary_opens (record { signs = signs; atom = y }) ∙ simp append-nil) none_valid w k r) o

pub closed_first : (all : List Seen) (start : ℕ) (closer : Sign) (e : Stop) → start ≤ length all → OnToken e (Refusal expr_parts all start expr_in)
    → OnToken e (Refusal (closed closer) all start (expr_in ++ Must closer ∷ []))
closed_first all start closer e le o = lift e (Refusal expr_parts all start expr_in) (Refusal (closed closer) all start (expr_in ++ Must closer ∷ []))
    (λ k r. refused_on (closed closer) expr_parts all start start (expr_in ++ Must closer ∷ []) (expr_in ++ Must closer ∷ []) [] (λ y. y)
    (fixed closer ∷ [])
    (λ y. refl) (record { is = refl }) (whole_none all start _ le) k (refusal_under (Must closer ∷ []) r)) o

only_token : (e : Stop) (P : ℕ → Type 0) → OnStop e P (λ k. ⊥) → OnToken e P
only_token (AtToken k) P o = o
only_token (Long k) P o = o
only_token Memory P o = tt

-- after the expression another token than the closing one stands
pub closed_second : (all : List Seen) (start at : ℕ) (closer : Sign) (x : Expr) (e : Stop) → Whole all start expr_in at [] (expr_parts x)
    → OnOther e all at (Must closer ∷ [])
    → OnToken e (Refusal (closed closer) all start (expr_in ++ Must closer ∷ []))
closed_second all start at closer x e w o =
    lift e (λ k. (k ≡ at) × Stops all at (Must closer ∷ []) at) (Refusal (closed closer) all start (expr_in ++ Must closer ∷ []))
    (λ k s. rw (s.0) (refused_here all start at closer x w s.1)) (only_token e _ o)
  where
    refused_here : (all : List Seen) (start at : ℕ) (closer : Sign) (x : Expr) → Whole all start expr_in at [] (expr_parts x)
        → Stops all at (Must closer ∷ []) at → Refusal (closed closer) all start (expr_in ++ Must closer ∷ []) at
    refused_here all start at closer x w s =
        let u = whole_under (Must closer ∷ []) w in
        record {
          stops = record { by = λ st. u.passes.by st ∙ s.by st };
          begun =
              record { read = expr_parts x; more = fixed closer ∷ []; tree = x; reads = w.reads; by = refl; valid = record { is = refl } };
        }

-- a part that stands alone after some tokens
pub after_refused : {X Y : Type 0} (f : X → Parts) (g : Y → Parts) (all : List Seen) (a b : ℕ) (xs ys : Stack) (s : Parts) (make : Y → X) (z : Parts)
    (e : Stop)
    → ((y : Y) → f (make y) ≡ s ++ (g y ++ z)) → AllValid z → Whole all a xs b ys s → OnToken e (Refusal g all b ys) → OnToken e (Refusal f all a xs)
after_refused f g all a b xs ys s make z e eq v w o =
    lift e (Refusal g all b ys) (Refusal f all a xs) (λ k r. refused_on f g all a b xs ys s make z eq v w k r) o

-- nothing begins here
pub atom_refused : (all : List Seen) (at : ℕ) → at ≤ length all → ((st : Stack) → goes (drop at (kinds all)) (Need ∷ st) ≡ 0)
    → Refusal atom_parts all at unary_in at
atom_refused all at le stop = record {
  stops = record { by = λ st. let s = stop st in omega (arith, s) };
  begun = record {
    read = [];
    more = marked (Called (codes "x")) (record { line = 0; column = 0 }) ∷ [];
    tree = some_atom;
    reads = reads_none all at le;
    by =
        named_made (codes "x") (record { line = 0; column = 0 });
    valid = record { is = refl };
  };
}

pub cell_first : (all : List Seen) (start next : ℕ) (n : List ℕ) (p : Pos) (e : Stop)
    → Whole all start (Need ∷ []) next (expr_in ++ Must RightBracket ∷ Second ∷ []) (marked (Called n) p ∷ fixed LeftBracket ∷ [])
    → OnToken e (Refusal (closed RightBracket) all next (expr_in ++ Must RightBracket ∷ [])) → OnToken e (Refusal cell_parts all start unary_in)
cell_first all start next n p e w o =
    lift e (Refusal (closed RightBracket) all next (expr_in ++ Must RightBracket ∷ [])) (Refusal cell_parts all start unary_in)
    (λ k r. refused_on cell_parts (closed RightBracket) all start next unary_in (expr_in ++ Must RightBracket ∷ Second ∷ [])
    (marked (Called n) p ∷ fixed LeftBracket ∷ []) (λ y. roll-CellRef (record { name = n; pos = p; family = None; cell = y })) []
    (λ y. single_made n p y ∙ simp append-nil) none_valid w k (refusal_under (Second ∷ []) r)) o

pub cell_second : (all : List Seen) (start next at then : ℕ) (n : List ℕ) (p : Pos) (x : Expr) (e : Stop)
    → Whole all start (Need ∷ []) next (expr_in ++ Must RightBracket ∷ Second ∷ []) (marked (Called n) p ∷ fixed LeftBracket ∷ [])
    → Whole all next (expr_in ++ Must RightBracket ∷ []) at [] (closed RightBracket x)
    → Whole all at (Second ∷ []) then (expr_in ++ Must RightBracket ∷ []) (fixed LeftBracket ∷ [])
    → OnToken e (Refusal (closed RightBracket) all then (expr_in ++ Must RightBracket ∷ [])) → OnToken e (Refusal cell_parts all start unary_in)
cell_second all start next at then n p x e w q step o =
    lift e (Refusal (closed RightBracket) all then (expr_in ++ Must RightBracket ∷ [])) (Refusal cell_parts all start unary_in)
    (λ k r. refused_on cell_parts (closed RightBracket) all start then unary_in (expr_in ++ Must RightBracket ∷ [])
    (((marked (Called n) p ∷ fixed LeftBracket ∷ []) ++ closed RightBracket x) ++ fixed LeftBracket ∷ [])
    (λ y. roll-CellRef (record { name = n; pos = p; family = Some x; cell = y })) []
    (λ y. member_made n p x y ∙ simp (append_assoc, append-nil)) none_valid (whole_on (whole_on w (whole_under (Second ∷ []) q)) step) k r) o

pub cell_both : (all : List Seen) (start next at then end : ℕ) (n : List ℕ) (p : Pos) (x y : Expr)
    → Whole all start (Need ∷ []) next (expr_in ++ Must RightBracket ∷ Second ∷ []) (marked (Called n) p ∷ fixed LeftBracket ∷ [])
    → Whole all next (expr_in ++ Must RightBracket ∷ []) at [] (closed RightBracket x)
    → Whole all at (Second ∷ []) then (expr_in ++ Must RightBracket ∷ []) (fixed LeftBracket ∷ [])
    → Whole all then (expr_in ++ Must RightBracket ∷ []) end [] (closed RightBracket y)
    → Whole all start unary_in end [] (cell_parts (roll-CellRef (record { name = n; pos = p; family = Some x; cell = y })))
cell_both all start next at then end n p x y w q step r = rw (member_made n p x y) (whole_on (whole_on w (whole_under (Second ∷ []) q)) (whole_on step r))

pub cell_alone : (all : List Seen) (start next at : ℕ) (n : List ℕ) (p : Pos) (x : Expr)
    → Whole all start (Need ∷ []) next (expr_in ++ Must RightBracket ∷ Second ∷ []) (marked (Called n) p ∷ fixed LeftBracket ∷ [])
    → Whole all next (expr_in ++ Must RightBracket ∷ []) at [] (closed RightBracket x) → Passes all at (Second ∷ []) at []
    → Whole all start unary_in at [] (cell_parts (roll-CellRef (record { name = n; pos = p; family = None; cell = x })))
cell_alone all start next at n p x w q none = rw (single_made n p x) (whole_past (whole_on w (whole_under (Second ∷ []) q)) none)

abbrev pub truth_sign : Bool → Sign
truth_sign true = TrueWord
truth_sign false = FalseWord

pub truth_here : (all : List Seen) (at : ℕ) (s : Sign) (b : Bool) (p : Pos) → p ≡ place_at all at → s ≡ truth_sign b → Some s
    ≡ head_sign (drop at (kinds all))
    → Whole all at unary_in (at + 1) [] (atom_parts (Truth b p))
truth_here all at s true p q e h = rw (truth_made true p, q) (takes_marked all at TrueWord unary_in [] (rw (← e) h) (λ rest st. refl))
truth_here all at s false p q e h = rw (truth_made false p, q) (takes_marked all at FalseWord unary_in [] (rw (← e) h) (λ rest st. refl))

open_here : (all : List Seen) (at : ℕ) (s : Sign) → s ≡ LeftParen → Some s ≡ head_sign (drop at (kinds all))
    → Whole all at unary_in (at + 1) (expr_in ++ Must RightParen ∷ []) (marked (Fixed LeftParen) (place_at all at) ∷ [])
open_here all at s e h = takes_marked all at LeftParen unary_in (expr_in ++ Must RightParen ∷ []) (rw (← e) h) (λ rest st. refl)

pub group_refused : (all : List Seen) (at : ℕ) (s : Sign) (a : Global) (e : Stop) → s ≡ LeftParen → Some s ≡ head_sign (drop at (kinds all))
    → OnToken e (Refusal (closed RightParen) all (at + 1) (expr_in ++ Must RightParen ∷ []))
    → OnToken e (Refusal atom_parts all at unary_in)
group_refused all at s a e i h o =
    after_refused atom_parts (closed RightParen) all at (at + 1) unary_in (expr_in ++ Must RightParen ∷ [])
    (marked (Fixed LeftParen) (place_at all at) ∷ [])
    (λ y. Group (place_at all at) (record { ptr = null_ptr; alloc = a; value = y })) [] e
    (λ y. group_made (place_at all at) (record { ptr = null_ptr; alloc = a; value = y }) ∙ simp append-nil) none_valid (open_here all at s i h) o

pub group_read : (all : List Seen) (at end : ℕ) (s : Sign) (p : Pos) (x : Expr) (b : Box Expr Global) → p ≡ place_at all at → s ≡ LeftParen → Some s
    ≡ head_sign (drop at (kinds all)) → b.value ≡ x → Whole all (at + 1) (expr_in ++ Must RightParen ∷ []) end [] (closed RightParen x)
    → Whole all at unary_in end [] (atom_parts (Group p b))
group_read all at end s p x b q i h e w = rw (group_made p b, e, q) (whole_on (open_here all at s i h) w)

pub named_refused : (all : List Seen) (at : ℕ) (a : Global) (e : Stop) → OnToken e (Refusal cell_parts all at unary_in)
    → OnToken e (Refusal atom_parts all at unary_in)
named_refused all at a e o = lift e (Refusal cell_parts all at unary_in) (Refusal atom_parts all at unary_in)
    (λ k r. record {
      stops = r.stops;
      begun =
          record {
            read = r.begun.read;
            more = r.begun.more;
            tree = Cell (record { ptr = null_ptr; alloc = a; value = r.begun.tree });
            reads = r.begun.reads;
            by =
                cell_made (record { ptr = null_ptr; alloc = a; value = r.begun.tree }) ∙ r.begun.by;
            valid = r.begun.valid;
          };
    }) o

-- For the parts of a tree whose names and places are given anew, one by one, there is a tree.
use Rattle.std.proofs.Common.{◌≡◌, ℕ, suc, ◌+◌, true, false, List, [], ◌∷◌, ◌++◌, Option, Some, None, map, refl, sym, ap, ◌∙◌}
use Rattle.std.specs.List.{flat_map}
use Rattle.jade_base.specs.declared.place.Pos.{Pos}
use Rattle.jade_syntax.specs.declared.tree.Relation.{Relation}
use Rattle.jade_syntax.specs.declared.tree.Relation.TheVariants.{Equal, Unequal, Less, LessEqual, Greater, GreaterEqual}
use Rattle.jade_syntax.specs.declared.tree.SumOp.{SumOp}
use Rattle.jade_syntax.specs.declared.tree.SumOp.TheVariants.{Plus, Minus}
use Rattle.jade_syntax.specs.declared.tree.ProductOp.{ProductOp}
use Rattle.jade_syntax.specs.declared.tree.ProductOp.TheVariants.{Times, Over, Remainder}
use Rattle.jade_syntax.specs.declared.tree.UnaryOp.{UnaryOp}
use Rattle.jade_syntax.specs.declared.tree.UnaryOp.TheVariants.{Negative, Not}
use Rattle.jade_syntax.specs.declared.tree.Atom.{Atom, roll-Atom, fold-roll-Atom, map-Atom}
use Rattle.jade_syntax.specs.declared.tree.Atom.TheOpen.{Atom-F, CellRef-F, Compare-F}
use Rattle.jade_syntax.specs.declared.tree.AndExpr.{AndExpr, roll-AndExpr}
use Rattle.jade_syntax.specs.declared.tree.CellRef.{CellRef, roll-CellRef, out-CellRef, out-roll-CellRef, map-CellRef}
use Rattle.jade_syntax.specs.declared.tree.Compare.{Compare, roll-Compare, map-Compare}
use Rattle.jade_syntax.specs.declared.tree.Expr.{Expr, roll-Expr, ind-Expr}
use Rattle.jade_syntax.specs.declared.tree.Named.{Named}
use Rattle.jade_syntax.specs.declared.tree.ObjectRef.{ObjectRef}
use Rattle.jade_syntax.specs.declared.tree.Product.{Product, roll-Product}
use Rattle.jade_syntax.specs.declared.tree.Sum.{Sum, roll-Sum}
use Rattle.jade_syntax.specs.declared.tree.Unary.{Unary}
use Rattle.jade_syntax.specs.Abstract.{Name}
use Rattle.jade_parser.specs.declared.Sign.TheVariants.{LeftParen, RightParen, LeftBracket, RightBracket, OrSign, AndSign, Comma}
use Rattle.jade_parser.specs.Spelled as spelled
use Rattle.jade_parser.specs.Spelled.{Token, Fixed, Called, Counted, Unknown, Part, Parts, marked, fixed, bracketed, numbered, outer}
use Rattle.jade_parser.specs.Spelled.{truth_word, relation_sign, sum_sign, product_sign, unary_sign}
use Rattle.jade_parser.specs.Spelled.{expr_parts, and_parts, cell_parts, compare_parts, sum_parts, product_parts, unary_parts, atom_parts}
use Rattle.jade_parser.specs.Spelled.{or_part, and_part, sum_part, product_part, sign_part}
use Rattle.jade_parser.specs.Statements.{outer_index, object_parts, target_parts, more_names, name_parts}
use Rattle.jade_parser.proofs.Spelling.{expr_made, and_made, sum_made, product_made, unary_opens}
use Rattle.jade_parser.proofs.Steps.{alone_made, pair_made, single_made, member_made}
use Rattle.proc_laws.proofs.PlacesInText.{after}

atom_made : (f : Atom-F Atom AndExpr CellRef Compare Expr Product Sum Unary) → atom_parts (roll-Atom f)
    ≡ spelled.at_atom (map-Atom Atom AndExpr CellRef Compare Expr Product Sum Unary Parts Parts Parts Parts Parts Parts Parts Parts atom_parts and_parts
    cell_parts compare_parts expr_parts product_parts sum_parts unary_parts f)
atom_made f = fold-roll-Atom Parts Parts Parts Parts Parts Parts Parts Parts spelled.at_atom spelled.at_and spelled.at_cell spelled.at_compare
    spelled.at_expr spelled.at_product spelled.at_sum spelled.at_unary f

-- `name` gives the name of each token that is one, `home` its place
module _ (name : ℕ → Name) (home : ℕ → Pos) where
  abbrev pub again_token : ℕ → Token → Token
  again_token k (Fixed s) = Fixed s
  again_token k (Called x) = Called (name k)
  again_token k (Counted v) = Counted v
  again_token k Unknown = Unknown

  abbrev pub again_at : ℕ → Option Pos → Option Pos
  again_at k None = None
  again_at k (Some p) = Some (home k)

  abbrev pub again_part : ℕ → Part → Part
  again_part k p = record { token = again_token k p.token; at = again_at k p.at; nth = p.nth }

  -- the parts that begin at a place
  abbrev pub again : ℕ → Parts → Parts
  again k [] = []
  again k (p ∷ ps) = again_part k p ∷ again (suc k) ps

  pub again_both : (k : ℕ) (a b : Parts) → again k (a ++ b) ≡ again k a ++ again (after k a) b
  again_both k [] b = refl
  again_both k (p ∷ a) b = ap (λ (l : Parts). again_part k p ∷ l) (again_both (suc k) a b)

  pub after_again : (j k : ℕ) (ps : Parts) → after j (again k ps) ≡ after j ps
  after_again j k [] = refl
  after_again j k (p ∷ ps) = after_again (suc j) (suc k) ps

  again_numbered : (k n : ℕ) (ps : Parts) → again k (numbered n ps) ≡ numbered n (again k ps)
  again_numbered k n [] = refl
  again_numbered k n (p ∷ ps) =
      ap (λ (l : Parts). record { token = again_token k p.token; at = again_at k p.at; nth = n + 1 } ∷ l) (again_numbered (suc k) (n + 1) ps)

  -- a tree whose parts are these, given anew from a place on
  pub record Again (T : Type 0) (parts : T → Parts) (k : ℕ) (ps : Parts) : Type 0 where
    pub tree : T
    pub is : parts tree ≡ again k ps

  pub by : {T : Type 0} (parts : T → Parts) (k : ℕ) (ps qs : Parts) → ps ≡ qs → Again T parts k qs → Again T parts k ps
  by parts k ps qs e g = record { tree = g.tree; is = g.is ∙ ap (again k) (sym e) }

  -- parts after parts
  pub pair : {T U V : Type 0} (f : T → Parts) (g : U → Parts) (h : V → Parts) (make : T → U → V) → ((t : T) (u : U) → h (make t u) ≡ f t ++ g u)
      → (k : ℕ) (a b : Parts) → Again T f k a → Again U g (after k a) b → Again V h k (a ++ b)
  pair f g h make made k a b x y = record {
    tree = make x.tree y.tree;
    is = made x.tree y.tree ∙ (λ i. x.is i ++ y.is i) ∙ sym (again_both k a b);
  }

  -- a part before parts
  pub next : {T V : Type 0} (f : T → Parts) (h : V → Parts) (make : T → V) (k : ℕ) (p : Part) (ps : Parts)
      → ((t : T) → h (make t) ≡ again_part k p ∷ f t) → Again T f (suc k) ps → Again V h k (p ∷ ps)
  next f h make k p ps made x = record { tree = make x.tree; is = made x.tree ∙ ap (λ (l : Parts). again_part k p ∷ l) x.is }

  -- a part after parts
  pub ended : {T : Type 0} (f : T → Parts) (k : ℕ) (p : Part) (ps : Parts) → ((j : ℕ) → again_part j p ≡ p) → Again T f k ps
      → Again T (λ t. f t ++ p ∷ []) k (ps ++ p ∷ [])
  ended f k p ps s x = record {
    tree = x.tree;
    is = (λ i. x.is i ++ sym (s (after k ps)) i ∷ []) ∙ sym (again_both k ps (p ∷ []));
  }

  -- links of a chain
  links : {L M : Type 0} (whole : L → Parts) (f : M → L) → ((m : M) (k : ℕ) → Again L whole k (whole (f m))) → (xs : List M) (k : ℕ)
      → Again (List L) (flat_map whole) k (flat_map whole (map f xs))
  links whole f each [] k = record { tree = []; is = refl }
  links {L} whole f each (x ∷ xs) k =
      pair whole (flat_map whole) (flat_map whole) (λ (t : L) (u : List L). t ∷ u) (λ t u. refl) k (whole (f x)) (flat_map whole (map f xs)) (each x k)
      (links whole f each xs (after k (whole (f x))))

  -- ---- signs stay

  sum_stays : (k : ℕ) (o : SumOp) → again_token k (sum_sign o) ≡ sum_sign o
  sum_stays k Plus = refl
  sum_stays k Minus = refl

  product_stays : (k : ℕ) (o : ProductOp) → again_token k (product_sign o) ≡ product_sign o
  product_stays k Times = refl
  product_stays k Over = refl
  product_stays k Remainder = refl

  relation_stays : (k : ℕ) (o : Relation) → again_token k (relation_sign o) ≡ relation_sign o
  relation_stays k Equal = refl
  relation_stays k Unequal = refl
  relation_stays k Less = refl
  relation_stays k LessEqual = refl
  relation_stays k Greater = refl
  relation_stays k GreaterEqual = refl

  unary_stays : (k : ℕ) (o : UnaryOp) → again_token k (unary_sign o) ≡ unary_sign o
  unary_stays k Negative = refl
  unary_stays k Not = refl

  pub square : {T : Type 0} (f : T → Parts) (k : ℕ) (ps : Parts) → Again T f (suc k) ps → Again T (λ t. bracketed (f t)) k (bracketed ps)
  square f k ps x =
      next (λ t. f t ++ fixed RightBracket ∷ []) (λ t. bracketed (f t)) (λ t. t) k (fixed LeftBracket) (ps ++ fixed RightBracket ∷ []) (λ t. refl)
      (ended f (suc k) (fixed RightBracket) ps (λ j. refl) x)

  -- ---- chains

  module _ {D : Type 0} (d : D → Compare) (each : (x : D) (k : ℕ) → Again Compare compare_parts k (compare_parts (d x))) where
    and_again : (x : D) (xs : List (Pos × D)) (k : ℕ)
        → Again AndExpr and_parts k (and_parts (roll-AndExpr (record { first = d x; rest = map (λ (p : Pos × D). (p.0, d p.1)) xs })))
    and_again x xs k =
        by and_parts k _ _ (and_made (d x) (map (λ (p : Pos × D). (p.0, d p.1)) xs))
        (pair compare_parts (flat_map and_part) and_parts (λ t u. roll-AndExpr (record { first = t; rest = u })) and_made k (compare_parts (d x)) _ (each x k)
        (links and_part (λ (p : Pos × D). (p.0, d p.1))
        (λ m j. next compare_parts and_part (λ t. (home j, t)) j (marked (Fixed AndSign) m.0) (compare_parts (d m.1)) (λ t. refl) (each m.1 (suc j)))
        xs (after k (compare_parts (d x)))))

  module _ {B : Type 0} (b : B → AndExpr) (each : (x : B) (k : ℕ) → Again AndExpr and_parts k (and_parts (b x))) where
    or_again : (x : B) (xs : List (Pos × B)) (k : ℕ)
        → Again Expr expr_parts k (expr_parts (roll-Expr (record { first = b x; rest = map (λ (p : Pos × B). (p.0, b p.1)) xs })))
    or_again x xs k =
        by expr_parts k _ _ (expr_made (b x) (map (λ (p : Pos × B). (p.0, b p.1)) xs))
        (pair and_parts (flat_map or_part) expr_parts (λ t u. roll-Expr (record { first = t; rest = u })) expr_made k (and_parts (b x)) _ (each x k)
        (links or_part (λ (p : Pos × B). (p.0, b p.1))
        (λ m j. next and_parts or_part (λ t. (home j, t)) j (marked (Fixed OrSign) m.0) (and_parts (b m.1)) (λ t. refl) (each m.1 (suc j)))
        xs (after k (and_parts (b x)))))

  module _ {H : Type 0} (h : H → Unary) (each : (x : H) (k : ℕ) → Again Unary unary_parts k (unary_parts (h x))) where
    product_again : (x : H) (xs : List (ProductOp × Pos × H)) (k : ℕ)
        → Again Product product_parts k
        (product_parts (roll-Product (record { first = h x; rest = map (λ (p : ProductOp × Pos × H). (p.0, p.1, h p.2)) xs })))
    product_again x xs k =
        by product_parts k _ _ (product_made (h x) (map (λ (p : ProductOp × Pos × H). (p.0, p.1, h p.2)) xs))
        (pair unary_parts (flat_map product_part) product_parts (λ t u. roll-Product (record { first = t; rest = u })) product_made k (unary_parts (h x)) _
        (each x k)
        (links product_part (λ (p : ProductOp × Pos × H). (p.0, p.1, h p.2))
        (λ m j. next unary_parts product_part (λ t. (m.0, home j, t)) j (marked (product_sign m.0) m.1) (unary_parts (h m.2))
        (λ t i. marked (sym (product_stays j m.0) i) (home j) ∷ unary_parts t) (each m.2 (suc j)))
        xs (after k (unary_parts (h x)))))

  module _ {F : Type 0} (f : F → Product) (each : (x : F) (k : ℕ) → Again Product product_parts k (product_parts (f x))) where
    sum_again : (x : F) (xs : List (SumOp × Pos × F)) (k : ℕ)
        → Again Sum sum_parts k (sum_parts (roll-Sum (record { first = f x; rest = map (λ (p : SumOp × Pos × F). (p.0, p.1, f p.2)) xs })))
    sum_again x xs k =
        by sum_parts k _ _ (sum_made (f x) (map (λ (p : SumOp × Pos × F). (p.0, p.1, f p.2)) xs))
        (pair product_parts (flat_map sum_part) sum_parts (λ t u. roll-Sum (record { first = t; rest = u })) sum_made k (product_parts (f x)) _ (each x k)
        (links sum_part (λ (p : SumOp × Pos × F). (p.0, p.1, f p.2))
        (λ m j. next product_parts sum_part (λ t. (m.0, home j, t)) j (marked (sum_sign m.0) m.1) (product_parts (f m.2))
        (λ t i. marked (sym (sum_stays j m.0) i) (home j) ∷ product_parts t) (each m.2 (suc j)))
        xs (after k (product_parts (f x)))))

  -- ---- signs before an operand

  sign_again : (m : UnaryOp × Pos) (j : ℕ) → Again (UnaryOp × Pos) sign_part j (sign_part m)
  sign_again m j = record { tree = (m.0, home j); is = λ i. marked (sym (unary_stays j m.0) i) (home j) ∷ [] }

  signs_again : (xs : List (UnaryOp × Pos)) (k : ℕ) → Again (List (UnaryOp × Pos)) (flat_map sign_part) k (flat_map sign_part xs)
  signs_again [] k = record { tree = []; is = refl }
  signs_again (x ∷ xs) k =
      pair sign_part (flat_map sign_part) (flat_map sign_part) (λ (t : UnaryOp × Pos) (u : List (UnaryOp × Pos)). t ∷ u) (λ t u. refl) k (sign_part x)
      (flat_map sign_part xs) (sign_again x k) (signs_again xs (after k (sign_part x)))

  unary_again : (xs : List (UnaryOp × Pos)) (a : Atom) → ((k : ℕ) → Again Atom atom_parts k (atom_parts a)) → (k : ℕ)
      → Again Unary unary_parts k (unary_parts (record { signs = xs; atom = a }))
  unary_again xs a h k =
      by unary_parts k _ _ (unary_opens (record { signs = xs; atom = a }))
      (pair (flat_map sign_part) atom_parts unary_parts (λ t u. record { signs = t; atom = u }) (λ t u. unary_opens (record { signs = t; atom = u })) k
      (flat_map sign_part xs) (atom_parts a) (signs_again xs k) (h (after k (flat_map sign_part xs))))

  -- ---- atoms, cells and comparisons

  module _ {A B C D E F G H : Type 0} (a : A → Atom) (b : B → AndExpr) (c : C → CellRef) (d : D → Compare) (e : E → Expr) (f : F → Product) (g : G → Sum)
      (h : H → Unary)
      (cells : (x : C) (k : ℕ) → Again CellRef cell_parts k (cell_parts (c x)))
      (exprs : (x : E) (k : ℕ) → Again Expr expr_parts k (expr_parts (e x)))
      (sums : (x : G) (k : ℕ) → Again Sum sum_parts k (sum_parts (g x))) where
    abbrev atom_of : Atom-F A B C D E F G H → Atom-F Atom AndExpr CellRef Compare Expr Product Sum Unary
    atom_of y = map-Atom A B C D E F G H Atom AndExpr CellRef Compare Expr Product Sum Unary a b c d e f g h y

    atom_again : (y : Atom-F A B C D E F G H) (k : ℕ) → Again Atom atom_parts k (atom_parts (roll-Atom (atom_of y)))
    atom_again (Atom-F.Whole n) k = record {
      tree = roll-Atom (Atom-F.Whole (record { value = n.value; pos = home k }));
      is = atom_made (Atom-F.Whole (record { value = n.value; pos = home k })) ∙ sym (ap (again k) (atom_made (atom_of (Atom-F.Whole n))));
    }
    atom_again (Atom-F.Truth true p) k = record {
      tree = roll-Atom (Atom-F.Truth true (home k));
      is = atom_made (Atom-F.Truth true (home k)) ∙ sym (ap (again k) (atom_made (atom_of (Atom-F.Truth true p))));
    }
    atom_again (Atom-F.Truth false p) k = record {
      tree = roll-Atom (Atom-F.Truth false (home k));
      is = atom_made (Atom-F.Truth false (home k)) ∙ sym (ap (again k) (atom_made (atom_of (Atom-F.Truth false p))));
    }
    atom_again (Atom-F.Group p x) k =
        by atom_parts k _ _ (atom_made (atom_of (Atom-F.Group p x)))
        (next (λ t. expr_parts t ++ fixed RightParen ∷ []) atom_parts
        (λ t. roll-Atom (Atom-F.Group (home k) (record { ptr = x.ptr; alloc = x.alloc; value = t }))) k (marked (Fixed LeftParen) p)
        (expr_parts (e x.value) ++ fixed RightParen ∷ []) (λ t. atom_made _)
        (ended expr_parts (suc k) (fixed RightParen) (expr_parts (e x.value)) (λ j. refl) (exprs x.value (suc k))))
    atom_again (Atom-F.Named n p) k = record {
      tree = roll-Atom (Atom-F.Named (name k) (home k));
      is = atom_made (Atom-F.Named (name k) (home k)) ∙ sym (ap (again k) (atom_made (atom_of (Atom-F.Named n p))));
    }
    atom_again (Atom-F.Cell x) k =
        let r = cells x.value k in
        record {
          tree = roll-Atom (Atom-F.Cell (record { ptr = x.ptr; alloc = x.alloc; value = r.tree }));
          is = atom_made _ ∙ r.is ∙ sym (ap (again k) (atom_made (atom_of (Atom-F.Cell x))));
        }

    abbrev cell_of : CellRef-F A B C D E F G H → CellRef-F Atom AndExpr CellRef Compare Expr Product Sum Unary
    cell_of y = map-CellRef A B C D E F G H Atom AndExpr CellRef Compare Expr Product Sum Unary a b c d e f g h y

    cell_at : (n : List ℕ) (p : Pos) (o : Option E) (x : E) (k : ℕ)
        → Again CellRef cell_parts k (cell_parts (roll-CellRef (cell_of (record { name = n; pos = p; family = o; cell = x }))))
    cell_at n p None x k =
        by cell_parts k _ _ (single_made n p (e x))
        (next (λ t. bracketed (expr_parts t)) cell_parts (λ t. roll-CellRef (record { name = name k; pos = home k; family = None; cell = t })) k
        (marked (Called n) p) (bracketed (expr_parts (e x))) (single_made (name k) (home k))
        (square expr_parts (suc k) (expr_parts (e x)) (exprs x (suc (suc k)))))
    cell_at n p (Some o) x k =
        by cell_parts k _ _ (member_made n p (e o) (e x))
        (next (λ (t : Expr × Expr). bracketed (expr_parts t.0) ++ bracketed (expr_parts t.1)) cell_parts
        (λ (t : Expr × Expr). roll-CellRef (record { name = name k; pos = home k; family = Some t.0; cell = t.1 })) k
        (marked (Called n) p) (bracketed (expr_parts (e o)) ++ bracketed (expr_parts (e x))) (λ t. member_made (name k) (home k) t.0 t.1)
        (pair (λ t. bracketed (expr_parts t)) (λ t. bracketed (expr_parts t)) (λ (t : Expr × Expr). bracketed (expr_parts t.0) ++ bracketed (expr_parts t.1))
        (λ t u. (t, u)) (λ t u. refl) (suc k) (bracketed (expr_parts (e o))) (bracketed (expr_parts (e x)))
        (square expr_parts (suc k) (expr_parts (e o)) (exprs o (suc (suc k))))
        (square expr_parts (after (suc k) (bracketed (expr_parts (e o)))) (expr_parts (e x)) (exprs x (suc (after (suc k) (bracketed (expr_parts (e o)))))))))

    cell_again : (y : CellRef-F A B C D E F G H) (k : ℕ) → Again CellRef cell_parts k (cell_parts (roll-CellRef (cell_of y)))
    cell_again y k = cell_at y.name y.pos y.family y.cell k

    abbrev compare_of : Compare-F A B C D E F G H → Compare-F Atom AndExpr CellRef Compare Expr Product Sum Unary
    compare_of y = map-Compare A B C D E F G H Atom AndExpr CellRef Compare Expr Product Sum Unary a b c d e f g h y

    compare_at : (x : G) (o : Option (Relation × Pos × G)) (k : ℕ)
        → Again Compare compare_parts k (compare_parts (roll-Compare (compare_of (record { left = x; right = o }))))
    compare_at x None k =
        by compare_parts k _ _ (alone_made (g x))
        (pair sum_parts (λ (t : Unit {0}). []) compare_parts (λ t u. roll-Compare (record { left = t; right = None })) (λ t u. alone_made t) k (sum_parts (g x)) []
        (sums x k) (record { tree = tt; is = refl }))
    compare_at x (Some o) k =
        by compare_parts k _ _ (pair_made (g x) (g o.2) o.0 o.1)
        (pair sum_parts (λ (t : Pos × Sum). marked (relation_sign o.0) t.0 ∷ sum_parts t.1) compare_parts
        (λ t u. roll-Compare (record { left = t; right = Some (o.0, u.0, u.1) })) (λ t u. pair_made t u.1 o.0 u.0) k (sum_parts (g x)) _ (sums x k)
        (next sum_parts (λ (t : Pos × Sum). marked (relation_sign o.0) t.0 ∷ sum_parts t.1) (λ t. (home (after k (sum_parts (g x))), t))
        (after k (sum_parts (g x))) (marked (relation_sign o.0) o.1) (sum_parts (g o.2))
        (λ t i. marked (sym (relation_stays (after k (sum_parts (g x))) o.0) i) (home (after k (sum_parts (g x)))) ∷ sum_parts t)
        (sums o.2 (suc (after k (sum_parts (g x)))))))

    compare_again : (y : Compare-F A B C D E F G H) (k : ℕ) → Again Compare compare_parts k (compare_parts (roll-Compare (compare_of y)))
    compare_again y k = compare_at y.left y.right k

  pub expr_again : (e : Expr) (k : ℕ) → Again Expr expr_parts k (expr_parts e)
  expr_again e = ind-Expr (λ x. (k : ℕ) → Again Atom atom_parts k (atom_parts x))
      (λ x. (k : ℕ) → Again AndExpr and_parts k (and_parts x))
      (λ x. (k : ℕ) → Again CellRef cell_parts k (cell_parts x))
      (λ x. (k : ℕ) → Again Compare compare_parts k (compare_parts x))
      (λ x. (k : ℕ) → Again Expr expr_parts k (expr_parts x))
      (λ x. (k : ℕ) → Again Product product_parts k (product_parts x))
      (λ x. (k : ℕ) → Again Sum sum_parts k (sum_parts x))
      (λ x. (k : ℕ) → Again Unary unary_parts k (unary_parts x))
      (λ x y k. rw (← k) (atom_again (λ z. z.0) (λ z. z.0) (λ z. z.0) (λ z. z.0) (λ z. z.0) (λ z. z.0) (λ z. z.0) (λ z. z.0)
      (λ z. z.1) (λ z. z.1) (λ z. z.1) y))
      (λ x y k. rw (← k) (and_again (λ z. z.0) (λ z. z.1) y.first y.rest))
      (λ x y k. rw (← k) (cell_again (λ z. z.0) (λ z. z.0) (λ z. z.0) (λ z. z.0) (λ z. z.0) (λ z. z.0) (λ z. z.0) (λ z. z.0)
      (λ z. z.1) (λ z. z.1) (λ z. z.1) y))
      (λ x y k. rw (← k) (compare_again (λ z. z.0) (λ z. z.0) (λ z. z.0) (λ z. z.0) (λ z. z.0) (λ z. z.0) (λ z. z.0) (λ z. z.0)
      (λ z. z.1) (λ z. z.1) (λ z. z.1) y))
      (λ x y k. rw (← k) (or_again (λ z. z.0) (λ z. z.1) y.first y.rest))
      (λ x y k. rw (← k) (product_again (λ z. z.0) (λ z. z.1) y.first y.rest))
      (λ x y k. rw (← k) (sum_again (λ z. z.0) (λ z. z.1) y.first y.rest))
      (λ x y k. rw (← k) (unary_again y.signs y.atom.0 y.atom.1)) e

  -- ---- what lies in no other

  pub outer_again : (e : Expr) (k : ℕ) → Again Expr outer k (outer e)
  outer_again e k = let r = expr_again e k in record { tree = r.tree; is = ap (numbered 0) r.is ∙ sym (again_numbered k 0 (expr_parts e)) }

  pub index_again : (o : Option Expr) (k : ℕ) → Again (Option Expr) outer_index k (outer_index o)
  index_again None k = record { tree = None; is = refl }
  index_again (Some e) k = let r = square outer k (outer e) (outer_again e (suc k)) in record { tree = Some r.tree; is = r.is }

  pub object_again : (o : ObjectRef) (k : ℕ) → Again ObjectRef object_parts k (object_parts o)
  object_again o k =
      next outer_index object_parts (λ t. record { name = name k; pos = home k; member = t }) k (marked (Called o.name) o.pos) (outer_index o.member)
      (λ t. refl) (index_again o.member (suc k))

  pub target_again : (c : CellRef) (k : ℕ) → Again CellRef target_parts k (target_parts c)
  target_again c k =
      next (λ (t : Option Expr × Expr). outer_index t.0 ++ bracketed (outer t.1)) target_parts
      (λ (t : Option Expr × Expr). roll-CellRef (record { name = name k; pos = home k; family = t.0; cell = t.1 })) k
      (marked (Called (out-CellRef c).name) (out-CellRef c).pos) (outer_index (out-CellRef c).family ++ bracketed (outer (out-CellRef c).cell))
      (λ t. ap (λ (f : CellRef-F Atom AndExpr CellRef Compare Expr Product Sum Unary). marked (Called f.name) f.pos
      ∷ (outer_index f.family ++ bracketed (outer f.cell))) (out-roll-CellRef (record { name = name k; pos = home k; family = t.0; cell = t.1 })))
      (pair outer_index (λ t. bracketed (outer t)) (λ (t : Option Expr × Expr). outer_index t.0 ++ bracketed (outer t.1)) (λ t u. (t, u)) (λ t u. refl)
      (suc k) (outer_index (out-CellRef c).family) (bracketed (outer (out-CellRef c).cell)) (index_again (out-CellRef c).family (suc k))
      (square outer (after (suc k) (outer_index (out-CellRef c).family)) (outer (out-CellRef c).cell)
      (outer_again (out-CellRef c).cell (suc (after (suc k) (outer_index (out-CellRef c).family))))))

  more_again : (ns : List Named) (k : ℕ) → Again (List Named) more_names k (more_names ns)
  more_again [] k = record { tree = []; is = refl }
  more_again (n ∷ ns) k =
      let r = more_again ns (suc (suc k)) in
      record {
        tree = record { name = name (suc k); pos = home (suc k) } ∷ r.tree;
        is = ap (λ (l : Parts). fixed Comma ∷ marked (Called (name (suc k))) (home (suc k)) ∷ l) r.is;
      }

  pub names_again : (ns : List Named) (k : ℕ) → Again (List Named) name_parts k (name_parts ns)
  names_again [] k = record { tree = []; is = refl }
  names_again (n ∷ ns) k =
      let r = more_again ns (suc k) in
      record { tree = record { name = name k; pos = home k } ∷ r.tree; is = ap (λ (l : Parts). marked (Called (name k)) (home k) ∷ l) r.is }

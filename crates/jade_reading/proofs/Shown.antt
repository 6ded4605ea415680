-- The image of each tree, its node opened.
use Rattle.std.proofs.Common.{◌≡◌, ℕ, List, [], ◌∷◌, ◌++◌, Option, Some, None, refl, ap, sym, ◌∙◌, map, append-nil}
use Rattle.std.specs.List.{flat_map}
use Rattle.jade_base.specs.declared.place.Pos.{Pos}
use Rattle.jade_syntax.specs.declared.tree.Relation.{Relation}
use Rattle.jade_syntax.specs.declared.tree.Atom.{Atom}
use Rattle.jade_syntax.specs.declared.tree.AndExpr.{AndExpr}
use Rattle.jade_syntax.specs.declared.tree.CellRef.{CellRef, out-CellRef}
use Rattle.jade_syntax.specs.declared.tree.Compare.{Compare, out-Compare, fold_out-Compare, map-Compare}
use Rattle.jade_syntax.specs.declared.tree.Expr.{Expr}
use Rattle.jade_syntax.specs.declared.tree.Product.{Product}
use Rattle.jade_syntax.specs.declared.tree.Sum.{Sum}
use Rattle.jade_syntax.specs.declared.tree.Unary.{Unary}
use Rattle.jade_syntax.specs.Abstract.{Relates}
use Rattle.jade_syntax.specs.Placed.{Term}
use Rattle.jade_syntax.specs.Forms as general
use Rattle.jade_syntax.proofs.Opened as opened
use Rattle.jade_syntax.specs.PlacedImage.{Reference, Linked, forms, chained, compared, named_object, member, term, reference, compare_term, sum_term}
use Rattle.jade_parser.specs.Spelled as spelled
use Rattle.jade_parser.specs.Spelled.{Parts, marked, relation_sign, expr_parts, and_parts, cell_parts}
use Rattle.jade_parser.specs.Spelled.{sum_parts, product_parts, unary_parts, atom_parts, compare_parts}

-- a comparison's second operand, as a link
abbrev pub compare_link : Relation × Pos × Sum → Linked
compare_link p = record { operator = Relates p.0; at = p.1; operand = sum_term p.2 }

abbrev pub compare_part : Relation × Pos × Sum → Parts
compare_part p = marked (relation_sign p.0) p.1 ∷ sum_parts p.2

-- the links that there are, none or one
abbrev pub listed : {A : Type 0} → Option A → List A
listed None = []
listed (Some x) = x ∷ []

pub compare_shows : (e : Compare) → compare_term e ≡ chained (sum_term (out-Compare e).left) (map compare_link (listed (out-Compare e).right))
compare_shows e = opened.compare_opens forms e ∙ shown (sum_term (out-Compare e).left) (out-Compare e).right
  where
    shown : (x : Term) (o : Option (Relation × Pos × Sum)) → compared x (general.compared_with forms o) ≡ chained x (map compare_link (listed o))
    shown x None = refl
    shown x (Some r) = refl

pub compare_opens : (e : Compare) → compare_parts e ≡ sum_parts (out-Compare e).left ++ flat_map compare_part (listed (out-Compare e).right)
compare_opens e = fold_out-Compare Parts Parts Parts Parts Parts Parts Parts Parts spelled.at_atom spelled.at_and spelled.at_cell spelled.at_compare
    spelled.at_expr spelled.at_product spelled.at_sum spelled.at_unary e ∙ spelt (out-Compare e).left (out-Compare e).right
  where
    spelt : (x : Sum) (o : Option (Relation × Pos × Sum))
        → spelled.at_compare (map-Compare Atom AndExpr CellRef Compare Expr Product Sum Unary Parts Parts Parts Parts Parts Parts Parts Parts atom_parts
        and_parts cell_parts compare_parts expr_parts product_parts sum_parts unary_parts (record { left = x; right = o })) ≡ sum_parts x
        ++ flat_map compare_part (listed o)
    spelt x None = refl
    spelt x (Some r) = ap (λ (l : Parts). sum_parts x ++ l) (sym (append-nil (compare_part r)))

-- a cell, by its name and its indexes
abbrev pub cell_image : List ℕ → Pos → Option Expr → Expr → Reference
cell_image n p o x = record { place = named_object n p (member o); cell = term x }

pub cell_shows : (c : CellRef) → reference c ≡ cell_image (out-CellRef c).name (out-CellRef c).pos (out-CellRef c).family (out-CellRef c).cell
cell_shows c = opened.cell_opens forms c

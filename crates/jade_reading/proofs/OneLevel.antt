-- The parts of an expression have one image.
use Rattle.std.proofs.Common.{◌≡◌, List, ◌∷◌, ◌++◌, refl, map, arith}
use Rattle.std.specs.List.{flat_map}
use Rattle.jade_base.specs.declared.place.Pos.{Pos}
use Rattle.jade_syntax.specs.declared.tree.Relation.{Relation}
use Rattle.jade_syntax.specs.declared.tree.SumOp.{SumOp}
use Rattle.jade_syntax.specs.declared.tree.ProductOp.{ProductOp}
use Rattle.jade_syntax.specs.declared.tree.Relation.TheVariants.{Equal, Unequal, Less, LessEqual, Greater, GreaterEqual}
use Rattle.jade_syntax.specs.declared.tree.SumOp.TheVariants.{Plus, Minus}
use Rattle.jade_syntax.specs.declared.tree.ProductOp.TheVariants.{Times, Over, Remainder}
use Rattle.jade_syntax.specs.declared.tree.AndExpr.{AndExpr, out-AndExpr}
use Rattle.jade_syntax.specs.declared.tree.Compare.{Compare, out-Compare}
use Rattle.jade_syntax.specs.declared.tree.Expr.{Expr, out-Expr}
use Rattle.jade_syntax.specs.declared.tree.Product.{Product, out-Product}
use Rattle.jade_syntax.specs.declared.tree.Sum.{Sum, out-Sum}
use Rattle.jade_syntax.specs.declared.tree.Unary.{Unary}
use Rattle.jade_syntax.specs.Abstract.{Or, And, Relates, Adds, Multiplies}
use Rattle.jade_syntax.specs.PlacedImage.{chained, term, and_term, compare_term, product_term, sum_term, unary_term}
use Rattle.jade_parser.specs.Spelled.{Fixed, marked, relation_sign, sum_sign, product_sign, expr_parts}
use Rattle.jade_parser.specs.Spelled.{and_parts, sum_parts, product_parts, unary_parts, compare_parts}
use Rattle.jade_parser.specs.declared.Sign.TheVariants.{OrSign, AndSign}
use Rattle.jade_parser.specs.steps.Machine.{rank}
use Rattle.jade_parser.proofs.Spelling.{expr_opens, and_opens, sum_opens, product_opens}
use Rattle.jade_reading.specs.Unplaced.{moved}
use Rattle.jade_reading.proofs.Likeness.{One}
use Rattle.jade_reading.proofs.OneChain.{one_chain}
use Rattle.jade_syntax.specs.PlacedImage.{forms}
use Rattle.jade_syntax.proofs.Opened as opened
use Rattle.jade_reading.proofs.Shown.{listed, compare_shows, compare_opens}

at_one : (o : ProductOp) → rank (product_sign o) ≡ 1
at_one Times = refl
at_one Over = refl
at_one Remainder = refl

at_two : (o : SumOp) → rank (sum_sign o) ≡ 2
at_two Plus = refl
at_two Minus = refl

at_three : (o : Relation) → rank (relation_sign o) ≡ 3
at_three Equal = refl
at_three Unequal = refl
at_three Less = refl
at_three LessEqual = refl
at_three Greater = refl
at_three GreaterEqual = refl

product_told : (o p : ProductOp) → product_sign o ≡ product_sign p → Multiplies o ≡ Multiplies p
product_told Times Times e = refl
product_told Times Over e = absurd (cc)
product_told Times Remainder e = absurd (cc)
product_told Over Times e = absurd (cc)
product_told Over Over e = refl
product_told Over Remainder e = absurd (cc)
product_told Remainder Times e = absurd (cc)
product_told Remainder Over e = absurd (cc)
product_told Remainder Remainder e = refl

sum_told : (o p : SumOp) → sum_sign o ≡ sum_sign p → Adds o ≡ Adds p
sum_told Plus Plus e = refl
sum_told Plus Minus e = absurd (cc)
sum_told Minus Plus e = absurd (cc)
sum_told Minus Minus e = refl

relation_told : (o p : Relation) → relation_sign o ≡ relation_sign p → Relates o ≡ Relates p
relation_told Equal Equal e = refl
relation_told Equal Unequal e = absurd (cc)
relation_told Equal Less e = absurd (cc)
relation_told Equal LessEqual e = absurd (cc)
relation_told Equal Greater e = absurd (cc)
relation_told Equal GreaterEqual e = absurd (cc)
relation_told Unequal Equal e = absurd (cc)
relation_told Unequal Unequal e = refl
relation_told Unequal Less e = absurd (cc)
relation_told Unequal LessEqual e = absurd (cc)
relation_told Unequal Greater e = absurd (cc)
relation_told Unequal GreaterEqual e = absurd (cc)
relation_told Less Equal e = absurd (cc)
relation_told Less Unequal e = absurd (cc)
relation_told Less Less e = refl
relation_told Less LessEqual e = absurd (cc)
relation_told Less Greater e = absurd (cc)
relation_told Less GreaterEqual e = absurd (cc)
relation_told LessEqual Equal e = absurd (cc)
relation_told LessEqual Unequal e = absurd (cc)
relation_told LessEqual Less e = absurd (cc)
relation_told LessEqual LessEqual e = refl
relation_told LessEqual Greater e = absurd (cc)
relation_told LessEqual GreaterEqual e = absurd (cc)
relation_told Greater Equal e = absurd (cc)
relation_told Greater Unequal e = absurd (cc)
relation_told Greater Less e = absurd (cc)
relation_told Greater LessEqual e = absurd (cc)
relation_told Greater Greater e = refl
relation_told Greater GreaterEqual e = absurd (cc)
relation_told GreaterEqual Equal e = absurd (cc)
relation_told GreaterEqual Unequal e = absurd (cc)
relation_told GreaterEqual Less e = absurd (cc)
relation_told GreaterEqual LessEqual e = absurd (cc)
relation_told GreaterEqual Greater e = absurd (cc)
relation_told GreaterEqual GreaterEqual e = refl

-- `to` gives another place for each
module _ (to : Pos → Pos) where
  pub and_layer : {D : Type 0} (d : D → Compare) → ((x : D) → One to (moved to) 3 compare_parts compare_term (compare_parts (d x)) (compare_term (d x)))
      → (x : D) (xs : List (Pos × D))
      → One to (moved to) 4 and_parts and_term (compare_parts (d x) ++ flat_map (λ (p : Pos × D). marked (Fixed AndSign) p.0 ∷ compare_parts (d p.1)) xs)
      (chained (compare_term (d x)) (map (λ (p : Pos × D). record { operator = And; at = p.0; operand = compare_term (d p.1) }) xs))
  and_layer {D} d each x xs = one_chain to {O = Unit {0}} {X = Compare} {Y = AndExpr} 3 4 (omega arith) (λ u. Fixed AndSign) (λ u. And) (λ u. refl)
      (λ u v e. refl) compare_parts compare_term and_parts and_term
      {A = Pos × D} {B = Pos × Compare} (λ p. tt) (λ p. p.0) (λ p. compare_parts (d p.1)) (λ p. compare_term (d p.1)) (λ p. each p.1) (λ p. tt) (λ p. p.0)
      (λ p. p.1)
      (λ y. (out-AndExpr y).first) (λ y. (out-AndExpr y).rest) and_opens (opened.and_opens forms) (compare_parts (d x)) (compare_term (d x)) (each x) xs

  pub expr_layer : {B : Type 0} (b : B → AndExpr) → ((x : B) → One to (moved to) 4 and_parts and_term (and_parts (b x)) (and_term (b x)))
      → (x : B) (xs : List (Pos × B))
      → One to (moved to) 5 expr_parts term (and_parts (b x) ++ flat_map (λ (p : Pos × B). marked (Fixed OrSign) p.0 ∷ and_parts (b p.1)) xs)
      (chained (and_term (b x)) (map (λ (p : Pos × B). record { operator = Or; at = p.0; operand = and_term (b p.1) }) xs))
  expr_layer {B} b each x xs = one_chain to {O = Unit {0}} {X = AndExpr} {Y = Expr} 4 5 (omega arith) (λ u. Fixed OrSign) (λ u. Or) (λ u. refl)
      (λ u v e. refl) and_parts and_term expr_parts term
      {A = Pos × B} {B = Pos × AndExpr} (λ p. tt) (λ p. p.0) (λ p. and_parts (b p.1)) (λ p. and_term (b p.1)) (λ p. each p.1) (λ p. tt) (λ p. p.0)
      (λ p. p.1)
      (λ y. (out-Expr y).first) (λ y. (out-Expr y).rest) expr_opens (opened.expr_opens forms) (and_parts (b x)) (and_term (b x)) (each x) xs

  pub product_layer : {H : Type 0} (h : H → Unary) → ((x : H) → One to (moved to) 0 unary_parts unary_term (unary_parts (h x)) (unary_term (h x)))
      → (x : H) (xs : List (ProductOp × Pos × H))
      → One to (moved to) 1 product_parts product_term
      (unary_parts (h x) ++ flat_map (λ (p : ProductOp × Pos × H). marked (product_sign p.0) p.1 ∷ unary_parts (h p.2)) xs)
      (chained (unary_term (h x)) (map (λ (p : ProductOp × Pos × H). record { operator = Multiplies p.0; at = p.1; operand = unary_term (h p.2) }) xs))
  product_layer {H} h each x xs =
      one_chain to {O = ProductOp} {X = Unary} {Y = Product} 0 1 (omega arith) product_sign Multiplies at_one product_told unary_parts unary_term
      product_parts product_term
      {A = ProductOp × Pos × H} {B = ProductOp × Pos × Unary} (λ p. p.0) (λ p. p.1) (λ p. unary_parts (h p.2)) (λ p. unary_term (h p.2)) (λ p. each p.2)
      (λ p. p.0) (λ p. p.1) (λ p. p.2)
      (λ y. (out-Product y).first) (λ y. (out-Product y).rest) product_opens (opened.product_opens forms) (unary_parts (h x)) (unary_term (h x)) (each x)
      xs

  pub sum_layer : {F : Type 0} (f : F → Product) → ((x : F) → One to (moved to) 1 product_parts product_term (product_parts (f x)) (product_term (f x)))
      → (x : F) (xs : List (SumOp × Pos × F))
      → One to (moved to) 2 sum_parts sum_term
      (product_parts (f x) ++ flat_map (λ (p : SumOp × Pos × F). marked (sum_sign p.0) p.1 ∷ product_parts (f p.2)) xs)
      (chained (product_term (f x)) (map (λ (p : SumOp × Pos × F). record { operator = Adds p.0; at = p.1; operand = product_term (f p.2) }) xs))
  sum_layer {F} f each x xs = one_chain to {O = SumOp} {X = Product} {Y = Sum} 1 2 (omega arith) sum_sign Adds at_two sum_told product_parts product_term
      sum_parts sum_term
      {A = SumOp × Pos × F} {B = SumOp × Pos × Product} (λ p. p.0) (λ p. p.1) (λ p. product_parts (f p.2)) (λ p. product_term (f p.2)) (λ p. each p.2)
      (λ p. p.0) (λ p. p.1) (λ p. p.2)
      (λ y. (out-Sum y).first) (λ y. (out-Sum y).rest) sum_opens (opened.sum_opens forms) (product_parts (f x)) (product_term (f x)) (each x) xs

  pub compare_layer : {G : Type 0} (g : G → Sum) → ((x : G) → One to (moved to) 2 sum_parts sum_term (sum_parts (g x)) (sum_term (g x)))
      → (x : G) (xs : List (Relation × Pos × G))
      → One to (moved to) 3 compare_parts compare_term
      (sum_parts (g x) ++ flat_map (λ (p : Relation × Pos × G). marked (relation_sign p.0) p.1 ∷ sum_parts (g p.2)) xs)
      (chained (sum_term (g x)) (map (λ (p : Relation × Pos × G). record { operator = Relates p.0; at = p.1; operand = sum_term (g p.2) }) xs))
  compare_layer {G} g each x xs =
      one_chain to {O = Relation} {X = Sum} {Y = Compare} 2 3 (omega arith) relation_sign Relates at_three relation_told sum_parts sum_term compare_parts
      compare_term
      {A = Relation × Pos × G} {B = Relation × Pos × Sum} (λ p. p.0) (λ p. p.1) (λ p. sum_parts (g p.2)) (λ p. sum_term (g p.2)) (λ p. each p.2) (λ p. p.0)
      (λ p. p.1) (λ p. p.2)
      (λ y. (out-Compare y).left) (λ y. listed (out-Compare y).right) compare_opens compare_shows (sum_parts (g x)) (sum_term (g x)) (each x) xs

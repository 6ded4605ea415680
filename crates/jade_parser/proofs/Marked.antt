-- The tokens of each tree tell their numbers within their outermost expression.
use Rattle.std.proofs.Common.{◌≡◌, Bool, true, false, List, ◌∷◌, ◌++◌, refl}
use Rattle.std.specs.List.{flat_map}
use Rattle.jade_syntax.specs.declared.tree.Relation.{Relation}
use Rattle.jade_syntax.specs.declared.tree.Relation.TheVariants.{Equal, Unequal, Less, LessEqual, Greater, GreaterEqual}
use Rattle.jade_syntax.specs.declared.tree.SumOp.{SumOp}
use Rattle.jade_syntax.specs.declared.tree.SumOp.TheVariants.{Plus, Minus}
use Rattle.jade_syntax.specs.declared.tree.ProductOp.{ProductOp}
use Rattle.jade_syntax.specs.declared.tree.ProductOp.TheVariants.{Times, Over, Remainder}
use Rattle.jade_syntax.specs.declared.tree.UnaryOp.{UnaryOp}
use Rattle.jade_syntax.specs.declared.tree.UnaryOp.TheVariants.{Negative, Not}
use Rattle.jade_syntax.specs.declared.tree.Expr.{Expr}
use Rattle.jade_parser.specs.declared.Sign.TheVariants.{LeftParen, RightParen, LeftBracket, RightBracket}
use Rattle.jade_parser.specs.Spelled.{Part, Parts, Fixed, Called, marked, fixed, number_part, bracketed, expr_parts, sign_part}
use Rattle.jade_parser.specs.Spelled.{relation_sign, sum_sign, product_sign, unary_sign, truth_word}
use Rattle.jade_parser.proofs.Marking.{Inner, Quiet, role, opens, indexes, inner_none, inner_on, inner_all, inner_quiet, inner_bracketed}
use Rattle.jade_parser.proofs.Levels.{HandsOn, of_expr}

relation_quiet : (o : Relation) → role (relation_sign o) ≡ Quiet
relation_quiet Equal = refl
relation_quiet Unequal = refl
relation_quiet Less = refl
relation_quiet LessEqual = refl
relation_quiet Greater = refl
relation_quiet GreaterEqual = refl

sum_quiet : (o : SumOp) → role (sum_sign o) ≡ Quiet
sum_quiet Plus = refl
sum_quiet Minus = refl

product_quiet : (o : ProductOp) → role (product_sign o) ≡ Quiet
product_quiet Times = refl
product_quiet Over = refl
product_quiet Remainder = refl

unary_quiet : (o : UnaryOp) → role (unary_sign o) ≡ Quiet
unary_quiet Negative = refl
unary_quiet Not = refl

truth_quiet : (b : Bool) → role (truth_word b) ≡ Quiet
truth_quiet true = refl
truth_quiet false = refl

-- a token that changes nothing, before parts of an expression
inner_first : (p : Part) {ps : Parts} → role p.token ≡ Quiet → Inner ps → Inner (p ∷ ps)
inner_first p e h = inner_on (inner_quiet p e) h

inner_index : {ps : Parts} → Inner ps → Inner (bracketed ps)
inner_index h = inner_bracketed (fixed LeftBracket) (fixed RightBracket) indexes refl h

-- a chain of one level
inner_chain : {A : Type 0} (op : A → Part) (body : A → Parts) → ((x : A) → role (op x).token ≡ Quiet) → ((x : A) → Inner (body x)) → (first : Parts)
    → Inner first → (xs : List A) → Inner (first ++ flat_map (λ x. op x ∷ body x) xs)
inner_chain op body quiet each first h xs = inner_on h (inner_all (λ x. op x ∷ body x) (λ x. inner_first (op x) (quiet x) (each x)) xs)

inner_levels : HandsOn Inner Inner Inner Inner Inner Inner Inner Inner
inner_levels = record {
  number = λ n. inner_quiet (number_part n) refl;
  truth = λ b p. inner_quiet (marked (truth_word b) p) (truth_quiet b);
  group = λ p e h. inner_bracketed (marked (Fixed LeftParen) p) (fixed RightParen) opens refl h;
  named = λ n p. inner_quiet (marked (Called n) p) refl;
  cell = λ c h. h;
  single = λ n p e h. inner_first (marked (Called n) p) refl (inner_index h);
  member = λ n p i e g h. inner_first (marked (Called n) p) refl (inner_on (inner_index g) (inner_index h));
  alone = λ s h. inner_on h inner_none;
  pair = λ o p s t g h. inner_on g (inner_first (marked (relation_sign o) p) (relation_quiet o) h);
  ands = λ x xs. inner_chain _ _ (λ p. refl) (λ p. p.1.1) _ x.1 xs;
  ors = λ x xs. inner_chain _ _ (λ p. refl) (λ p. p.1.1) _ x.1 xs;
  products = λ x xs. inner_chain _ _ (λ p. product_quiet p.0) (λ p. p.2.1) _ x.1 xs;
  sums = λ x xs. inner_chain _ _ (λ p. sum_quiet p.0) (λ p. p.2.1) _ x.1 xs;
  signed = λ xs a h. inner_on (inner_all sign_part (λ p. inner_quiet (marked (unary_sign p.0) p.1) (unary_quiet p.0)) xs) h;
}

pub inner_expr : (e : Expr) → Inner (expr_parts e)
inner_expr e = of_expr _ _ _ _ _ _ _ _ inner_levels e

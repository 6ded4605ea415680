-- The tokens of each tree run.
use Rattle.std.proofs.Common.{◌≡◌, [], ◌∷◌, ◌++◌, refl, arith}
use Rattle.jade_syntax.specs.declared.tree.SumOp.{SumOp}
use Rattle.jade_syntax.specs.declared.tree.SumOp.TheVariants.{Plus, Minus}
use Rattle.jade_syntax.specs.declared.tree.ProductOp.{ProductOp}
use Rattle.jade_syntax.specs.declared.tree.ProductOp.TheVariants.{Times, Over, Remainder}
use Rattle.jade_syntax.specs.declared.tree.Expr.{Expr}
use Rattle.jade_parser.specs.Spelled.{expr_parts, product_sign, sum_sign}
use Rattle.jade_parser.specs.steps.Machine.{Rest, rank, asks, unary_in, product_in, sum_in, compare_in, and_in, expr_in}
use Rattle.jade_parser.proofs.Running.{Runs, chain_runs}
use Rattle.jade_parser.proofs.Layers.{counted_runs, truth_runs, called_runs, group_runs, single_runs, member_runs, signs_run, compare_alone, compare_pair}
use Rattle.jade_parser.proofs.Levels.{HandsOn, of_expr}

at_one : (o : ProductOp) → rank (product_sign o) ≡ 1
at_one Times = refl
at_one Over = refl
at_one Remainder = refl

asks_one : (o : ProductOp) → asks (product_sign o) ≡ unary_in ++ Rest 1 ∷ []
asks_one Times = refl
asks_one Over = refl
asks_one Remainder = refl

at_two : (o : SumOp) → rank (sum_sign o) ≡ 2
at_two Plus = refl
at_two Minus = refl

asks_two : (o : SumOp) → asks (sum_sign o) ≡ product_in ++ Rest 2 ∷ []
asks_two Plus = refl
asks_two Minus = refl

runs_on : HandsOn (Runs unary_in 0) (Runs and_in 4) (Runs unary_in 0) (Runs compare_in 3) (Runs expr_in 5) (Runs product_in 1) (Runs sum_in 2)
    (Runs unary_in 0)
runs_on = record {
  number = λ n. counted_runs n.value n.pos;
  truth = truth_runs;
  group = group_runs;
  named = called_runs;
  cell = λ c r. r;
  single = single_runs;
  member = member_runs;
  alone = compare_alone;
  pair = compare_pair;
  ands = λ x xs. chain_runs compare_in 3 4 (omega arith) _ _ (λ p. refl) (λ p. refl) (λ p. p.1.1) xs _ x.1;
  ors = λ x xs. chain_runs and_in 4 5 (omega arith) _ _ (λ p. refl) (λ p. refl) (λ p. p.1.1) xs _ x.1;
  products = λ x xs. chain_runs unary_in 0 1 (omega arith) _ _ (λ p. at_one p.0) (λ p. asks_one p.0) (λ p. p.2.1) xs _ x.1;
  sums = λ x xs. chain_runs product_in 1 2 (omega arith) _ _ (λ p. at_two p.0) (λ p. asks_two p.0) (λ p. p.2.1) xs _ x.1;
  signed = signs_run;
}

pub expr_runs : (e : Expr) → Runs expr_in 5 (expr_parts e)
expr_runs e = of_expr _ _ _ _ _ _ _ _ runs_on e

-- Where statements stand, one level opened.
use Rattle.std.proofs.Common.{◌≡◌, ℕ, ◌+◌, Bool, true, false, ◌&&◌, List, Option, Some, None, drop, refl, ap, sym, ◌∙◌}
use Rattle.std.specs.List.{list_all, slice_get}
use Rattle.std.proofs.lemmas.List.Folds.{list_all-map}
use Rattle.jade_syntax.specs.declared.shapes.place.BlockKind.{BlockKind}
use Rattle.jade_syntax.specs.declared.shapes.place.BlockKind.TheVariants.{Main, Section, Amends}
use Rattle.jade_syntax.specs.declared.tree.Statement.{Statement, out-Statement, fold_out-Statement, map-Statement, fold-Statement}
use Rattle.jade_syntax.specs.declared.tree.Expr.{Expr}
use Rattle.jade_syntax.specs.declared.tree.Statement.TheOpen.{Statement-F}
use Rattle.jade_syntax.specs.declared.tree.Statement.TheVariants.{If, outs-If}
use Rattle.jade_syntax.specs.Shapes.{is_main, declares, is_placed, at_place}
use Rattle.jade_syntax.proofs.Limits.{drop_item}

abbrev pub are_placed : BlockKind → List Statement → Bool
are_placed place block = list_all (is_placed place) block

abbrev pub other_placed : BlockKind → Option (List Statement) → Bool
other_placed place None = true
other_placed place (Some block) = are_placed place block

-- where a statement whose parts are trees stands
abbrev pub placed : BlockKind → Statement-F Statement → Bool
placed place (Statement-F.Local kind name at value) = true
placed place (Statement-F.Assign name at value) = true
placed place (Statement-F.Store target value) = is_main place
placed place (Statement-F.If test then otherwise) = are_placed place then && other_placed place otherwise
placed place (Statement-F.For name at low high body) = are_placed place body
placed place (Statement-F.Withonly at section names body) = is_main place && (are_placed Section section && are_placed Main body)
placed place (Statement-F.With at section) = is_main place && are_placed Amends section
placed place (Statement-F.Declare how at object) = declares place how

abbrev layer : Statement-F Statement → BlockKind → Bool
layer f = at_place (map-Statement Statement (BlockKind → Bool) (fold-Statement (BlockKind → Bool) at_place) f)

layer_placed : (place : BlockKind) (f : Statement-F Statement) → layer f place ≡ placed place f
layer_placed place (Statement-F.Local kind name at value) = refl
layer_placed place (Statement-F.Assign name at value) = refl
layer_placed place (Statement-F.Store target value) = refl
layer_placed place (Statement-F.If test then None) = simp list_all-map
layer_placed place (Statement-F.If test then (Some block)) = simp list_all-map
layer_placed place (Statement-F.For name at low high body) = simp list_all-map
layer_placed place (Statement-F.Withonly at section names body) = simp list_all-map
layer_placed place (Statement-F.With at section) = simp list_all-map
layer_placed place (Statement-F.Declare how at object) = refl

pub placed_opens : (place : BlockKind) (s : Statement) → is_placed place s ≡ placed place (out-Statement s)
placed_opens place s = ap (λ f. f place) (fold_out-Statement (BlockKind → Bool) at_place s) ∙ layer_placed place (out-Statement s)

-- the arm of one kind of statement
pub placed_arm : (place : BlockKind) (s t : Statement) (f : Statement-F Statement) (r : Bool) → s ≡ t → out-Statement t ≡ f → r ≡ placed place f → r
    ≡ is_placed place s
placed_arm place s t f r e o h = h ∙ ap (placed place) (sym o) ∙ sym (placed_opens place t) ∙ ap (is_placed place) (sym e)

-- of all from a place on, where the one there passes, those after it are left
pub all_passed : {A : Type 0} (p : A → Bool) (xs : List A) (i : ℕ) (x : A) → slice_get xs i ≡ Some x → p x ≡ true → list_all p (drop i xs) ≡ list_all p xs
    → list_all p (drop (i + 1) xs) ≡ list_all p xs
all_passed p xs i x e h k = sym (ap (λ b. b && list_all p (drop (i + 1) xs)) h) ∙ sym (ap (list_all p) (drop_item xs i x e)) ∙ k

pub all_failed : {A : Type 0} (p : A → Bool) (xs : List A) (i : ℕ) (x : A) → slice_get xs i ≡ Some x → p x ≡ false → list_all p (drop i xs) ≡ list_all p xs
    → false ≡ list_all p xs
all_failed p xs i x e h k = sym (ap (λ b. b && list_all p (drop (i + 1) xs)) h) ∙ sym (ap (list_all p) (drop_item xs i x e)) ∙ k

-- an `if` with or without an `else`
pub if_outs : (t : Expr) (b : List Statement) (o p : Option (List Statement)) → o ≡ p → out-Statement (If t b o) ≡ Statement-F.If t b p
if_outs t b o p e = outs-If t b o ∙ ap (λ (q : Option (List Statement)). Statement-F.If t b q) e

-- a conjunction by its first test
pub and_is : (a b u r : Bool) → u ≡ a → u ≡ true → r ≡ b → r ≡ (a && b)
and_is a b u r p t h = h ∙ ap (λ x. x && b) (sym t ∙ p)

pub and_not : (a b u : Bool) → u ≡ a → u ≡ false → u ≡ (a && b)
and_not a b u p f = f ∙ ap (λ x. x && b) (sym f ∙ p)

pub and_last : (a r : Bool) → r ≡ a → r ≡ (a && true)
and_last true r h = h
and_last false r h = h

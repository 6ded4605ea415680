-- A program with all places, less some of them, is its abstract syntax.
use Rattle.std.proofs.Common.{◌≡◌, List, [], ◌∷◌, Option, Some, None, refl, ap, ◌∙◌, map}
use Rattle.std.proofs.lemmas.Simd.{map-map}
use Rattle.jade_syntax.specs.declared.tree.CellRef.{CellRef}
use Rattle.jade_syntax.specs.declared.tree.Expr.{Expr}
use Rattle.jade_syntax.specs.declared.tree.ObjectRef.{ObjectRef}
use Rattle.jade_syntax.specs.declared.tree.Statement.{Statement, map-Statement, fold-roll-Statement, ind-Statement}
use Rattle.jade_syntax.specs.declared.tree.Statement.TheOpen.{Statement-F}
use Rattle.jade_syntax.specs.declared.tree.Program.{Program}
use Rattle.jade_syntax.specs.Abstract as abstract
use Rattle.jade_syntax.specs.Abstract.{Action}
use Rattle.jade_syntax.specs.Placed.{Phrase}
use Rattle.jade_syntax.specs.Forms as general
use Rattle.jade_syntax.specs.PlacedImage as placed
use Rattle.jade_syntax.specs.PlacedImage.{term, phrase, phrases, placed_program}
use Rattle.jade_syntax.specs.Image as image
use Rattle.jade_syntax.specs.Image.{Reference as Plain, expression, action, actions, program}
use Rattle.jade_syntax.specs.Erased.{erased, erased_object, erased_phrase, erased_phrases, erased_program}
use Rattle.erased_places.proofs.ErasedTerms.{map_same, expr_erased, cell_erased}

object_erased : (o : ObjectRef) → erased_object (placed.object o) ≡ image.object o
object_erased o = of o.member
  where
    of : (m : Option Expr) → erased_object (placed.named_object o.name o.pos (placed.member m)) ≡ image.placed o.name o.pos (image.member m)
    of None = refl
    of (Some e) = ap (abstract.Member o.name o.pos) (expr_erased e)

phrases_erased : (ps : List Phrase) → erased_phrases (phrases ps) ≡ actions (map erased_phrase ps)
phrases_erased [] = refl
phrases_erased (p ∷ ps) = ap (abstract.Then (erased_phrase p)) (phrases_erased ps)

abbrev omap : {A B : Type 0} → (A → B) → Option (List A) → Option (List B)
omap f None = None
omap f (Some xs) = Some (map f xs)

module _ {S : Type 0} (one : S → Phrase) (two : S → Action) (same : (s : S) → erased_phrase (one s) ≡ two s) where
  block_erased : (xs : List S) → erased_phrases (phrases (map one xs)) ≡ actions (map two xs)
  block_erased xs = phrases_erased (map one xs) ∙ ap actions (map-map erased_phrase one xs ∙ map_same (λ x. erased_phrase (one x)) two same xs)

  if_erased : (x : Expr) (xs : List S) (o : Option (List S)) → erased_phrase (placed.branched (term x) (map one xs) (omap one o))
      ≡ image.branched (expression x) (map two xs) (omap two o)
  if_erased x xs None = ap (λ k. abstract.If k (erased_phrases (phrases (map one xs)))) (expr_erased x)
      ∙ ap (λ k. abstract.If (expression x) k) (block_erased xs)
  if_erased x xs (Some ys) =
      ap (λ k. abstract.IfElse k (erased_phrases (phrases (map one xs))) (erased_phrases (phrases (map one ys)))) (expr_erased x)
      ∙ ap (λ k. abstract.IfElse (expression x) k (erased_phrases (phrases (map one ys)))) (block_erased xs)
      ∙ ap (λ k. abstract.IfElse (expression x) (actions (map two xs)) k) (block_erased ys)

store_erased : (c : CellRef) (x : Expr) → erased_phrase ((general.at_statement placed.forms placed.statement_forms) (Statement-F.Store c x))
    ≡ (general.at_statement image.forms image.statement_forms) (Statement-F.Store c x)
store_erased c x = ap (λ (k : Plain). abstract.Store k.place k.cell (erased (term x))) (cell_erased c)
    ∙ ap (λ k. abstract.Store (image.reference c).place (image.reference c).cell k) (expr_erased x)

module _ {S : Type 0} (val : S → Statement) (same : (s : S) → erased_phrase (phrase (val s)) ≡ action (val s)) where
  block : (xs : List S) → erased_phrases (phrases (map (λ s. phrase (val s)) xs)) ≡ actions (map (λ s. action (val s)) xs)
  block = block_erased (λ s. phrase (val s)) (λ s. action (val s)) same

  layer : (y : Statement-F S) → erased_phrase
      ((general.at_statement placed.forms placed.statement_forms) (map-Statement Statement Phrase phrase (map-Statement S Statement val y)))
      ≡ (general.at_statement image.forms image.statement_forms) (map-Statement Statement Action action (map-Statement S Statement val y))
  layer (Statement-F.Local k n p x) = ap (abstract.Local k n) (expr_erased x)
  layer (Statement-F.Assign n p x) = ap (abstract.Assign n) (expr_erased x)
  layer (Statement-F.Store t x) = store_erased t x
  layer (Statement-F.If x then None) = simp map-map (if_erased (λ (z : S). phrase (val z)) (λ (z : S). action (val z)) same x then None)
  layer (Statement-F.If x then (Some o)) = simp map-map (if_erased (λ (z : S). phrase (val z)) (λ (z : S). action (val z)) same x then (Some o))
  layer (Statement-F.For n p l h b) = simp map-map (
      ap (λ k. abstract.For n k (erased (term h)) (erased_phrases (phrases (map (λ s. phrase (val s)) b)))) (expr_erased l)
      ∙ ap (λ k. abstract.For n (expression l) k (erased_phrases (phrases (map (λ s. phrase (val s)) b)))) (expr_erased h)
      ∙ ap (abstract.For n (expression l) (expression h)) (block b))
  layer (Statement-F.Withonly p ss ns b) = simp map-map (
      ap (λ k. abstract.Withonly p k (map (λ n. n.name) ns) (erased_phrases (phrases (map (λ s. phrase (val s)) b)))) (block ss)
      ∙ ap (λ k. abstract.Withonly p (actions (map (λ s. action (val s)) ss)) (map (λ n. n.name) ns) k) (block b))
  layer (Statement-F.With p ss) = simp map-map (ap (abstract.With p) (block ss))
  layer (Statement-F.Declare w p o) = ap (abstract.Declare w p) (object_erased o)

statement_erased : (s : Statement) → erased_phrase (phrase s) ≡ action s
statement_erased s = ind-Statement (λ s. erased_phrase (phrase s) ≡ action s)
    (λ x y k. rw (← k) (rw (
      fold-roll-Statement Phrase (general.at_statement placed.forms placed.statement_forms),
      fold-roll-Statement Action
          (general.at_statement image.forms image.statement_forms),
    ) (layer (λ z. z.0) (λ z. z.1) y))) s

pub program_erased : (p : Program) → erased_program (placed_program p) ≡ program p
program_erased p = ap (λ k. record { items = p.items; main = k }) (block_erased phrase action statement_erased p.main)

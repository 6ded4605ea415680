-- Where the statements of a source stand as the grammar has it, those of its tree do.
use Rattle.std.proofs.Common.{◌≡◌, ℕ, ◌+◌, Bool, true, false, ◌&&◌, List, [], ◌∷◌, Some, None, length, map, refl, ap, ◌∙◌}
use Rattle.std.specs.Prelude.{if◌then◌else◌}
use Rattle.std.specs.List.{list_all}
use Rattle.jade_base.specs.declared.place.Pos.{Pos}
use Rattle.jade_syntax.specs.declared.shapes.place.BlockKind.{BlockKind}
use Rattle.jade_syntax.specs.declared.shapes.place.BlockKind.TheVariants.{Main, Section, Amends}
use Rattle.jade_syntax.specs.declared.tree.Expr.{Expr}
use Rattle.jade_syntax.specs.declared.tree.Statement.{Statement, out-Statement}
use Rattle.jade_syntax.specs.declared.tree.Statement.TheOpen.{Statement-F}
use Rattle.jade_syntax.specs.declared.tree.Statement.TheVariants as statement
use Rattle.jade_syntax.specs.declared.tree.Statement.TheVariants.{outs-Local, outs-Assign, outs-Store, outs-If, outs-For, outs-Withonly, outs-With, outs-Declare}
use Rattle.jade_syntax.specs.Abstract.{Name}
use Rattle.jade_syntax.specs.Numbering.{same_name}
use Rattle.jade_syntax.specs.Shapes.{is_placed, is_main, all_placed}
use Rattle.jade_syntax.proofs.Placing as placing
use Rattle.jade_parser.specs.Programs.{Proper}
use Rattle.proc_laws.specs.Expansion.{item_name, replaced, replacement}
use Rattle.proc_laws.specs.SourceTree as source
use Rattle.proc_laws.specs.SourceTree.{HeadParam, Spoken, Spokens, SpokenProcedure, SourceText, procedure, spoken_procedures, items_of}
use Rattle.proc_laws.specs.SourceReading.{stands, all_stand, and_stands, calls_stand, is_proper}
use Rattle.proc_laws.specs.ExpandedTree.{expr_renamed, cell_renamed, object_renamed, named_renamed, truth_at, CallTrees, tree, trees, declared_at}
use Rattle.proc_laws.specs.ExpandedTree.{call_tree, and_tree, all_trees, no_trees, expanded_tree}

opened : (c : BlockKind) (s : Statement) (f : Statement-F Statement) → out-Statement s ≡ f → is_placed c s ≡ placing.placed c f
opened c s f e = placing.placed_opens c s ∙ ap (placing.placed c) e

and_last : (a : Bool) → (a && true) ≡ a
and_last true = refl
and_last false = refl

-- what is written for calls may stand where calls may
record CallsStand (makes : CallTrees) (calls : Name → BlockKind → Bool) : Type 0 where
  by : (f : Name) (at : Pos) (args : List Expr) (n : ℕ) (c : BlockKind) → is_placed c (makes f at args n).made ≡ calls f c

module _ (makes : CallTrees) (calls : Name → BlockKind → Bool) (same : CallsStand makes calls) (to : Name → Name) where
  mutual
    tree_stands : (a : Spoken) (n : ℕ) (c : BlockKind) → is_placed c (tree makes to a n).made ≡ stands calls a c
    tree_stands (source.Local kind x at e) n c =
        opened c (statement.Local kind (to x) at (expr_renamed to e)) (Statement-F.Local kind (to x) at (expr_renamed to e)) (outs-Local kind (to x) at (expr_renamed to e))
    tree_stands (source.Assign x at e) n c =
        opened c (statement.Assign (to x) at (expr_renamed to e)) (Statement-F.Assign (to x) at (expr_renamed to e)) (outs-Assign (to x) at (expr_renamed to e))
    tree_stands (source.Store t e) n c =
        opened c (statement.Store (cell_renamed to t) (expr_renamed to e)) (Statement-F.Store (cell_renamed to t) (expr_renamed to e)) (outs-Store (cell_renamed to t) (expr_renamed to e))
    tree_stands (source.If e first) n c =
        let b = trees makes to first n in
        opened c (statement.If (expr_renamed to e) b.made None) (Statement-F.If (expr_renamed to e) b.made None) (outs-If (expr_renamed to e) b.made None)
        ∙ ap (λ t. t && true) (trees_stand first n c)
    tree_stands (source.IfElse e first other) n c =
        let b = trees makes to first n in let d = trees makes to other b.next in
        opened c (statement.If (expr_renamed to e) b.made (Some d.made)) (Statement-F.If (expr_renamed to e) b.made (Some d.made)) (outs-If (expr_renamed to e) b.made (Some d.made))
        ∙ (λ i. trees_stand first n c i && trees_stand other b.next c i)
    tree_stands (source.For x at low high body) n c =
        let b = trees makes to body n in
        opened c (statement.For (to x) at (expr_renamed to low) (expr_renamed to high) b.made)
        (Statement-F.For (to x) at (expr_renamed to low) (expr_renamed to high) b.made) (outs-For (to x) at (expr_renamed to low) (expr_renamed to high) b.made)
        ∙ trees_stand body n c
    tree_stands (source.Withonly at section names body) n c =
        let d = trees makes to section n in let b = trees makes to body d.next in
        opened c (statement.Withonly at d.made (map (named_renamed to) names) b.made)
        (Statement-F.Withonly at d.made (map (named_renamed to) names) b.made) (outs-Withonly at d.made (map (named_renamed to) names) b.made)
        ∙ (λ i. is_main c && (trees_stand section n Section i && trees_stand body d.next Main i))
    tree_stands (source.With at section) n c =
        let d = trees makes to section n in
        opened c (statement.With at d.made) (Statement-F.With at d.made) (outs-With at d.made) ∙ ap (λ t. is_main c && t) (trees_stand section n Amends)
    tree_stands (source.Declare how at o) n c =
        opened c (statement.Declare how at (object_renamed to o)) (Statement-F.Declare how at (object_renamed to o)) (outs-Declare how at (object_renamed to o))
    tree_stands (source.Call f at args) n c = same.by f at (map (expr_renamed to) args) n c

    trees_stand : (b : Spokens) (n : ℕ) (c : BlockKind) → list_all (is_placed c) (trees makes to b n).made ≡ all_placed c (all_stand calls b)
    trees_stand source.Done n c = refl
    trees_stand (source.Then a more) n c = λ i. tree_stands a n c i && trees_stand more (tree makes to a n).next c i

  declared_stand : (at : Pos) (ps : List HeadParam) (args : List Expr) (body : List Statement) (c : BlockKind)
      → list_all (is_placed c) (declared_at at to ps args body) ≡ list_all (is_placed c) body
  declared_stand at [] args body c = refl
  declared_stand at (p ∷ ps) [] body c = refl
  declared_stand at (p ∷ ps) (e ∷ args) body c =
      λ i. opened c (statement.Local p.kind (to p.name) at e) (Statement-F.Local p.kind (to p.name) at e) (outs-Local p.kind (to p.name) at e) i
      && declared_stand at ps args body c i

module _ (items : List Name) (fresh : ℕ → Name) where
  called_stands : (makes : CallTrees) (calls : Name → BlockKind → Bool) → CallsStand makes calls → (p : SpokenProcedure) (at : Pos) (args : List Expr) (n : ℕ)
      (c : BlockKind) → is_placed c (call_tree items fresh makes p at args n).made ≡ all_placed c (all_stand calls p.body)
  called_stands makes calls same p at args n c =
      let names = replaced items fresh (procedure p) in
      let to = replacement items fresh names n in
      let b = trees makes to p.body (n + length names) in
      let d = declared_at at to p.params args b.made in
      opened c (statement.If (truth_at at) d None) (Statement-F.If (truth_at at) d None) (outs-If (truth_at at) d None)
      ∙ and_last (list_all (is_placed c) d) ∙ declared_stand makes calls same to at p.params args b.made c
      ∙ trees_stand makes calls same to p.body (n + length names) c

  also_stand : (makes : CallTrees) (calls : Name → BlockKind → Bool) → CallsStand makes calls → (p : SpokenProcedure)
      → CallsStand (and_tree items fresh makes p) (and_stands calls p)
  also_stand makes calls same p = record { by = λ f at args n c. by f at args n c (same_name f p.name) }
    where
      by : (f : Name) (at : Pos) (args : List Expr) (n : ℕ) (c : BlockKind) (t : Bool)
          → is_placed c (if t then call_tree items fresh makes p at args n else makes f at args n).made
          ≡ (if t then all_placed c (all_stand calls p.body) else calls f c)
      by f at args n c true = called_stands makes calls same p at args n c
      by f at args n c false = same.by f at args n c

  all_calls_stand : (makes : CallTrees) (calls : Name → BlockKind → Bool) → CallsStand makes calls → (ps : List SpokenProcedure)
      → CallsStand (all_trees items fresh makes ps) (calls_stand calls ps)
  all_calls_stand makes calls same [] = same
  all_calls_stand makes calls same (p ∷ ps) = all_calls_stand (and_tree items fresh makes p) (and_stands calls p) (also_stand makes calls same p) ps

none_stand : CallsStand no_trees (λ x place. true)
none_stand = record {
  by = λ f at args n c. opened c (statement.If (truth_at at) [] None) (Statement-F.If (truth_at at) [] None) (outs-If (truth_at at) [] None);
}

-- the statements of the tree stand where those of the source do
pub placed_as_source : (fresh : ℕ → Name) (q : SourceText) → list_all (is_placed Main) (expanded_tree fresh q).main ≡ is_proper q
placed_as_source fresh q =
    let its = map item_name (items_of q.pieces) in
    trees_stand (all_trees its fresh no_trees (spoken_procedures q.pieces)) (calls_stand (λ x place. true) (spoken_procedures q.pieces))
    (all_calls_stand its fresh no_trees (λ x place. true) none_stand (spoken_procedures q.pieces)) (λ x. x) q.main 0 Main

pub proper_tree : (fresh : ℕ → Name) (q : SourceText) → is_proper q ≡ true → Proper (expanded_tree fresh q)
proper_tree fresh q h = record { is = record { is = placed_as_source fresh q ∙ h } }

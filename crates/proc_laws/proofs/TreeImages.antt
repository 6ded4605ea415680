-- What the tree of an expanded program is, seen as abstract syntax: the expansion.
use Rattle.std.proofs.Common.{◌≡◌, ℕ, ◌+◌, Bool, true, false, List, [], ◌∷◌, Option, Some, None, length, map, refl, sym, ap, ◌∙◌, subst}
use Rattle.std.specs.Prelude.{if◌then◌else◌}
use Rattle.jade_base.specs.declared.place.Pos.{Pos}
use Rattle.jade_syntax.specs.declared.tree.Atom.{roll-Atom, out-roll-Atom}
use Rattle.jade_syntax.specs.declared.tree.Atom.TheOpen.{Atom-F}
use Rattle.jade_syntax.specs.declared.tree.AndExpr.{roll-AndExpr}
use Rattle.jade_syntax.specs.declared.tree.CellRef.{CellRef}
use Rattle.jade_syntax.specs.declared.tree.Compare.{Compare, roll-Compare}
use Rattle.jade_syntax.specs.declared.tree.DeclareWord.{DeclareWord}
use Rattle.jade_syntax.specs.declared.tree.Expr.{Expr}
use Rattle.jade_syntax.specs.declared.tree.Named.{Named}
use Rattle.jade_syntax.specs.declared.tree.ObjectRef.{ObjectRef}
use Rattle.jade_syntax.specs.declared.tree.Product.{Product, roll-Product}
use Rattle.jade_syntax.specs.declared.tree.Program.{Program}
use Rattle.jade_syntax.specs.declared.tree.Statement.{Statement}
use Rattle.jade_syntax.specs.declared.tree.Statement.TheVariants as statement
use Rattle.jade_syntax.specs.declared.tree.Statement.TheVariants.{outs-Local, outs-Assign, outs-Store, outs-With, outs-Declare}
use Rattle.jade_syntax.specs.declared.tree.Sum.{Sum, roll-Sum}
use Rattle.jade_syntax.specs.declared.tree.ValueKind.{ValueKind}
use Rattle.jade_syntax.specs.Abstract as plain
use Rattle.jade_syntax.specs.Abstract.{Name, Expression, Action, Actions, AbstractProgram}
use Rattle.jade_syntax.specs.Erased as erasing
use Rattle.jade_syntax.specs.Erased.{erased, erased_links, erased_object, erased_program}
use Rattle.jade_syntax.specs.Numbering.{same_name}
use Rattle.jade_syntax.specs.Placed as placed
use Rattle.jade_syntax.specs.Placed.{Term, Links, Object}
use Rattle.jade_syntax.specs.PlacedImage.{placed_program, term, reference as placed_reference}
use Rattle.jade_syntax.specs.PlacedImage as seen
use Rattle.jade_syntax.specs.Image.{forms, statement_forms, expression, reference, object, member, action, block, program}
use Rattle.jade_syntax.specs.Image as image
use Rattle.jade_syntax.proofs.Opened as opened
use Rattle.replaced_trees.specs.Replaced.{index_replaced, term_replaced, links_replaced, place_replaced}
use Rattle.replaced_trees.proofs.Made.{expr_made, and_made, compare_made, sum_made, product_made}
use Rattle.replaced_trees.proofs.SeenTerms.{expr_seen, cell_seen}
use Rattle.proc_laws.specs.Expansion.{renamed, renamed_links, renamed_place, Made, Expansions, expanded, expanded_all, declares, item_name, replaced, replacement}
use Rattle.proc_laws.specs.Expansion.{call_made, and_call, all_expansions, no_expansions, expanded_program}
use Rattle.proc_laws.specs.SourceTree as source
use Rattle.proc_laws.specs.SourceTree.{HeadParam, Spoken, Spokens, SpokenProcedure, SourceText, param, procedure, spoken_action, spoken_actions}
use Rattle.proc_laws.specs.SourceTree.{spoken_procedures, items_of, source_of}
use Rattle.proc_laws.specs.ExpandedTree.{expr_renamed, cell_renamed, object_renamed, named_renamed, truth_at, CallTrees, tree, trees, declared_at}
use Rattle.proc_laws.specs.ExpandedTree.{call_tree, and_tree, all_trees, no_trees, expanded_tree}

-- ---- statements that are made

local_is : (k : ValueKind) (n : List ℕ) (p : Pos) (x : Expr) → action (statement.Local k n p x) ≡ plain.Local k n (expression x)
local_is k n p x = opened.statement_opens forms statement_forms (statement.Local k n p x) ∙ ap (opened.opened forms statement_forms) (outs-Local k n p x)

assign_is : (n : List ℕ) (p : Pos) (x : Expr) → action (statement.Assign n p x) ≡ plain.Assign n (expression x)
assign_is n p x = opened.statement_opens forms statement_forms (statement.Assign n p x) ∙ ap (opened.opened forms statement_forms) (outs-Assign n p x)

store_is : (c : CellRef) (x : Expr) → action (statement.Store c x) ≡ plain.Store (reference c).place (reference c).cell (expression x)
store_is c x = opened.statement_opens forms statement_forms (statement.Store c x) ∙ ap (opened.opened forms statement_forms) (outs-Store c x)

with_is : (p : Pos) (section : List Statement) → action (statement.With p section) ≡ plain.With p (block section)
with_is p section = opened.statement_opens forms statement_forms (statement.With p section) ∙ ap (opened.opened forms statement_forms) (outs-With p section)

declare_is : (w : DeclareWord) (p : Pos) (o : ObjectRef) → action (statement.Declare w p o) ≡ plain.Declare w p (object o)
declare_is w p o = opened.statement_opens forms statement_forms (statement.Declare w p o) ∙ ap (opened.opened forms statement_forms) (outs-Declare w p o)

-- `true` at a place is `true`
truth_is : (at : Pos) → expression (truth_at at) ≡ plain.Truth true
truth_is at =
    expr_made forms (roll-AndExpr (record { first = relation; rest = [] })) [] ∙ and_made forms relation [] ∙ compare_made forms sum None
    ∙ sum_made forms product [] ∙ product_made forms (record { signs = []; atom = roll-Atom (Atom-F.Truth true at) }) []
    ∙ opened.unary_opens forms (record { signs = []; atom = roll-Atom (Atom-F.Truth true at) })
    ∙ opened.atom_opens forms (roll-Atom (Atom-F.Truth true at)) ∙ ap (opened.atom_layer forms) (out-roll-Atom (Atom-F.Truth true at))
  where
    product : Product
    product = roll-Product (record { first = record { signs = []; atom = roll-Atom (Atom-F.Truth true at) }; rest = [] })

    sum : Sum
    sum = roll-Sum (record { first = product; rest = [] })

    relation : Compare
    relation = roll-Compare (record { left = sum; right = None })

-- ---- terms less their places

mutual
  renamed_erased : (to : Name → Name) (t : Term) → erased (term_replaced to (λ at. at) t) ≡ renamed to (erased t)
  renamed_erased to (placed.Whole z at) = refl
  renamed_erased to (placed.Truth b at) = refl
  renamed_erased to (placed.Variable x at) = refl
  renamed_erased to (placed.Group at e) = ap plain.Group (renamed_erased to e)
  renamed_erased to (placed.Signed u at e) = ap (plain.Signed u at) (renamed_erased to e)
  renamed_erased to (placed.Chain e more) = λ i. plain.Chain (renamed_erased to e i) (renamed_links_erased to more i)
  renamed_erased to (placed.Cell o e) = λ i. plain.Cell (renamed_object_erased to o i) (renamed_erased to e i)

  renamed_links_erased : (to : Name → Name) (l : Links) → erased_links (links_replaced to (λ at. at) l) ≡ renamed_links to (erased_links l)
  renamed_links_erased to placed.Last = refl
  renamed_links_erased to (placed.Link op at e more) = λ i. plain.Link op at (renamed_erased to e i) (renamed_links_erased to more i)

  renamed_object_erased : (to : Name → Name) (o : Object) → erased_object (place_replaced to (λ at. at) o) ≡ renamed_place to (erased_object o)
  renamed_object_erased to (placed.Alone x at) = refl
  renamed_object_erased to (placed.Member x at e) = ap (plain.Member (to x) at) (renamed_erased to e)

-- ---- what a node is seen as with its places and without, by what a whole program is

-- the value that a first statement assigns
abbrev assigned_value : Actions → Expression
assigned_value (plain.Then (plain.Assign x e) more) = e
assigned_value more = plain.Truth true

-- the cell that a first statement stores to
abbrev stored_cell : Actions → image.Reference
stored_cell (plain.Then (plain.Store o e v) more) = record { place = o; cell = e }
stored_cell more = record { place = plain.Alone [] (record { line = 0; column = 0 }); cell = plain.Truth true }

abbrev no_place : Pos
no_place = record { line = 0; column = 0 }

abbrev plain_reference : seen.Reference → image.Reference
plain_reference r = record { place = erased_object r.place; cell = erased r.cell }

module _ (whole : (p : Program) → erased_program (placed_program p) ≡ program p) where
  expr_plain : (e : Expr) → erased (term e) ≡ expression e
  expr_plain e =
      let s : Statement = statement.Assign [] no_place e in
      let p : Program = record { items = []; main = s ∷ [] } in
      let at : seen.phrase s ≡ placed.Assign [] no_place (term e) =
      opened.statement_opens seen.forms seen.statement_forms s ∙ ap (opened.opened seen.forms seen.statement_forms) (outs-Assign [] no_place e) in
      sym (ap (λ k. assigned_value (plain.Then (erasing.erased_phrase k) plain.Done)) at)
      ∙ ap (λ (q : AbstractProgram). assigned_value q.main) (whole p)
      ∙ ap (λ k. assigned_value (plain.Then k plain.Done)) (assign_is [] no_place e)

  cell_plain : (c : CellRef) → plain_reference (placed_reference c) ≡ reference c
  cell_plain c =
      let s : Statement = statement.Store c (truth_at no_place) in
      let p : Program = record { items = []; main = s ∷ [] } in
      let at : seen.phrase s ≡ placed.Store (placed_reference c).place (placed_reference c).cell (term (truth_at no_place)) =
      opened.statement_opens seen.forms seen.statement_forms s
      ∙ ap (opened.opened seen.forms seen.statement_forms) (outs-Store c (truth_at no_place)) in
      sym (ap (λ k. stored_cell (plain.Then (erasing.erased_phrase k) plain.Done)) at)
      ∙ ap (λ (q : AbstractProgram). stored_cell q.main) (whole p)
      ∙ ap (λ k. stored_cell (plain.Then k plain.Done)) (store_is c (truth_at no_place))

  -- ---- names are replaced in the tree and in what is seen of it

  expr_same : (to : Name → Name) (e : Expr) → expression (expr_renamed to e) ≡ renamed to (expression e)
  expr_same to e =
      sym (expr_plain (expr_renamed to e)) ∙ ap erased (expr_seen to (λ at. at) e) ∙ renamed_erased to (term e) ∙ ap (renamed to) (expr_plain e)

  abbrev renamed_reference : (Name → Name) → image.Reference → image.Reference
  renamed_reference to r = record { place = renamed_place to r.place; cell = renamed to r.cell }

  cell_same : (to : Name → Name) (c : CellRef) → reference (cell_renamed to c) ≡ renamed_reference to (reference c)
  cell_same to c =
      sym (cell_plain (cell_renamed to c)) ∙ ap plain_reference (cell_seen to (λ at. at) c)
      ∙ (λ i. record { place = renamed_object_erased to (placed_reference c).place i; cell = renamed_erased to (placed_reference c).cell i })
      ∙ ap (renamed_reference to) (cell_plain c)

  object_at : (to : Name → Name) (n : List ℕ) (p : Pos) (m : Option Expr)
      → image.placed (to n) p (member (index_replaced to (λ at. at) m)) ≡ renamed_place to (image.placed n p (member m))
  object_at to n p None = refl
  object_at to n p (Some e) = ap (plain.Member (to n) p) (expr_same to e)

  args_same : (to : Name → Name) (es : List Expr) → map expression (map (expr_renamed to) es) ≡ map (renamed to) (map expression es)
  args_same to [] = refl
  args_same to (e ∷ es) = λ i. expr_same to e i ∷ args_same to es i

  names_same : (to : Name → Name) (ns : List Named)
      → map (λ (n : Named). n.name) (map (named_renamed to) ns) ≡ map to (map (λ (n : Named). n.name) ns)
  names_same to [] = refl
  names_same to (n ∷ ns) = ap (λ (l : List Name). to n.name ∷ l) (names_same to ns)

  -- ---- statements

  -- a tree is seen as what is made, and the same number comes next
  record Seen (x : Made Statement) (y : Made Action) : Type 0 where
    image : action x.made ≡ y.made
    next : x.next ≡ y.next

  record AllSeen (x : Made (List Statement)) (y : Made Actions) : Type 0 where
    image : block x.made ≡ y.made
    next : x.next ≡ y.next

  -- whatever is called
  record CallsSeen (calls : CallTrees) (exps : Expansions) : Type 0 where
    by : (f : Name) (at : Pos) (args : List Expr) (n : ℕ) → Seen (calls f at args n) (exps f (map expression args) n)

  module _ (calls : CallTrees) (exps : Expansions) (called : CallsSeen calls exps) (to : Name → Name) where
    from_there : (b : Spokens) (m n : ℕ) → m ≡ n → AllSeen (trees calls to b m) (expanded_all exps to (spoken_actions b) m)
        → AllSeen (trees calls to b m) (expanded_all exps to (spoken_actions b) n)
    from_there b m n e s = subst (λ (k : ℕ). AllSeen (trees calls to b m) (expanded_all exps to (spoken_actions b) k)) e s

    mutual
      tree_seen : (a : Spoken) (n : ℕ) → Seen (tree calls to a n) (expanded exps to (spoken_action a) n)
      tree_seen (source.Local kind x at e) n =
          record { image = local_is kind (to x) at (expr_renamed to e) ∙ ap (plain.Local kind (to x)) (expr_same to e); next = refl }
      tree_seen (source.Assign x at e) n =
          record { image = assign_is (to x) at (expr_renamed to e) ∙ ap (plain.Assign (to x)) (expr_same to e); next = refl }
      tree_seen (source.Store c e) n = record {
        image = store_is (cell_renamed to c) (expr_renamed to e)
            ∙ (λ i. plain.Store (cell_same to c i).place (cell_same to c i).cell (expr_same to e i));
        next = refl;
      }
      tree_seen (source.If e first) n =
          let b = trees_seen first n in record {
            image = opened.if_none forms statement_forms (expr_renamed to e) (trees calls to first n).made None refl
                ∙ (λ i. plain.If (expr_same to e i) (b.image i));
            next = b.next;
          }
      tree_seen (source.IfElse e first other) n =
          let b = trees_seen first n in
          let d = from_there other (trees calls to first n).next (expanded_all exps to (spoken_actions first) n).next b.next
          (trees_seen other (trees calls to first n).next) in
          let o : List Statement = (trees calls to other (trees calls to first n).next).made in record {
            image = opened.if_some forms statement_forms (expr_renamed to e) (trees calls to first n).made o (Some o) refl
                ∙ (λ i. plain.IfElse (expr_same to e i) (b.image i) (d.image i));
            next = d.next;
          }
      tree_seen (source.For x at low high body) n =
          let b = trees_seen body n in record {
            image = opened.for_is forms statement_forms (to x) at (expr_renamed to low) (expr_renamed to high) (trees calls to body n).made
                ∙ (λ i. plain.For (to x) (expr_same to low i) (expr_same to high i) (b.image i));
            next = b.next;
          }
      tree_seen (source.Withonly at section names body) n =
          let d = trees_seen section n in
          let b = from_there body (trees calls to section n).next (expanded_all exps to (spoken_actions section) n).next d.next
          (trees_seen body (trees calls to section n).next) in record {
            image = opened.withonly_is forms statement_forms at (trees calls to section n).made (map (named_renamed to) names)
                (trees calls to body (trees calls to section n).next).made
                ∙ (λ i. plain.Withonly at (d.image i) (names_same to names i) (b.image i));
            next = b.next;
          }
      tree_seen (source.With at section) n =
          let d = trees_seen section n in
          record { image = with_is at (trees calls to section n).made ∙ ap (plain.With at) d.image; next = d.next }
      tree_seen (source.Declare how at o) n =
          record { image = declare_is how at (object_renamed to o) ∙ ap (plain.Declare how at) (object_at to o.name o.pos o.member); next = refl }
      tree_seen (source.Call f at args) n =
          subst (λ (es : List Expression). Seen (calls f at (map (expr_renamed to) args) n) (exps f es n)) (args_same to args)
          (called.by f at (map (expr_renamed to) args) n)

      trees_seen : (a : Spokens) (n : ℕ) → AllSeen (trees calls to a n) (expanded_all exps to (spoken_actions a) n)
      trees_seen source.Done n = record { image = refl; next = refl }
      trees_seen (source.Then a more) n =
          let b = tree_seen a n in
          let d = from_there more (tree calls to a n).next (expanded exps to (spoken_action a) n).next b.next
          (trees_seen more (tree calls to a n).next) in
          record { image = λ i. plain.Then (b.image i) (d.image i); next = d.next }

  -- ---- calls

  declared_seen : (at : Pos) (to : Name → Name) (ps : List HeadParam) (args : List Expr) (body : List Statement) (made : Actions) → block body ≡ made
      → block (declared_at at to ps args body) ≡ declares to (map param ps) (map expression args) made
  declared_seen at to [] args body made h = h
  declared_seen at to (p ∷ ps) [] body made h = h
  declared_seen at to (p ∷ ps) (e ∷ es) body made h =
      λ i. plain.Then (local_is p.kind (to p.name) at e i) (declared_seen at to ps es body made h i)

  either : (t : Bool) (x y : Made Statement) (z w : Made Action) → Seen x z → Seen y w → Seen (if t then x else y) (if t then z else w)
  either true x y z w h k = h
  either false x y z w h k = k

  module _ (items : List Name) (fresh : ℕ → Name) where
    call_seen : (calls : CallTrees) (exps : Expansions) → CallsSeen calls exps → (p : SpokenProcedure) (at : Pos) (args : List Expr) (n : ℕ)
        → Seen (call_tree items fresh calls p at args n) (call_made items fresh exps (procedure p) (map expression args) n)
    call_seen calls exps called p at args n =
        let names = replaced items fresh (procedure p) in
        let to = replacement items fresh names n in
        let b = trees_seen calls exps called to p.body (n + length names) in
        let made = (trees calls to p.body (n + length names)).made in record {
          image = opened.if_none forms statement_forms (truth_at at) (declared_at at to p.params args made) None refl
              ∙ (λ i. plain.If (truth_is at i)
              (declared_seen at to p.params args made (expanded_all exps to (spoken_actions p.body) (n + length names)).made b.image i));
          next = b.next;
        }

    also_seen : (calls : CallTrees) (exps : Expansions) → CallsSeen calls exps → (p : SpokenProcedure)
        → CallsSeen (and_tree items fresh calls p) (and_call items fresh exps (procedure p))
    also_seen calls exps called p = record {
      by = λ f at args n. either (same_name f p.name) (call_tree items fresh calls p at args n) (calls f at args n)
          (call_made items fresh exps (procedure p) (map expression args) n) (exps f (map expression args) n)
          (call_seen calls exps called p at args n) (called.by f at args n);
    }

    all_seen : (calls : CallTrees) (exps : Expansions) → CallsSeen calls exps → (ps : List SpokenProcedure)
        → CallsSeen (all_trees items fresh calls ps) (all_expansions items fresh exps (map procedure ps))
    all_seen calls exps called [] = called
    all_seen calls exps called (p ∷ ps) =
        all_seen (and_tree items fresh calls p) (and_call items fresh exps (procedure p)) (also_seen calls exps called p) ps

  none_seen : CallsSeen no_trees no_expansions
  none_seen = record {
    by = λ f at args n. record {
      image = opened.if_none forms statement_forms (truth_at at) [] None refl ∙ (λ i. plain.If (truth_is at i) plain.Done);
      next = refl;
    };
  }

  pub expanded_seen : (fresh : ℕ → Name) (q : SourceText) → program (expanded_tree fresh q) ≡ expanded_program fresh (source_of q)
  expanded_seen fresh q =
      let items = map item_name (items_of q.pieces) in
      let m = trees_seen (all_trees items fresh no_trees (spoken_procedures q.pieces))
      (all_expansions items fresh no_expansions (map procedure (spoken_procedures q.pieces)))
      (all_seen items fresh no_trees no_expansions none_seen (spoken_procedures q.pieces)) (λ x. x) q.main 0 in
      λ i. record { items = items_of q.pieces; main = m.image i }

-- Items that are counted, one after another.
use Rattle.std.proofs.Common.{◌≡◌, ℕ, ◌+◌, List, [], ◌∷◌, ◌++◌, Some, refl, ap, sym, ◌∙◌, drop, append_assoc}
use Rattle.std.specs.List.{slice_get}
use Rattle.jade_syntax.specs.declared.stands.Stand.{Stand}
use Rattle.jade_syntax.specs.declared.tree.Item.{Item}
use Rattle.jade_syntax.specs.Abstract.{Name}
use Rattle.jade_syntax.specs.Numbering.{items_from, declared, stands_alone}
use Rattle.jade_syntax.specs.StaticFaults.{item_known}
use Rattle.jade_syntax.proofs.Limits.{drop_item}
use Rattle.jade_types.specs.declared.numbers.items.Counts.{Counts}
use Rattle.jade_types.specs.steps.Bodies.{Puts, as_scope}

-- some items were counted, and these are left
pub record Counting (items : List Item) (before so_far : List Stand) (pairs : List (Name × Stand)) (counts : Counts) (left : List Item) : Type 0 where
  pub stands : so_far ++ stands_alone (items_from counts.inputs counts.objects left) ≡ before ++ stands_alone (declared items)
  pub names : as_scope pairs ++ items_from counts.inputs counts.objects left ≡ declared items

scope_more : (pairs : List (Name × Stand)) (p : Name × Stand) → as_scope (pairs ++ p ∷ []) ≡ as_scope pairs ++ record { name = p.0; stand = p.1 } ∷ []
scope_more [] p = refl
scope_more (q ∷ pairs) p = ap (λ s. record { name = q.0; stand = q.1 } ∷ s) (scope_more pairs p)

-- one item more
pub counted : {items : List Item} {before so_far more : List Stand} {pairs next : List (Name × Stand)} {old new : Counts} (i : ℕ) (item : Item)
    (key : Name) (s : Stand)
    → slice_get items i ≡ Some item
    → ((rest : List Item) → items_from old.inputs old.objects (item ∷ rest) ≡ record { name = (item_known item).name; stand = s }
    ∷ items_from new.inputs new.objects rest)
    → Puts so_far more (s ∷ []) → key ≡ (item_known item).name → next ≡ pairs ++ (key, s) ∷ []
    → Counting items before so_far pairs old (drop i items) → Counting items before more next new (drop (i + 1) items)
counted {items} {before} {so_far} {more} {pairs} {next} {old} {new} i item key s e count put k n g =
    let rest = items_from new.inputs new.objects (drop (i + 1) items) in
    let opens : items_from old.inputs old.objects (drop i items) ≡ record { name = (item_known item).name; stand = s } ∷ rest =
    ap (items_from old.inputs old.objects) (drop_item items i item e) ∙ count (drop (i + 1) items) in
    record {
      stands = ap (λ o. o ++ stands_alone rest) put.by ∙ append_assoc so_far (s ∷ []) (stands_alone rest) ∙ ap (λ l. so_far ++ stands_alone l) (sym opens)
          ∙ g.stands;
      names = ap (λ ps. as_scope ps ++ rest) n ∙ ap (λ o. o ++ rest) (scope_more pairs (key, s))
          ∙ append_assoc (as_scope pairs) (record { name = key; stand = s } ∷ []) rest
          ∙ ap (λ x. as_scope pairs ++ record { name = x; stand = s } ∷ rest) k ∙ ap (λ l. as_scope pairs ++ l) (sym opens) ∙ g.names;
    }

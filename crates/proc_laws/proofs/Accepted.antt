-- Where the expanded program has no static fault, it does what its source does, with its faults at their origins.
use Rattle.std.proofs.Common.{◌≡◌, ℕ, true, List, [], ◌∷◌, ◌++◌, map, refl, sym, ap, ◌∙◌, subst}
use Rattle.std.specs.Prelude.{ℤ}
use Rattle.jade_base.specs.declared.place.Pos.{Pos}
use Rattle.jade_syntax.specs.declared.tree.Item.{Item}
use Rattle.jade_syntax.specs.declared.tree.Item.TheVariants as item
use Rattle.jade_syntax.specs.Abstract.{Name, Action, Local, Assign, Store, If, IfElse, For, Withonly, With, Declare, Actions, Done, Then, AbstractProgram}
use Rattle.jade_syntax.specs.Placed.{PlacedProgram}
use Rattle.jade_syntax.specs.Erased.{erased_program}
use Rattle.jade_syntax.specs.StaticFaults.{static_faults}
use Rattle.jade_meaning.specs.Course.{root_course}
use Rattle.proc_laws.specs.Source.{SourceProgram}
use Rattle.proc_laws.specs.SourceMeaning.{source_course}
use Rattle.proc_laws.specs.Expansion.{item_name, block_names, AreFresh, expanded_program, sets, sets_all}
use Rattle.proc_expand.specs.Names.{is_among}
use Rattle.proc_laws.specs.Moved.{moved_course, moved_action, moved_actions, moved_item, moved_program}
use Rattle.proc_expand.specs.Written.{fresh_name}
use Rattle.proc_laws.proofs.Basics.{by_case, no_both}
use Rattle.proc_laws.proofs.Statements.{NoItem}
use Rattle.proc_laws.proofs.Programs.{program_same}
use Rattle.proc_laws.proofs.Moving.{course_moved}
use Rattle.proc_laws.proofs.Faultless.{faultless_clean}
use Rattle.proc_laws.proofs.Fresh.{fresh_is_free, fresh_one}

-- the names of a text are not made, so these hold for the programs that it reads as
pub fresh_names : (names : List Name) (p : SourceProgram) → ((x : Name) → is_among (map item_name p.items) x ≡ true → is_among names x ≡ true)
    → ((x : Name) → is_among (block_names p.main) x ≡ true → is_among names x ≡ true) → AreFresh (fresh_name names) p
fresh_names names p f g = record {
  one_each = fresh_one names;
  no_item = λ i. by_case (is_among (map item_name p.items) (fresh_name names i))
      (λ h. no_both (is_among names (fresh_name names i)) (f (fresh_name names i) h) (fresh_is_free names i)) (λ h. h);
  not_in_main = λ i. by_case (is_among (block_names p.main) (fresh_name names i))
      (λ h. no_both (is_among names (fresh_name names i)) (g (fresh_name names i) h) (fresh_is_free names i)) (λ h. h);
}

module _ (f : Pos → Pos) where
  names_moved : (its : List Item) → map item_name (map (moved_item f) its) ≡ map item_name its
  names_moved [] = refl
  names_moved (item.Input x at ∷ its) = ap (λ u. x ∷ u) (names_moved its)
  names_moved (item.Single x at size ∷ its) = ap (λ u. x ∷ u) (names_moved its)
  names_moved (item.Family x at count size ∷ its) = ap (λ u. x ∷ u) (names_moved its)

  mutual
    sets_moved : (a : Action) → sets (moved_action f a) ≡ sets a
    sets_moved (Local kind x e) = refl
    sets_moved (Assign x e) = refl
    sets_moved (Store o e v) = refl
    sets_moved (If e first) = sets_all_moved first
    sets_moved (IfElse e first other) =
        ap (λ u. u ++ sets_all (moved_actions f other)) (sets_all_moved first) ∙ ap (λ u. sets_all first ++ u) (sets_all_moved other)
    sets_moved (For x low high body) = ap (λ u. x ∷ u) (sets_all_moved body)
    sets_moved (Withonly at section names body) =
        ap (λ u. u ++ (names ++ sets_all (moved_actions f body))) (sets_all_moved section)
        ∙ ap (λ u. sets_all section ++ (names ++ u)) (sets_all_moved body)
    sets_moved (With at section) = sets_all_moved section
    sets_moved (Declare how at o) = refl

    sets_all_moved : (a : Actions) → sets_all (moved_actions f a) ≡ sets_all a
    sets_all_moved Done = refl
    sets_all_moved (Then a more) =
        ap (λ u. u ++ sets_all (moved_actions f more)) (sets_moved a) ∙ ap (λ u. sets a ++ u) (sets_all_moved more)

  clean_moved : (p : PlacedProgram) → static_faults p ≡ []
      → NoItem (map item_name (moved_program f (erased_program p)).items) (sets_all (moved_program f (erased_program p)).main)
  clean_moved p h =
      let a = faultless_clean p h in
      subst (λ (its : List Name). NoItem its (sets_all (moved_program f (erased_program p)).main)) (sym (names_moved p.items))
      (subst (NoItem (map item_name p.items)) (sym (sets_all_moved (erased_program p).main)) a)

  pub accepted_same : (names : List Name) (q : SourceProgram) → ((x : Name) → is_among (map item_name q.items) x ≡ true → is_among names x ≡ true)
      → ((x : Name) → is_among (block_names q.main) x ≡ true → is_among names x ≡ true) → (p : PlacedProgram) → static_faults p ≡ []
      → moved_program f (erased_program p) ≡ expanded_program (fresh_name names) q → (ns : List ℤ) (limit : ℕ)
      → moved_course f (root_course (erased_program p) ns limit) ≡ source_course q ns limit
  accepted_same names q g h p none e ns limit =
      sym (course_moved f (erased_program p) ns limit) ∙ ap (λ (r : AbstractProgram). root_course r ns limit) e
      ∙ program_same (fresh_name names) q (fresh_names names q g h)
      (subst (λ (r : AbstractProgram). NoItem (map item_name r.items) (sets_all r.main)) e (clean_moved p none)) ns limit

-- A program whose calls are expanded does what its source does.
use Rattle.std.proofs.Common.{◌≡◌, ℕ, suc, ◌+◌, Bool, true, false, List, [], ◌∷◌, length, map, refl, sym, ap, ◌∙◌, arith}
use Rattle.std.specs.Prelude.{ℤ, if◌then◌else◌, replicate}
use Rattle.jade_base.specs.Rights.{both_rights}
use Rattle.jade_syntax.specs.declared.tree.Item.{Item}
use Rattle.jade_syntax.specs.declared.tree.Item.TheVariants.{Input, Single, Family}
use Rattle.jade_syntax.specs.Abstract.{Name}
use Rattle.jade_syntax.specs.Numbering.{same_name}
use Rattle.jade_syntax.specs.Objects.{amount, sizes}
use Rattle.jade_meaning.specs.declared.resolve.Range.{Range}
use Rattle.jade_meaning.specs.Course.{Setting, inputs, range_from, finish, child_start, root_course}
use Rattle.proc_laws.specs.Source.{SourceProgram}
use Rattle.proc_laws.specs.SourceMeaning.{source_course, no_calls, all_calls}
use Rattle.proc_laws.specs.Expansion.{Each, item_name, block_names, AreFresh, expanded_program, sets_all, all_expansions, no_expansions}
use Rattle.proc_expand.specs.Names.{is_among}
use Rattle.proc_laws.proofs.Basics.{by_case, no_both, bound, among_here, among_more, each_among, same_self, not_same}
use Rattle.proc_laws.proofs.Evaluations.{Renames}
use Rattle.proc_laws.proofs.Scopes.{behind_child}
use Rattle.proc_laws.proofs.Statements.{acts_all, NoItem}
use Rattle.proc_laws.proofs.Replacing.{known_of, or_left, or_right, or_second}
use Rattle.proc_laws.proofs.Calls.{all_agree, all_grow, none_agree, none_grow}

inputs_bound : (its : List Item) (ns : List ℤ) (is : Name → Bool) → ((x : Name) → is_among (map item_name its) x ≡ true → is x ≡ true)
    → Each is (bound (inputs its ns))
inputs_bound [] ns is f = tt
inputs_bound (Input y at ∷ its) (n ∷ ns) is f = (
  f y (among_here (same_name y y) (is_among (map item_name its) y) (same_self y)),
  inputs_bound its ns is (λ x h. f x (among_more (same_name x y) (is_among (map item_name its) x) h)),
)
inputs_bound (Input y at ∷ its) [] is f = inputs_bound its [] is (λ x h. f x (among_more (same_name x y) (is_among (map item_name its) x) h))
inputs_bound (Single y at size ∷ its) ns is f = inputs_bound its ns is (λ x h. f x (among_more (same_name x y) (is_among (map item_name its) x) h))
inputs_bound (Family y at count size ∷ its) ns is f =
    inputs_bound its ns is (λ x h. f x (among_more (same_name x y) (is_among (map item_name its) x) h))

not_here : (b m : Bool) → (if b then true else m) ≡ false → b ≡ false
not_here true m h = absurd (cc)
not_here false m h = refl

not_later : (b m : Bool) → (if b then true else m) ≡ false → m ≡ false
not_later true m h = absurd (cc)
not_later false m h = h

elsewhere : (its : List Item) (o : ℕ) (x y : Name) → is_among (map item_name its) x ≡ false → is_among (map item_name its) y ≡ false
    → range_from o x its ≡ range_from o y its
elsewhere [] o x y h k = refl
elsewhere (Input z at ∷ its) o x y h k =
    elsewhere its o x y (not_later (same_name x z) (is_among (map item_name its) x) h) (not_later (same_name y z) (is_among (map item_name its) y) k)
elsewhere (Single z at size ∷ its) o x y h k =
    let here : Range = record { first = o; count = 1; size = amount size.value } in
    ap (λ t. if t then here else range_from (suc o) x its) (not_here (same_name x z) (is_among (map item_name its) x) h)
    ∙ elsewhere its (suc o) x y (not_later (same_name x z) (is_among (map item_name its) x) h) (not_later (same_name y z) (is_among (map item_name its) y) k)
    ∙ sym (ap (λ t. if t then here else range_from (suc o) y its) (not_here (same_name y z) (is_among (map item_name its) y) k))
elsewhere (Family z at count size ∷ its) o x y h k =
    let here : Range = record { first = o; count = amount count.value; size = amount size.value } in
    ap (λ t. if t then here else range_from (o + amount count.value) x its) (not_here (same_name x z) (is_among (map item_name its) x) h)
    ∙ elsewhere its (o + amount count.value) x y (not_later (same_name x z) (is_among (map item_name its) x) h)
    (not_later (same_name y z) (is_among (map item_name its) y) k)
    ∙ sym (ap (λ t. if t then here else range_from (o + amount count.value) y its) (not_here (same_name y z) (is_among (map item_name its) y) k))

module _ (fresh : ℕ → Name) (p : SourceProgram) (ok : AreFresh fresh p) where
  items : List Name
  items = map item_name p.items

  known : Name → Bool
  known = known_of (map item_name p.items) (block_names p.main)

  same_names : Renames (map item_name p.items) fresh (known_of (map item_name p.items) (block_names p.main)) (λ x. x) 0
  same_names = record {
    keeps = λ x y h k. refl;
    item_known = λ x h. or_left (is_among (map item_name p.items) x) (is_among (block_names p.main) x) h;
    item = λ x h. refl;
    other = λ x h k. k;
    old = λ x h i le. by_case (is_among (map item_name p.items) x)
        (λ a. not_same (fresh i) x (λ e. no_both (is_among (map item_name p.items) x) a (ap (is_among (map item_name p.items)) (sym e) ∙ ok.no_item i)))
        (λ a. not_same (fresh i) x (λ e.
        no_both (is_among (block_names p.main) x) (or_second (is_among (map item_name p.items) x) (is_among (block_names p.main) x) a h)
        (ap (is_among (block_names p.main)) (sym e) ∙ ok.not_in_main i)));
  }

  pub program_same : NoItem (map item_name p.items) (sets_all (expanded_program fresh p).main) → (ns : List ℤ) (limit : ℕ)
      → root_course (expanded_program fresh p) ns limit ≡ source_course p ns limit
  program_same clean ns limit =
      let s : Setting = record { items = p.items; given = inputs p.items ns; limit = limit } in
      let names = map item_name p.items in
      let given_items = inputs_bound p.items ns (is_among names) (λ x h. h) in
      let away = elsewhere p.items 0 in
      let none = none_agree s names given_items fresh away ok.one_each ok.no_item in
      let none_up = none_grow s names given_items fresh away ok.one_each ok.no_item in
      sym (acts_all s names given_items fresh away (all_calls s (no_calls s) p.procedures) (all_expansions names fresh no_expansions p.procedures)
      (all_agree s names given_items fresh away ok.one_each ok.no_item p.procedures (no_calls s) no_expansions none none_up)
      (all_grow s names given_items fresh away ok.one_each ok.no_item p.procedures (no_calls s) no_expansions none none_up)
      (known_of names (block_names p.main)) (λ x. x) 0 same_names p.main
      (each_among (block_names p.main) (known_of names (block_names p.main)) (λ x h. or_right (is_among names x) (is_among (block_names p.main) x) h))
      (inputs p.items ns) (behind_child s names given_items fresh (known_of names (block_names p.main)) (λ x. x) 0 same_names) 0 (omega arith) clean
      finish finish (λ us w z. refl) [] tt (child_start [] (replicate (length (sizes p.items)) both_rights)))

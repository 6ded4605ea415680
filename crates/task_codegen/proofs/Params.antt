-- The names of a body that is created, put one after another.
use Rattle.std.proofs.Common.{◌≡◌, ℕ, suc, ◌+◌, ◌≤◌, List, [], ◌∷◌, ◌++◌, map, Some, refl, ap, ap₂, sym, ◌∙◌, take, drop, length, arith, add-one}
use Rattle.std.specs.List.{slice_get}
use Rattle.std.proofs.lemmas.List.{drop_all, take_more, map-append}
use Rattle.std.proofs.lemmas.Option.{slice_get_within, get_or_from_slice_get}
use Rattle.jade_base.specs.declared.place.Pos.{Pos}
use Rattle.jade_syntax.specs.declared.tree.Item.{Item}
use Rattle.jade_syntax.specs.declared.tree.Item.TheVariants.{Input, Single, Family}
use Rattle.jade_syntax.specs.declared.tree.Number.{Number}
use Rattle.jade_syntax.specs.declared.tree.Named.{Named}
use Rattle.jade_syntax.specs.Abstract.{Name}
use Rattle.jade_syntax.proofs.Limits.{drop_item}
use Rattle.task_translation.specs.Compile.{Scope, entry, slot_of, variable_at, call_of, inputs_in, given_scope, parameters}
use Rattle.task_codegen.specs.Bodies.{InBody}
use Rattle.task_codegen.specs.Compiled.{created}

-- the inputs from a place on are in scope
abbrev pub given : List Item → List Item → InBody
given items rest = record { items = items; kept = []; scope = given_scope rest; next = inputs_in rest }

pub none_given : (items : List Item) (n : ℕ) → length items ≤ n → record { items = items; kept = []; scope = []; next = 0 } ≡ given items (drop n items)
none_given items n le = ap (given items) (sym (drop_all n items le))

module _ (items : List Item) (i j : ℕ) (item : Item) (at_i : slice_get items i ≡ Some item) (next : i + 1 ≡ j) (b : InBody) (h : b
    ≡ given items (drop j items)) where
  opens : (k : Item) → item ≡ k → drop i items ≡ k ∷ drop j items
  opens k e = drop_item items i item at_i ∙ ap₂ (λ y n. y ∷ drop n items) e next

  pub given_input : (x : Name) (at : Pos) (c : InBody) (s : ℕ) → item ≡ Input x at → s ≡ b.next → c
      ≡ record { items = b.items; kept = b.kept; scope = entry x s ∷ b.scope; next = s + 1 } → c ≡ given items (drop i items)
  given_input x at c s e g f =
      f ∙ ap (λ k. record { items = b.items; kept = b.kept; scope = entry x k ∷ b.scope; next = k + 1 }) g
      ∙ ap (λ (d : InBody). record { items = d.items; kept = d.kept; scope = entry x d.next ∷ d.scope; next = d.next + 1 }) h
      ∙ ap (λ n. record {
        items = items;
        kept = [];
        scope = entry x (inputs_in (drop j items)) ∷ given_scope (drop j items);
        next =
            n;
      }) (add-one (inputs_in (drop j items)))
      ∙ ap (given items) (sym (opens (Input x at) e))

  pub given_single : (x : Name) (at : Pos) (size : Number) → item ≡ Single x at size → b ≡ given items (drop i items)
  given_single x at size e = h ∙ ap (given items) (sym (opens (Single x at size) e))

  pub given_family : (x : Name) (at : Pos) (count size : Number) → item ≡ Family x at count size → b ≡ given items (drop i items)
  given_family x at count size e = h ∙ ap (given items) (sym (opens (Family x at count size) e))

pub given_all : (items : List Item) (n : ℕ) (b : InBody) → n ≤ 0 → b ≡ given items (drop n items) → b ≡ given items items
given_all items n b le h = let z : n ≡ 0 = omega (arith, le) in h ∙ ap (λ k. given items (drop k items)) z

-- ---- the names of a `do` list

abbrev pub names_of : List Named → List Name
names_of names = map (λ n. n.name) names

pub none_created : (items : List Item) (names : List Named) (n : ℕ) (b : InBody) → length names ≤ n → b ≡ given items items → b
    ≡ created items (names_of (drop n names))
none_created items names n b le h =
    let z : inputs_in items ≡ inputs_in items + 0 = omega arith in
    h ∙ ap (λ k. record { items = items; kept = []; scope = given_scope items; next = k }) z ∙ ap (λ ns. created items (names_of ns)) (sym (drop_all n names le))

pub one_created : (items : List Item) (names : List Named) (i j : ℕ) (m : Named) (b c : InBody) (s : ℕ) → slice_get names i ≡ Some m → i + 1 ≡ j → b
    ≡ created items (names_of (drop j names)) → s ≡ b.next → c ≡ record { items = b.items; kept = b.kept; scope = entry m.name s ∷ b.scope; next = s + 1 } → c
    ≡ created items (names_of (drop i names))
one_created items names i j m b c s at e h g f =
    let n = length (names_of (drop j names)) in
    let more : inputs_in items + n + 1 ≡ inputs_in items + suc n = omega arith in
    f ∙ ap (λ k. record { items = b.items; kept = b.kept; scope = entry m.name k ∷ b.scope; next = k + 1 }) g
    ∙ ap (λ (d : InBody). record { items = d.items; kept = d.kept; scope = entry m.name d.next ∷ d.scope; next = d.next + 1 }) h
    ∙ ap (λ k. record { items = items; kept = []; scope = parameters items (m.name ∷ names_of (drop j names)); next = k }) more
    ∙ ap (λ ns. created items (names_of ns)) (sym (drop_item names i m at ∙ ap (λ k. m ∷ drop k names) e))

pub all_created : (items : List Item) (names : List Named) (n : ℕ) (b : InBody) → n ≤ 0 → b ≡ created items (names_of (drop n names)) → b
    ≡ created items (names_of names)
all_created items names n b le h = let z : n ≡ 0 = omega (arith, le) in h ∙ ap (λ k. created items (names_of (drop k names))) z

-- ---- where they are in the creator

call_both : (scope : Scope) (xs ys : List Name) → call_of scope (xs ++ ys) ≡ call_of scope xs ++ call_of scope ys
call_both scope [] ys = refl
call_both scope (x ∷ xs) ys = ap (λ c. variable_at (slot_of x scope) ∷ c) (call_both scope xs ys)

pub one_called : (scope : Scope) (names : List Named) (i : ℕ) (m : Named) → slice_get names i ≡ Some m → call_of scope (names_of (take (i + 1) names))
    ≡ call_of scope (names_of (take i names)) ++ variable_at (slot_of m.name scope) ∷ []
one_called scope names i m at =
    ap (λ ns. call_of scope (names_of ns)) (take_more names i m (slice_get_within names i m at)
    ∙ ap (λ y. take i names ++ y ∷ []) (get_or_from_slice_get names i m m at))
    ∙ ap (call_of scope) (map-append (λ n. n.name) (take i names) (m ∷ []))
    ∙ call_both scope (names_of (take i names)) (m.name ∷ [])

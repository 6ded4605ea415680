-- Variables in scope, kept with the newest last.
use Rattle.std.proofs.Common.{◌≡◌, ℕ, suc, ◌+◌, ◌≤◌, List, [], ◌∷◌, ◌++◌, ap, sym, ◌∙◌, take, drop, length, arith, add-one, append_assoc, true, false}
use Rattle.std.specs.Prelude.{slice_index_or, slice_set, if◌then◌else◌}
use Rattle.std.proofs.lemmas.List.{set_split}
use Rattle.jade_syntax.specs.Abstract.{Name}
use Rattle.jade_syntax.specs.Numbering.{same_name}
use Rattle.jade_syntax.proofs.Newest.{both, newest, oldest_of}
use Rattle.jade_meaning.specs.declared.scope.Bound.{Bound}
use Rattle.jade_meaning.specs.declared.values.Value.{Value}
use Rattle.jade_meaning.specs.Course.{value_of, assigned}
use Rattle.jade_meaning.specs.steps.Scopes.{binding, in_scope}

pub value_here : (x : Name) (bs : List Bound) (i j : ℕ) (b : Bound) → i + 1 ≡ j → j ≤ length bs → b ≡ slice_index_or bs i b → same_name x b.name.now ≡ true
    → value_of x (in_scope (take j bs)) ≡ b.value
value_here x bs i j b h lt e s =
    ap (λ k. value_of x (in_scope (take k bs))) (sym h) ∙ ap (value_of x) (newest binding bs i b (omega arith) e)
    ∙ ap (λ t. if t then b.value else value_of x (in_scope (take i bs))) s

pub value_below : (x : Name) (bs : List Bound) (i j : ℕ) (b : Bound) → i + 1 ≡ j → j ≤ length bs → b ≡ slice_index_or bs i b → same_name x b.name.now ≡ false
    → value_of x (in_scope (take j bs)) ≡ value_of x (in_scope (take i bs))
value_below x bs i j b h lt e s =
    ap (λ k. value_of x (in_scope (take k bs))) (sym h) ∙ ap (value_of x) (newest binding bs i b (omega arith) e)
    ∙ ap (λ t. if t then b.value else value_of x (in_scope (take i bs))) s

-- the variables from i on are not of this name
abbrev pub Passed : Name → Value → List Bound → ℕ → Type 0
Passed x v bs i = assigned x v (in_scope bs) ≡ in_scope (drop i bs) ++ assigned x v (in_scope (take i bs))

pub passed_more : (x : Name) (v : Value) (bs : List Bound) (i j : ℕ) (b : Bound) → i + 1 ≡ j → j ≤ length bs → b ≡ slice_index_or bs i b
    → drop i bs ≡ b ∷ drop (i + 1) bs → same_name x b.name.now ≡ false → Passed x v bs j → Passed x v bs i
passed_more x v bs i j b h lt e d s p =
    p
    ∙ ap (λ k. in_scope (drop k bs) ++ assigned x v (in_scope (take k bs))) (sym h)
    ∙ ap (λ y. in_scope (drop (i + 1) bs) ++ assigned x v y) (newest binding bs i b (omega arith) e)
    ∙ ap (λ t. in_scope (drop (i + 1) bs) ++ (if t then record (binding b) { value = v } ∷ in_scope (take i bs) else binding b ∷ assigned x v
    (in_scope (take i bs)))) s
    ∙ sym (append_assoc (in_scope (drop (i + 1) bs)) (binding b ∷ []) (assigned x v (in_scope (take i bs))))
    ∙ ap (λ y. y ++ assigned x v (in_scope (take i bs))) (sym (ap in_scope d ∙ oldest_of binding b (drop (i + 1) bs)))

pub assigned_here : (x : Name) (v : Value) (bs : List Bound) (i j : ℕ) (b c : Bound) → i + 1 ≡ j → j ≤ length bs → b ≡ slice_index_or bs i b → c.name ≡ b.name
    → c.value ≡ v → same_name x b.name.now ≡ true → Passed x v bs j → in_scope (slice_set bs i c) ≡ assigned x v (in_scope bs)
assigned_here x v bs i j b c h lt e f g s p =
    ap in_scope (set_split bs i c (omega arith)) ∙ both binding (take i bs) (c ∷ drop (suc i) bs)
    ∙ ap (λ y. y ++ in_scope (take i bs)) (oldest_of binding c (drop (suc i) bs))
    ∙ append_assoc (in_scope (drop (suc i) bs)) (binding c ∷ []) (in_scope (take i bs))
    ∙ ap (λ k. in_scope (drop k bs) ++ binding c ∷ in_scope (take i bs)) (sym (add-one i))
    ∙ ap (λ n. in_scope (drop (i + 1) bs) ++ record { name = n.now; value = c.value } ∷ in_scope (take i bs)) f
    ∙ ap (λ w. in_scope (drop (i + 1) bs) ++ record { name = b.name.now; value = w } ∷ in_scope (take i bs)) g
    ∙ sym (p
    ∙ ap (λ k. in_scope (drop k bs) ++ assigned x v (in_scope (take k bs))) (sym h)
    ∙ ap (λ y. in_scope (drop (i + 1) bs) ++ assigned x v y) (newest binding bs i b (omega arith) e)
    ∙ ap (λ t. in_scope (drop (i + 1) bs) ++ (if t then record (binding b) { value = v } ∷ in_scope (take i bs) else binding b ∷ assigned x v
    (in_scope (take i bs)))) s)

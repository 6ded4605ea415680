-- Going through the statements of a body.
use Rattle.std.proofs.Common.{◌≡◌, ℕ, suc, ◌+◌, List, [], ◌∷◌, ◌++◌, Some, refl, ap, sym, ◌∙◌, subst, drop, length, append_assoc}
use Rattle.std.specs.List.{slice_get}
use Rattle.jade_base.specs.declared.place.Pos.{Pos}
use Rattle.jade_syntax.specs.declared.stands.Stand.{Stand}
use Rattle.jade_syntax.specs.declared.tree.Statement.{Statement}
use Rattle.jade_syntax.specs.Abstract.{Name, Action, Actions, Local, Assign, Store, If, IfElse, For, Withonly, With, Declare, Then}
use Rattle.jade_syntax.specs.Image.{action, block}
use Rattle.jade_syntax.specs.Numbering.{Scope, slotted, parameters, name_stands, numbered_all}
use Rattle.jade_syntax.proofs.Limits.{drop_item}
use Rattle.jade_types.specs.steps.Bodies.{InBody, Puts, Goes, GoesAll, names_in, created_in, numbered_in, all_in, variables_after}
use Rattle.jade_types.proofs.Putting.{after, told}

pub created_names : (xs : List Name) (n : ℕ) (above items : Scope) → parameters n xs above ++ items ≡ parameters n xs (above ++ items)
created_names [] n above items = refl
created_names (x ∷ xs) n above items = created_names xs (suc n) (slotted x n above) items

-- the names that a task is handed, and then its body
pub task_puts : {task end : InBody} {s0 s1 s2 : List Stand} (body : InBody) (names : List Name) (statements : Actions)
    → Puts s0 s1 (name_stands (names_in body) names) → task ≡ created_in body names → GoesAll task end s1 s2 statements
    → Puts s0 s2 (name_stands (names_in body) names ++ (all_in (created_in body names) statements).stands)
task_puts {task} {end} {s0} {s1} {s2} body names statements p e g =
    let P : InBody → Type 0 = λ b. GoesAll b end s1 s2 statements in
    after p (let t : GoesAll (created_in body names) end s1 s2 statements = subst P e g in t).stands

pub withonly_goes : {old mid : InBody} {s0 s1 s2 : List Stand} (at : Pos) (section : Actions) (names : List Name) (body : Actions)
    → GoesAll old mid s0 s1 section → Puts s1 s2 (name_stands (names_in mid) names ++ (all_in (created_in mid names) body).stands)
    → Goes old mid s0 s2 (Withonly at section names body)
withonly_goes {old} {mid} {s0} {s1} {s2} at section names body p q =
    let P : InBody → Type 0 = λ b. Puts s1 s2 (name_stands (names_in b) names ++ (all_in (created_in b names) body).stands) in
    let handed = name_stands (names_in old) names in
    let task : Puts s1 s2 (handed ++ (all_in (created_in old names) body).stands) = subst P p.body q in
    let all = ap (λ scope. handed ++ (numbered_all old.items scope (length names) body).stands) (created_names names 0 [] old.items) in
    record { stands = told (sym (append_assoc (all_in old section).stands handed _)) (after p.stands (told all task)); body = p.body }

-- the arm of one kind of statement
pub arm : {old new : InBody} {s0 s1 : List Stand} (s t : Statement) (a : Action) → s ≡ t → action t ≡ a → Goes old new s0 s1 a
    → Goes old new s0 s1 (action s)
arm {old} {new} {s0} {s1} s t a e k g = let P : Action → Type 0 = λ b. Goes old new s0 s1 b in subst P (sym (ap action e ∙ k)) g

-- ---- blocks

-- the variables that a statement brings into scope
abbrev above : InBody → Action → Scope
above b (Local kind x e) = slotted x b.slots []
above b (Assign x e) = []
above b (Store o e v) = []
above b (If e first) = []
above b (IfElse e first other) = []
above b (For x low high body) = []
above b (Withonly at section names body) = []
above b (With at section) = []
above b (Declare how at o) = []

above_is : (b : InBody) (a : Action) → variables_after b a ≡ above b a ++ b.variables
above_is b (Local kind x e) = refl
above_is b (Assign x e) = refl
above_is b (Store o e v) = refl
above_is b (If e first) = refl
above_is b (IfElse e first other) = refl
above_is b (For x low high body) = refl
above_is b (Withonly at section names body) = refl
above_is b (With at section) = refl
above_is b (Declare how at o) = refl

scope_after : (b : InBody) (a : Action) → variables_after b a ++ b.items ≡ (numbered_in b a).scope
scope_after b (Local kind x e) = refl
scope_after b (Assign x e) = refl
scope_after b (Store o e v) = refl
scope_after b (If e first) = refl
scope_after b (IfElse e first other) = refl
scope_after b (For x low high body) = refl
scope_after b (Withonly at section names body) = refl
scope_after b (With at section) = refl
scope_after b (Declare how at o) = refl

-- some statements of a block were gone through, and the rest is left
pub record Going (old now : InBody) (before so_far : List Stand) (whole rest : Actions) : Type 0 where
  pub stands : so_far ++ (all_in now rest).stands ≡ before ++ (all_in old whole).stands
  pub slots : (all_in now rest).slots ≡ (all_in old whole).slots
  pub items : now.items ≡ old.items
  pub newer : Scope
  pub variables : now.variables ≡ newer ++ old.variables

pub goes_on : {old now next : InBody} {before so_far more : List Stand} {whole rest : Actions} (a : Action)
    → Going old now before so_far whole (Then a rest) → Goes now next so_far more a → Going old next before more whole rest
goes_on {old} {now} {next} {before} {so_far} {more} {whole} {rest} a g s =
    let b = numbered_in now a in
    let d = numbered_all now.items b.scope b.slots rest in
    let left : all_in next rest ≡ d = ap (λ n. all_in n rest) s.body ∙ ap (λ scope. numbered_all now.items scope b.slots rest) (scope_after now a) in
    record {
      stands = (λ i. s.stands.by i ++ (left i).stands) ∙ append_assoc so_far b.stands d.stands ∙ g.stands;
      slots = ap (λ n. n.slots) left ∙ g.slots;
      items = ap (λ n. n.items) s.body ∙ g.items;
      newer = above now a ++ g.newer;
      variables = ap (λ n. n.variables) s.body ∙ above_is now a ∙ ap (λ vs. above now a ++ vs) g.variables
          ∙ sym (append_assoc (above now a) g.newer old.variables);
    }

-- one more statement of a block
pub one_more : {old now next : InBody} {before so_far more : List Stand} {whole : Actions} (ss : List Statement) (i : ℕ) (s : Statement) → slice_get ss i
    ≡ Some s
    → Going old now before so_far whole (block (drop i ss)) → Goes now next so_far more (action s)
    → Going old next before more whole (block (drop (i + 1) ss))
one_more {old} {now} {next} {before} {so_far} {more} {whole} ss i s e g h =
    let P : List Statement → Type 0 = λ xs. Going old now before so_far whole (block xs) in
    goes_on (action s) (let t : P (s ∷ drop (i + 1) ss) = subst P (drop_item ss i s e) g in t) h

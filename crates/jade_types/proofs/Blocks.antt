-- Statements that are gone through, one after another.
use Rattle.std.proofs.Common.{◌≡◌, ℕ, ◌+◌, ◌-◌, ◌≤◌, List, [], ◌∷◌, ◌++◌, map, drop, length, length-append}
use Rattle.std.proofs.Common.{Option, Some, None, is_some, refl, ap, sym, ◌∙◌, subst, arith}
use Rattle.std.specs.List.{slice_get}
use Rattle.std.specs.Option.{option_map}
use Rattle.std.proofs.lemmas.List.{drop_all}
use Rattle.std.proofs.Math.Seq.{drop-append_seam}
use Rattle.jade_syntax.specs.declared.tree.Named.{Named}
use Rattle.jade_syntax.specs.declared.tree.Statement.{Statement}
use Rattle.jade_syntax.specs.declared.tree.ValueKind.{ValueKind}
use Rattle.jade_syntax.specs.declared.tree.ValueKind.TheVariants as value
use Rattle.jade_base.specs.declared.place.Pos.{Pos}
use Rattle.jade_syntax.specs.Abstract.{Name}
use Rattle.jade_syntax.specs.Placed.{Term, Phrase, Phrases, Local, Assign, Store, If, IfElse, For, Withonly, With, Declare}
use Rattle.jade_syntax.specs.PlacedImage.{phrase, phrases, mentioned}
use Rattle.jade_syntax.specs.StaticFaults.{Uses, Handed, Declares, Meaning, Holds, Turns, Names, known, found}
use Rattle.jade_syntax.specs.StaticFaults.{is_known, kind_of_name, parameter, parameters, mention_sites}
use Rattle.jade_syntax.specs.StaticFaults.{names_after, needed, sites, block_sites}
use Rattle.jade_syntax.proofs.Limits.{drop_item}
use Rattle.jade_types.specs.declared.faults.names.Meaning.{Meaning as MeaningOf}
use Rattle.jade_types.specs.declared.faults.notes.Notes.{Notes}
use Rattle.jade_types.specs.steps.Meanings.{meant}
use Rattle.jade_types.specs.steps.Noted.{Noted}
use Rattle.jade_types.specs.steps.Passed.{scope_after, Passed, PassedBlock}
use Rattle.jade_types.specs.steps.Scoped.{Scoped, in_scope}
use Rattle.jade_types.proofs.Noting.{Left, begins, goes_on, ends, after}

-- a name is found or it is not
pub known_by : (r : Option MeaningOf) (o : Option Meaning) → option_map meant r ≡ o → is_some r ≡ is_known o
known_by None o e = ap is_known e
known_by (Some m) o e = ap is_known e

-- what a task hands over goes on in its body
pub record Handing (before now : Notes) (outer body : Scoped) (all rest : List Named) : Type 0 where
  pub noted : Left before now (mention_sites (in_scope outer) [] (map mentioned all)) (mention_sites (in_scope outer) body.locals (map mentioned rest))
  pub locals : parameters (in_scope outer) body.locals (map mentioned rest) ≡ parameters (in_scope outer) [] (map mentioned all)
  pub items : body.items ≡ outer.items

pub hands_none : (n : Notes) (outer body : Scoped) (all : List Named) → body ≡ record { locals = []; items = outer.items } → Handing n n outer body all all
hands_none n outer body all e =
    let P : Scoped → Type 0 = λ s. Handing n n outer s all all in
    subst P (sym e) (record { noted = begins n _; locals = refl; items = refl })

pub hands_more : {n0 n1 n2 n3 : Notes} {outer body next : Scoped} (all : List Named) (i : ℕ) (m : Named) (kind : Option ValueKind) → slice_get all i
    ≡ Some m → kind ≡ kind_of_name (found m.name (in_scope outer)) →
    next ≡ record { locals = known m.name (Holds kind) ∷ body.locals; items = body.items } → Handing n0 n1 outer body all (drop i all) →
    Noted n1 n2 (Uses Handed m.name m.pos (in_scope outer) ∷ []) → Noted n2 n3 (Declares m.name m.pos body.locals ∷ [])
    → Handing n0 n3 outer next all (drop (i + 1) all)
hands_more {n0} {n1} {n2} {n3} {outer} {body} {next} all i m kind at is bound h used declared =
    let names = in_scope outer in
    let P : List Named → Type 0 = λ ms. Handing n0 n1 outer body all ms in
    let Q : Scoped → Type 0 = λ s. Handing n0 n3 outer s all (drop (i + 1) all) in
    let g : Handing n0 n1 outer body all (m ∷ drop (i + 1) all) = subst P (drop_item all i m at) h in
    let one : Left n0 n2 (mention_sites names [] (map mentioned all))
    (Declares m.name m.pos body.locals ∷ mention_sites names (parameter names (mentioned m) ∷ body.locals) (map mentioned (drop (i + 1) all))) =
    goes_on {a = Uses Handed m.name m.pos names ∷ []} g.noted used in
    let two : Left n0 n3 (mention_sites names [] (map mentioned all))
    (mention_sites names (parameter names (mentioned m) ∷ body.locals) (map mentioned (drop (i + 1) all))) =
    goes_on {a = Declares m.name m.pos body.locals ∷ []} one declared in
    subst Q (ap (λ k. record { locals = known m.name (Holds k) ∷ body.locals; items = body.items }) (sym is) ∙ sym bound)
    (record { noted = two; locals = g.locals; items = g.items })

pub handed_all : {n0 n1 : Notes} {outer body : Scoped} (all : List Named) (i : ℕ) → length all ≤ i → Handing n0 n1 outer body all (drop i all)
    → Handing n0 n1 outer body all []
handed_all {n0} {n1} {outer} {body} all i le h = let P : List Named → Type 0 = λ ms. Handing n0 n1 outer body all ms in subst P (drop_all i all le) h

pub hands_sites : {n0 n1 : Notes} {outer body : Scoped} {all : List Named} → Handing n0 n1 outer body all []
    → Noted n0 n1 (mention_sites (in_scope outer) [] (map mentioned all))
hands_sites h = ends h.noted

pub hands_scope : {n0 n1 : Notes} {outer body : Scoped} {all : List Named} → Handing n0 n1 outer body all [] → body
    ≡ record { locals = parameters (in_scope outer) [] (map mentioned all); items = outer.items }
hands_scope h = λ i. record { locals = h.locals i; items = h.items i }

-- the locals that were in scope before still are
pub record Keeps (s t : Scoped) : Type 0 where
  pub newer : Names
  pub locals : t.locals ≡ newer ++ s.locals
  pub items : t.items ≡ s.items

-- the statements of a block go on
pub record Blocking (before now : Notes) (s t : Scoped) (all rest : List Statement) : Type 0 where
  pub noted : Left before now (block_sites s.items (in_scope s) (phrases (map phrase all))) (block_sites s.items (in_scope t) (phrases (map phrase rest)))
  pub keeps : Keeps s t

pub blocks_none : (n : Notes) (s : Scoped) (all : List Statement) → Blocking n n s s all all
blocks_none n s all = record { noted = begins n _; keeps = record { newer = []; locals = refl; items = refl } }

after_is : (s : Scoped) (p : Phrase) → in_scope (scope_after s p) ≡ names_after (in_scope s) p
after_is s (Local kind x at e) = refl
after_is s (Assign x at e) = refl
after_is s (Store o e v) = refl
after_is s (If e first) = refl
after_is s (IfElse e first other) = refl
after_is s (For x at low high body) = refl
after_is s (Withonly at section params body) = refl
after_is s (With at section) = refl
after_is s (Declare how at o) = refl

after_keeps : (s t : Scoped) (p : Phrase) → Keeps s t → Keeps s (scope_after t p)
after_keeps s t (Local kind x at e) k =
    record { newer = known x (Holds (Some kind)) ∷ k.newer; locals = ap (λ l. known x (Holds (Some kind)) ∷ l) k.locals; items = k.items }
after_keeps s t (Assign x at e) k = k
after_keeps s t (Store o e v) k = k
after_keeps s t (If e first) k = k
after_keeps s t (IfElse e first other) k = k
after_keeps s t (For x at low high body) k = k
after_keeps s t (Withonly at section params body) k = k
after_keeps s t (With at section) k = k
after_keeps s t (Declare how at o) k = k

pub blocks_more : {n0 n1 n2 : Notes} {s t u : Scoped} (all : List Statement) (i : ℕ) (x : Statement) → slice_get all i ≡ Some x
    → Blocking n0 n1 s t all (drop i all) → Passed n1 n2 t u (phrase x) → Blocking n0 n2 s u all (drop (i + 1) all)
blocks_more {n0} {n1} {n2} {s} {t} {u} all i x at h passed =
    let P : List Statement → Type 0 = λ xs. Blocking n0 n1 s t all xs in
    let Q : Names → Type 0 = λ items. Noted n1 n2 (sites items (in_scope t) (phrase x)) in
    let R : Names → Type 0 = λ names. Left n0 n2 (block_sites s.items (in_scope s) (phrases (map phrase all)))
    (block_sites s.items names (phrases (map phrase (drop (i + 1) all)))) in
    let S : Scoped → Type 0 = λ v. Blocking n0 n2 s v all (drop (i + 1) all) in
    let g : Blocking n0 n1 s t all (x ∷ drop (i + 1) all) = subst P (drop_item all i x at) h in
    subst S (sym passed.scope) (record {
      noted = subst R (sym (after_is t (phrase x))) (goes_on g.noted (subst Q h.keeps.items passed.noted));
      keeps = after_keeps s t (phrase x) h.keeps;
    })

left_before : (newer locals : Names) (n : ℕ) → n ≡ length locals → drop (length (newer ++ locals) - n) (newer ++ locals) ≡ locals
left_before newer locals n e =
    let k : length (newer ++ locals) - n ≡ length newer = omega (arith, length-append newer locals) in
    ap (λ m. drop m (newer ++ locals)) k ∙ drop-append_seam newer locals

-- where the newer locals are left, the scope is as before
pub left_keeps : (s t u : Scoped) (n : ℕ) → n ≡ length s.locals → Keeps s t → u ≡ record { locals = drop (length t.locals - n) t.locals; items = t.items }
    → u ≡ s
left_keeps s t u n e k h =
    h ∙ ap (λ ls. record { locals = drop (length ls - n) ls; items = t.items }) k.locals
    ∙ ap (λ ls. record { locals = ls; items = t.items }) (left_before k.newer s.locals n e)
    ∙ ap (λ is. record { locals = s.locals; items = is }) k.items

pub blocks_end : {n0 n1 : Notes} {s t u : Scoped} (all : List Statement) (i n : ℕ) → length all ≤ i → n ≡ length s.locals
    → Blocking n0 n1 s t all (drop i all) → u ≡ record { locals = drop (length t.locals - n) t.locals; items = t.items }
    → PassedBlock n0 n1 s u (phrases (map phrase all))
blocks_end {n0} {n1} {s} {t} {u} all i n le e h left =
    let P : List Statement → Type 0 = λ xs. Blocking n0 n1 s t all xs in
    record { noted = ends (subst P (drop_all i all le) h).noted; scope = left_keeps s t u n e h.keeps left }

-- the arm of one kind of statement
pub arm : {n0 n1 : Notes} {s t : Scoped} (x y : Statement) (p : Phrase) → x ≡ y → phrase y ≡ p → Passed n0 n1 s t p → Passed n0 n1 s t (phrase x)
arm {n0} {n1} {s} {t} x y p e is passed = let P : Phrase → Type 0 = λ q. Passed n0 n1 s t q in subst P (sym (ap phrase e ∙ is)) passed

-- a block in a scope that is the same as another
block_in : {n0 n1 : Notes} {s t u : Scoped} {ps : Phrases} → t ≡ s → PassedBlock n0 n1 t u ps → PassedBlock n0 n1 s u ps
block_in {n0} {n1} {s} {t} {u} {ps} e passed = let P : Scoped → Type 0 = λ v. PassedBlock n0 n1 v u ps in subst P e passed

pub if_passed : {n0 n1 n2 : Notes} {s t : Scoped} {e : Term} {ps : Phrases} → Noted n0 n1 (needed value.Bool (in_scope s) e) → PassedBlock n1 n2 s t ps
    → Passed n0 n2 s t (If e ps)
if_passed test first = record { noted = after test first.noted; scope = first.scope }

pub else_passed : {n0 n1 n2 n3 : Notes} {s t u : Scoped} {e : Term} {ps qs : Phrases} → Noted n0 n1 (needed value.Bool (in_scope s) e)
    → PassedBlock n1 n2 s t ps → PassedBlock n2 n3 t u qs → Passed n0 n3 s u (IfElse e ps qs)
else_passed test first other = let b = block_in first.scope other in record { noted = after (after test first.noted) b.noted; scope = b.scope }

pub loop_passed : {n0 n1 n2 : Notes} {s t : Scoped} {low high : Term} {ps : Phrases} (x : Name) (at : Pos)
    → Noted n0 n1 (Declares x at (in_scope s) ∷ (needed value.Int (in_scope s) low ++ needed value.Int (in_scope s) high)) →
    Noted n1 n2 (block_sites s.items (known x Turns ∷ in_scope s) ps) → t ≡ s → Passed n0 n2 s t (For x at low high ps)
loop_passed x at bounds turns same = record { noted = after bounds turns; scope = same }

pub task_passed : {n0 n1 n2 n3 : Notes} {s t u v : Scoped} {at : Pos} {ps qs : Phrases} (names : List Named) → PassedBlock n0 n1 s t ps
    → Noted n1 n2 (mention_sites (in_scope t) [] (map mentioned names)) →
    u ≡ record { locals = parameters (in_scope t) [] (map mentioned names); items = t.items } → PassedBlock n2 n3 u v qs
    → Passed n0 n3 s t (Withonly at ps (map mentioned names) qs)
task_passed {n0} {n1} {n2} {n3} {s} {t} {u} {v} {at} {ps} {qs} names section handed bound body =
    let P : Scoped → Type 0 = λ w. Noted n1 n2 (mention_sites (in_scope w) [] (map mentioned names)) in
    let b = block_in (bound ∙ ap (λ (w : Scoped). record { locals = parameters (in_scope w) [] (map mentioned names); items = w.items }) section.scope)
    body in
    record { noted = after (after section.noted (subst P section.scope handed)) b.noted; scope = section.scope }

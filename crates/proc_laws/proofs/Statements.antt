-- Statements whose names are replaced and whose calls are expanded do what their source does.
use Rattle.std.proofs.Common.{◌≡◌, ℕ, zero, suc, ◌≤◌, Bool, true, false, List, [], ◌∷◌, ◌++◌, drop, map, refl, sym, ap, ◌∙◌, arith}
use Rattle.std.specs.Prelude.{not, ℤ, pos, ◌+ℤ◌, IsTrue, Option, Some, None, slice_set}
use Rattle.jade_base.specs.declared.place.Pos.{Pos}
use Rattle.jade_base.specs.declared.rights.Rights.{Rights}
use Rattle.jade_base.specs.declared.report.FaultKind.TheVariants.{Cover, Commute}
use Rattle.jade_base.specs.Rights.{join}
use Rattle.jade_syntax.specs.declared.tree.DeclareWord.{DeclareWord}
use Rattle.jade_syntax.specs.Abstract.{Name, Expression}
use Rattle.jade_meaning.specs.declared.values.Value.TheVariants.{IntOf}
use Rattle.jade_meaning.specs.Values.{whole, holds, turn_count}
use Rattle.jade_meaning.specs.Specification.{Specification, rights_on, covers, fitted, is_commuting, may_commute}
use Rattle.jade_meaning.specs.Changes.{declared, amended}
use Rattle.jade_meaning.specs.Course.{Creates, Changes, Environment, Setting, Mine, On, Draft, NoDraft, Building, Amending, bind, assigned, scoped}
use Rattle.jade_meaning.specs.Course.{choose, fault, finish, place_of, reach, write_cell, eval, turns, section_begins, create, create_covered, change, declare, amend, none_of}
use Rattle.jade_meaning.specs.Course.{run, run_all, copied, drafted, working, child_start}
use Rattle.proc_laws.specs.Source.{
  SourceAction,
  Local,
  Assign,
  Store,
  If,
  IfElse,
  For,
  Withonly,
  With,
  Declare,
  Call,
  SourceActions,
  Done,
  Then,
}
use Rattle.proc_laws.specs.SourceMeaning.{Calls, act, act_all}
use Rattle.proc_laws.specs.Expansion.{Each, names_in, place_names, argument_names, action_names, block_names, renamed, renamed_place}
use Rattle.proc_expand.specs.Names.{is_among}
use Rattle.proc_laws.specs.Expansion.{Expansions, expanded, expanded_all, sets, sets_all}
use Rattle.proc_laws.proofs.Basics.{by_case, no_both, each_left, each_right, moved, not_true}
use Rattle.proc_laws.proofs.Evaluations.{Renames, Elsewhere, Sees, seeing, choose_same, reach_same, write_same, place_same, evals, finds}
use Rattle.proc_laws.proofs.Scopes.{Held, Behind, AreItems, Follows, step_same, scoped_same, sees_of, moved_assignment, source_assignment}
use Rattle.proc_laws.proofs.Scopes.{moved_copied, behind_child, held_drop, held_assigned}

-- what stands for calls takes numbers upward
abbrev pub Grows : Expansions → Type 0
Grows calls = (f : Name) (args : List Expression) (n : ℕ) → n ≤ (calls f args n).next

module _ (calls : Expansions) (grows : Grows calls) (to : Name → Name) where
  mutual
    pub grow : (a : SourceAction) (n : ℕ) → n ≤ (expanded calls to a n).next
    grow (Local kind x e) n = omega arith
    grow (Assign x e) n = omega arith
    grow (Store o e v) n = omega arith
    grow (If e first) n = grow_all first n
    grow (IfElse e first other) n =
        let b = grow_all first n in let d = grow_all other (expanded_all calls to first n).next in omega (arith, b, d)
    grow (For x low high body) n = grow_all body n
    grow (Withonly at section names body) n =
        let b = grow_all section n in let d = grow_all body (expanded_all calls to section n).next in omega (arith, b, d)
    grow (With at section) n = grow_all section n
    grow (Declare how at o) n = omega arith
    grow (Call f args) n = grows f (map (renamed to) args) n

    pub grow_all : (a : SourceActions) (n : ℕ) → n ≤ (expanded_all calls to a n).next
    grow_all Done n = omega arith
    grow_all (Then a more) n =
        let b = grow a n in let d = grow_all more (expanded calls to a n).next in omega (arith, b, d)

-- no name is an item's
abbrev pub NoItem : List Name → List Name → Type 0
NoItem items xs = Each (λ x. not (is_among items x)) xs

-- what stands for calls does what the calls do, wherever names are replaced
abbrev pub Agrees : Setting → List Name → (ℕ → Name) → Calls → Expansions → Type 0
Agrees s items fresh calls exps =
    (known : Name → Bool) (to : Name → Name) (n0 : ℕ) → Renames items fresh known to n0 → (c : Environment) → Behind s items fresh known to n0 c
    → (f : Name) (args : List Expression) → Each known (argument_names args) → (n : ℕ) → n0 ≤ n
    → NoItem items (sets (exps f (map (renamed to) args) n).made)
    → (on on' : On) → Follows s items known to c on on'
    → Follows s items known to c (calls f args on) (run s (exps f (map (renamed to) args) n).made on')

amend_same : (a : Option Rights) (spec : Specification) (o : ℕ) (at : Pos) (on on' : On) (m : Mine) (e e' : Environment)
    → ((m : Mine) → on (seeing m e) ≡ on' (seeing m e')) → amend a spec o at on (seeing m e) ≡ amend a spec o at on' (seeing m e')
amend_same None spec o at on on' m e e' f = refl
amend_same (Some a) spec o at on on' m e e' f = f (record m { draft = Amending (slice_set spec o a) })

declare_same : (d : Draft) (how : DeclareWord) (o : ℕ) (at : Pos) (on on' : On) (m : Mine) (e e' : Environment)
    → ((m : Mine) → on (seeing m e) ≡ on' (seeing m e')) → declare d how o at on (seeing m e) ≡ declare d how o at on' (seeing m e')
declare_same NoDraft how o at on on' m e e' f = f m
declare_same (Building spec) how o at on on' m e e' f =
    f (record m { draft = Building (slice_set spec o (join (rights_on spec o) (declared how))) })
declare_same (Amending spec) how o at on on' m e e' f = amend_same (amended how (rights_on spec o)) spec o at on on' m e e' f

module _ (s : Setting) (items : List Name) (given_items : AreItems s items) (fresh : ℕ → Name) (elsewhere : Elsewhere s items)
    (calls : Calls) (exps : Expansions) (agrees : Agrees s items fresh calls exps) (grows : Grows exps)
    (known : Name → Bool) (to : Name → Name) (n0 : ℕ) (r : Renames items fresh known to n0) where
  no_item : (x : Name) → IsTrue (not (is_among items (to x))) → is_among items x ≡ false
  no_item x h =
      by_case (is_among items x) (λ i. no_both (is_among items (to x)) (ap (is_among items) (r.item x i) ∙ i) (not_true (is_among items (to x)) h)) (λ e. e)

  drops : (i : ℕ) (ls : Environment) → Held items known ls → Held items known (drop i ls)
  drops = held_drop s items given_items fresh known to n0 r

  held_copied : (names : List Name) → Each known names → NoItem items (map to names) → (env : Environment) → Held items known (copied names env)
  held_copied [] h k env = tt
  held_copied (x ∷ xs) h k env = (h.0, no_item x k.0, held_copied xs h.1 k.1 env)

  module _ (c : Environment) (b : Behind s items fresh known to n0 c) where
    sees : (ls : Environment) → Held items known ls → Sees known to (ls ++ s.given) (moved to ls ++ c)
    sees ls k = sees_of s items given_items fresh known to n0 r c b ls k

    turns_same : (x : Name) → known x ≡ true → is_among items x ≡ false → (body body' : On → On)
        → ((on on' : On) → Follows s items known to c on on' → Follows s items known to c (body on) (body' on'))
        → (on on' : On) → Follows s items known to c on on' → (n : ℕ) (i : ℤ)
        → Follows s items known to c (turns s.limit n i x body on) (turns s.limit n i (to x) body' on')
    turns_same x h p body body' g on on' f zero i = f
    turns_same x h p body body' g on on' f (suc n) i =
        let rest = turns s.limit n (i +ℤ pos 1) x body on in let rest' = turns s.limit n (i +ℤ pos 1) (to x) body' on' in
        step_same s items known to c drops
        (λ a. scoped (λ k d. body k (bind x (IntOf i) d)) rest a) (λ a. scoped (λ k d. body' k (bind (to x) (IntOf i) d)) rest' a)
        (λ ls k m.
        scoped_same s items known to c drops (λ k d. body k (bind x (IntOf i) d)) (λ k d. body' k (bind (to x) (IntOf i) d))
        (λ q q' e us w z. g q q' e (record { name = x; value = IntOf i } ∷ us) (h, p, w) z) rest rest'
        (turns_same x h p body body' g on on' f n (i +ℤ pos 1)) ls k m)

    change_same : (on on' : On) → Follows s items known to c on on' → Follows s items known to c (change on) (change on')
    change_same on on' f ls k m =
        let new = fitted m.spec (working m.draft m.spec) in ap (Changes new) (f ls k (record m { spec = new; draft = NoDraft }))

    -- a child is made with the same variables, and does the same
    create_same : (at : Pos) (names : List Name) → Each known names → NoItem items (map to names) → (body body' : On)
        → Follows s items known to s.given body body' → (on on' : On) → Follows s items known to c on on'
        → Follows s items known to c (create s at names body on) (create s at (map to names) body' on')
    create_same at names h p body body' g on on' f ls k m =
        let child = fitted m.spec (drafted m.draft) in
        let e = ls ++ s.given in let e' = moved to ls ++ c in
        let own = copied names e in
        let start = child_start [] child in
        let first : body (seeing start (own ++ s.given)) ≡ body' (seeing start (copied (map to names) e' ++ s.given)) =
        g own (held_copied names h p e) start
        ∙ ap (λ u. body' (seeing start (u ++ s.given))) (sym (moved_copied s items given_items fresh known to n0 r c b names h ls k)) in
        choose_same (may_commute child) (create_covered s at names child body on) (fault Commute at)
        (create_covered s at (map to names) child body' on') (fault Commute at) (seeing m e) (seeing m e')
        (choose_same (covers m.spec child)
        (λ n. Creates child (body (child_start (copied names n.env ++ s.given) child)) (on (record n { draft = NoDraft }))) (fault Cover at)
        (λ n. Creates child (body' (child_start (copied (map to names) n.env ++ s.given) child)) (on' (record n { draft = NoDraft }))) (fault Cover at)
        (seeing m e) (seeing m e')
        (ap (λ u. Creates child u (on (seeing (record m { draft = NoDraft }) e))) first
        ∙ ap (Creates child (body' (seeing start (copied (map to names) e' ++ s.given)))) (f ls k (record m { draft = NoDraft }))) refl) refl

    section_same : (at : Pos) (draft : Draft) (on on' : On) → Follows s items known to c on on'
        → Follows s items known to c (section_begins at draft on) (section_begins at draft on')
    section_same at draft on on' f ls k m =
        choose_same (is_commuting m.spec) (fault Commute at) (λ n. on (record n { draft = draft })) (fault Commute at)
        (λ n. on' (record n { draft = draft })) (seeing m (ls ++ s.given)) (seeing m (moved to ls ++ c)) refl (f ls k (record m { draft = draft }))

  mutual
    pub acts : (a : SourceAction) → Each known (action_names a) → (c : Environment) → Behind s items fresh known to n0 c → (n : ℕ) → n0 ≤ n
        → NoItem items (sets (expanded exps to a n).made) → (on on' : On) → Follows s items known to c on on'
        → Follows s items known to c (act s calls a on) (run s (expanded exps to a n).made on')
    acts (Local kind x e) h c b n le p on on' f ls k m =
        evals s items fresh elsewhere known to n0 r (ls ++ s.given) (moved to ls ++ c) m (sees c b ls k) e h.1
        (λ v. on (bind x v (seeing m (ls ++ s.given)))) (λ v. on' (bind (to x) v (seeing m (moved to ls ++ c))))
        (λ v. f (record { name = x; value = v } ∷ ls) (h.0, no_item x p.0, k) m)
    acts (Assign x e) h c b n le p on on' f ls k m =
        evals s items fresh elsewhere known to n0 r (ls ++ s.given) (moved to ls ++ c) m (sees c b ls k) e h.1
        (λ v. on (seeing m (assigned x v (ls ++ s.given)))) (λ v. on' (seeing m (assigned (to x) v (moved to ls ++ c))))
        (λ v.
        ap (λ u. on (seeing m u)) (source_assignment s items given_items fresh known to n0 r c b x (no_item x p.0) v ls)
        ∙ f (assigned x v ls) (held_assigned s items given_items fresh known to n0 r x v ls k) m
        ∙ ap (λ u. on' (seeing m u)) (sym (moved_assignment s items given_items fresh known to n0 r c b x h.0 (no_item x p.0) v ls k)))
    acts (Store o e v) h c b n le p on on' f ls k m =
        let i = ls ++ s.given in let i' = moved to ls ++ c in
        let q = place_of o in let q' = place_of (renamed_place to o) in
        let hv = each_right known (place_names o) (names_in e ++ names_in v) h in
        finds s items fresh elsewhere known to n0 r i i' m (sees c b ls k) o (each_left known (place_names o) (names_in e ++ names_in v) h)
        (λ g. eval s e (seeing m i) (λ a. reach g (whole a) q (seeing m i) (λ d.
        eval s v (seeing m i) (λ z. write_cell g.number d (whole z) q on (seeing m i)))))
        (λ g. eval s (renamed to e) (seeing m i') (λ a. reach g (whole a) q' (seeing m i') (λ d.
        eval s (renamed to v) (seeing m i') (λ z. write_cell g.number d (whole z) q' on' (seeing m i')))))
        (λ g.
        evals s items fresh elsewhere known to n0 r i i' m (sees c b ls k) e (each_left known (names_in e) (names_in v) hv)
        (λ a. reach g (whole a) q (seeing m i) (λ d. eval s v (seeing m i) (λ z. write_cell g.number d (whole z) q on (seeing m i))))
        (λ a. reach g (whole a) q' (seeing m i') (λ d. eval s (renamed to v) (seeing m i') (λ z. write_cell g.number d (whole z) q' on' (seeing m i'))))
        (λ a.
        reach_same g (whole a) q (seeing m i) (seeing m i')
        (λ d. eval s v (seeing m i) (λ z. write_cell g.number d (whole z) q on (seeing m i)))
        (λ d. eval s (renamed to v) (seeing m i') (λ z. write_cell g.number d (whole z) q on' (seeing m i')))
        (λ d.
        evals s items fresh elsewhere known to n0 r i i' m (sees c b ls k) v (each_right known (names_in e) (names_in v) hv)
        (λ z. write_cell g.number d (whole z) q on (seeing m i)) (λ z. write_cell g.number d (whole z) q on' (seeing m i'))
        (λ z. write_same g.number d (whole z) q on on' m i i' (f ls k m)))
        ∙ ap (λ u. reach g (whole a) u (seeing m i') (λ d.
        eval s (renamed to v) (seeing m i') (λ z. write_cell g.number d (whole z) u on' (seeing m i')))) (place_same to o)))
    acts (If e first) h c b n le p on on' f ls k m =
        let i = ls ++ s.given in let i' = moved to ls ++ c in
        let x = expanded_all exps to first n in
        evals s items fresh elsewhere known to n0 r i i' m (sees c b ls k) e (each_left known (names_in e) (block_names first) h)
        (λ v. choose (holds v) (scoped (act_all s calls first) on) on (seeing m i))
        (λ v. choose (holds v) (scoped (run_all s x.made) on') on' (seeing m i'))
        (λ v. choose_same (holds v) (scoped (act_all s calls first) on) on (scoped (run_all s x.made) on') on' (seeing m i) (seeing m i')
        (scoped_same s items known to c drops (act_all s calls first) (run_all s x.made)
        (λ q q' w. acts_all first (each_right known (names_in e) (block_names first) h) c b n le p q q' w) on on' f ls k m) (f ls k m))
    acts (IfElse e first other) h c b n le p on on' f ls k m =
        let i = ls ++ s.given in let i' = moved to ls ++ c in
        let x = expanded_all exps to first n in
        let y = expanded_all exps to other x.next in
        let up = grow_all exps grows to first n in
        let hb = each_right known (names_in e) (block_names first ++ block_names other) h in
        evals s items fresh elsewhere known to n0 r i i' m (sees c b ls k) e
        (each_left known (names_in e) (block_names first ++ block_names other) h)
        (λ v. choose (holds v) (scoped (act_all s calls first) on) (scoped (act_all s calls other) on) (seeing m i))
        (λ v. choose (holds v) (scoped (run_all s x.made) on') (scoped (run_all s y.made) on') (seeing m i'))
        (λ v. choose_same (holds v) (scoped (act_all s calls first) on) (scoped (act_all s calls other) on) (scoped (run_all s x.made) on')
        (scoped (run_all s y.made) on') (seeing m i) (seeing m i')
        (scoped_same s items known to c drops (act_all s calls first) (run_all s x.made)
        (λ q q' w. acts_all first (each_left known (block_names first) (block_names other) hb) c b n le
        (each_left (λ z. not (is_among items z)) (sets_all x.made) (sets_all y.made) p) q q' w) on on' f ls k m)
        (scoped_same s items known to c drops (act_all s calls other) (run_all s y.made)
        (λ q q' w. acts_all other (each_right known (block_names first) (block_names other) hb) c b x.next (omega (arith, le, up))
        (each_right (λ z. not (is_among items z)) (sets_all x.made) (sets_all y.made) p) q q' w) on on' f ls k m))
    acts (For x low high body) h c b n le p on on' f ls k m =
        let i = ls ++ s.given in let i' = moved to ls ++ c in
        let y = expanded_all exps to body n in
        let hb = each_right known (names_in low) (names_in high ++ block_names body) h.1 in
        evals s items fresh elsewhere known to n0 r i i' m (sees c b ls k) low (each_left known (names_in low) (names_in high ++ block_names body) h.1)
        (λ l. eval s high (seeing m i) (λ u. turns s.limit (turn_count (whole l) (whole u)) (whole l) x (act_all s calls body) on (seeing m i)))
        (λ l. eval s (renamed to high) (seeing m i')
        (λ u. turns s.limit (turn_count (whole l) (whole u)) (whole l) (to x) (run_all s y.made) on' (seeing m i')))
        (λ l.
        evals s items fresh elsewhere known to n0 r i i' m (sees c b ls k) high (each_left known (names_in high) (block_names body) hb)
        (λ u. turns s.limit (turn_count (whole l) (whole u)) (whole l) x (act_all s calls body) on (seeing m i))
        (λ u. turns s.limit (turn_count (whole l) (whole u)) (whole l) (to x) (run_all s y.made) on' (seeing m i'))
        (λ u. turns_same c b x h.0 (no_item x p.0) (act_all s calls body) (run_all s y.made)
        (λ q q' w. acts_all body (each_right known (names_in high) (block_names body) hb) c b n le p.1 q q' w)
        on on' f (turn_count (whole l) (whole u)) (whole l) ls k m))
    acts (Withonly at section names body) h c b n le p on on' f ls k m =
        let x = expanded_all exps to section n in
        let y = expanded_all exps to body x.next in
        let up = grow_all exps grows to section n in
        let free : Name → Bool = λ z. not (is_among items z) in
        let hb = each_right known (block_names section) (names ++ block_names body) h in
        let pb = each_right free (sets_all x.made) (map to names ++ sets_all y.made) p in
        section_same c b at (Building (none_of s.items)) (scoped (act_all s calls section) (create s at names (act_all s calls body finish) on))
        (scoped (run_all s x.made) (create s at (map to names) (run_all s y.made finish) on'))
        (scoped_same s items known to c drops (act_all s calls section) (run_all s x.made)
        (λ q q' w. acts_all section (each_left known (block_names section) (names ++ block_names body) h) c b n le
        (each_left free (sets_all x.made) (map to names ++ sets_all y.made) p) q q' w)
        (create s at names (act_all s calls body finish) on) (create s at (map to names) (run_all s y.made finish) on')
        (create_same c b at names (each_left known names (block_names body) hb) (each_left free (map to names) (sets_all y.made) pb)
        (act_all s calls body finish) (run_all s y.made finish)
        (acts_all body (each_right known names (block_names body) hb) s.given (behind_child s items given_items fresh known to n0 r) x.next
        (omega (arith, le, up)) (each_right free (map to names) (sets_all y.made) pb) finish finish (λ us w z. refl)) on on' f)) ls k m
    acts (With at section) h c b n le p on on' f ls k m =
        let x = expanded_all exps to section n in
        section_same c b at (Amending m.spec) (scoped (act_all s calls section) (change on)) (scoped (run_all s x.made) (change on'))
        (scoped_same s items known to c drops (act_all s calls section) (run_all s x.made)
        (λ q q' w. acts_all section h c b n le p q q' w) (change on) (change on') (change_same c b on on' f)) ls k m
    acts (Declare how at o) h c b n le p on on' f ls k m =
        finds s items fresh elsewhere known to n0 r (ls ++ s.given) (moved to ls ++ c) m (sees c b ls k) o h
        (λ g. declare m.draft how g.number at on (seeing m (ls ++ s.given))) (λ g. declare m.draft how g.number at on' (seeing m (moved to ls ++ c)))
        (λ g. declare_same m.draft how g.number at on on' m (ls ++ s.given) (moved to ls ++ c) (f ls k))
    acts (Call g args) h c b n le p on on' f ls k m = agrees known to n0 r c b g args h n le p on on' f ls k m

    pub acts_all : (a : SourceActions) → Each known (block_names a) → (c : Environment) → Behind s items fresh known to n0 c → (n : ℕ) → n0 ≤ n
        → NoItem items (sets_all (expanded_all exps to a n).made) → (on on' : On) → Follows s items known to c on on'
        → Follows s items known to c (act_all s calls a on) (run_all s (expanded_all exps to a n).made on')
    acts_all Done h c b n le p on on' f = f
    acts_all (Then a more) h c b n le p on on' f =
        let x = expanded exps to a n in
        let y = expanded_all exps to more x.next in
        let up = grow exps grows to a n in
        let free : Name → Bool = λ z. not (is_among items z) in
        step_same s items known to c drops (act s calls a (act_all s calls more on)) (run s x.made (run_all s y.made on'))
        (acts a (each_left known (action_names a) (block_names more) h) c b n le (each_left free (sets x.made) (sets_all y.made) p)
        (act_all s calls more on) (run_all s y.made on')
        (acts_all more (each_right known (action_names a) (block_names more) h) c b x.next (omega (arith, le, up))
        (each_right free (sets x.made) (sets_all y.made) p) on on' f))

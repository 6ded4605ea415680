-- By turn lists that name the turns that a run takes, one after another, each settling finds its arrangement.
use Rattle.std.proofs.Common.{◌≡◌, ◌≢◌, ℕ, suc, true, false, List, [], ◌∷◌, ◌++◌, length, take, drop, refl, sym, ap, ◌∙◌, subst, Option, Some, None, append-nil, append_assoc, ◌⊎◌, inl, inr}
use Rattle.std.specs.Prelude.{ℤ, nat_eq, if◌then◌else◌}
use Rattle.std.specs.List.{cons_option}
use Rattle.std.proofs.Math.Path.{fun_ext}
use Rattle.std.proofs.Math.Seq.{take-append_seam, drop-append_seam}
use Rattle.std.proofs.lemmas.Bool.Decides.{eqb_tells}
use Rattle.std.proofs.lemmas.Bool.{eq-eqb}
use Rattle.jade_syntax.specs.Abstract.{AbstractProgram}
use Rattle.jade_syntax.specs.Objects.{sizes}
use Rattle.jade_meaning.specs.Specification.{Specification, objects, commuting_on}
use Rattle.jade_meaning.specs.Course.{Course, Reads, Writes, Steps, Creates, Changes, Ends, root_spec, root_course}
use Rattle.jade_meaning.specs.Serial.{Mark, Path, DidRead, DidWrite, DidCreate, after, cell, with_cell, zeros}
use Rattle.jade_meaning.specs.Turns.{Member, World, Ran, at_path, group, others, arranged, turn, turns_taken, settle, settled, settle_all, first, entered, run, whole_run}
use Rattle.jade_meaning.specs.Turns.{touched_at_once, made_touchable, turns_on, turn_of, marks_by, Full}
use Rattle.jade_meaning.specs.Laws.{Every}
use Rattle.jade_meaning.proofs.Groups.{every_arranged, group_of}
use Rattle.jade_meaning.proofs.Filling.{ran_of, turns_both, turn_turns, taken_elsewhere, first_both, create_on, create_shape}
use Rattle.turn_laws.specs.Spending.{Lists, Spent, arranges, taken_from, spend, preceded, and_then, spend_all, begun, run_spending, whole_run_spending, LeavesNothing, UsedUp}
use Rattle.turn_laws.proofs.Arranging.{paths, arranges_arranged, again_alone, as_many}

-- the turns of members on their object
pub taken_paths : (o : ℕ) (ms : List Member) (s : List (List ℤ)) → Every (λ m. m.object ≡ o) ms → turns_on o (turns_taken ms s) ≡ paths ms
taken_paths o [] s h = refl
taken_paths o (m ∷ ms) s h =
    turns_both o (turn m s) (turns_taken ms (after (turn m s) s))
    ∙ ap (λ x. x ++ turns_on o (turns_taken ms (after (turn m s) s)))
    (turn_turns o m s ∙ ap (λ b. if b then m.path ∷ [] else []) (eq-eqb m.object o h.0))
    ∙ ap (λ x. m.path ∷ x) (taken_paths o ms (after (turn m s) s) h.1)

-- the turns that marks tell of, and then these lists
abbrev before : List Mark → Lists → Lists
before ms post o = turns_on o ms ++ post o

before_both : (a b : List Mark) (post : Lists) → before (a ++ b) post ≡ before a (before b post)
before_both a b post =
    fun_ext (λ o. ap (λ l. l ++ post o) (turns_both o a b) ∙ append_assoc (turns_on o a) (turns_on o b) (post o))

-- from such lists there is this run, and they are left after it
abbrev Spends : (Lists → Option Spent) → Ran → Type 0
Spends f r = (post : Lists) → f (before r.marks post) ≡ Some (record { ran = r; left = post })

then_spends : (f : Lists → Option Spent) (a : Ran) (g : World → Lists → Option Spent) (r : Ran) → Spends f a → Spends (g a.world) r
    → Spends (λ l. and_then (f l) g) (first a.marks r)
then_spends f a g r h k post =
    ap (λ l. and_then (f l) g) (before_both a.marks r.marks post) ∙ ap (λ s. and_then s g) (h (before r.marks post)) ∙ ap (preceded a.marks) (k post)

-- a mark of which no turn list tells
mark_spends : (f : Lists → Option Spent) (m : Mark) (r : Ran) → ((o : ℕ) → turn_of o m.deed m.path ≡ None) → Spends f r
    → Spends (λ l. preceded (m ∷ []) (f l)) (first (m ∷ []) r)
mark_spends f m r none h post =
    ap (λ l. preceded (m ∷ []) (f l)) (fun_ext (λ o. ap (λ x. x ++ post o) (quiet o))) ∙ ap (preceded (m ∷ [])) (h post)
  where
    quiet : (o : ℕ) → turns_on o (m ∷ r.marks) ≡ turns_on o r.marks
    quiet o = ap (λ x. cons_option x (turns_on o r.marks)) (none o)

module _ (T : Lists) where
  spend_spends : (o : ℕ) (w : World) → Spends (spend o w) (ran_of T o w)
  spend_spends o w post =
      let g = group o w.waiting in
      let ms = arranged (T o) g in
      let left = before (settle T o w) post in
      let own : left o ≡ paths ms ++ post o =
      ap (λ l. l ++ post o) (taken_paths o ms w.store (every_arranged (λ m. m.object ≡ o) (T o) g (group_of o w.waiting))) in
      let many : length (paths ms) ≡ length g = as_many (paths ms) g (arranges_arranged (T o) g) in
      let now : take (length g) (left o) ≡ paths ms =
      ap (take (length g)) own ∙ ap (λ n. take n (paths ms ++ post o)) (sym many) ∙ take-append_seam (paths ms) (post o) in
      let back : drop (length g) (left o) ≡ post o =
      ap (drop (length g)) own ∙ ap (λ n. drop n (paths ms ++ post o)) (sym many) ∙ drop-append_seam (paths ms) (post o) in
      let later : taken_from o (length g) left ≡ post = fun_ext (λ x. at x (eqb_tells x o) back) in
      let l = taken_from o (length g) left in
      ap (λ ps. if arranges ps g then Some (by (arranged ps g) l) else None) now
      ∙ ap (λ b. if b then Some (by (arranged (paths ms) g) l) else None) (arranges_arranged (T o) g)
      ∙ ap (λ z. Some (by z l)) (again_alone (T o) g) ∙ ap (λ z. Some (by ms z)) later
    where
      by : List Member → Lists → Spent
      by ms l = record {
        ran = record { marks = turns_taken ms w.store; world = record { store = after (turns_taken ms w.store) w.store; waiting = others o w.waiting } };
        left = l;
      }

      at : (x : ℕ) → ((nat_eq x o ≡ true) × (x ≡ o)) ⊎ ((nat_eq x o ≡ false) × (x ≢ o))
          → drop (length (group o w.waiting)) (before (settle T o w) post o) ≡ post o
          → taken_from o (length (group o w.waiting)) (before (settle T o w) post) x ≡ post x
      at x (inl e) h =
          let n = length (group o w.waiting) in
          let left = before (settle T o w) post in
          ap (λ b. if b then drop n (left x) else left x) e.0 ∙ ap (λ z. drop n (left z)) e.1 ∙ h ∙ ap post (sym e.1)
      at x (inr e) h =
          let n = length (group o w.waiting) in
          let left = before (settle T o w) post in
          let g = group o w.waiting in
          ap (λ b. if b then drop n (left x) else left x) e.0
          ∙ ap (λ l. l ++ post x) (taken_elsewhere x o (arranged (T o) g) w.store (λ i. e.1 (sym i)) (every_arranged (λ m. m.object ≡ o) (T o) g (group_of o w.waiting)))

  all_spends : (os : List ℕ) (w : World) → Spends (spend_all os w) (settle_all T os w)
  all_spends [] w = λ post. refl
  all_spends (o ∷ os) w =
      then_spends (spend o w) (ran_of T o w) (spend_all os) (settle_all T os (settled T o w)) (spend_spends o w) (all_spends os (settled T o w))

  begun_spends : (x : Option ℕ) (q : Path) (child : Specification) (body : Course) (f : World → Lists → Option Spent) (g : World → Ran) (w : World)
      → Spends (f w) (g w) → Spends (begun x q child body f w) (entered x q child body g w)
  begun_spends None q child body f g w h = h
  begun_spends (Some o) q child body f g w h = λ post. refl

  shape : (f : Lists → Option Spent) (r s : Ran) → r ≡ s → Spends f s → Spends f r
  shape f r s e h = subst (Spends f) (sym e) h

  run_spends : (c : Course) (p : Path) (spec : Specification) (k n : ℕ) (w : World) → Spends (run_spending p spec c k n w) (run T p spec c k n w)
  run_spends (Reads o c on) p spec k n w =
      let v = settled T o w in
      let m = at_path p k (DidRead o c (cell v.store o c)) in
      let rest = run T p spec (on (cell v.store o c)) k n v in
      shape (run_spending p spec (Reads o c on) k n w) _ _ (first_both T T (settle T o w) (m ∷ []) rest)
      (then_spends (spend o w) (ran_of T o w)
      (λ x l. preceded (at_path p k (DidRead o c (cell x.store o c)) ∷ []) (run_spending p spec (on (cell x.store o c)) k n x l)) (first (m ∷ []) rest) (spend_spends o w)
      (mark_spends (run_spending p spec (on (cell v.store o c)) k n v) m rest (λ x. refl) (run_spends (on (cell v.store o c)) p spec k n v)))
  run_spends (Writes o c z on) p spec k n w =
      let v = settled T o w in
      let u : World = record v { store = with_cell v.store o c z } in
      let m = at_path p k (DidWrite o c z) in
      let rest = run T p spec on k n u in
      shape (run_spending p spec (Writes o c z on) k n w) _ _ (first_both T T (settle T o w) (m ∷ []) rest)
      (then_spends (spend o w) (ran_of T o w)
      (λ x l. preceded (at_path p k (DidWrite o c z) ∷ []) (run_spending p spec on k n (record x { store = with_cell x.store o c z }) l)) (first (m ∷ []) rest) (spend_spends o w)
      (mark_spends (run_spending p spec on k n u) m rest (λ x. refl) (run_spends on p spec k n u)))
  run_spends (Steps on) p spec k n w = run_spends on p spec k (suc n) w
  run_spends (Creates child body on) p spec k n w =
      let q = p ++ k ∷ [] in
      let m = at_path p k (DidCreate (record { spec = child; course = body }) n) in
      let s = settle_all T (touched_at_once child) w in
      let i = entered (commuting_on child) q child body (λ x. run T q child body 0 0 x) s.world in
      let rest = run T p spec on (suc k) 0 i.world in
      let next = λ (x : World) (l : Lists). and_then (begun (commuting_on child) q child body (λ y m. run_spending q child body 0 0 y m) x l)
      (λ y m. run_spending p spec on (suc k) 0 y m) in
      shape (run_spending p spec (Creates child body on) k n w) _ _ (create_shape T T T p spec child body on k n w)
      (mark_spends (λ l. and_then (spend_all (touched_at_once child) w l) next) m (first s.marks (create_on T T T p spec child body on k s.world)) (λ x. refl)
      (then_spends (spend_all (touched_at_once child) w) s next (first i.marks rest) (all_spends (touched_at_once child) w)
      (then_spends (begun (commuting_on child) q child body (λ y m. run_spending q child body 0 0 y m) s.world) i
      (λ y m. run_spending p spec on (suc k) 0 y m) rest
      (begun_spends (commuting_on child) q child body (λ y m. run_spending q child body 0 0 y m) (λ x. run T q child body 0 0 x) s.world
      (run_spends body q child 0 0 s.world)) (run_spends on p spec (suc k) 0 i.world))))
  run_spends (Changes new on) p spec k n w =
      let s = settle_all T (made_touchable spec new) w in
      then_spends (spend_all (made_touchable spec new) w) s (λ x l. run_spending p new on k n x l) (run T p new on k n s.world)
      (all_spends (made_touchable spec new) w) (run_spends on p new k n s.world)
  run_spends (Ends b) p spec k n w = λ post. refl

-- full lists are used up
pub full_used_up : (p : AbstractProgram) (ns : List ℤ) (limit : ℕ) (T : Lists) → Full p ns limit T → UsedUp p ns limit T
full_used_up p ns limit T h =
    let root = 0 ∷ [] in
    let spec = root_spec p in
    let w : World = record { store = zeros (sizes p.items); waiting = [] } in
    let r = run T root spec (root_course p ns limit) 0 0 w in
    let spends = then_spends (run_spending root spec (root_course p ns limit) 0 0 w) r (spend_all (objects spec)) (settle_all T (objects spec) r.world)
    (run_spends T (root_course p ns limit) root spec 0 0 w) (all_spends T (objects spec) r.world) in
    let lists : T ≡ before (marks_by p ns limit T) (λ o. []) = fun_ext (λ o. sym (h.same o) ∙ sym (append-nil (turns_on o (marks_by p ns limit T)))) in
    let done : whole_run_spending p ns limit T ≡ Some (record { ran = whole_run T p ns limit; left = λ o. [] }) =
    ap (whole_run_spending p ns limit) lists ∙ spends (λ o. []) in
    record { all = subst LeavesNothing (sym done) (λ o. refl) }

-- The course of a program with other positions has its faults at those positions.
use Rattle.std.proofs.Common.{◌≡◌, ℕ, zero, suc, ◌+◌, Bool, true, false, List, [], ◌∷◌, ◌++◌, length, map, refl, ap, ◌∙◌, replicate}
use Rattle.std.proofs.Math.Path.{fun_ext}
use Rattle.std.specs.Prelude.{ℤ, pos, ◌+ℤ◌, Option, Some, None, if◌then◌else◌, slice_set, nat_lt}
use Rattle.jade_base.specs.declared.place.Pos.{Pos}
use Rattle.jade_base.specs.declared.rights.Rights.{Rights}
use Rattle.jade_base.specs.declared.report.FaultKind.TheVariants.{Index, Object, Cover, Commute, Right as RightFault}
use Rattle.jade_base.specs.Rights.{may_read, may_write, join, both_rights, no_rights}
use Rattle.jade_syntax.specs.declared.tree.Item.{Item}
use Rattle.jade_syntax.specs.declared.tree.Item.TheVariants.{Input, Single, Family}
use Rattle.jade_syntax.specs.declared.tree.DeclareWord.{DeclareWord}
use Rattle.jade_syntax.specs.Abstract.{Name, Expression, Whole, Truth, Variable, Group, Signed, Chain, Cell, Links, Last, Link, Place, Alone, Member}
use Rattle.jade_syntax.specs.Abstract.{Action, Local, Assign, Store, If, IfElse, For, Withonly, With, Declare, Actions, Done, Then, AbstractProgram}
use Rattle.jade_syntax.specs.Numbering.{same_name}
use Rattle.jade_syntax.specs.Objects.{amount, sizes}
use Rattle.jade_meaning.specs.declared.values.Value.{Value}
use Rattle.jade_meaning.specs.declared.values.Value.TheVariants.{IntOf, BoolOf}
use Rattle.jade_meaning.specs.declared.resolve.Range.{Range}
use Rattle.jade_meaning.specs.declared.resolve.ResolvedObject.{ResolvedObject}
use Rattle.jade_meaning.specs.Values.{Given, Gives, Fails, signed, operated, decides, whole, holds, is_index, magnitude, turn_count}
use Rattle.jade_meaning.specs.Specification.{Specification, rights_on, covers, fitted, is_commuting, may_commute}
use Rattle.jade_meaning.specs.Changes.{declared, amended}
use Rattle.jade_meaning.specs.Course.{Course, Reads, Writes, Steps, Creates, Changes, Ends, Setting, Mine, On, Draft, NoDraft, Building, Amending}
use Rattle.jade_meaning.specs.Course.{choose, fault, finish, given, place_of, member, reach, read_cell, write_cell, eval, eval_links, find, range_from, inputs, turns}
use Rattle.jade_meaning.specs.Course.{step, scoped, section_begins, create, create_covered, change, declare, amend, none_of, copied, drafted, working, child_start, run, run_all, bind, leave, value_of, assigned}
use Rattle.jade_meaning.specs.Course.{root_course, limit_blame}
use Rattle.proc_laws.specs.Moved.{moved_course, moved_expression, moved_links, moved_place, moved_action, moved_actions, moved_item, moved_program}

module _ (f : Pos → Pos) where
  M : Course → Course
  M = moved_course f

  abbrev Same : On → On → Type 0
  Same on on' = (m : Mine) → on' m ≡ moved_course f (on m)

  choose_moved : (b : Bool) (g h g' h' : On) (m : Mine) → g' m ≡ moved_course f (g m) → h' m ≡ moved_course f (h m)
      → choose b g' h' m ≡ moved_course f (choose b g h m)
  choose_moved true g h g' h' m p q = p
  choose_moved false g h g' h' m p q = q

  given_moved : (g : Given) (at : Pos) (m : Mine) (k k' : Value → Course) → ((v : Value) → k' v ≡ moved_course f (k v))
      → given g (f at) m k' ≡ moved_course f (given g at m k)
  given_moved (Gives v) at m k k' h = h v
  given_moved (Fails kind) at m k k' h = refl

  place_moved : (o : Place) → place_of (moved_place f o) ≡ f (place_of o)
  place_moved (Alone x at) = refl
  place_moved (Member x at e) = refl

  range_moved : (its : List Item) (o : ℕ) (x : Name) → range_from o x (map (moved_item f) its) ≡ range_from o x its
  range_moved [] o x = refl
  range_moved (Input y at ∷ its) o x = range_moved its o x
  range_moved (Single y at size ∷ its) o x =
      let here : Range = record { first = o; count = 1; size = amount size.value } in
      ap (λ u. if same_name x y then here else u) (range_moved its (suc o) x)
  range_moved (Family y at count size ∷ its) o x =
      let here : Range = record { first = o; count = amount count.value; size = amount size.value } in
      ap (λ u. if same_name x y then here else u) (range_moved its (o + amount count.value) x)

  pub sizes_moved : (its : List Item) → sizes (map (moved_item f) its) ≡ sizes its
  sizes_moved [] = refl
  sizes_moved (Input y at ∷ its) = sizes_moved its
  sizes_moved (Single y at size ∷ its) = ap (λ u. amount size.value ∷ u) (sizes_moved its)
  sizes_moved (Family y at count size ∷ its) = ap (λ u. replicate (amount count.value) (amount size.value) ++ u) (sizes_moved its)

  inputs_moved : (its : List Item) (ns : List ℤ) → inputs (map (moved_item f) its) ns ≡ inputs its ns
  inputs_moved [] ns = refl
  inputs_moved (Input y at ∷ its) (n ∷ ns) = ap (λ u. record { name = y; value = IntOf n } ∷ u) (inputs_moved its ns)
  inputs_moved (Input y at ∷ its) [] = inputs_moved its []
  inputs_moved (Single y at size ∷ its) ns = inputs_moved its ns
  inputs_moved (Family y at count size ∷ its) ns = inputs_moved its ns

  module _ (s s' : Setting) (items_moved : s'.items ≡ map (moved_item f) s.items) (same_given : s'.given ≡ s.given) (same_limit : s'.limit ≡ s.limit) where
    range_same : (x : Name) → range_from 0 x s'.items ≡ range_from 0 x s.items
    range_same x = ap (range_from 0 x) items_moved ∙ range_moved s.items 0 x

    member_moved : (r : Range) (i : ℤ) (at : Pos) (m : Mine) (k k' : ResolvedObject → Course) → ((g : ResolvedObject) → k' g ≡ moved_course f (k g))
        → member r i (f at) m k' ≡ moved_course f (member r i at m k)
    member_moved r i at m k k' h =
        let g : ResolvedObject = record { number = r.first + magnitude i; size = r.size } in
        choose_moved (is_index i r.count) (λ n. k g) (fault Object at) (λ n. k' g) (fault Object (f at)) m (h g) refl

    reach_moved : (o : ResolvedObject) (i : ℤ) (at : Pos) (m : Mine) (k k' : ℕ → Course) → ((c : ℕ) → k' c ≡ moved_course f (k c))
        → reach o i (f at) m k' ≡ moved_course f (reach o i at m k)
    reach_moved o i at m k k' h =
        choose_moved (is_index i o.size) (λ n. k (magnitude i)) (fault Index at) (λ n. k' (magnitude i)) (fault Index (f at)) m (h (magnitude i)) refl

    read_moved : (o c : ℕ) (at : Pos) (m : Mine) (k k' : Value → Course) → ((v : Value) → k' v ≡ moved_course f (k v))
        → read_cell o c (f at) m k' ≡ moved_course f (read_cell o c at m k)
    read_moved o c at m k k' h =
        choose_moved (may_read (rights_on m.spec o)) (λ n. Reads o c (λ z. k (IntOf z))) (fault RightFault at)
        (λ n. Reads o c (λ z. k' (IntOf z))) (fault RightFault (f at)) m (ap (Reads o c) (fun_ext (λ z. h (IntOf z)))) refl

    write_moved : (o c : ℕ) (z : ℤ) (at : Pos) (on on' : On) (m : Mine) → on' m ≡ moved_course f (on m)
        → write_cell o c z (f at) on' m ≡ moved_course f (write_cell o c z at on m)
    write_moved o c z at on on' m h =
        choose_moved (may_write (rights_on m.spec o)) (λ n. Writes o c z (on n)) (fault RightFault at)
        (λ n. Writes o c z (on' n)) (fault RightFault (f at)) m (ap (Writes o c z) h) refl

    mutual
      evals : (e : Expression) (m : Mine) (k k' : Value → Course) → ((v : Value) → k' v ≡ moved_course f (k v))
          → eval s' (moved_expression f e) m k' ≡ moved_course f (eval s e m k)
      evals (Whole z) m k k' h = h (IntOf z)
      evals (Truth b) m k k' h = h (BoolOf b)
      evals (Variable x) m k k' h = h (value_of x m.env)
      evals (Group e) m k k' h = evals e m k k' h
      evals (Signed sign at e) m k k' h =
          evals e m (λ v. given (signed sign v) at m k) (λ v. given (signed sign v) (f at) m k') (λ v. given_moved (signed sign v) at m k k' h)
      evals (Chain e links) m k k' h =
          evals e m (λ v. eval_links s links v m k) (λ v. eval_links s' (moved_links f links) v m k') (λ v. links_go links v m k k' h)
      evals (Cell o e) m k k' h =
          let p = place_of o in let p' = place_of (moved_place f o) in
          finds o m (λ g. eval s e m (λ i. reach g (whole i) p m (λ c. read_cell g.number c p m k)))
          (λ g. eval s' (moved_expression f e) m (λ i. reach g (whole i) p' m (λ c. read_cell g.number c p' m k')))
          (λ g. evals e m (λ i. reach g (whole i) p m (λ c. read_cell g.number c p m k))
          (λ i. reach g (whole i) p' m (λ c. read_cell g.number c p' m k'))
          (λ i. ap (λ q. reach g (whole i) q m (λ c. read_cell g.number c q m k')) (place_moved o)
          ∙ reach_moved g (whole i) p m (λ c. read_cell g.number c p m k) (λ c. read_cell g.number c (f p) m k') (λ c. read_moved g.number c p m k k' h)))

      links_go : (links : Links) (v : Value) (m : Mine) (k k' : Value → Course) → ((v : Value) → k' v ≡ moved_course f (k v))
          → eval_links s' (moved_links f links) v m k' ≡ moved_course f (eval_links s links v m k)
      links_go Last v m k k' h = h v
      links_go (Link op at e links) v m k k' h =
          choose_moved (decides op v) (λ n. k v) (λ n. eval s e n (λ w. given (operated op v w) at n (λ u. eval_links s links u n k)))
          (λ n. k' v) (λ n. eval s' (moved_expression f e) n (λ w. given (operated op v w) (f at) n (λ u. eval_links s' (moved_links f links) u n k'))) m (h v)
          (evals e m (λ w. given (operated op v w) at m (λ u. eval_links s links u m k))
          (λ w. given (operated op v w) (f at) m (λ u. eval_links s' (moved_links f links) u m k'))
          (λ w. given_moved (operated op v w) at m (λ u. eval_links s links u m k) (λ u. eval_links s' (moved_links f links) u m k')
          (λ u. links_go links u m k k' h)))

      finds : (o : Place) (m : Mine) (k k' : ResolvedObject → Course) → ((g : ResolvedObject) → k' g ≡ moved_course f (k g))
          → find s' (moved_place f o) m k' ≡ moved_course f (find s o m k)
      finds (Alone x at) m k k' h =
          ap (λ (q : Range). k' (record { number = q.first; size = q.size })) (range_same x)
          ∙ h (record { number = (range_from 0 x s.items).first; size = (range_from 0 x s.items).size })
      finds (Member x at e) m k k' h =
          evals e m (λ i. member (range_from 0 x s.items) (whole i) at m k) (λ i. member (range_from 0 x s'.items) (whole i) (f at) m k')
          (λ i. ap (λ q. member q (whole i) (f at) m k') (range_same x) ∙ member_moved (range_from 0 x s.items) (whole i) at m k k' h)

    step_moved : (on on' : On) → Same on on' → Same (step s.limit on) (step s'.limit on')
    step_moved on on' h m =
        ap (λ l. step l on' m) same_limit
        ∙ choose_moved (nat_lt m.taken s.limit) (λ n. Steps (on (record n { taken = suc n.taken }))) (λ n. Ends (Some limit_blame))
        (λ n. Steps (on' (record n { taken = suc n.taken }))) (λ n. Ends (Some limit_blame)) m (ap Steps (h (record m { taken = suc m.taken }))) refl

    scoped_moved : (body body' : On → On) → ((on on' : On) → Same on on' → Same (body on) (body' on')) → (on on' : On) → Same on on'
        → Same (scoped body on) (scoped body' on')
    scoped_moved body body' b on on' h m = b (λ n. on (leave m n)) (λ n. on' (leave m n)) (λ n. h (leave m n)) m

    turns_moved : (x : Name) (body body' : On → On) → ((on on' : On) → Same on on' → Same (body on) (body' on')) → (on on' : On) → Same on on'
        → (n : ℕ) (i : ℤ) → Same (turns s.limit n i x body on) (turns s'.limit n i x body' on')
    turns_moved x body body' b on on' h zero i m = h m
    turns_moved x body body' b on on' h (suc n) i m =
        step_moved (λ a. scoped (λ k d. body k (bind x (IntOf i) d)) (turns s.limit n (i +ℤ pos 1) x body on) a)
        (λ a. scoped (λ k d. body' k (bind x (IntOf i) d)) (turns s'.limit n (i +ℤ pos 1) x body' on') a)
        (scoped_moved (λ k d. body k (bind x (IntOf i) d)) (λ k d. body' k (bind x (IntOf i) d)) (λ q q' w d. b q q' w (bind x (IntOf i) d))
        (turns s.limit n (i +ℤ pos 1) x body on) (turns s'.limit n (i +ℤ pos 1) x body' on') (turns_moved x body body' b on on' h n (i +ℤ pos 1))) m

    amend_moved : (a : Option Rights) (spec : Specification) (o : ℕ) (at : Pos) (on on' : On) → Same on on'
        → Same (amend a spec o at on) (amend a spec o (f at) on')
    amend_moved None spec o at on on' h m = refl
    amend_moved (Some a) spec o at on on' h m = h (record m { draft = Amending (slice_set spec o a) })

    declare_moved : (d : Draft) (how : DeclareWord) (o : ℕ) (at : Pos) (on on' : On) → Same on on' → Same (declare d how o at on) (declare d how o (f at) on')
    declare_moved NoDraft how o at on on' h m = h m
    declare_moved (Building spec) how o at on on' h m = h (record m { draft = Building (slice_set spec o (join (rights_on spec o) (declared how))) })
    declare_moved (Amending spec) how o at on on' h m = amend_moved (amended how (rights_on spec o)) spec o at on on' h m

    create_moved : (at : Pos) (names : List Name) (body body' : On) → Same body body' → (on on' : On) → Same on on'
        → Same (create s at names body on) (create s' (f at) names body' on')
    create_moved at names body body' b on on' h m =
        let child = fitted m.spec (drafted m.draft) in
        choose_moved (may_commute child) (create_covered s at names child body on) (fault Commute at) (create_covered s' (f at) names child body' on')
        (fault Commute (f at)) m
        (choose_moved (covers m.spec child)
        (λ n. Creates child (body (child_start (copied names n.env ++ s.given) child)) (on (record n { draft = NoDraft }))) (fault Cover at)
        (λ n. Creates child (body' (child_start (copied names n.env ++ s'.given) child)) (on' (record n { draft = NoDraft }))) (fault Cover (f at)) m
        (ap (λ g. Creates child (body' (child_start (copied names m.env ++ g) child)) (on' (record m { draft = NoDraft }))) same_given
        ∙ ap (λ u. Creates child u (on' (record m { draft = NoDraft }))) (b (child_start (copied names m.env ++ s.given) child))
        ∙ ap (Creates child (moved_course f (body (child_start (copied names m.env ++ s.given) child)))) (h (record m { draft = NoDraft }))) refl) refl

    section_moved : (at : Pos) (draft : Draft) (on on' : On) → Same on on' → Same (section_begins at draft on) (section_begins (f at) draft on')
    section_moved at draft on on' h m =
        choose_moved (is_commuting m.spec) (fault Commute at) (λ n. on (record n { draft = draft })) (fault Commute (f at)) (λ n. on' (record n { draft = draft })) m
        refl (h (record m { draft = draft }))

    change_moved : (on on' : On) → Same on on' → Same (change on) (change on')
    change_moved on on' h m = let new = fitted m.spec (working m.draft m.spec) in ap (Changes new) (h (record m { spec = new; draft = NoDraft }))

    none_same : none_of s'.items ≡ none_of s.items
    none_same = ap (λ its. replicate (length (sizes its)) no_rights) items_moved ∙ ap (λ z. replicate (length z) no_rights) (sizes_moved s.items)

    mutual
      acts : (a : Action) (on on' : On) → Same on on' → Same (run s a on) (run s' (moved_action f a) on')
      acts (Local kind x e) on on' h m = evals e m (λ v. on (bind x v m)) (λ v. on' (bind x v m)) (λ v. h (bind x v m))
      acts (Assign x e) on on' h m =
          evals e m (λ v. on (record m { env = assigned x v m.env })) (λ v. on' (record m { env = assigned x v m.env }))
          (λ v. h (record m { env = assigned x v m.env }))
      acts (Store o e v) on on' h m =
          let p = place_of o in let p' = place_of (moved_place f o) in
          finds o m (λ g. eval s e m (λ i. reach g (whole i) p m (λ c. eval s v m (λ z. write_cell g.number c (whole z) p on m))))
          (λ g. eval s' (moved_expression f e) m (λ i. reach g (whole i) p' m (λ c.
          eval s' (moved_expression f v) m (λ z. write_cell g.number c (whole z) p' on' m))))
          (λ g. evals e m (λ i. reach g (whole i) p m (λ c. eval s v m (λ z. write_cell g.number c (whole z) p on m)))
          (λ i. reach g (whole i) p' m (λ c. eval s' (moved_expression f v) m (λ z. write_cell g.number c (whole z) p' on' m)))
          (λ i. ap (λ q. reach g (whole i) q m (λ c. eval s' (moved_expression f v) m (λ z. write_cell g.number c (whole z) q on' m))) (place_moved o)
          ∙ reach_moved g (whole i) p m (λ c. eval s v m (λ z. write_cell g.number c (whole z) p on m))
          (λ c. eval s' (moved_expression f v) m (λ z. write_cell g.number c (whole z) (f p) on' m))
          (λ c. evals v m (λ z. write_cell g.number c (whole z) p on m) (λ z. write_cell g.number c (whole z) (f p) on' m)
          (λ z. write_moved g.number c (whole z) p on on' m (h m)))))
      acts (If e first) on on' h m =
          evals e m (λ v. choose (holds v) (scoped (run_all s first) on) on m) (λ v. choose (holds v) (scoped (run_all s' (moved_actions f first)) on') on' m)
          (λ v. choose_moved (holds v) (scoped (run_all s first) on) on (scoped (run_all s' (moved_actions f first)) on') on' m
          (scoped_moved (run_all s first) (run_all s' (moved_actions f first)) (λ q q' w. acts_all first q q' w) on on' h m) (h m))
      acts (IfElse e first other) on on' h m =
          evals e m (λ v. choose (holds v) (scoped (run_all s first) on) (scoped (run_all s other) on) m)
          (λ v. choose (holds v) (scoped (run_all s' (moved_actions f first)) on') (scoped (run_all s' (moved_actions f other)) on') m)
          (λ v. choose_moved (holds v) (scoped (run_all s first) on) (scoped (run_all s other) on) (scoped (run_all s' (moved_actions f first)) on')
          (scoped (run_all s' (moved_actions f other)) on') m
          (scoped_moved (run_all s first) (run_all s' (moved_actions f first)) (λ q q' w. acts_all first q q' w) on on' h m)
          (scoped_moved (run_all s other) (run_all s' (moved_actions f other)) (λ q q' w. acts_all other q q' w) on on' h m))
      acts (For x low high body) on on' h m =
          evals low m (λ l. eval s high m (λ u. turns s.limit (turn_count (whole l) (whole u)) (whole l) x (run_all s body) on m))
          (λ l. eval s' (moved_expression f high) m
          (λ u. turns s'.limit (turn_count (whole l) (whole u)) (whole l) x (run_all s' (moved_actions f body)) on' m))
          (λ l. evals high m (λ u. turns s.limit (turn_count (whole l) (whole u)) (whole l) x (run_all s body) on m)
          (λ u. turns s'.limit (turn_count (whole l) (whole u)) (whole l) x (run_all s' (moved_actions f body)) on' m)
          (λ u. turns_moved x (run_all s body) (run_all s' (moved_actions f body)) (λ q q' w. acts_all body q q' w) on on' h
          (turn_count (whole l) (whole u)) (whole l) m))
      acts (Withonly at section names body) on on' h m =
          ap (λ k. section_begins (f at) (Building k)
          (scoped (run_all s' (moved_actions f section)) (create s' (f at) names (run_all s' (moved_actions f body) finish) on')) m) none_same
          ∙ section_moved at (Building (none_of s.items)) (scoped (run_all s section) (create s at names (run_all s body finish) on))
          (scoped (run_all s' (moved_actions f section)) (create s' (f at) names (run_all s' (moved_actions f body) finish) on'))
          (scoped_moved (run_all s section) (run_all s' (moved_actions f section)) (λ q q' w. acts_all section q q' w)
          (create s at names (run_all s body finish) on) (create s' (f at) names (run_all s' (moved_actions f body) finish) on')
          (create_moved at names (run_all s body finish) (run_all s' (moved_actions f body) finish) (acts_all body finish finish (λ n. refl)) on on' h)) m
      acts (With at section) on on' h m =
          section_moved at (Amending m.spec) (scoped (run_all s section) (change on)) (scoped (run_all s' (moved_actions f section)) (change on'))
          (scoped_moved (run_all s section) (run_all s' (moved_actions f section)) (λ q q' w. acts_all section q q' w) (change on) (change on')
          (change_moved on on' h)) m
      acts (Declare how at o) on on' h m =
          finds o m (λ g. declare m.draft how g.number at on m) (λ g. declare m.draft how g.number (f at) on' m)
          (λ g. declare_moved m.draft how g.number at on on' h m)

      acts_all : (a : Actions) (on on' : On) → Same on on' → Same (run_all s a on) (run_all s' (moved_actions f a) on')
      acts_all Done on on' h = h
      acts_all (Then a more) on on' h =
          step_moved (run s a (run_all s more on)) (run s' (moved_action f a) (run_all s' (moved_actions f more) on'))
          (acts a (run_all s more on) (run_all s' (moved_actions f more) on') (acts_all more on on' h))

  pub course_moved : (p : AbstractProgram) (ns : List ℤ) (limit : ℕ) → root_course (moved_program f p) ns limit ≡ moved_course f (root_course p ns limit)
  course_moved p ns limit =
      let s : Setting = record { items = p.items; given = inputs p.items ns; limit = limit } in
      let its = map (moved_item f) p.items in
      let s' : Setting = record { items = its; given = inputs its ns; limit = limit } in
      ap (λ g. run_all s' (moved_actions f p.main) finish (child_start g (replicate (length (sizes its)) both_rights))) (inputs_moved p.items ns)
      ∙ ap (λ z. run_all s' (moved_actions f p.main) finish (child_start (inputs p.items ns) (replicate (length z) both_rights))) (sizes_moved p.items)
      ∙ acts_all s s' refl (inputs_moved p.items ns) refl p.main finish finish (λ n. refl)
      (child_start (inputs p.items ns) (replicate (length (sizes p.items)) both_rights))

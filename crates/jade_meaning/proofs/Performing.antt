-- What a course notes is what its statements, performed at once, leave.
use Rattle.std.proofs.Common.{◌≡◌, ℕ, zero, suc, ◌+◌, Bool, true, false, List, ◌++◌, refl, ap, sym, ◌∙◌, Option, Some, None, Result, Ok, Err}
use Rattle.std.specs.Prelude.{ℤ, pos, ◌+ℤ◌, nat_lt, if◌then◌else◌}
use Rattle.jade_base.specs.declared.place.Pos.{Pos}
use Rattle.jade_base.specs.declared.report.FaultKind.{FaultKind}
use Rattle.jade_base.specs.declared.report.FaultKind.TheVariants.{Object, Index, Right as RightFault, Cover, Commute}
use Rattle.jade_base.specs.declared.report.Blame.{Blame}
use Rattle.jade_base.specs.declared.rights.Rights.{Rights}
use Rattle.jade_base.specs.Rights.{may_read, may_write}
use Rattle.jade_syntax.specs.declared.tree.DeclareWord.{DeclareWord}
use Rattle.jade_syntax.specs.Abstract.{Name, Expression, Whole, Truth, Variable, Group, Signed, Chain, Cell, Links, Last, Link, Place, Alone, Member}
use Rattle.jade_syntax.specs.Abstract.{Action, Local, Assign, Store, If, IfElse, For, Withonly, With, Declare, Actions, Done as NoMore, Then}
use Rattle.jade_meaning.specs.declared.run_state.RunState.{RunState}
use Rattle.jade_meaning.specs.declared.setting.Task.{Task}
use Rattle.jade_meaning.specs.declared.values.Value.{Value}
use Rattle.jade_meaning.specs.declared.values.Value.TheVariants.{IntOf}
use Rattle.jade_meaning.specs.declared.resolve.Range.{Range}
use Rattle.jade_meaning.specs.declared.resolve.ResolvedObject.{ResolvedObject}
use Rattle.jade_meaning.specs.Values.{Given, Gives, Fails, operated, decides, signed, whole, holds, is_index, magnitude, turn_count, index_in}
use Rattle.jade_meaning.specs.Changes.{amended}
use Rattle.jade_meaning.specs.Specification.{Specification, rights_on, covers, fitted, commuting_on, is_commuting, may_commute}
use Rattle.jade_meaning.specs.Course.{Course, Reads, Writes, Steps, Creates, Ends, Setting, Mine, On, Draft, NoDraft, Building, Amending, drafted, finish}
use Rattle.jade_meaning.specs.Course.{fault, choose, step, given, place_of, member, reach, read_cell, write_cell, bind, leave, scoped, turns, amend}
use Rattle.jade_meaning.specs.Course.{declare, create, create_covered, change, child_start, copied, assigned, eval, eval_links, find, run, run_all, range_from, limit_blame}
use Rattle.jade_meaning.specs.Course.{none_of}
use Rattle.jade_meaning.specs.Serial.{Path, cell}
use Rattle.jade_meaning.specs.steps.Carry.{carried, noted, put, turn_noted}
use Rattle.jade_meaning.specs.steps.Direct.{◌>>=◌, blamed, blame_at, indexed, member_of, read_of, worth, linked, located, drafted_with, amended_with}
use Rattle.jade_meaning.specs.steps.Perform.{Outcome, Goes, Stops, mine_of, then_on, valued, with_variable, begun, within, written, turned_once, turned}
use Rattle.jade_meaning.specs.steps.Perform.{ended, child_task, next_path, created, created_covered, changed, value_at, object_at, stored_in, perform, perform_all}

-- what is done with a value, or the end with a fault
abbrev pub resumes : {A : Type 0} → Result A Blame → (A → Course) → Course
resumes (Ok x) on = on x
resumes (Err b) on = Ends (Some b)

-- what is noted from an outcome on
abbrev pub continues : Path → On → Outcome → RunState
continues p on (Goes t l) = carried p (on (mine_of t)) t.tally.children t.tally.part l
continues p on (Stops b t l) = carried p (Ends (Some b)) t.tally.children t.tally.part l

module _ (p : Path) (k n : ℕ) (l : RunState) where
  bound_is : {A B : Type 0} (r : Result A Blame) (f : A → Result B Blame) (g : A → Course) (on : B → Course)
      → ((x : A) → carried p (g x) k n l ≡ carried p (resumes (f x) on) k n l) → carried p (resumes r g) k n l ≡ carried p (resumes (r >>= f) on) k n l
  bound_is (Ok x) f g on h = h x
  bound_is (Err b) f g on h = refl

  given_is : (g : Given) (at : Pos) (m : Mine) (on : Value → Course) → carried p (given g at m on) k n l ≡ carried p (resumes (blamed g at) on) k n l
  given_is (Gives v) at m on = refl
  given_is (Fails kind) at m on = refl

  picked_is : (b : Bool) (first other : On) (m : Mine) (r q : Result Value Blame) (on : Value → Course) → carried p (first m) k n l ≡ carried p
      (resumes r on) k n l → carried p (other m) k n l ≡ carried p (resumes q on) k n l → carried p (choose b first other m) k n l ≡ carried p
      (resumes (if b then r else q) on) k n l
  picked_is true first other m r q on g h = g
  picked_is false first other m r q on g h = h

  index_is : (b : Bool) (i : ℕ) (kind : FaultKind) (at : Pos) (m : Mine) (on : ℕ → Course) → carried p (choose b (λ n. on i) (fault kind at) m) k n l
      ≡ carried p (resumes (indexed (if b then Some i else None) kind at) on) k n l
  index_is true i kind at m on = refl
  index_is false i kind at m on = refl

  member_is : (b : Bool) (i : ℕ) (r : Range) (at : Pos) (m : Mine) (on : ResolvedObject → Course)
      → carried p (choose b (λ n. on (record { number = r.first + i; size = r.size })) (fault Object at) m) k n l ≡ carried p
      (resumes (indexed (if b then Some i else None) Object at >>= λ j. Ok (record { number = r.first + j; size = r.size })) on) k n l
  member_is true i r at m on = refl
  member_is false i r at m on = refl

  read_is : (b : Bool) (o c : ℕ) (at : Pos) (m : Mine) (on : Value → Course) → carried p (choose b (λ n. Reads o c (λ z. on (IntOf z))) (fault RightFault at) m)
      k n l ≡ carried p (resumes (if b then Ok (IntOf (cell l.objects o c)) else Err (blame_at RightFault at)) on) k n l
  read_is true o c at m on = refl
  read_is false o c at m on = refl

module _ (s : Setting) (p : Path) (k n : ℕ) (l : RunState) where
  mutual
    pub eval_is : (e : Expression) (m : Mine) (on : Value → Course) → carried p (eval s e m on) k n l ≡ carried p
        (resumes (worth s.items m.env m.spec l.objects e) on) k n l
    eval_is (Whole z) m on = refl
    eval_is (Truth b) m on = refl
    eval_is (Variable x) m on = refl
    eval_is (Group e) m on = eval_is e m on
    eval_is (Signed sign at e) m on =
        eval_is e m (λ v. given (signed sign v) at m on)
        ∙ bound_is p k n l (worth s.items m.env m.spec l.objects e) (λ v. blamed (signed sign v) at) (λ v. given (signed sign v) at m on) on
        (λ v. given_is p k n l (signed sign v) at m on)
    eval_is (Chain e links) m on =
        eval_is e m (λ v. eval_links s links v m on)
        ∙ bound_is p k n l (worth s.items m.env m.spec l.objects e) (λ v. linked s.items m.env m.spec l.objects links v) (λ v. eval_links s links v m on) on
        (λ v. links_is links v m on)
    eval_is (Cell o e) m on =
        let W = worth s.items m.env m.spec l.objects e in
        let reads : ResolvedObject → ℕ → Course = λ f c. read_cell f.number c (place_of o) m on in
        let reached : ResolvedObject → Value → Course = λ f i. reach f (whole i) (place_of o) m (reads f) in
        let R : ResolvedObject → ℕ → Result Value Blame = λ f c. read_of m.spec l.objects f.number c (place_of o) in
        let I : ResolvedObject → Value → Result ℕ Blame = λ f i. indexed (index_in (whole i) f.size) Index (place_of o) in
        find_is o m (λ f. eval s e m (reached f))
        ∙ bound_is p k n l (located s.items m.env m.spec l.objects o) (λ f. W >>= λ i. I f i >>= R f) (λ f. eval s e m (reached f)) on (λ f.
        eval_is e m (reached f)
        ∙ bound_is p k n l W (λ i. I f i >>= R f) (reached f) on (λ i.
        index_is p k n l (is_index (whole i) f.size) (magnitude (whole i)) Index (place_of o) m (reads f)
        ∙ bound_is p k n l (I f i) (R f) (reads f) on (λ c. read_is p k n l (may_read (rights_on m.spec f.number)) f.number c (place_of o) m on)))

    links_is : (links : Links) (v : Value) (m : Mine) (on : Value → Course) → carried p (eval_links s links v m on) k n l ≡ carried p
        (resumes (linked s.items m.env m.spec l.objects links v) on) k n l
    links_is Last v m on = refl
    links_is (Link op at e links) v m on =
        let W = worth s.items m.env m.spec l.objects e in
        let G : Value → Course = λ w. given (operated op v w) at m (λ u. eval_links s links u m on) in
        let F : Value → Result Value Blame = λ w. blamed (operated op v w) at >>= λ u. linked s.items m.env m.spec l.objects links u in
        picked_is p k n l (decides op v) (λ n. on v) (λ n. eval s e n (λ w. given (operated op v w) at n (λ u. eval_links s links u n on))) m (Ok v)
        (W >>= F) on refl
        (eval_is e m G ∙ bound_is p k n l W F G on (λ w.
        given_is p k n l (operated op v w) at m (λ u. eval_links s links u m on)
        ∙ bound_is p k n l (blamed (operated op v w) at) (λ u. linked s.items m.env m.spec l.objects links u) (λ u. eval_links s links u m on) on
        (λ u. links_is links u m on)))

    pub find_is : (o : Place) (m : Mine) (on : ResolvedObject → Course) → carried p (find s o m on) k n l ≡ carried p
        (resumes (located s.items m.env m.spec l.objects o) on) k n l
    find_is (Alone x at) m on = refl
    find_is (Member x at e) m on =
        let r = range_from 0 x s.items in
        eval_is e m (λ i. member r (whole i) at m on)
        ∙ bound_is p k n l (worth s.items m.env m.spec l.objects e) (λ i. member_of r (whole i) at) (λ i. member r (whole i) at m on) on
        (λ i. member_is p k n l (is_index (whole i) r.count) (magnitude (whole i)) r at m on)

module _ (p : Path) where
  valued_is : {A : Type 0} (on : On) (r : Result A Blame) (t : Task) (l : RunState) (g : A → Course) (f : A → Outcome)
      → ((x : A) → carried p (g x) t.tally.children t.tally.part l ≡ continues p on (f x)) → carried p (resumes r g) t.tally.children t.tally.part l
      ≡ continues p on (valued r t l f)
  valued_is on (Ok x) t l g f h = h x
  valued_is on (Err b) t l g f h = refl

  then_is : (on g : On) (o : Outcome) (f : Task → RunState → Outcome) → ((t : Task) (l : RunState) → carried p (g (mine_of t)) t.tally.children t.tally.part l
      ≡ continues p on (f t l)) → continues p g o ≡ continues p on (then_on o f)
  then_is on g (Goes t l) f h = h t l
  then_is on g (Stops b t l) f h = refl

  within_is : (on : On) (before : Task) (o : Outcome) → continues p (λ n. on (leave (mine_of before) n)) o ≡ continues p on (within before o)
  within_is on before (Goes t l) = refl
  within_is on before (Stops b t l) = refl

  begun_at : (on : On) (b : Bool) (t : Task) (l : RunState)
      → carried p (choose b (λ n. Steps (on (record n { taken = suc n.taken }))) (λ n. Ends (Some limit_blame)) (mine_of t)) t.tally.children t.tally.part l
      ≡ continues p on (if b then Goes (record t { tally = record { taken = suc t.tally.taken; part = suc t.tally.part; children = t.tally.children } }) l
      else Stops limit_blame t l)
  begun_at on true t l = refl
  begun_at on false t l = refl

  begun_is : (on : On) (limit : ℕ) (t : Task) (l : RunState) → carried p (step limit on (mine_of t)) t.tally.children t.tally.part l ≡ continues p on
      (begun limit t l)
  begun_is on limit t l = begun_at on (nat_lt t.tally.taken limit) t l

  written_at : (on : On) (b : Bool) (o c : ℕ) (z : ℤ) (at : Pos) (t : Task) (l : RunState)
      → carried p (choose b (λ n. Writes o c z (on n)) (fault RightFault at) (mine_of t)) t.tally.children t.tally.part l ≡ continues p on
      (if b then Goes t (put o c z l) else Stops (blame_at RightFault at) t l)
  written_at on true o c z at t l = refl
  written_at on false o c z at t l = refl

  picked_at : (on g f : On) (b : Bool) (t : Task) (l : RunState) (x y : Outcome) → carried p (g (mine_of t)) t.tally.children t.tally.part l ≡ continues p on x
      → carried p (f (mine_of t)) t.tally.children t.tally.part l ≡ continues p on y → carried p (choose b g f (mine_of t)) t.tally.children t.tally.part l
      ≡ continues p on (if b then x else y)
  picked_at on g f true t l x y u v = u
  picked_at on g f false t l x y u v = v

  amend_is : (on : On) (a : Option Rights) (spec : Specification) (o : ℕ) (at : Pos) (t : Task) (l : RunState)
      → carried p (amend a spec o at on (mine_of t)) t.tally.children t.tally.part l ≡ continues p on
      (valued (amended_with a spec o at) t l (λ d. Goes (record t { draft = d }) l))
  amend_is on None spec o at t l = refl
  amend_is on (Some a) spec o at t l = refl

  declare_is : (on : On) (d : Draft) (how : DeclareWord) (o : ℕ) (at : Pos) (t : Task) (l : RunState) → d ≡ t.draft
      → carried p (declare d how o at on (mine_of t)) t.tally.children t.tally.part l ≡ continues p on
      (valued (drafted_with d how o at) t l (λ d. Goes (record t { draft = d }) l))
  declare_is on NoDraft how o at t l e = ap (λ d. carried p (on (record (mine_of t) { draft = d })) t.tally.children t.tally.part l) (sym e)
  declare_is on (Building spec) how o at t l e = refl
  declare_is on (Amending spec) how o at t l e = amend_is on (amended how (rights_on spec o)) spec o at t l

  -- the turns of a loop, of whose body this is known
  turns_is : (limit n : ℕ) (i : ℤ) (x : Name) (body : On → On) (f : Task → RunState → Outcome)
      → ((on : On) (t : Task) (l : RunState) → carried p (body on (mine_of t)) t.tally.children t.tally.part l ≡ continues p on (f t l))
      → (on : On) (t : Task) (l : RunState) → carried p (turns limit n i x body on (mine_of t)) t.tally.children t.tally.part l ≡ continues p on
      (turned limit n i x f t l)
  turns_is limit zero i x body f h on t l = refl
  turns_is limit (suc n) i x body f h on t l =
      let rest : On = turns limit n (i +ℤ pos 1) x body on in
      let turn : On = λ a. scoped (λ k b. body k (bind x (IntOf i) b)) rest a in
      begun_is turn limit t l
      ∙ then_is rest turn (begun limit t l) (λ u m. within u (f (with_variable x (IntOf i) u) m))
      (λ u m. h (λ n. rest (leave (mine_of u) n)) (with_variable x (IntOf i) u) m ∙ within_is rest u (f (with_variable x (IntOf i) u) m))
      ∙ then_is on rest (turned_once limit i x f t l) (turned limit n (i +ℤ pos 1) x f) (λ u m. turns_is limit n (i +ℤ pos 1) x body f h on u m)

-- a task that has gone through its course
pub ended_is : (q : Path) (o : Outcome) → continues q finish o ≡ ended q o
ended_is q (Goes t l) = refl
ended_is q (Stops b t l) = refl

create_at : (s : Setting) (p : Path) (on : On) (b : Bool) (at : Pos) (names : List Name) (body : On) (f : Path → Task → RunState → Outcome) (t : Task)
    (l : RunState) (child : Specification) → ((q : Path) (u : Task) (m : RunState) → carried q (body (mine_of u)) u.tally.children u.tally.part m ≡ ended q
    (f q u m)) → carried p (choose b (λ n. Creates child (body (child_start (copied names n.env ++ s.given) child)) (on (record n { draft = NoDraft })))
    (fault Cover at) (mine_of t)) t.tally.children t.tally.part l
    ≡ continues p on (if b then Goes (record t { draft = NoDraft; tally = record { taken = t.tally.taken; part = 0; children = suc t.tally.children } })
    (ended (next_path p t) (f (next_path p t) (child_task (copied names t.scope ++ s.given) child) (turn_noted (commuting_on child) (next_path p t) (noted p t.tally.children t.tally.part None l))))
    else Stops (blame_at Cover at) (record t { draft = NoDraft }) l)
create_at s p on true at names body f t l child h =
    ap (carried p (on (record (mine_of t) { draft = NoDraft })) (suc t.tally.children) 0)
    (h (next_path p t) (child_task (copied names t.scope ++ s.given) child)
    (turn_noted (commuting_on child) (next_path p t) (noted p t.tally.children t.tally.part None l)))
create_at s p on false at names body f t l child h = refl

-- a child that may not commute as it would
bar_at : (s : Setting) (p : Path) (on : On) (b : Bool) (at : Pos) (f : On) (t : Task) (l : RunState) (o : Outcome)
    → carried p (f (mine_of t)) t.tally.children t.tally.part l ≡ continues p on o
    → carried p (choose b f (fault Commute at) (mine_of t)) t.tally.children t.tally.part l
    ≡ continues p on (if b then o else Stops (blame_at Commute at) (record t { draft = NoDraft }) l)
bar_at s p on true at f t l o h = h
bar_at s p on false at f t l o h = refl

-- a section begins, or not
section_at : (s : Setting) (p : Path) (on : On) (b : Bool) (at : Pos) (d : Draft) (f : On) (t : Task) (l : RunState) (o : Outcome)
    → carried p (f (mine_of (record t { draft = d }))) t.tally.children t.tally.part l ≡ continues p on o
    → carried p (choose b (fault Commute at) (λ n. f (record n { draft = d })) (mine_of t)) t.tally.children t.tally.part l
    ≡ continues p on (if b then Stops (blame_at Commute at) t l else o)
section_at s p on true at d f t l o h = refl
section_at s p on false at d f t l o h = h

module _ (s : Setting) where
  mutual
    pub perform_is : (p : Path) (a : Action) (on : On) (t : Task) (l : RunState) → carried p (run s a on (mine_of t)) t.tally.children t.tally.part l
        ≡ continues p on (perform s p a t l)
    perform_is p (Local kind x e) on t l =
        eval_is s p t.tally.children t.tally.part l e (mine_of t) (λ v. on (bind x v (mine_of t)))
        ∙ valued_is p on (value_at s e t l) t l (λ v. on (bind x v (mine_of t))) (λ v. Goes (with_variable x v t) l) (λ v. refl)
    perform_is p (Assign x e) on t l =
        let g : Value → Course = λ v. on (record (mine_of t) { env = assigned x v t.scope }) in
        eval_is s p t.tally.children t.tally.part l e (mine_of t) g
        ∙ valued_is p on (value_at s e t l) t l g (λ v. Goes (record t { scope = assigned x v t.scope }) l) (λ v. refl)
    perform_is p (Store o e v) on t l =
        let m = mine_of t in
        let k = t.tally.children in
        let n = t.tally.part in
        let at = place_of o in
        let g3 : ResolvedObject → ℕ → Value → Course = λ f c z. write_cell f.number c (whole z) at on m in
        let g2 : ResolvedObject → ℕ → Course = λ f c. eval s v m (g3 f c) in
        let g1 : ResolvedObject → Value → Course = λ f i. reach f (whole i) at m (g2 f) in
        let g0 : ResolvedObject → Course = λ f. eval s e m (g1 f) in
        let f3 : ResolvedObject → ℕ → Outcome = λ f c. stored_in s f c at v t l in
        let I : ResolvedObject → Value → Result ℕ Blame = λ f i. indexed (index_in (whole i) f.size) Index at in
        find_is s p k n l o m g0
        ∙ valued_is p on (object_at s o t l) t l g0 (λ f. valued (value_at s e t l) t l (λ i. valued (I f i) t l (f3 f))) (λ f.
        eval_is s p k n l e m (g1 f)
        ∙ valued_is p on (value_at s e t l) t l (g1 f) (λ i. valued (I f i) t l (f3 f)) (λ i.
        index_is p k n l (is_index (whole i) f.size) (magnitude (whole i)) Index at m (g2 f)
        ∙ valued_is p on (I f i) t l (g2 f) (f3 f) (λ c.
        eval_is s p k n l v m (g3 f c)
        ∙ valued_is p on (value_at s v t l) t l (g3 f c) (λ z. written f.number c (whole z) at t l)
        (λ z. written_at p on (may_write (rights_on t.spec f.number)) f.number c (whole z) at t l))))
    perform_is p (If e first) on t l =
        let g : Value → Course = λ v. choose (holds v) (scoped (run_all s first) on) on (mine_of t) in
        eval_is s p t.tally.children t.tally.part l e (mine_of t) g
        ∙ valued_is p on (value_at s e t l) t l g (λ v. if holds v then within t (perform_all s p first t l) else Goes t l) (λ v.
        picked_at p on (scoped (run_all s first) on) on (holds v) t l (within t (perform_all s p first t l)) (Goes t l)
        (all_is p first (λ n. on (leave (mine_of t) n)) t l ∙ within_is p on t (perform_all s p first t l)) refl)
    perform_is p (IfElse e first other) on t l =
        let g : Value → Course = λ v. choose (holds v) (scoped (run_all s first) on) (scoped (run_all s other) on) (mine_of t) in
        eval_is s p t.tally.children t.tally.part l e (mine_of t) g
        ∙ valued_is p on (value_at s e t l) t l g (λ v. if holds v then within t (perform_all s p first t l) else within t (perform_all s p other t l)) (λ v.
        picked_at p on (scoped (run_all s first) on) (scoped (run_all s other) on) (holds v) t l (within t (perform_all s p first t l))
        (within t (perform_all s p other t l)) (all_is p first (λ n. on (leave (mine_of t) n)) t l ∙ within_is p on t (perform_all s p first t l))
        (all_is p other (λ n. on (leave (mine_of t) n)) t l ∙ within_is p on t (perform_all s p other t l)))
    perform_is p (For x low high body) on t l =
        let m = mine_of t in
        let k = t.tally.children in
        let n = t.tally.part in
        let g1 : Value → Value → Course = λ a b. turns s.limit (turn_count (whole a) (whole b)) (whole a) x (run_all s body) on m in
        let f1 : Value → Value → Outcome = λ a b. turned s.limit (turn_count (whole a) (whole b)) (whole a) x (perform_all s p body) t l in
        eval_is s p k n l low m (λ a. eval s high m (g1 a))
        ∙ valued_is p on (value_at s low t l) t l (λ a. eval s high m (g1 a)) (λ a. valued (value_at s high t l) t l (f1 a)) (λ a.
        eval_is s p k n l high m (g1 a)
        ∙ valued_is p on (value_at s high t l) t l (g1 a) (f1 a) (λ b. turns_is p s.limit (turn_count (whole a) (whole b)) (whole a) x (run_all s body)
        (perform_all s p body) (λ k u w. all_is p body k u w) on t l))
    perform_is p (Withonly at section names body) on t l =
        let u : Task = record t { draft = Building (none_of s.items) } in
        section_at s p on (is_commuting t.spec) at (Building (none_of s.items)) (scoped (run_all s section) (create s at names (run_all s body finish) on)) t l
        (then_on (within u (perform_all s p section u l)) (created s p at names (λ q. perform_all s q body)))
        (all_is p section (λ n. (create s at names (run_all s body finish) on) (leave (mine_of u) n)) u l
        ∙ within_is p (create s at names (run_all s body finish) on) u (perform_all s p section u l)
        ∙ then_is p on (create s at names (run_all s body finish) on) (within u (perform_all s p section u l))
        (created s p at names (λ q. perform_all s q body)) (λ w m.
        bar_at s p on (may_commute (fitted w.spec (drafted w.draft))) at
        (create_covered s at names (fitted w.spec (drafted w.draft)) (run_all s body finish) on) w m
        (created_covered s p at names (λ q. perform_all s q body) w m)
        (create_at s p on (covers w.spec (fitted w.spec (drafted w.draft))) at names (run_all s body finish) (λ q. perform_all s q body) w m
        (fitted w.spec (drafted w.draft)) (λ q c d. all_is q body finish c d ∙ ended_is q (perform_all s q body c d)))))
    perform_is p (With at section) on t l =
        let u : Task = record t { draft = Amending t.spec } in
        section_at s p on (is_commuting t.spec) at (Amending t.spec) (scoped (run_all s section) (change on)) t l
        (then_on (within u (perform_all s p section u l)) (λ w m. Goes (changed w) m))
        (all_is p section (λ n. (change on) (leave (mine_of u) n)) u l ∙ within_is p (change on) u (perform_all s p section u l)
        ∙ then_is p on (change on) (within u (perform_all s p section u l)) (λ w m. Goes (changed w) m) (λ w m. refl))
    perform_is p (Declare how at o) on t l =
        let g : ResolvedObject → Course = λ f. declare t.draft how f.number at on (mine_of t) in
        find_is s p t.tally.children t.tally.part l o (mine_of t) g
        ∙ valued_is p on (object_at s o t l) t l g (λ f. valued (drafted_with t.draft how f.number at) t l (λ d. Goes (record t { draft = d }) l))
        (λ f. declare_is p on t.draft how f.number at t l refl)

    pub all_is : (p : Path) (a : Actions) (on : On) (t : Task) (l : RunState) → carried p (run_all s a on (mine_of t)) t.tally.children t.tally.part l
        ≡ continues p on (perform_all s p a t l)
    all_is p NoMore on t l = refl
    all_is p (Then a b) on t l =
        let rest : On = run_all s b on in
        begun_is p (run s a rest) s.limit t l
        ∙ then_is p rest (run s a rest) (begun s.limit t l) (perform s p a) (λ u m. perform_is p a rest u m)
        ∙ then_is p on rest (then_on (begun s.limit t l) (perform s p a)) (perform_all s p b) (λ u m. all_is p b on u m)

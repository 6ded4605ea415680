-- A program in which the word `cm` does not stand: its tasks create none that commutes. One induction over the statements.
use Rattle.std.proofs.Common.{◌≡◌, ◌≢◌, ℕ, zero, suc, ◌<◌, Bool, true, false, ◌||◌, List, [], ◌∷◌, refl, ap, ◌∙◌, subst, Option, Some, None, arith, length}
use Rattle.std.proofs.Common.{get_or-set_same, get_or-set_other}
use Rattle.std.proofs.Common.{◌⊎◌, inl, inr, ◌≤◌}
use Rattle.std.proofs.lemmas.Bool.{ltb-true, ltb-false}
use Rattle.std.proofs.lemmas.Bool.Decides.{eqb_tells}
use Rattle.std.proofs.lemmas.List.{set_past}
use Rattle.std.specs.Prelude.{ℤ, pos, ◌+ℤ◌, nat_lt, nat_eq, slice_set, replicate}
use Rattle.jade_base.specs.declared.place.Pos.{Pos}
use Rattle.jade_base.specs.declared.report.FaultKind.TheVariants.{Commute as Commuted}
use Rattle.jade_base.specs.declared.rights.Right.{Right}
use Rattle.jade_base.specs.declared.rights.Right.TheVariants.{Absent, Deferred, Immediate}
use Rattle.jade_base.specs.declared.rights.Rights.{Rights}
use Rattle.jade_base.specs.Rights.{no_rights, both_rights, is_there, may_read, may_write, joined, join}
use Rattle.jade_syntax.specs.declared.tree.DeclareWord.{DeclareWord}
use Rattle.jade_syntax.specs.declared.tree.DeclareWord.TheVariants.{Rd, Wr, RdWr, DfRd, DfWr, DfRdWr, Cm, NoRd, NoWr, NoRdWr}
use Rattle.jade_syntax.specs.Objects.{sizes}
use Rattle.jade_syntax.specs.Abstract.{Name, Expression, Whole, Truth, Variable, Group, Signed, Chain, Cell, Links, Last, Link, Place, Alone, Member}
use Rattle.jade_syntax.specs.Abstract.{Action, Local, Assign, Store, If, IfElse, For, Withonly, With, Declare, Actions, Done, Then, AbstractProgram}
use Rattle.jade_meaning.specs.declared.values.Value.{Value}
use Rattle.jade_meaning.specs.declared.values.Value.TheVariants.{IntOf}
use Rattle.jade_meaning.specs.declared.resolve.Range.{Range}
use Rattle.jade_meaning.specs.declared.resolve.ResolvedObject.{ResolvedObject}
use Rattle.jade_meaning.specs.Values.{Given, Gives, Fails, operated, decides, signed, whole, holds, is_index, magnitude, turn_count}
use Rattle.jade_meaning.specs.Specification.{Specification, rights_on, objects, covers, fitted, commuting_on, is_commuting, may_commute}
use Rattle.jade_meaning.specs.Changes.{amended, declared}
use Rattle.jade_base.specs.declared.report.Blame.{Blame}
use Rattle.jade_meaning.specs.Course.{Course, Reads, Writes, Steps, Creates, Changes, Ends, root_spec, root_course, Mine, On, Draft, NoDraft, Building, Amending, drafted, Setting, finish, choose, step}
use Rattle.jade_meaning.specs.Course.{given, place_of, member, reach, read_cell, write_cell, bind, leave, scoped, turns, amend, declare, create, create_covered}
use Rattle.jade_meaning.specs.Course.{working, change, child_start, eval, eval_links, find, run, run_all, range_from, assigned, inputs, section_begins, fault, none_of}
use Rattle.jade_meaning.specs.Uncommuting.{is_cm, has_cm, any_cm, uses_cm}
use Rattle.jade_meaning.proofs.Uncommuted.{none_from}
use Rattle.jade_meaning.proofs.Alone.{Lone}

-- no right to commute
record Uncommuting (spec : Specification) : Type 0 where
  none : (o : ℕ) → is_there (rights_on spec o).commutes ≡ false

lone_spec : (spec : Specification) → Uncommuting spec → commuting_on spec ≡ None
lone_spec spec h = none_from spec (objects spec) h.none

or_first : (a b : Bool) → a || b ≡ false → a ≡ false
or_first false b e = refl
or_first true b e = absurd (cc)

or_second : (a b : Bool) → a || b ≡ false → b ≡ false
or_second false b e = e
or_second true b e = absurd (cc)

-- a draft and a specification of a task of such a program: the draft of a child has no right to commute
abbrev FitsDraft : Draft → Type 0
FitsDraft NoDraft = Unit {0}
FitsDraft (Building d) = Uncommuting d
FitsDraft (Amending d) = Uncommuting d

abbrev Fit : Mine → Type 0
Fit m = FitsDraft m.draft × Uncommuting m.spec

-- what creates no task that commutes
data Simple : Course → Type 0 where
  simple_read : {o c : ℕ} {on : ℤ → Course} → ((v : ℤ) → Simple (on v)) → Simple (Reads o c on)
  simple_write : {o c : ℕ} {v : ℤ} {on : Course} → Simple on → Simple (Writes o c v on)
  simple_step : {on : Course} → Simple on → Simple (Steps on)
  simple_create : {child : Specification} {body on : Course} → commuting_on child ≡ None → Simple body → Simple on → Simple (Creates child body on)
  simple_change : {new : Specification} {on : Course} → Simple on → Simple (Changes new on)
  simple_end : {b : Option Blame} → Simple (Ends b)

lone_of : {c : Course} → Simple c → Lone c
lone_of (simple_read h) = λ v. lone_of (h v)
lone_of (simple_write h) = lone_of h
lone_of (simple_step h) = lone_of h
lone_of (simple_create none h g) = (none, lone_of h, lone_of g)
lone_of (simple_change h) = lone_of h
lone_of simple_end = tt

-- it does so from every fit state
abbrev Good : On → Type 0
Good on = (n : Mine) → Fit n → Simple (on n)

choose_good : (b : Bool) (f g : On) (m : Mine) → (b ≡ true → Simple (f m)) → Simple (g m) → Simple (choose b f g m)
choose_good true f g m h k = h refl
choose_good false f g m h k = k

given_good : (v : Given) (at : Pos) (m : Mine) (on : Value → Course) → ((w : Value) → Simple (on w)) → Simple (given v at m on)
given_good (Gives v) at m on h = h v
given_good (Fails kind) at m on h = simple_end

step_good : (limit : ℕ) (on : On) → Good on → Good (step limit on)
step_good limit on h m fit = choose_good (nat_lt m.taken limit) _ _ m (λ e. simple_step (h (record m { taken = suc m.taken }) fit)) simple_end

scoped_good : (body : On → On) → ((on : On) → Good on → Good (body on)) → (on : On) (m : Mine) → Good on → Fit m → Simple (scoped body on m)
scoped_good body b on m h fit = b (λ n. on (leave m n)) (λ n f. h (leave m n) f) m fit

turns_good : (limit n : ℕ) (i : ℤ) (x : Name) (body : On → On) → ((on : On) → Good on → Good (body on)) → (on : On) → Good on → Good (turns limit n i x body on)
turns_good limit zero i x body b on h m fit = h m fit
turns_good limit (suc n) i x body b on h m fit =
    let turn : On → On = λ k a. body k (bind x (IntOf i) a) in
    step_good limit (λ a. scoped turn (turns limit n (i +ℤ pos 1) x body on) a) (λ a f. scoped_good turn (λ k g c d. b k g (bind x (IntOf i) c) d)
    (turns limit n (i +ℤ pos 1) x body on) a (turns_good limit n (i +ℤ pos 1) x body b on h) f) m fit

read_good : (o c : ℕ) (at : Pos) (m : Mine) (on : Value → Course) → ((v : Value) → Simple (on v)) → Simple (read_cell o c at m on)
read_good o c at m on h = choose_good (may_read (rights_on m.spec o)) _ _ m (λ e. simple_read (λ z. h (IntOf z))) simple_end

write_good : (o c : ℕ) (z : ℤ) (at : Pos) (on : On) (m : Mine) → Simple (on m) → Simple (write_cell o c z at on m)
write_good o c z at on m h = choose_good (may_write (rights_on m.spec o)) _ _ m (λ e. simple_write h) simple_end

reach_good : (f : ResolvedObject) (i : ℤ) (at : Pos) (m : Mine) (on : ℕ → Course) → ((c : ℕ) → Simple (on c)) → Simple (reach f i at m on)
reach_good f i at m on h = choose_good (is_index i f.size) _ _ m (λ e. h (magnitude i)) simple_end

member_good : (p : Range) (i : ℤ) (at : Pos) (m : Mine) (on : ResolvedObject → Course) → ((f : ResolvedObject) → Simple (on f))
    → Simple (member p i at m on)
member_good p i at m on h = choose_good (is_index i p.count) _ _ m (λ e. h _) simple_end

-- the rights on an object, where those on one are set
set_either : (l : Specification) (o : ℕ) (a : Rights) (x : ℕ) → ((x ≡ o) × (rights_on (slice_set l o a) x ≡ a)) ⊎
    (rights_on (slice_set l o a) x ≡ rights_on l x)
set_either l o a x = go (eqb_tells x o)
  where
    inside : x ≡ o → (t : Bool) → nat_lt x (length l) ≡ t → ((x ≡ o) × (rights_on (slice_set l o a) x ≡ a)) ⊎ (rights_on (slice_set l o a) x ≡ rights_on l x)
    inside e true q = let lt : x < length l = ltb-true x (length l) q in
        inl (e, subst (λ y. rights_on (slice_set l y a) x ≡ a) e (get_or-set_same l x a no_rights lt))
    inside e false q = let past : length l ≤ o = subst (λ y. length l ≤ y) e (ltb-false x (length l) q) in inr (ap (λ k. rights_on k x) (set_past l o a past))

    go : ((nat_eq x o ≡ true) × (x ≡ o)) ⊎ ((nat_eq x o ≡ false) × (x ≢ o)) → ((x ≡ o) × (rights_on (slice_set l o a) x ≡ a)) ⊎
        (rights_on (slice_set l o a) x ≡ rights_on l x)
    go (inl h) = inside h.1 (nat_lt x (length l)) refl
    go (inr h) = inr (get_or-set_other l o x a no_rights h.1)

joined_none : (how : DeclareWord) (r : Right) → is_cm how ≡ false → is_there r ≡ false → is_there (joined r (declared how).commutes) ≡ false
joined_none how Absent n h = by how n
  where
    by : (how : DeclareWord) → is_cm how ≡ false → is_there (joined Absent (declared how).commutes) ≡ false
    by Cm n = absurd (cc)
    by Rd n = refl
    by Wr n = refl
    by RdWr n = refl
    by DfRd n = refl
    by DfWr n = refl
    by DfRdWr n = refl
    by NoRd n = refl
    by NoWr n = refl
    by NoRdWr n = refl
joined_none how Deferred n h = absurd (cc)
joined_none how Immediate n h = absurd (cc)

declared_none : (how : DeclareWord) (spec : Specification) (o : ℕ) → is_cm how ≡ false → Uncommuting spec → Uncommuting (slice_set spec o (join (rights_on spec o) (declared how)))
declared_none how spec o n h = record { none = λ x. at x (set_either spec o (join (rights_on spec o) (declared how)) x) }
  where
    at : (x : ℕ) → ((x ≡ o) × (rights_on (slice_set spec o (join (rights_on spec o) (declared how))) x ≡ join (rights_on spec o) (declared how))) ⊎
        (rights_on (slice_set spec o (join (rights_on spec o) (declared how))) x ≡ rights_on spec x)
        → is_there (rights_on (slice_set spec o (join (rights_on spec o) (declared how))) x).commutes ≡ false
    at x (inl q) = ap (λ a. is_there a.commutes) q.1 ∙ joined_none how (rights_on spec o).commutes n (h.none o)
    at x (inr q) = ap (λ a. is_there a.commutes) q ∙ h.none x

replicate_rights : (a : Rights) → is_there a.commutes ≡ false → (n o : ℕ) → is_there (rights_on (replicate n a) o).commutes ≡ false
replicate_rights a h zero o = refl
replicate_rights a h (suc n) zero = h
replicate_rights a h (suc n) (suc o) = replicate_rights a h n o

replicate_none : (n : ℕ) → Uncommuting (replicate n no_rights)
replicate_none n = record { none = replicate_rights no_rights refl n }

replicate_both : (n : ℕ) → Uncommuting (replicate n both_rights)
replicate_both n = record { none = replicate_rights both_rights refl n }

-- a fitted specification has the rights, or none
fitted_on : (base spec : Specification) (o : ℕ) → (rights_on (fitted base spec) o ≡ rights_on spec o) ⊎ (rights_on (fitted base spec) o ≡ no_rights)
fitted_on [] spec o = inr refl
fitted_on (a ∷ base) [] zero = inr refl
fitted_on (a ∷ base) [] (suc o) = fitted_on base [] o
fitted_on (a ∷ base) (b ∷ spec) zero = inl refl
fitted_on (a ∷ base) (b ∷ spec) (suc o) = fitted_on base spec o

fitted_none : (base spec : Specification) → Uncommuting spec → Uncommuting (fitted base spec)
fitted_none base spec h = record { none = λ o. at o (fitted_on base spec o) }
  where
    at : (o : ℕ) → (rights_on (fitted base spec) o ≡ rights_on spec o) ⊎ (rights_on (fitted base spec) o ≡ no_rights)
        → is_there (rights_on (fitted base spec) o).commutes ≡ false
    at o (inl q) = ap (λ a. is_there a.commutes) q ∙ h.none o
    at o (inr q) = ap (λ a. is_there a.commutes) q

drafted_none : (d : Draft) → FitsDraft d → Uncommuting (drafted d)
drafted_none NoDraft f = record { none = λ o. refl }
drafted_none (Building d) f = f
drafted_none (Amending d) f = f

working_none : (d : Draft) (spec : Specification) → FitsDraft d → Uncommuting spec → Uncommuting (working d spec)
working_none NoDraft spec f h = h
working_none (Building d) spec f h = h
working_none (Amending d) spec f h = f

-- no change gives a right to commute
amended_none : (how : DeclareWord) (a b : Rights) → amended how a ≡ Some b → is_there a.commutes ≡ false → is_there b.commutes ≡ false
amended_none Rd a b e h = grind arith
amended_none Wr a b e h = grind arith
amended_none RdWr a b e h = grind arith
amended_none DfRd a b e h = grind arith
amended_none DfWr a b e h = grind arith
amended_none DfRdWr a b e h = grind arith
amended_none Cm a b e h = grind arith
amended_none NoRd a b e h = grind arith
amended_none NoWr a b e h = grind arith
amended_none NoRdWr a b e h = grind arith

set_none : (spec : Specification) (o : ℕ) (a : Rights) → Uncommuting spec → is_there a.commutes ≡ false → Uncommuting (slice_set spec o a)
set_none spec o a h n = record { none = λ x. at x (set_either spec o a x) }
  where
    at : (x : ℕ) → ((x ≡ o) × (rights_on (slice_set spec o a) x ≡ a)) ⊎ (rights_on (slice_set spec o a) x ≡ rights_on spec x)
        → is_there (rights_on (slice_set spec o a) x).commutes ≡ false
    at x (inl q) = ap (λ b. is_there b.commutes) q.1 ∙ n
    at x (inr q) = ap (λ b. is_there b.commutes) q ∙ h.none x

amend_good : (r : Option Rights) (spec : Specification) (o : ℕ) (at : Pos) (on : On) (m : Mine)
    → ((b : Rights) → r ≡ Some b → Uncommuting (slice_set spec o b)) → Good on → Fit m → Simple (amend r spec o at on m)
amend_good None spec o at on m h g fit = simple_end
amend_good (Some b) spec o at on m h g fit = g (record m { draft = Amending (slice_set spec o b) }) (h b refl, fit.1)

declare_good : (d : Draft) (how : DeclareWord) (o : ℕ) (at : Pos) (on : On) (m : Mine) → is_cm how ≡ false → m.draft ≡ d → Good on → Fit m
    → Simple (declare d how o at on m)
declare_good NoDraft how o at on m n e g fit = g m fit
declare_good (Building spec) how o at on m n e g fit =
    let none : Uncommuting spec = subst FitsDraft e fit.0 in
    g _ (declared_none how spec o n none, fit.1)
declare_good (Amending spec) how o at on m n e g fit =
    let none : Uncommuting spec = subst FitsDraft e fit.0 in
    amend_good (amended how (rights_on spec o)) spec o at on m
    (λ b q. set_none spec o b none (amended_none how (rights_on spec o) b q (none.none o))) g fit

change_good : (on : On) → Good on → Good (change on)
change_good on h m fit =
    let new = fitted m.spec (working m.draft m.spec) in
    simple_change (h (record m { spec = new; draft = NoDraft }) (tt, fitted_none m.spec (working m.draft m.spec) (working_none m.draft m.spec fit.0 fit.1)))

create_good : (s : Setting) (at : Pos) (names : List Name) (body on : On) → Good body → Good on → Good (create s at names body on)
create_good s at names body on b h m fit =
    let child = fitted m.spec (drafted m.draft) in
    choose_good (may_commute child) (create_covered s at names child body on) _ m (λ may. choose_good (covers m.spec child) _ _ m
    (λ e. simple_create (lone_spec child none) (b _ (tt, none)) (h (record m { draft = NoDraft }) (tt, fit.1))) simple_end) simple_end
  where
    none : Uncommuting (fitted m.spec (drafted m.draft))
    none = fitted_none m.spec (drafted m.draft) (drafted_none m.draft fit.0)

section_good : (at : Pos) (d : Draft) (on : On) (m : Mine) → FitsDraft d → Good on → Fit m → Simple (section_begins at d on m)
section_good at d on m f h fit = go (is_commuting m.spec)
  where
    go : (b : Bool) → Simple (choose b (fault Commuted at) (λ n. on (record n { draft = d })) m)
    go true = simple_end
    go false = h (record m { draft = d }) (f, fit.1)

module _ (s : Setting) where
  mutual
    eval_good : (e : Expression) (m : Mine) (on : Value → Course) → ((v : Value) → Simple (on v)) → Simple (eval s e m on)
    eval_good (Whole z) m on h = h _
    eval_good (Truth b) m on h = h _
    eval_good (Variable x) m on h = h _
    eval_good (Group e) m on h = eval_good e m on h
    eval_good (Signed sign at e) m on h = eval_good e m _ (λ v. given_good (signed sign v) at m on h)
    eval_good (Chain e links) m on h = eval_good e m _ (λ v. links_good links v m on h)
    eval_good (Cell o e) m on h =
        find_good o m _ (λ f. eval_good e m _ (λ i. reach_good f (whole i) (place_of o) m _ (λ c. read_good f.number c (place_of o) m on h)))

    links_good : (l : Links) (v : Value) (m : Mine) (on : Value → Course) → ((v : Value) → Simple (on v)) → Simple (eval_links s l v m on)
    links_good Last v m on h = h v
    links_good (Link op at e links) v m on h =
        choose_good (decides op v) _ _ m (λ q. h v) (eval_good e m _ (λ w. given_good (operated op v w) at m _ (λ u. links_good links u m on h)))

    find_good : (o : Place) (m : Mine) (on : ResolvedObject → Course) → ((f : ResolvedObject) → Simple (on f)) → Simple (find s o m on)
    find_good (Alone x at) m on h = h _
    find_good (Member x at e) m on h = eval_good e m _ (λ i. member_good (range_from 0 x s.items) (whole i) at m on h)

  mutual
    run_good : (st : Action) (on : On) → has_cm st ≡ false → Good on → Good (run s st on)
    run_good (Local kind x e) on n h m fit = eval_good e m _ (λ v. h (bind x v m) fit)
    run_good (Assign x e) on n h m fit = eval_good e m _ (λ v. h (record m { env = assigned x v m.env }) fit)
    run_good (Store o e v) on n h m fit =
        find_good o m _
        (λ f. eval_good e m _ (λ i. reach_good f (whole i) (place_of o) m _
        (λ c. eval_good v m _ (λ z. write_good f.number c (whole z) (place_of o) on m (h m fit)))))
    run_good (If e b) on n h m fit =
        eval_good e m _ (λ v. choose_good (holds v) _ _ m (λ q. scoped_good (run_all s b) (λ k. all_good b k n) on m h fit) (h m fit))
    run_good (IfElse e b c) on n h m fit =
        eval_good e m _ (λ v. choose_good (holds v) _ _ m (λ q. scoped_good (run_all s b) (λ k. all_good b k (or_first _ _ n)) on m h fit)
        (scoped_good (run_all s c) (λ k. all_good c k (or_second (any_cm b) _ n)) on m h fit))
    run_good (For x low high body) on n h m fit =
        eval_good low m _ (λ l. eval_good high m _ (λ k. turns_good s.limit (turn_count (whole l) (whole k)) (whole l) x (run_all s body)
        (λ k. all_good body k n) on h m fit))
    run_good (Withonly at section names body) on n h m fit =
        section_good at (Building (none_of s.items)) (scoped (run_all s section) (create s at names (run_all s body finish) on)) m
        (replicate_none (length (sizes s.items)))
        (λ a f. scoped_good (run_all s section) (λ k. all_good section k (or_first _ _ n)) (create s at names (run_all s body finish) on) a
        (create_good s at names (run_all s body finish) on (all_good body finish (or_second (any_cm section) _ n) (λ a f. simple_end)) h) f) fit
    run_good (With at section) on n h m fit =
        section_good at (Amending m.spec) (scoped (run_all s section) (change on)) m fit.1
        (λ a f. scoped_good (run_all s section) (λ k. all_good section k n) (change on) a (change_good on h) f) fit
    run_good (Declare how at o) on n h m fit =
        find_good o m _ (λ f. declare_good m.draft how f.number at on m n refl h fit)

    all_good : (b : Actions) (on : On) → any_cm b ≡ false → Good on → Good (run_all s b on)
    all_good Done on n h m fit = h m fit
    all_good (Then st b) on n h m fit =
        step_good s.limit (run s st (run_all s b on)) (run_good st (run_all s b on) (or_first _ _ n) (all_good b on (or_second (has_cm st) _ n) h)) m fit

pub lone_root : (p : AbstractProgram) (ns : List ℤ) (limit : ℕ) → uses_cm p ≡ false → Lone (root_course p ns limit)
lone_root p ns limit n =
    let given = inputs p.items ns in
    lone_of (all_good (record { items = p.items; given = given; limit = limit }) p.main finish n (λ a f. simple_end) (child_start given (root_spec p))
    (tt, replicate_both (length (sizes p.items))))

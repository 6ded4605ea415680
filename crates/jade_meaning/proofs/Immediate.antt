-- The run in the order of creation has the report of the run at once.
use Rattle.std.proofs.Common.{◌≡◌, ◌≢◌, ℕ, zero, suc, ◌+◌, ◌<◌, add-zero, Bool, true, false, ◌&&◌, ◌||◌, List, [], ◌∷◌, ◌++◌, map, length, refl, sym, ap, ◌∙◌, subst, Option}
use Rattle.std.proofs.Common.{Some, None, arith, append-nil, append_assoc, ◌⊎◌, inl, inr, get_or-set_same, get_or-set_other}
use Rattle.std.specs.Prelude.{ℤ, nat_eq, slice_set, if◌then◌else◌}
use Rattle.std.proofs.lemmas.List.{length-set, length-replicate}
use Rattle.std.proofs.lemmas.Bool.Decides.{eqb_tells}
use Rattle.std.proofs.lemmas.Bool.{ne_eqb, eq-eqb}
use Rattle.jade_base.specs.declared.rights.Rights.{Rights}
use Rattle.jade_base.specs.Rights.{is_immediate, may_read, may_write}
use Rattle.jade_syntax.specs.Abstract.{AbstractProgram}
use Rattle.jade_syntax.specs.Objects.{sizes}
use Rattle.jade_meaning.specs.Specification.{Specification, rights_on, numbers, objects, commuting_on, may_commute, allows_commuting, all_fit}
use Rattle.jade_meaning.specs.Course.{Course, Reads, Writes, Steps, Creates, Changes, Ends, root_spec, root_course}
use Rattle.jade_meaning.specs.Proper.{Proper, proper_read, proper_write, proper_step, proper_create, proper_change, proper_end}
use Rattle.jade_meaning.specs.Serial.{Mark, Path, Store, DidTurn, DidRead, DidWrite, DidCreate, DidEnd, serial, own, after, cell, with_cell, at_object, zeros, Part, parts, same_path}
use Rattle.jade_meaning.specs.Turns.{Member, World, Ran, below, at_path, turn, turns_taken, seen_by, bared, kept_from, joined, chosen, touched_at_once, made_touchable}
use Rattle.jade_meaning.specs.Turns.{settle, settled, settle_all, first, entered, run, in_order, turns_on, marks_by}
use Rattle.jade_meaning.specs.Answer.{key, filed, by_key, parts_by_key}
use Rattle.jade_meaning.specs.Report.{turn_lists, fault_notes, step_of}
use Rattle.jade_meaning.specs.AtOnce.{turn_first, at_once, run_at_once, ReportsAtOnce}
use Rattle.jade_meaning.specs.Laws.{Every}
use Rattle.jade_meaning.proofs.Alone.{after_both}
use Rattle.jade_meaning.proofs.Bounds.{keeps}
use Rattle.jade_meaning.proofs.Groups.{every_append}
use Rattle.jade_meaning.proofs.Filling.{ran_of, turns_both}
use Rattle.jade_meaning.proofs.Soles.{Sole, proper_sole, bared_proper, own_write, own_read, at_write, taken_same, taken_leaves, after_set}
use Rattle.jade_meaning.proofs.Swapping.{Perm, perm_nil, perm_cons, perm_swap, perm_then, Alike, alike_is, Goes, then_goes}
use Rattle.jade_meaning.proofs.Swapping.{ahead, due, settle_goes, all_goes, Clear, clear_now, clear_still, elsewhere_of, due_at, taken_both, alike_swap}
use Rattle.jade_meaning.proofs.Telling.{among_below, whole, nobody_left, Rise}
use Rattle.jade_meaning.proofs.Plainly.{contents_follow}
use Rattle.jade_meaning.proofs.Stops.{not_both_ways}
use Rattle.jade_meaning.proofs.Sorting.{Apart, Differ, apart, parts_here, rises_everywhere, total, goes_on, every_by_key}
use Rattle.jade_base.specs.Places.{is_before}
use Rattle.jade_base.specs.Rights.{both_rights}

-- a body that commutes does the same on contents that agree where it reads and writes
body_same : {spec : Specification} {c : Course} → Proper spec c → (o : ℕ) → commuting_on spec ≡ Some o → ((x : ℕ) → may_write (rights_on spec x) ≡ true → x ≡ o)
    → (p : Path) (k n : ℕ) (s t : Store) → at_object s o ≡ at_object t o
    → ((x : ℕ) → o ≢ x → may_read (rights_on spec x) ≡ true → at_object s x ≡ at_object t x) → map (below p) (serial c k n s) ≡ at_once p c k n t
body_same (proper_read {o = x} {c = c} {on = on} i f) o e w p k n s t mine reads =
    let same : at_object s x ≡ at_object t x = at (eqb_tells o x) in
    let v : cell s x c ≡ cell t x c = ap (λ (l : List ℤ). cell (l ∷ []) 0 c) same in
    ap (λ z. map (below p) (own_first z)) v ∙ ap (λ q. at_path q k (DidRead x c (cell t x c)) ∷ map (below p) (serial (on (cell t x c)) k n s)) (append-nil p)
    ∙ ap (λ l. at_path p k (DidRead x c (cell t x c)) ∷ l) (body_same (f (cell t x c)) o e w p k n s t mine reads)
  where
    own_first : ℤ → List Mark
    own_first z = own k (DidRead x c z) ∷ serial (on z) k n s

    at : ((nat_eq o x ≡ true) × (o ≡ x)) ⊎ ((nat_eq o x ≡ false) × (o ≢ x)) → at_object s x ≡ at_object t x
    at (inl j) = subst (λ y. at_object s y ≡ at_object t y) j.1 mine
    at (inr j) = reads x j.1 i
body_same (proper_write {o = x} {c = c} {v = v} {on = on} i q) o e w p k n s t mine reads =
    let is : x ≡ o = w x i in
    ap (λ q. at_path q k (DidWrite x c v) ∷ map (below p) (serial on k n (with_cell s x c v))) (append-nil p)
    ∙ ap (λ l. at_path p k (DidWrite x c v) ∷ l) (body_same q o e w p k n (with_cell s x c v) (with_cell t x c v)
    (subst (λ y. at_object (with_cell s y c v) o ≡ at_object (with_cell t y c v) o) (sym is)
    (at_write s o c v ∙ ap (λ l. slice_set l c v) mine ∙ sym (at_write t o c v)))
    (λ y ne r. get_or-set_other s x y _ [] (λ j. ne (sym is ∙ sym j)) ∙ reads y ne r ∙ sym (get_or-set_other t x y _ [] (λ j. ne (sym is ∙ sym j)))))
body_same (proper_step {on = on} q) o e w p k n s t mine reads = body_same q o e w p k (suc n) s t mine reads
body_same (proper_create none a b d f g) o e w p k n s t mine reads = absurd (let z : Some o ≡ None = sym e ∙ none in cc)
body_same (proper_change none a b) o e w p k n s t mine reads = absurd (let z : Some o ≡ None = sym e ∙ none in cc)
body_same proper_end o e w p k n s t mine reads = ap (λ q. at_path q k _ ∷ []) (append-nil p)

bared_serial : (c : Course) (k n : ℕ) (s : Store) → serial (bared c n).course k (bared c n).steps s ≡ serial c k n s
bared_serial (Steps on) k n s = bared_serial on k (suc n) s
bared_serial (Reads o c on) k n s = refl
bared_serial (Writes o c v on) k n s = refl
bared_serial (Creates child body on) k n s = refl
bared_serial (Changes new on) k n s = refl
bared_serial (Ends b) k n s = refl

-- the contents that are kept
kept_length : (o : ℕ) (r : ℕ → Rights) (s : Store) → length (kept_from o r s) ≡ length s
kept_length o r [] = refl
kept_length o r (xs ∷ s) = ap suc (kept_length (suc o) r s)

kept_at : (o : ℕ) (r : ℕ → Rights) (s : Store) (x : ℕ) → is_immediate (r (o + x)).reads ≡ true → at_object (kept_from o r s) x ≡ at_object s x
kept_at o r [] x h = refl
kept_at o r (xs ∷ s) zero h =
    let e : is_immediate (r o).reads ≡ true = subst (λ z. is_immediate (r z).reads ≡ true) (add-zero o) h in
    ap (λ b. if b then xs else []) e
kept_at o r (xs ∷ s) (suc x) h =
    let e : o + suc x ≡ suc o + x = omega arith in kept_at (suc o) r s x (subst (λ z. is_immediate (r z).reads ≡ true) e h)

zero_more : (x : ℕ) → x ≡ 0 + x
zero_more x = omega arith

-- what is settled is clear
all_clear : (f : ℕ → Bool) (n a i : ℕ) (w : World) → i < n → f (a + i) ≡ true → Clear (a + i) (settle_all in_order (chosen f (numbers a n)) w).world
all_clear f zero a i w lt h = absurd (omega arith)
all_clear f (suc n) a zero w lt h = go (f a) refl
  where
    go : (b : Bool) → f a ≡ b → Clear (a + zero) (settle_all in_order (if b then a ∷ chosen f (numbers (suc a) n) else chosen f (numbers (suc a) n)) w).world
    go true e =
        subst (λ z. Clear z (settle_all in_order (chosen f (numbers (suc a) n)) (settled in_order a w)).world) (sym (add-zero a))
        (clear_still a (chosen f (numbers (suc a) n)) (settled in_order a w) (clear_now a w))
    go false e = absurd (let z : false ≡ true = sym e ∙ ap f (sym (add-zero a)) ∙ h in cc)
all_clear f (suc n) a (suc i) w lt h =
    let z : suc a + i ≡ a + suc i = omega arith in
    go z (f a) (λ v. all_clear f n (suc a) i v (omega arith) (subst (λ y. f y ≡ true) (sym z) h))
  where
    go : suc a + i ≡ a + suc i → (b : Bool) → ((v : World) → Clear (suc a + i) (settle_all in_order (chosen f (numbers (suc a) n)) v).world)
        → Clear (a + suc i) (settle_all in_order (if b then a ∷ chosen f (numbers (suc a) n) else chosen f (numbers (suc a) n)) w).world
    go z true k =
        subst (λ y. Clear y (settle_all in_order (chosen f (numbers (suc a) n)) (settled in_order a w)).world) z (k (settled in_order a w))
    go z false k = subst (λ y. Clear y (settle_all in_order (chosen f (numbers (suc a) n)) w).world) z (k w)

or_true : (a b : Bool) → a ≡ true → a || b ≡ true
or_true true b h = refl
or_true false b h = absurd (cc)

first_two : (a b : List Mark) (r : Ran) → first (a ++ b) r ≡ first a (first b r)
first_two a b r = ap (λ ms. record { marks = ms; world = r.world }) (append_assoc a b r.marks)

-- a deed of the task's own that touches no contents
own_goes : (size : ℕ) (w : World) (m : Mark) → Every Sole w.waiting → length w.store ≡ size → ((s : Store) → after (m ∷ []) s ≡ s) → ((x : ℕ) → turns_on x (m ∷ []) ≡ [])
    → Goes size w (record { marks = m ∷ []; world = w }) (m ∷ [])
own_goes size w m soles sized still none = record {
  store = sym (still (due w));
  alike = alike_swap (m ∷ []) (ahead w) (λ x. turns_apart x);
  soles = soles;
  sized = sized;
}
  where
    turns_apart : (x : ℕ) → turns_on x ((m ∷ []) ++ ahead w) ≡ turns_on x (ahead w ++ (m ∷ []))
    turns_apart x =
        turns_both x (m ∷ []) (ahead w) ∙ ap (λ l. l ++ turns_on x (ahead w)) (none x) ∙ sym (append-nil (turns_on x (ahead w)))
        ∙ ap (λ l. turns_on x (ahead w) ++ l) (sym (none x)) ∙ sym (turns_both x (ahead w) (m ∷ []))

-- a write of the task's own, where nobody waits for the object
write_goes : (size : ℕ) (w : World) (p : Path) (k o c : ℕ) (v : ℤ) → Every Sole w.waiting → length w.store ≡ size → Clear o w
    → Goes size w (record { marks = at_path p k (DidWrite o c v) ∷ []; world = record w { store = with_cell w.store o c v } }) (at_path p k (DidWrite o c v) ∷ [])
write_goes size w p k o c v soles sized clear =
    let m = at_path p k (DidWrite o c v) in
    let ys = slice_set (at_object w.store o) c v in
    let u : World = record w { store = with_cell w.store o c v } in
    let es = elsewhere_of o w clear soles in
    let same : ahead u ≡ ahead w = taken_same o ys w.waiting w.store es in
    let here = due_at o w clear soles in
    record {
      store = ap (λ l. after l (slice_set w.store o ys)) same ∙ after_set o ys (ahead w) w.store (taken_leaves o w.waiting w.store es)
          ∙ ap (λ l. slice_set (due w) o (slice_set l c v)) (sym here);
      alike = subst (λ l. Alike ((m ∷ []) ++ l) (ahead w ++ (m ∷ []))) (sym same) (alike_swap (m ∷ []) (ahead w) (λ x.
          turns_both x (m ∷ []) (ahead w) ∙ sym (append-nil (turns_on x (ahead w))) ∙ sym (turns_both x (ahead w) (m ∷ []))));
      soles = soles;
      sized = length-set w.store o ys ∙ sized;
    }

-- a created task that commutes waits, and would do at once what it does in its turn
join_goes : (size : ℕ) (w : World) (child : Specification) (body : Course) (o : ℕ) (q : Path) → Proper child body → commuting_on child ≡ Some o
    → all_fit o child (objects child) ≡ true → length child ≡ size → Every Sole w.waiting → length w.store ≡ size
    → ((x : ℕ) → is_immediate (rights_on child x).reads ≡ true → x < length child → Clear x w)
    → Goes size w (record { marks = []; world = joined q o (rights_on child) (bared body 0) w }) (turn_first (Some o) q ++ at_once q body 0 0 (due w))
join_goes size w child body o q proper e fit long soles sized clear =
    let b = bared body 0 in
    let m : Member = record { path = q; object = o; course = b.course; steps = b.steps; kept = kept_from 0 (rights_on child) w.store } in
    let d = due w in
    let lt : o < size = let l = among_below child 0 (length child) o e in omega (arith, l, long) in
    let range : o < length m.kept = let l = kept_length 0 (rights_on child) w.store in omega (arith, lt, l, sized) in
    let own : at_object (seen_by m d) o ≡ at_object d o = get_or-set_same m.kept o (at_object d o) [] range in
    let reads = λ (x : ℕ) (ne : o ≢ x) (r : may_read (rights_on child x) ≡ true).
    (let i = own_read o child fit x ne r in
    get_or-set_other m.kept o x (at_object d o) [] (λ j. ne (sym j)) ∙ kept_at 0 (rights_on child) w.store x (subst (λ y. is_immediate (rights_on child y).reads ≡ true) (zero_more x) i.0) ∙ sym (due_at x w (clear x i.0 i.1) soles)) in
    let does : turn m d ≡ at_path q 0 (DidTurn o) ∷ at_once q body 0 0 d = ap (λ l. at_path q 0 (DidTurn o) ∷ map (below q) l) (bared_serial body 0 0 (seen_by m d))
    ∙ ap (λ l. at_path q 0 (DidTurn o) ∷ l) (body_same proper o e (own_write o child fit) q 0 0 (seen_by m d) d own reads) in
    let ms = at_path q 0 (DidTurn o) ∷ at_once q body 0 0 d in
    let all : turns_taken (w.waiting ++ m ∷ []) w.store ≡ ahead w ++ ms = taken_both w.waiting (m ∷ []) w.store
    ∙ ap (λ l. ahead w ++ l) (append-nil (turn m d) ∙ does) in
    record {
      store = ap (λ l. after l w.store) all ∙ after_both (ahead w) ms w.store;
      alike = alike_is (turns_taken (w.waiting ++ m ∷ []) w.store) (ahead w ++ ms) all;
      soles = every_append Sole w.waiting (m ∷ []) soles (proper_sole m (bared_proper proper 0) e fit, tt);
      sized = sized;
    }

-- the run, told at once
pub run_goes : (size : ℕ) (c : Course) (spec : Specification) → Proper spec c → length spec ≡ size → (p : Path) (k n : ℕ) (w : World) → Every Sole w.waiting
    → length w.store ≡ size → Goes size w (run in_order p spec c k n w) (at_once p c k n (due w))
run_goes size (Reads o c on) spec (proper_read i f) z p k n w soles sized =
    let v = settled in_order o w in
    let a = settle_goes size o w soles sized in
    let x = cell v.store o c in
    let d = at_path p k (DidRead o c x) in
    let rest = run in_order p spec (on x) k n v in
    let b = own_goes size v d a.soles a.sized (λ s. refl) (λ y. refl) in
    let h = run_goes size (on x) spec (f x) z p k n v a.soles a.sized in
    let value : x ≡ cell (due w) o c = ap (λ (l : List ℤ). cell (l ∷ []) 0 c) (sym (due_at o v (clear_now o w) a.soles)) ∙ ap (λ s. cell s o c) a.store in
    let told : (d ∷ []) ++ at_once p (on x) k n (due v) ≡ at_once p (Reads o c on) k n (due w) = ap (λ s. d ∷ at_once p (on x) k n s) a.store
    ∙ ap (λ y. at_path p k (DidRead o c y) ∷ at_once p (on y) k n (due w)) value in
    let all = then_goes size w (ran_of in_order o w) (first (d ∷ []) rest) [] ((d ∷ []) ++ at_once p (on x) k n (due v)) a
    (then_goes size v (record { marks = d ∷ []; world = v }) rest (d ∷ []) (at_once p (on x) k n (due v)) b h) in
    subst (Goes size w (first (settle in_order o w ++ d ∷ []) rest)) told
    (subst (λ r. Goes size w r ((d ∷ []) ++ at_once p (on x) k n (due v))) (sym (first_two (settle in_order o w) (d ∷ []) rest)) all)
run_goes size (Writes o c x on) spec (proper_write i f) z p k n w soles sized =
    let v = settled in_order o w in
    let a = settle_goes size o w soles sized in
    let d = at_path p k (DidWrite o c x) in
    let u : World = record v { store = with_cell v.store o c x } in
    let rest = run in_order p spec on k n u in
    let b = write_goes size v p k o c x a.soles a.sized (clear_now o w) in
    let h = run_goes size on spec f z p k n u b.soles b.sized in
    let told : (d ∷ []) ++ at_once p on k n (due u) ≡ at_once p (Writes o c x on) k n (due w) = ap (λ s. d ∷ at_once p on k n s)
    (b.store ∙ ap (λ s. with_cell s o c x) a.store) in
    let all = then_goes size w (ran_of in_order o w) (first (d ∷ []) rest) [] ((d ∷ []) ++ at_once p on k n (due u)) a
    (then_goes size v (record { marks = d ∷ []; world = u }) rest (d ∷ []) (at_once p on k n (due u)) b h) in
    subst (Goes size w (first (settle in_order o w ++ d ∷ []) rest)) told
    (subst (λ r. Goes size w r ((d ∷ []) ++ at_once p on k n (due u))) (sym (first_two (settle in_order o w) (d ∷ []) rest)) all)
run_goes size (Steps on) spec (proper_step f) z p k n w soles sized = run_goes size on spec f z p k (suc n) w soles sized
run_goes size (Creates child body on) spec (proper_create none may covered long f g) z p k n w soles sized =
    let q = p ++ k ∷ [] in
    let d = at_path p k (DidCreate (record { spec = child; course = body }) n) in
    let s = settle_all in_order (touched_at_once child) w in
    let a = own_goes size w d soles sized (λ s. refl) (λ y. refl) in
    let b = all_goes size (touched_at_once child) w soles sized in
    let inner = entered (commuting_on child) q child body (λ x. run in_order q child body 0 0 x) s.world in
    let enter = λ (t : Store). turn_first (commuting_on child) q ++ at_once q body 0 0 t in
    let run_child = run_goes size body child f (long ∙ z) q 0 0 s.world b.soles b.sized in
    let e = inside (commuting_on child) refl may b.soles b.sized run_child in
    let rest = run in_order p spec on (suc k) 0 inner.world in
    let h = run_goes size on spec g z p (suc k) 0 inner.world e.soles e.sized in
    let after_child : due inner.world ≡ after (enter (due w)) (due w) = e.store ∙ ap (λ t. after (enter t) t) b.store in
    let told : (d ∷ []) ++ ([] ++ (enter (due s.world) ++ at_once p on (suc k) 0 (due inner.world))) ≡ at_once p (Creates child body on) k n (due w)
    = ap (λ t. d ∷ (enter t ++ at_once p on (suc k) 0 (due inner.world))) b.store
    ∙ ap (λ t. d ∷ (enter (due w) ++ at_once p on (suc k) 0 t)) after_child in
    let all = then_goes size w (record { marks = d ∷ []; world = w }) (first s.marks (first inner.marks rest)) (d ∷ [])
    ([] ++ (enter (due s.world) ++ at_once p on (suc k) 0 (due inner.world))) a
    (then_goes size w s (first inner.marks rest) [] (enter (due s.world) ++ at_once p on (suc k) 0 (due inner.world)) b
    (then_goes size s.world inner rest (enter (due s.world)) (at_once p on (suc k) 0 (due inner.world)) e h)) in
    let shape : first (d ∷ (s.marks ++ inner.marks)) rest ≡ first (d ∷ []) (first s.marks (first inner.marks rest)) = ap (first (d ∷ []))
    (first_two s.marks inner.marks rest) in
    subst (Goes size w (first (d ∷ (s.marks ++ inner.marks)) rest)) told (subst (λ r. Goes size w r ((d ∷ []) ++ ([] ++ (enter (due s.world) ++ at_once p on (suc k) 0 (due inner.world))))) (sym shape) all)
  where
    clear : (x : ℕ) → is_immediate (rights_on child x).reads ≡ true → x < length child → Clear x (settle_all in_order (touched_at_once child) w).world
    clear x i lt =
        let e : 0 + x ≡ x = omega arith in
        let test = λ (o : ℕ). is_immediate (rights_on child o).reads || is_immediate (rights_on child o).writes in
        subst (λ y. Clear y (settle_all in_order (touched_at_once child) w).world) e
        (all_clear test (length child) 0 x w lt (subst (λ y. test y ≡ true) (sym e) (or_true _ _ i)))

    inside : (x : Option ℕ) → commuting_on child ≡ x → may_commute child ≡ true → Every Sole (settle_all in_order (touched_at_once child) w).world.waiting
        → length (settle_all in_order (touched_at_once child) w).world.store ≡ size
        → Goes size (settle_all in_order (touched_at_once child) w).world
        (run in_order (p ++ k ∷ []) child body 0 0 (settle_all in_order (touched_at_once child) w).world)
        (at_once (p ++ k ∷ []) body 0 0 (due (settle_all in_order (touched_at_once child) w).world))
        → Goes size (settle_all in_order (touched_at_once child) w).world
        (entered x (p ++ k ∷ []) child body (λ y. run in_order (p ++ k ∷ []) child body 0 0 y) (settle_all in_order (touched_at_once child) w).world)
        (turn_first x (p ++ k ∷ []) ++ at_once (p ++ k ∷ []) body 0 0 (due (settle_all in_order (touched_at_once child) w).world))
    inside None e may soles sized h = h
    inside (Some o) e may soles sized h =
        join_goes size (settle_all in_order (touched_at_once child) w).world child body o (p ++ k ∷ []) f e (subst (λ x. allows_commuting x child ≡ true) e may)
        (long ∙ z) soles sized clear
run_goes size (Changes new on) spec (proper_change none more f) z p k n w soles sized =
    let s = settle_all in_order (made_touchable spec new) w in
    let a = all_goes size (made_touchable spec new) w soles sized in
    let rest = run in_order p new on k n s.world in
    let h = run_goes size on new f (more.sized ∙ z) p k n s.world a.soles a.sized in
    subst (Goes size w (first s.marks rest)) (ap (at_once p on k n) a.store) (then_goes size w s rest [] (at_once p on k n (due s.world)) a h)
run_goes size (Ends b) spec proper_end z p k n w soles sized = own_goes size w (at_path p k (DidEnd b n)) soles sized (λ s. refl) (λ y. refl)

-- sorting, whatever the order
filed_past : (p q : Part) (l : List Part) → is_before (key q) (key p) ≡ true → filed p (q ∷ l) ≡ q ∷ filed p l
filed_past p q l e = ap (λ b. if b then q ∷ filed p l else p ∷ (q ∷ l)) e

filed_here : (p q : Part) (l : List Part) → is_before (key q) (key p) ≡ false → filed p (q ∷ l) ≡ p ∷ (q ∷ l)
filed_here p q l e = ap (λ b. if b then q ∷ filed p l else p ∷ (q ∷ l)) e

abbrev Either : Part → Part → Type 0
Either x y =
    ((is_before (key x) (key y) ≡ true) × (is_before (key y) (key x) ≡ false)) ⊎ ((is_before (key x) (key y) ≡ false) × (is_before (key y) (key x) ≡ true))

same_flip : (p q : Path) → same_path p q ≡ same_path q p
same_flip [] [] = refl
same_flip [] (j ∷ q) = refl
same_flip (i ∷ p) [] = refl
same_flip (i ∷ p) (j ∷ q) = go (eqb_tells i j) (same_flip p q)
  where
    go : ((nat_eq i j ≡ true) × (i ≡ j)) ⊎ ((nat_eq i j ≡ false) × (i ≢ j)) → same_path p q ≡ same_path q p → same_path (i ∷ p) (j ∷ q) ≡ same_path (j ∷ q) (i ∷ p)
    go (inl e) h = ap (λ b. b && same_path p q) (e.0 ∙ sym (eq-eqb j i (sym e.1))) ∙ ap (λ b. nat_eq j i && b) h
    go (inr e) h = ap (λ b. b && same_path p q) e.0 ∙ sym (ap (λ b. b && same_path q p) (ne_eqb j i (λ k. e.1 (sym k))))

differ_flip : (x y : Part) → Differ x y → Differ y x
differ_flip x y h = same_flip (key y) (key x) ∙ h

either : (x y : Part) → Differ x y → Either x y
either x y d = go (is_before (key y) (key x)) refl
  where
    go : (b : Bool) → is_before (key y) (key x) ≡ b → Either x y
    go true e = inr (not_both_ways (key y) (key x) e, e)
    go false e = inl (total (key x) (key y) d e, e)

filed_swap : (x y : Part) (l : List Part) → Differ x y → Every (Differ x) l → Every (Differ y) l → filed x (filed y l) ≡ filed y (filed x l)
filed_swap x y [] d h g = go (either x y d)
  where
    go : Either x y → filed x (y ∷ []) ≡ filed y (x ∷ [])
    go (inl e) = filed_here x y [] e.1 ∙ sym (filed_past y x [] e.0)
    go (inr e) = filed_past x y [] e.1 ∙ sym (filed_here y x [] e.0)
filed_swap x y (z ∷ l) d h g = go (either x z h.0) (either y z g.0) (either x y d) (filed_swap x y l d h.1 g.1)
  where
    go : Either x z → Either y z → Either x y → filed x (filed y l) ≡ filed y (filed x l) → filed x (filed y (z ∷ l)) ≡ filed y (filed x (z ∷ l))
    -- z comes first
    go (inr a) (inr b) c r =
        ap (filed x) (filed_past y z l b.1) ∙ filed_past x z (filed y l) a.1 ∙ ap (λ k. z ∷ k) r ∙ sym (filed_past y z (filed x l) b.1)
        ∙ sym (ap (filed y) (filed_past x z l a.1))
    -- z between them
    go (inr a) (inl b) c r =
        let first = goes_on (key y) (key z) (key x) b.0 a.1 in
        ap (filed x) (filed_here y z l b.1) ∙ filed_past x y (z ∷ l) first ∙ ap (λ k. y ∷ k) (filed_past x z l a.1)
        ∙ sym (filed_here y z (filed x l) b.1) ∙ sym (ap (filed y) (filed_past x z l a.1))
    go (inl a) (inr b) c r =
        let first = goes_on (key x) (key z) (key y) a.0 b.1 in
        ap (filed x) (filed_past y z l b.1) ∙ filed_here x z (filed y l) a.1 ∙ sym (ap (λ k. x ∷ k) (filed_past y z l b.1))
        ∙ sym (filed_past y x (z ∷ l) first) ∙ sym (ap (filed y) (filed_here x z l a.1))
    -- z comes last
    go (inl a) (inl b) (inl c) r =
        ap (filed x) (filed_here y z l b.1) ∙ filed_here x y (z ∷ l) c.1 ∙ sym (ap (λ k. x ∷ k) (filed_here y z l b.1))
        ∙ sym (filed_past y x (z ∷ l) c.0) ∙ sym (ap (filed y) (filed_here x z l a.1))
    go (inl a) (inl b) (inr c) r =
        ap (filed x) (filed_here y z l b.1) ∙ filed_past x y (z ∷ l) c.1 ∙ ap (λ k. y ∷ k) (filed_here x z l a.1)
        ∙ sym (filed_here y x (z ∷ l) c.0) ∙ sym (ap (filed y) (filed_here x z l a.1))

every_perm : (P : Part → Type 0) {xs ys : List Part} → Perm xs ys → Every P xs → Every P ys
every_perm P perm_nil h = h
every_perm P (perm_cons x k) h = (h.0, every_perm P k h.1)
every_perm P (perm_swap x y xs) h = (h.1.0, (h.0, h.1.1))
every_perm P (perm_then k l) h = every_perm P l (every_perm P k h)

apart_perm : {xs ys : List Part} → Perm xs ys → Apart xs → Apart ys
apart_perm perm_nil h = h
apart_perm (perm_cons x k) h = (every_perm (Differ x) k h.0, apart_perm k h.1)
apart_perm (perm_swap x y xs) h = ((differ_flip x y h.0.0, h.1.0), (h.0.1, h.1.1))
apart_perm (perm_then k l) h = apart_perm l (apart_perm k h)

by_key_perm : {xs ys : List Part} → Perm xs ys → Apart xs → by_key xs ≡ by_key ys
by_key_perm perm_nil h = refl
by_key_perm (perm_cons x k) h = ap (filed x) (by_key_perm k h.1)
by_key_perm (perm_swap x y xs) h =
    filed_swap x y (by_key xs) h.0.0 (every_by_key (Differ x) xs h.0.1) (every_by_key (Differ y) xs h.1.0)
by_key_perm (perm_then k l) h = by_key_perm k h ∙ by_key_perm l (apart_perm k h)

same_lists : (n i : ℕ) (a b : List Mark) → ((x : ℕ) → turns_on x a ≡ turns_on x b) → map (λ o. turns_on o a) (numbers i n) ≡ map (λ o. turns_on o b) (numbers i n)
same_lists zero i a b h = refl
same_lists (suc n) i a b h = ap (λ t. t ∷ map (λ o. turns_on o a) (numbers (suc i) n)) (h i) ∙ ap (λ l. turns_on i b ∷ l) (same_lists n (suc i) a b h)

pub zeros_length : (ns : List ℕ) → length (zeros ns) ≡ length ns
zeros_length [] = refl
zeros_length (n ∷ ns) = ap suc (zeros_length ns)

pub reports_at_once : (p : AbstractProgram) (ns : List ℤ) (limit : ℕ) → ReportsAtOnce p ns limit
reports_at_once p ns limit =
    let spec = root_spec p in
    let size = length spec in
    let c = root_course p ns limit in
    let store = zeros (sizes p.items) in
    let w : World = record { store = store; waiting = [] } in
    let r = run in_order (0 ∷ []) spec c 0 0 w in
    let e = settle_all in_order (objects spec) r.world in
    let total = first r.marks e in
    let sized : length store ≡ size = zeros_length (sizes p.items) ∙ sym (length-replicate (length (sizes p.items)) both_rights) in
    let a = run_goes size c spec (keeps p ns limit) refl (0 ∷ []) 0 0 w tt sized in
    let ms = run_at_once p ns limit in
    let all = then_goes size w r e ms [] a (all_goes size (objects spec) r.world a.soles a.sized) in
    let none : total.world.waiting ≡ [] = nobody_left p ns limit in_order in
    let quiet : ahead total.world ≡ [] = ap (λ l. turns_taken l total.world.store) none in
    let marks = marks_by p ns limit in_order in
    let alike : Alike marks ms = subst (λ l. Alike l ms) (append-nil marks) (subst (Alike (marks ++ [])) (append-nil ms)
    (subst (λ l. Alike (marks ++ l) (ms ++ [])) quiet all.alike)) in
    let last : after marks store ≡ after ms store = sym (contents_follow p ns limit in_order).same ∙ sym (ap (λ l. after l total.world.store) quiet) ∙ all.store
    ∙ ap (λ l. after l store) (append-nil ms) in
    let h = whole p ns limit in_order in
    let far = apart (parts marks) (λ q. subst (Rise 0) (parts_here q marks) (rises_everywhere marks h.rises h.elsewhere q)) in
    let sorted : parts_by_key marks ≡ parts_by_key ms = by_key_perm alike.same far in
    let lists = same_lists (length (sizes p.items)) 0 marks ms alike.turns in
    record {
      same = ap (λ s. record { objects = s; faults = fault_notes (parts_by_key marks); turns = turn_lists (length (sizes p.items)) marks; steps = map step_of (parts_by_key marks) }) last
          ∙ ap (λ ps. record { objects = after ms store; faults = fault_notes ps; turns = turn_lists (length (sizes p.items)) marks; steps = map step_of ps }) sorted
          ∙ ap (λ l. record { objects = after ms store; faults = fault_notes (parts_by_key ms); turns = l; steps = map step_of (parts_by_key ms) }) lists;
    }

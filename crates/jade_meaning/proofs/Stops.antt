-- A run that stops where the answer is known has the answer of the serial run.
use Rattle.std.proofs.Common.{◌≡◌, ℕ, zero, suc, ◌+◌, ◌-◌, ◌<◌, ◌≤◌, Bool, true, false, ◌&&◌, List, [], ◌∷◌, ◌++◌, map, refl, sym, ap, ◌∙◌, subst, Option}
use Rattle.std.proofs.Common.{Some, None, arith, append-nil, append_assoc, add-zero}
use Rattle.std.specs.Prelude.{ℤ, nat_eq, nat_lt, if◌then◌else◌}
use Rattle.std.specs.declared.cmp.Ordering.{Ordering}
use Rattle.std.specs.declared.cmp.Ordering.TheVariants.{Less, Equal, Greater}
use Rattle.std.specs.Ordering.{nat_cmp, ordering_then, is_lt}
use Rattle.std.specs.Cmp.{nat_cmp_is}
use Rattle.std.specs.List.{cons_option}
use Rattle.std.proofs.lemmas.List.{map-append}
use Rattle.std.proofs.lemmas.List.Elements.{filter_map-append}
use Rattle.std.proofs.lemmas.Bool.Decides.{nat_tests}
use Rattle.std.proofs.lemmas.Bool.{eq-eqb, le-ltb, lt-ltb, ltb-true, ltb-false, eqb-true}
use Rattle.jade_base.specs.declared.report.Blame.{Blame}
use Rattle.jade_syntax.specs.Abstract.{AbstractProgram}
use Rattle.jade_syntax.specs.Objects.{sizes}
use Rattle.jade_meaning.specs.Course.{Course, Reads, Writes, Steps, Creates, Changes, Ends, root_course, limit_blame}
use Rattle.jade_meaning.specs.Talk.{Task}
use Rattle.jade_meaning.specs.Serial.{Mark, Path, Store, Deed, DidTurn, DidRead, DidWrite, DidCreate, DidEnd, serial, own, under, after, cell, with_cell, done_to}
use Rattle.jade_meaning.specs.Serial.{zeros, Part, parts, part_of_deed, serial_run}
use Rattle.jade_meaning.specs.Laws.{Every, child_path, NoneCommutes}
use Rattle.jade_meaning.proofs.Plainly.{runs_plainly}
use Rattle.jade_base.specs.Places.{is_before, path_order}
use Rattle.jade_meaning.specs.Answer.{Answer, Faulted, Cells, key, first_fault, limit_place, blame_of, decided, Run, Stopped, Through, noted, noted_all}
use Rattle.jade_meaning.specs.Answer.{then_on, stopping, stopping_run, run_answer, run_marks, accesses, access_deed, filed, by_key, parts_by_key, PartsStandByKey}
use Rattle.jade_meaning.specs.Answer.{StoppingAgrees}

-- going through the parts: what is left of the limit, or where it ends
data Scan : Type 0 where
  Ran : ℕ → Scan
  Halted : Path → Blame → Scan

abbrev by_blame : Option Blame → Path → ℕ → Scan
by_blame None p left = Ran left
by_blame (Some b) p left = Halted p b

abbrev part_scan : ℕ → Part → Scan
part_scan left p = if nat_lt left p.steps then Halted p.path limit_blame else by_blame p.blame p.path (left - p.steps)

abbrev next : Scan → (ℕ → Scan) → Scan
next (Ran left) on = on left
next (Halted p b) on = Halted p b

abbrev scan : ℕ → List Part → Scan
scan left [] = Ran left
scan left (p ∷ ps) = next (part_scan left p) (λ less. scan less ps)

next_next : (s : Scan) (f g : ℕ → Scan) → next (next s f) g ≡ next s (λ l. next (f l) g)
next_next (Ran l) f g = refl
next_next (Halted p b) f g = refl

next_alike : (s : Scan) (f g : ℕ → Scan) → ((l : ℕ) → f l ≡ g l) → next s f ≡ next s g
next_alike (Ran l) f g h = h l
next_alike (Halted p b) f g h = refl

scan_append : (left : ℕ) (ps qs : List Part) → scan left (ps ++ qs) ≡ next (scan left ps) (λ less. scan less qs)
scan_append left [] qs = refl
scan_append left (p ∷ ps) qs =
    next_alike (part_scan left p) _ _ (λ l. scan_append l ps qs) ∙ sym (next_next (part_scan left p) (λ l. scan l ps) (λ l. scan l qs))

abbrev scan_under : ℕ → Scan → Scan
scan_under k (Ran l) = Ran l
scan_under k (Halted p b) = Halted (k ∷ p) b

abbrev part_under : ℕ → Part → Part
part_under k p = record p { path = k ∷ p.path }

part_scan_under : (k left : ℕ) (p : Part) → part_scan left (part_under k p) ≡ scan_under k (part_scan left p)
part_scan_under k left p = go (nat_lt left p.steps) p.blame
  where
    go : (t : Bool) (b : Option Blame) → (if t then Halted (k ∷ p.path) limit_blame else by_blame b (k ∷ p.path) (left - p.steps)) ≡ scan_under k
        (if t then Halted p.path limit_blame else by_blame b p.path (left - p.steps))
    go true b = refl
    go false None = refl
    go false (Some b) = refl

next_under : (k : ℕ) (s : Scan) (f g : ℕ → Scan) → ((l : ℕ) → f l ≡ scan_under k (g l)) → next (scan_under k s) f ≡ scan_under k (next s g)
next_under k (Ran l) f g h = h l
next_under k (Halted p b) f g h = refl

scan_map : (k left : ℕ) (ps : List Part) → scan left (map (part_under k) ps) ≡ scan_under k (scan left ps)
scan_map k left [] = refl
scan_map k left (p ∷ ps) =
    ap (λ s. next s (λ l. scan l (map (part_under k) ps))) (part_scan_under k left p) ∙ next_under k (part_scan left p) _ _ (λ l. scan_map k l ps)

-- a list of marks under a number
one_part_under : (k : ℕ) (m : Mark) (d : Deed) (ps qs : List Part) → ps ≡ map (part_under k) qs → cons_option (part_of_deed d (under k m)) ps ≡ map
    (part_under k) (cons_option (part_of_deed d m) qs)
one_part_under k m (DidTurn o) ps qs e = e
one_part_under k m (DidRead o c v) ps qs e = e
one_part_under k m (DidWrite o c v) ps qs e = e
one_part_under k m (DidCreate t n) ps qs e = ap (λ x. record { path = k ∷ m.path; children = m.children; steps = n; blame = None } ∷ x) e
one_part_under k m (DidEnd b n) ps qs e = ap (λ x. record { path = k ∷ m.path; children = m.children; steps = n; blame = b } ∷ x) e

parts_under : (k : ℕ) (ms : List Mark) → parts (map (under k) ms) ≡ map (part_under k) (parts ms)
parts_under k [] = refl
parts_under k (m ∷ ms) = one_part_under k m m.deed (parts (map (under k) ms)) (parts ms) (parts_under k ms)

one_access_under : (k : ℕ) (m : Mark) (d : Deed) (ps qs : List Mark) → ps ≡ map (under k) qs → cons_option (access_deed d (under k m)) ps ≡ map (under k)
    (cons_option (access_deed d m) qs)
one_access_under k m (DidTurn o) ps qs e = e
one_access_under k m (DidRead o c v) ps qs e = ap (λ x. under k m ∷ x) e
one_access_under k m (DidWrite o c v) ps qs e = ap (λ x. under k m ∷ x) e
one_access_under k m (DidCreate t n) ps qs e = e
one_access_under k m (DidEnd b n) ps qs e = e

accesses_under : (k : ℕ) (ms : List Mark) → accesses (map (under k) ms) ≡ map (under k) (accesses ms)
accesses_under k [] = refl
accesses_under k (m ∷ ms) = one_access_under k m m.deed (accesses (map (under k) ms)) (accesses ms) (accesses_under k ms)

-- the accesses alone change the store
one_access_after : (m : Mark) (d : Deed) (ms : List Mark) (store : Store) → m.deed ≡ d → ((s : Store) → after (accesses ms) s ≡ after ms s)
    → after (cons_option (access_deed d m) (accesses ms)) store ≡ after (m ∷ ms) store
one_access_after m (DidTurn o) ms store e h = h store ∙ ap (λ d. after ms (done_to d store)) (sym e)
one_access_after m (DidRead o c v) ms store e h = h _
one_access_after m (DidWrite o c v) ms store e h = h _
one_access_after m (DidCreate t n) ms store e h = h store ∙ ap (λ d. after ms (done_to d store)) (sym e)
one_access_after m (DidEnd b n) ms store e h = h store ∙ ap (λ d. after ms (done_to d store)) (sym e)

accesses_after : (ms : List Mark) (store : Store) → after (accesses ms) store ≡ after ms store
accesses_after [] store = refl
accesses_after (m ∷ ms) store = one_access_after m m.deed ms store refl (accesses_after ms)

-- a run that stops is the first of these marks, and ends as their parts are gone through
abbrev Fits : Run → List Mark → ℕ → Type 0
Fits (Stopped p b ns) ms left = (scan left (parts ms) ≡ Halted p b) × ((rest : List Mark) × (accesses ms ≡ ns ++ rest))
Fits (Through less ns) ms left = (scan left (parts ms) ≡ Ran less) × (accesses ms ≡ ns)

read_fits : (r : Run) (k o c : ℕ) (v : ℤ) (ms : List Mark) (left : ℕ) → Fits r ms left → Fits (noted (own k (DidRead o c v)) r) (own k (DidRead o c v) ∷ ms)
    left
read_fits (Stopped p b ns) k o c v ms left h = (h.0, (h.1.0, ap (λ x. own k (DidRead o c v) ∷ x) h.1.1))
read_fits (Through less ns) k o c v ms left h = (h.0, ap (λ x. own k (DidRead o c v) ∷ x) h.1)

write_fits : (r : Run) (k o c : ℕ) (v : ℤ) (ms : List Mark) (left : ℕ) → Fits r ms left → Fits (noted (own k (DidWrite o c v)) r) (own k (DidWrite o c v) ∷ ms)
    left
write_fits (Stopped p b ns) k o c v ms left h = (h.0, (h.1.0, ap (λ x. own k (DidWrite o c v) ∷ x) h.1.1))
write_fits (Through less ns) k o c v ms left h = (h.0, ap (λ x. own k (DidWrite o c v) ∷ x) h.1)

enough : (left n : ℕ) → nat_lt (left + n) n ≡ false
enough left n = le-ltb (left + n) n (omega arith)

-- a part that ends with no fault, in front
part_in_front : (left k n : ℕ) (ps : List Part) → scan (left + n) (record { path = []; children = k; steps = n; blame = None } ∷ ps) ≡ scan left ps
part_in_front left k n ps =
    let e : left + n - n ≡ left = omega arith in
    ap (λ t. next (if t then Halted [] limit_blame else Ran (left + n - n)) (λ l. scan l ps)) (enough left n) ∙ ap (λ l. scan l ps) e

made_fits : (r : Run) (k n : ℕ) (t : Task) (ms : List Mark) (left : ℕ) → Fits r ms left → Fits r (own k (DidCreate t n) ∷ ms) (left + n)
made_fits (Stopped p b ns) k n t ms left h = (part_in_front left k n (parts ms) ∙ h.0, h.1)
made_fits (Through less ns) k n t ms left h = (part_in_front left k n (parts ms) ∙ h.0, h.1)

-- the parts of a child and of what comes after it
parts_both : (k left : ℕ) (inner rest : List Mark) → scan left (parts (map (under k) inner ++ rest)) ≡ next (scan_under k (scan left (parts inner)))
    (λ l. scan l (parts rest))
parts_both k left inner rest =
    ap (scan left) (filter_map-append _ (map (under k) inner) rest) ∙ scan_append left (parts (map (under k) inner)) (parts rest)
    ∙ ap (λ ps. next (scan left ps) (λ l. scan l (parts rest))) (parts_under k inner) ∙ ap (λ s. next s (λ l. scan l (parts rest)))
    (scan_map k left (parts inner))

accesses_both : (k : ℕ) (inner rest : List Mark) → accesses (map (under k) inner ++ rest) ≡ map (under k) (accesses inner) ++ accesses rest
accesses_both k inner rest =
    filter_map-append _ (map (under k) inner) rest ∙ ap (λ x. x ++ accesses rest) (accesses_under k inner)

both_fit : (r : Run) (k : ℕ) (inner rest : List Mark) (left less : ℕ) (ns : List Mark) → scan left (parts inner) ≡ Ran less → accesses inner ≡ ns
    → Fits r rest less → Fits (noted_all (map (under k) ns) r) (map (under k) inner ++ rest) left
both_fit (Stopped p b xs) k inner rest left less ns e f h = (
  parts_both k left inner rest ∙ ap (λ s. next (scan_under k s) (λ l. scan l (parts rest))) e
      ∙ h.0,
  (
    h.1.0,
    accesses_both k inner rest ∙ ap (λ x. map (under k) x ++ accesses rest) f ∙ ap (λ x. map (under k) ns ++ x) h.1.1
        ∙ sym (append_assoc (map (under k) ns) xs h.1.0),
  ),
)
both_fit (Through l xs) k inner rest left less ns e f h = (
  parts_both k left inner rest ∙ ap (λ s. next (scan_under k s) (λ l. scan l (parts rest))) e ∙ h.0,
  accesses_both k inner rest
      ∙ ap (λ x. map (under k) x ++ accesses rest) f ∙ ap (λ x. map (under k) ns ++ x) h.1,
)

child_fits : (r : Run) (k : ℕ) (inner rest : List Mark) (left : ℕ) (on : ℕ → List Mark → Run) → Fits r inner left
    → ((less : ℕ) (ns : List Mark) → accesses inner ≡ ns → Fits (on less ns) rest less) → Fits (then_on k r on) (map (under k) inner ++ rest) left
child_fits (Stopped p b ns) k inner rest left on h g = (
  parts_both k left inner rest ∙ ap (λ s. next (scan_under k s) (λ l. scan l (parts rest))) h.0,
  (
    map (under k) h.1.0 ++ accesses rest,
    accesses_both k inner rest ∙ ap (λ x. map (under k) x ++ accesses rest) h.1.1
        ∙ ap (λ x. x ++ accesses rest) (map-append (under k) ns h.1.0) ∙ append_assoc (map (under k) ns) (map (under k) h.1.0) (accesses rest),
  ),
)
child_fits (Through less ns) k inner rest left on h g = both_fit (on less ns) k inner rest left less ns h.0 h.1 (g less ns h.1)

-- where more steps than the limit are begun, the part ends the scan
beyond : (c : Course) (k n left : ℕ) (store : Store) → left < n → scan left (parts (serial c k n store)) ≡ Halted [] limit_blame
beyond (Reads o c on) k n left store lt = beyond (on (cell store o c)) k n left store lt
beyond (Writes o c v on) k n left store lt = beyond on k n left (with_cell store o c v) lt
beyond (Steps on) k n left store lt = beyond on k (suc n) left store (omega arith)
beyond (Creates child body on) k n left store lt =
    ap (λ t. next (if t then Halted [] limit_blame else Ran (left - n))
    (λ l. scan l (parts (map (under k) (serial body 0 0 store) ++ serial on (suc k) 0 (after (serial body 0 0 store) store))))) (lt-ltb left n lt)
beyond (Changes new on) k n left store lt = beyond on k n left store lt
beyond (Ends b) k n left store lt =
    ap (λ t. next (if t then Halted [] limit_blame else by_blame b [] (left - n)) (λ l. Ran l)) (lt-ltb left n lt)

fits : (c : Course) (k n left : ℕ) (store : Store) → Fits (stopping c k left store) (serial c k n store) (left + n)
fits (Reads o c on) k n left store = let v = cell store o c in read_fits _ k o c v _ (left + n) (fits (on v) k n left store)
fits (Writes o c v on) k n left store = write_fits _ k o c v _ (left + n) (fits on k n left (with_cell store o c v))
fits (Steps on) k n zero store =
    (beyond on k (suc n) (0 + n) store (omega arith), (accesses (serial on k (suc n) store), refl))
fits (Steps on) k n (suc left) store =
    let e : left + suc n ≡ suc left + n = omega arith in
    subst (Fits (stopping on k left store) (serial on k (suc n) store)) e (fits on k (suc n) left store)
fits (Creates child body on) k n left store =
    let inner = serial body 0 0 store in
    let t : Task = record { spec = child; course = body } in
    let first = subst (Fits (stopping body 0 left store) inner) (add-zero left) (fits body 0 0 left store) in
    let st = after inner store in
    let then_fits = λ (less : ℕ) (ns : List Mark) (e : accesses inner ≡ ns). subst (λ s. Fits (stopping on (suc k) less s) (serial on (suc k) 0 st) less)
    (sym (ap (λ x. after x store) (sym e) ∙ accesses_after inner store)) (subst (Fits (stopping on (suc k) less st) (serial on (suc k) 0 st))
    (add-zero less) (fits on (suc k) 0 less st)) in
    made_fits _ k n t _ left (child_fits (stopping body 0 left store) k inner _ left (λ less ms. stopping on (suc k) less (after ms store)) first
    (λ less ns e. then_fits less ns e))
fits (Changes new on) k n left store = fits on k n left store
fits (Ends None) k n left store = (part_in_front left k n [], refl)
fits (Ends (Some b)) k n left store =
    (ap (λ t. next (if t then Halted [] limit_blame else Halted [] b) (λ l. Ran l)) (enough left n), ([], refl))

-- the keys of the parts ascend
abbrev pub KeysAscend : List Part → Type 0
KeysAscend [] = Unit {0}
KeysAscend (p ∷ ps) = Every (λ q. is_before (key p) (key q) ≡ true) ps × KeysAscend ps

every_append : {A : Type 0} (P : A → Type 0) (xs ys : List A) → Every P xs → Every P ys → Every P (xs ++ ys)
every_append P [] ys h g = g
every_append P (x ∷ xs) ys h g = (h.0, every_append P xs ys h.1 g)

pub every_map : {A B : Type 0} (P : B → Type 0) (f : A → B) (xs : List A) → Every (λ x. P (f x)) xs → Every P (map f xs)
every_map P f [] h = tt
every_map P f (x ∷ xs) h = (h.0, every_map P f xs h.1)

pub every_with : {A : Type 0} (P Q : A → Type 0) → ((x : A) → P x → Q x) → (xs : List A) → Every P xs → Every Q xs
every_with P Q f [] h = tt
every_with P Q f (x ∷ xs) h = (f x h.0, every_with P Q f xs h.1)

every_true : {A : Type 0} (P : A → Type 0) → ((x : A) → P x) → (xs : List A) → Every P xs
every_true P f [] = tt
every_true P f (x ∷ xs) = (f x, every_true P f xs)

abbrev first_of : Path → ℕ → ℕ
first_of [] part = part
first_of (j ∷ p) part = j

abbrev LiesFrom : ℕ → Part → Type 0
LiesFrom k p = k ≤ first_of p.path p.children

parts_both_are : (k : ℕ) (inner rest : List Mark) → parts (map (under k) inner ++ rest) ≡ map (part_under k) (parts inner) ++ parts rest
parts_both_are k inner rest =
    filter_map-append _ (map (under k) inner) rest ∙ ap (λ x. x ++ parts rest) (parts_under k inner)

lie_from : (c : Course) (k n : ℕ) (store : Store) → Every (LiesFrom k) (parts (serial c k n store))
lie_from (Reads o c on) k n store = lie_from (on (cell store o c)) k n store
lie_from (Writes o c v on) k n store = lie_from on k n (with_cell store o c v)
lie_from (Steps on) k n store = lie_from on k (suc n) store
lie_from (Creates child body on) k n store =
    let inner = serial body 0 0 store in
    let rest = serial on (suc k) 0 (after inner store) in
    let later = every_with (LiesFrom (suc k)) (LiesFrom k) (λ p h. omega arith) _ (lie_from on (suc k) 0 (after inner store)) in (
      omega arith,
      subst (Every (LiesFrom k)) (sym (parts_both_are k inner rest))
          (every_append (LiesFrom k) _ _ (every_map (LiesFrom k) (part_under k) (parts inner) (every_true _ (λ p. omega arith) (parts inner))) later),
    )
lie_from (Changes new on) k n store = lie_from on k n store
lie_from (Ends b) k n store = (omega arith, tt)

same_number : (k : ℕ) → nat_eq k k ≡ true
same_number k = eq-eqb k k refl

not_less : (k : ℕ) → nat_lt k k ≡ false
not_less k = le-ltb k k (omega arith)

less_is : (i j : ℕ) → i < j → nat_cmp i j ≡ Less
less_is i j h = sym (nat_cmp_is i j Less h)

greater_is : (i j : ℕ) → j < i → nat_cmp i j ≡ Greater
greater_is i j h = sym (nat_cmp_is i j Greater h)

equal_is : (i j : ℕ) → i ≡ j → nat_cmp i j ≡ Equal
equal_is i j h = sym (nat_cmp_is i j Equal h)

before_same : (k : ℕ) (p q : Path) → is_before (k ∷ p) (k ∷ q) ≡ is_before p q
before_same k p q = ap (λ o. is_lt (ordering_then o (path_order p q))) (equal_is k k refl)

pub before_greater : (i j : ℕ) (p q : Path) → i < j → is_before (i ∷ p) (j ∷ q) ≡ true
before_greater i j p q lt = ap (λ o. is_lt (ordering_then o (path_order p q))) (less_is i j lt)

pub before_not : (i j : ℕ) (p q : Path) → j < i → is_before (i ∷ p) (j ∷ q) ≡ false
before_not i j p q lt = ap (λ o. is_lt (ordering_then o (path_order p q))) (greater_is i j lt)

before_longer : (k : ℕ) (p : Path) (part : ℕ) → is_before (k ∷ []) (k ∷ child_path p part) ≡ true
before_longer k [] part = before_same k [] (part ∷ [])
before_longer k (j ∷ p) part = before_same k [] (child_path (j ∷ p) part)

before_later : (k : ℕ) (p : Path) (q : Part) → LiesFrom (suc k) q → is_before (k ∷ p) (key q) ≡ true
before_later k p q h = go q.path h
  where
    go : (r : Path) → suc k ≤ first_of r q.children → is_before (k ∷ p) (child_path r q.children) ≡ true
    go [] h = before_greater k q.children p [] (omega arith)
    go (j ∷ r) h = before_greater k j p (child_path r q.children) (omega arith)

ascend_under : (k : ℕ) (ps : List Part) → KeysAscend ps → KeysAscend (map (part_under k) ps)
ascend_under k [] h = tt
ascend_under k (p ∷ ps) h = (
  every_map _ (part_under k) ps (every_with (λ (q : Part). is_before (key p) (key q) ≡ true) _ (λ q e. before_same k (key p) (key q) ∙ e) ps h.0),
  ascend_under k ps h.1,
)

ascend_append : (k : ℕ) (ps qs : List Part) → KeysAscend ps → KeysAscend qs → Every (λ p. Every (λ q. is_before (key p) (key q) ≡ true) qs) ps
    → KeysAscend (ps ++ qs)
ascend_append k [] qs h g b = g
ascend_append k (p ∷ ps) qs h g b = (every_append _ ps qs h.0 b.0, ascend_append k ps qs h.1 g b.1)

ascend : (c : Course) (k n : ℕ) (store : Store) → KeysAscend (parts (serial c k n store))
ascend (Reads o c on) k n store = ascend (on (cell store o c)) k n store
ascend (Writes o c v on) k n store = ascend on k n (with_cell store o c v)
ascend (Steps on) k n store = ascend on k (suc n) store
ascend (Creates child body on) k n store =
    let inner = serial body 0 0 store in
    let rest = serial on (suc k) 0 (after inner store) in
    let late = lie_from on (suc k) 0 (after inner store) in
    let inside = map (part_under k) (parts inner) in
    let own_before : Every (λ (q : Part). is_before (k ∷ []) (key q) ≡ true) (inside ++ parts rest) =
    every_append _ inside (parts rest) (every_map _ (part_under k) (parts inner) (every_true _ (λ q. before_longer k q.path q.children) (parts inner)))
    (every_with (LiesFrom (suc k)) _ (λ q h. before_later k [] q h) (parts rest) late) in
    let all_before : Every (λ (p : Part). Every (λ (q : Part). is_before (key p) (key q) ≡ true) (parts rest)) inside = every_map _ (part_under k) (parts inner)
    (every_true _ (λ p. every_with (LiesFrom (suc k)) _ (λ q h. before_later k (key p) q h) (parts rest) late) (parts inner)) in
    let both = ascend_append k inside (parts rest) (ascend_under k (parts inner) (ascend body 0 0 store)) (ascend on (suc k) 0 (after inner store))
    all_before in
    let e = parts_both_are k inner rest in
    (subst (Every (λ (q : Part). is_before (k ∷ []) (key q) ≡ true)) (sym e) own_before, subst KeysAscend (sym e) both)
ascend (Changes new on) k n store = ascend on k n store
ascend (Ends b) k n store = (tt, tt)

pub all_ascend : (p : AbstractProgram) (ns : List ℤ) (limit : ℕ) → KeysAscend (parts (serial_run p ns limit))
all_ascend p ns limit =
    let ms = serial (root_course p ns limit) 0 0 (zeros (sizes p.items)) in
    subst KeysAscend (sym (parts_under 0 ms)) (ascend_under 0 (parts ms) (ascend (root_course p ns limit) 0 0 (zeros (sizes p.items))))

-- of two paths only one stands before the other
heads : (x y : ℕ) (o r : Ordering) → is_lt (ordering_then (nat_cmp x y) o) ≡ true → (is_lt o ≡ true → is_lt r ≡ false) → is_lt (ordering_then (nat_cmp y x) r)
    ≡ false
heads x y o r h k = grind (arith, nat_tests)

not_both : (p q : Path) → is_before p q ≡ true → is_before q p ≡ false
not_both [] [] h = absurd (cc)
not_both [] (y ∷ ys) h = refl
not_both (x ∷ xs) [] h = absurd (cc)
not_both (x ∷ xs) (y ∷ ys) h = heads x y (path_order xs ys) (path_order ys xs) h (not_both xs ys)

filed_first : (p : Part) (ps : List Part) → Every (λ q. is_before (key p) (key q) ≡ true) ps → filed p ps ≡ p ∷ ps
filed_first p [] h = refl
filed_first p (q ∷ qs) h = ap (λ b. if b then q ∷ filed p qs else p ∷ (q ∷ qs)) (not_both (key p) (key q) h.0)

-- parts whose keys ascend stand by key already
stand : (ps : List Part) → KeysAscend ps → by_key ps ≡ ps
stand [] h = refl
stand (p ∷ ps) h = ap (filed p) (stand ps h.1) ∙ filed_first p ps h.0

pub parts_stand : (p : AbstractProgram) (ns : List ℤ) (limit : ℕ) → parts_by_key (serial_run p ns limit) ≡ parts (serial_run p ns limit)
parts_stand p ns limit = stand (parts (serial_run p ns limit)) (all_ascend p ns limit)

pub parts_stand_by_key : (p : AbstractProgram) (ns : List ℤ) (limit : ℕ) → PartsStandByKey p ns limit
parts_stand_by_key p ns limit = record { same = parts_stand p ns limit }

-- going through the parts gives the answer
abbrev scan_answer : Scan → Store → Answer
scan_answer (Ran left) store = Cells store
scan_answer (Halted p b) store = Faulted p b

and_parts : (a b : Bool) → (a && b) ≡ true → (a ≡ true) × (b ≡ true)
and_parts true b h = (refl, h)
and_parts false b h = absurd (cc)

pub equal_both : (i j : ℕ) (p q : Path) → i ≡ j → is_before (i ∷ p) (j ∷ q) ≡ is_before p q
equal_both i j p q e = ap (λ o. is_lt (ordering_then o (path_order p q))) (equal_is i j e)

pub not_both_ways : (p q : Path) → is_before p q ≡ true → is_before q p ≡ false
not_both_ways [] [] h = absurd (cc)
not_both_ways (i ∷ p) [] h = absurd (cc)
not_both_ways [] (j ∷ q) h = refl
not_both_ways (i ∷ p) (j ∷ q) h = go (nat_lt i j) refl (nat_eq i j) refl (λ e. not_both_ways p q e)
  where
    go : (b : Bool) → nat_lt i j ≡ b → (c : Bool) → nat_eq i j ≡ c → (is_before p q ≡ true → is_before q p ≡ false) → is_before (j ∷ q) (i ∷ p) ≡ false
    go true e c f ih = before_not j i q p (ltb-true i j e)
    go false e true f ih =
        let same : i ≡ j = eqb-true i j f in
        equal_both j i q p (sym same) ∙ ih (sym (equal_both i j p q same) ∙ h)
    go false e false f ih =
        let le : j ≤ i = ltb-false i j e in
        let ne : i ≡ j → ⊥ = λ (same : i ≡ j). (let t : nat_eq i j ≡ true = eq-eqb i j same in cc) in
        let over : is_before (i ∷ p) (j ∷ q) ≡ false = before_not i j p q (omega (arith, ne)) in
        absurd (cc)

abbrev OnPart : (Part → Type 0) → Option Part → Type 0
OnPart P None = Unit {0}
OnPart P (Some p) = P p

on_elim : (P : Part → Type 0) (b : Option Blame) (o : Option Part) (p : Part) → P p → OnPart P o → OnPart P (elim b [ None ↦ o | Some c ↦ Some p ])
on_elim P None o p h g = g
on_elim P (Some c) o p h g = h

every_first : (P : Part → Type 0) (ps : List Part) → Every P ps → OnPart P (first_fault ps)
every_first P [] h = tt
every_first P (p ∷ ps) h = on_elim P p.blame (first_fault ps) p h.0 (every_first P ps h.1)

on_if : (P : Part → Type 0) (b : Bool) (o : Option Part) (p : Part) → P p → OnPart P o → OnPart P (if b then Some p else o)
on_if P true o p h g = h
on_if P false o p h g = g

every_place : (P : Part → Type 0) (left : ℕ) (ps : List Part) → Every P ps → OnPart P (limit_place left ps)
every_place P left [] h = tt
every_place P left (p ∷ ps) h =
    on_if P (nat_lt left p.steps) (limit_place (left - p.steps) ps) p h.0 (every_place P (left - p.steps) ps h.1)

limit_wins : (p : Part) (o : Option Part) (store : Store) → OnPart (λ f. is_before (key p) (key f) ≡ true) o → Faulted p.path limit_blame ≡ decided o
    (Some p) store
limit_wins p None store h = refl
limit_wins p (Some f) store h =
    sym (ap (λ b. if b then Faulted f.path (blame_of f.blame) else Faulted p.path limit_blame) (not_both_ways (key p) (key f) h))

fault_wins : (p : Part) (o : Option Part) (store : Store) → OnPart (λ f. is_before (key p) (key f) ≡ true) o → Faulted p.path (blame_of p.blame) ≡ decided
    (Some p) o store
fault_wins p None store h = refl
fault_wins p (Some l) store h =
    sym (ap (λ b. if b then Faulted p.path (blame_of p.blame) else Faulted l.path limit_blame) h)

irreflexive : (p : Path) → is_before p p ≡ false
irreflexive [] = refl
irreflexive (i ∷ p) = before_same i p p ∙ irreflexive p

limit_wins_own : (p : Part) (store : Store) → Faulted p.path limit_blame ≡ decided (Some p) (Some p) store
limit_wins_own p store =
    sym (ap (λ b. if b then Faulted p.path (blame_of p.blame) else Faulted p.path limit_blame) (irreflexive (key p)))

scan_decides : (left : ℕ) (ps : List Part) (store : Store) → KeysAscend ps → scan_answer (scan left ps) store ≡ decided (first_fault ps)
    (limit_place left ps) store
scan_decides left [] store h = refl
scan_decides left (p ∷ ps) store h =
    go (nat_lt left p.steps) p.blame refl (scan_decides (left - p.steps) ps store h.1)
  where
    go : (t : Bool) (b : Option Blame) → p.blame ≡ b → scan_answer (scan (left - p.steps) ps) store ≡ decided (first_fault ps) (limit_place (left - p.steps) ps)
        store → scan_answer (next (if t then Halted p.path limit_blame else by_blame b p.path (left - p.steps)) (λ less. scan less ps)) store ≡ decided
        (elim b [ None ↦ first_fault ps | Some c ↦ Some p ]) (if t then Some p else limit_place (left - p.steps) ps) store
    go true None e ih = limit_wins p (first_fault ps) store (every_first _ ps h.0)
    go true (Some b) e ih = limit_wins_own p store
    go false None e ih = ih
    go false (Some b) e ih =
        ap (λ x. Faulted p.path (blame_of x)) (sym e) ∙ fault_wins p (limit_place (left - p.steps) ps) store (every_place _ (left - p.steps) ps h.0)

-- the whole program
abbrev at_root : Run → Run
at_root r = then_on 0 r (λ left ns. Through left [])

scan_root : (ms : List Mark) (limit : ℕ) (s : Scan) → scan limit (parts ms) ≡ s → scan limit (parts (map (under 0) ms)) ≡ scan_under 0 s
scan_root ms limit s e =
    ap (scan limit) (parts_under 0 ms) ∙ scan_map 0 limit (parts ms) ∙ ap (scan_under 0) e

root_scan : (r : Run) (ms : List Mark) (limit : ℕ) (store : Store) → Fits r ms limit → run_answer (at_root r) store ≡ scan_answer
    (scan limit (parts (map (under 0) ms))) (after (map (under 0) ms) store)
root_scan (Stopped p b ns) ms limit store h =
    sym (ap (λ s. scan_answer s (after (map (under 0) ms) store)) (scan_root ms limit (Halted p b) h.0))
root_scan (Through less ns) ms limit store h =
    ap (λ x. Cells (after x store)) (append-nil (map (under 0) ns) ∙ ap (map (under 0)) (sym h.1) ∙ sym (accesses_under 0 ms))
    ∙ ap Cells (accesses_after (map (under 0) ms) store)
    ∙ sym (ap (λ s. scan_answer s (after (map (under 0) ms) store)) (scan_root ms limit (Ran less) h.0))

root_first : (r : Run) (ms : List Mark) (limit : ℕ) → Fits r ms limit → (rest : List Mark) × (accesses (map (under 0) ms) ≡ run_marks (at_root r) ++ rest)
root_first (Stopped p b ns) ms limit h =
    (map (under 0) h.1.0, accesses_under 0 ms ∙ ap (map (under 0)) h.1.1 ∙ map-append (under 0) ns h.1.0)
root_first (Through less ns) ms limit h =
    ([], accesses_under 0 ms ∙ ap (map (under 0)) h.1 ∙ sym (append-nil _ ∙ append-nil _))

-- the run that stops has the answer of the plain run
pub stops_plainly : (p : AbstractProgram) (ns : List ℤ) (limit : ℕ) → run_answer (stopping_run p ns limit) (zeros (sizes p.items))
    ≡ decided (first_fault (parts_by_key (serial_run p ns limit))) (limit_place limit (parts_by_key (serial_run p ns limit)))
    (after (serial_run p ns limit) (zeros (sizes p.items)))
stops_plainly p ns limit =
    let c = root_course p ns limit in
    let store = zeros (sizes p.items) in
    let ms = serial c 0 0 store in
    let r = stopping c 0 limit store in
    let f = subst (Fits r ms) (add-zero limit) (fits c 0 0 limit store) in
    root_scan r ms limit store f
    ∙ scan_decides limit (parts (map (under 0) ms)) (after (map (under 0) ms) store) (all_ascend p ns limit)
    ∙ ap (λ ps. decided (first_fault ps) (limit_place limit ps) (after (map (under 0) ms) store)) (sym (parts_stand p ns limit))

pub stopping_agrees : (p : AbstractProgram) (ns : List ℤ) (limit : ℕ) (turns : ℕ → List Path) → NoneCommutes p ns limit turns → StoppingAgrees p ns limit turns
stopping_agrees p ns limit turns none =
    let c = root_course p ns limit in
    let store = zeros (sizes p.items) in
    let ms = serial c 0 0 store in
    let r = stopping c 0 limit store in
    let f = subst (Fits r ms) (add-zero limit) (fits c 0 0 limit store) in
    let plain = (runs_plainly p ns limit turns none).marks in
    let told = λ (ps : List Mark). decided (first_fault (parts_by_key ps)) (limit_place limit (parts_by_key ps)) (after ps store) in
    let first = root_first r ms limit f in
    record {
      same = stops_plainly p ns limit ∙ ap told (sym plain);
      first = (first.0, ap accesses plain ∙ first.1);
    }

-- What a course notes is what the marks of its run tell, each commuting task at once.
use Rattle.std.proofs.Common.{◌≡◌, ◌≢◌, ℕ, zero, suc, ◌+◌, ◌<◌, true, false, List, [], ◌∷◌, ◌++◌, map, refl, ap, sym, ◌∙◌, subst, Option, Some, None, append-nil}
use Rattle.std.proofs.Common.{append_assoc, length, replicate, arith, add-zero, ◌⊎◌, inl, inr, get_or-set_same, get_or-set_other}
use Rattle.std.specs.Prelude.{ℤ, nat_eq, slice_index_or, if◌then◌else◌}
use Rattle.std.specs.List.{filter_map, cons_option}
use Rattle.std.proofs.lemmas.List.{map-append, length-set, length-replicate}
use Rattle.std.proofs.lemmas.List.Elements.{filter_map-append}
use Rattle.std.proofs.lemmas.Bool.Decides.{eqb_tells}
use Rattle.jade_base.specs.declared.report.Blame.{Blame}
use Rattle.jade_base.specs.declared.report.FaultNote.{FaultNote}
use Rattle.jade_base.specs.declared.report.PartStep.{PartStep}
use Rattle.jade_syntax.specs.Abstract.{AbstractProgram}
use Rattle.jade_syntax.specs.Objects.{sizes}
use Rattle.jade_meaning.specs.declared.run_state.RunState.{RunState}
use Rattle.jade_meaning.specs.Specification.{numbers, commuting_on}
use Rattle.jade_meaning.specs.Course.{Course, Reads, Writes, Steps, Creates, Changes, Ends, root_course}
use Rattle.jade_meaning.specs.Talk.{Task}
use Rattle.jade_meaning.specs.Serial.{Path, Store, Mark, Deed, DidTurn, DidRead, DidWrite, DidCreate, DidEnd, serial, under, after, done_to, cell, with_cell, parts, part_of_deed}
use Rattle.jade_meaning.specs.Serial.{zeros, Part, serial_run}
use Rattle.jade_meaning.specs.Turns.{below, at_path, turns_on, turn_of, in_order}
use Rattle.jade_meaning.specs.Report.{fault_notes, fault_of, step_of, report, turn_lists}
use Rattle.jade_meaning.specs.Answer.{parts_by_key, by_key}
use Rattle.jade_meaning.specs.AtOnce.{turn_first, at_once, run_at_once}
use Rattle.jade_meaning.specs.steps.Carry.{carried, noted, put, turn_added, turn_noted, report_of, nothing_yet}
use Rattle.jade_meaning.proofs.Alone.{after_both}
use Rattle.jade_meaning.proofs.Stops.{parts_stand}
use Rattle.jade_meaning.proofs.Immediate.{reports_at_once}

-- the notes of marks in the order of the marks
abbrev noted_faults : List Mark → List FaultNote
noted_faults ms = fault_notes (parts ms)

abbrev noted_steps : List Mark → List PartStep
noted_steps ms = map step_of (parts ms)

-- the lists of turns after marks
abbrev turn_told : Deed → Path → List (List Path) → List (List Path)
turn_told (DidTurn o) p lists = turn_added o p lists
turn_told (DidRead o c v) p lists = lists
turn_told (DidWrite o c v) p lists = lists
turn_told (DidCreate t n) p lists = lists
turn_told (DidEnd b n) p lists = lists

abbrev turns_told : List Mark → List (List Path) → List (List Path)
turns_told [] lists = lists
turns_told (m ∷ ms) lists = turns_told ms (turn_told m.deed m.path lists)

-- the state after these marks
abbrev recorded : List Mark → RunState → RunState
recorded ms l = record {
  objects = after ms l.objects;
  faults = l.faults ++ noted_faults ms;
  turns = turns_told ms l.turns;
  steps = l.steps ++ noted_steps ms;
}

turns_told_both : (ms ns : List Mark) (lists : List (List Path)) → turns_told (ms ++ ns) lists ≡ turns_told ns (turns_told ms lists)
turns_told_both [] ns lists = refl
turns_told_both (m ∷ ms) ns lists = turns_told_both ms ns (turn_told m.deed m.path lists)

faults_both : (ms ns : List Mark) → noted_faults (ms ++ ns) ≡ noted_faults ms ++ noted_faults ns
faults_both ms ns =
    ap (filter_map (λ p. fault_of p.blame p)) (filter_map-append _ ms ns) ∙ filter_map-append _ (parts ms) (parts ns)

steps_both : (ms ns : List Mark) → noted_steps (ms ++ ns) ≡ noted_steps ms ++ noted_steps ns
steps_both ms ns = ap (map step_of) (filter_map-append _ ms ns) ∙ map-append step_of (parts ms) (parts ns)

same_state : (a b : RunState) → a.objects ≡ b.objects → a.faults ≡ b.faults → a.turns ≡ b.turns → a.steps ≡ b.steps → a ≡ b
same_state a b e f t g =
    ap (λ x. record { objects = x; faults = a.faults; turns = a.turns; steps = a.steps }) e
    ∙ ap (λ x. record { objects = b.objects; faults = x; turns = a.turns; steps = a.steps }) f
    ∙ ap (λ x. record { objects = b.objects; faults = b.faults; turns = x; steps = a.steps }) t
    ∙ ap (λ x. record { objects = b.objects; faults = b.faults; turns = b.turns; steps = x }) g

recorded_both : (ms ns : List Mark) (l : RunState) → recorded ns (recorded ms l) ≡ recorded (ms ++ ns) l
recorded_both ms ns l =
    same_state (recorded ns (recorded ms l)) (recorded (ms ++ ns) l) (sym (after_both ms ns l.objects))
    (append_assoc l.faults (noted_faults ms) (noted_faults ns) ∙ ap (λ x. l.faults ++ x) (sym (faults_both ms ns)))
    (sym (turns_told_both ms ns l.turns))
    (append_assoc l.steps (noted_steps ms) (noted_steps ns) ∙ ap (λ x. l.steps ++ x) (sym (steps_both ms ns)))

ended : (q : Path) (b : Option Blame) (k n : ℕ) (l : RunState) → noted q k n b l ≡ recorded (at_path q k (DidEnd b n) ∷ []) l
ended q None k n l = refl
ended q (Some b) k n l = refl

quiet : (m : Mark) (l : RunState) → part_of_deed m.deed m ≡ None → turn_told m.deed m.path l.turns ≡ l.turns → recorded (m ∷ []) l
    ≡ record l { objects = after (m ∷ []) l.objects }
quiet m l e t =
    same_state (recorded (m ∷ []) l) (record l { objects = after (m ∷ []) l.objects }) refl
    (ap (λ x. l.faults ++ fault_notes (cons_option x [])) e ∙ append-nil l.faults) t
    (ap (λ x. l.steps ++ map step_of (cons_option x [])) e ∙ append-nil l.steps)

created : (p : Path) (k n : ℕ) (t : Task) (l : RunState) → noted p k n None l ≡ recorded (at_path p k (DidCreate t n) ∷ []) l
created p k n t l = refl

turn_is : (x : Option ℕ) (q : Path) (l : RunState) → turn_noted x q l ≡ recorded (turn_first x q) l
turn_is None q l = same_state l (recorded [] l) refl (sym (append-nil l.faults)) refl (sym (append-nil l.steps))
turn_is (Some o) q l =
    same_state (turn_noted (Some o) q l) (recorded (turn_first (Some o) q) l) refl (sym (append-nil l.faults)) refl (sym (append-nil l.steps))

first_after : (x : Option ℕ) (q : Path) (s : Store) → after (turn_first x q) s ≡ s
first_after None q s = refl
first_after (Some o) q s = refl

pub carried_is : (p : Path) (c : Course) (k n : ℕ) (l : RunState) → carried p c k n l ≡ recorded (at_once p c k n l.objects) l
carried_is p (Reads o c on) k n l =
    let m = at_path p k (DidRead o c (cell l.objects o c)) in
    carried_is p (on (cell l.objects o c)) k n l
    ∙ ap (recorded (at_once p (on (cell l.objects o c)) k n l.objects)) (sym (quiet m l refl refl))
    ∙ recorded_both (m ∷ []) (at_once p (on (cell l.objects o c)) k n l.objects) l
carried_is p (Writes o c v on) k n l =
    let m = at_path p k (DidWrite o c v) in
    carried_is p on k n (put o c v l) ∙ ap (recorded (at_once p on k n (with_cell l.objects o c v))) (sym (quiet m l refl refl))
    ∙ recorded_both (m ∷ []) (at_once p on k n (with_cell l.objects o c v)) l
carried_is p (Steps on) k n l = carried_is p on k (suc n) l
carried_is p (Creates child body on) k n l =
    let q = p ++ k ∷ [] in
    let m = at_path p k (DidCreate (record { spec = child; course = body }) n) in
    let turn = turn_first (commuting_on child) q in
    let start = recorded (m ∷ []) l in
    let inner = at_once q body 0 0 l.objects in
    let e : turn_noted (commuting_on child) q (noted p k n None l) ≡ recorded turn start = turn_is (commuting_on child) q (noted p k n None l) in
    let there : carried q body 0 0 (recorded turn start) ≡ recorded (turn ++ inner) start = carried_is q body 0 0 (recorded turn start)
    ∙ ap (λ s. recorded (at_once q body 0 0 s) (recorded turn start)) (first_after (commuting_on child) q l.objects) ∙ recorded_both turn inner start in
    let now : carried q body 0 0 (turn_noted (commuting_on child) q (noted p k n None l)) ≡ recorded (turn ++ inner) start = ap (carried q body 0 0) e ∙ there in
    let rest = at_once p on (suc k) 0 (after (turn ++ inner) l.objects) in
    ap (carried p on (suc k) 0) now ∙ carried_is p on (suc k) 0 (recorded (turn ++ inner) start) ∙ recorded_both (turn ++ inner) rest start
    ∙ recorded_both (m ∷ []) ((turn ++ inner) ++ rest) l
carried_is p (Changes new on) k n l = carried_is p on k n l
carried_is p (Ends b) k n l = ended p b k n l

-- told at once or not, the parts and the contents are those of the plain serial run
pub once_parts : (p : Path) (c : Course) (k n : ℕ) (s : Store) → (parts (at_once p c k n s) ≡ parts (map (below p) (serial c k n s)))
    × ((t : Store) → after (at_once p c k n s) t ≡ after (serial c k n s) t)
once_parts p (Reads o c on) k n s = once_parts p (on (cell s o c)) k n s
once_parts p (Writes o c v on) k n s =
    let h = once_parts p on k n (with_cell s o c v) in (h.0, λ t. h.1 (with_cell t o c v))
once_parts p (Steps on) k n s = once_parts p on k (suc n) s
once_parts p (Changes new on) k n s = once_parts p on k n s
once_parts p (Ends b) k n s = (ap (λ q. parts (at_path q k (DidEnd b n) ∷ [])) (sym (append-nil p)), λ t. refl)
once_parts p (Creates child body on) k n s =
    let q = p ++ k ∷ [] in
    let turn = turn_first (commuting_on child) q in
    let inner = serial body 0 0 s in
    let h = once_parts q body 0 0 s in
    let told = at_once q body 0 0 s in
    let same = λ (t : Store). after_both turn told t ∙ ap (after told) (first_after (commuting_on child) q t) ∙ h.1 t in
    let g = once_parts p on (suc k) 0 (after inner s) in
    let rest = at_once p on (suc k) 0 (after (turn ++ told) s) in
    let later : rest ≡ at_once p on (suc k) 0 (after inner s) = ap (at_once p on (suc k) 0) (same s) in
    let marks : map (below p) (map (under k) inner ++ serial on (suc k) 0 (after inner s)) ≡ map (below q) inner ++ map (below p) (serial on (suc k) 0 (after inner s))
    = map-append (below p) (map (under k) inner) (serial on (suc k) 0 (after inner s)) ∙ ap (λ l. l ++ map (below p) (serial on (suc k) 0 (after inner s))) (deeper p k inner) in
    let made : Path → Part = λ x. record { path = x; children = k; steps = n; blame = None } in (
      ap (λ l. made p ∷ l) (parts_both (turn ++ told) rest
          ∙ ap (λ l. l ++ parts rest) (parts_both turn told ∙ ap (λ l. l ++ parts told) (no_parts (commuting_on child) q) ∙ h.0)
          ∙ ap (λ l. parts (map (below q) inner) ++ l) (ap parts later ∙ g.0) ∙ sym (parts_both (map (below q) inner) (map (below p) (serial on (suc k) 0 (after inner s))))
          ∙ sym (ap parts marks)) ∙ ap (λ x. made x ∷ parts (map (below p) (map (under k) inner ++ serial on (suc k) 0 (after inner s)))) (sym (append-nil p)),
      λ t. after_both (turn ++ told) rest t ∙ ap (after rest) (same t) ∙ ap (λ l. after l (after inner t)) later ∙ g.1 (after inner t)
          ∙ sym (after_both (map (under k) inner) (serial on (suc k) 0 (after inner s)) t ∙ ap (after (serial on (suc k) 0 (after inner s))) (after_under k inner t)),
    )
  where
    parts_both : (a b : List Mark) → parts (a ++ b) ≡ parts a ++ parts b
    parts_both a b = filter_map-append _ a b

    no_parts : (x : Option ℕ) (q : Path) → parts (turn_first x q) ≡ []
    no_parts None q = refl
    no_parts (Some o) q = refl

    deeper : (p : Path) (k : ℕ) (ms : List Mark) → map (below p) (map (under k) ms) ≡ map (below (p ++ k ∷ [])) ms
    deeper p k [] = refl
    deeper p k (m ∷ ms) =
        ap (λ x. record { path = x; children = m.children; deed = m.deed } ∷ map (below p) (map (under k) ms)) (sym (append_assoc p (k ∷ []) m.path))
        ∙ ap (λ x. below (p ++ k ∷ []) m ∷ x) (deeper p k ms)

    after_under : (k : ℕ) (ms : List Mark) (store : Store) → after (map (under k) ms) store ≡ after ms store
    after_under k [] store = refl
    after_under k (m ∷ ms) store = after_under k ms (done_to m.deed store)

-- the lists of turns, object by object
told_length : (ms : List Mark) (lists : List (List Path)) → length (turns_told ms lists) ≡ length lists
told_length [] lists = refl
told_length (m ∷ ms) lists = told_length ms (turn_told m.deed m.path lists) ∙ one m.deed
  where
    one : (d : Deed) → length (turn_told d m.path lists) ≡ length lists
    one (DidTurn o) = length-set lists o _
    one (DidRead o c v) = refl
    one (DidWrite o c v) = refl
    one (DidCreate t n) = refl
    one (DidEnd b n) = refl

told_on : (ms : List Mark) (lists : List (List Path)) (x : ℕ) → x < length lists → slice_index_or (turns_told ms lists) x [] ≡ slice_index_or lists x [] ++ turns_on x ms
told_on [] lists x lt = sym (append-nil (slice_index_or lists x []))
told_on (m ∷ ms) lists x lt = go m.deed (λ ls e. told_on ms ls x (subst (λ n. x < n) (sym e) lt))
  where
    go : (d : Deed) → ((ls : List (List Path)) → length ls ≡ length lists → slice_index_or (turns_told ms ls) x [] ≡ slice_index_or ls x [] ++ turns_on x ms)
        → slice_index_or (turns_told ms (turn_told d m.path lists)) x [] ≡ slice_index_or lists x [] ++ cons_option (turn_of x d m.path) (turns_on x ms)
    go (DidRead o c v) h = h lists refl
    go (DidWrite o c v) h = h lists refl
    go (DidCreate t n) h = h lists refl
    go (DidEnd b n) h = h lists refl
    go (DidTurn o) h = h (turn_added o m.path lists) (length-set lists o _) ∙ here (eqb_tells o x)
      where
        here : ((nat_eq o x ≡ true) × (o ≡ x)) ⊎ ((nat_eq o x ≡ false) × (o ≢ x)) → slice_index_or (turn_added o m.path lists) x [] ++ turns_on x ms
            ≡ slice_index_or lists x [] ++ cons_option (if nat_eq o x then Some m.path else None) (turns_on x ms)
        here (inl e) =
            ap (λ y. slice_index_or (turn_added y m.path lists) x [] ++ turns_on x ms) e.1
            ∙ ap (λ l. l ++ turns_on x ms) (get_or-set_same lists x (slice_index_or lists x [] ++ m.path ∷ []) [] lt)
            ∙ append_assoc (slice_index_or lists x []) (m.path ∷ []) (turns_on x ms)
            ∙ sym (ap (λ b. slice_index_or lists x [] ++ cons_option (if b then Some m.path else None) (turns_on x ms)) e.0)
        here (inr e) =
            ap (λ l. l ++ turns_on x ms) (get_or-set_other lists o x _ [] (λ i. e.1 (sym i)))
            ∙ sym (ap (λ b. slice_index_or lists x [] ++ cons_option (if b then Some m.path else None) (turns_on x ms)) e.0)

abbrev no_turns : ℕ → List (List Path)
no_turns n = replicate n []

empty_on : (n x : ℕ) → slice_index_or (no_turns n) x [] ≡ []
empty_on zero x = refl
empty_on (suc n) zero = refl
empty_on (suc n) (suc x) = empty_on n x

by_number : (lists : List (List Path)) (i : ℕ) (f : ℕ → List Path) → ((x : ℕ) → x < length lists → slice_index_or lists x [] ≡ f (i + x)) → lists
    ≡ map f (numbers i (length lists))
by_number [] i f h = refl
by_number (l ∷ lists) i f h =
    ap (λ x. x ∷ lists) (h 0 (omega arith) ∙ ap f (add-zero i))
    ∙ ap (λ ls. f i ∷ ls) (by_number lists (suc i) f (λ x lt. let e : i + suc x ≡ suc i + x = omega arith in h (suc x) (omega arith) ∙ ap f e))

lists_are : (n : ℕ) (ms : List Mark) → turns_told ms (no_turns n) ≡ turn_lists n ms
lists_are n ms =
    let start = no_turns n in
    let lists = turns_told ms start in
    let e : length lists ≡ n = told_length ms start ∙ length-replicate n [] in
    by_number lists 0 (λ o. turns_on o ms) (λ x lt. let z : x ≡ 0 + x = omega arith in
    told_on ms start x (subst (λ k. x < k) (told_length ms start) lt) ∙ ap (λ l. l ++ turns_on x ms) (empty_on n x) ∙ ap (λ o. turns_on o ms) z)
    ∙ ap (λ k. map (λ o. turns_on o ms) (numbers 0 k)) e

-- the report of the whole program
pub reports : (p : AbstractProgram) (ns : List ℤ) (limit : ℕ) (last : RunState) → last ≡ carried (0 ∷ []) (root_course p ns limit) 0 0 (nothing_yet (sizes p.items))
    → report_of last ≡ report p ns limit in_order
reports p ns limit last h =
    let c = root_course p ns limit in
    let store = zeros (sizes p.items) in
    let ms = run_at_once p ns limit in
    let plain : parts ms ≡ parts (serial_run p ns limit) = (once_parts (0 ∷ []) c 0 0 store).0 in
    let sorted : parts ms ≡ parts_by_key ms = plain ∙ sym (parts_stand p ns limit) ∙ ap by_key (sym plain) in
    ap report_of (h ∙ carried_is (0 ∷ []) c 0 0 (nothing_yet (sizes p.items)))
    ∙ ap (λ l. record { objects = after ms store; faults = fault_notes (parts ms); turns = l; steps = map step_of (parts ms) }) (lists_are (length (sizes p.items)) ms)
    ∙ ap (λ ps. record { objects = after ms store; faults = fault_notes ps; turns = turn_lists (length (sizes p.items)) ms; steps = map step_of ps }) sorted
    ∙ sym (reports_at_once p ns limit).same

-- What is told of a run by its notes, in whatever order they stand.
use Rattle.std.proofs.Common.{◌≡◌, ◌⊎◌, inl, inr, ℕ, ◌+◌, ◌-◌, ◌<◌, ◌≤◌, Bool, true, false, ◌&&◌, List, [], ◌∷◌, ◌++◌, map, refl, sym, ap, ◌∙◌, subst, arith}
use Rattle.std.proofs.Common.{Option, Some, None}
use Rattle.std.specs.Prelude.{ℤ, is_some, nat_lt, if◌then◌else◌}
use Rattle.std.specs.List.{filter_map, cons_option, list_all}
use Rattle.std.specs.Option.{is_none}
use Rattle.std.proofs.lemmas.Bool.{true≢false, ltb-true, ltb-false}
use Rattle.jade_base.specs.Places.{is_before, key}
use Rattle.jade_base.specs.declared.report.Blame.{Blame}
use Rattle.jade_base.specs.declared.report.FaultNote.{FaultNote}
use Rattle.jade_base.specs.declared.report.PartStep.{PartStep}
use Rattle.jade_meaning.specs.Answer.{Cells, Faulted}
use Rattle.jade_meaning.specs.Course.{limit_blame}
use Rattle.jade_meaning.specs.ReportAnswer.{report_answer, answer_by, first_note, step_over}
use Rattle.jade_meaning.specs.Serial.{Store}
use Rattle.task_roll.specs.declared.note.PartNote.{PartNote}
use Rattle.task_roll.specs.Rolls.{note_key, filed, filed_into, by_key}
use Rattle.schedule_core.specs.Notes.{step_note, fault_note, blamed}
use Rattle.schedule_core.specs.Reports.{told_of}
use Rattle.object_table.specs.Calls.{IsFault}
use Rattle.part_notes.specs.Families.{left_after}

-- the steps of these parts
abbrev steps_in : List PartNote → ℕ
steps_in [] = 0
steps_in (n ∷ ns) = n.steps + steps_in ns

-- whether none of these parts ended with a fault
abbrev are_well : List PartNote → Bool
are_well ns = list_all (λ n. is_none n.blame) ns

-- what is left tells whether all is well, and how many steps there are
pub some_left : (l k : ℕ) (ns : List PartNote) → left_after l ns ≡ Some k → (are_well ns ≡ true) × (steps_in ns ≤ l)
some_left l k [] e = (refl, omega arith)
some_left l k (n ∷ ns) e = go n.blame (nat_lt l n.steps) refl (some_left (l - n.steps) k ns) e
  where
    go : (b : Option Blame) (t : Bool) → nat_lt l n.steps ≡ t → (left_after (l - n.steps) ns ≡ Some k → (are_well ns ≡ true) × (steps_in ns ≤ l - n.steps))
        → (if is_some b then None else if t then None else left_after (l - n.steps) ns) ≡ Some k
        → ((is_none b && are_well ns) ≡ true) × (n.steps + steps_in ns ≤ l)
    go (Some b) t le f e = absurd (cc)
    go None true le f e = absurd (cc)
    go None false le f e = let r = f e in let s = r.1 in let t = ltb-false l n.steps le in (r.0, omega (arith, t, s))

pub none_left : (l : ℕ) (ns : List PartNote) → left_after l ns ≡ None → (are_well ns ≡ false) ⊎ (l < steps_in ns)
none_left l [] e = absurd (cc)
none_left l (n ∷ ns) e = go n.blame (nat_lt l n.steps) refl (none_left (l - n.steps) ns) e
  where
    more : nat_lt l n.steps ≡ false → (are_well ns ≡ false) ⊎ (l - n.steps < steps_in ns) → (are_well ns ≡ false) ⊎ (l < n.steps + steps_in ns)
    more le (inl w) = inl w
    more le (inr lt) = inr (omega (arith, ltb-false l n.steps le, lt))

    go : (b : Option Blame) (t : Bool) → nat_lt l n.steps ≡ t → (left_after (l - n.steps) ns ≡ None → (are_well ns ≡ false) ⊎ (l - n.steps < steps_in ns))
        → (if is_some b then None else if t then None else left_after (l - n.steps) ns) ≡ None
        → ((is_none b && are_well ns) ≡ false) ⊎ (l < n.steps + steps_in ns)
    go (Some b) t le f e = inl refl
    go None true le f e = inr (omega (arith, ltb-true l n.steps le))
    go None false le f e = more le (f e)

-- they are the same in the order of keys
well_filed : (n : PartNote) (ms : List PartNote) → are_well (filed n ms) ≡ (is_none n.blame && are_well ms)
well_filed n [] = refl
well_filed n (m ∷ ms) = go (is_before (note_key n) (note_key m)) (well_filed n ms)
  where
    swap : (a b c : Bool) → (a && (b && c)) ≡ (b && (a && c))
    swap true b c = refl
    swap false true c = refl
    swap false false c = refl

    go : (t : Bool) → are_well (filed n ms) ≡ (is_none n.blame && are_well ms)
        → are_well (if t then n ∷ (m ∷ ms) else m ∷ filed n ms) ≡ (is_none n.blame && (is_none m.blame && are_well ms))
    go true f = refl
    go false f = ap (λ b. is_none m.blame && b) f ∙ swap (is_none m.blame) (is_none n.blame) (are_well ms)

well_into : (ns ms : List PartNote) → are_well (filed_into ns ms) ≡ (are_well ns && are_well ms)
well_into [] ms = refl
well_into (n ∷ ns) ms = well_into ns (filed n ms) ∙ ap (λ b. are_well ns && b) (well_filed n ms) ∙ swap (are_well ns) (is_none n.blame) (are_well ms)
  where
    swap : (a b c : Bool) → (a && (b && c)) ≡ ((b && a) && c)
    swap true true c = refl
    swap true false c = refl
    swap false true c = refl
    swap false false c = refl

steps_filed : (n : PartNote) (ms : List PartNote) → steps_in (filed n ms) ≡ n.steps + steps_in ms
steps_filed n [] = refl
steps_filed n (m ∷ ms) = go (is_before (note_key n) (note_key m)) (steps_filed n ms)
  where
    go : (t : Bool) → steps_in (filed n ms) ≡ n.steps + steps_in ms
        → steps_in (if t then n ∷ (m ∷ ms) else m ∷ filed n ms) ≡ n.steps + (m.steps + steps_in ms)
    go true f = refl
    go false f = omega (arith, f)

steps_into : (ns ms : List PartNote) → steps_in (filed_into ns ms) ≡ steps_in ns + steps_in ms
steps_into [] ms = omega arith
steps_into (n ∷ ns) ms = let f = steps_into ns (filed n ms) in let g = steps_filed n ms in omega (arith, f, g)

and_true : (b : Bool) → (b && true) ≡ b
and_true true = refl
and_true false = refl

well_by_key : (ns : List PartNote) → are_well (by_key ns) ≡ are_well ns
well_by_key ns = well_into ns [] ∙ and_true (are_well ns)

steps_by_key : (ns : List PartNote) → steps_in (by_key ns) ≡ steps_in ns
steps_by_key ns = let f = steps_into ns [] in omega (arith, f)

-- what the first fault and the place of the limit are, of notes in any order
no_fault : (ns : List PartNote) → are_well ns ≡ true → first_note (filter_map fault_note ns) ≡ None
no_fault [] e = refl
no_fault (n ∷ ns) e = go n.blame (no_fault ns) e
  where
    go : (b : Option Blame) → (are_well ns ≡ true → first_note (filter_map fault_note ns) ≡ None) → (is_none b && are_well ns) ≡ true
        → first_note (cons_option (blamed b n) (filter_map fault_note ns)) ≡ None
    go (Some b) f e = absurd (true≢false (sym e))
    go None f e = f e

some_fault : (ns : List PartNote) → are_well ns ≡ false → (f : FaultNote) × (first_note (filter_map fault_note ns) ≡ Some f)
some_fault [] e = absurd (true≢false e)
some_fault (n ∷ ns) e = go n.blame (some_fault ns) e
  where
    go : (b : Option Blame) → (are_well ns ≡ false → (f : FaultNote) × (first_note (filter_map fault_note ns) ≡ Some f)) → (is_none b && are_well ns) ≡ false
        → (f : FaultNote) × (first_note (cons_option (blamed b n) (filter_map fault_note ns)) ≡ Some f)
    go (Some b) f e = (record { path = n.path; children = n.children; blame = b }, refl)
    go None f e = f e

not_over : (l : ℕ) (ns : List PartNote) → steps_in ns ≤ l → step_over l (map step_note ns) ≡ None
not_over l [] le = refl
not_over l (n ∷ ns) le = go (nat_lt l n.steps) refl (not_over (l - n.steps) ns)
  where
    go : (t : Bool) → nat_lt l n.steps ≡ t → (steps_in ns ≤ l - n.steps → step_over (l - n.steps) (map step_note ns) ≡ None)
        → (if t then Some (step_note n) else step_over (l - n.steps) (map step_note ns)) ≡ None
    go true e f = absurd (omega (arith, le, ltb-true l n.steps e))
    go false e f = f (omega (arith, le, ltb-false l n.steps e))

is_over : (l : ℕ) (ns : List PartNote) → l < steps_in ns → (s : PartStep) × (step_over l (map step_note ns) ≡ Some s)
is_over l [] lt = absurd (omega (arith, lt))
is_over l (n ∷ ns) lt = go (nat_lt l n.steps) refl (is_over (l - n.steps) ns)
  where
    go : (t : Bool) → nat_lt l n.steps ≡ t → (l - n.steps < steps_in ns → (s : PartStep) × (step_over (l - n.steps) (map step_note ns) ≡ Some s))
        → (s : PartStep) × ((if t then Some (step_note n) else step_over (l - n.steps) (map step_note ns)) ≡ Some s)
    go true e f = (step_note n, refl)
    go false e f = f (omega (arith, lt, ltb-false l n.steps e))

-- the answer is a fault where there is a first fault, or a place of the limit
by_fault : (a : Option FaultNote) (b : Option PartStep) (store : Store) (f : FaultNote) → a ≡ Some f → IsFault (answer_by a b store)
by_fault a b store f e = subst (λ x. IsFault (answer_by x b store)) (sym e) (go b)
  where
    choose : (t : Bool) (s : PartStep) → IsFault (if t then Faulted f.path f.blame else Faulted s.path limit_blame)
    choose true s = (f.path, f.blame, refl)
    choose false s = (s.path, limit_blame, refl)

    go : (b : Option PartStep) → IsFault (answer_by (Some f) b store)
    go None = (f.path, f.blame, refl)
    go (Some s) = choose (is_before (key f.path f.children) (key s.path s.children)) s

by_limit : (a : Option FaultNote) (b : Option PartStep) (store : Store) (s : PartStep) → b ≡ Some s → IsFault (answer_by a b store)
by_limit a b store s e = subst (λ x. IsFault (answer_by a x store)) (sym e) (go a)
  where
    choose : (t : Bool) (f : FaultNote) → IsFault (if t then Faulted f.path f.blame else Faulted s.path limit_blame)
    choose true f = (f.path, f.blame, refl)
    choose false f = (s.path, limit_blame, refl)

    go : (a : Option FaultNote) → IsFault (answer_by a (Some s) store)
    go None = (s.path, limit_blame, refl)
    go (Some f) = choose (is_before (key f.path f.children) (key s.path s.children)) f

-- where some steps are left, the report tells the contents
pub tells_cells : (l k : ℕ) (cs : List (List ℤ)) (ts : List (List (List ℕ))) (ns : List PartNote) → left_after l ns ≡ Some k → report_answer l (told_of cs ts (by_key ns)) ≡ Cells cs
tells_cells l k cs ts ns e =
    ap (λ a. answer_by a (step_over l (map step_note (by_key ns))) cs) (no_fault (by_key ns) (well_by_key ns ∙ (some_left l k ns e).0))
    ∙ ap (λ b. answer_by None b cs) (not_over l (by_key ns) few)
  where
    few : steps_in (by_key ns) ≤ l
    few = let s = steps_by_key ns in let r = (some_left l k ns e).1 in omega (arith, s, r)

-- and else it tells a fault
pub tells_fault : (l : ℕ) (cs : List (List ℤ)) (ts : List (List (List ℕ))) (ns : List PartNote) → left_after l ns ≡ None → IsFault (report_answer l (told_of cs ts (by_key ns)))
tells_fault l cs ts ns e = go (none_left l ns e)
  where
    go : (are_well ns ≡ false) ⊎ (l < steps_in ns) → IsFault (report_answer l (told_of cs ts (by_key ns)))
    go (inl w) =
        let f = some_fault (by_key ns) (well_by_key ns ∙ w) in
        by_fault (first_note (filter_map fault_note (by_key ns))) (step_over l (map step_note (by_key ns))) cs f.0 f.1
    go (inr lt) =
        let same = steps_by_key ns in let s = is_over l (by_key ns) (omega (arith, same, lt)) in
        by_limit (first_note (filter_map fault_note (by_key ns))) (step_over l (map step_note (by_key ns))) cs s.0 s.1

-- the steps left after a part and more of them
pub left_past_one : (l : ℕ) (n : PartNote) (ns : List PartNote) (k : ℕ) → left_after l (n ∷ []) ≡ Some k → left_after l (n ∷ ns) ≡ left_after k ns
left_past_one l n ns k e = go n.blame (nat_lt l n.steps) e
  where
    go : (b : Option Blame) (t : Bool) → (if is_some b then None else if t then None else Some (l - n.steps)) ≡ Some k
        → (if is_some b then None else if t then None else left_after (l - n.steps) ns) ≡ left_after k ns
    go (Some b) t e = absurd (cc)
    go None true e = absurd (cc)
    go None false e = ap (λ m. left_after m ns) (cc)

pub none_past_one : (l : ℕ) (n : PartNote) (ns : List PartNote) → left_after l (n ∷ []) ≡ None → left_after l (n ∷ ns) ≡ None
none_past_one l n ns e = go n.blame (nat_lt l n.steps) e
  where
    go : (b : Option Blame) (t : Bool) → (if is_some b then None else if t then None else Some (l - n.steps)) ≡ None
        → (if is_some b then None else if t then None else left_after (l - n.steps) ns) ≡ None
    go (Some b) t e = refl
    go None true e = refl
    go None false e = absurd (cc)

-- What a task has, or would be given, is what those works that stand before its place make of zeros.
use Rattle.std.proofs.Common.{◌≡◌, ◌≢◌, ℕ, ◌≤◌, suc, Bool, true, false, not, ◌&&◌, ◌||◌, List, [], ◌∷◌, ◌++◌, refl, sym, ap, ◌∙◌, subst, Option, Some, None, arith, append-nil, append_assoc, ◌⊎◌, inl, inr}
use Rattle.std.specs.Prelude.{ℤ, is_some, nat_eq, if◌then◌else◌}
use Rattle.std.specs.List.{cons_option}
use Rattle.std.proofs.lemmas.Bool.Decides.{eqb_tells}
use Rattle.std.proofs.lemmas.List.Elements.{filter_map-append}
use Rattle.jade_base.specs.declared.rights.Rights.{Rights}
use Rattle.jade_base.specs.declared.rights.Mode.{Mode}
use Rattle.jade_base.specs.declared.rights.Mode.TheVariants.{Reading, Writing, Commuting}
use Rattle.jade_base.specs.Rights.{is_there, no_rights}
use Rattle.jade_base.specs.Places.{is_before}
use Rattle.jade_syntax.specs.Abstract.{AbstractProgram}
use Rattle.jade_syntax.specs.Objects.{sizes}
use Rattle.jade_meaning.specs.Specification.{Specification, rights_on}
use Rattle.jade_meaning.specs.Course.{Course, Reads, Writes, Steps, Creates, Changes, Ends, root_spec, root_course}
use Rattle.jade_meaning.specs.Talk.{Event, Enter, Enroll, Take, TouchRead, TouchWrite, Wants, Give, Leave, Shift, Resign}
use Rattle.jade_meaning.specs.Serial.{Path, Store, Mark, Deed, DidTurn, DidRead, DidWrite, DidCreate, DidEnd, deeds_at, same_path, at_object, zeros}
use Rattle.jade_meaning.specs.Laws.{Every}
use Rattle.jade_meaning.specs.Proper.{Proper, proper_read, proper_write, proper_step, proper_create, proper_change, proper_end}
use Rattle.schedule_core.specs.Core.{Cells, changes, touches, put, is_out, version_or, content_for, quietly, with_pending, going_on, child_of, value_in, mark}
use Rattle.schedule_core.specs.Unplaced.{Live, State, event_done, deed_done}
use Rattle.schedule_core.specs.Works.{Work, Wrote, Turned, works_on, work_on, worked}
use Rattle.schedule_core.specs.Sound.{Within, Fit, Orderly, Ready, Before, Apart, Pairs, Fresh, Narrowed, may}
use Rattle.schedule_core.proofs.Changing.{widen}
use Rattle.schedule_core.specs.Fitting as fitting
use Rattle.schedule_core.specs.More.{InOrder}
use Rattle.schedule_core.specs.Places.{passes, upto}
use Rattle.schedule_core.specs.Reached as reaches
use Rattle.schedule_core.proofs.Ascending.{trans}
use Rattle.schedule_core.proofs.Orders.{init_same}
use Rattle.schedule_core.proofs.TakeGoes.{worked_both}
use Rattle.schedule_core.proofs.Alone.{cover_lessens}
use Rattle.schedule_core.proofs.Calm.{put_either}
use Rattle.schedule_core.proofs.Front.{mode_reads}
use Rattle.schedule_core.proofs.Schedules.{reached_sound}
use Rattle.schedule_core.proofs.Lines.{every_change, every_with, every_front, every_back, every_append, pairs_front, pairs_back}
use Rattle.schedule_core.proofs.Pairs.{put_self, put_there}
use Rattle.schedule_core.proofs.Showing.{same_is, not_same, path_same}
use Rattle.schedule_core.proofs.Order.{earlier}
use Rattle.schedule_core.proofs.Unborn.{Unborn, state_unborn, own_within}
use Rattle.schedule_core.proofs.Tells.{may_changes}
use Rattle.schedule_core.proofs.Queued.{state_order}
use Rattle.schedule_core.proofs.Keys.{not_before, yes_before, own_before, part_before, between, nothing_between}

abbrev pub touches_alone : ℕ → Live → Bool
touches_alone o u = is_there (u.rights o).reads || is_there (u.rights o).writes

abbrev pub seen : ℕ → Live → Bool
seen o u = is_some (u.versions o) && not (changes (u.rights o))

abbrev Passes : Path → ℕ → Work → Type 0
Passes p n w = passes p n w ≡ true

-- the place of a task among the works that are gone
pub record Stands (zero : Store) (log : List Mark) (u : Live) : Type 0 where
  pub mine : Every (λ (m : Mark). m.path ≡ u.path → m.children ≤ u.part) log
  -- where it has a right to read or to write, and is not seen, no work behind its place is gone
  pub barred : (o : ℕ) → touches_alone o u ≡ true → seen o u ≡ false → Every (Passes u.path u.part) (works_on o log)
  -- where it is seen it has what the works before its place make
  pub kept : (o : ℕ) (xs : Cells) → u.versions o ≡ Some xs → changes (u.rights o) ≡ false → xs ≡ worked (upto u.path u.part (works_on o log)) (at_object zero o)

-- lists of works
upto_both : (p : Path) (n : ℕ) (a b : List Work) → upto p n (a ++ b) ≡ upto p n a ++ upto p n b
upto_both p n [] b = refl
upto_both p n (w ∷ a) b = go (passes p n w) (upto_both p n a b)
  where
    go : (x : Bool) → upto p n (a ++ b) ≡ upto p n a ++ upto p n b → (if x then w ∷ upto p n (a ++ b) else upto p n (a ++ b)) ≡ (if x then w ∷ upto p n a else upto p n a) ++ upto p n b
    go true h = ap (λ z. w ∷ z) h
    go false h = h

pub upto_all : (p : Path) (n : ℕ) (ws : List Work) → Every (Passes p n) ws → upto p n ws ≡ ws
upto_all p n [] h = refl
upto_all p n (w ∷ ws) h = ap (λ b. if b then w ∷ upto p n ws else upto p n ws) h.0 ∙ ap (λ z. w ∷ z) (upto_all p n ws h.1)

abbrev Neutral : Path → ℕ → Work → Type 0
Neutral p n (Wrote q k c v) = passes p n (Wrote q k c v) ≡ false
Neutral p n (Turned q) = Unit {0}

neutral_none : (p : Path) (n : ℕ) (ws : List Work) (xs : Cells) → Every (Neutral p n) ws → worked (upto p n ws) xs ≡ xs
neutral_none p n [] xs h = refl
neutral_none p n (Wrote q k c v ∷ ws) xs h =
    ap (λ b. worked (if b then Wrote q k c v ∷ upto p n ws else upto p n ws) xs) h.0 ∙ neutral_none p n ws xs h.1
neutral_none p n (Turned q ∷ ws) xs h = neutral_none p n ws xs h.1

neutral_on : (p : Path) (n : ℕ) (a b : List Work) (xs : Cells) → Every (Neutral p n) b → worked (upto p n (a ++ b)) xs ≡ worked (upto p n a) xs
neutral_on p n a b xs h = ap (λ z. worked z xs) (upto_both p n a b) ∙ worked_both (upto p n a) (upto p n b) xs ∙ neutral_none p n b (worked (upto p n a) xs) h

upto_same : (p q : Path) (n m : ℕ) (ws : List Work) → Every (λ w. passes p n w ≡ passes q m w) ws → upto p n ws ≡ upto q m ws
upto_same p q n m [] h = refl
upto_same p q n m (w ∷ ws) h =
    ap (λ b. if b then w ∷ upto p n ws else upto p n ws) h.0 ∙ ap (λ z. if passes q m w then w ∷ z else z) (upto_same p q n m ws h.1)

-- a fact of each work from one of each mark
every_work : (o : ℕ) (P : Work → Type 0) → ((q : Path) → P (Turned q)) → (ms : List Mark) → Every (λ (m : Mark). (c : ℕ) (v : ℤ) → P (Wrote m.path m.children c v)) ms → Every P (works_on o ms)
every_work o P t [] h = tt
every_work o P t (m ∷ ms) h = go m.deed (every_work o P t ms h.1)
  where
    go : (d : Deed) → Every P (works_on o ms) → Every P (cons_option (work_on o d m.path m.children) (works_on o ms))
    go (DidWrite x c v) k = by (nat_eq x o)
      where
        by : (b : Bool) → Every P (cons_option (if b then Some (Wrote m.path m.children c v) else None) (works_on o ms))
        by true = (h.0 c v, k)
        by false = k
    go (DidTurn x) k = by (nat_eq x o)
      where
        by : (b : Bool) → Every P (cons_option (if b then Some (Turned m.path) else None) (works_on o ms))
        by true = (t m.path, k)
        by false = k
    go (DidRead x c v) k = k
    go (DidCreate x n) k = k
    go (DidEnd b n) k = k

-- no mark of those paths
every_unborn : (P : Path → Type 0) (ms : List Mark) → ((q : Path) → P q → deeds_at q ms ≡ []) → Every (λ (m : Mark). P m.path → ⊥) ms
every_unborn P [] h = tt
every_unborn P (m ∷ ms) h = (λ k. absurd (let z : deeds_at m.path (m ∷ ms) ≡ m.deed ∷ deeds_at m.path ms = ap (λ b. cons_option (if b then Some m.deed else None) (deeds_at m.path ms)) (path_same m.path) in let y : [] ≡ m.deed ∷ deeds_at m.path ms = sym (h m.path k) ∙ z in cc), every_unborn P ms (λ q k. tail q (same_path m.path q) (h q k)))
  where
    tail : (q : Path) (b : Bool) → cons_option (if b then Some m.deed else None) (deeds_at q ms) ≡ [] → deeds_at q ms ≡ []
    tail q true e = absurd (cc)
    tail q false e = e

every_2 : {A : Type 0} (P Q R : A → Type 0) → ((x : A) → P x → Q x → R x) → (xs : List A) → Every P xs → Every Q xs → Every R xs
every_2 P Q R f [] h g = tt
every_2 P Q R f (x ∷ xs) h g = (f x h.0 g.0, every_2 P Q R f xs h.1 g.1)

or_l : (a b : Bool) → a ≡ true → a || b ≡ true
or_l a b e = ap (λ z. z || b) e

or_r : (a b : Bool) → b ≡ true → a || b ≡ true
or_r true b e = refl
or_r false b e = e

or_by : (a b : Bool) {P : Type 0} → a || b ≡ true → (a ≡ true → P) → (b ≡ true → P) → P
or_by true b e f g = f refl
or_by false b e f g = g e

or_both : (a b : Bool) → a || b ≡ false → (a ≡ false) × (b ≡ false)
or_both true b e = absurd (cc)
or_both false b e = (refl, e)

clash : {A : Type 0} (b : Bool) → b ≡ true → b ≡ false → A
clash b e f = absurd (let z : true ≡ false = sym e ∙ f in cc)

-- one event
module _ (b l : List Live) (c : Live) (f : ℕ → Cells) (zero : Store) (log : List Mark) (es : List Event) (is : c.doing.pending ≡ es) (fits : Every Fit (b ++ (c ∷ l)))
    (far : Pairs Apart (b ++ (c ∷ l))) (before : (o : ℕ) → Pairs (Before o) (b ++ (c ∷ l))) (fresh : (o : ℕ) → Fresh o (f o) c) (order : Pairs InOrder (b ++ (c ∷ l)))
    (unborn : Unborn log c) (contents : (o : ℕ) → f o ≡ worked (works_on o log) (at_object zero o)) where
  fit : Fit c
  fit = (every_back Fit b (c ∷ l) fits).0

  orderly : Orderly c.doing.spec c.doing.plan c.doing.course es c.rights c.held
  orderly = subst (λ x. Orderly c.doing.spec c.doing.plan c.doing.course x c.rights c.held) is fit.orderly

  abbrev ms : List Mark
  ms = (event_done es f c).marks

  -- the works that this event adds
  added : (o : ℕ) (P : Work → Type 0) → ((q : Path) → P (Turned q)) → (is_out (c.held o) ≡ true → (cl : ℕ) (v : ℤ) → P (Wrote c.path c.part cl v)) → Every P (works_on o ms)
  added o P t w = go es orderly
    where
      turn : (x : ℕ) (z : Bool) → Every P (cons_option (if z then Some (Turned c.path) else None) [])
      turn x true = (t c.path, tt)
      turn x false = tt

      wrote : (x cl : ℕ) (v : ℤ) → is_out (c.held x) ≡ true → ((nat_eq x o ≡ true) × (x ≡ o)) ⊎ ((nat_eq x o ≡ false) × (x ≢ o)) → Every P (cons_option (if nat_eq x o then Some (Wrote c.path c.part cl v) else None) [])
      wrote x cl v h (inl e) = subst (λ z. Every P (cons_option (if z then Some (Wrote c.path c.part cl v) else None) [])) (sym e.0) (w (subst (λ (z : ℕ). is_out (c.held z) ≡ true) e.1 h) cl v, tt)
      wrote x cl v h (inr e) = subst (λ z. Every P (cons_option (if z then Some (Wrote c.path c.part cl v) else None) [])) (sym e.0) tt

      deed : (d : Course) → Ready c.held d → Every P (works_on o (deed_done d f c).marks)
      deed (Reads x cl on) r = tt
      deed (Writes x cl v on) r = wrote x cl v r (eqb_tells x o)
      deed (Creates child body on) r = tt
      deed (Ends z) r = tt
      deed (Steps on) r = tt
      deed (Changes new on) r = tt

      go : (es : List Event) → Orderly c.doing.spec c.doing.plan c.doing.course es c.rights c.held → Every P (works_on o (event_done es f c).marks)
      go [] g = deed c.doing.course g.1
      go (Take x Reading ∷ es) g = tt
      go (Take x Writing ∷ es) g = tt
      go (Take x Commuting ∷ es) g = turn x (nat_eq x o)
      go (Give x ∷ es) g = tt
      go (Enter x a ∷ es) g = tt
      go (Shift x a ∷ es) g = tt
      go (Leave x ∷ es) g = tt
      go (Enroll x n ∷ es) g = absurd g
      go (TouchRead x cl v ∷ es) g = absurd g
      go (TouchWrite x cl v ∷ es) g = absurd g
      go (Wants x cl ∷ es) g = absurd g
      go (Resign x n ∷ es) g = absurd g

  marks_own : Every (λ (m : Mark). (m.path ≡ c.path) × (m.children ≡ c.part)) ms
  marks_own = go es
    where
      deed : (d : Course) → Every (λ (m : Mark). (m.path ≡ c.path) × (m.children ≡ c.part)) (deed_done d f c).marks
      deed (Reads x cl on) = ((refl, refl), tt)
      deed (Writes x cl v on) = ((refl, refl), tt)
      deed (Creates child body on) = ((refl, refl), tt)
      deed (Ends z) = ((refl, refl), tt)
      deed (Steps on) = tt
      deed (Changes new on) = tt

      go : (es : List Event) → Every (λ (m : Mark). (m.path ≡ c.path) × (m.children ≡ c.part)) (event_done es f c).marks
      go [] = deed c.doing.course
      go (Take x Reading ∷ es) = tt
      go (Take x Writing ∷ es) = tt
      go (Take x Commuting ∷ es) = ((refl, refl), tt)
      go (Give x ∷ es) = tt
      go (Enter x a ∷ es) = tt
      go (Shift x a ∷ es) = tt
      go (Leave x ∷ es) = tt
      go (Enroll x n ∷ es) = tt
      go (TouchRead x cl v ∷ es) = tt
      go (TouchWrite x cl v ∷ es) = tt
      go (Wants x cl ∷ es) = tt
      go (Resign x n ∷ es) = tt

  works_both : (o : ℕ) → works_on o (log ++ ms) ≡ works_on o log ++ works_on o ms
  works_both o = filter_map-append (λ m. work_on o m.deed m.path m.children) log ms

  -- the same place, with other rights and versions
  again : (d : Live) → d.path ≡ c.path → d.part ≡ c.part → Stands zero log c
      → ((o : ℕ) → touches_alone o d ≡ true → seen o d ≡ false → (touches_alone o c ≡ true) × (seen o c ≡ false))
      → ((o : ℕ) (xs : Cells) → d.versions o ≡ Some xs → changes (d.rights o) ≡ false → ((c.versions o ≡ Some xs) × (changes (c.rights o) ≡ false)) ⊎ ((xs ≡ f o) × (touches_alone o c ≡ true) × (seen o c ≡ false)))
      → Every (λ (m : Mark). m.path ≡ c.path → m.children ≤ c.part) (log ++ ms) → ((o : ℕ) → Every (Passes c.path c.part) (works_on o ms))
      → ((o : ℕ) → changes (d.rights o) ≡ false → is_some (d.versions o) ≡ true → Every (Neutral c.path c.part) (works_on o ms)) → Stands zero (log ++ ms) d
  again d path part s bars keeps mine pass neutral = record {
    mine = subst (λ k. Every (λ (m : Mark). m.path ≡ d.path → m.children ≤ k) (log ++ ms)) (sym part) (subst (λ q. Every (λ (m : Mark). m.path ≡ q → m.children ≤ c.part) (log ++ ms)) (sym path) mine);
    barred = λ o r n. let k = bars o r n in subst (λ ws. Every (Passes d.path d.part) ws) (sym (works_both o)) (every_append (Passes d.path d.part) (works_on o log) (works_on o ms) (at o (s.barred o k.0 k.1)) (at_new o (pass o)));
    kept = λ o xs v n. go o xs v n (keeps o xs v n);
  }
    where
      move : (ws : List Work) → Every (Passes c.path c.part) ws → Every (Passes d.path d.part) ws
      move ws h = subst (λ k. Every (Passes d.path k) ws) (sym part) (subst (λ q. Every (Passes q c.part) ws) (sym path) h)

      at : (o : ℕ) → Every (Passes c.path c.part) (works_on o log) → Every (Passes d.path d.part) (works_on o log)
      at o h = move (works_on o log) h

      at_new : (o : ℕ) → Every (Passes c.path c.part) (works_on o ms) → Every (Passes d.path d.part) (works_on o ms)
      at_new o h = move (works_on o ms) h

      place : (ws : List Work) → upto d.path d.part ws ≡ upto c.path c.part ws
      place ws = ap (λ q. upto q d.part ws) path ∙ ap (λ k. upto c.path k ws) part

      go : (o : ℕ) (xs : Cells) → d.versions o ≡ Some xs → changes (d.rights o) ≡ false → ((c.versions o ≡ Some xs) × (changes (c.rights o) ≡ false)) ⊎ ((xs ≡ f o) × (touches_alone o c ≡ true) × (seen o c ≡ false))
          → xs ≡ worked (upto d.path d.part (works_on o (log ++ ms))) (at_object zero o)
      go o xs v n (inl k) =
          s.kept o xs k.0 k.1 ∙ sym (ap (λ z. worked z (at_object zero o)) (place (works_on o (log ++ ms)) ∙ ap (upto c.path c.part) (works_both o)) ∙ neutral_on c.path c.part (works_on o log) (works_on o ms) (at_object zero o) (neutral o n (ap is_some v)))
      go o xs v n (inr k) =
          k.0 ∙ contents o ∙ ap (λ z. worked z (at_object zero o)) (sym (upto_all c.path c.part (works_on o log) (s.barred o k.1 k.2))) ∙ sym (ap (λ z. worked z (at_object zero o)) (place (works_on o (log ++ ms)) ∙ ap (upto c.path c.part) (works_both o)) ∙ neutral_on c.path c.part (works_on o log) (works_on o ms) (at_object zero o) (neutral o n (ap is_some v)))

  -- other tasks
  front_stands : (u : Live) → Apart u c → Fit u → ((o : ℕ) → Before o u c) → InOrder u c → Stands zero log u → Stands zero (log ++ ms) u
  front_stands u a fu k e s = record {
    mine = every_append (λ (m : Mark). m.path ≡ u.path → m.children ≤ u.part) log ms s.mine (every_with (λ (m : Mark). (m.path ≡ c.path) × (m.children ≡ c.part)) (λ (m : Mark). m.path ≡ u.path → m.children ≤ u.part) (λ m h i. absurd (apart (sym h.0 ∙ i))) ms marks_own);
    barred = λ o r n. subst (λ ws. Every (Passes u.path u.part) ws) (sym (works_both o)) (every_append (Passes u.path u.part) (works_on o log) (works_on o ms) (s.barred o r n) (added o (Passes u.path u.part) (λ q. refl) (λ out cl v. absurd (blocked o r n out (c.held o) refl))));
    kept = λ o xs v n. s.kept o xs v n ∙ sym (ap (λ z. worked (upto u.path u.part z) (at_object zero o)) (works_both o) ∙ neutral_on u.path u.part (works_on o log) (works_on o ms) (at_object zero o) (added o (Neutral u.path u.part) (λ q. tt) (λ out cl v. later)));
  }
    where
      apart : c.path ≡ u.path → ⊥
      apart i = a c.path (subst (Within u.path u.part) (sym i) (own_within u)) (own_within c)

      later : same_path c.path u.path || is_before (c.path ++ c.part ∷ []) (u.path ++ u.part ∷ []) ≡ false
      later = ap (λ z. z || is_before (c.path ++ c.part ∷ []) (u.path ++ u.part ∷ [])) (not_same c.path u.path apart) ∙ not_before u.path c.path u.part c.part (earlier u.path c.path e) (λ q i g. a u.path (own_within u) (record { rest = q; is = i; from = g }))

      blocked : (o : ℕ) → touches_alone o u ≡ true → seen o u ≡ false → is_out (c.held o) ≡ true → (m : Option Mode) → c.held o ≡ m → ⊥
      blocked o r n out None h = clash (is_out (c.held o)) out (ap is_out h)
      blocked o r n out (Some Reading) h = clash (is_out (c.held o)) out (ap is_out h)
      blocked o r n out (Some Writing) h = by (is_there (u.rights o).reads) (is_there (u.rights o).writes) (is_there (u.rights o).commutes) (is_some (u.versions o)) r n ((k o).writing h)
        where
          by : (r w x v : Bool) → r || w ≡ true → v && not (w || x) ≡ false → not (w || x) && (not r || v) ≡ true → ⊥
          by r true x v h n g = absurd (cc)
          by true false true v h n g = absurd (cc)
          by true false false true h n g = absurd (cc)
          by true false false false h n g = absurd (cc)
          by false false x v h n g = absurd (cc)
      blocked o r n out (Some Commuting) h = by (is_there (u.rights o).reads) (is_there (u.rights o).writes) (is_there (u.rights o).commutes) (is_some (u.versions o)) r n ((k o).commuting h)
        where
          by : (r w x v : Bool) → r || w ≡ true → v && not (w || x) ≡ false → (not (w || x) && (not r || v)) || (not r && not w) ≡ true → ⊥
          by true true x v h n g = absurd (cc)
          by false true x v h n g = absurd (cc)
          by true false true v h n g = absurd (cc)
          by true false false true h n g = absurd (cc)
          by true false false false h n g = absurd (cc)
          by false false x v h n g = absurd (cc)

  behind_stands : (u : Live) → Apart c u → ((o : ℕ) → Before o c u) → InOrder c u → Stands zero log u → Stands zero (log ++ ms) u
  behind_stands u a k e s = record {
    mine = every_append (λ (m : Mark). m.path ≡ u.path → m.children ≤ u.part) log ms s.mine (every_with (λ (m : Mark). (m.path ≡ c.path) × (m.children ≡ c.part)) (λ (m : Mark). m.path ≡ u.path → m.children ≤ u.part) (λ m h i. absurd (apart (sym h.0 ∙ i))) ms marks_own);
    barred = λ o r n. subst (λ ws. Every (Passes u.path u.part) ws) (sym (works_both o)) (every_append (Passes u.path u.part) (works_on o log) (works_on o ms) (s.barred o r n) (added o (Passes u.path u.part) (λ q. refl) (λ out cl v. or_r (same_path c.path u.path) _ (yes_before c.path u.path c.part u.part (earlier c.path u.path e) (λ q i g. a c.path (own_within c) (record { rest = q; is = i; from = g }))))));
    kept = λ o xs v n. s.kept o xs v n ∙ sym (ap (λ z. worked (upto u.path u.part z) (at_object zero o)) (works_both o) ∙ neutral_on u.path u.part (works_on o log) (works_on o ms) (at_object zero o) (added o (Neutral u.path u.part) (λ q. tt) (λ out cl w. clash (changes (c.rights o)) (may_changes (c.held o) (c.rights o) out (fit.holds o)) ((k o).reading (ap is_some v)))));
  }
    where
      apart : c.path ≡ u.path → ⊥
      apart i = a c.path (own_within c) (subst (Within u.path u.part) (sym i) (own_within u))

  again_own : (d : Live) → d.path ≡ c.path → d.part ≡ c.part → Stands zero log c
      → ((o : ℕ) → touches_alone o d ≡ true → seen o d ≡ false → (touches_alone o c ≡ true) × (seen o c ≡ false))
      → ((o : ℕ) (xs : Cells) → d.versions o ≡ Some xs → changes (d.rights o) ≡ false → ((c.versions o ≡ Some xs) × (changes (c.rights o) ≡ false)) ⊎ ((xs ≡ f o) × (touches_alone o c ≡ true) × (seen o c ≡ false)))
      → ((o : ℕ) → changes (d.rights o) ≡ false → is_some (d.versions o) ≡ true → Every (Neutral c.path c.part) (works_on o ms)) → Stands zero (log ++ ms) d
  again_own d path part s bars keeps neutral =
      again d path part s bars keeps (every_append (λ (m : Mark). m.path ≡ c.path → m.children ≤ c.part) log ms s.mine (every_with (λ (m : Mark). (m.path ≡ c.path) × (m.children ≡ c.part)) (λ (m : Mark). m.path ≡ c.path → m.children ≤ c.part) (λ m h i. let e : m.children ≡ c.part = h.1 in omega arith) ms marks_own))
      (λ o. added o (Passes c.path c.part) (λ q. refl) (λ out cl v. or_l (same_path c.path c.path) _ (path_same c.path))) neutral

  fronts : (us : List Live) → Every (λ s. Apart s c) us → Every Fit us → ((o : ℕ) → Every (λ s. Before o s c) us) → Every (λ s. InOrder s c) us
      → Every (λ s. Stands zero log s → Stands zero (log ++ ms) s) us
  fronts [] a f k e = tt
  fronts (u ∷ us) a f k e = (front_stands u a.0 f.0 (λ o. (k o).0) e.0, fronts us a.1 f.1 (λ o. (k o).1) e.1)

  backs : (us : List Live) → Every (Apart c) us → ((o : ℕ) → Every (Before o c) us) → Every (InOrder c) us → Every (λ s. Stands zero log s → Stands zero (log ++ ms) s) us
  backs [] a k e = tt
  backs (u ∷ us) a k e = (behind_stands u a.0 (λ o. (k o).0) e.0, backs us a.1 (λ o. (k o).1) e.1)

-- the last of a path
data Snoc : Path → Type 0 where
  empty : Snoc []
  last : (r : Path) (z : ℕ) → Snoc (r ++ z ∷ [])

snoc : (p : Path) → Snoc p
snoc [] = empty
snoc (x ∷ p) = go p (snoc p)
  where
    go : (p : Path) → Snoc p → Snoc (x ∷ p)
    go _ empty = last [] x
    go _ (last r z) = last (x ∷ r) z

-- who makes a part whose key is of a child
own_or_child : (q p : Path) (k n : ℕ) (r : Path) → q ++ k ∷ [] ≡ p ++ n ∷ r → (q ≡ p) ⊎ ((s : Path) × (q ≡ p ++ n ∷ s))
own_or_child q p k n r e = go r (snoc r) e
  where
    go : (r : Path) → Snoc r → q ++ k ∷ [] ≡ p ++ n ∷ r → (q ≡ p) ⊎ ((s : Path) × (q ≡ p ++ n ∷ s))
    go _ empty e = inl (init_same q p k n e)
    go _ (last s z) e = inr (s, init_same q (p ++ n ∷ s) k z (e ∙ sym (append_assoc p (n ∷ s) (z ∷ []))))

not_longer : (p : Path) (k : ℕ) (q : Path) → p ++ k ∷ q ≡ p → ⊥
not_longer [] k q e = absurd (cc)
not_longer (i ∷ p) k q e = not_longer p k q (cc)

module _ (b l : List Live) (c : Live) (f : ℕ → Cells) (zero : Store) (log : List Mark) (fits : Every Fit (b ++ (c ∷ l)))
    (far : Pairs Apart (b ++ (c ∷ l))) (before : (o : ℕ) → Pairs (Before o) (b ++ (c ∷ l))) (fresh : (o : ℕ) → Fresh o (f o) c) (order : Pairs InOrder (b ++ (c ∷ l)))
    (unborn : Unborn log c) (contents : (o : ℕ) → f o ≡ worked (works_on o log) (at_object zero o)) where
  own_fit : Fit c
  own_fit = (every_back Fit b (c ∷ l) fits).0

  abbrev Bars : Live → Type 0
  Bars d = (o : ℕ) → touches_alone o d ≡ true → seen o d ≡ false → (touches_alone o c ≡ true) × (seen o c ≡ false)

  abbrev Keeps : Live → Type 0
  Keeps d = (o : ℕ) (xs : Cells) → d.versions o ≡ Some xs → changes (d.rights o) ≡ false → ((c.versions o ≡ Some xs) × (changes (c.rights o) ≡ false)) ⊎ ((xs ≡ f o) × (touches_alone o c ≡ true) × (seen o c ≡ false))

  abbrev Goal : List Event → Type 0
  Goal es = Every (Stands zero (log ++ (event_done es f c).marks)) (event_done es f c).tasks

  and_no : (x y : Bool) → y ≡ false → x && y ≡ false
  and_no true y e = e
  and_no false y e = refl

  -- the version put back as it was
  take_stands : (o : ℕ) (m : Mode) (es : List Event) → c.doing.pending ≡ Take o m ∷ es → (d : Live) → d.path ≡ c.path → d.part ≡ c.part → d.rights ≡ c.rights
      → d.versions ≡ put c.versions o (c.versions o) → Stands zero log c → ((x : ℕ) → Every (Neutral c.path c.part) (works_on x (event_done (Take o m ∷ es) f c).marks))
      → Stands zero (log ++ (event_done (Take o m ∷ es) f c).marks) d
  take_stands o m es is d path part rights versions s neutral =
      again_own b l c f zero log (Take o m ∷ es) is fits far before fresh order unborn contents d path part s
      (λ x r n. (sym (ap (λ g. is_there (g x).reads || is_there (g x).writes) rights) ∙ r, sym (ap (λ g. is_some (g x) && not (changes (c.rights x))) same) ∙ sym (ap (λ g. is_some (d.versions x) && not (changes (g x))) rights) ∙ n))
      (λ x xs v n. inl (sym (ap (λ g. g x) same) ∙ v, sym (ap (λ g. changes (g x)) rights) ∙ n)) (λ x n v. neutral x)
    where
      same : d.versions ≡ c.versions
      same = versions ∙ put_self c.versions o (c.versions o) refl

  -- its next child, and itself after that
  module _ (child : Specification) (body on : Course) (creates : c.doing.course ≡ Creates child body on) (none : c.doing.pending ≡ []) (s : Stands zero log c) where
    abbrev m0 : Mark
    m0 = mark c (DidCreate (record { spec = child; course = body }) c.doing.steps)

    abbrev p : Path
    p = c.path

    abbrev n : ℕ
    n = c.part

    works_same : (o : ℕ) → works_on o (log ++ m0 ∷ []) ≡ works_on o log
    works_same o = filter_map-append (λ m. work_on o m.deed m.path m.children) log (m0 ∷ []) ∙ append-nil (works_on o log)

    -- marks of no child of its next
    foreign : Every (λ (m : Mark). (Within p n m.path) × (m.path ≡ p → ⊥) → ⊥) log
    foreign = every_unborn (λ q. (Within p n q) × (q ≡ p → ⊥)) log (λ q k. unborn q k.0 k.1)

    no_kid : (q : Path) (r : Path) → ((Within p n q) × (q ≡ p → ⊥) → ⊥) → q ≡ p ++ n ∷ r → ⊥
    no_kid q r h e = h (record { rest = n ∷ r; is = e; from = omega arith }, λ i. not_longer p n r (sym e ∙ i))

    more : (q : Path) (k : ℕ) → same_path q p || is_before (q ++ k ∷ []) (p ++ n ∷ []) ≡ true → same_path q p || is_before (q ++ k ∷ []) (p ++ suc n ∷ []) ≡ true
    more q k h = or_by (same_path q p) _ h (λ e. or_l _ _ e) (λ e. or_r (same_path q p) _ (trans (q ++ k ∷ []) (p ++ n ∷ []) (p ++ suc n ∷ []) e (own_before p n (suc n) (omega arith))))

    same_next : (q : Path) (k : ℕ) → ((Within p n q) × (q ≡ p → ⊥) → ⊥) → same_path q p || is_before (q ++ k ∷ []) (p ++ n ∷ []) ≡ same_path q p || is_before (q ++ k ∷ []) (p ++ suc n ∷ [])
    same_next q k h = go (same_path q p || is_before (q ++ k ∷ []) (p ++ n ∷ [])) refl (same_path q p || is_before (q ++ k ∷ []) (p ++ suc n ∷ [])) refl
      where
        go : (x : Bool) → same_path q p || is_before (q ++ k ∷ []) (p ++ n ∷ []) ≡ x → (y : Bool) → same_path q p || is_before (q ++ k ∷ []) (p ++ suc n ∷ []) ≡ y → x ≡ y
        go true e true g = refl
        go false e false g = refl
        go true e false g = clash _ (more q k e) g
        go false e true g =
            let f0 = or_both (same_path q p) _ e in
            let b1 : is_before (q ++ k ∷ []) (p ++ suc n ∷ []) ≡ true = sym (ap (λ z. z || is_before (q ++ k ∷ []) (p ++ suc n ∷ [])) f0.0) ∙ g in
            let w = between p n (q ++ k ∷ []) f0.1 b1 in
            absurd (by f0.0 (own_or_child q p k n w.rest w.is))
          where
            by : same_path q p ≡ false → (q ≡ p) ⊎ ((r : Path) × (q ≡ p ++ n ∷ r)) → ⊥
            by e (inl i) = clash (same_path q p) (ap (λ z. same_path z p) i ∙ path_same p) e
            by e (inr i) = no_kid q i.0 h i.1

    next_stands : Stands zero (log ++ m0 ∷ []) (going_on on 0 (record c { part = suc n; place = tt }))
    next_stands = record {
      mine = every_append (λ (m : Mark). m.path ≡ p → m.children ≤ suc n) log (m0 ∷ []) (every_with (λ (m : Mark). m.path ≡ p → m.children ≤ n) (λ (m : Mark). m.path ≡ p → m.children ≤ suc n) (λ m h i. let k = h i in omega arith) log s.mine) (λ i. omega arith, tt);
      barred = λ o r k. subst (λ ws. Every (Passes p (suc n)) ws) (sym (works_same o)) (every_with (Passes p n) (Passes p (suc n)) (λ w h. go w h) (works_on o log) (s.barred o r k));
      kept = λ o xs v k. s.kept o xs v k ∙ ap (λ z. worked z (at_object zero o)) (upto_same p p n (suc n) (works_on o log) (every_work o (λ w. passes p n w ≡ passes p (suc n) w) (λ q. refl) log (every_with (λ (m : Mark). (Within p n m.path) × (m.path ≡ p → ⊥) → ⊥) (λ (m : Mark). (c : ℕ) (v : ℤ) → passes p n (Wrote m.path m.children c v) ≡ passes p (suc n) (Wrote m.path m.children c v)) (λ m h c v. same_next m.path m.children h) log foreign))) ∙ sym (ap (λ ws. worked (upto p (suc n) ws) (at_object zero o)) (works_same o));
    }
      where
        go : (w : Work) → Passes p n w → Passes p (suc n) w
        go (Wrote q k c v) h = more q k h
        go (Turned q) h = refl

    abbrev kid : Path
    kid = p ++ n ∷ []

    proper_covers : (o : ℕ) → fitting.Lessened (rights_on child o) (c.rights o)
    proper_covers o =
        let order = subst (λ x. Orderly c.doing.spec c.doing.plan c.doing.course x c.rights c.held) none own_fit.orderly in
        subst (fitting.Lessened (rights_on child o)) (sym (order.0.rights o)) (by c.doing.course creates own_fit.proper)
      where
        by : (x : Course) → x ≡ Creates child body on → Proper c.doing.spec x → fitting.Lessened (rights_on child o) (rights_on c.doing.spec o)
        by _ e (proper_create {child = child'} a b2 cov z i k) = subst (λ sp. fitting.Lessened (rights_on sp o) (rights_on c.doing.spec o)) (let q : child' ≡ child = cc in q) (cover_lessens c.doing.spec child' cov o)
        by _ e (proper_read i k) = absurd (cc)
        by _ e (proper_write i k) = absurd (cc)
        by _ e (proper_step k) = absurd (cc)
        by _ e (proper_change a b2 k) = absurd (cc)
        by _ e proper_end = absurd (cc)

    down : (q : Path) (k : ℕ) → (q ≡ p → k ≤ n) → same_path q p || is_before (q ++ k ∷ []) (p ++ n ∷ []) ≡ true → same_path q kid || is_before (q ++ k ∷ []) (kid ++ 0 ∷ []) ≡ true
    down q k le h =
        or_by (same_path q p) _ h (λ e. let i : q ≡ p = same_is q p e in or_r (same_path q kid) _ (subst (λ z. is_before (z ++ k ∷ []) (kid ++ 0 ∷ []) ≡ true) (sym i) (part_before p k n (le i))))
        (λ e. or_r (same_path q kid) _ (trans (q ++ k ∷ []) (p ++ n ∷ []) (kid ++ 0 ∷ []) e (part_before p n n (omega arith))))

    same_kid : (q : Path) (k : ℕ) → (q ≡ p → k ≤ n) → ((Within p n q) × (q ≡ p → ⊥) → ⊥) → same_path q p || is_before (q ++ k ∷ []) (p ++ n ∷ []) ≡ same_path q kid || is_before (q ++ k ∷ []) (kid ++ 0 ∷ [])
    same_kid q k le h = go (same_path q p || is_before (q ++ k ∷ []) (p ++ n ∷ [])) refl (same_path q kid || is_before (q ++ k ∷ []) (kid ++ 0 ∷ [])) refl
      where
        strange : same_path q kid ≡ false
        strange = not_same q kid (λ e. no_kid q [] h e)

        go : (x : Bool) → same_path q p || is_before (q ++ k ∷ []) (p ++ n ∷ []) ≡ x → (y : Bool) → same_path q kid || is_before (q ++ k ∷ []) (kid ++ 0 ∷ []) ≡ y → x ≡ y
        go true e true g = refl
        go false e false g = refl
        go true e false g = clash _ (down q k le e) g
        go false e true g =
            let f0 = or_both (same_path q p) _ e in
            let b1 : is_before (q ++ k ∷ []) (kid ++ 0 ∷ []) ≡ true = sym (ap (λ z. z || is_before (q ++ k ∷ []) (kid ++ 0 ∷ [])) strange) ∙ g in
            let w : q ++ k ∷ [] ≡ p ++ n ∷ [] = nothing_between p n (q ++ k ∷ []) f0.1 b1 in
            clash (same_path q p) (ap (λ z. same_path z p) (init_same q p k n w) ∙ path_same p) f0.0

    both_facts : Every (λ (m : Mark). (m.path ≡ p → m.children ≤ n) × ((Within p n m.path) × (m.path ≡ p → ⊥) → ⊥)) log
    both_facts = every_2 (λ (m : Mark). m.path ≡ p → m.children ≤ n) (λ (m : Mark). (Within p n m.path) × (m.path ≡ p → ⊥) → ⊥) (λ (m : Mark). (m.path ≡ p → m.children ≤ n) × ((Within p n m.path) × (m.path ≡ p → ⊥) → ⊥)) (λ m a b3. (a, b3)) log s.mine foreign

    same_works : (o : ℕ) → Every (λ w. passes p n w ≡ passes kid 0 w) (works_on o log)
    same_works o = every_work o (λ w. passes p n w ≡ passes kid 0 w) (λ q. refl) log (every_with (λ (m : Mark). (m.path ≡ p → m.children ≤ n) × ((Within p n m.path) × (m.path ≡ p → ⊥) → ⊥)) (λ (m : Mark). (c : ℕ) (v : ℤ) → passes p n (Wrote m.path m.children c v) ≡ passes kid 0 (Wrote m.path m.children c v)) (λ m h c v. same_kid m.path m.children h.0 h.1) log both_facts)

    kid_stands : Stands zero (log ++ m0 ∷ []) (child_of child body c)
    kid_stands = record {
      mine = every_append (λ (m : Mark). m.path ≡ kid → m.children ≤ 0) log (m0 ∷ []) (every_with (λ (m : Mark). (Within p n m.path) × (m.path ≡ p → ⊥) → ⊥) (λ (m : Mark). m.path ≡ kid → m.children ≤ 0) (λ m h i. absurd (no_kid m.path [] h i)) log foreign) (λ i. absurd (not_longer p n [] (sym i)), tt);
      barred = λ o r k. subst (λ ws. Every (Passes kid 0) ws) (sym (works_same o)) (every_2 (Passes p n) (λ w. passes p n w ≡ passes kid 0 w) (Passes kid 0) (λ w a e. sym e ∙ a) (works_on o log) (s.barred o (wider o r) (unseen o r k)) (same_works o));
      kept = λ o xs v k. let h = handed o xs v in s.kept o xs h.0 h.1 ∙ ap (λ z. worked z (at_object zero o)) (upto_same p kid n 0 (works_on o log) (same_works o)) ∙ sym (ap (λ ws. worked (upto kid 0 ws) (at_object zero o)) (works_same o));
    }
      where
        wider : (o : ℕ) → is_there (rights_on child o).reads || is_there (rights_on child o).writes ≡ true → touches_alone o c ≡ true
        wider o r = let q = proper_covers o in or_by _ _ r (λ e. or_l _ _ (q.reads e)) (λ e. or_r (is_there (c.rights o).reads) _ (q.alone e))

        handed : (o : ℕ) (xs : Cells) → (if touches (rights_on child o) then (if changes (c.rights o) then None else c.versions o) else None) ≡ Some xs → (c.versions o ≡ Some xs) × (changes (c.rights o) ≡ false)
        handed o xs v = go (touches (rights_on child o)) (changes (c.rights o)) refl v
          where
            go : (t x : Bool) → changes (c.rights o) ≡ x → (if t then (if x then None else c.versions o) else None) ≡ Some xs → (c.versions o ≡ Some xs) × (changes (c.rights o) ≡ false)
            go false x i e = absurd (cc)
            go true true i e = absurd (cc)
            go true false i e = (e, i)

        unseen : (o : ℕ) → is_there (rights_on child o).reads || is_there (rights_on child o).writes ≡ true → is_some (if touches (rights_on child o) then (if changes (c.rights o) then None else c.versions o) else None) && not (changes (rights_on child o)) ≡ false → seen o c ≡ false
        unseen o r k = go (is_some (c.versions o)) refl (changes (c.rights o)) refl
          where
            touch : touches (rights_on child o) ≡ true
            touch = or_by (is_there (rights_on child o).reads) (is_there (rights_on child o).writes) r (λ e. or_l (is_there (rights_on child o).reads) (changes (rights_on child o)) e) (λ e. or_r (is_there (rights_on child o).reads) (changes (rights_on child o)) (or_l (is_there (rights_on child o).writes) (is_there (rights_on child o).commutes) e))

            calm : changes (c.rights o) ≡ false → changes (rights_on child o) ≡ false
            calm e = by (changes (rights_on child o)) refl
              where
                by : (x : Bool) → changes (rights_on child o) ≡ x → changes (rights_on child o) ≡ false
                by true i = clash (changes (c.rights o)) ((proper_covers o).writes i) e
                by false i = i

            go : (x : Bool) → is_some (c.versions o) ≡ x → (y : Bool) → changes (c.rights o) ≡ y → is_some (c.versions o) && not (changes (c.rights o)) ≡ false
            go false i y j = ap (λ z. z && not (changes (c.rights o))) i
            go true i true j = and_no (is_some (c.versions o)) (not (changes (c.rights o))) (ap not j)
            go true i false j =
                clash (is_some (if touches (rights_on child o) then (if changes (c.rights o) then None else c.versions o) else None) && not (changes (rights_on child o))) (ap (λ z. is_some (if z then (if changes (c.rights o) then None else c.versions o) else None) && not (changes (rights_on child o))) touch ∙ ap (λ z. is_some (if z then None else c.versions o) && not (changes (rights_on child o))) j ∙ ap (λ z. z && not (changes (rights_on child o))) i ∙ ap not (calm j)) k

  abbrev again_at : (e : Event) (es : List Event) → c.doing.pending ≡ e ∷ es → (d : Live) → d.path ≡ c.path → d.part ≡ c.part → Stands zero log c → Bars d → Keeps d
      → ((x : ℕ) → Every (Neutral c.path c.part) (works_on x (event_done (e ∷ es) f c).marks)) → Stands zero (log ++ (event_done (e ∷ es) f c).marks) d
  again_at e es is d path part s bars keeps neutral =
      again_own b l c f zero log (e ∷ es) is fits far before fresh order unborn contents d path part s bars keeps (λ x n v. neutral x)

  turn_neutral : (o x : ℕ) → Every (Neutral c.path c.part) (works_on x (mark c (DidTurn o) ∷ []))
  turn_neutral o x = go (nat_eq o x)
    where
      go : (z : Bool) → Every (Neutral c.path c.part) (cons_option (if z then Some (Turned c.path) else None) [])
      go true = (tt, tt)
      go false = tt

  order_at : (es : List Event) → c.doing.pending ≡ es → Orderly c.doing.spec c.doing.plan c.doing.course es c.rights c.held
  order_at es is = subst (λ x. Orderly c.doing.spec c.doing.plan c.doing.course x c.rights c.held) is own_fit.orderly

  -- a version with which the content may be changed is the content, held for reading
  fresh_version : (s : Stands zero log c) (o : ℕ) (xs : Cells) → c.versions o ≡ Some xs → changes (c.rights o) ≡ true → (xs ≡ f o) × (touches_alone o c ≡ true) × (seen o c ≡ false)
  fresh_version s o xs v n =
      (sym (ap (λ w. version_or w (f o)) v) ∙ fresh o n, or_l _ _ (subst (λ m. may_read_hold m) (own_fit.keeps o (ap is_some v) n) (own_fit.holds o)), and_no (is_some (c.versions o)) (not (changes (c.rights o))) (ap not n))
    where
      may_read_hold : Option Mode → Type 0
      may_read_hold m = may m (c.rights o) ≡ true

  own : (es : List Event) → c.doing.pending ≡ es → Stands zero log c → Goal es
  own (Take o Reading ∷ es) is s = (
    again_at (Take o Reading) es is (with_pending es (quietly (Take o Reading) f c)) refl refl s
        (λ x r n. (r, put_either (λ w. is_some w && not (changes (c.rights x)) ≡ false → seen x c ≡ false) c.versions o (Some (version_or (c.versions o) (f o))) x (λ i h. and_no (is_some (c.versions x)) _ h) (λ i h. h) n))
        (λ x xs v n. put_either (λ w. w ≡ Some xs → ((c.versions x ≡ Some xs) × (changes (c.rights x) ≡ false)) ⊎ ((xs ≡ f x) × (touches_alone x c ≡ true) × (seen x c ≡ false))) c.versions o (Some (version_or (c.versions o) (f o))) x (λ i h. here x xs n i h (c.versions o) refl) (λ i h. inl (h, n)) v)
        (λ x. tt),
    tt,
  )
    where
      here : (x : ℕ) (xs : Cells) → changes (c.rights x) ≡ false → x ≡ o → Some (version_or (c.versions o) (f o)) ≡ Some xs → (w : Option Cells) → c.versions o ≡ w → ((c.versions x ≡ Some xs) × (changes (c.rights x) ≡ false)) ⊎ ((xs ≡ f x) × (touches_alone x c ≡ true) × (seen x c ≡ false))
      here x xs n i h (Some ys) e = inl (ap c.versions i ∙ e ∙ ap (λ z. Some z) (sym (ap (λ w. version_or w (f o)) e)) ∙ h, n)
      here x xs n i h None e =
          let same : f o ≡ xs = let k : version_or (c.versions o) (f o) ≡ xs = cc in sym (ap (λ w. version_or w (f o)) e) ∙ k in
          inr (sym same ∙ sym (ap f i), subst (λ z. touches_alone z c ≡ true) (sym i) (or_l _ _ (mode_reads (c.rights o) (order_at (Take o Reading ∷ es) is).1)), ap (λ w. is_some w && not (changes (c.rights x))) (ap c.versions i ∙ e))
  own (Take o Writing ∷ es) is s = (take_stands o Writing es is (with_pending es (quietly (Take o Writing) f c)) refl refl refl refl s (λ x. tt), tt)
  own (Take o Commuting ∷ es) is s = (take_stands o Commuting es is (with_pending es (quietly (Take o Commuting) f c)) refl refl refl refl s (turn_neutral o), tt)
  own (Give o ∷ es) is s = (
    again_at (Give o) es is (with_pending es (quietly (Give o) f c)) refl refl s
        (λ x r n. (r, put_either (λ w. is_some w && not (changes (c.rights x)) ≡ false → seen x c ≡ false) c.versions o (if changes (c.rights o) then None else c.versions o) x (λ i h. subst (λ z. is_some (if changes (c.rights z) then None else c.versions z) && not (changes (c.rights x)) ≡ false → seen x c ≡ false) i (still x) h) (λ i h. h) n))
        (λ x xs v n. put_either (λ w. w ≡ Some xs → ((c.versions x ≡ Some xs) × (changes (c.rights x) ≡ false)) ⊎ ((xs ≡ f x) × (touches_alone x c ≡ true) × (seen x c ≡ false))) c.versions o (if changes (c.rights o) then None else c.versions o) x (λ i h. inl (subst (λ z. (if changes (c.rights z) then None else c.versions z) ≡ Some xs → c.versions x ≡ Some xs) i (same x xs n) h, n)) (λ i h. inl (h, n)) v)
        (λ x. tt),
    tt,
  )
    where
      still : (x : ℕ) → is_some (if changes (c.rights x) then None else c.versions x) && not (changes (c.rights x)) ≡ false → seen x c ≡ false
      still x h = go (changes (c.rights x)) h
        where
          go : (y : Bool) → is_some (if y then None else c.versions x) && not y ≡ false → is_some (c.versions x) && not y ≡ false
          go true h = and_no (is_some (c.versions x)) false refl
          go false h = h

      same : (x : ℕ) (xs : Cells) → changes (c.rights x) ≡ false → (if changes (c.rights x) then None else c.versions x) ≡ Some xs → c.versions x ≡ Some xs
      same x xs n h = sym (ap (λ z. if z then None else c.versions x) n) ∙ h
  own (Shift o a ∷ es) is s = (
    again_at (Shift o a) es is (with_pending es (quietly (Shift o a) f c)) refl refl s
        (λ x r n. put_either (λ y. is_there y.reads || is_there y.writes ≡ true → is_some (c.versions x) && not (changes y) ≡ false → (touches_alone x c ≡ true) × (seen x c ≡ false)) c.rights o a x (λ i r n. subst (λ z. is_some (c.versions x) && not (changes a) ≡ false → (touches_alone z c ≡ true) × (is_some (c.versions x) && not (changes (c.rights z)) ≡ false)) (sym i) (λ n. (wider r, unseen (is_some (c.versions x)) n)) n) (λ i r n. (r, n)) r n)
        (λ x xs v n. by x xs v n (changes (c.rights x)) refl) (λ x. tt),
    tt,
  )
    where
      less : Narrowed a (c.rights o)
      less = (order_at (Shift o a ∷ es) is).0

      wider : is_there a.reads || is_there a.writes ≡ true → touches_alone o c ≡ true
      wider r = or_by (is_there a.reads) (is_there a.writes) r (λ e. or_l _ _ (less.reads e)) (λ e. or_r (is_there (c.rights o).reads) _ (less.writes e))

      unseen : (v : Bool) → v && not (changes a) ≡ false → v && not (changes (c.rights o)) ≡ false
      unseen false n = refl
      unseen true n = go (changes a) refl n
        where
          go : (y : Bool) → changes a ≡ y → not y ≡ false → not (changes (c.rights o)) ≡ false
          go true e n = ap not ((widen a (c.rights o) less).writes e)
          go false e n = absurd (cc)

      by : (x : ℕ) (xs : Cells) → c.versions x ≡ Some xs → changes (put c.rights o a x) ≡ false → (y : Bool) → changes (c.rights x) ≡ y → ((c.versions x ≡ Some xs) × (changes (c.rights x) ≡ false)) ⊎ ((xs ≡ f x) × (touches_alone x c ≡ true) × (seen x c ≡ false))
      by x xs v n false e = inl (v, e)
      by x xs v n true e = inr (fresh_version s x xs v e)
  own (Leave o ∷ es) is s = (
    again_at (Leave o) es is (with_pending es (quietly (Leave o) f c)) refl refl s
        (λ x r n. bars x r n (eqb_tells x o)) (λ x xs v n. keeps x xs v n (eqb_tells x o)) (λ x. tt),
    tt,
  )
    where
      bars : (x : ℕ) → is_there (put c.rights o no_rights x).reads || is_there (put c.rights o no_rights x).writes ≡ true → is_some (put c.versions o None x) && not (changes (put c.rights o no_rights x)) ≡ false → ((nat_eq x o ≡ true) × (x ≡ o)) ⊎ ((nat_eq x o ≡ false) × (x ≢ o)) → (touches_alone x c ≡ true) × (seen x c ≡ false)
      bars x r n (inl e) = absurd (let z : false ≡ true = sym (ap (λ k. is_there (if k then no_rights else c.rights x).reads || is_there (if k then no_rights else c.rights x).writes) e.0) ∙ r in cc)
      bars x r n (inr e) =
          (subst (λ (y : Rights). is_there y.reads || is_there y.writes ≡ true) (put_there c.rights o no_rights x e.1) r, subst (λ (y : Rights). is_some (c.versions x) && not (changes y) ≡ false) (put_there c.rights o no_rights x e.1) (subst (λ w. is_some w && not (changes (put c.rights o no_rights x)) ≡ false) (put_there c.versions o None x e.1) n))

      keeps : (x : ℕ) (xs : Cells) → put c.versions o None x ≡ Some xs → changes (put c.rights o no_rights x) ≡ false → ((nat_eq x o ≡ true) × (x ≡ o)) ⊎ ((nat_eq x o ≡ false) × (x ≢ o)) → ((c.versions x ≡ Some xs) × (changes (c.rights x) ≡ false)) ⊎ ((xs ≡ f x) × (touches_alone x c ≡ true) × (seen x c ≡ false))
      keeps x xs v n (inl e) = absurd (let z : None ≡ Some xs = sym (ap (λ k. if k then None else c.versions x) e.0) ∙ v in cc)
      keeps x xs v n (inr e) = inl (sym (put_there c.versions o None x e.1) ∙ v, subst (λ (y : Rights). changes y ≡ false) (put_there c.rights o no_rights x e.1) n)
  own (Enter o a ∷ es) is s =
      (again_at (Enter o a) es is (with_pending es c) refl refl s (λ x r n. (r, n)) (λ x xs v n. inl (v, n)) (λ x. tt), tt)
  own (Enroll x n ∷ es) is s = absurd (order_at (Enroll x n ∷ es) is)
  own (TouchRead o x v ∷ es) is s = absurd (order_at (TouchRead o x v ∷ es) is)
  own (TouchWrite o x v ∷ es) is s = absurd (order_at (TouchWrite o x v ∷ es) is)
  own (Wants o x ∷ es) is s = absurd (order_at (Wants o x ∷ es) is)
  own (Resign x n ∷ es) is s = absurd (order_at (Resign x n ∷ es) is)
  own [] is s = deed c.doing.course refl
    where
      one : (x : Course) → c.doing.course ≡ x → (d : Live) → d.path ≡ c.path → d.part ≡ c.part → d.rights ≡ c.rights → d.versions ≡ c.versions → Stands zero (log ++ (deed_done x f c).marks) d
      one x e d path part rights versions =
          subst (λ z. Stands zero (log ++ (deed_done z f c).marks) d) e (again_own b l c f zero log [] is fits far before fresh order unborn contents d path part s
          (λ x r n. (sym (ap (λ g. is_there (g x).reads || is_there (g x).writes) rights) ∙ r, sym (ap (λ g. is_some (g x) && not (changes (c.rights x))) versions) ∙ sym (ap (λ g. is_some (d.versions x) && not (changes (g x))) rights) ∙ n))
          (λ x xs v n. inl (sym (ap (λ g. g x) versions) ∙ v, sym (ap (λ g. changes (g x)) rights) ∙ n))
          (λ x n v. added b l c f zero log [] is fits far before fresh order unborn contents x (Neutral c.path c.part) (λ q. tt) (λ out cl w. clash (changes (c.rights x)) (may_changes (c.held x) (c.rights x) out (own_fit.holds x)) (sym (ap (λ g. changes (g x)) rights) ∙ n))))

      deed : (x : Course) → c.doing.course ≡ x → Every (Stands zero (log ++ (deed_done c.doing.course f c).marks)) (deed_done c.doing.course f c).tasks
      deed x e = subst (λ z. Every (Stands zero (log ++ (deed_done z f c).marks)) (deed_done z f c).tasks) (sym e) (by x e)
        where
          by : (x : Course) → c.doing.course ≡ x → Every (Stands zero (log ++ (deed_done x f c).marks)) (deed_done x f c).tasks
          by (Creates child body on) e = (kid_stands child body on e is s, (next_stands child body on e is s, tt))
          by (Ends z) e = tt
          by (Steps on) e = absurd (subst (Ready c.held) e (order_at [] is).1)
          by (Changes new on) e = absurd (subst (Ready c.held) e (order_at [] is).1)
          by (Reads o cl on) e = (one (Reads o cl on) e (going_on (on (value_in (content_for c o (f o)) cl)) c.doing.steps c) refl refl refl refl, tt)
          by (Writes o cl v on) e = (one (Writes o cl v on) e (going_on on c.doing.steps (record c { place = tt })) refl refl refl refl, tt)

-- every state keeps its tasks' places
pub state_stands : (p : AbstractProgram) (ns : List ℤ) (limit : ℕ) → Proper (root_spec p) (root_course p ns limit) → (st : State) → reaches.Reached p ns limit st
    → Every (Stands (zeros (sizes p.items)) st.log) st.roll
state_stands p ns limit proper _ reaches.starts = (record { mine = tt; barred = λ o r n. tt; kept = λ o xs v n. absurd (cc) }, tt)
state_stands p ns limit proper _ (reaches.steps {st = st} b l c r roll allowed) =
    let zero = zeros (sizes p.items) in
    let g = (reached_sound p ns limit proper st r).by (λ o. []) in
    let fits = subst (Every Fit) roll g.fits in
    let far = subst (Pairs Apart) roll g.apart in
    let before = λ (o : ℕ). subst (Pairs (Before o)) roll (g.before o) in
    let fresh = λ (o : ℕ). (every_back (Fresh o (st.contents o)) b (c ∷ l) (subst (Every (Fresh o (st.contents o))) roll (g.fresh o))).0 in
    let order = subst (Pairs InOrder) roll (state_order p ns limit proper st r) in
    let unborn = (every_back (Unborn st.log) b (c ∷ l) (subst (Every (Unborn st.log)) roll (state_unborn p ns limit proper st r))).0 in
    let old = subst (Every (Stands zero st.log)) roll (state_stands p ns limit proper st r) in
    let log' = st.log ++ (event_done c.doing.pending st.contents c).marks in
    every_change (Stands zero st.log) (Stands zero log') b c (event_done c.doing.pending st.contents c).tasks l old
    (fronts b l c st.contents zero st.log c.doing.pending refl fits far before fresh order unborn g.contents b (pairs_front Apart b c l far) (every_front Fit b (c ∷ l) fits) (λ o. pairs_front (Before o) b c l (before o)) (pairs_front InOrder b c l order))
    (backs b l c st.contents zero st.log c.doing.pending refl fits far before fresh order unborn g.contents l (pairs_back Apart b c l far) (λ o. pairs_back (Before o) b c l (before o)) (pairs_back InOrder b c l order))
    (own b l c st.contents zero st.log fits far before fresh order unborn g.contents c.doing.pending refl (every_back (Stands zero st.log) b (c ∷ l) old).0)

-- a task's place is that where its next child begins
module _ (log : List Mark) (c : Live) (mine : Every (λ (m : Mark). m.path ≡ c.path → m.children ≤ c.part) log) (unborn : Unborn log c) where
  abbrev kp : Path
  kp = c.path

  abbrev kn : ℕ
  kn = c.part

  abbrev kc : Path
  kc = kp ++ kn ∷ []

  kid_foreign : Every (λ (m : Mark). (Within kp kn m.path) × (m.path ≡ kp → ⊥) → ⊥) log
  kid_foreign = every_unborn (λ q. (Within kp kn q) × (q ≡ kp → ⊥)) log (λ q k. unborn q k.0 k.1)

  kid_none : (q : Path) (r : Path) → ((Within kp kn q) × (q ≡ kp → ⊥) → ⊥) → q ≡ kp ++ kn ∷ r → ⊥
  kid_none q r h e = h (record { rest = kn ∷ r; is = e; from = omega arith }, λ i. not_longer kp kn r (sym e ∙ i))

  kid_down : (q : Path) (k : ℕ) → (q ≡ kp → k ≤ kn) → same_path q kp || is_before (q ++ k ∷ []) (kp ++ kn ∷ []) ≡ true → same_path q kc || is_before (q ++ k ∷ []) (kc ++ 0 ∷ []) ≡ true
  kid_down q k le h =
      or_by (same_path q kp) _ h (λ e. let i : q ≡ kp = same_is q kp e in or_r (same_path q kc) _ (subst (λ z. is_before (z ++ k ∷ []) (kc ++ 0 ∷ []) ≡ true) (sym i) (part_before kp k kn (le i))))
      (λ e. or_r (same_path q kc) _ (trans (q ++ k ∷ []) (kp ++ kn ∷ []) (kc ++ 0 ∷ []) e (part_before kp kn kn (omega arith))))

  kid_same : (q : Path) (k : ℕ) → (q ≡ kp → k ≤ kn) → ((Within kp kn q) × (q ≡ kp → ⊥) → ⊥) → same_path q kp || is_before (q ++ k ∷ []) (kp ++ kn ∷ []) ≡ same_path q kc || is_before (q ++ k ∷ []) (kc ++ 0 ∷ [])
  kid_same q k le h = go (same_path q kp || is_before (q ++ k ∷ []) (kp ++ kn ∷ [])) refl (same_path q kc || is_before (q ++ k ∷ []) (kc ++ 0 ∷ [])) refl
    where
      strange : same_path q kc ≡ false
      strange = not_same q kc (λ e. kid_none q [] h e)

      go : (x : Bool) → same_path q kp || is_before (q ++ k ∷ []) (kp ++ kn ∷ []) ≡ x → (y : Bool) → same_path q kc || is_before (q ++ k ∷ []) (kc ++ 0 ∷ []) ≡ y → x ≡ y
      go true e true g = refl
      go false e false g = refl
      go true e false g = clash _ (kid_down q k le e) g
      go false e true g =
          let f0 = or_both (same_path q kp) _ e in
          let b1 : is_before (q ++ k ∷ []) (kc ++ 0 ∷ []) ≡ true = sym (ap (λ z. z || is_before (q ++ k ∷ []) (kc ++ 0 ∷ [])) strange) ∙ g in
          let w : q ++ k ∷ [] ≡ kp ++ kn ∷ [] = nothing_between kp kn (q ++ k ∷ []) f0.1 b1 in
          clash (same_path q kp) (ap (λ z. same_path z kp) (init_same q kp k kn w) ∙ path_same kp) f0.0

  kid_facts : Every (λ (m : Mark). (m.path ≡ kp → m.children ≤ kn) × ((Within kp kn m.path) × (m.path ≡ kp → ⊥) → ⊥)) log
  kid_facts = every_2 (λ (m : Mark). m.path ≡ kp → m.children ≤ kn) (λ (m : Mark). (Within kp kn m.path) × (m.path ≡ kp → ⊥) → ⊥) (λ (m : Mark). (m.path ≡ kp → m.children ≤ kn) × ((Within kp kn m.path) × (m.path ≡ kp → ⊥) → ⊥)) (λ m a b3. (a, b3)) log mine kid_foreign

  kid_works : (o : ℕ) → Every (λ w. passes kp kn w ≡ passes kc 0 w) (works_on o log)
  kid_works o = every_work o (λ w. passes kp kn w ≡ passes kc 0 w) (λ q. refl) log (every_with (λ (m : Mark). (m.path ≡ kp → m.children ≤ kn) × ((Within kp kn m.path) × (m.path ≡ kp → ⊥) → ⊥)) (λ (m : Mark). (c : ℕ) (v : ℤ) → passes kp kn (Wrote m.path m.children c v) ≡ passes kc 0 (Wrote m.path m.children c v)) (λ m h c v. kid_same m.path m.children h.0 h.1) log kid_facts)

  pub kid_upto : (o : ℕ) → upto c.path c.part (works_on o log) ≡ upto (c.path ++ c.part ∷ []) 0 (works_on o log)
  kid_upto o = upto_same kp kc kn 0 (works_on o log) (kid_works o)

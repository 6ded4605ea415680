-- What no entry keeps a task from stays so.
use Rattle.std.proofs.Common.{◌≡◌, ◌≢◌, ℕ, zero, suc, Bool, true, false, ◌&&◌, ◌||◌, List, [], ◌∷◌, ◌++◌, refl, sym, ap, ◌∙◌, subst, Option, Some, None, ◌⊎◌}
use Rattle.std.proofs.Common.{inl, inr}
use Rattle.std.specs.Prelude.{ℤ, nat_eq, is_none, slice_get, if◌then◌else◌}
use Rattle.std.proofs.lemmas.Bool.Decides.{eqb_tells}
use Rattle.jade_base.specs.declared.rights.Rights.{Rights}
use Rattle.jade_base.specs.declared.rights.Mode.{Mode}
use Rattle.jade_base.specs.declared.rights.Mode.TheVariants.{Reading, Writing, Commuting}
use Rattle.jade_base.specs.Rights.{is_there}
use Rattle.jade_syntax.specs.declared.tree.Program.{Program}
use Rattle.jade_meaning.specs.Talk.{Event, Enter, Enroll, Take, TouchRead, TouchWrite, Wants, Give, Leave, Shift, Resign}
use Rattle.jade_meaning.specs.Walk.{upcoming, First}
use Rattle.object_shelf.specs.declared.queue.Entry.{Entry}
use Rattle.object_shelf.specs.Views.{ObjectView}
use Rattle.object_shelf.specs.Shelves.{same_path, find, at, without, entered_in, newborn, changes, conflicts, blocker_in, if_read_only, held_for, version_at, released, with_rights, taken, given, shifted, left, entered, written}
use Rattle.schedule_core.specs.declared.steps.Seat.{Seat}
use Rattle.task_roll.specs.declared.note.PartNote.{PartNote}
use Rattle.schedule_core.specs.Fitting.{Lessened}
use Rattle.schedule_core.specs.Plain.{on_shelf, Does, NotedIn, Reached}
use Rattle.schedule_core.specs.Shown.{shelf_at}
use Rattle.schedule_core.specs.Tells.{EntriesAreThere}
use Rattle.schedule_core.specs.Soundness.{Spares, StaysEnabled}
use Rattle.schedule_core.proofs.Changing.{widen}
use Rattle.schedule_core.proofs.Showing.{path_same, same_is, shelf_here, shelf_there, keeper_none, keeper_is}
use Rattle.schedule_core.proofs.Moves.{queue_taken}

-- tests
or_true : (a b : Bool) → a || b ≡ true → (a ≡ true) ⊎ (b ≡ true)
or_true true b h = inl refl
or_true false b h = inr h

or_left : (a b : Bool) → a ≡ true → a || b ≡ true
or_left true b h = refl
or_left false b h = absurd (cc)

or_right : (a b : Bool) → b ≡ true → a || b ≡ true
or_right true b h = refl
or_right false b h = h

both : (a b : Bool) → a && b ≡ true → (a ≡ true) × (b ≡ true)
both true b h = (refl, h)
both false b h = absurd (cc)

and : (a b : Bool) → a ≡ true → b ≡ true → a && b ≡ true
and true b h g = g
and false b h g = absurd (cc)

or_less : (a b c d : Bool) → (a ≡ true → c ≡ true) → (b ≡ true → d ≡ true) → a || b ≡ true → c || d ≡ true
or_less a b c d f g h = go (or_true a b h)
  where
    go : (a ≡ true) ⊎ (b ≡ true) → c || d ≡ true
    go (inl x) = or_left c d (f x)
    go (inr x) = or_right c d (g x)

-- an entry with no more rights, and a version where the other has one and changes nothing, conflicts no more
calmer : (m : Mode) (d e : Entry) → Lessened d.rights e.rights → (is_none d.version ≡ true → changes e.rights || is_none e.version ≡ true) → conflicts m d
    ≡ true → conflicts m e ≡ true
calmer Reading d e less v h = less.writes h
calmer Writing d e less v h = go (or_true (changes d.rights) (is_there d.rights.reads && is_none d.version) h)
  where
    go : (changes d.rights ≡ true) ⊎ (is_there d.rights.reads && is_none d.version ≡ true) → conflicts Writing e ≡ true
    go (inl x) = or_left (changes e.rights) (is_there e.rights.reads && is_none e.version) (less.writes x)
    go (inr x) =
        let r = both (is_there d.rights.reads) (is_none d.version) x in
        or_less (changes e.rights) (is_none e.version) (changes e.rights) (is_there e.rights.reads && is_none e.version) (λ y. y)
        (λ y. and (is_there e.rights.reads) (is_none e.version) (less.reads r.0) y) (v r.1)
calmer Commuting d e less v h =
    let r = both (is_there d.rights.reads || is_there d.rights.writes) (changes d.rights || is_none d.version) h in
    and (is_there e.rights.reads || is_there e.rights.writes) (changes e.rights || is_none e.version)
    (or_less (is_there d.rights.reads) (is_there d.rights.writes) (is_there e.rights.reads) (is_there e.rights.writes) less.reads less.alone r.0)
    (go (or_true (changes d.rights) (is_none d.version) r.1))
  where
    go : (changes d.rights ≡ true) ⊎ (is_none d.version ≡ true) → changes e.rights || is_none e.version ≡ true
    go (inl x) = or_left (changes e.rights) (is_none e.version) (less.writes x)
    go (inr x) = v x

no_less : (a : Rights) → Lessened a a
no_less a = record { reads = λ x. x; writes = λ x. x; alone = λ x. x }

kept_version : (a : Rights) (v : Option (List ℤ)) → is_none (if_read_only a v) ≡ true → changes a || is_none v ≡ true
kept_version a v h = go (changes a) h
  where
    go : (b : Bool) → is_none (if b then None else v) ≡ true → b || is_none v ≡ true
    go true h = refl
    go false h = h

none_at : (m : Mode) (v : Option (List ℤ)) (xs : List ℤ) → is_none (version_at m v xs) ≡ true → is_none v ≡ true
none_at Reading v xs h = absurd (cc)
none_at Writing v xs h = h
none_at Commuting v xs h = h

not_now : (m : Mode) (d e : Entry) → (conflicts m d ≡ true → conflicts m e ≡ true) → conflicts m e ≡ false → conflicts m d ≡ false
not_now m d e f h = go (conflicts m d) refl
  where
    go : (b : Bool) → conflicts m d ≡ b → conflicts m d ≡ false
    go true q = absurd (let x : false ≡ true = sym h ∙ f q in cc)
    go false q = q

-- the front of a queue in which nothing conflicts
front : (q : List ℕ) (m : Mode) (e : Entry) (es : List Entry) → blocker_in q m (e ∷ es) ≡ None → same_path e.path q ≡ false → (conflicts m e ≡ false)
    × (blocker_in q m es ≡ None)
front q m e es h n = go (conflicts m e) refl (sym (ap (λ b. if b then None else (if conflicts m e then Some e else blocker_in q m es)) n) ∙ h)
  where
    go : (b : Bool) → conflicts m e ≡ b → (if b then Some e else blocker_in q m es) ≡ None → (conflicts m e ≡ false) × (blocker_in q m es ≡ None)
    go true x k = absurd (cc)
    go false x k = (x, k)

stop : (q : List ℕ) (m : Mode) (e : Entry) (es : List Entry) → same_path e.path q ≡ true → blocker_in q m (e ∷ es) ≡ None
stop q m e es y = ap (λ b. if b then None else (if conflicts m e then Some e else blocker_in q m es)) y

pass : (q : List ℕ) (m : Mode) (e : Entry) (es : List Entry) → conflicts m e ≡ false → blocker_in q m es ≡ None → blocker_in q m (e ∷ es) ≡ None
pass q m e es n h = go (same_path e.path q) refl
  where
    go : (b : Bool) → same_path e.path q ≡ b → blocker_in q m (e ∷ es) ≡ None
    go true y = stop q m e es y
    go false y = ap (λ b. if b then None else (if conflicts m e then Some e else blocker_in q m es)) y ∙ ap (λ b. if b then Some e else blocker_in q m es) n ∙ h

-- one entry changes and conflicts no more than it did
changed : (q sp : List ℕ) (m : Mode) (g : Entry → Entry) → ((e : Entry) → (g e).path ≡ e.path) → (es : List Entry)
    → ((e : Entry) → find sp es ≡ Some e → conflicts m e ≡ false → conflicts m (g e) ≡ false) → blocker_in q m es ≡ None → blocker_in q m (at sp g es) ≡ None
changed q sp m g keeps [] calm h = refl
changed q sp m g keeps (e ∷ es) calm h = by (same_path sp e.path) refl (same_path e.path q) refl
    (λ n k. changed q sp m g keeps es (λ d f. calm d (ap (λ b. if b then Some e else find sp es) n ∙ f)) k)
  where
    by : (b : Bool) → same_path sp e.path ≡ b → (d : Bool) → same_path e.path q ≡ d
        → (same_path sp e.path ≡ false → blocker_in q m es ≡ None → blocker_in q m (at sp g es) ≡ None)
        → blocker_in q m (if same_path sp e.path then g e ∷ es else e ∷ at sp g es) ≡ None
    by true y true z again = ap (λ b. blocker_in q m (if b then g e ∷ es else e ∷ at sp g es)) y ∙ stop q m (g e) es (ap (λ r. same_path r q) (keeps e) ∙ z)
    by true y false z again =
        let r = front q m e es h z in
        ap (λ b. blocker_in q m (if b then g e ∷ es else e ∷ at sp g es)) y ∙ pass q m (g e) es (calm e (ap (λ b. if b then Some e else find sp es) y) r.0) r.1
    by false y true z again = ap (λ b. blocker_in q m (if b then g e ∷ es else e ∷ at sp g es)) y ∙ stop q m e (at sp g es) z
    by false y false z again =
        let r = front q m e es h z in
        ap (λ b. blocker_in q m (if b then g e ∷ es else e ∷ at sp g es)) y ∙ pass q m e (at sp g es) r.0 (again y r.1)

-- another path's entry goes
gone : (q sp : List ℕ) (m : Mode) → (sp ≡ q → ⊥) → (es : List Entry) → blocker_in q m es ≡ None → blocker_in q m (without sp es) ≡ None
gone q sp m n [] h = refl
gone q sp m n (e ∷ es) h = by (same_path sp e.path) refl (same_path e.path q) refl (λ k. gone q sp m n es k)
  where
    by : (b : Bool) → same_path sp e.path ≡ b → (d : Bool) → same_path e.path q ≡ d → (blocker_in q m es ≡ None → blocker_in q m (without sp es) ≡ None)
        → blocker_in q m (if same_path sp e.path then es else e ∷ without sp es) ≡ None
    by true y true z again = absurd (n (same_is sp e.path y ∙ same_is e.path q z))
    by true y false z again = ap (λ b. blocker_in q m (if b then es else e ∷ without sp es)) y ∙ (front q m e es h z).1
    by false y true z again = ap (λ b. blocker_in q m (if b then es else e ∷ without sp es)) y ∙ stop q m e (without sp es) z
    by false y false z again =
        let r = front q m e es h z in
        ap (λ b. blocker_in q m (if b then es else e ∷ without sp es)) y ∙ pass q m e (without sp es) r.0 (again r.1)

-- another path's child gets its entry
grown : (q sp c : List ℕ) (a : Rights) (m : Mode) → (sp ≡ q → ⊥) → (es : List Entry) → ((e : Entry) → find sp es ≡ Some e → Lessened a e.rights)
    → blocker_in q m es ≡ None → blocker_in q m (entered_in sp c a es) ≡ None
grown q sp c a m n [] less h = refl
grown q sp c a m n (e ∷ es) less h = by (same_path sp e.path) refl (same_path e.path q) refl
    (λ y k. grown q sp c a m n es (λ d f. less d (ap (λ b. if b then Some e else find sp es) y ∙ f)) k)
  where
    by : (b : Bool) → same_path sp e.path ≡ b → (d : Bool) → same_path e.path q ≡ d
        → (same_path sp e.path ≡ false → blocker_in q m es ≡ None → blocker_in q m (entered_in sp c a es) ≡ None)
        → blocker_in q m (if same_path sp e.path then newborn c a e ∷ (e ∷ es) else e ∷ entered_in sp c a es) ≡ None
    by true y true z again = absurd (n (same_is sp e.path y ∙ same_is e.path q z))
    by true y false z again =
        let r = front q m e es h z in
        let fewer = less e (ap (λ b. if b then Some e else find sp es) y) in
        ap (λ b. blocker_in q m (if b then newborn c a e ∷ (e ∷ es) else e ∷ entered_in sp c a es)) y
        ∙ pass q m (newborn c a e) (e ∷ es) (not_now m (newborn c a e) e (calmer m (newborn c a e) e fewer (kept_version e.rights e.version)) r.0) h
    by false y true z again = ap (λ b. blocker_in q m (if b then newborn c a e ∷ (e ∷ es) else e ∷ entered_in sp c a es)) y
        ∙ stop q m e (entered_in sp c a es) z
    by false y false z again =
        let r = front q m e es h z in
        ap (λ b. blocker_in q m (if b then newborn c a e ∷ (e ∷ es) else e ∷ entered_in sp c a es)) y ∙ pass q m e (entered_in sp c a es) r.0 (again y r.1)

-- an event on one object leaves the others
on_object : (o q : ℕ) (g : ObjectView → ObjectView) (ss : List ObjectView) → ((q : ℕ) → (shelf_at (on_shelf q g ss) q).queue ≡ (g (shelf_at ss q)).queue)
    → (P : List Entry → Type 0) → P (shelf_at ss o).queue → (q ≡ o → P (g (shelf_at ss o)).queue) → P (shelf_at (on_shelf q g ss) o).queue
on_object o q g ss none P same here = go (eqb_tells q o)
  where
    go : ((nat_eq q o ≡ true) × (q ≡ o)) ⊎ ((nat_eq q o ≡ false) × (q ≢ o)) → P (shelf_at (on_shelf q g ss) o).queue
    go (inl k) = subst (λ i. P (shelf_at (on_shelf i g ss) o).queue) (sym k.1) (subst P (sym (none o)) (here k.1))
    go (inr k) = subst (λ (s : ObjectView). P s.queue) (sym (shelf_there q o g ss (λ e. k.1 (sym e)))) same

some_entry : (d e : Entry) → ◌≡◌ {A = Option Entry} (Some d) (Some e) → d ≡ e
some_entry d e q = cc

module _ (p : Program) (ns : List ℤ) (limit : ℕ) (there : EntriesAreThere p ns limit) (k : ℕ) (roll : List Seat) (ss : List ObjectView) (notes : List PartNote)
    (r : Reached p ns limit k roll ss notes) (place : ℕ) (s : Seat) (at_place : slice_get roll place
    ≡ Some s) (ss' : List ObjectView) (new : List Seat) (q : List ℕ) (o : ℕ) (m : Mode) where
  abbrev Clear : List Entry → Type 0
  Clear es = blocker_in q m es ≡ None

  still : (e : Event) → First (upcoming s.walker) (λ x. x ≡ e) → Does e s ss new ss' → (same_path s.path q ≡ true → Spares o e) → Clear (shelf_at ss o).queue
      → Clear (shelf_at ss' o).queue
  still (Take i n) first does spares h =
      subst (λ z. Clear (shelf_at z o).queue) (sym does.2) (on_object o i (taken s.path n) ss (λ j. queue_taken j s.path n ss) Clear h
      (λ x. changed q s.path m (held_for n (shelf_at ss o).content) (λ e. refl) (shelf_at ss o).queue
      (λ e f c. not_now m (held_for n (shelf_at ss o).content e) e
      (calmer m (held_for n (shelf_at ss o).content e) e (no_less e.rights)
      (λ v. or_right (changes e.rights) (is_none e.version) (none_at n e.version (shelf_at ss o).content v))) c) h))
  still (Give i) first does spares h =
      subst (λ z. Clear (shelf_at z o).queue) (sym does.1) (on_object o i (given s.path) ss (λ j. ap (λ (z : ObjectView). z.queue) (shelf_here j (given s.path) ss refl)) Clear h
      (λ x. changed q s.path m released (λ e. refl) (shelf_at ss o).queue
      (λ e f c. not_now m (released e) e (calmer m (released e) e (no_less e.rights) (kept_version e.rights e.version)) c) h))
  still (Shift i a) first does spares h =
      let may = there.shifts k roll ss notes r place s at_place i a first in
      subst (λ z. Clear (shelf_at z o).queue) (sym does.1) (on_object o i (shifted s.path a) ss (λ j. ap (λ (z : ObjectView). z.queue) (shelf_here j (shifted s.path a) ss refl)) Clear h
      (λ x. changed q s.path m (with_rights a) (λ e. refl) (shelf_at ss o).queue (λ e f c. let same : may.entry ≡ e =
      some_entry may.entry e (sym may.there ∙ ap (λ j. find s.path (shelf_at ss j).queue) x ∙ f) in
      not_now m (with_rights a e) e (calmer m (with_rights a e) e (subst (λ (z : Entry). Lessened a z.rights) same (widen a may.entry.rights may.less))
      (λ v. or_right (changes e.rights) (is_none e.version) v)) c) h))
  still (Leave i) first does spares h =
      subst (λ z. Clear (shelf_at z o).queue) (sym does.1) (on_object o i (left s.path) ss (λ j. ap (λ (z : ObjectView). z.queue) (shelf_here j (left s.path) ss refl)) Clear h
      (λ x. gone q s.path m (λ e. spares (ap (λ z. same_path z q) e ∙ path_same q) x) (shelf_at ss o).queue h))
  still (Enter i a) first does spares h =
      let may = there.enters k roll ss notes r place s at_place i a first in
      subst (λ z. Clear (shelf_at z o).queue) (sym does.1) (on_object o i (entered s.path (s.path ++ s.children ∷ []) a) ss (λ j. ap (λ (z : ObjectView). z.queue) (shelf_here j (entered s.path (s.path ++ s.children ∷ []) a) ss refl)) Clear h
      (λ x. grown q s.path (s.path ++ s.children ∷ []) a m (λ e. spares (ap (λ z. same_path z q) e
      ∙ path_same q) x) (shelf_at ss o).queue (λ e f. let same : may.entry ≡ e =
      some_entry may.entry e (sym may.there ∙ ap (λ j. find s.path (shelf_at ss j).queue) x ∙ f) in
      subst (λ (z : Entry). Lessened a z.rights) same may.less) h))
  still (TouchWrite i c v) first does spares h = subst (λ z. Clear (shelf_at z o).queue) (sym does.1) (same_queue i)
    where
      same_queue : (j : ℕ) → Clear (shelf_at (on_shelf j (written c v) ss) o).queue
      same_queue j = subst Clear (sym (queue_same o j ss)) h
        where
          queue_same : (n j : ℕ) (zs : List ObjectView) → (shelf_at (on_shelf j (written c v) zs) n).queue ≡ (shelf_at zs n).queue
          queue_same n j [] = refl
          queue_same zero zero (z ∷ zs) = refl
          queue_same zero (suc j) (z ∷ zs) = refl
          queue_same (suc n) zero (z ∷ zs) = refl
          queue_same (suc n) (suc j) (z ∷ zs) = queue_same n j zs
  still (Wants i c) first does spares h = subst (λ z. Clear (shelf_at z o).queue) (sym does.1) h
  still (TouchRead i c v) first does spares h = absurd does
  still (Enroll t n) first does spares h = subst (λ z. Clear (shelf_at z o).queue) (sym does.3) h
  still (Resign b n) first does spares h = subst (λ z. Clear (shelf_at z o).queue) (sym does.1) h

pub stays_enabled : (p : Program) (ns : List ℤ) (limit : ℕ) → EntriesAreThere p ns limit → StaysEnabled p ns limit
stays_enabled p ns limit there =
    let clear = λ (k : ℕ) (roll : List Seat) (ss : List ObjectView) (notes : List PartNote) (r : Reached p ns limit k roll ss notes) (place : ℕ)
    (roll' : List Seat) (ss' : List ObjectView) (notes' : List PartNote) (step : NotedIn roll ss notes place roll' ss' notes') (q : List ℕ) (o : ℕ)
    (m : Mode) (spares : same_path step.step.seat.path q ≡ true → Spares o step.step.event) (h : blocker_in q m (shelf_at ss o).queue
    ≡ None). still p ns limit there k roll ss notes r place step.step.seat step.step.here ss' step.step.new q o m step.step.event step.step.next
    step.step.does spares h in
    record {
      unblocked = clear;
      free = λ k roll ss notes r place roll' ss' notes' step q o m n spares h. keeper_is q m (shelf_at ss' o).queue n
          (clear k roll ss notes r place roll' ss' notes' step q o m spares (keeper_none q m (shelf_at ss o).queue h));
    }

-- Who holds an object for commuting has had its turn last, and alone has written since.
use Rattle.std.proofs.Common.{◌≡◌, ◌≢◌, ℕ, Bool, true, false, List, [], ◌∷◌, ◌++◌, length, refl, sym, ap, ◌∙◌, subst, Option, Some, None, append-nil, append_assoc, ◌⊎◌, inl, inr}
use Rattle.std.specs.Prelude.{ℤ, slice_get, nat_eq, if◌then◌else◌}
use Rattle.std.specs.List.{cons_option}
use Rattle.std.proofs.lemmas.Bool.Decides.{eqb_tells}
use Rattle.std.proofs.lemmas.List.Elements.{filter_map-append}
use Rattle.jade_base.specs.declared.rights.Mode.{Mode}
use Rattle.jade_base.specs.declared.rights.Mode.TheVariants.{Reading, Writing, Commuting}
use Rattle.jade_syntax.specs.declared.tree.Program.{Program}
use Rattle.jade_syntax.specs.Abstract.{AbstractProgram}
use Rattle.jade_syntax.specs.Image.{program}
use Rattle.jade_syntax.specs.Objects.{sizes}
use Rattle.jade_meaning.specs.Course.{Course, Reads, Writes, Steps, Creates, Changes, Ends, root_spec, root_course}
use Rattle.jade_meaning.specs.Talk.{Event, Enter, Enroll, Take, TouchRead, TouchWrite, Wants, Give, Leave, Shift, Resign}
use Rattle.jade_meaning.specs.Serial.{Path, Mark, DidTurn, at_object, zeros}
use Rattle.jade_meaning.specs.Laws.{Every}
use Rattle.jade_meaning.specs.Proper.{Proper}
use Rattle.object_shelf.specs.declared.queue.Entry.{Entry}
use Rattle.object_shelf.specs.Shelves.{find}
use Rattle.object_shelf.specs.Views.{ObjectView}
use Rattle.schedule_core.specs.declared.steps.Seat.{Seat}
use Rattle.task_roll.specs.declared.note.PartNote.{PartNote}
use Rattle.schedule_core.specs.Core.{Cells, touches, put, is_out, at_home, permitted_event, mark}
use Rattle.schedule_core.specs.Unplaced.{Live, State, event_done, deed_done}
use Rattle.schedule_core.specs.Works.{Work, Wrote, Turned, works_on, work_on, worked}
use Rattle.schedule_core.specs.Sound.{Fit, Orderly, Ready, Before, Apart, Pairs}
use Rattle.schedule_core.specs.Going.{to_come}
use Rattle.schedule_core.specs.Reached as reaches
use Rattle.schedule_core.specs.Shown.{shelf_at, line}
use Rattle.schedule_core.specs.Remains.{IsOf, HeldTurns}
use Rattle.schedule_core.proofs.Calm.{put_either}
use Rattle.schedule_core.proofs.Pairs.{and_r, every_home}
use Rattle.schedule_core.proofs.Lines.{every_append, every_change, every_back, pairs_front, pairs_back}
use Rattle.schedule_core.proofs.Schedules.{reached_sound}
use Rattle.schedule_core.proofs.Tells.{own_found}
use Rattle.schedule_core.proofs.Mirrors.{Kept, kept, sound_of, split_at}
use Rattle.schedule_core.proofs.Following.{going_by}
use Rattle.schedule_core.proofs.NoEntry.{no_entry}

pub record Since (p : Path) (ws : List Work) : Type 0 where
  pub before : List Work
  pub own : List Work
  pub is : ws ≡ before ++ (Turned p ∷ own)
  pub mine : Every (IsOf p) own

abbrev pub Turns : List Mark → Live → Type 0
Turns log u = (o : ℕ) → u.held o ≡ Some Commuting → Since u.path (works_on o log)

clash : {A : Type 0} (b : Bool) → b ≡ true → b ≡ false → A
clash b e f = absurd (let z : true ≡ false = sym e ∙ f in cc)

module _ (b l : List Live) (c : Live) (f : ℕ → Cells) (log : List Mark) (es : List Event) (is : c.doing.pending ≡ es) (fits : Every Fit (b ++ (c ∷ l)))
    (before : (o : ℕ) → Pairs (Before o) (b ++ (c ∷ l))) (allowed : permitted_event es b l ≡ true) where
  orderly : Orderly c.doing.spec c.doing.plan c.doing.course es c.rights c.held
  orderly = subst (λ x. Orderly c.doing.spec c.doing.plan c.doing.course x c.rights c.held) is (every_back Fit b (c ∷ l) fits).0.orderly

  abbrev ms : List Mark
  ms = (event_done es f c).marks

  works_both : (o : ℕ) (xs : List Mark) → works_on o (log ++ xs) ≡ works_on o log ++ works_on o xs
  works_both o xs = filter_map-append (λ m. work_on o m.deed m.path m.children) log xs

  -- where the content is out with another task, this one does nothing to the object
  idle : (o : ℕ) → is_out (c.held o) ≡ false → (at_home o (b ++ l) ≡ true → ⊥) → works_on o ms ≡ []
  idle o out home = go es orderly allowed
    where
      deed : (d : Course) → Ready c.held d → works_on o (deed_done d f c).marks ≡ []
      deed (Reads x cl on) r = refl
      deed (Writes x cl v on) r = by (eqb_tells x o)
        where
          by : ((nat_eq x o ≡ true) × (x ≡ o)) ⊎ ((nat_eq x o ≡ false) × (x ≢ o)) → cons_option (if nat_eq x o then Some (Wrote c.path c.part cl v) else None) [] ≡ []
          by (inl e) = clash (is_out (c.held o)) (subst (λ (z : ℕ). is_out (c.held z) ≡ true) e.1 r) out
          by (inr e) = ap (λ z. cons_option (if z then Some (Wrote c.path c.part cl v) else None) []) e.0
      deed (Creates child body on) r = refl
      deed (Ends z) r = refl
      deed (Steps on) r = refl
      deed (Changes new on) r = refl

      go : (es : List Event) → Orderly c.doing.spec c.doing.plan c.doing.course es c.rights c.held → permitted_event es b l ≡ true → works_on o (event_done es f c).marks ≡ []
      go [] g a = deed c.doing.course g.1
      go (Take x Reading ∷ es) g a = refl
      go (Take x Writing ∷ es) g a = refl
      go (Take x Commuting ∷ es) g a = by (eqb_tells x o)
        where
          by : ((nat_eq x o ≡ true) × (x ≡ o)) ⊎ ((nat_eq x o ≡ false) × (x ≢ o)) → cons_option (if nat_eq x o then Some (Turned c.path) else None) [] ≡ []
          by (inl e) = absurd (home (subst (λ z. at_home z (b ++ l) ≡ true) e.1 (and_r _ _ a)))
          by (inr e) = ap (λ z. cons_option (if z then Some (Turned c.path) else None) []) e.0
      go (Give x ∷ es) g a = refl
      go (Enter x y ∷ es) g a = refl
      go (Shift x y ∷ es) g a = refl
      go (Leave x ∷ es) g a = refl
      go (Enroll x n ∷ es) g a = absurd g
      go (TouchRead x cl v ∷ es) g a = absurd g
      go (TouchWrite x cl v ∷ es) g a = absurd g
      go (Wants x cl ∷ es) g a = absurd g
      go (Resign x n ∷ es) g a = absurd g

  same_since : (q : Path) (o : ℕ) (xs : List Mark) → works_on o xs ≡ [] → Since q (works_on o log) → Since q (works_on o (log ++ xs))
  same_since q o xs e s = record { before = s.before; own = s.own; is = works_both o xs ∙ ap (λ z. works_on o log ++ z) e ∙ append-nil (works_on o log) ∙ s.is; mine = s.mine }

  out_commutes : {m : Option Mode} → m ≡ Some Commuting → is_out m ≡ true
  out_commutes e = ap is_out e

  not_out : (x : Bool) → (x ≡ true → ⊥) → x ≡ false
  not_out true k = absurd (k refl)
  not_out false k = refl

  -- other tasks
  in_front : (us : List Live) → Every (λ u. is_out (u.held 0) ≡ is_out (u.held 0)) us → (seen : (o : ℕ) → at_home o (b ++ l) ≡ true → Every (λ u. is_out (u.held o) ≡ false) us) → ((o : ℕ) → Every (λ u. Before o u c) us)
      → Every (λ u. Turns log u → Turns (log ++ ms) u) us
  in_front [] t seen k = tt
  in_front (u ∷ us) t seen k =
      (λ s o h. same_since u.path o ms (idle o (not_out (is_out (c.held o)) (λ e. (k o).0.one (out_commutes h) e)) (λ e. clash (is_out (u.held o)) (out_commutes h) (seen o e).0)) (s o h), in_front us t.1 (λ o e. (seen o e).1) (λ o. (k o).1))

  behind : (us : List Live) → (seen : (o : ℕ) → at_home o (b ++ l) ≡ true → Every (λ u. is_out (u.held o) ≡ false) us) → ((o : ℕ) → Every (Before o c) us)
      → Every (λ u. Turns log u → Turns (log ++ ms) u) us
  behind [] seen k = tt
  behind (u ∷ us) seen k =
      (λ s o h. same_since u.path o ms (idle o (not_out (is_out (c.held o)) (λ e. (k o).0.one e (out_commutes h))) (λ e. clash (is_out (u.held o)) (out_commutes h) (seen o e).0)) (s o h), behind us (λ o e. (seen o e).1) (λ o. (k o).1))

-- the task itself
own_turns : (c : Live) (f : ℕ → Cells) (log : List Mark) (es : List Event) → Orderly c.doing.spec c.doing.plan c.doing.course es c.rights c.held → Turns log c
    → Every (Turns (log ++ (event_done es f c).marks)) (event_done es f c).tasks
own_turns c f log es order s = go es order
  where
    works_more : (o : ℕ) (xs : List Mark) → works_on o (log ++ xs) ≡ works_on o log ++ works_on o xs
    works_more o xs = filter_map-append (λ m. work_on o m.deed m.path m.children) log xs

    still : (o : ℕ) (xs : List Mark) → works_on o xs ≡ [] → Since c.path (works_on o log) → Since c.path (works_on o (log ++ xs))
    still o xs e z = record { before = z.before; own = z.own; is = works_more o xs ∙ ap (λ y. works_on o log ++ y) e ∙ append-nil (works_on o log) ∙ z.is; mine = z.mine }

    turn : (x o : ℕ) → ((nat_eq x o ≡ true) × (x ≡ o)) ⊎ ((nat_eq x o ≡ false) × (x ≢ o)) → put c.held x (Some Commuting) o ≡ Some Commuting → Since c.path (works_on o (log ++ mark c (DidTurn x) ∷ []))
    turn x o (inl e) h = record { before = works_on o log; own = []; is = works_more o (mark c (DidTurn x) ∷ []) ∙ ap (λ z. works_on o log ++ cons_option (if z then Some (Turned c.path) else None) []) e.0; mine = tt }
    turn x o (inr e) h =
        still o (mark c (DidTurn x) ∷ []) (ap (λ z. cons_option (if z then Some (Turned c.path) else None) []) e.0) (s o (put_either (λ m. m ≡ Some Commuting → c.held o ≡ Some Commuting) c.held x (Some Commuting) o (λ i k. absurd (e.1 (sym i))) (λ i k. k) h))

    deed : (d : Course) → Ready c.held d → Every (Turns (log ++ (deed_done d f c).marks)) (deed_done d f c).tasks
    deed (Reads x cl on) r = (λ o h. still o _ refl (s o h), tt)
    deed (Writes x cl v on) r = (λ o h. by o (eqb_tells x o) (s o h), tt)
      where
        by : (o : ℕ) → ((nat_eq x o ≡ true) × (x ≡ o)) ⊎ ((nat_eq x o ≡ false) × (x ≢ o)) → Since c.path (works_on o log) → Since c.path (works_on o (log ++ (deed_done (Writes x cl v on) f c).marks))
        by o (inr e) z = still o (deed_done (Writes x cl v on) f c).marks (ap (λ y. cons_option (if y then Some (Wrote c.path c.part cl v) else None) []) e.0) z
        by o (inl e) z = record {
          before = z.before;
          own = z.own ++ Wrote c.path c.part cl v ∷ [];
          is = works_more o (deed_done (Writes x cl v on) f c).marks ∙ ap (λ y. works_on o log ++ cons_option (if y then Some (Wrote c.path c.part cl v) else None) []) e.0
              ∙ ap (λ ws. ws ++ Wrote c.path c.part cl v ∷ []) z.is ∙ append_assoc z.before (Turned c.path ∷ z.own) (Wrote c.path c.part cl v ∷ []);
          mine = every_append (IsOf c.path) z.own (Wrote c.path c.part cl v ∷ []) z.mine (refl, tt);
        }
    deed (Creates child body on) r = (λ o h. absurd (cc), (λ o h. still o _ refl (s o h), tt))
    deed (Ends z) r = tt
    deed (Steps on) r = absurd r
    deed (Changes new on) r = absurd r

    other : (x o : ℕ) (m : Option Mode) → (m ≡ Some Commuting → ⊥) → put c.held x m o ≡ Some Commuting → c.held o ≡ Some Commuting
    other x o m n h = put_either (λ y. y ≡ Some Commuting → c.held o ≡ Some Commuting) c.held x m o (λ i k. absurd (n k)) (λ i k. k) h

    go : (es : List Event) → Orderly c.doing.spec c.doing.plan c.doing.course es c.rights c.held → Every (Turns (log ++ (event_done es f c).marks)) (event_done es f c).tasks
    go [] g = deed c.doing.course g.1
    go (Take x Reading ∷ es) g = (λ o h. still o [] refl (s o (other x o (Some Reading) (λ e. absurd (cc)) h)), tt)
    go (Take x Writing ∷ es) g = (λ o h. still o [] refl (s o (other x o (Some Writing) (λ e. absurd (cc)) h)), tt)
    go (Take x Commuting ∷ es) g = (λ o h. turn x o (eqb_tells x o) h, tt)
    go (Give x ∷ es) g = (λ o h. still o [] refl (s o (other x o None (λ e. absurd (cc)) h)), tt)
    go (Enter x y ∷ es) g = (λ o h. still o [] refl (s o h), tt)
    go (Shift x y ∷ es) g = (λ o h. still o [] refl (s o h), tt)
    go (Leave x ∷ es) g = (λ o h. still o [] refl (s o h), tt)
    go (Enroll x n ∷ es) g = absurd g
    go (TouchRead x cl v ∷ es) g = absurd g
    go (TouchWrite x cl v ∷ es) g = absurd g
    go (Wants x cl ∷ es) g = absurd g
    go (Resign x n ∷ es) g = absurd g

every_same : (us : List Live) → Every (λ u. is_out (u.held 0) ≡ is_out (u.held 0)) us
every_same [] = tt
every_same (u ∷ us) = (refl, every_same us)

pub state_turns : (p : AbstractProgram) (ns : List ℤ) (limit : ℕ) → Proper (root_spec p) (root_course p ns limit) → (st : State) → reaches.Reached p ns limit st
    → Every (Turns st.log) st.roll
state_turns p ns limit proper _ reaches.starts = (λ o h. absurd (cc), tt)
state_turns p ns limit proper _ (reaches.steps {st = st} b l c r roll allowed) =
    let g = (reached_sound p ns limit proper st r).by (λ o. []) in
    let fits = subst (Every Fit) roll g.fits in
    let before = λ (o : ℕ). subst (Pairs (Before o)) roll (g.before o) in
    let old = subst (Every (Turns st.log)) roll (state_turns p ns limit proper st r) in
    every_change (Turns st.log) (Turns (st.log ++ (event_done c.doing.pending st.contents c).marks)) b c (event_done c.doing.pending st.contents c).tasks l old
    (in_front b l c st.contents st.log c.doing.pending refl fits before allowed b (every_same b) (λ o e. (every_home o b l e).0) (λ o. pairs_front (Before o) b c l (before o)))
    (behind b l c st.contents st.log c.doing.pending refl fits before allowed l (λ o e. (every_home o b l e).1) (λ o. pairs_back (Before o) b c l (before o)))
    (own_turns c st.contents st.log c.doing.pending (every_back Fit b (c ∷ l) fits).0.orderly (every_back (Turns st.log) b (c ∷ l) old).0)

-- an entry's hold is its task's
hold_of : (o : ℕ) (b l : List Live) (t : Live) (e : Entry) → Pairs Apart (b ++ (t ∷ l)) → find t.path (line o (b ++ (t ∷ l))) ≡ Some e → e.hold ≡ Some Commuting → (x : Bool) → touches (t.rights o) ≡ x
    → t.held o ≡ Some Commuting
hold_of o b l t e far here h true k =
    let own : Entry = record { path = t.path; rights = t.rights o; hold = t.held o; version = t.versions o } in
    let same : own ≡ e = some_entry own e (sym (own_found o b l t far k) ∙ here) in
    ap (λ (z : Entry). z.hold) same ∙ h
  where
    some_entry : (d e : Entry) → ◌≡◌ {A = Option Entry} (Some d) (Some e) → d ≡ e
    some_entry d e q = cc
hold_of o b l t e far here h false k = absurd (let z : None ≡ Some e = sym (no_entry o b l t far k) ∙ here in cc)

module _ (proper : (p : AbstractProgram) (ns : List ℤ) (limit : ℕ) → Proper (root_spec p) (root_course p ns limit)) (p : Program) (ns : List ℤ) (limit : ℕ) where
  held_of : (k : ℕ) (seats : List Seat) (ss : List ObjectView) (notes : List PartNote) (x : Kept p ns limit k seats ss notes) (rest : ℕ → List Path) (i : ℕ) (s : Seat)
      → slice_get seats i ≡ Some s → (o : ℕ) (e : Entry) → find s.path (shelf_at ss o).queue ≡ Some e → e.hold ≡ Some Commuting → Since s.path (works_on o x.state.log)
  held_of k seats ss notes x rest i s at o e found hold =
      let sp = split_at seats x.state.roll i s x.shown.seated at in
      let b = sp.before in
      let t = sp.task in
      let l = sp.later in
      let all = (sound_of proper p ns limit x.state x.reached).by (λ o. []) in
      let far = subst (Pairs Apart) sp.is all.apart in
      let turns = (every_back (Turns x.state.log) b (t ∷ l) (subst (Every (Turns x.state.log)) sp.is (state_turns (program p) ns limit (proper (program p) ns limit) x.state x.reached))).0 in
      let here : find t.path (line o (b ++ (t ∷ l))) ≡ Some e = ap (λ q. find q (line o (b ++ (t ∷ l)))) sp.sits.path ∙ ap (find s.path) (sym (ap (λ (z : ObjectView). z.queue) (x.shown.shelves o) ∙ ap (line o) sp.is)) ∙ found in
      subst (λ q. Since q (works_on o x.state.log)) sp.sits.path (turns o (hold_of o b l t e far here hold (touches (t.rights o)) refl))

  pub held_turns : HeldTurns p ns limit
  held_turns = record {
    held = λ k roll ss notes r rest i s at o e found hold. let x = kept proper p ns limit k roll ss notes r in
        let z = held_of k roll ss notes x rest i s at o e found hold in
        let g = going_by proper p ns limit k roll ss notes x rest in
        let later = works_on o (to_come rest (length (sizes p.items)) x.state) in
        record {
          before = z.before;
          own = z.own;
          after = later;
          is = g.works o ∙ filter_map-append (λ m. work_on o m.deed m.path m.children) x.state.log (to_come rest (length (sizes p.items)) x.state)
              ∙ ap (λ ws. ws ++ later) z.is ∙ append_assoc z.before (Turned s.path ∷ z.own) later;
          mine = z.mine;
          content = ap (λ (y : ObjectView). y.content) (x.shown.shelves o) ∙ g.contents o ∙ ap (λ ws. worked ws (at_object (zeros (sizes p.items)) o)) z.is;
        };
  }

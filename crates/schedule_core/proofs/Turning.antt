-- What a task is handed for its turn is the meaning's content there.
use Rattle.std.proofs.Common.{◌≡◌, ◌≢◌, ℕ, true, false, List, [], ◌∷◌, ◌++◌, length, refl, sym, ap, ◌∙◌, subst, Some, None, append_assoc, ◌⊎◌, inl, inr}
use Rattle.std.specs.Prelude.{ℤ, slice_get, is_some, nat_eq, if◌then◌else◌}
use Rattle.std.specs.List.{cons_option}
use Rattle.std.proofs.Math.Path.{fun_ext}
use Rattle.std.proofs.lemmas.Bool.{eq-eqb, ne_eqb}
use Rattle.std.proofs.lemmas.Bool.Decides.{eqb_tells}
use Rattle.std.proofs.lemmas.List.Elements.{filter_map-append}
use Rattle.jade_base.specs.declared.rights.Mode.TheVariants.{Commuting}
use Rattle.jade_syntax.specs.declared.tree.Program.{Program}
use Rattle.jade_syntax.specs.Abstract.{AbstractProgram}
use Rattle.jade_syntax.specs.Image.{program}
use Rattle.jade_syntax.specs.Objects.{sizes}
use Rattle.jade_meaning.specs.Course.{root_spec, root_course}
use Rattle.jade_meaning.specs.Talk.{Take}
use Rattle.jade_meaning.specs.Serial.{Path, Mark, Store, DidTurn, zeros}
use Rattle.jade_meaning.specs.Turns.{turns_on, turn_of, marks_by}
use Rattle.jade_meaning.specs.Laws.{Every}
use Rattle.jade_meaning.specs.Proper.{Proper}
use Rattle.jade_meaning.specs.Walk.{upcoming, First}
use Rattle.object_shelf.specs.Shelves.{keeper_in}
use Rattle.object_shelf.specs.Views.{ObjectView}
use Rattle.schedule_core.specs.declared.steps.Seat.{Seat}
use Rattle.task_roll.specs.declared.note.PartNote.{PartNote}
use Rattle.schedule_core.specs.Core.{mark, touches}
use Rattle.schedule_core.specs.Unplaced.{Live, stepped, event_done}
use Rattle.schedule_core.specs.Works.{Turned, works_on, work_on}
use Rattle.schedule_core.specs.Sound.{Fit, Apart, Pairs}
use Rattle.schedule_core.specs.Going.{to_come}
use Rattle.schedule_core.specs.Reached as reaches
use Rattle.schedule_core.specs.Shown.{shelf_at, line}
use Rattle.schedule_core.specs.Soundness.{and_then}
use Rattle.schedule_core.specs.Remains.{TurnIsSerial, TurnsAreSerial, next_turn}
use Rattle.schedule_core.proofs.Changing.{may_some}
use Rattle.schedule_core.proofs.Lines.{every_with}
use Rattle.schedule_core.proofs.Showing.{blocked_is}
use Rattle.schedule_core.proofs.Moves.{ahead_is, take_free}
use Rattle.schedule_core.proofs.Tells.{take_heads}
use Rattle.schedule_core.proofs.Mirrors.{Kept, kept, sound_of, split_at}
use Rattle.schedule_core.proofs.Reporting.{turns_at}
use Rattle.schedule_core.proofs.Located.{turns_are}

-- with one turn more the lists are those in which it comes next
next_lists : (log : List Mark) (m : Mark) (q r : Path) (o y : ℕ) (rest : ℕ → List Path) → turns_on y (m ∷ []) ≡ cons_option (if nat_eq o y then Some q else None) []
    → q ≡ r → turns_on y (log ++ m ∷ []) ++ rest y ≡ turns_on y log ++ next_turn o r rest y
next_lists log m q r o y rest h i = ap (λ z. z ++ rest y) both ∙ go (eqb_tells y o)
  where
    both : turns_on y (log ++ m ∷ []) ≡ turns_on y log ++ cons_option (if nat_eq o y then Some q else None) []
    both = filter_map-append (λ m. turn_of y m.deed m.path) log (m ∷ []) ∙ ap (λ z. turns_on y log ++ z) h

    go : ((nat_eq y o ≡ true) × (y ≡ o)) ⊎ ((nat_eq y o ≡ false) × (y ≢ o))
        → (turns_on y log ++ cons_option (if nat_eq o y then Some q else None) []) ++ rest y ≡ turns_on y log ++ (if nat_eq y o then r ∷ rest y else rest y)
    go (inl e) =
        ap (λ b. (turns_on y log ++ cons_option (if b then Some q else None) []) ++ rest y) (eq-eqb o y (sym e.1)) ∙ append_assoc (turns_on y log) (q ∷ []) (rest y)
        ∙ ap (λ z. turns_on y log ++ (z ∷ rest y)) i ∙ sym (ap (λ b. turns_on y log ++ (if b then r ∷ rest y else rest y)) e.0)
    go (inr e) =
        ap (λ b. (turns_on y log ++ cons_option (if b then Some q else None) []) ++ rest y) (ne_eqb o y (λ z. e.1 (sym z))) ∙ append_assoc (turns_on y log) [] (rest y)
        ∙ sym (ap (λ b. turns_on y log ++ (if b then r ∷ rest y else rest y)) e.0)

module _ (proper : (p : AbstractProgram) (ns : List ℤ) (limit : ℕ) → Proper (root_spec p) (root_course p ns limit)) (p : Program) (ns : List ℤ) (limit : ℕ) where
  handed_of : (k : ℕ) (seats : List Seat) (ss : List ObjectView) (notes : List PartNote) → Kept p ns limit k seats ss notes → (rest : ℕ → List Path) (i : ℕ) (s : Seat)
      → slice_get seats i ≡ Some s → (o : ℕ) → First (upcoming s.walker) (λ x. x ≡ Take o Commuting)
      → keeper_in s.path Commuting (shelf_at ss o).queue ≡ None → TurnIsSerial p ns limit ss o s (and_then ss (next_turn o s.path rest))
  handed_of k seats ss notes x rest i s at o first clear =
      let st = x.state in
      let sp = split_at seats st.roll i s x.shown.seated at in
      let b = sp.before in
      let t = sp.task in
      let l = sp.later in
      let size = length (sizes p.items) in
      let zero : Store = zeros (sizes p.items) in
      let all = (sound_of proper p ns limit st x.reached).by (λ o. []) in
      let fits = subst (Every Fit) sp.is all.fits in
      let apart = subst (Pairs Apart) sp.is all.apart in
      let shelves = λ (q : ℕ). subst (λ roll. shelf_at ss q ≡ record { queue = line q roll; content = st.contents q; turns = turns_on q st.log }) sp.is (x.shown.shelves q) in
      let head = take_heads t o Commuting (ahead_is s t (λ y. y ≡ Take o Commuting) sp.sits first) in
      let some = every_with Fit (λ (u : Live). is_some (u.held o) ≡ true → touches (u.rights o) ≡ true) (λ u f e. may_some (u.held o) (u.rights o) e (f.holds o)) (b ++ (t ∷ l)) fits in
      let free = take_free b l t st.contents (λ q. turns_on q st.log) ss apart shelves o Commuting head.rest head.is some
      (blocked_is o t.path Commuting ss ∙ ap (λ q. keeper_in q Commuting (shelf_at ss o).queue) sp.sits.path ∙ clear) in
      let turn : List Mark = mark t (DidTurn o) ∷ [] in
      let marks_is : (event_done t.doing.pending st.contents t).marks ≡ turn = ap (λ es. (event_done es st.contents t).marks) head.is in
      let next = stepped b t l st in
      let log_is : next.log ≡ st.log ++ turn = ap (λ ms. st.log ++ ms) marks_is in
      let going = (sound_of proper p ns limit next (reaches.steps b l t x.reached sp.is free)).by rest in
      let lists : (λ (q : ℕ). turns_on q next.log ++ rest q) ≡ and_then ss (next_turn o s.path rest) = fun_ext (λ q. ap (λ ms. turns_on q ms ++ rest q) log_is
      ∙ next_lists st.log (mark t (DidTurn o)) t.path s.path o q rest refl sp.sits.path
      ∙ ap (λ z. z ++ next_turn o s.path rest q) (sym (ap (λ y. y.turns) (x.shown.shelves q)) ∙ sym (turns_at ss q))) in
      let own : works_on o (st.log ++ turn) ≡ works_on o st.log ++ Turned t.path ∷ [] = filter_map-append (λ m. work_on o m.deed m.path m.children) st.log turn
      ∙ ap (λ c. works_on o st.log ++ cons_option (if c then Some (Turned t.path) else None) []) (eq-eqb o o refl) in
      let later = works_on o (to_come rest size next) in
      record {
        before = works_on o st.log;
        after = later;
        is = subst (λ z. works_on o (marks_by (program p) ns limit z) ≡ works_on o st.log ++ (Turned s.path ∷ later)) lists
            (going.works o ∙ filter_map-append (λ m. work_on o m.deed m.path m.children) next.log (to_come rest size next)
            ∙ ap (λ ms. works_on o ms ++ later) log_is ∙ ap (λ ws. ws ++ later) own ∙ append_assoc (works_on o st.log) (Turned t.path ∷ []) later
            ∙ ap (λ q. works_on o st.log ++ (Turned q ∷ later)) sp.sits.path);
        content = ap (λ (y : ObjectView). y.content) (x.shown.shelves o) ∙ all.contents o;
        taken = sym (turns_are o st.log) ∙ sym (ap (λ y. y.turns) (x.shown.shelves o)) ∙ sym (turns_at ss o);
      }

  pub turns_are_serial : TurnsAreSerial p ns limit
  turns_are_serial = record {
    handed = λ k roll ss notes r rest i s e o first clear. handed_of k roll ss notes (kept proper p ns limit k roll ss notes r) rest i s e o first clear;
  }

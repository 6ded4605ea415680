-- What a task has of an object, or would be given, is the meaning's content at its place.
use Rattle.std.proofs.Common.{◌≡◌, ℕ, Bool, true, false, not, ◌&&◌, ◌||◌, List, [], ◌∷◌, ◌++◌, length, refl, sym, ap, ◌∙◌, subst, Option, Some, None}
use Rattle.std.specs.Prelude.{ℤ, slice_get, is_some, if◌then◌else◌}
use Rattle.jade_base.specs.declared.rights.Mode.{Mode}
use Rattle.jade_base.specs.declared.rights.Mode.TheVariants.{Reading, Writing, Commuting}
use Rattle.jade_base.specs.Rights.{is_there}
use Rattle.jade_syntax.specs.declared.tree.Program.{Program}
use Rattle.jade_syntax.specs.Abstract.{AbstractProgram}
use Rattle.jade_syntax.specs.Image.{program}
use Rattle.jade_syntax.specs.Objects.{sizes}
use Rattle.jade_meaning.specs.Course.{root_spec, root_course}
use Rattle.jade_meaning.specs.Talk.{Take}
use Rattle.jade_meaning.specs.Serial.{Path, Store, zeros, at_object}
use Rattle.jade_meaning.specs.Laws.{Every, child_path}
use Rattle.jade_meaning.specs.Proper.{Proper}
use Rattle.jade_meaning.specs.Walk.{upcoming, First}
use Rattle.object_shelf.specs.declared.queue.Entry.{Entry}
use Rattle.object_shelf.specs.Shelves.{find, keeper_in, version_of, version_or, changes, content_for}
use Rattle.object_shelf.specs.Views.{ObjectView}
use Rattle.schedule_core.specs.declared.steps.Seat.{Seat}
use Rattle.task_roll.specs.declared.note.PartNote.{PartNote}
use Rattle.schedule_core.specs.Core.{Cells, touches, writes_there, all_allow, allows}
use Rattle.schedule_core.specs.Unplaced.{Live, State}
use Rattle.schedule_core.specs.Works.{works_on, worked}
use Rattle.schedule_core.specs.Sound.{Fit, Orderly, Apart, Pairs, Before, Fresh, may}
use Rattle.schedule_core.specs.More.{InOrder}
use Rattle.schedule_core.specs.Going.{to_come}
use Rattle.schedule_core.specs.Places.{upto}
use Rattle.schedule_core.specs.Shown.{shelf_at, line}
use Rattle.schedule_core.specs.Remains.{Behind, HasIt, holds, keeps, handed, Places, ContentsAreSerial}
use Rattle.schedule_core.proofs.Calm.{mode_commutes}
use Rattle.schedule_core.proofs.Lines.{every_back, every_with, pairs_front, pairs_back}
use Rattle.schedule_core.proofs.Pairs.{every_allows}
use Rattle.schedule_core.proofs.Showing.{free_is, keeper_none}
use Rattle.schedule_core.proofs.Moves.{ahead_is}
use Rattle.schedule_core.proofs.Tells.{own_found, take_heads}
use Rattle.schedule_core.proofs.Mirrors.{Kept, kept, sound_of, split_at}
use Rattle.schedule_core.proofs.Queued.{state_order}
use Rattle.schedule_core.proofs.Standing.{Stands, state_stands, touches_alone, seen, upto_all, kid_upto}
use Rattle.schedule_core.proofs.Unborn.{Unborn, state_unborn}
use Rattle.schedule_core.proofs.NoEntry.{no_entry}
use Rattle.schedule_core.proofs.EntryOwners.{kid_entry}
use Rattle.schedule_core.proofs.Behind.{left_behind, works_behind}
use Rattle.schedule_core.proofs.Located.{remains_so}

some_entry : (d e : Entry) → ◌≡◌ {A = Option Entry} (Some d) (Some e) → d ≡ e
some_entry d e q = cc

module _ (proper : (p : AbstractProgram) (ns : List ℤ) (limit : ℕ) → Proper (root_spec p) (root_course p ns limit)) (p : Program) (ns : List ℤ) (limit : ℕ) where
  module _ (k : ℕ) (seats : List Seat) (ss : List ObjectView) (notes : List PartNote) (x : Kept p ns limit k seats ss notes) (rest : ℕ → List Path) where
    abbrev st : State
    st = x.state

    abbrev zero : Store
    zero = zeros (sizes p.items)

    module _ (i : ℕ) (s : Seat) (at : slice_get seats i ≡ Some s) (o : ℕ) (e : Entry) (found : find s.path (shelf_at ss o).queue ≡ Some e) where
      abbrev b : List Live
      b = (split_at seats x.state.roll i s x.shown.seated at).before

      abbrev t : Live
      t = (split_at seats x.state.roll i s x.shown.seated at).task

      abbrev l : List Live
      l = (split_at seats x.state.roll i s x.shown.seated at).later

      roll_is : x.state.roll ≡ b ++ (t ∷ l)
      roll_is = (split_at seats x.state.roll i s x.shown.seated at).is

      fits : Every Fit (b ++ (t ∷ l))
      fits = subst (Every Fit) roll_is ((sound_of proper p ns limit x.state x.reached).by (λ o. [])).fits

      fit : Fit t
      fit = (every_back Fit b (t ∷ l) fits).0

      far : Pairs Apart (b ++ (t ∷ l))
      far = subst (Pairs Apart) roll_is ((sound_of proper p ns limit x.state x.reached).by (λ o. [])).apart

      before : Pairs (Before o) (b ++ (t ∷ l))
      before = subst (Pairs (Before o)) roll_is (((sound_of proper p ns limit x.state x.reached).by (λ o. [])).before o)

      fresh : Fresh o (x.state.contents o) t
      fresh = (every_back (Fresh o (x.state.contents o)) b (t ∷ l) (subst (Every (Fresh o (x.state.contents o))) roll_is (((sound_of proper p ns limit x.state x.reached).by (λ o. [])).fresh o))).0

      order : Pairs InOrder (b ++ (t ∷ l))
      order = subst (Pairs InOrder) roll_is (state_order (program p) ns limit (proper (program p) ns limit) x.state x.reached)

      stands : Stands zero x.state.log t
      stands = (every_back (Stands zero x.state.log) b (t ∷ l) (subst (Every (Stands zero x.state.log)) roll_is (state_stands (program p) ns limit (proper (program p) ns limit) x.state x.reached))).0

      path_is : t.path ≡ s.path
      path_is = (split_at seats x.state.roll i s x.shown.seated at).sits.path

      part_is : t.part ≡ s.children
      part_is = (split_at seats x.state.roll i s x.shown.seated at).sits.part

      abbrev own : Entry
      own = record { path = t.path; rights = t.rights o; hold = t.held o; version = t.versions o }

      queue_is : (shelf_at ss o).queue ≡ line o (b ++ (t ∷ l))
      queue_is = ap (λ (z : ObjectView). z.queue) (x.shown.shelves o) ∙ ap (line o) roll_is

      found_here : find t.path (line o (b ++ (t ∷ l))) ≡ Some e
      found_here = ap (λ q. find q (line o (b ++ (t ∷ l)))) path_is ∙ ap (find s.path) (sym queue_is) ∙ found

      own_is : own ≡ e
      own_is = go (touches (t.rights o)) refl
        where
          go : (z : Bool) → touches (t.rights o) ≡ z → own ≡ e
          go true h = some_entry own e (sym (own_found o b l t far h) ∙ found_here)
          go false h = absurd (let z : None ≡ Some e = sym (no_entry o b l t far h) ∙ found_here in cc)

      content_is : content_for s.path (shelf_at ss o) ≡ version_or (t.versions o) (x.state.contents o)
      content_is =
          ap (λ z. version_of z (shelf_at ss o).content) found ∙ ap (λ (z : Entry). version_or z.version (shelf_at ss o).content) (sym own_is)
          ∙ ap (version_or (t.versions o)) (ap (λ (z : ObjectView). z.content) (x.shown.shelves o))

      stand_so : is_there e.rights.reads || is_there e.rights.writes ≡ true → content_for s.path (shelf_at ss o) ≡ worked (upto s.path s.children (works_on o x.state.log)) (at_object zero o)
      stand_so r =
          content_is ∙ go (t.versions o) refl (changes (t.rights o)) refl
          ∙ ap (λ q. worked (upto q t.part (works_on o x.state.log)) (at_object zero o)) path_is ∙ ap (λ n. worked (upto s.path n (works_on o x.state.log)) (at_object zero o)) part_is
        where
          mine : touches_alone o t ≡ true
          mine = subst (λ (z : Entry). is_there z.rights.reads || is_there z.rights.writes ≡ true) (sym own_is) r

          plain : seen o t ≡ false → x.state.contents o ≡ worked (upto t.path t.part (works_on o x.state.log)) (at_object zero o)
          plain n =
              ((sound_of proper p ns limit x.state x.reached).by (λ o. [])).contents o ∙ ap (λ ws. worked ws (at_object zero o)) (sym (upto_all t.path t.part (works_on o x.state.log) (stands.barred o mine n)))

          unseen : (v : Bool) (c : Bool) → is_some (t.versions o) ≡ v → changes (t.rights o) ≡ c → v && not c ≡ false → seen o t ≡ false
          unseen v c f g h = ap (λ z. z && not (changes (t.rights o))) f ∙ ap (λ z. v && not z) g ∙ h

          go : (v : Option Cells) → t.versions o ≡ v → (c : Bool) → changes (t.rights o) ≡ c → version_or (t.versions o) (x.state.contents o) ≡ worked (upto t.path t.part (works_on o x.state.log)) (at_object zero o)
          go None f c g = ap (λ z. version_or z (x.state.contents o)) f ∙ plain (unseen false c (ap is_some f) g refl)
          go (Some xs) f true g = fresh g ∙ plain (unseen true true (ap is_some f) g refl)
          go (Some xs) f false g = ap (λ z. version_or z (x.state.contents o)) f ∙ stands.kept o xs f g

      -- nobody before it may change the object
      calm : is_there e.rights.commutes ≡ false → HasIt s ss o e → Every (λ u. writes_there o u ≡ false) b
      calm n h = go h
        where
          none : is_there (t.rights o).commutes ≡ false
          none = subst (λ (z : Entry). is_there z.rights.commutes ≡ false) (sym own_is) n

          not_changed : (a r : Bool) → not a && r ≡ true → a ≡ false
          not_changed true r e = absurd (cc)
          not_changed false r e = refl

          version : is_some (t.versions o) ≡ true → Every (λ u. writes_there o u ≡ false) b
          version v = every_with (λ u. Before o u t) (λ u. writes_there o u ≡ false) (λ u k. k.reading v) b (pairs_front (Before o) b t l before)

          held : (m : Option Mode) → t.held o ≡ m → is_some m ≡ true → Every (λ u. writes_there o u ≡ false) b
          held None f k = absurd (cc)
          held (Some Reading) f k = version (fit.reading o f)
          held (Some Writing) f k = every_with (λ u. Before o u t) (λ u. writes_there o u ≡ false) (λ u z. not_changed (writes_there o u) _ (z.writing f)) b (pairs_front (Before o) b t l before)
          held (Some Commuting) f k = absurd (let z : is_there (t.rights o).commutes ≡ true = subst (λ m. may m (t.rights o) ≡ true) f (fit.holds o) in let y : true ≡ false = sym z ∙ none in cc)

          take : (m : Mode) → First (upcoming s.walker) (λ y. y ≡ Take o m) → keeper_in s.path m (shelf_at ss o).queue ≡ None → all_allow o m b ≡ true
          take m first clear =
              free_is o m b l t far (keeper_none t.path m (line o (b ++ (t ∷ l))) (ap (λ q. keeper_in q m (line o (b ++ (t ∷ l)))) path_is ∙ ap (keeper_in s.path m) (sym queue_is) ∙ clear))

          allowed : (m : Mode) → First (upcoming s.walker) (λ y. y ≡ Take o m) → all_allow o m b ≡ true → Every (λ u. writes_there o u ≡ false) b
          allowed Reading first k = every_with (λ u. allows o Reading u ≡ true) (λ u. writes_there o u ≡ false) (λ u z. not_changed (writes_there o u) true (and_true (writes_there o u) z)) b (every_allows o Reading b k)
            where
              and_true : (a : Bool) → not a ≡ true → not a && true ≡ true
              and_true true e = absurd (cc)
              and_true false e = refl
          allowed Writing first k = every_with (λ u. allows o Writing u ≡ true) (λ u. writes_there o u ≡ false) (λ u z. not_changed (writes_there o u) _ z) b (every_allows o Writing b k)
          allowed Commuting first k =
              let head = take_heads t o Commuting (ahead_is s t (λ y. y ≡ Take o Commuting) (split_at seats x.state.roll i s x.shown.seated at).sits first) in
              let mode = (subst (λ es. Orderly t.doing.spec t.doing.plan t.doing.course es t.rights t.held) head.is fit.orderly).1 in
              absurd (let y : true ≡ false = sym (mode_commutes (t.rights o) mode) ∙ none in cc)

          go : HasIt s ss o e → Every (λ u. writes_there o u ≡ false) b
          go (holds y) = held (t.held o) refl (subst (λ (z : Entry). is_some z.hold ≡ true) (sym own_is) y)
          go (keeps y) = version (subst (λ (z : Entry). is_some z.version ≡ true) (sym own_is) y)
          go (handed m first clear) = allowed m first (take m first clear)

      behind_so : is_there e.rights.commutes ≡ false → HasIt s ss o e → Every (Behind s.path s.children) (works_on o (to_come rest (length (sizes p.items)) x.state))
      behind_so n h =
          subst (λ q. Every (Behind q s.children) (works_on o (to_come rest (length (sizes p.items)) x.state))) path_is (subst (λ m. Every (Behind t.path m) (works_on o (to_come rest (length (sizes p.items)) x.state))) part_is
          (works_behind o t.path t.part (to_come rest (length (sizes p.items)) x.state) (left_behind rest (length (sizes p.items)) o x.state b l t roll_is fits (calm n h) (pairs_back Apart b t l far) (pairs_back InOrder b t l order))))

    pub child_so : (i : ℕ) (s : Seat) → slice_get seats i ≡ Some s → (o : ℕ) (e : Entry) → find (child_path s.path s.children) (shelf_at ss o).queue ≡ Some e → (xs : Cells) → e.version ≡ Some xs
        → xs ≡ worked (upto (child_path s.path s.children) 0 (works_on o x.state.log)) (at_object zero o)
    child_so i s at o e found xs v =
        let sp = split_at seats x.state.roll i s x.shown.seated at in
        let b = sp.before in
        let t = sp.task in
        let l = sp.later in
        let far = subst (Pairs Apart) sp.is ((sound_of proper p ns limit x.state x.reached).by (λ o. [])).apart in
        let stands = (every_back (Stands zero x.state.log) b (t ∷ l) (subst (Every (Stands zero x.state.log)) sp.is (state_stands (program p) ns limit (proper (program p) ns limit) x.state x.reached))).0 in
        let unborn = (every_back (Unborn x.state.log) b (t ∷ l) (subst (Every (Unborn x.state.log)) sp.is (state_unborn (program p) ns limit (proper (program p) ns limit) x.state x.reached))).0 in
        let same : t.path ++ t.part ∷ [] ≡ child_path s.path s.children = ap (λ q. q ++ t.part ∷ []) sp.sits.path ∙ ap (λ n. s.path ++ n ∷ []) sp.sits.part in
        let here : find (t.path ++ t.part ∷ []) (line o (b ++ (t ∷ l))) ≡ Some e =
        ap (λ q. find q (line o (b ++ (t ∷ l)))) same ∙ ap (find (child_path s.path s.children)) (sym (ap (λ (z : ObjectView). z.queue) (x.shown.shelves o) ∙ ap (line o) sp.is)) ∙ found in
        let version : (if changes (t.rights o) then None else t.versions o) ≡ Some xs = sym (kid_entry o b l t far e here).version ∙ v in
        go t stands unborn same (changes (t.rights o)) refl version
      where
        go : (t : Live) → Stands zero x.state.log t → Unborn x.state.log t → t.path ++ t.part ∷ [] ≡ child_path s.path s.children → (z : Bool) → changes (t.rights o) ≡ z → (if z then None else t.versions o) ≡ Some xs
            → xs ≡ worked (upto (child_path s.path s.children) 0 (works_on o x.state.log)) (at_object zero o)
        go t stands unborn same true q w = absurd (cc)
        go t stands unborn same false q w =
            stands.kept o xs w q ∙ ap (λ ws. worked ws (at_object zero o)) (kid_upto x.state.log t stands.mine unborn o)
            ∙ ap (λ y. worked (upto y 0 (works_on o x.state.log)) (at_object zero o)) same

    places_so : Places p ns limit seats ss rest
    places_so = record {
      remains = remains_so proper p ns limit k seats ss notes x rest;
      stand = λ i s at o e found r. stand_so i s at o e found r;
      child = λ i s at o e found xs v. child_so i s at o e found xs v;
      behind = λ i s at o e found r n h. behind_so i s at o e found n h;
    }

  pub contents_are_serial : ContentsAreSerial p ns limit
  contents_are_serial = record { places = λ k roll ss notes r rest. places_so k roll ss notes (kept proper p ns limit k roll ss notes r) rest }

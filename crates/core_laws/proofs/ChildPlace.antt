-- The version that is kept for a task's next child is the meaning's content at the place where the child begins.
use Rattle.std.proofs.Common.{◌≡◌, ℕ, true, false, List, [], ◌∷◌, ◌++◌, length, Some, None, refl, sym, ap, ◌∙◌, subst, append_assoc, arith}
use Rattle.std.specs.Prelude.{ℤ, is_some, slice_get, if◌then◌else◌, Bool}
use Rattle.std.proofs.lemmas.List.Elements.{filter_map-append}
use Rattle.jade_syntax.specs.declared.tree.Program.{Program}
use Rattle.jade_syntax.specs.Abstract.{AbstractProgram}
use Rattle.jade_syntax.specs.Image.{program}
use Rattle.jade_syntax.specs.Objects.{sizes}
use Rattle.jade_meaning.specs.Course.{root_spec, root_course}
use Rattle.jade_meaning.specs.Laws.{Every, child_path}
use Rattle.jade_meaning.specs.Proper.{Proper}
use Rattle.jade_meaning.specs.Serial.{Path, zeros, at_object}
use Rattle.jade_meaning.specs.Turns.{marks_by}
use Rattle.object_shelf.specs.declared.queue.Entry.{Entry}
use Rattle.object_shelf.specs.Shelves.{find, changes}
use Rattle.object_shelf.specs.Views.{ObjectView}
use Rattle.task_roll.specs.declared.note.PartNote.{PartNote}
use Rattle.schedule_core.specs.declared.steps.Seat.{Seat}
use Rattle.schedule_core.specs.ByNumber.{shelf_at}
use Rattle.schedule_core.specs.Core.{Cells, writes_there}
use Rattle.schedule_core.specs.Going.{to_come}
use Rattle.schedule_core.specs.More.{InOrder}
use Rattle.schedule_core.specs.Places.{upto}
use Rattle.schedule_core.specs.Remains.{Behind, ContentsAreSerial}
use Rattle.schedule_core.specs.Shown.{line}
use Rattle.schedule_core.specs.Soundness.{and_then}
use Rattle.schedule_core.specs.Sound.{Fit, Apart, Before, Pairs}
use Rattle.schedule_core.specs.Unplaced.{Live}
use Rattle.schedule_core.specs.Works.{work_on, works_on, worked}
use Rattle.schedule_core.proofs.Behind.{left_from_key, later_child, works_behind}
use Rattle.schedule_core.proofs.Contents.{child_so}
use Rattle.schedule_core.proofs.EntryOwners.{kid_entry}
use Rattle.schedule_core.proofs.Lines.{every_append, every_back, every_with, pairs_front, pairs_back}
use Rattle.schedule_core.proofs.Located.{going}
use Rattle.schedule_core.proofs.Mirrors.{Kept, kept, split_at, not_kid}
use Rattle.schedule_core.proofs.Queued.{state_order}
use Rattle.schedule_core.proofs.Unborn.{Unborn, state_unborn}
use Rattle.core_laws.specs.ByPlace.{before_place, content_before, ContentsByPlace}
use Rattle.core_laws.proofs.ByPlace.{writes_in, own_many, marks_write, none_after, all_gone, has_by_place}

module _ (keeps : (p : AbstractProgram) (ns : List ℤ) (limit : ℕ) → Proper (root_spec p) (root_course p ns limit)) (p : Program) (ns : List ℤ) (limit : ℕ) where
  module _ (k : ℕ) (seats : List Seat) (ss : List ObjectView) (notes : List PartNote) (x : Kept p ns limit k seats ss notes) (rest : ℕ → List Path)
      (i : ℕ) (s : Seat) (at : slice_get seats i ≡ Some s) (o : ℕ) (e : Entry) (found : find (child_path s.path s.children) (shelf_at ss o).queue ≡ Some e)
      (xs : Cells) (v : e.version ≡ Some xs) where
    abbrev b : List Live
    b = (split_at seats x.state.roll i s x.shown.seated at).before

    abbrev t : Live
    t = (split_at seats x.state.roll i s x.shown.seated at).task

    abbrev l : List Live
    l = (split_at seats x.state.roll i s x.shown.seated at).later

    abbrev kid : Path
    kid = t.path ++ t.part ∷ []

    abbrev size : ℕ
    size = length (sizes p.items)

    roll_is : x.state.roll ≡ b ++ (t ∷ l)
    roll_is = (split_at seats x.state.roll i s x.shown.seated at).is

    kid_is : kid ≡ child_path s.path s.children
    kid_is =
        ap (λ q. q ++ t.part ∷ []) (split_at seats x.state.roll i s x.shown.seated at).sits.path
        ∙ ap (λ n. s.path ++ n ∷ []) (split_at seats x.state.roll i s x.shown.seated at).sits.part

    far : Pairs Apart (b ++ (t ∷ l))
    far = subst (Pairs Apart) roll_is (going keeps p ns limit k seats ss notes x rest).apart

    order : Pairs InOrder (b ++ (t ∷ l))
    order = subst (Pairs InOrder) roll_is (state_order (program p) ns limit (keeps (program p) ns limit) x.state x.reached)

    before : Pairs (Before o) (b ++ (t ∷ l))
    before = subst (Pairs (Before o)) roll_is ((going keeps p ns limit k seats ss notes x rest).before o)

    -- the version is the task's own, which so reads only
    version : (if changes (t.rights o) then None else t.versions o) ≡ Some xs
    version =
        sym (kid_entry o b l t far e (ap (λ q. find q (line o (b ++ (t ∷ l)))) kid_is
        ∙ ap (find (child_path s.path s.children)) (sym (ap (λ (z : ObjectView). z.queue) (x.shown.shelves o) ∙ ap (line o) roll_is)) ∙ found)).version ∙ v

    reads_only : (changes (t.rights o) ≡ false) × (is_some (t.versions o) ≡ true)
    reads_only = go (changes (t.rights o)) refl version
      where
        go : (z : Bool) → changes (t.rights o) ≡ z → (if z then None else t.versions o) ≡ Some xs → (changes (t.rights o) ≡ false) × (is_some (t.versions o) ≡ true)
        go true q w = absurd (cc)
        go false q w = (q, ap is_some w)

    -- so up to the task nobody may change the object, and what is left stands behind the child
    calm : Every (λ (u : Live). writes_there o u ≡ false) (b ++ t ∷ [])
    calm =
        every_append (λ u. writes_there o u ≡ false) b (t ∷ [])
        (every_with (λ u. Before o u t) (λ u. writes_there o u ≡ false) (λ u k. k.reading reads_only.1) b (pairs_front (Before o) b t l before)) (reads_only.0, tt)

    whole : x.state.roll ≡ (b ++ t ∷ []) ++ l
    whole = roll_is ∙ sym (append_assoc b (t ∷ []) l)

    behind : Every (Behind kid 0) (works_on o (to_come rest size x.state))
    behind =
        works_behind o kid 0 (to_come rest size x.state)
        (left_from_key rest size o x.state (kid ++ 0 ∷ []) (b ++ t ∷ []) l whole (subst (Every Fit) whole (going keeps p ns limit k seats ss notes x rest).fits) calm
        (later_child t l (pairs_back Apart b t l far) (pairs_back InOrder b t l order)))

    -- and the child has done nothing
    none_own : own_many kid (works_on o x.state.log) ≡ 0
    none_own =
        let unborn = (every_back (Unborn x.state.log) b (t ∷ l) (subst (Every (Unborn x.state.log)) roll_is (state_unborn (program p) ns limit (keeps (program p) ns limit) x.state x.reached))).0
        kid (record { rest = t.part ∷ []; is = refl; from = omega arith }) (λ q. not_kid t.path t.part (sym q)) in
        sym (marks_write o kid x.state.log) ∙ ap (writes_in o) unborn

    child_begins : xs ≡ content_before p (child_path s.path s.children) 0 0 o (marks_by (program p) ns limit (and_then ss rest))
    child_begins =
        let zero = at_object (zeros (sizes p.items)) o in
        let gone = works_on o x.state.log in
        let later = works_on o (to_come rest size x.state) in
        let first : works_on o (marks_by (program p) ns limit (and_then ss rest)) ≡ gone ++ later = (going keeps p ns limit k seats ss notes x rest).works o
        ∙ filter_map-append (λ m. work_on o m.deed m.path m.children) x.state.log (to_come rest size x.state) in
        let kept_is : xs ≡ worked (upto kid 0 gone) zero = child_so keeps p ns limit k seats ss notes x rest i s at o e found xs v
        ∙ ap (λ q. worked (upto q 0 gone) zero) (sym kid_is) in
        kept_is ∙ sym (none_after kid 0 later behind (worked (upto kid 0 gone) zero)) ∙ sym (all_gone kid 0 later gone zero)
        ∙ ap (λ n. worked (before_place kid 0 n (gone ++ later)) zero) none_own ∙ ap (λ ws. worked (before_place kid 0 0 ws) zero) (sym first)
        ∙ ap (λ q. worked (before_place q 0 0 (works_on o (marks_by (program p) ns limit (and_then ss rest)))) zero) kid_is

  pub contents_by_place : ContentsAreSerial p ns limit → ContentsByPlace p ns limit
  contents_by_place c = record {
    has = has_by_place p ns limit c;
    child = λ k roll ss notes r rest i s at o e found xs v. child_begins k roll ss notes (kept keeps p ns limit k roll ss notes r) rest i s at o e found xs v;
  }

-- A child that is created, and a change that is made, outside of a section for it.
use Rattle.std.proofs.Common.{◌≡◌, ℕ, ◌+◌, ◌<◌, List, length, Bool, true, false, Some, refl, sym, ap, ap₂, ◌∙◌, subst}
use Rattle.std.specs.Prelude.{slice_get}
use Rattle.jade_base.specs.declared.place.Pos.{Pos}
use Rattle.jade_base.specs.declared.report.FaultKind.TheVariants.{Cover, Commute}
use Rattle.jade_meaning.specs.Specification.{Specification, covers, fitted, may_commute}
use Rattle.jade_meaning.specs.Spread.{spread}
use Rattle.jade_meaning.specs.Course.{Course, Creates, Changes, Ends, NoDraft, Building, Amending, drafted, working, Mine, On, choose, fault}
use Rattle.code_meaning.specs.declared.code.Instruction.{Instruction}
use Rattle.code_meaning.specs.declared.code.Instruction.TheVariants as i
use Rattle.code_meaning.specs.Meaning.{Slots, Children, from_place, own}
use Rattle.task_machine.specs.declared.frame.Frame.{Frame}
use Rattle.task_machine.specs.declared.section.Own.{Own}
use Rattle.task_machine.specs.declared.section.Section.{Section}
use Rattle.task_machine.specs.declared.section.Section.TheVariants as section
use Rattle.task_machine.specs.Stages.{slots_of, InSection}
use Rattle.task_machine.specs.steps.Owning.{copy_spread, rights_of, draft_of}
use Rattle.task_machine.specs.steps.Acting.{KeepsRights}
use Rattle.task_machine.specs.steps.Running.{going}
use Rattle.task_machine.proofs.Meanings.{comes_to}
use Rattle.task_machine.proofs.Acting.{rights_same}
use Rattle.serial_machine.specs.declared.going.Stop.TheVariants as stop
use Rattle.serial_machine.specs.steps.Pausing.{Outside}
use Rattle.serial_machine.proofs.Owned.{building_is, amending_is, not_amending, long_fits, made_long, rights_long}

-- a child may be made, or why not
abbrev one_of : (may covered : Bool) → Course → Pos → Course
one_of true true a at = a
one_of true false a at = Ends (Some (record { kind = Cover; pos = Some at }))
one_of false b a at = Ends (Some (record { kind = Commute; pos = Some at }))

chosen : (c b : Bool) (f : On) (at : Pos) (m : Mine) → choose c (choose b f (fault Cover at)) (fault Commute at) m ≡ one_of c b (f m) at
chosen true true f at m = refl
chosen true false f at m = refl
chosen false b f at m = refl

module _ (code : List Instruction) (f : Frame) where
  abbrev ss : Slots
  ss = slots_of f.slots.items

  module _ (number : ℕ) (at : Pos) (here : slice_get code f.place ≡ Some (i.Create number at)) where
    -- what is done where this is made for the child
    abbrev creates : Children → Specification → Specification → Course
    creates child spec made =
        one_of (may_commute made) (covers spec made) (Creates made (child number ss made) (from_place child code f.left (f.place + 1) ss spec NoDraft)) at

    create_is : (child : Children) (w : Own) → going child code w f ≡ creates child (rights_of w) (fitted (rights_of w) (drafted (draft_of w)))
    create_is child w =
        let made = fitted (rights_of w) (drafted (draft_of w)) in
        comes_to child code f.left f.place ss (rights_of w) (draft_of w) (i.Create number at) here
        ∙ chosen (may_commute made) (covers (rights_of w) made) (λ m. Creates made (child number ss made) (from_place child code f.left (f.place + 1) ss (rights_of w) NoDraft)) at
        (own (rights_of w) (draft_of w))

    module _ (w u : Own) (keeps : KeepsRights w u) (begun : draft_of u ≡ Building (fitted (rights_of w) (drafted (draft_of w)))) where
      abbrev made : Specification
      made = fitted (rights_of w) (drafted (draft_of w))

      child_is : spread u.objects u.child.entries ≡ made
      child_is = (building_is u made begun).1

      begun_is : fitted (rights_of u) (drafted (draft_of u)) ≡ made
      begun_is = ap (λ d. fitted (rights_of u) (drafted d)) begun ∙ long_fits u made (made_long w (draft_of w) ∙ sym keeps.objects)

      now_is : (child : Children) → going child code u f ≡ creates child (rights_of u) (spread u.objects u.child.entries)
      now_is child = create_is child u ∙ ap (creates child (rights_of u)) (begun_is ∙ sym child_is)

      same_is : (child : Children) → going child code w f ≡ going child code u f
      same_is child =
          create_is child w ∙ ap (λ s. creates child s made) (sym (rights_same w u keeps)) ∙ ap (creates child (rights_of u)) (sym begun_is)
          ∙ sym (create_is child u)

      abbrev now : Specification
      now = spread u.objects u.child.entries

      abbrev on : Children → Course
      on child = Creates now (child number ss now) (from_place child code f.left (f.place + 1) ss (rights_of u) NoDraft)

      pub outside_created : true ≡ may_commute now → true ≡ covers (rights_of u) now → Outside code w f (stop.Create number) u
      outside_created m e = record {
        same = same_is;
        objects = keeps.objects;
        tells = λ child. (
          (at, here),
          now_is child ∙ ap₂ (λ c b. one_of c b (on child) at) (sym m) (sym e),
        );
      }

      pub outside_refused : true ≡ may_commute now → false ≡ covers (rights_of u) now
          → Outside code w f (stop.Fault (record { kind = Cover; pos = Some at })) u
      outside_refused m e = record {
        same = same_is;
        objects = keeps.objects;
        tells = λ child. now_is child ∙ ap₂ (λ c b. one_of c b (on child) at) (sym m) (sym e);
      }

      pub outside_barred : false ≡ may_commute now → Outside code w f (stop.Fault (record { kind = Commute; pos = Some at })) u
      outside_barred m = record {
        same = same_is;
        objects = keeps.objects;
        tells = λ child. now_is child ∙ ap (λ c. one_of c (covers (rights_of u) now) (on child) at) (sym m);
      }

  -- an instruction that stands outside of its section, and creates no child
  is_commit : (x : Instruction) (s : Section) → (InSection (Some x) s → ⊥) → ((n : ℕ) (at : Pos) → x ≡ i.Create n at → ⊥) → x ≡ i.Commit
  is_commit i.Step s h ne = absurd (h tt)
  is_commit (i.Set t o) s h ne = absurd (h tt)
  is_commit (i.Sign g t k at) s h ne = absurd (h tt)
  is_commit (i.Operate o t j k at) s h ne = absurd (h tt)
  is_commit (i.Decide l k j) s h ne = absurd (h tt)
  is_commit (i.Jump j) s h ne = absurd (h tt)
  is_commit (i.JumpFalse k j) s h ne = absurd (h tt)
  is_commit (i.Turn base j) s h ne = absurd (h tt)
  is_commit (i.Next base j) s h ne = absurd (h tt)
  is_commit (i.Member p c t k at) s h ne = absurd (h tt)
  is_commit (i.Within z k at) s h ne = absurd (h tt)
  is_commit (i.Reach p c z t k o at) s h ne = absurd (h tt)
  is_commit (i.ReadOf o z t c at) s h ne = absurd (h tt)
  is_commit (i.ReadIn p c z t k o at) s h ne = absurd (h tt)
  is_commit (i.Read z t o c at) s h ne = absurd (h tt)
  is_commit (i.WriteOf o c v at) s h ne = absurd (h tt)
  is_commit (i.Write o c v at) s h ne = absurd (h tt)
  is_commit (i.Fresh c at) s h ne = absurd (h tt)
  is_commit (i.Draft at) s h ne = absurd (h tt)
  is_commit (i.Declare how o at) s h ne = absurd (h tt)
  is_commit (i.Create b at) s h ne = absurd (ne b at refl)
  is_commit i.Commit s h ne = refl
  is_commit i.Finish s h ne = absurd (h tt)

  commit_is : (child : Children) (w : Own) → slice_get code f.place ≡ Some i.Commit
      → going child code w f ≡ Changes (fitted (rights_of w) (working (draft_of w) (rights_of w)))
      (from_place child code f.left (f.place + 1) ss (fitted (rights_of w) (working (draft_of w) (rights_of w))) NoDraft)
  commit_is child w here = comes_to child code f.left f.place ss (rights_of w) (draft_of w) i.Commit here

  module _ (w u : Own) (keeps : KeepsRights w u) (begun : draft_of u ≡ Amending (rights_of w)) where
    abbrev changes : Children → Specification → Course
    changes child new = Changes new (from_place child code f.left (f.place + 1) ss new NoDraft)

    pub outside_changed : (x : Instruction) → f.place < length code → slice_get code f.place ≡ Some x → (InSection (slice_get code f.place) w.section → ⊥)
        → ((n : ℕ) (at : Pos) → x ≡ i.Create n at → ⊥) → Outside code w f stop.Change u
    outside_changed x lt at within ne =
        let out : InSection (Some x) w.section → ⊥ = λ q. within (subst (λ y. InSection y w.section) (sym at) q) in
        let commit = is_commit x w.section out ne in
        let here : slice_get code f.place ≡ Some i.Commit = at ∙ ap Some commit in
        let far : w.section ≡ section.Amending → ⊥ = λ q. subst (λ y. InSection (Some y) w.section → ⊥) commit out q in
        let rights = rights_same w u keeps in
        let before : fitted (rights_of w) (working (draft_of w) (rights_of w)) ≡ fitted (rights_of w) (rights_of w) =
        ap (fitted (rights_of w)) (not_amending w (rights_of w) far) in
        let now : fitted (rights_of u) (working (draft_of u) (rights_of u)) ≡ fitted (rights_of w) (rights_of w) =
        ap (λ d. fitted (rights_of u) (working d (rights_of u))) begun ∙ ap (λ s. fitted s (rights_of w)) rights in
        let copy : copy_spread u.objects u.spec ≡ rights_of w = (amending_is u (rights_of w) begun).1 in
        let whole : fitted (rights_of w) (rights_of w) ≡ rights_of w = long_fits w (rights_of w) (rights_long w) in
        record {
          same = λ child. commit_is child w here ∙ ap (changes child) (before ∙ sym now) ∙ sym (commit_is child u here);
          objects = keeps.objects;
          tells = λ child. (lt, commit_is child u here ∙ ap (changes child) (now ∙ whole ∙ sym copy));
        }

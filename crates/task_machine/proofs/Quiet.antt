-- A section in which nothing is said, and marks that are not set.
use Rattle.std.proofs.Common.{◌≡◌, ℕ, suc, ◌<◌, arith, ◌⊎◌, inl, inr, ⊎_elim, List, [], ◌∷◌, length, map, Bool, true, false}
use Rattle.std.proofs.Common.{Option, Some, None, refl, sym, ap, ap₂, ◌∙◌}
use Rattle.std.specs.Prelude.{◌&&◌, ◌||◌, not, is_some, is_none, replicate, if◌then◌else◌}
use Rattle.std.proofs.lemmas.Bool.{true≢false}
use Rattle.jade_base.specs.declared.rights.Rights.{Rights}
use Rattle.jade_base.specs.declared.rights.Mode.{Mode}
use Rattle.jade_base.specs.declared.rights.Mode.TheVariants.{Reading, Writing, Commuting}
use Rattle.jade_base.specs.Rights.{is_immediate, mode_of}
use Rattle.jade_base.specs.Specification.{Specification as Sparse, settled}
use Rattle.jade_base.specs.Held.{Held}
use Rattle.access_spec.specs.Copies.{IsSameBetween, copied}
use Rattle.jade_meaning.specs.Specification.{Specification, rights_on, same_hold}
use Rattle.jade_meaning.specs.Talk.{held, given_back, made_immediate, taken_anew}
use Rattle.task_machine.specs.declared.holdings.Row.{Row}
use Rattle.task_machine.specs.declared.next.Phase.TheVariants as phase
use Rattle.task_machine.specs.Stages.{copy_spread, rights_at}
use Rattle.task_machine.specs.Executions.{Execution, held_by}
use Rattle.task_machine.specs.Telling.{mode_held}
use Rattle.task_machine.specs.Left.{IsNone, has_mode}
use Rattle.task_machine.specs.Machines.{IsOrdered, NoneIsNext, amended_at, due_in, holds_at, is_to_move, with_mark}
use Rattle.task_machine.specs.steps.Standing.{HoldsAsRights, NoMarks, is_due_anew, machine}
use Rattle.task_machine.proofs.Answering.{mark_back}
use Rattle.task_machine.proofs.Marks.{hold_at, hold_past}
use Rattle.task_machine.proofs.Sought.{lt_or_le, none_below}
use Rattle.task_machine.proofs.Sparse.{settled_copy, settled_is}
use Rattle.task_machine.proofs.Standing.{clear_long, marks_clear}

-- ---- nothing was said

-- a draft that says the same changes no rights
pub same_between : (s : Sparse) (from to : ℕ) → s ≡ settled s.entries → IsSameBetween s from to
same_between s from to is o le lt = ap (λ (x : Sparse). copied x o) is ∙ settled_is s.entries o

not_back : (x : Option Mode) → (is_some x && not (same_hold x x)) ≡ false
not_back None = refl
not_back (Some Reading) = refl
not_back (Some Writing) = refl
not_back (Some Commuting) = refl

not_both : (b : Bool) → (b && not b) ≡ false
not_both true = refl
not_both false = refl

and_false : (b : Bool) → (b && false) ≡ false
and_false true = refl
and_false false = refl

not_made : (r : Rights) → made_immediate r r ≡ false
not_made r = ap₂ (λ a b. a || b) (not_both (is_immediate r.reads)) (not_both (is_immediate r.writes))

module _ (e : Execution) (right : HoldsAsRights e) where
  abbrev spec : Specification
  spec = rights_at e.stage

  hold_is : (o : ℕ) → (held (holds_at e) o ≡ None) ⊎ (held (holds_at e) o ≡ mode_of (rights_on spec o))
  hold_is o = at (lt_or_le o e.stage.objects)
    where
      here : (x : Option Held) → held_by e o ≡ x → o < e.stage.objects
          → (held (holds_at e) o ≡ None) ⊎ (held (holds_at e) o ≡ mode_of (rights_on spec o))
      here None is lt = inl (hold_at e.stage.objects (held_by e) o lt ∙ ap mode_held is)
      here (Some x) is lt = inr (hold_at e.stage.objects (held_by e) o lt ∙ ap mode_held is ∙ sym (right.agrees o x is))

      at : (o < e.stage.objects) ⊎ (e.stage.objects < suc o) → (held (holds_at e) o ≡ None) ⊎ (held (holds_at e) o ≡ mode_of (rights_on spec o))
      at (inl lt) = here (held_by e o) refl lt
      at (inr le) = inl (hold_past e.stage.objects (held_by e) o (omega (arith, le)))

  none_back : (o : ℕ) → given_back spec (holds_at e) o ≡ false
  none_back o =
      let f : Option Mode → Bool = λ x. is_some x && not (same_hold x (mode_of (rights_on spec o))) in
      ⊎_elim (λ q. ap f q) (λ q. ap f q ∙ not_back (mode_of (rights_on spec o))) (hold_is o)

  none_anew : (o : ℕ) → taken_anew spec spec (holds_at e) o ≡ false
  none_anew o =
      let none = is_none (held (holds_at e) o) in
      ap₂ (λ a b. a || b) (none_back o) (ap (λ b. none && b) (not_made (rights_on spec o)) ∙ and_false none)

  module _ (quiet : e.stage.spec ≡ settled e.stage.spec.entries) where
    same_rights_there : amended_at e ≡ spec
    same_rights_there = ap (copy_spread e.stage.objects) quiet ∙ settled_copy e.stage.objects e.stage.spec.entries

    pub none_given : (o : ℕ) → given_back (amended_at e) (holds_at e) o ≡ false
    none_given o = ap (λ s. given_back s (holds_at e) o) same_rights_there ∙ none_back o

    none_due : (d : Bool) (o : ℕ) → d ≡ false → is_due_anew e d o ≡ false
    none_due d o is =
        ap (λ b. if b then has_mode (amended_at e) o else false) (ap₂ (λ a b. a || b) is
        (ap (λ s. taken_anew spec s (holds_at e) o) same_rights_there ∙ none_anew o))

    unset_all : (f : ℕ → Bool) (rs : List Row) → ((o : ℕ) → f o ≡ false) → map (λ r. is_due_anew e (f r.object.0) r.object.0) rs ≡ replicate (length rs) false
    unset_all f [] none = refl
    unset_all f (r ∷ rs) none = ap₂ (λ b l. b ∷ l) (none_due (f r.object.0) r.object.0 (none r.object.0)) (unset_all f rs none)

    -- where no mark is set, none is after the change
    pub marks_stay : (ds : List Bool) → length ds ≡ length e.rows → ds ≡ replicate (length ds) false
        → ds ≡ map (λ r. is_due_anew e (due_in e.rows ds r.object.0) r.object.0) e.rows
    marks_stay ds long none =
        none ∙ ap (λ n. replicate n false) long
        ∙ sym (unset_all (due_in e.rows ds) e.rows (λ o. ap (λ xs. due_in e.rows xs o) none ∙ marks_clear e.rows ds o))

-- nothing is to be given up for a change of which nothing was said
pub none_changes : (e : Execution) (ds : List Bool) (part : ℕ) → IsOrdered (machine e ds phase.Changing part)
    → e.stage.spec ≡ settled e.stage.spec.entries → NoneIsNext phase.Changing (machine e ds phase.Changing part)
none_changes e ds part good quiet j lt = none_given e (record { agrees = good.agrees }) quiet j

-- ---- no mark is set

pub cleared : (ds es : List Bool) → es ≡ replicate (length ds) false → (said : Bool) → NoMarks said es
cleared ds es is said = record { none = λ q. is ∙ ap (λ n. replicate n false) (sym (ap length is ∙ clear_long ds)) }

pub still_unmarked : (o : ℕ) (rs : List Row) (ds es : List Bool) (said : Bool) → es ≡ with_mark o false rs ds → NoMarks said ds → NoMarks said es
still_unmarked o rs ds es said is n = record {
  none = λ t.
      let none = n.none t in
      let same : es ≡ ds = is ∙ mark_back o rs ds (ap (λ xs. due_in rs xs o) none ∙ marks_clear rs ds o) in
      same ∙ none ∙ ap (λ xs. replicate (length xs) false) (sym same);
}

no_take : (d m : Bool) → d ≡ false → (if d then m else false) ≡ false
no_take true m h = absurd (true≢false h)
no_take false m h = refl

-- where no mark is set, nothing is to be taken below any object
pub untaken_below : (e : Execution) (ds : List Bool) (said : Bool) (from : ℕ) → NoMarks said ds → (said ≡ false → from ≡ 0)
    → IsNone (is_to_move phase.Taking e ds) from
untaken_below e ds true from n h j lt =
    no_take (due_in e.rows ds j) (has_mode (rights_at e.stage) j) (ap (λ xs. due_in e.rows xs j) (n.none refl) ∙ marks_clear e.rows ds j)
untaken_below e ds false from n h j lt = none_below (is_to_move phase.Taking e ds) from (h refl) j lt

-- where it is not said, nothing is said
pub not_said : (ds : List Bool) → NoMarks false ds
not_said ds = record { none = λ h. absurd (true≢false (sym h)) }

-- No key comes twice among the notes of a state that is reached.
use Rattle.std.proofs.Common.{◌≡◌, ℕ, suc, ◌≤◌, Bool, true, false, List, [], ◌∷◌, map, refl, sym, ap, ◌∙◌, subst, ℤ, arith}
use Rattle.std.specs.Prelude.{if◌then◌else◌}
use Rattle.std.proofs.lemmas.Bool.{true≢false}
use Rattle.jade_base.specs.Places.{is_before, key, same_path}
use Rattle.jade_syntax.specs.Abstract.{AbstractProgram}
use Rattle.jade_syntax.specs.declared.tree.Program.{Program}
use Rattle.jade_syntax.specs.Image.{program}
use Rattle.jade_meaning.specs.Serial.{Path, Part}
use Rattle.jade_meaning.specs.Turns.{marks_by}
use Rattle.jade_meaning.specs.Laws.{Every}
use Rattle.jade_meaning.specs.Answer as answer
use Rattle.jade_meaning.specs.Report.{step_of, Ascends, ReportAscends}
use Rattle.object_shelf.specs.Views.{ObjectView}
use Rattle.task_roll.specs.declared.note.PartNote.{PartNote}
use Rattle.task_roll.specs.Rolls.{note_key, by_key}
use Rattle.task_roll.proofs.InOrder.{same-is}
use Rattle.schedule_core.specs.declared.steps.Seat.{Seat}
use Rattle.schedule_core.specs.Notes.{note_of}
use Rattle.schedule_core.specs.Remains.{Woven, nothing, first, second, NotesAreSerial}
use Rattle.schedule_core.specs.Soundness.{and_then}
use Rattle.schedule_core.specs.Plain.{Reached}
use Rattle.schedule_core.proofs.Ascending.{asym}
use Rattle.object_table.specs.Bags.{count_key, Few}
use Rattle.object_table.proofs.Bags.{count_by_key}

-- notes by ascending key
abbrev Up : List PartNote → Type 0
Up [] = Unit {0}
Up (n ∷ ns) = Every (λ m. is_before (note_key n) (note_key m) ≡ true) ns × Up ns

ups_each : (p : Part) (ps : List Part) → Every (λ q. is_before (key p.path p.children) q ≡ true) (map (λ s. key s.path s.children) (map step_of ps))
    → Every (λ m. is_before (note_key (note_of p)) (note_key m) ≡ true) (map note_of ps)
ups_each p [] h = tt
ups_each p (q ∷ ps) h = (h.0, ups_each p ps h.1)

ups : (ps : List Part) → Ascends (map (λ s. key s.path s.children) (map step_of ps)) → Up (map note_of ps)
ups [] h = tt
ups (p ∷ ps) h = (ups_each p ps h.0, ups ps h.1)

-- what stands before a key is another
other_key : (p q : List ℕ) → is_before p q ≡ true → same_path p q ≡ false
other_key p q e = go (same_path p q) refl
  where
    go : (b : Bool) → same_path p q ≡ b → b ≡ false
    go false f = refl
    go true f =
        let own : is_before p p ≡ true = subst (λ r. is_before p r ≡ true) (sym (same-is p q f)) e in
        absurd (true≢false (sym own ∙ asym p p own))

none_above : (k : List ℕ) (ns : List PartNote) → Every (λ m. is_before k (note_key m) ≡ true) ns → count_key k ns ≡ 0
none_above k [] h = refl
none_above k (n ∷ ns) h =
    ap (λ b. if b then suc (count_key k ns) else count_key k ns) (other_key k (note_key n) h.0) ∙ none_above k ns h.1

-- where keys ascend, none comes twice
up_few : (k : List ℕ) (ns : List PartNote) → Up ns → count_key k ns ≤ 1
up_few k [] h = omega arith
up_few k (n ∷ ns) h = go (same_path k (note_key n)) refl (up_few k ns h.1)
  where
    go : (b : Bool) → same_path k (note_key n) ≡ b → count_key k ns ≤ 1 → (if b then suc (count_key k ns) else count_key k ns) ≤ 1
    go false e le = le
    go true e le =
        let none : count_key k ns ≡ 0 = ap (λ q. count_key q ns) (same-is k (note_key n) e) ∙ none_above (note_key n) ns h.0 in
        omega arith

-- of what makes up a list none comes oftener than there
woven_count : (k : List ℕ) {xs ys zs : List PartNote} → Woven xs ys zs → count_key k xs ≤ count_key k zs
woven_count k nothing = omega arith
woven_count k (first {xs = xs} {zs = zs} n w) = go (same_path k (note_key n)) (woven_count k w)
  where
    go : (b : Bool) → count_key k xs ≤ count_key k zs
        → (if b then suc (count_key k xs) else count_key k xs) ≤ (if b then suc (count_key k zs) else count_key k zs)
    go true le = omega arith
    go false le = le
woven_count k (second {xs = xs} {zs = zs} n w) = go (same_path k (note_key n)) (woven_count k w)
  where
    go : (b : Bool) → count_key k xs ≤ count_key k zs → count_key k xs ≤ (if b then suc (count_key k zs) else count_key k zs)
    go true le = omega arith
    go false le = le

module _ (serial : (p : Program) (ns : List ℤ) (limit : ℕ) → NotesAreSerial p ns limit)
    (ascends : (p : AbstractProgram) (ns : List ℤ) (limit : ℕ) (turns : ℕ → List Path) → ReportAscends p ns limit turns) (p : Program) (ns : List ℤ) (limit : ℕ) where
  -- of the parts of a run no two have one key
  run_few : (turns : ℕ → List Path) (k : List ℕ) → count_key k (map note_of (answer.parts_by_key (marks_by (program p) ns limit turns))) ≤ 1
  run_few turns k = up_few k _ (ups (answer.parts_by_key (marks_by (program p) ns limit turns)) (ascends (program p) ns limit turns).steps)

  pub few_reached : (k : ℕ) (roll : List Seat) (ss : List ObjectView) (told : List PartNote) → Reached p ns limit k roll ss (by_key told) → Few told
  few_reached k roll ss told reached = record {
    each = λ q. let le = woven_count q ((serial p ns limit).noted k roll ss (by_key told) reached (λ o. [])).woven in
        let few = run_few (and_then ss (λ o. [])) q in
        let is = count_by_key q told in
        omega arith;
  }

-- What an event that keeps to turn lists does to the turns of the objects.
use Rattle.std.proofs.Common.{◌≡◌, ℕ, zero, suc, Bool, true, false, List, [], ◌∷◌, ◌++◌, length, Option, Some, None, refl, sym, ap, ◌∙◌, subst, append_assoc}
use Rattle.std.specs.Prelude.{slice_get}
use Rattle.jade_base.specs.declared.rights.Mode.{Mode}
use Rattle.jade_base.specs.declared.rights.Mode.TheVariants.{Reading, Writing, Commuting}
use Rattle.jade_base.specs.Places.{same_path}
use Rattle.jade_meaning.specs.Serial.{Path}
use Rattle.jade_meaning.specs.Talk.{Event, Enter, Enroll, Take, TouchRead, TouchWrite, Wants, Give, Leave, Shift, Resign}
use Rattle.jade_meaning.specs.Walk.{First}
use Rattle.jade_meaning.proofs.Filling.{same_path_is, same_self}
use Rattle.object_shelf.specs.Shelves.{taken, given, entered, shifted, left, written}
use Rattle.object_shelf.specs.Views.{ObjectView}
use Rattle.schedule_core.specs.declared.steps.Seat.{Seat}
use Rattle.schedule_core.specs.Plain.{on_shelf, Does}
use Rattle.schedule_core.specs.Serially.{Begins}
use Rattle.schedule_core.specs.Soundness.{turns_of}
use Rattle.run_replay.specs.steps.InStep.{next_turn, is_path, keeps_to, first_keeps}

-- the item after the first ones
pub get_after : (ts rest : List Path) → slice_get (ts ++ rest) (length ts) ≡ slice_get rest 0
get_after [] rest = refl
get_after (t ∷ ts) rest = get_after ts rest

longer : (p : Path) (ts whole : List Path) → is_path p (slice_get whole (length ts)) ≡ true → Begins whole ts → Begins whole (ts ++ p ∷ [])
longer p ts whole h b = go b.rest b.is
  where
    go : (rest : List Path) → whole ≡ ts ++ rest → Begins whole (ts ++ p ∷ [])
    go [] e =
        let at : slice_get whole (length ts) ≡ None = ap (λ w. slice_get w (length ts)) e ∙ get_after ts [] in
        let no : false ≡ true = sym (ap (is_path p) at) ∙ h in
        absurd (cc)
    go (q ∷ more) e =
        let at : slice_get whole (length ts) ≡ Some q = ap (λ w. slice_get w (length ts)) e ∙ get_after ts (q ∷ more) in
        let one : q ≡ p = same_path_is q p (sym (ap (is_path p) at) ∙ h) in
        record { rest = more; is = e ∙ ap (λ x. ts ++ x ∷ more) one ∙ sym (append_assoc ts (p ∷ []) more) }

-- a take for commuting, where its task's turn is the next one of the object's list
turn_begins : (x : ℕ) (p : Path) (ss : List ObjectView) (lists : ℕ → List Path) → is_path p (next_turn lists ss x) ≡ true → (o : ℕ)
    → Begins (lists o) (turns_of ss o) → Begins (lists o) (turns_of (on_shelf x (taken p Commuting) ss) o)
turn_begins x p [] lists h o b = b
turn_begins zero p (s ∷ ss) lists h zero b = longer p s.turns (lists 0) h b
turn_begins zero p (s ∷ ss) lists h (suc o) b = b
turn_begins (suc x) p (s ∷ ss) lists h zero b = b
turn_begins (suc x) p (s ∷ ss) lists h (suc o) b = turn_begins x p ss (λ i. lists (suc i)) h o b

-- a change of an object that leaves its turns
turns_kept : (x : ℕ) (f : ObjectView → ObjectView) (ss : List ObjectView) → ((s : ObjectView) → (f s).turns ≡ s.turns) → (o : ℕ)
    → turns_of (on_shelf x f ss) o ≡ turns_of ss o
turns_kept x f [] h o = refl
turns_kept zero f (s ∷ ss) h zero = h s
turns_kept zero f (s ∷ ss) h (suc o) = refl
turns_kept (suc x) f (s ∷ ss) h zero = refl
turns_kept (suc x) f (s ∷ ss) h (suc o) = turns_kept x f ss h o

module _ (lists : ℕ → List Path) (s : Seat) (ss : List ObjectView) (new : List Seat) (ss' : List ObjectView) where
  kept_begins : (x : ℕ) (f : ObjectView → ObjectView) → ss' ≡ on_shelf x f ss → ((v : ObjectView) → (f v).turns ≡ v.turns)
      → ((o : ℕ) → Begins (lists o) (turns_of ss o)) → (o : ℕ) → Begins (lists o) (turns_of ss' o)
  kept_begins x f e h b o =
      subst (λ t. Begins (lists o) t) (sym (ap (λ v. turns_of v o) e ∙ turns_kept x f ss h o)) (b o)

  same_begins : ss' ≡ ss → ((o : ℕ) → Begins (lists o) (turns_of ss o)) → (o : ℕ) → Begins (lists o) (turns_of ss' o)
  same_begins e b o = subst (λ v. Begins (lists o) (turns_of v o)) (sym e) (b o)

  -- after an event that keeps to the lists their first turns are still those of the objects
  pub event_begins : (e : Event) → Does e s ss new ss' → keeps_to lists ss s.path e ≡ true → ((o : ℕ) → Begins (lists o) (turns_of ss o)) → (o : ℕ)
      → Begins (lists o) (turns_of ss' o)
  event_begins (Take x Reading) d h b o = kept_begins x (taken s.path Reading) d.2 (λ v. refl) b o
  event_begins (Take x Writing) d h b o = kept_begins x (taken s.path Writing) d.2 (λ v. refl) b o
  event_begins (Take x Commuting) d h b o =
      subst (λ v. Begins (lists o) (turns_of v o)) (sym d.2) (turn_begins x s.path ss lists h o (b o))
  event_begins (Give x) d h b o = kept_begins x (given s.path) d.1 (λ v. refl) b o
  event_begins (Enter x a) d h b o = kept_begins x (entered s.path (s.path ++ s.children ∷ []) a) d.1 (λ v. refl) b o
  event_begins (Shift x a) d h b o = kept_begins x (shifted s.path a) d.1 (λ v. refl) b o
  event_begins (Leave x) d h b o = kept_begins x (left s.path) d.1 (λ v. refl) b o
  event_begins (TouchWrite x c v) d h b o = kept_begins x (written c v) d.1 (λ w. refl) b o
  event_begins (Wants x c) d h b o = same_begins d.1 b o
  event_begins (TouchRead x c v) d h b o = absurd d
  event_begins (Enroll t n) d h b o = same_begins d.3 b o
  event_begins (Resign x n) d h b o = same_begins d.1 b o

-- the first of some events keeps to lists
pub keeps_first : (lists : ℕ → List Path) (ss : List ObjectView) (p : Path) (es : List Event) (e : Event) → First es (λ x. x ≡ e)
    → first_keeps lists ss p es ≡ true → keeps_to lists ss p e ≡ true
keeps_first lists ss p [] e f h = absurd f
keeps_first lists ss p (x ∷ es) e f h = sym (ap (keeps_to lists ss p) f) ∙ h

-- and the other way round: where the next turn of a list is the task's
module _ (lists : ℕ → List Path) (ss : List ObjectView) (rest : ℕ → List Path) (is : (o : ℕ) → lists o ≡ turns_of ss o ++ rest o) (p : Path) where
  event_keeps : (e : Event) → ((o : ℕ) → e ≡ Take o Commuting → Begins (rest o) (p ∷ [])) → keeps_to lists ss p e ≡ true
  event_keeps (Take o Commuting) n =
      let m = n o refl in
      let at : next_turn lists ss o ≡ Some p = ap (λ w. slice_get w (length (turns_of ss o))) (is o) ∙ get_after (turns_of ss o) (rest o) ∙ ap (λ w. slice_get w 0) m.is in
      ap (is_path p) at ∙ same_self p
  event_keeps (Take o Reading) n = refl
  event_keeps (Take o Writing) n = refl
  event_keeps (Enter o a) n = refl
  event_keeps (Enroll t k) n = refl
  event_keeps (TouchRead o c v) n = refl
  event_keeps (TouchWrite o c v) n = refl
  event_keeps (Wants o c) n = refl
  event_keeps (Give o) n = refl
  event_keeps (Leave o) n = refl
  event_keeps (Shift o a) n = refl
  event_keeps (Resign b k) n = refl

  pub first_keeps_by : (e : Event) (es : List Event) → ((o : ℕ) → First (e ∷ es) (λ x. x ≡ Take o Commuting) → Begins (rest o) (p ∷ []))
      → first_keeps lists ss p (e ∷ es) ≡ true
  first_keeps_by e es n = event_keeps e n

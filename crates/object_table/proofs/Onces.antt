-- No path has two entries on an object.
use Rattle.std.proofs.Common.{◌≡◌, ℕ, zero, suc, Bool, true, false, List, [], ◌∷◌, ◌++◌, refl, sym, ap, ◌∙◌, subst, Option, Some}
use Rattle.std.proofs.Common.{None}
use Rattle.std.specs.Prelude.{if◌then◌else◌}
use mathlib.Core.Logic.{dite}
use native.Mathlib.Decide.{ℕ_discrete}
use Rattle.jade_base.specs.declared.rights.Rights.{Rights}
use Rattle.jade_meaning.specs.Laws.{Every}
use Rattle.jade_meaning.specs.Talk.{Event, Enter, Enroll, Take, TouchRead, TouchWrite, Wants, Give, Leave, Shift, Resign}
use Rattle.jade_meaning.specs.Walk.{upcoming, First}
use Rattle.jade_syntax.specs.Objects.{sizes}
use Rattle.object_shelf.specs.declared.queue.Entry.{Entry}
use Rattle.object_shelf.specs.Views.{ObjectView}
use Rattle.object_shelf.specs.Shelves.{same_path, find, at, without, newborn, entered_in, taken, given, entered, shifted, left, written, held_for, released}
use Rattle.object_shelf.specs.Shelves.{with_rights}
use Rattle.schedule_core.specs.declared.steps.Seat.{Seat}
use Rattle.task_roll.specs.declared.note.PartNote.{PartNote}
use Rattle.schedule_core.specs.ByNumber.{shelf_at}
use Rattle.schedule_core.specs.Plain.{Reached, begins, goes_on, root_shelves, on_shelf, Does}
use Rattle.schedule_core.specs.Tells.{EntriesAreThere}
use Rattle.jade_meaning.specs.Plan.{RunPlan}
use Rattle.object_table.specs.steps.Kept.{Once}
use Rattle.object_table.proofs.Lists.{same_is, path_same, shelf_on_or, shelf_else}

-- none of the entries is the path's
abbrev Away : List ℕ → List Entry → Type 0
Away p es = Every (λ (d : Entry). same_path p d.path ≡ false) es

abbrev Lone : List Entry → Type 0
Lone [] = Unit {0}
Lone (e ∷ es) = Away e.path es × Lone es

not_same : (p q : List ℕ) → (p ≡ q → ⊥) → same_path p q ≡ false
not_same p q n = go (same_path p q) refl
  where
    go : (b : Bool) → same_path p q ≡ b → same_path p q ≡ false
    go true e = absurd (n (same_is p q e))
    go false e = e

turned : (p q : List ℕ) → same_path p q ≡ false → same_path q p ≡ false
turned p q off = not_same q p (λ e. absurd (let r : false ≡ true = sym off ∙ ap (λ z. same_path z q) (sym e) ∙ path_same q in cc))

away_none : (p : List ℕ) (es : List Entry) → Away p es → find p es ≡ None
away_none p [] h = refl
away_none p (e ∷ es) h = ap (λ b. if b then Some e else find p es) h.0 ∙ away_none p es h.1

none_away : (p : List ℕ) (es : List Entry) → find p es ≡ None → Away p es
none_away p [] h = tt
none_away p (e ∷ es) h = go (λ k. none_away p es k) (same_path p e.path) refl
  where
    go : (find p es ≡ None → Away p es) → (b : Bool) → same_path p e.path ≡ b → Away p (e ∷ es)
    go more true q = absurd (let r : ◌≡◌ {A = Option Entry} (Some e) None = sym (ap (λ b. if b then Some e else find p es) q) ∙ h in cc)
    go more false q = (q, more (sym (ap (λ b. if b then Some e else find p es) q) ∙ h))

-- the path's entry is the only one
lone_once : (p : List ℕ) (es : List Entry) → Lone es → find p (without p es) ≡ None
lone_once p [] h = refl
lone_once p (e ∷ es) h = go (lone_once p es h.1) (same_path p e.path) refl
  where
    go : find p (without p es) ≡ None → (b : Bool) → same_path p e.path ≡ b → find p (without p (e ∷ es)) ≡ None
    go more true q = ap (λ b. find p (if b then es else e ∷ without p es)) q ∙ away_none p es (subst (λ z. Away z es) (sym (same_is p e.path q)) h.0)
    go more false q = ap (λ b. find p (if b then es else e ∷ without p es)) q ∙ ap (λ b. if b then Some e else find p (without p es)) q ∙ more

away_at : (q p : List ℕ) (g : Entry → Entry) (es : List Entry) → ((d : Entry) → (g d).path ≡ d.path) → Away q es → Away q (at p g es)
away_at q p g [] k h = tt
away_at q p g (e ∷ es) k h = go (away_at q p g es k h.1) (same_path p e.path)
  where
    go : Away q (at p g es) → (b : Bool) → Away q (if b then g e ∷ es else e ∷ at p g es)
    go more true = (ap (same_path q) (k e) ∙ h.0, h.1)
    go more false = (h.0, more)

lone_at : (p : List ℕ) (g : Entry → Entry) (es : List Entry) → ((d : Entry) → (g d).path ≡ d.path) → Lone es → Lone (at p g es)
lone_at p g [] k h = tt
lone_at p g (e ∷ es) k h = go (lone_at p g es k h.1) (same_path p e.path)
  where
    go : Lone (at p g es) → (b : Bool) → Lone (if b then g e ∷ es else e ∷ at p g es)
    go more true = (subst (λ z. Away z es) (sym (k e)) h.0, h.1)
    go more false = (away_at e.path p g es k h.0, more)

away_without : (q p : List ℕ) (es : List Entry) → Away q es → Away q (without p es)
away_without q p [] h = tt
away_without q p (e ∷ es) h = go (away_without q p es h.1) (same_path p e.path)
  where
    go : Away q (without p es) → (b : Bool) → Away q (if b then es else e ∷ without p es)
    go more true = h.1
    go more false = (h.0, more)

lone_without : (p : List ℕ) (es : List Entry) → Lone es → Lone (without p es)
lone_without p [] h = tt
lone_without p (e ∷ es) h = go (lone_without p es h.1) (same_path p e.path)
  where
    go : Lone (without p es) → (b : Bool) → Lone (if b then es else e ∷ without p es)
    go more true = h.1
    go more false = (away_without e.path p es h.0, more)

away_entered : (q p c : List ℕ) (a : Rights) (es : List Entry) → same_path q c ≡ false → Away q es → Away q (entered_in p c a es)
away_entered q p c a [] far h = tt
away_entered q p c a (e ∷ es) far h = go (away_entered q p c a es far h.1) (same_path p e.path)
  where
    go : Away q (entered_in p c a es) → (b : Bool) → Away q (if b then newborn c a e ∷ (e ∷ es) else e ∷ entered_in p c a es)
    go more true = (far, h)
    go more false = (h.0, more)

lone_entered : (p c : List ℕ) (a : Rights) (es : List Entry) → Away c es → Lone es → Lone (entered_in p c a es)
lone_entered p c a [] far h = tt
lone_entered p c a (e ∷ es) far h = go (lone_entered p c a es far.1 h.1) (same_path p e.path)
  where
    go : Lone (entered_in p c a es) → (b : Bool) → Lone (if b then newborn c a e ∷ (e ∷ es) else e ∷ entered_in p c a es)
    go more true = (far, h)
    go more false = (away_entered e.path p c a es (turned c e.path far.0) h.0, more)

abbrev AllLone : List ObjectView → Type 0
AllLone ss = (o : ℕ) → Lone (shelf_at ss o).queue

on_lone : (o : ℕ) (g : ObjectView → ObjectView) (ss : List ObjectView) → Lone (g (shelf_at ss o)).queue → AllLone ss → AllLone (on_shelf o g ss)
on_lone o g ss here h i = dite (ℕ_discrete i o)
    (λ same. subst (λ j. Lone (shelf_at (on_shelf o g ss) j).queue) (sym same) (shelf_on_or (λ (x : ObjectView). Lone x.queue) o g ss here (h o)))
    (λ ne. subst (λ (x : ObjectView). Lone x.queue) (sym (shelf_else o i g ss ne)) (h i))

start_lone : (ns : List ℕ) → AllLone (root_shelves ns)
start_lone [] o = tt
start_lone (n ∷ ns) zero = (tt, tt)
start_lone (n ∷ ns) (suc o) = start_lone ns o

does_lone : (e : Event) (s : Seat) (ss : List ObjectView) (new : List Seat) (ss' : List ObjectView) → Does e s ss new ss'
    → ((o : ℕ) (a : Rights) → e ≡ Enter o a → find (s.path ++ s.children ∷ []) (shelf_at ss o).queue ≡ None) → AllLone ss → AllLone ss'
does_lone (Take o m) s ss new ss' d fresh h = subst AllLone (sym d.2)
    (on_lone o (taken s.path m) ss (lone_at s.path (held_for m (shelf_at ss o).content) (shelf_at ss o).queue (λ x. refl) (h o)) h)
does_lone (Give o) s ss new ss' d fresh h = subst AllLone (sym d.1)
    (on_lone o (given s.path) ss (lone_at s.path released (shelf_at ss o).queue (λ x. refl) (h o)) h)
does_lone (Enter o a) s ss new ss' d fresh h = subst AllLone (sym d.1)
    (on_lone o (entered s.path (s.path ++ s.children ∷ []) a) ss
    (lone_entered s.path (s.path ++ s.children ∷ []) a (shelf_at ss o).queue (none_away (s.path ++ s.children ∷ []) (shelf_at ss o).queue (fresh o a refl))
    (h o)) h)
does_lone (Shift o a) s ss new ss' d fresh h = subst AllLone (sym d.1)
    (on_lone o (shifted s.path a) ss (lone_at s.path (with_rights a) (shelf_at ss o).queue (λ x. refl) (h o)) h)
does_lone (Leave o) s ss new ss' d fresh h = subst AllLone (sym d.1) (on_lone o (left s.path) ss (lone_without s.path (shelf_at ss o).queue (h o)) h)
does_lone (TouchWrite o c v) s ss new ss' d fresh h = subst AllLone (sym d.1) (on_lone o (written c v) ss (h o) h)
does_lone (Wants o c) s ss new ss' d fresh h = subst AllLone (sym d.1) h
does_lone (TouchRead o c v) s ss new ss' d fresh h = absurd d
does_lone (Enroll t n) s ss new ss' d fresh h = subst AllLone (sym d.3) h
does_lone (Resign b n) s ss new ss' d fresh h = subst AllLone (sym d.1) h

module _ (key : RunPlan) (entries : EntriesAreThere key.program key.numbers key.limit) where
  reached_lone : (k : ℕ) (roll : List Seat) (ss : List ObjectView) (notes : List PartNote) → Reached key.program key.numbers key.limit k roll ss notes
      → AllLone ss
  reached_lone k roll ss notes begins = start_lone (sizes key.program.items)
  reached_lone k roll ss notes (goes_on {k = k0} {roll = roll0} {ss = ss0} {notes = notes0} r place n) =
      does_lone n.step.event n.step.seat ss0 n.step.new ss n.step.does
      (λ o a e. (entries.enters k0 roll0 ss0 notes0 r place n.step.seat n.step.here o a (subst (λ d. First (upcoming n.step.seat.walker) (λ x. x
      ≡ d)) e n.step.next)).absent)
      (reached_lone k0 roll0 ss0 notes0 r)

  pub once_of : Once key
  once_of = record { each = λ k roll ss notes r o p. lone_once p (shelf_at ss o).queue (reached_lone k roll ss notes r o) }

-- The content of an object, and each version of it, has as many cells as the object.
use Rattle.std.proofs.Common.{◌≡◌, ℕ, zero, suc, Bool, true, false, List, [], ◌∷◌, ◌++◌, length, refl, sym, ap, ◌∙◌, subst, Option, Some, None}
use Rattle.std.proofs.Common.{length-set, arith}
use Rattle.std.specs.Prelude.{ℤ, pos, slice_get, replicate, if◌then◌else◌}
use mathlib.Core.Logic.{dite}
use native.Mathlib.Decide.{ℕ_discrete}
use Rattle.jade_base.specs.declared.rights.Rights.{Rights}
use Rattle.jade_base.specs.declared.rights.Mode.{Mode}
use Rattle.jade_base.specs.declared.rights.Mode.TheVariants.{Reading, Writing, Commuting}
use Rattle.jade_meaning.specs.Laws.{Every}
use Rattle.jade_meaning.specs.Plan.{RunPlan}
use Rattle.jade_meaning.specs.Talk.{Event, Enter, Enroll, Take, TouchRead, TouchWrite, Wants, Give, Leave, Shift, Resign}
use Rattle.jade_syntax.specs.Objects.{sizes}
use Rattle.object_shelf.specs.declared.queue.Entry.{Entry}
use Rattle.object_shelf.specs.Views.{ObjectView}
use Rattle.object_shelf.specs.Shelves.{same_path, find, changes, at, without, newborn, entered_in, version_or, held_for, released, with_rights}
use Rattle.object_shelf.specs.Shelves.{taken, given, entered, shifted, left, written}
use Rattle.object_shelf.specs.Homes.{hand_of, hand_in, or_home}
use Rattle.object_shelf.specs.Whole.{is_out}
use Rattle.schedule_core.specs.declared.steps.Seat.{Seat}
use Rattle.schedule_core.specs.ByNumber.{shelf_at}
use Rattle.schedule_core.specs.Plain.{Reached, begins, goes_on, root_shelves, on_shelf, Does}
use Rattle.task_roll.specs.declared.note.PartNote.{PartNote}
use Rattle.object_table.specs.Views.{shelf_of, home_if}
use Rattle.object_table.proofs.Lists.{shelf_on_or, shelf_else}

abbrev Kept : ℕ → Option (List ℤ) → Type 0
Kept n None = Unit {0}
Kept n (Some xs) = length xs ≡ n

abbrev Row : ℕ → Entry → Type 0
Row n e = Kept n e.version

-- an object of n cells
record Sized (n : ℕ) (x : ObjectView) : Type 0 where
  content : length x.content ≡ n
  versions : Every (Row n) x.queue

rows_at : (n : ℕ) (p : List ℕ) (g : Entry → Entry) (es : List Entry) → ((e : Entry) → Row n e → Row n (g e)) → Every (Row n) es → Every (Row n) (at p g es)
rows_at n p g [] k h = tt
rows_at n p g (e ∷ es) k h = go (rows_at n p g es k h.1) (same_path p e.path)
  where
    go : Every (Row n) (at p g es) → (b : Bool) → Every (Row n) (if b then g e ∷ es else e ∷ at p g es)
    go more true = (k e h.0, h.1)
    go more false = (h.0, more)

rows_without : (n : ℕ) (p : List ℕ) (es : List Entry) → Every (Row n) es → Every (Row n) (without p es)
rows_without n p [] h = tt
rows_without n p (e ∷ es) h = go (rows_without n p es h.1) (same_path p e.path)
  where
    go : Every (Row n) (without p es) → (b : Bool) → Every (Row n) (if b then es else e ∷ without p es)
    go more true = h.1
    go more false = (h.0, more)

row_born : (n : ℕ) (c : List ℕ) (a : Rights) (e : Entry) → Row n e → Row n (newborn c a e)
row_born n c a e h = go (changes e.rights)
  where
    go : (b : Bool) → Kept n (if b then None else e.version)
    go true = tt
    go false = h

rows_entered : (n : ℕ) (p c : List ℕ) (a : Rights) (es : List Entry) → Every (Row n) es → Every (Row n) (entered_in p c a es)
rows_entered n p c a [] h = tt
rows_entered n p c a (e ∷ es) h = go (rows_entered n p c a es h.1) (same_path p e.path)
  where
    go : Every (Row n) (entered_in p c a es) → (b : Bool) → Every (Row n) (if b then newborn c a e ∷ (e ∷ es) else e ∷ entered_in p c a es)
    go more true = (row_born n c a e h.0, h)
    go more false = (h.0, more)

row_held : (n : ℕ) (m : Mode) (xs : List ℤ) → length xs ≡ n → (e : Entry) → Row n e → Row n (held_for m xs e)
row_held n Reading xs l e h = go e.version h
  where
    go : (v : Option (List ℤ)) → Kept n v → Kept n (Some (version_or v xs))
    go None k = l
    go (Some ys) k = k
row_held n Writing xs l e h = h
row_held n Commuting xs l e h = h

row_released : (n : ℕ) (e : Entry) → Row n e → Row n (released e)
row_released n e h = go (changes e.rights)
  where
    go : (b : Bool) → Kept n (if b then None else e.version)
    go true = tt
    go false = h

abbrev KeptBy : ℕ → Option Entry → Type 0
KeptBy n None = Unit {0}
KeptBy n (Some e) = Row n e

found : (n : ℕ) (p : List ℕ) (es : List Entry) → Every (Row n) es → KeptBy n (find p es)
found n p [] h = tt
found n p (e ∷ es) h = go (found n p es h.1) (same_path p e.path)
  where
    go : KeptBy n (find p es) → (b : Bool) → KeptBy n (if b then Some e else find p es)
    go more true = h.0
    go more false = more

abbrev AllSized : List ℕ → List ObjectView → Type 0
AllSized ns ss = (o n : ℕ) → slice_get ns o ≡ Some n → Sized n (shelf_at ss o)

-- a change of an object that leaves its size
on_sized : (ns : List ℕ) (o : ℕ) (g : ObjectView → ObjectView) (ss : List ObjectView) → ((n : ℕ) → Sized n (shelf_at ss o) → Sized n (g (shelf_at ss o)))
    → AllSized ns ss → AllSized ns (on_shelf o g ss)
on_sized ns o g ss k h i n e = dite (ℕ_discrete i o)
    (λ same. subst (λ j. Sized n (shelf_at (on_shelf o g ss) j)) (sym same)
    (let was = h o n (subst (λ j. slice_get ns j ≡ Some n) same e) in shelf_on_or (Sized n) o g ss (k n was) was))
    (λ ne. subst (Sized n) (sym (shelf_else o i g ss ne)) (h i n e))

zeros_long : (n : ℕ) → length {A = ℤ} (replicate n (pos 0)) ≡ n
zeros_long zero = refl
zeros_long (suc n) = ap suc (zeros_long n)

some_number : (x y : ℕ) → ◌≡◌ {A = Option ℕ} (Some x) (Some y) → x ≡ y
some_number x y e = cc

start_sized : (ns : List ℕ) → AllSized ns (root_shelves ns)
start_sized [] o n e = absurd (cc)
start_sized (m ∷ ns) zero n e = record { content = zeros_long m ∙ some_number m n e; versions = (tt, tt) }
start_sized (m ∷ ns) (suc o) n e = start_sized ns o n e

module _ (ns : List ℕ) where
  does_sized : (e : Event) (s : Seat) (ss : List ObjectView) (new : List Seat) (ss' : List ObjectView) → Does e s ss new ss' → AllSized ns ss → AllSized ns ss'
  does_sized (Take o m) s ss new ss' d h = subst (AllSized ns) (sym d.2) (on_sized ns o (taken s.path m) ss (λ n z. record {
    content = z.content;
    versions = rows_at n s.path (held_for m (shelf_at ss o).content) (shelf_at ss o).queue (row_held n m (shelf_at ss o).content z.content) z.versions;
  }) h)
  does_sized (Give o) s ss new ss' d h = subst (AllSized ns) (sym d.1) (on_sized ns o (given s.path) ss (λ n z. record {
    content = z.content;
    versions = rows_at n s.path released (shelf_at ss o).queue (row_released n) z.versions;
  }) h)
  does_sized (Enter o a) s ss new ss' d h =
      subst (AllSized ns) (sym d.1) (on_sized ns o (entered s.path (s.path ++ s.children ∷ []) a) ss (λ n z. record {
        content = z.content;
        versions = rows_entered n s.path (s.path ++ s.children ∷ []) a (shelf_at ss o).queue z.versions;
      }) h)
  does_sized (Shift o a) s ss new ss' d h = subst (AllSized ns) (sym d.1) (on_sized ns o (shifted s.path a) ss (λ n z. record {
    content = z.content;
    versions = rows_at n s.path (with_rights a) (shelf_at ss o).queue (λ e r. r) z.versions;
  }) h)
  does_sized (Leave o) s ss new ss' d h = subst (AllSized ns) (sym d.1) (on_sized ns o (left s.path) ss (λ n z. record {
    content = z.content;
    versions = rows_without n s.path (shelf_at ss o).queue z.versions;
  }) h)
  does_sized (TouchWrite o c v) s ss new ss' d h = subst (AllSized ns) (sym d.1) (on_sized ns o (written c v) ss (λ n z. record {
    content = length-set (shelf_at ss o).content c v ∙ z.content;
    versions = z.versions;
  }) h)
  does_sized (Wants o c) s ss new ss' d h = subst (AllSized ns) (sym d.1) h
  does_sized (TouchRead o c v) s ss new ss' d h = absurd d
  does_sized (Enroll t n) s ss new ss' d h = subst (AllSized ns) (sym d.3) h
  does_sized (Resign b n) s ss new ss' d h = subst (AllSized ns) (sym d.1) h

module _ (key : RunPlan) where
  reached_sized : (k : ℕ) (roll : List Seat) (ss : List ObjectView) (notes : List PartNote) → Reached key.program key.numbers key.limit k roll ss notes
      → AllSized (sizes key.program.items) ss
  reached_sized k roll ss notes begins = start_sized (sizes key.program.items)
  reached_sized k roll ss notes (goes_on {k = k0} {roll = roll0} {ss = ss0} {notes = notes0} r place n) =
      does_sized (sizes key.program.items) n.step.event n.step.seat ss0 n.step.new ss n.step.does (reached_sized k0 roll0 ss0 notes0 r)

  -- there are as many as the program declares
  sized_on : (o : ℕ) (g : ObjectView → ObjectView) (ss : List ObjectView) → length (on_shelf o g ss) ≡ length ss
  sized_on o g [] = refl
  sized_on zero g (s ∷ ss) = refl
  sized_on (suc o) g (s ∷ ss) = ap suc (sized_on o g ss)

  sized_first : (ns : List ℕ) → length (root_shelves ns) ≡ length ns
  sized_first [] = refl
  sized_first (n ∷ ns) = ap suc (sized_first ns)

  does_many : (e : Event) (s : Seat) (ss : List ObjectView) (new : List Seat) (ss' : List ObjectView) → Does e s ss new ss' → length ss' ≡ length ss
  does_many (Take o m) s ss new ss' d = ap length d.2 ∙ sized_on o _ ss
  does_many (Give o) s ss new ss' d = ap length d.1 ∙ sized_on o _ ss
  does_many (Enter o a) s ss new ss' d = ap length d.1 ∙ sized_on o _ ss
  does_many (Shift o a) s ss new ss' d = ap length d.1 ∙ sized_on o _ ss
  does_many (Leave o) s ss new ss' d = ap length d.1 ∙ sized_on o _ ss
  does_many (TouchWrite o c v) s ss new ss' d = ap length d.1 ∙ sized_on o _ ss
  does_many (Wants o c) s ss new ss' d = ap length d.1
  does_many (TouchRead o c v) s ss new ss' d = absurd d
  does_many (Enroll t n) s ss new ss' d = ap length d.3
  does_many (Resign b n) s ss new ss' d = ap length d.1

  pub how_many : (k : ℕ) (roll : List Seat) (ss : List ObjectView) (notes : List PartNote) → Reached key.program key.numbers key.limit k roll ss notes
      → length ss ≡ length (sizes key.program.items)
  how_many k roll ss notes begins = sized_first (sizes key.program.items)
  how_many k roll ss notes (goes_on {k = k0} {roll = roll0} {ss = ss0} {notes = notes0} r place n) =
      does_many n.step.event n.step.seat ss0 n.step.new ss n.step.does ∙ how_many k0 roll0 ss0 notes0 r

  -- what is handed out of an object has its number of cells
  hand_sized : (k : ℕ) (roll : List Seat) (ss : List ObjectView) (notes : List PartNote) → Reached key.program key.numbers key.limit k roll ss notes
      → (o n : ℕ) → slice_get (sizes key.program.items) o ≡ Some n → (p : List ℕ) (m : Mode) (xs : List ℤ)
      → hand_in p m (shelf_of (shelf_at ss o)) ≡ Some xs → length xs ≡ n
  hand_sized k roll ss notes r o n size p m xs = by_entry m (find p x.queue) (found n p x.queue sized.versions)
    where
      x : ObjectView
      x = shelf_at ss o

      sized : Sized n x
      sized = reached_sized k roll ss notes r o n size

      same_cells : (ys zs : List ℤ) → ◌≡◌ {A = Option (List ℤ)} (Some ys) (Some zs) → ys ≡ zs
      same_cells ys zs e = cc

      by_home : (b : Bool) → home_if b x.content ≡ Some xs → length xs ≡ n
      by_home true e = absurd (cc)
      by_home false e = ap length (sym (same_cells x.content xs e)) ∙ sized.content

      by_version : (v : Option (List ℤ)) → Kept n v → or_home v (home_if (is_out x.queue) x.content) ≡ Some xs → length xs ≡ n
      by_version None h e = by_home (is_out x.queue) e
      by_version (Some ys) h e = ap length (sym (same_cells ys xs e)) ∙ h

      by_entry : (m : Mode) (f : Option Entry) → KeptBy n f → hand_of m f (home_if (is_out x.queue) x.content) ≡ Some xs → length xs ≡ n
      by_entry m None h e = absurd (cc)
      by_entry Reading (Some d) h e = by_version d.version h e
      by_entry Writing (Some d) h e = by_home (is_out x.queue) e
      by_entry Commuting (Some d) h e = by_home (is_out x.queue) e

  past : (ss : List ObjectView) (ns : List ℕ) (o : ℕ) → length ss ≡ length ns → slice_get ns o ≡ None → shelf_at ss o ≡ record { queue = []; content = []; turns = [] }
  past [] ns o l e = refl
  past (s ∷ ss) [] o l e = absurd (cc)
  past (s ∷ ss) (n ∷ ns) zero l e = absurd (cc)
  past (s ∷ ss) (n ∷ ns) (suc o) l e = past ss ns o (pred_same l) e
    where
      pred_same : suc (length ss) ≡ suc (length ns) → length ss ≡ length ns
      pred_same q = omega (arith, q)

  pub got_sized : (k : ℕ) (roll : List Seat) (ss : List ObjectView) (notes : List PartNote) → Reached key.program key.numbers key.limit k roll ss notes
      → (o : ℕ) (p : List ℕ) (m : Mode) (xs : List ℤ) → hand_in p m (shelf_of (shelf_at ss o)) ≡ Some xs → slice_get (sizes key.program.items) o
      ≡ Some (length xs)
  got_sized k roll ss notes r o p m xs got = go (slice_get (sizes key.program.items) o) refl
    where
      nothing : (y : Mode) → hand_in p y (shelf_of (record { queue = []; content = []; turns = [] })) ≡ None
      nothing y = refl

      go : (f : Option ℕ) → slice_get (sizes key.program.items) o ≡ f → slice_get (sizes key.program.items) o ≡ Some (length xs)
      go None e = absurd (let q : ◌≡◌ {A = Option (List ℤ)} None (Some xs) = sym (nothing m) ∙ sym (ap (λ x. hand_in p m (shelf_of x)) (past ss
          (sizes key.program.items) o (how_many k roll ss notes r) e)) ∙ got in cc)
      go (Some n) e = e ∙ ap Some (sym (hand_sized k roll ss notes r o n e p m xs got))

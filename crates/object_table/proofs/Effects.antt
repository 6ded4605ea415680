-- What an event does to its object, as its slot shows it, and to what its task holds there.
use Rattle.std.proofs.Common.{◌≡◌, ℕ, Bool, true, false, List, [], ◌∷◌, ◌++◌, refl, sym, ap, ◌∙◌, Option, Some, None}
use Rattle.std.specs.Prelude.{ℤ, is_none}
use Rattle.jade_base.specs.Held.{Held}
use Rattle.jade_base.specs.declared.rights.Rights.{Rights}
use Rattle.jade_base.specs.declared.rights.Mode.{Mode}
use Rattle.jade_base.specs.declared.rights.Mode.TheVariants.{Reading, Writing, Commuting}
use Rattle.object_shelf.specs.declared.queue.Entry.{Entry}
use Rattle.object_shelf.specs.Views.{ObjectView, ShelfView}
use Rattle.object_shelf.specs.Shelves.{same_path, find, takes_out, at, without, entered_in, taken, given, entered, shifted, left, held_for, held_with, released, turned}
use Rattle.object_shelf.specs.Shelves.{with_rights, version_or}
use Rattle.object_shelf.specs.Homes.{hand_in, hand_of, or_home, kept_of, home_after, handed, returned, home_with, on_queue}
use Rattle.object_shelf.specs.Whole.{is_out}
use Rattle.schedule_core.specs.Tells.{MayTake}
use Rattle.object_table.specs.Views.{shelf_of, home_if}
use Rattle.object_table.specs.Plays.{held_in}
use Rattle.object_table.specs.Rule.{hold_of, HeldOk, nothing, owns, sees}
use Rattle.object_table.proofs.Lists.{not_kid}
use Rattle.object_table.proofs.Entries.{some_entry, found_out, find_at, find_other, at_same, out_at, out_without, find_without, out_entered, find_entered}

-- where another's entry and the content are the same, so is what it holds
pub held_same : (q : List ℕ) (x y : ObjectView) → find q y.queue ≡ find q x.queue → y.content ≡ x.content → (k : Option Held) → HeldOk q x k → HeldOk q y k
held_same q x y f c k (nothing empty free) = nothing empty (ap hold_of f ∙ free)
held_same q x y f c k (owns d e is g m t v w) = owns d e is (f ∙ g) m t v (c ∙ w)
held_same q x y f c k (sees d e is g m t v) = sees d e is (f ∙ g) m t v

shelf_with : List Entry → Bool → List ℤ → List (List ℕ) → ShelfView
shelf_with es b xs ts = record { queue = es; home = home_if b xs; turns = ts }

no_entry : (e : Entry) → ◌≡◌ {A = Option Entry} None (Some e) → ⊥
no_entry e q = cc

module _ (p : List ℕ) (x : ObjectView) where
  -- a Take
  module _ (e : Entry) (there : find p x.queue ≡ Some e) (free : e.hold ≡ None) (home : is_none e.version ≡ true → is_out x.queue ≡ false) where
    -- what a reader is handed
    read_hand : hand_in p Reading (shelf_of x) ≡ Some (version_or e.version x.content)
    read_hand = ap (λ y. hand_of Reading y (home_if (is_out x.queue) x.content)) there ∙ go e.version home
      where
        go : (v : Option (List ℤ)) → (is_none v ≡ true → is_out x.queue ≡ false) → or_home v (home_if (is_out x.queue) x.content)
            ≡ Some (version_or v x.content)
        go (Some ys) k = refl
        go None k = ap (λ b. home_if b x.content) (k refl)

    not_out : takes_out e.hold ≡ false
    not_out = ap takes_out free

    read_shows : handed p Reading (shelf_of x) ≡ shelf_of (taken p Reading x)
    read_shows =
        let q : at p (held_with Reading (hand_in p Reading (shelf_of x))) x.queue ≡ at p (held_for Reading x.content) x.queue =
        ap (λ y. at p (held_with Reading y) x.queue) read_hand
        ∙ at_same p (held_with Reading (Some (version_or e.version x.content))) (held_for Reading x.content) e x.queue there refl in
        let o : is_out (at p (held_for Reading x.content) x.queue) ≡ is_out x.queue =
        out_at p (held_for Reading x.content) x.queue (λ d f. sym (ap (λ (y : Entry). takes_out y.hold) (some_entry d e (sym f ∙ there)) ∙ not_out)) in
        ap (λ es. record { queue = es; home = home_if (is_out x.queue) x.content; turns = x.turns }) q
        ∙ sym (ap (λ b. record { queue = at p (held_for Reading x.content) x.queue; home = home_if b x.content; turns = x.turns }) o)

    read_mine : HeldOk p (taken p Reading x) (held_in Reading (hand_in p Reading (shelf_of x)))
    read_mine =
        sees (record { mode = Reading; cells = version_or e.version x.content }) (held_for Reading x.content e) (ap (held_in Reading) read_hand)
        (find_at p (held_for Reading x.content) e x.queue refl there) refl refl refl

    module _ (versionless : e.version ≡ None) where
      at_home : home_if (is_out x.queue) x.content ≡ Some x.content
      at_home = ap (λ b. home_if b x.content) (home (ap is_none versionless))

      module _ (m : Mode) (takes : takes_out (Some m) ≡ true) (hands : (y : Option Entry) (h : Option (List ℤ)) → hand_of m (Some e) h
          ≡ h) (held_is : held_with m None e ≡ held_for m x.content e) (kept : (h : Option (List ℤ)) → kept_of m h ≡ None) (gone : (h : Option (List ℤ))
          → home_after m h ≡ None) (version : (held_for m x.content e).version ≡ e.version) where
        whole_hand : hand_in p m (shelf_of x) ≡ Some x.content
        whole_hand = ap (λ y. hand_of m y (home_if (is_out x.queue) x.content)) there ∙ hands None (home_if (is_out x.queue) x.content) ∙ at_home

        now_out : is_out (at p (held_for m x.content) x.queue) ≡ true
        now_out = found_out p (held_for m x.content e) (at p (held_for m x.content) x.queue) (find_at p (held_for m x.content) e x.queue refl there) takes

        whole_shows : handed p m (shelf_of x) ≡ shelf_of (taken p m x)
        whole_shows =
            ap (λ f. record {
              queue = at p (held_with m f) x.queue;
              home =
                  home_after m (home_if (is_out x.queue) x.content);
              turns = turned p m x.turns;
            }) (kept (hand_in p m (shelf_of x)))
            ∙ ap (λ es. record { queue = es; home = home_after m (home_if (is_out x.queue) x.content); turns = turned p m x.turns })
            (at_same p (held_with m None) (held_for m x.content) e x.queue there held_is)
            ∙ ap (λ y. record { queue = at p (held_for m x.content) x.queue; home = y; turns = turned p m x.turns }) (gone (home_if (is_out x.queue) x.content))
            ∙ sym (ap (λ b. record { queue = at p (held_for m x.content) x.queue; home = home_if b x.content; turns = turned p m x.turns }) now_out)

        whole_mine : HeldOk p (taken p m x) (held_in m (hand_in p m (shelf_of x)))
        whole_mine =
            owns (record { mode = m; cells = x.content }) (held_for m x.content e) (ap (held_in m) whole_hand)
            (find_at p (held_for m x.content) e x.queue refl there) refl takes (version ∙ versionless) refl

  pub take_shows : (m : Mode) → MayTake m p x.queue → handed p m (shelf_of x) ≡ shelf_of (taken p m x)
  take_shows Reading t = read_shows t.entry t.there t.free t.home
  take_shows Writing t = whole_shows t.entry t.there t.free t.home (t.versionless (λ e. absurd (cc))) Writing refl (λ y h. refl) refl (λ h. refl) (λ h. refl)
      refl
  take_shows Commuting t = whole_shows t.entry t.there t.free t.home (t.versionless (λ e. absurd (cc))) Commuting refl (λ y h. refl) refl (λ h. refl)
      (λ h. refl) refl

  pub take_mine : (m : Mode) → MayTake m p x.queue → HeldOk p (taken p m x) (held_in m (hand_in p m (shelf_of x)))
  take_mine Reading t = read_mine t.entry t.there t.free t.home
  take_mine Writing t = whole_mine t.entry t.there t.free t.home (t.versionless (λ e. absurd (cc))) Writing refl (λ y h. refl) refl (λ h. refl) (λ h. refl) refl
  take_mine Commuting t = whole_mine t.entry t.there t.free t.home (t.versionless (λ e. absurd (cc))) Commuting refl (λ y h. refl) refl (λ h. refl) (λ h. refl)
      refl

  pub take_others : (m : Mode) (q : List ℕ) → same_path q p ≡ false → (k : Option Held) → HeldOk q x k → HeldOk q (taken p m x) k
  take_others m q far k h = held_same q x (taken p m x) (find_other p q (held_for m x.content) x.queue (λ d. refl) far) refl k h

  -- a Give
  pub give_shows : (c : Held) → HeldOk p x (Some c) → ((e : Entry) → find p x.queue ≡ Some e → takes_out e.hold ≡ true → is_out (at p released x.queue) ≡ false)
      → returned p c (shelf_of x) ≡ shelf_of (given p x)
  give_shows c (nothing empty free) none_out = absurd (cc)
  give_shows c (owns d e is there mode takes version content) none_out =
      let same : c ≡ d = cc in
      let off : is_out (at p released x.queue) ≡ false = none_out e there takes in
      let home : home_with c.mode c.cells (home_if (is_out x.queue) x.content) ≡ Some x.content =
      changed c.mode (ap takes_out (ap (λ (y : Held). Some y.mode) same ∙ sym mode) ∙ takes) ∙ ap Some (ap (λ (y : Held). y.cells) same ∙ sym content) in
      ap (λ y. record { queue = at p released x.queue; home = y; turns = x.turns }) home
      ∙ sym (ap (λ b. record { queue = at p released x.queue; home = home_if b x.content; turns = x.turns }) off)
    where
      changed : (m : Mode) → takes_out (Some m) ≡ true → home_with m c.cells (home_if (is_out x.queue) x.content) ≡ Some c.cells
      changed Reading t = absurd (cc)
      changed Writing t = refl
      changed Commuting t = refl
  give_shows c (sees d e is there mode takes version) none_out =
      let same : c ≡ d = cc in
      let o : is_out (at p released x.queue) ≡ is_out x.queue =
      out_at p released x.queue (λ a f. sym (ap (λ (y : Entry). takes_out y.hold) (some_entry a e (sym f ∙ there)) ∙ takes)) in
      let home : home_with c.mode c.cells (home_if (is_out x.queue) x.content) ≡ home_if (is_out x.queue) x.content =
      unchanged c.mode (ap takes_out (ap (λ (y : Held). Some y.mode) same ∙ sym mode) ∙ takes) in
      ap (λ y. record { queue = at p released x.queue; home = y; turns = x.turns }) home ∙ sym (ap (λ b. record { queue = at p released x.queue; home = home_if b x.content; turns = x.turns }) o)
    where
      unchanged : (m : Mode) → takes_out (Some m) ≡ false → home_with m c.cells (home_if (is_out x.queue) x.content) ≡ home_if (is_out x.queue) x.content
      unchanged Reading t = refl
      unchanged Writing t = absurd (cc)
      unchanged Commuting t = absurd (cc)

  pub give_mine : (e : Entry) → find p x.queue ≡ Some e → HeldOk p (given p x) None
  give_mine e there = nothing refl (ap hold_of (find_at p released e x.queue refl there))

  pub give_others : (q : List ℕ) → same_path q p ≡ false → (k : Option Held) → HeldOk q x k → HeldOk q (given p x) k
  give_others q far k h = held_same q x (given p x) (find_other p q released x.queue (λ d. refl) far) refl k h

  -- an Enter
  module _ (n : ℕ) (a : Rights) where
    abbrev kid : List ℕ
    kid = p ++ n ∷ []

    pub enter_shows : on_queue (entered_in p kid a) (shelf_of x) ≡ shelf_of (entered p kid a x)
    enter_shows = sym (ap (λ b. record { queue = entered_in p kid a x.queue; home = home_if b x.content; turns = x.turns }) (out_entered p kid a x.queue))

    pub enter_others : (q : List ℕ) → same_path q kid ≡ false → (k : Option Held) → HeldOk q x k → HeldOk q (entered p kid a x) k
    enter_others q far k h = held_same q x (entered p kid a x) (find_entered p kid q a x.queue far) refl k h

    pub enter_mine : (k : Option Held) → HeldOk p x k → HeldOk p (entered p kid a x) k
    enter_mine k h = enter_others p (not_kid p n) k h

  -- a Shift
  module _ (a : Rights) where
    pub shift_shows : on_queue (at p (with_rights a)) (shelf_of x) ≡ shelf_of (shifted p a x)
    shift_shows = sym (ap (λ b. record { queue = at p (with_rights a) x.queue; home = home_if b x.content; turns = x.turns }) (out_at p (with_rights a) x.queue (λ e f. refl)))

    pub shift_others : (q : List ℕ) → same_path q p ≡ false → (k : Option Held) → HeldOk q x k → HeldOk q (shifted p a x) k
    shift_others q far k h = held_same q x (shifted p a x) (find_other p q (with_rights a) x.queue (λ d. refl) far) refl k h

    pub shift_mine : (e : Entry) → find p x.queue ≡ Some e → (k : Option Held) → HeldOk p x k → HeldOk p (shifted p a x) k
    shift_mine e there k (nothing empty free) = nothing empty (ap hold_of (find_at p (with_rights a) e x.queue refl there) ∙ sym (ap hold_of there) ∙ free)
    shift_mine e there k (owns d f is g m t v w) = owns d (with_rights a f) is (find_at p (with_rights a) f x.queue refl g) m t v w
    shift_mine e there k (sees d f is g m t v) = sees d (with_rights a f) is (find_at p (with_rights a) f x.queue refl g) m t v

  -- a Leave
  pub leave_shows : (e : Entry) → find p x.queue ≡ Some e → e.hold ≡ None → on_queue (without p) (shelf_of x) ≡ shelf_of (left p x)
  leave_shows e there free = sym (ap (λ b. record {
    queue = without p x.queue;
    home =
        home_if b x.content;
    turns = x.turns;
  }) (out_without p x.queue (ap (λ y. takes_out (hold_of y)) there ∙ ap takes_out free)))

  pub leave_others : (q : List ℕ) → same_path q p ≡ false → (k : Option Held) → HeldOk q x k → HeldOk q (left p x) k
  leave_others q far k h = held_same q x (left p x) (find_without p q x.queue far) refl k h

  pub leave_mine : (e : Entry) → find p x.queue ≡ Some e → e.hold ≡ None → hold_of (find p (without p x.queue)) ≡ None → (k : Option Held) → HeldOk p x k
      → HeldOk p (left p x) k
  leave_mine e there free gone k (nothing empty f) = nothing empty gone
  leave_mine e there free gone k (owns d f is g m t v w) = absurd (let same : e ≡ f = some_entry e f (sym there ∙ g) in
      let z : ◌≡◌ {A = Option Mode} None (Some d.mode) = sym free ∙ ap (λ (y : Entry). y.hold) same ∙ m in cc)
  leave_mine e there free gone k (sees d f is g m t v) = absurd (let same : e ≡ f = some_entry e f (sym there ∙ g) in
      let z : ◌≡◌ {A = Option Mode} None (Some d.mode) = sym free ∙ ap (λ (y : Entry). y.hold) same ∙ m in cc)

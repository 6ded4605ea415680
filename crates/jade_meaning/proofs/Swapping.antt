-- Marks in another order, with the same parts and the same turns on each object; and the groups that are settled in the order of creation.
use Rattle.std.proofs.Common.{◌≡◌, ◌≢◌, ℕ, true, false, List, [], ◌∷◌, ◌++◌, map, length, refl, sym, ap, ◌∙◌, subst, append-nil, append_assoc, ◌⊎◌, inl, inr}
use Rattle.std.specs.Prelude.{ℤ, nat_eq, slice_set, if◌then◌else◌}
use Rattle.std.proofs.lemmas.List.{length-set}
use Rattle.std.proofs.lemmas.List.Elements.{filter_map-append}
use Rattle.std.proofs.lemmas.Bool.Decides.{eqb_tells}
use Rattle.std.proofs.lemmas.Bool.{ne_eqb}
use Rattle.jade_meaning.specs.Serial.{Mark, Store, Deed, DidTurn, DidRead, DidWrite, DidCreate, DidEnd, serial, after, done_to, at_object, Part, parts}
use Rattle.jade_meaning.specs.Turns.{Member, World, Ran, at_path, below, group, others, arranged, turn, turns_taken, turns_on, in_order, settle, settled, settle_all, first}
use Rattle.jade_meaning.specs.Laws.{Every}
use Rattle.jade_meaning.proofs.Alone.{after_both}
use Rattle.jade_meaning.proofs.Groups.{every_group, every_others, group_of}
use Rattle.jade_meaning.proofs.Filling.{ran_of, turns_both, turn_turns, taken_elsewhere, others_not, every_two}
use Rattle.jade_meaning.proofs.Soles.{Leaves, Sole, Elsewhere, after_at, after_set, after_only, cells_after, taken_same, taken_leaves}

-- one order or another
pub data Perm : List Part → List Part → Type 0 where
  perm_nil : Perm [] []
  perm_cons : (x : Part) {xs ys : List Part} → Perm xs ys → Perm (x ∷ xs) (x ∷ ys)
  perm_swap : (x y : Part) (xs : List Part) → Perm (x ∷ (y ∷ xs)) (y ∷ (x ∷ xs))
  perm_then : {xs ys zs : List Part} → Perm xs ys → Perm ys zs → Perm xs zs

pub perm_refl : (xs : List Part) → Perm xs xs
perm_refl [] = perm_nil
perm_refl (x ∷ xs) = perm_cons x (perm_refl xs)

pub perm_left : (zs : List Part) {xs ys : List Part} → Perm xs ys → Perm (zs ++ xs) (zs ++ ys)
perm_left [] h = h
perm_left (z ∷ zs) h = perm_cons z (perm_left zs h)

pub perm_right : (zs : List Part) {xs ys : List Part} → Perm xs ys → Perm (xs ++ zs) (ys ++ zs)
perm_right zs perm_nil = perm_refl zs
perm_right zs (perm_cons x h) = perm_cons x (perm_right zs h)
perm_right zs (perm_swap x y xs) = perm_swap x y (xs ++ zs)
perm_right zs (perm_then h g) = perm_then (perm_right zs h) (perm_right zs g)

perm_mid : (x : Part) (ys xs : List Part) → Perm (x ∷ (ys ++ xs)) (ys ++ (x ∷ xs))
perm_mid x [] xs = perm_refl (x ∷ xs)
perm_mid x (y ∷ ys) xs = perm_then (perm_swap x y (ys ++ xs)) (perm_cons y (perm_mid x ys xs))

pub perm_comm : (xs ys : List Part) → Perm (xs ++ ys) (ys ++ xs)
perm_comm [] ys = subst (Perm ys) (sym (append-nil ys)) (perm_refl ys)
perm_comm (x ∷ xs) ys = perm_then (perm_cons x (perm_comm xs ys)) (perm_mid x ys xs)

pub parts_both : (a b : List Mark) → parts (a ++ b) ≡ parts a ++ parts b
parts_both a b = filter_map-append _ a b

-- the same parts in another order, and the same turns
pub record Alike (a b : List Mark) : Type 0 where
  pub same : Perm (parts a) (parts b)
  pub turns : (x : ℕ) → turns_on x a ≡ turns_on x b

pub alike_refl : (a : List Mark) → Alike a a
alike_refl a = record { same = perm_refl (parts a); turns = λ x. refl }

pub alike_is : (a b : List Mark) → a ≡ b → Alike a b
alike_is a b e = subst (Alike a) e (alike_refl a)

pub alike_then : (a b c : List Mark) → Alike a b → Alike b c → Alike a c
alike_then a b c h g = record { same = perm_then h.same g.same; turns = λ x. h.turns x ∙ g.turns x }

pub alike_left : (z a b : List Mark) → Alike a b → Alike (z ++ a) (z ++ b)
alike_left z a b h = record {
  same = subst (λ l. Perm l (parts (z ++ b))) (sym (parts_both z a)) (subst (Perm (parts z ++ parts a)) (sym (parts_both z b)) (perm_left (parts z) h.same));
  turns = λ x. turns_both x z a ∙ ap (λ l. turns_on x z ++ l) (h.turns x) ∙ sym (turns_both x z b);
}

pub alike_right : (z a b : List Mark) → Alike a b → Alike (a ++ z) (b ++ z)
alike_right z a b h = record {
  same = subst (λ l. Perm l (parts (b ++ z))) (sym (parts_both a z)) (subst (Perm (parts a ++ parts z)) (sym (parts_both b z)) (perm_right (parts z) h.same));
  turns = λ x. turns_both x a z ∙ ap (λ l. l ++ turns_on x z) (h.turns x) ∙ sym (turns_both x b z);
}

pub alike_swap : (a b : List Mark) → ((x : ℕ) → turns_on x (a ++ b) ≡ turns_on x (b ++ a)) → Alike (a ++ b) (b ++ a)
alike_swap a b h = record {
  same = subst (λ l. Perm l (parts (b ++ a))) (sym (parts_both a b)) (subst (Perm (parts a ++ parts b)) (sym (parts_both b a)) (perm_comm (parts a) (parts b)));
  turns = h;
}

-- the turns of a group and one on another object
apart_turns : (o : ℕ) (m : Member) (g : List Member) (s t : Store) → m.object ≢ o → Every (λ q. q.object ≡ o) g → (x : ℕ)
    → turns_on x (turns_taken g s ++ turn m t) ≡ turns_on x (turn m t ++ turns_taken g s)
apart_turns o m g s t ne of x =
    turns_both x (turns_taken g s) (turn m t) ∙ go (eqb_tells o x) ∙ sym (turns_both x (turn m t) (turns_taken g s))
  where
    go : ((nat_eq o x ≡ true) × (o ≡ x)) ⊎ ((nat_eq o x ≡ false) × (o ≢ x)) → turns_on x (turns_taken g s) ++ turns_on x (turn m t)
        ≡ turns_on x (turn m t) ++ turns_on x (turns_taken g s)
    go (inl e) =
        let none : turns_on x (turn m t) ≡ [] = turn_turns x m t ∙ ap (λ b. if b then m.path ∷ [] else []) (ne_eqb m.object x (λ i. ne (i ∙ sym e.1))) in
        ap (λ l. turns_on x (turns_taken g s) ++ l) none ∙ append-nil _ ∙ sym (ap (λ l. l ++ turns_on x (turns_taken g s)) none)
    go (inr e) =
        let none : turns_on x (turns_taken g s) ≡ [] = taken_elsewhere x o g s e.1 of in
        ap (λ l. l ++ turns_on x (turn m t)) none ∙ sym (append-nil _) ∙ sym (ap (λ l. turns_on x (turn m t) ++ l) none)

-- a group first and then the others, or all in order
pub record Split (g h ws : List Member) (s : Store) : Type 0 where
  pub store : after (turns_taken h (after (turns_taken g s) s)) (after (turns_taken g s) s) ≡ after (turns_taken ws s) s
  pub alike : Alike (turns_taken g s ++ turns_taken h (after (turns_taken g s) s)) (turns_taken ws s)

pub split : (o : ℕ) (ws : List Member) → Every Sole ws → (s : Store) → Split (group o ws) (others o ws) ws s
split o [] h s = record { store = refl; alike = alike_refl [] }
split o (m ∷ ws) h s = go (eqb_tells m.object o) (split o ws h.1 (after (turn m s) s)) (group_of o ws) (every_group Sole o ws h.1)
  where
    go : ((nat_eq m.object o ≡ true) × (m.object ≡ o)) ⊎ ((nat_eq m.object o ≡ false) × (m.object ≢ o)) → Split (group o ws) (others o ws) ws (after (turn m s) s)
        → Every (λ q. q.object ≡ o) (group o ws) → Every Sole (group o ws) → Split (group o (m ∷ ws)) (others o (m ∷ ws)) (m ∷ ws) s
    go (inl e) r of soles = let G = group o ws in let H = others o ws in let d = turn m s in subst (λ b. Split (if b then m ∷ G else G) (if b then H else m ∷ H) (m ∷ ws) s) (sym e.0) (record {
      store = ap (λ t. after (turns_taken H t) t) (after_both d (turns_taken G (after d s)) s) ∙ r.store ∙ sym (after_both d (turns_taken ws (after d s)) s);
      alike = subst (λ l. Alike l (d ++ turns_taken ws (after d s)))
          (sym (append_assoc d (turns_taken G (after d s)) (turns_taken H (after (d ++ turns_taken G (after d s)) s))
          ∙ ap (λ t. d ++ (turns_taken G (after d s) ++ turns_taken H t)) (after_both d (turns_taken G (after d s)) s)))
          (alike_left d _ _ r.alike);
    })
    go (inr e) r of soles =
        let G = group o ws in
        let H = others o ws in
        let d = turn m s in
        let ne : m.object ≢ o = e.1 in
        let elsewhere : Every (Elsewhere m.object) G = every_two (λ (q : Member). q.object ≡ o) Sole (Elsewhere m.object) (λ q a b. ((λ i. ne (sym i ∙ a)), b)) G of soles in
        let g = turns_taken G s in
        let x = m.object in
        let ys = cells_after x d (at_object s x) in
        -- the member's turn sets its own object alone
        let one : after d s ≡ slice_set s x ys = after_only x d s (λ z n. h.0 s z (λ i. n (sym i))) in
        let group_same : turns_taken G (after d s) ≡ g = ap (turns_taken G) one ∙ taken_same x ys G s elsewhere in
        let leaves : Leaves x g = taken_leaves x G s elsewhere in
        let other : at_object (after g s) x ≡ at_object s x = after_at x g s leaves in
        let turn_is : turn m (after g s) ≡ d = turn_at m (after g s) s other in
        let both : after d (after g s) ≡ after g (after d s) = after_only x d (after g s) (λ z n. h.0 s z (λ i. n (sym i)))
        ∙ ap (λ l. slice_set (after g s) x (cells_after x d l)) other ∙ sym (after_set x ys g s leaves) ∙ ap (after g) (sym one) in
        let late = after g (after d s) in
        let rest = turns_taken H late in
        let group_late : after (turns_taken G (after d s)) (after d s) ≡ late = ap (λ l. after l (after d s)) group_same in
        let others_are : turns_taken (m ∷ H) (after g s) ≡ d ++ rest = ap (λ l. l ++ turns_taken H (after l (after g s))) turn_is
        ∙ ap (λ t. d ++ turns_taken H t) both in
        subst (λ b. Split (if b then m ∷ G else G) (if b then H else m ∷ H) (m ∷ ws) s) (sym e.0) (record {
          store = ap (λ l. after l (after g s)) others_are ∙ after_both d rest (after g s) ∙ ap (after rest) both
              ∙ sym (ap (λ t. after (turns_taken H t) t) group_late) ∙ r.store ∙ sym (after_both d (turns_taken ws (after d s)) s);
          alike = subst (λ l. Alike (g ++ l) (d ++ turns_taken ws (after d s))) (sym others_are)
              (alike_then (g ++ (d ++ rest)) (d ++ (g ++ rest)) (d ++ turns_taken ws (after d s))
              (subst (λ l. Alike l (d ++ (g ++ rest))) (append_assoc g d rest) (subst (Alike ((g ++ d) ++ rest)) (append_assoc d g rest)
              (alike_right rest (g ++ d) (d ++ g) (alike_swap g d (apart_turns o m G s s ne of)))))
              (alike_left d (g ++ rest) (turns_taken ws (after d s)) (subst (λ l. Alike l (turns_taken ws (after d s)))
              (ap (λ t. turns_taken G (after d s) ++ turns_taken H t) group_late ∙ ap (λ l. l ++ rest) group_same) r.alike)));
        })
      where
        turn_at : (m : Member) (a b : Store) → at_object a m.object ≡ at_object b m.object → turn m a ≡ turn m b
        turn_at m a b e =
            ap (λ (l : List ℤ). at_path m.path 0 (DidTurn m.object) ∷ map (below m.path) (serial m.course 0 m.steps (slice_set m.kept m.object l))) e

-- worlds
abbrev pub ahead : World → List Mark
ahead w = turns_taken w.waiting w.store

-- the contents once all who wait have had their turns, in the order of creation
abbrev pub due : World → Store
due w = after (ahead w) w.store

-- a piece of the run in the order of creation does these marks, told at once
pub record Goes (size : ℕ) (w : World) (r : Ran) (ms : List Mark) : Type 0 where
  pub store : due r.world ≡ after ms (due w)
  pub alike : Alike (r.marks ++ ahead r.world) (ahead w ++ ms)
  pub soles : Every Sole r.world.waiting
  pub sized : length r.world.store ≡ size

pub then_goes : (size : ℕ) (w : World) (r s : Ran) (ms ns : List Mark) → Goes size w r ms → Goes size r.world s ns → Goes size w (first r.marks s) (ms ++ ns)
then_goes size w r s ms ns h g = record {
  store = g.store ∙ ap (after ns) h.store ∙ sym (after_both ms ns (due w));
  alike = subst (λ l. Alike l (ahead w ++ (ms ++ ns))) (sym (append_assoc r.marks s.marks (ahead s.world)))
      (alike_then (r.marks ++ (s.marks ++ ahead s.world)) (r.marks ++ (ahead r.world ++ ns)) (ahead w ++ (ms ++ ns))
      (alike_left r.marks (s.marks ++ ahead s.world) (ahead r.world ++ ns) g.alike)
      (subst (λ l. Alike l (ahead w ++ (ms ++ ns))) (append_assoc r.marks (ahead r.world) ns)
      (subst (Alike ((r.marks ++ ahead r.world) ++ ns)) (append_assoc (ahead w) ms ns) (alike_right ns (r.marks ++ ahead r.world) (ahead w ++ ms) h.alike))));
  soles = g.soles;
  sized = g.sized;
}

after_length : (ms : List Mark) (s : Store) → length (after ms s) ≡ length s
after_length [] s = refl
after_length (m ∷ ms) s = after_length ms (done_to m.deed s) ∙ one m.deed
  where
    one : (d : Deed) → length (done_to d s) ≡ length s
    one (DidWrite o c v) = length-set s o _
    one (DidRead o c v) = refl
    one (DidTurn o) = refl
    one (DidCreate t n) = refl
    one (DidEnd b n) = refl

pub arranged_none : (g : List Member) → arranged [] g ≡ g
arranged_none [] = refl
arranged_none (m ∷ g) = refl

-- a group is settled: nothing but what was due
pub settle_goes : (size o : ℕ) (w : World) → Every Sole w.waiting → length w.store ≡ size → Goes size w (ran_of in_order o w) []
settle_goes size o w soles sized =
    let g = group o w.waiting in
    let s = split o w.waiting soles w.store in
    let e = arranged_none g in
    let go = λ (l : List Member). after (turns_taken (others o w.waiting) (after (turns_taken l w.store) w.store)) (after (turns_taken l w.store) w.store) in
    let marks = λ (l : List Member). turns_taken l w.store ++ turns_taken (others o w.waiting) (after (turns_taken l w.store) w.store) in
    record {
      store = ap go e ∙ s.store;
      alike = subst (Alike (marks (arranged [] g))) (sym (append-nil (ahead w))) (subst (λ l. Alike l (ahead w)) (sym (ap marks e)) s.alike);
      soles = every_others Sole o w.waiting soles;
      sized = after_length (settle in_order o w) w.store ∙ sized;
    }

pub still_goes : (size : ℕ) (w : World) → Every Sole w.waiting → length w.store ≡ size → Goes size w (record { marks = []; world = w }) []
still_goes size w soles sized = record {
  store = refl;
  alike = subst (Alike (ahead w)) (sym (append-nil (ahead w))) (alike_refl (ahead w));
  soles = soles;
  sized = sized;
}

pub all_goes : (size : ℕ) (os : List ℕ) (w : World) → Every Sole w.waiting → length w.store ≡ size → Goes size w (settle_all in_order os w) []
all_goes size [] w soles sized = still_goes size w soles sized
all_goes size (o ∷ os) w soles sized =
    let a = settle_goes size o w soles sized in
    then_goes size w (ran_of in_order o w) (settle_all in_order os (settled in_order o w)) [] [] a (all_goes size os (settled in_order o w) a.soles a.sized)

-- nobody waits for an object
abbrev pub Clear : ℕ → World → Type 0
Clear o w = Every (λ m. m.object ≢ o) w.waiting

pub clear_now : (o : ℕ) (w : World) → Clear o (settled in_order o w)
clear_now o w = others_not o w.waiting

pub clear_still : (x : ℕ) (os : List ℕ) (w : World) → Clear x w → Clear x (settle_all in_order os w).world
clear_still x [] w h = h
clear_still x (o ∷ os) w h = clear_still x os (settled in_order o w) (every_others (λ m. m.object ≢ x) o w.waiting h)

pub elsewhere_of : (o : ℕ) (w : World) → Clear o w → Every Sole w.waiting → Every (Elsewhere o) w.waiting
elsewhere_of o w h g = every_two (λ (m : Member). m.object ≢ o) Sole (Elsewhere o) (λ m a b. (a, b)) w.waiting h g

pub due_at : (o : ℕ) (w : World) → Clear o w → Every Sole w.waiting → at_object (due w) o ≡ at_object w.store o
due_at o w h g = after_at o (ahead w) w.store (taken_leaves o w.waiting w.store (elsewhere_of o w h g))

-- turns one after another, of two lists
pub taken_both : (a b : List Member) (s : Store) → turns_taken (a ++ b) s ≡ turns_taken a s ++ turns_taken b (after (turns_taken a s) s)
taken_both [] b s = refl
taken_both (m ∷ a) b s =
    let d = turn m s in
    ap (λ l. d ++ l) (taken_both a b (after d s)) ∙ sym (append_assoc d (turns_taken a (after d s)) _)
    ∙ ap (λ t. (d ++ turns_taken a (after d s)) ++ turns_taken b t) (sym (after_both d (turns_taken a (after d s)) s))

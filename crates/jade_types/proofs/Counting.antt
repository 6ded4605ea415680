-- Items that are counted, one after another.
use Rattle.std.proofs.Common.{◌≡◌, ℕ, ◌+◌, ◌*◌, ◌≤◌, Bool, List, [], ◌∷◌, ◌++◌, sum, length, take, drop}
use Rattle.std.proofs.Common.{replicate, Option, Some, refl, ap, sym, ◌∙◌, subst, arith, append_assoc}
use Rattle.std.proofs.Common.{append-nil, length-append}
use Rattle.std.specs.List.{slice_get}
use Rattle.std.proofs.lemmas.List.{take_all, take_more, drop_all, map-append, length-replicate}
use Rattle.std.proofs.lemmas.List.Folds.{sum_by-replicate}
use Rattle.std.proofs.lemmas.List.Sums.{sum_by-append}
use Rattle.std.proofs.lemmas.Option.{slice_get_within, get_or_from_slice_get}
use Rattle.jade_base.specs.declared.place.Pos.{Pos}
use Rattle.jade_syntax.specs.declared.tree.Item.{Item}
use Rattle.jade_syntax.specs.declared.tree.Item.TheVariants.{Input, Single, Family}
use Rattle.jade_syntax.specs.declared.tree.Number.{Number}
use Rattle.jade_syntax.specs.declared.static_fault.StaticKind.TheVariants as fault
use Rattle.jade_syntax.specs.Abstract.{Name}
use Rattle.jade_syntax.specs.Objects.{amount, input_names, sizes}
use Rattle.jade_syntax.specs.StaticFaults as spec
use Rattle.jade_syntax.specs.StaticFaults.{Site, Declares, Counts, item_known, item_place, item_names, item_sites, amount_sites, counted, exceeds, found}
use Rattle.jade_syntax.specs.StaticFaults.{is_known, when, site_place, fault_kind}
use Rattle.jade_syntax.proofs.Limits.{inputs_first, sizes_first, drop_item}
use Rattle.jade_types.specs.declared.faults.items.Room.{Room}
use Rattle.jade_types.specs.declared.faults.names.Meaning.{Meaning}
use Rattle.jade_types.specs.declared.faults.notes.Notes.{Notes}
use Rattle.jade_types.specs.steps.Counted.{left_of, Leaves, Behind, places_of, PassedItem}
use Rattle.jade_types.specs.steps.Meanings.{meant}
use Rattle.jade_types.specs.steps.Noted.{Noted}
use Rattle.jade_types.specs.steps.Scoped.{as_names}
use Rattle.jade_types.proofs.Noting.{Left, begins, goes_on, ends, after}

inputs_append : (xs ys : List Item) → input_names (xs ++ ys) ≡ input_names xs ++ input_names ys
inputs_append [] ys = refl
inputs_append (x ∷ xs) ys =
    inputs_first x (xs ++ ys) ∙ ap (λ l. input_names (x ∷ []) ++ l) (inputs_append xs ys)
    ∙ sym (append_assoc (input_names (x ∷ [])) (input_names xs) (input_names ys)) ∙ ap (λ l. l ++ input_names ys) (sym (inputs_first x xs))

sizes_append : (xs ys : List Item) → sizes (xs ++ ys) ≡ sizes xs ++ sizes ys
sizes_append [] ys = refl
sizes_append (x ∷ xs) ys =
    sizes_first x (xs ++ ys) ∙ ap (λ l. sizes (x ∷ []) ++ l) (sizes_append xs ys)
    ∙ sym (append_assoc (sizes (x ∷ [])) (sizes xs) (sizes ys)) ∙ ap (λ l. l ++ sizes ys) (sym (sizes_first x xs))

-- one item more, by what it counts
counts : (items : List Item) (room : Room) (item : Item) (i o c : ℕ) (inputs objects cells : Option ℕ) → length (input_names (item ∷ [])) ≡ i
    → length (sizes (item ∷ [])) ≡ o → sum (sizes (item ∷ [])) ≡ c →
    Leaves items room → (room.inputs ≡ left_of 64 (length (input_names items)) → inputs ≡ left_of 64 (length (input_names items) + i))
    → (room.objects ≡ left_of 4096 (length (sizes items)) → objects ≡ left_of 4096 (length (sizes items) + o)) →
    (room.cells ≡ left_of 1048576 (sum (sizes items)) → cells ≡ left_of 1048576 (sum (sizes items) + c))
    → Leaves (items ++ item ∷ []) (record { inputs = inputs; objects = objects; cells = cells })
counts items room item i o c inputs objects cells ei eo ec h f g k = record {
  inputs = f h.inputs ∙ ap (left_of 64)
      (sym (ap length (inputs_append items (item ∷ [])) ∙ length-append (input_names items) (input_names (item ∷ []))
      ∙ ap (λ n. length (input_names items) + n) ei));
  objects = g h.objects ∙ ap (left_of 4096)
      (sym (ap length (sizes_append items (item ∷ [])) ∙ length-append (sizes items) (sizes (item ∷ [])) ∙ ap (λ n. length (sizes items) + n) eo));
  cells = k h.cells ∙ ap (left_of 1048576)
      (sym (ap sum (sizes_append items (item ∷ [])) ∙ sum_by-append (λ n. n) (sizes items) (sizes (item ∷ [])) ∙ ap (λ n. sum (sizes items) + n) ec));
}

no_more : (most n : ℕ) (left : Option ℕ) → left ≡ left_of most n → left ≡ left_of most (n + 0)
no_more most n left e = let z : n ≡ n + 0 = omega arith in e ∙ ap (left_of most) z

module _ (items : List Item) (room : Room) (h : Leaves items room) (item : Item) (x : Name) (at : Pos) where
  pub input_more : (inputs : Option ℕ) → item ≡ Input x at → ((most n : ℕ) → room.inputs ≡ left_of most n → inputs ≡ left_of most (n + 1))
      → Leaves (items ++ item ∷ []) (record { inputs = inputs; objects = room.objects; cells = room.cells })
  input_more inputs e f =
      let P : Item → Type 0 = λ i. Leaves (items ++ i ∷ []) (record { inputs = inputs; objects = room.objects; cells = room.cells }) in
      subst P (sym e) (counts items room (Input x at) 1 0 0 _ _ _ refl refl refl h (f 64 _) (no_more 4096 _ _) (no_more 1048576 _ _))

  pub single_more : (size : Number) (objects cells : Option ℕ) (n : ℕ) → item ≡ Single x at size → n ≡ amount size.value
      → ((most k : ℕ) → room.objects ≡ left_of most k → objects ≡ left_of most (k + 1)) →
      ((most k : ℕ) → room.cells ≡ left_of most k → cells ≡ left_of most (k + n))
      → Leaves (items ++ item ∷ []) (record { inputs = room.inputs; objects = objects; cells = cells })
  single_more size objects cells n e is f g =
      let P : Item → Type 0 = λ i. Leaves (items ++ i ∷ []) (record { inputs = room.inputs; objects = objects; cells = cells }) in
      let s : sum (amount size.value ∷ []) ≡ n = omega arith in
      subst P (sym e) (counts items room (Single x at size) 0 1 n _ _ _ refl refl s h (no_more 64 _ _) (f 4096 _) (g 1048576 _))

  pub family_more : (count size : Number) (objects cells : Option ℕ) (m n : ℕ) → item ≡ Family x at count size → m ≡ amount count.value → n
      ≡ amount size.value → ((most k : ℕ) → room.objects ≡ left_of most k → objects ≡ left_of most (k + m)) →
      ((most k : ℕ) → room.cells ≡ left_of most k → cells ≡ left_of most (k + m * n))
      → Leaves (items ++ item ∷ []) (record { inputs = room.inputs; objects = objects; cells = cells })
  family_more count size objects cells m n e em en f g =
      let P : Item → Type 0 = λ i. Leaves (items ++ i ∷ []) (record { inputs = room.inputs; objects = objects; cells = cells }) in
      let same : List ℕ = replicate (amount count.value) (amount size.value) in
      let l : length (same ++ []) ≡ m = ap length (append-nil same) ∙ length-replicate (amount count.value) (amount size.value) ∙ sym em in
      let s : sum (same ++ []) ≡ m * n = ap sum (append-nil same) ∙ sum_by-replicate (λ n. n) (amount count.value) (amount size.value)
      ∙ ap (λ k. k * amount size.value) (sym em) ∙ ap (λ k. m * k) (sym en) in
      subst P (sym e) (counts items room (Family x at count size) 0 m (m * n) _ _ _ refl l s h (no_more 64 _ _) (f 4096 _) (g 1048576 _))

names_more : (before : List Item) (i : Item) → item_names (before ++ i ∷ []) ≡ item_names before ++ item_known i ∷ []
names_more before i = map-append item_known before (i ∷ [])

-- the name of one item more
pub declared_more : (known more : List (Name × Meaning)) (before : List Item) (i : Item) (x : Name) (m : Meaning) → x ≡ (item_known i).name → meant m
    ≡ (item_known i).meaning → as_names known ≡ item_names before →
    more ≡ known ++ (x, m) ∷ [] → as_names more ≡ item_names before ++ item_known i ∷ []
declared_more known more before i x m name meaning names e =
    ap as_names e ∙ map-append (λ k. spec.known k.0 (meant k.1)) known ((x, m) ∷ [])
    ∙ ap (λ ks. ks ++ spec.known x (meant m) ∷ []) names
    ∙ ap (λ y. item_names before ++ spec.known y (meant m) ∷ []) name
    ∙ ap (λ y. item_names before ++ spec.known (item_known i).name y ∷ []) meaning

-- one item was gone through
pub item_passed : {n0 n1 n2 n3 : Notes} {before : List Item} {i : Item} {k0 k1 : List (Name × Meaning)} {r0 r1 : Room} (at : Pos) (is_declared : Bool)
    (is_beyond : Bool) → at ≡ item_place i → is_declared ≡ is_known (found (item_known i).name (item_names before)) →
    is_beyond ≡ exceeds before i → Behind before k0 r0 →
    (is_declared ≡ is_known (found (item_known i).name (item_names before)) → Noted n0 n1 (Declares (item_known i).name at (item_names before) ∷ [])) →
    ((s : Site) → site_place s ≡ at → fault_kind s ≡ when is_beyond fault.Size → Noted n1 n2 (s ∷ [])) → Noted n2 n3 (amount_sites i) →
    as_names k1 ≡ item_names before ++ item_known i ∷ [] → (Leaves (counted before) r0 → Leaves (counted (before ++ i ∷ [])) r1)
    → PassedItem n0 n3 before i k1 r1
item_passed {n0} {n1} {n2} {n3} {before} {i} {k0} {k1} {r0} {r1} at is_declared is_beyond place declared beyond behind note beside amounts names left =
    let P : Pos → Type 0 = λ p. Noted n0 n1 (Declares (item_known i).name p (item_names before) ∷ []) in
    record {
      noted = after (subst P place (note declared)) (after (beside (Counts before i) (sym place) (ap (λ b. when b fault.Size) (sym beyond))) amounts);
      behind = record { names = names ∙ sym (names_more before i); left = left behind.left };
    }

-- the items go on
pub record Itemizing (first now : Notes) (all before rest : List Item) (known : List (Name × Meaning)) (room : Room) : Type 0 where
  pub noted : Left first now (item_sites [] all) (item_sites before rest)
  pub behind : Behind before known room

pub items_none : (n : Notes) (all : List Item) (known : List (Name × Meaning)) (room : Room) → as_names known ≡ [] → Leaves [] room
    → Itemizing n n all (take 0 all) (drop 0 all) known room
items_none n all known room h l = record { noted = begins n _; behind = record { names = h; left = l } }

pub items_more : {n0 n1 n2 : Notes} {k0 k1 : List (Name × Meaning)} {r0 r1 : Room} (all : List Item) (i : ℕ) (x : Item) → slice_get all i ≡ Some x
    → Itemizing n0 n1 all (take i all) (drop i all) k0 r0 →
    PassedItem n1 n2 (take i all) x k1 r1 → Itemizing n0 n2 all (take (i + 1) all) (drop (i + 1) all) k1 r1
items_more {n0} {n1} {n2} {k0} {k1} {r0} {r1} all i x at h passed =
    let P : List Item → Type 0 = λ xs. Itemizing n0 n1 all (take i all) xs k0 r0 in
    let Q : List Item → Type 0 = λ xs. Itemizing n0 n2 all xs (drop (i + 1) all) k1 r1 in
    let g : Itemizing n0 n1 all (take i all) (x ∷ drop (i + 1) all) k0 r0 = subst P (drop_item all i x at) h in
    let t : take (i + 1) all ≡ take i all ++ x ∷ [] =
    take_more all i x (slice_get_within all i x at) ∙ ap (λ y. take i all ++ y ∷ []) (get_or_from_slice_get all i x x at) in
    subst Q (sym t) (record { noted = goes_on {a = places_of (take i all) x} g.noted passed.noted; behind = passed.behind })

pub items_end : {n0 n1 : Notes} {known : List (Name × Meaning)} {room : Room} (all : List Item) (i : ℕ) → length all ≤ i
    → Itemizing n0 n1 all (take i all) (drop i all) known room → Noted n0 n1 (item_sites [] all) × (as_names known ≡ item_names all)
items_end {n0} {n1} {known} {room} all i le h =
    let P : List Item → Type 0 = λ xs. Itemizing n0 n1 all (take i all) xs known room in
    (ends (subst P (drop_all i all le) h).noted, h.behind.names ∙ ap item_names (take_all i all le))

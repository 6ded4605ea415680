-- No two objects of a program without static faults are called the same.
use Rattle.std.proofs.Common.{◌≡◌, ◌≢◌, ℕ, zero, suc, ◌+◌, ◌<◌, ◌≤◌, Bool, true, false, List, [], ◌∷◌, ◌++◌, map, Option, Some, None, refl, ap, sym, ◌∙◌, subst, arith, All}
use Rattle.std.specs.Fmt.{decimal}
use Rattle.std.specs.Prelude.{ℤ, pos, negsuc, nat_eq, nat_le, if◌then◌else◌}
use Rattle.std.specs.List.{cons_option, list_all}
use Rattle.std.proofs.lemmas.Bool.{leb-true}
use Rattle.std.proofs.lemmas.Fmt.{decimal_injective}
use Rattle.std.proofs.lemmas.List.{append_cancel_left, append_cancel_right, map-append}
use Rattle.std.proofs.lemmas.List.Elements.{All-nil, All-cons, All-append, All-head, All-tail, filter_map-append}
use Rattle.jade_alphabet.specs.Letters.{is_word}
use Rattle.jade_syntax.specs.declared.tree.Item.{Item}
use Rattle.jade_syntax.specs.declared.tree.Item.TheVariants.{Input, Single, Family}
use Rattle.jade_syntax.specs.declared.tree.Program.{Program}
use Rattle.jade_base.specs.declared.place.Pos.{Pos}
use Rattle.jade_syntax.specs.declared.static_fault.StaticKind.{StaticKind}
use Rattle.jade_syntax.specs.declared.static_fault.StaticKind.TheVariants as fault
use Rattle.jade_syntax.specs.declared.static_fault.StaticFault.{StaticFault}
use Rattle.jade_syntax.specs.Limits.{is_amount, is_within}
use Rattle.jade_syntax.specs.Names.{is_name}
use Rattle.jade_syntax.specs.PlacedImage.{placed_program}
use Rattle.jade_syntax.specs.Shapes.{all_of, item_extent, is_shaped}
use Rattle.jade_syntax.specs.StaticFaults.{Site, Counts, Declares, Known, Meaning, Names, amount_sites, block_sites, fault_at, faults_of, faulty, found, is_known, item_known, item_names, item_place, item_sites, static_faults, when}
use Rattle.jade_syntax.proofs.Faultless.{keeps_limits}
use Rattle.jade_syntax.proofs.Limits.{both, limits}
use Rattle.jade_syntax.specs.Numbering.{same_name}
use Rattle.jade_syntax.specs.Objects.{Label, amount, labels, member_labels}
use Rattle.run_record.specs.steps.Cutting.{BeginsOrEnds}
use Rattle.run_record.proofs.Bytes.{word_lacks}
use Rattle.run_record.proofs.Cuts.{front_same}
use Rattle.record_parts.specs.Labels.{label_text, member_text}
use Rattle.record_parts.proofs.Spelling.{and_left, and_right, items_sound, named}

-- no two of them are the same
abbrev pub AreApart : List (List ℕ) → Type 0
AreApart [] = Unit {0}
AreApart (x ∷ xs) = All (λ y. y ≢ x) xs × AreApart xs

begins : (m : Option ℕ) → BeginsOrEnds 91 (member_text m)
begins None = tt
begins (Some i) = refl

-- objects that are called the same have one name
pub same_named : (a b : Label) → is_word a.name ≡ true → is_word b.name ≡ true → label_text a ≡ label_text b → a.name ≡ b.name
same_named a b ha hb e =
    front_same 91 a.name b.name (member_text a.member) (member_text b.member) (word_lacks a.name ha) (word_lacks b.name hb) (begins a.member) (begins b.member) e

-- and members one index
pub same_index : (x : List ℕ) (i j : ℕ) → is_word x ≡ true → i < 4294967296 → j < 4294967296 → label_text (record { name = x; member = Some i }) ≡ label_text (record { name = x; member = Some j }) → i ≡ j
same_index x i j h li lj e =
    let rest = append_cancel_left x (member_text (Some i)) (member_text (Some j)) e in
    decimal_injective i j (omega (arith, li)) (omega (arith, lj)) (closed (decimal i) (decimal j) (tail rest))
  where
    tail : {xs ys : List ℕ} → 91 ∷ xs ≡ 91 ∷ ys → xs ≡ ys
    tail e = cc

    closed : (a b : List ℕ) → a ++ 93 ∷ [] ≡ b ++ 93 ∷ [] → a ≡ b
    closed a b e = append_cancel_right a b (93 ∷ []) e

-- ---- what faultless items are called

split_none : (s : Site) (places : List Site) → faults_of (s ∷ places) ≡ [] → (fault_at s ≡ None) × (faults_of places ≡ [])
split_none s places h = by_cases (fault_at s) (faults_of places) h where
  by_cases : (f : Option StaticFault) (fs : List StaticFault) → cons_option f fs ≡ [] → (f ≡ None) × (fs ≡ [])
  by_cases None fs e = (refl, e)
  by_cases (Some g) fs e = absurd (cc)

second_empty : {A : Type 0} (xs ys : List A) → xs ++ ys ≡ [] → ys ≡ []
second_empty [] ys e = e
second_empty (x ∷ xs) ys e = absurd (cc)

first_empty : {A : Type 0} (xs ys : List A) → xs ++ ys ≡ [] → xs ≡ []
first_empty [] ys e = refl
first_empty (x ∷ xs) ys e = absurd (cc)

when_none : (at : Pos) (b : Bool) (k : StaticKind) → faulty at (when b k) ≡ None → b ≡ false
when_none at true k e = absurd (cc)
when_none at false k e = refl

-- the name of an item
abbrev name_of : Item → List ℕ
name_of i = (item_known i).name

same_self : (x : List ℕ) → same_name x x ≡ true
same_self [] = refl
same_self (b ∷ x) = let e : nat_eq b b ≡ true = grind arith in let f = same_self x in rw e f

-- a name is among names
abbrev IsAmong : List ℕ → Names → Type 0
IsAmong x names = is_known (found x names) ≡ true

among_more : (x : List ℕ) (names more : Names) → IsAmong x names → IsAmong x (names ++ more)
among_more x [] more e = absurd (cc)
among_more x (k ∷ names) more e = by_cases (same_name x k.name) k.meaning e (among_more x names more) where
  by_cases : (b : Bool) (m : Meaning) → is_known (if b then Some m else found x names) ≡ true → (IsAmong x names → IsAmong x (names ++ more)) →
      is_known (if b then Some m else found x (names ++ more)) ≡ true
  by_cases true m e f = refl
  by_cases false m e f = f e

among_last : (names : Names) (k : Known) → IsAmong k.name (names ++ k ∷ [])
among_last [] k = let e = same_self k.name in ap (λ b. is_known (if b then Some k.meaning else None)) e
among_last (n ∷ names) k = by_cases (same_name k.name n.name) n.meaning (among_last names k) where
  by_cases : (b : Bool) (m : Meaning) → IsAmong k.name (names ++ k ∷ []) → is_known (if b then Some m else found k.name (names ++ k ∷ [])) ≡ true
  by_cases true m f = refl
  by_cases false m f = f

-- the sites of the first item, and those of the others
record Faultless (before : List Item) (i : Item) (items : List Item) : Type 0 where
  new : is_known (found (name_of i) (item_names before)) ≡ false
  rest : faults_of (item_sites (before ++ i ∷ []) items) ≡ []

faultless : (before : List Item) (i : Item) (items : List Item) → faults_of (item_sites before (i ∷ items)) ≡ [] → Faultless before i items
faultless before i items e =
    let more : List Site = item_sites (before ++ i ∷ []) items in
    let d = split_none (Declares (name_of i) (item_place i) (item_names before)) (Counts before i ∷ (amount_sites i ++ more)) e in
    let c = split_none (Counts before i) (amount_sites i ++ more) d.1 in
    record {
      new = when_none (item_place i) (is_known (found (name_of i) (item_names before))) fault.Twice d.0;
      rest = second_empty (faults_of (amount_sites i)) (faults_of more) (sym (filter_map-append fault_at (amount_sites i) more) ∙ c.1);
    }

names_append : (xs ys : List Item) → item_names (xs ++ ys) ≡ item_names xs ++ item_names ys
names_append xs ys = map-append item_known xs ys

-- what is declared has no name that was there before
later : (x : List ℕ) (before items : List Item) → IsAmong x (item_names before) → faults_of (item_sites before items) ≡ [] → All (λ i. name_of i ≢ x) items
later x before [] k e = All-nil (λ i. name_of i ≢ x)
later x before (i ∷ items) k e =
    let f = faultless before i items e in
    let k' : IsAmong x (item_names (before ++ i ∷ [])) =
    subst (IsAmong x) (sym (names_append before (i ∷ []))) (among_more x (item_names before) (item_known i ∷ []) k) in
    All-cons (λ i. name_of i ≢ x) i items (clash (item_names before) (name_of i) x f.new k) (later x (before ++ i ∷ []) items k' f.rest)
  where
    clash : (names : Names) (y x : List ℕ) → is_known (found y names) ≡ false → is_known (found x names) ≡ true → y ≡ x → ⊥
    clash names y x e f s = let g : is_known (found x names) ≡ false = subst (λ z. is_known (found z names) ≡ false) s e in absurd (cc)

-- each item is named by a word
abbrev pub AreWords : List Item → Type 0
AreWords items = All (λ i. is_word (name_of i) ≡ true) items

-- ---- what objects are called

members_away : (y : List ℕ) (j n : ℕ) (l : Label) → y ≢ l.name → is_word y ≡ true → is_word l.name ≡ true → All (λ t. t ≢ label_text l) (map label_text (member_labels y j n))
members_away y j zero l d hy hl = All-nil (λ t. t ≢ label_text l)
members_away y j (suc n) l d hy hl =
    let m : Label = record { name = y; member = Some j } in
    All-cons (λ t. t ≢ label_text l) (label_text m) (map label_text (member_labels y (suc j) n)) (λ e. d (same_named m l hy hl e)) (members_away y (suc j) n l d hy hl)

away : (l : Label) (items : List Item) → is_word l.name ≡ true → All (λ i. name_of i ≢ l.name) items → AreWords items → All (λ t. t ≢ label_text l) (map label_text (labels items))
away l [] hl d h = All-nil (λ t. t ≢ label_text l)
away l (Input x at ∷ items) hl d h = away l items hl (All-tail (λ i. name_of i ≢ l.name) (Input x at) items d) (All-tail (λ i. is_word (name_of i) ≡ true) (Input x at) items h)
away l (Single x at size ∷ items) hl d h =
    let m : Label = record { name = x; member = None } in
    let here = All-head (λ i. name_of i ≢ l.name) (Single x at size) items d in
    let word = All-head (λ i. is_word (name_of i) ≡ true) (Single x at size) items h in
    All-cons (λ t. t ≢ label_text l) (label_text m) (map label_text (labels items)) (λ e. here (same_named m l word hl e))
    (away l items hl (All-tail (λ i. name_of i ≢ l.name) (Single x at size) items d) (All-tail (λ i. is_word (name_of i) ≡ true) (Single x at size) items h))
away l (Family x at count size ∷ items) hl d h =
    let here = All-head (λ i. name_of i ≢ l.name) (Family x at count size) items d in
    let word = All-head (λ i. is_word (name_of i) ≡ true) (Family x at count size) items h in
    let F : List (List ℕ) → Type 0 = All (λ t. t ≢ label_text l) in
    subst F (sym (map-append label_text (member_labels x 0 (amount count.value)) (labels items)))
    (All-append (λ t. t ≢ label_text l) (map label_text (member_labels x 0 (amount count.value))) (map label_text (labels items))
    (members_away x 0 (amount count.value) l here word hl)
    (away l items hl (All-tail (λ i. name_of i ≢ l.name) (Family x at count size) items d) (All-tail (λ i. is_word (name_of i) ≡ true) (Family x at count size) items h)))

later_members : (x : List ℕ) (i j n : ℕ) → is_word x ≡ true → i < j → j + n ≤ 4096 → All (λ t. t ≢ label_text (record { name = x; member = Some i })) (map label_text (member_labels x j n))
later_members x i j zero h lt le = All-nil (λ t. t ≢ label_text (record { name = x; member = Some i }))
later_members x i j (suc n) h lt le =
    let m : Label = record { name = x; member = Some j } in
    All-cons (λ t. t ≢ label_text (record { name = x; member = Some i })) (label_text m) (map label_text (member_labels x (suc j) n))
    (λ e. let s = same_index x j i h (omega (arith, lt, le)) (omega (arith, lt, le)) e in omega (arith, s, lt))
    (later_members x i (suc j) n h (omega (arith, lt)) (omega (arith, le)))

members_apart : (x : List ℕ) (i n : ℕ) (rest : List (List ℕ)) → is_word x ≡ true → i + n ≤ 4096 → AreApart rest →
    ((m : ℕ) → All (λ t. t ≢ label_text (record { name = x; member = Some m })) rest) → AreApart (map label_text (member_labels x i n) ++ rest)
members_apart x i zero rest h le a w = a
members_apart x i (suc n) rest h le a w = (
  All-append (λ t. t ≢ label_text (record { name = x; member = Some i })) (map label_text (member_labels x (suc i) n)) rest
      (later_members x i (suc i) n h (omega arith) (omega (arith, le))) (w i),
  members_apart x (suc i) n rest h (omega (arith, le)) a w,
)

few_members : (z : ℤ) → is_amount 4096 z ≡ true → amount z ≤ 4096
few_members (pos n) h = leb-true n 4096 (both (nat_le 1 n) (nat_le n 4096) h).1
few_members (negsuc n) h = omega arith

labels_apart : (before items : List Item) → AreWords items → list_all is_within items ≡ true → faults_of (item_sites before items) ≡ [] → AreApart (map label_text (labels items))
labels_apart before [] h w e = tt
labels_apart before (Input x at ∷ items) h w e =
    labels_apart (before ++ Input x at ∷ []) items (All-tail (λ i. is_word (name_of i) ≡ true) (Input x at) items h) w (faultless before (Input x at) items e).rest
labels_apart before (Single x at size ∷ items) h w e =
    let i : Item = Single x at size in
    let f = faultless before i items e in
    let word = All-head (λ i. is_word (name_of i) ≡ true) i items h in
    let named_all = All-tail (λ i. is_word (name_of i) ≡ true) i items h in
    let here : IsAmong x (item_names (before ++ i ∷ [])) = subst (IsAmong x) (sym (names_append before (i ∷ []))) (among_last (item_names before) (item_known i)) in (
      away (record { name = x; member = None }) items word (later x (before ++ i ∷ []) items here f.rest) named_all,
      labels_apart (before ++ i ∷ []) items named_all (both (is_within i) (list_all is_within items) w).1 f.rest,
    )
labels_apart before (Family x at count size ∷ items) h w e =
    let i : Item = Family x at count size in
    let f = faultless before i items e in
    let word = All-head (λ i. is_word (name_of i) ≡ true) i items h in
    let named_all = All-tail (λ i. is_word (name_of i) ≡ true) i items h in
    let here : IsAmong x (item_names (before ++ i ∷ [])) = subst (IsAmong x) (sym (names_append before (i ∷ []))) (among_last (item_names before) (item_known i)) in
    let others = later x (before ++ i ∷ []) items here f.rest in
    let tests = both (is_within i) (list_all is_within items) w in
    let few : amount count.value ≤ 4096 = few_members count.value (both (is_amount 4096 count.value) (is_amount 65536 size.value) tests.0).0 in
    subst AreApart (sym (map-append label_text (member_labels x 0 (amount count.value)) (labels items)))
    (members_apart x 0 (amount count.value) (map label_text (labels items)) word (omega (arith, few))
    (labels_apart (before ++ i ∷ []) items named_all tests.1 f.rest)
    (λ m. away (record { name = x; member = Some m }) items word others named_all))

words : (items : List Item) → (all_of (map item_extent items)).sound ≡ true → AreWords items
words [] h = All-nil (λ i. is_word (name_of i) ≡ true)
words (Input x at ∷ items) h =
    let here = and_left (item_extent (Input x at)).sound (all_of (map item_extent items)).sound h in
    All-cons (λ i. is_word (name_of i) ≡ true) (Input x at) items (named x here) (words items (and_right (item_extent (Input x at)).sound (all_of (map item_extent items)).sound h))
words (Single x at size ∷ items) h =
    let here = and_left (item_extent (Single x at size)).sound (all_of (map item_extent items)).sound h in
    All-cons (λ i. is_word (name_of i) ≡ true) (Single x at size) items (named x (and_left (is_name x) _ here))
    (words items (and_right (item_extent (Single x at size)).sound (all_of (map item_extent items)).sound h))
words (Family x at count size ∷ items) h =
    let here = and_left (item_extent (Family x at count size)).sound (all_of (map item_extent items)).sound h in
    All-cons (λ i. is_word (name_of i) ≡ true) (Family x at count size) items (named x (and_left (is_name x) _ (and_left _ _ here)))
    (words items (and_right (item_extent (Family x at count size)).sound (all_of (map item_extent items)).sound h))

-- no two objects of a program without static faults are called the same
pub program_apart : (p : Program) → is_shaped p ≡ true → static_faults (placed_program p) ≡ [] → AreApart (map label_text (labels p.items))
program_apart p h e =
    let names = item_names p.items in
    let none = first_empty (faults_of (item_sites [] p.items)) _ (sym (filter_map-append fault_at (item_sites [] p.items) (block_sites names names (placed_program p).main)) ∙ e) in
    labels_apart [] p.items (words p.items (items_sound p h)) (limits p.items (keeps_limits p e)).each none

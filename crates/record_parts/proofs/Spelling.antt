-- Objects of a program are called by words.
use Rattle.std.proofs.Common.{◌≡◌, ℕ, zero, suc, ◌<◌, Bool, true, false, ◌&&◌, List, [], ◌∷◌, ◌++◌, length, map, Option, Some, None, refl, ap, sym, ◌∙◌, append-nil, All}
use Rattle.std.specs.List.{slice_get}
use Rattle.std.specs.Prelude.{IfSome, nat_le, not}
use Rattle.std.proofs.lemmas.List.Elements.{All-nil, All-cons, All-append, All-get_or}
use Rattle.std.proofs.lemmas.Option.{slice_get_within, get_or_from_slice_get}
use Rattle.jade_alphabet.specs.Letters.{is_word}
use Rattle.jade_syntax.specs.declared.tree.Item.{Item}
use Rattle.jade_syntax.specs.declared.tree.Item.TheVariants.{Input, Single, Family}
use Rattle.jade_syntax.specs.declared.tree.Program.{Program}
use Rattle.jade_syntax.specs.Names.{is_name, is_reserved}
use Rattle.jade_syntax.specs.Objects.{Label, amount, labels, member_labels}
use Rattle.jade_syntax.specs.Shapes.{all_of, is_shaped, item_extent, program_extent}
use Rattle.run_record.specs.Pieces.{IsLabel, single, member}
use Rattle.record_parts.specs.Labels.{member_text}

-- an object is called by a word
abbrev IsCalled : Label → Type 0
IsCalled l = is_word l.name ≡ true

pub and_left : (a b : Bool) → (a && b) ≡ true → a ≡ true
and_left true b h = refl
and_left false b h = absurd (cc)

pub and_right : (a b : Bool) → (a && b) ≡ true → b ≡ true
and_right true b h = h
and_right false b h = absurd (cc)

pub named : (x : List ℕ) → is_name x ≡ true → is_word x ≡ true
named x h = and_right (nat_le (length x) 64) (is_word x) (and_left (nat_le (length x) 64 && is_word x) (not (is_reserved x)) h)

members : (x : List ℕ) (i n : ℕ) → is_word x ≡ true → All IsCalled (member_labels x i n)
members x i zero h = All-nil IsCalled
members x i (suc n) h = All-cons IsCalled (record { name = x; member = Some i }) (member_labels x (suc i) n) h (members x (suc i) n h)

all_called : (items : List Item) → (all_of (map item_extent items)).sound ≡ true → All IsCalled (labels items)
all_called [] h = All-nil IsCalled
all_called (Input x at ∷ items) h = all_called items (and_right (item_extent (Input x at)).sound (all_of (map item_extent items)).sound h)
all_called (Single x at size ∷ items) h =
    let here = and_left (item_extent (Single x at size)).sound (all_of (map item_extent items)).sound h in
    All-cons IsCalled (record { name = x; member = None }) (labels items) (named x (and_left (is_name x) _ here))
    (all_called items (and_right (item_extent (Single x at size)).sound (all_of (map item_extent items)).sound h))
all_called (Family x at count size ∷ items) h =
    let here = and_left (item_extent (Family x at count size)).sound (all_of (map item_extent items)).sound h in
    All-append IsCalled (member_labels x 0 (amount count.value)) (labels items)
    (members x 0 (amount count.value) (named x (and_left (is_name x) _ (and_left _ _ here))))
    (all_called items (and_right (item_extent (Family x at count size)).sound (all_of (map item_extent items)).sound h))

pub items_sound : (p : Program) → is_shaped p ≡ true → (all_of (map item_extent p.items)).sound ≡ true
items_sound p h =
    let within = and_right _ _ h in
    let sound : (program_extent p.items p.main).sound ≡ true = and_left _ _ (and_left _ _ within) in
    and_left _ _ (and_left _ _ sound)

pub called : (p : Program) (i : ℕ) (l : Label) → is_shaped p ≡ true → slice_get (labels p.items) i ≡ Some l → is_word l.name ≡ true
called p i l h s =
    let g = All-get_or IsCalled (labels p.items) i l (slice_get_within (labels p.items) i l s) (all_called p.items (items_sound p h)) in
    let e = get_or_from_slice_get (labels p.items) i l l s in
    ap (λ (x : Label). is_word x.name) (sym e) ∙ g

-- what an object is called is spelled as a label
pub is_label : (name : List ℕ) (index : Option ℕ) → is_word name ≡ true → IfSome index (λ i. i < 4294967296) → IsLabel (name ++ member_text index)
is_label name None h f = single (ap is_word (append-nil name) ∙ h)
is_label name (Some i) h f = member name i h f refl

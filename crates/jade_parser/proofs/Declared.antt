-- What begins an item, and an item that is refused.
use Rattle.std.proofs.Common.{◌≡◌, ℕ, ◌+◌, ◌≤◌, List, [], ◌∷◌, ◌++◌, Some, None, refl, length, drop, codes, arith, append_assoc, append-nil, ℤ}
use Rattle.std.specs.List.{flat_map}
use Rattle.std.proofs.lemmas.List.Concat.{flat_map-append}
use Rattle.jade_base.specs.declared.place.Pos.{Pos}
use Rattle.jade_syntax.specs.declared.tree.Number.{Number}
use Rattle.jade_syntax.specs.declared.tree.Item.{Item}
use Rattle.jade_syntax.specs.declared.tree.Item.TheVariants.{Input, Single, Family}
use Rattle.jade_parser.specs.declared.Sign.{Sign}
use Rattle.jade_parser.specs.declared.Sign.TheVariants.{InputWord, ObjectWord, ObjectsWord, MainWord, LeftBracket, RightBracket, Colon, Semicolon}
use Rattle.jade_parser.specs.declared.Seen.{Seen}
use Rattle.jade_parser.specs.declared.Stop.{Stop}
use Rattle.jade_parser.specs.Spelled.{Tokens, Fixed, Called, Counted, Unknown, Part, Parts, fixed, marked, number_part, AllValid, AllShort}
use Rattle.jade_parser.specs.steps.Machine.{Stack, Must, NameIs, NumberIs, Items, goes}
use Rattle.jade_parser.specs.steps.Reads.{kinds, head_sign, place_at, Whole, Stops, OnStop, OnOther}
use Rattle.jade_parser.specs.steps.Parts.{Any, ReadIn, RefusalIn, LongIn}
use Rattle.jade_parser.specs.Programs.{between_parts, item_parts, head_parts}
use Rattle.jade_parser.specs.steps.Openings.{opening_of, OpeningAt, size_in, count_in, body_in}
use Rattle.jade_parser.proofs.Standing.{takes_sign, split_sign}
use Rattle.jade_parser.proofs.Reading.{whole_none, whole_on, whole_under, whole_more, none_valid}
use Rattle.jade_parser.proofs.Going.{stop_in, stop_under, stop_here, stop_other, none_short, all_short}

stops_sign : (all : List Seen) (at : ℕ) (s : Sign) (xs : Stack) → Some s ≡ head_sign (drop at (kinds all))
    → ((rest : Tokens) (st : Stack) → goes (Fixed s ∷ rest) (xs ++ st) ≡ 0) → Stops all at xs at
stops_sign all at s xs e none = record { by = λ st. rw (split_sign all at s e, none (drop (at + 1) (kinds all)) st) (omega arith) }

-- the word decides
pub opening_read : (all : List Seen) (at : ℕ) (s : Sign) → Some s ≡ head_sign (drop at (kinds all)) → OpeningAt all at (opening_of s)
opening_read all at InputWord e = takes_sign all at InputWord _ _ e (λ rest st. refl)
opening_read all at ObjectWord e = takes_sign all at ObjectWord _ _ e (λ rest st. refl)
opening_read all at ObjectsWord e = takes_sign all at ObjectsWord _ _ e (λ rest st. refl)
opening_read all at MainWord e = takes_sign all at MainWord _ _ e (λ rest st. refl)
opening_read all at s e = stops_sign all at s _ e (λ rest st. refl)

no_item : (ts : Tokens) → None ≡ head_sign ts → (st : Stack) → goes ts (Items ∷ st) ≡ 0
no_item [] e st = refl
no_item (Fixed s ∷ ts) e st = absurd (cc)
no_item (Called n ∷ ts) e st = refl
no_item (Counted v ∷ ts) e st = refl
no_item (Unknown ∷ ts) e st = refl

pub nothing_opens : (all : List Seen) (at : ℕ) → None ≡ head_sign (drop at (kinds all)) → Stops all at (Items ∷ []) at
nothing_opens all at e = record { by = λ st. let z = no_item (drop at (kinds all)) e st in omega (arith, z) }

abbrev any_pos : Pos
any_pos = record { line = 0; column = 0 }

abbrev any_number : Number
any_number = record { value = ℤ.pos 0; pos = any_pos }

abbrev any_name : Pos → Part
any_name p = marked (Called (codes "x")) p

ok : {X : Type 0} {x : X} → Any x
ok = record { any = tt }

-- ---- a number between two signs

pub between_first : (all : List Seen) (start : ℕ) (o c : Sign) (e : Stop) → start ≤ length all → OnOther e all start (Must o ∷ [])
    → OnStop e (RefusalIn Any (between_parts o c) all start (Must o ∷ NumberIs ∷ Must c ∷ [])) (LongIn Any (between_parts o c) all start)
between_first all start o c e le other =
    stop_other Any (between_parts o c) all start start _ (Must o ∷ []) (NumberIs ∷ Must c ∷ []) [] (between_parts o c any_number) any_number e
    refl ok (record { is = refl }) none_short (whole_none all start _ le) other

pub between_second : (all : List Seen) (start at : ℕ) (o c : Sign) (e : Stop) → Whole all start (Must o ∷ []) at [] (fixed o ∷ [])
    → OnOther e all at (NumberIs ∷ [])
    → OnStop e (RefusalIn Any (between_parts o c) all start (Must o ∷ NumberIs ∷ Must c ∷ [])) (LongIn Any (between_parts o c) all start)
between_second all start at o c e w other =
    stop_other Any (between_parts o c) all start at _ (NumberIs ∷ []) (Must c ∷ []) (fixed o ∷ []) (number_part any_number ∷ fixed c ∷ []) any_number e
    refl ok (record { is = refl }) (record { is = refl }) (whole_under (NumberIs ∷ Must c ∷ []) w) other

pub between_third : (all : List Seen) (start at : ℕ) (o c : Sign) (n : Number) (e : Stop) → Whole all start (Must o ∷ []) at [] (fixed o ∷ [])
    → Whole all at (NumberIs ∷ []) (at + 1) [] (number_part n ∷ [])
    → OnOther e all (at + 1) (Must c ∷ [])
    → OnStop e (RefusalIn Any (between_parts o c) all start (Must o ∷ NumberIs ∷ Must c ∷ [])) (LongIn Any (between_parts o c) all start)
between_third all start at o c n e w q other =
    stop_other Any (between_parts o c) all start (at + 1) _ (Must c ∷ []) [] (fixed o ∷ number_part n ∷ []) (fixed c ∷ []) n e
    refl ok (record { is = refl }) (record { is = refl }) (whole_on (whole_under (NumberIs ∷ Must c ∷ []) w) (whole_under (Must c ∷ []) q)) other

pub between_read : (all : List Seen) (start at end : ℕ) (o c : Sign) (n : Number) → Whole all start (Must o ∷ []) at [] (fixed o ∷ [])
    → Whole all at (NumberIs ∷ []) (at + 1) [] (number_part n ∷ [])
    → Whole all (at + 1) (Must c ∷ []) end [] (fixed c ∷ []) → ReadIn Any (between_parts o c) all start (Must o ∷ NumberIs ∷ Must c ∷ []) end [] n
between_read all start at end o c n w q r = record {
  whole = whole_on (whole_under (NumberIs ∷ Must c ∷ []) w) (whole_on (whole_under (Must c ∷ []) q) r);
  fits = ok;
  further = let f = w.reads.forward in let g = r.reads.forward in omega arith;
  short = record { is = refl };
}

-- ---- items

abbrev named_parts : Sign → List ℕ → Pos → Parts
named_parts s n p = fixed s ∷ marked (Called n) p ∷ []

-- no name stands after the word
pub unnamed : (all : List Seen) (start : ℕ) (s : Sign) (zs : Stack) (tree : Item) (more : Parts) (e : Stop) → item_parts tree ≡ fixed s ∷ more
    → AllValid more
    → Whole all start (Items ∷ []) (start + 1) (NameIs ∷ zs) (fixed s ∷ [])
    → OnOther e all (start + 1) (NameIs ∷ []) → OnStop e (RefusalIn Any item_parts all start (Items ∷ [])) (LongIn Any item_parts all start)
unnamed all start s zs tree more e eq v w other =
    stop_other Any item_parts all start (start + 1) (Items ∷ []) (NameIs ∷ []) zs (fixed s ∷ []) more tree e eq ok v (record { is = refl }) w other

pub input_unnamed : (all : List Seen) (start : ℕ) (e : Stop)
    → Whole all start (Items ∷ []) (start + 1) (NameIs ∷ Must Semicolon ∷ Items ∷ []) (fixed InputWord ∷ [])
    → OnOther e all (start + 1) (NameIs ∷ []) → OnStop e (RefusalIn Any item_parts all start (Items ∷ [])) (LongIn Any item_parts all start)
input_unnamed all start e w other =
    unnamed all start InputWord _ (Input (codes "x") any_pos) (any_name any_pos ∷ fixed Semicolon ∷ []) e refl (record { is = refl }) w other

pub single_unnamed : (all : List Seen) (start : ℕ) (e : Stop)
    → Whole all start (Items ∷ []) (start + 1) (NameIs ∷ size_in ++ Items ∷ []) (fixed ObjectWord ∷ [])
    → OnOther e all (start + 1) (NameIs ∷ []) → OnStop e (RefusalIn Any item_parts all start (Items ∷ [])) (LongIn Any item_parts all start)
single_unnamed all start e w other =
    unnamed all start ObjectWord _ (Single (codes "x") any_pos any_number) (any_name any_pos ∷ between_parts Colon Semicolon any_number) e refl
    (record { is = refl }) w other

pub family_unnamed : (all : List Seen) (start : ℕ) (e : Stop)
    → Whole all start (Items ∷ []) (start + 1) (NameIs ∷ count_in ++ size_in ++ Items ∷ []) (fixed ObjectsWord ∷ [])
    → OnOther e all (start + 1) (NameIs ∷ []) → OnStop e (RefusalIn Any item_parts all start (Items ∷ [])) (LongIn Any item_parts all start)
family_unnamed all start e w other = unnamed all start ObjectsWord _ (Family (codes "x") any_pos any_number any_number)
    (any_name any_pos ∷ (between_parts LeftBracket RightBracket any_number ++ between_parts Colon Semicolon any_number)) e refl (record { is = refl }) w
    other

-- the word and the name
pub word_named : (all : List Seen) (start : ℕ) (s : Sign) (zs : Stack) (n : List ℕ) (p : Pos) → p ≡ place_at all (start + 1)
    → Whole all start (Items ∷ []) (start + 1) (NameIs ∷ zs) (fixed s ∷ [])
    → Whole all (start + 1) (NameIs ∷ []) (start + 1 + 1) [] (marked (Called n) (place_at all (start + 1)) ∷ [])
    → Whole all start (Items ∷ []) (start + 2) zs (named_parts s n p)
word_named all start s zs n p e w q = let two : start + 2 ≡ start + 1 + 1 = omega arith in rw (e, two) (whole_on w (whole_under zs q))

pub input_open : (all : List Seen) (start : ℕ) (n : List ℕ) (p : Pos) (e : Stop)
    → Whole all start (Items ∷ []) (start + 2) (Must Semicolon ∷ Items ∷ []) (named_parts InputWord n p)
    → OnOther e all (start + 2) (Must Semicolon ∷ []) → OnStop e (RefusalIn Any item_parts all start (Items ∷ [])) (LongIn Any item_parts all start)
input_open all start n p e w other =
    stop_other Any item_parts all start (start + 2) (Items ∷ []) (Must Semicolon ∷ []) (Items ∷ []) (named_parts InputWord n p) (fixed Semicolon ∷ [])
    (Input n p) e
    refl ok (record { is = refl }) (record { is = refl }) w other

pub input_read : (all : List Seen) (start end : ℕ) (n : List ℕ) (p : Pos)
    → Whole all start (Items ∷ []) (start + 2) (Must Semicolon ∷ Items ∷ []) (named_parts InputWord n p)
    → Whole all (start + 2) (Must Semicolon ∷ []) end [] (fixed Semicolon ∷ []) → ReadIn Any item_parts all start (Items ∷ []) end (Items ∷ []) (Input n p)
input_read all start end n p w q = record {
  whole = whole_on w (whole_under (Items ∷ []) q);
  fits = ok;
  further = let f = q.reads.forward in omega arith;
  short = record { is = refl };
}

-- after some parts of an item a number between two signs is refused
number_open : (all : List Seen) (start b : ℕ) (o c : Sign) (zs : Stack) (s z : Parts) (make : Number → Item) (e : Stop)
    → ((y : Number) → item_parts (make y) ≡ s ++ (between_parts o c y ++ z)) → AllValid z → AllShort s
    → Whole all start (Items ∷ []) b ((Must o ∷ NumberIs ∷ Must c ∷ []) ++ zs) s
    → OnStop e (RefusalIn Any (between_parts o c) all b (Must o ∷ NumberIs ∷ Must c ∷ [])) (LongIn Any (between_parts o c) all b)
    → OnStop e (RefusalIn Any item_parts all start (Items ∷ [])) (LongIn Any item_parts all start)
number_open all start b o c zs s z make e eq v short w stop =
    let xs = Must o ∷ NumberIs ∷ Must c ∷ [] in
    stop_in Any Any item_parts (between_parts o c) all start b (Items ∷ []) (xs ++ zs) s make z eq (λ y k. ok) v short w e
    (stop_under Any (between_parts o c) all b xs zs e stop)

pub single_open : (all : List Seen) (start : ℕ) (n : List ℕ) (p : Pos) (e : Stop)
    → Whole all start (Items ∷ []) (start + 2) (size_in ++ Items ∷ []) (named_parts ObjectWord n p)
    → OnStop e (RefusalIn Any (between_parts Colon Semicolon) all (start + 2) size_in) (LongIn Any (between_parts Colon Semicolon) all (start + 2))
    → OnStop e (RefusalIn Any item_parts all start (Items ∷ [])) (LongIn Any item_parts all start)
single_open all start n p e w o =
    number_open all start (start + 2) Colon Semicolon (Items ∷ []) (named_parts ObjectWord n p) [] (λ y. Single n p y) e (λ y. refl) none_valid
    (record { is = refl }) w o

pub single_read : (all : List Seen) (start end : ℕ) (n : List ℕ) (p : Pos) (y : Number)
    → Whole all start (Items ∷ []) (start + 2) (size_in ++ Items ∷ []) (named_parts ObjectWord n p)
    → ReadIn Any (between_parts Colon Semicolon) all (start + 2) size_in end [] y
    → ReadIn Any item_parts all start (Items ∷ []) end (Items ∷ []) (Single n p y)
single_read all start end n p y w q = record {
  whole = whole_on w (whole_under (Items ∷ []) q.whole);
  fits = ok;
  further = let f = q.further in omega arith;
  short = record { is = refl };
}

pub family_open : (all : List Seen) (start : ℕ) (n : List ℕ) (p : Pos) (e : Stop)
    → Whole all start (Items ∷ []) (start + 2) (count_in ++ size_in ++ Items ∷ []) (named_parts ObjectsWord n p)
    → OnStop e (RefusalIn Any (between_parts LeftBracket RightBracket) all (start + 2) count_in)
    (LongIn Any (between_parts LeftBracket RightBracket) all (start + 2))
    → OnStop e (RefusalIn Any item_parts all start (Items ∷ [])) (LongIn Any item_parts all start)
family_open all start n p e w o =
    number_open all start (start + 2) LeftBracket RightBracket (size_in ++ Items ∷ []) (named_parts ObjectsWord n p)
    (between_parts Colon Semicolon any_number)
    (λ y. Family n p y any_number) e
    (λ y. refl) (record { is = refl }) (record { is = refl }) w o

-- the word, the name and the count
abbrev counted_parts : List ℕ → Pos → Number → Parts
counted_parts n p x = fixed ObjectsWord ∷ marked (Called n) p ∷ between_parts LeftBracket RightBracket x

pub family_counted : (all : List Seen) (start at : ℕ) (n : List ℕ) (p : Pos) (x : Number)
    → Whole all start (Items ∷ []) (start + 2) (count_in ++ size_in ++ Items ∷ []) (named_parts ObjectsWord n p)
    → ReadIn Any (between_parts LeftBracket RightBracket) all (start + 2) count_in at [] x
    → Whole all start (Items ∷ []) at (size_in ++ Items ∷ []) (counted_parts n p x)
family_counted all start at n p x w q = whole_on w (whole_under (size_in ++ Items ∷ []) q.whole)

pub family_unsized : (all : List Seen) (start at : ℕ) (n : List ℕ) (p : Pos) (x : Number) (e : Stop)
    → Whole all start (Items ∷ []) at (size_in ++ Items ∷ []) (counted_parts n p x)
    → OnStop e (RefusalIn Any (between_parts Colon Semicolon) all at size_in) (LongIn Any (between_parts Colon Semicolon) all at)
    → OnStop e (RefusalIn Any item_parts all start (Items ∷ [])) (LongIn Any item_parts all start)
family_unsized all start at n p x e w o =
    number_open all start at Colon Semicolon (Items ∷ []) (counted_parts n p x) [] (λ y. Family n p x y) e (λ y. refl) none_valid (record { is = refl }) w
    o

pub family_read : (all : List Seen) (start at end : ℕ) (n : List ℕ) (p : Pos) (x y : Number)
    → Whole all start (Items ∷ []) at (size_in ++ Items ∷ []) (counted_parts n p x)
    → ReadIn Any (between_parts Colon Semicolon) all at size_in end [] y → ReadIn Any item_parts all start (Items ∷ []) end (Items ∷ []) (Family n p x y)
family_read all start at end n p x y w q = record {
  whole = whole_on w (whole_under (Items ∷ []) q.whole);
  fits = ok;
  further = let f = w.reads.forward in let g = q.further in omega arith;
  short = record { is = refl };
}

-- no item begins here
pub item_refused : (all : List Seen) (start : ℕ) → start ≤ length all → Stops all start (Items ∷ []) start
    → RefusalIn Any item_parts all start (Items ∷ []) start
item_refused all start le s = stop_here Any item_parts all start start (Items ∷ []) (Items ∷ []) [] (item_parts (Input (codes "x") any_pos))
    (Input (codes "x") any_pos) refl ok (record { is = refl }) none_short (whole_none all start _ le) s

-- ---- the items and `main`

pub items_more : (all : List Seen) (start at after : ℕ) (done new : List Item) (y : Item) → new ≡ done ++ y ∷ []
    → Whole all start (Items ∷ []) at (Items ∷ []) (flat_map item_parts done)
    → ReadIn Any item_parts all at (Items ∷ []) after (Items ∷ []) y → Whole all start (Items ∷ []) after (Items ∷ []) (flat_map item_parts new)
items_more all start at after done new y e w q = rw e (whole_more item_parts [] done y w q.whole)

pub items_refused : (all : List Seen) (start at : ℕ) (done : List Item) (e : Stop) → AllShort (flat_map item_parts done)
    → Whole all start (Items ∷ []) at (Items ∷ []) (flat_map item_parts done)
    → OnStop e (RefusalIn Any item_parts all at (Items ∷ [])) (LongIn Any item_parts all at)
    → OnStop e (RefusalIn Any head_parts all start (Items ∷ [])) (LongIn Any head_parts all start)
items_refused all start at done e short w o =
    stop_in Any Any head_parts item_parts all start at (Items ∷ []) (Items ∷ []) (flat_map item_parts done) (λ y. done ++ y ∷ []) (fixed MainWord ∷ [])
    (λ y. spelled y) (λ y k. ok) (record { is = refl }) short w e o
  where
    spelled : (y : Item) → head_parts (done ++ y ∷ []) ≡ flat_map item_parts done ++ (item_parts y ++ fixed MainWord ∷ [])
    spelled y = rw (flat_map-append item_parts done (y ∷ []), append-nil) (append_assoc (flat_map item_parts done) (item_parts y) (fixed MainWord ∷ []))

item_short : (y : Item) → AllShort (item_parts y)
item_short (Input n p) = record { is = refl }
item_short (Single n p x) = record { is = refl }
item_short (Family n p x y) = record { is = refl }

pub items_short : (ys : List Item) → AllShort (flat_map item_parts ys)
items_short [] = none_short
items_short (y ∷ ys) = all_short (item_parts y) (flat_map item_parts ys) (item_short y) (items_short ys)

pub items_read : (all : List Seen) (start at : ℕ) (done : List Item) → Whole all start (Items ∷ []) at (Items ∷ []) (flat_map item_parts done)
    → Whole all at (Items ∷ []) (at + 1) body_in (fixed MainWord ∷ [])
    → ReadIn Any head_parts all start (Items ∷ []) (at + 1) body_in done
items_read all start at done w q = record {
  whole = whole_on w q;
  fits = ok;
  further = let f = w.reads.forward in omega arith;
  short = all_short (flat_map item_parts done) (fixed MainWord ∷ []) (items_short done) (record { is = refl });
}

-- The steps of the parsers of pieces.
use Rattle.std.proofs.Common.{◌≡◌, ℕ, ◌+◌, ◌<◌, ◌≤◌, List, [], ◌∷◌, ◌++◌, Option, Some, None, refl, ap, sym}
use Rattle.std.proofs.Common.{◌∙◌, length, drop, arith, append_assoc, append-nil, length-append}
use Rattle.std.proofs.lemmas.List.Concat.{flat_map-append}
use Rattle.jade_base.specs.declared.place.Pos.{Pos}
use Rattle.jade_syntax.specs.declared.tree.Expr.{Expr}
use Rattle.jade_syntax.specs.declared.tree.Named.{Named}
use Rattle.jade_syntax.specs.declared.tree.ObjectRef.{ObjectRef}
use Rattle.jade_parser.specs.Spelled.{Tokens, Fixed, Called, Counted, Unknown, Part, Parts, fixed, marked, outer}
use Rattle.jade_parser.specs.steps.Machine.{Stack, goes, Must, NameIs, Names, MoreNames, Second, expr_in}
use Rattle.jade_parser.specs.Statements.{object_parts, name_parts}
use Rattle.jade_parser.specs.declared.Sign.{Sign}
use Rattle.jade_parser.specs.declared.Sign.TheVariants.{LeftParen, RightParen, LeftBracket, RightBracket, Semicolon, Comma}
use Rattle.jade_parser.specs.declared.Seen.{Seen}
use Rattle.jade_parser.specs.declared.Stop.{Stop}
use Rattle.jade_parser.specs.steps.Reads.{Passes, Whole, OnStop, OnOther, head_sign, kinds, place_at}
use Rattle.jade_parser.specs.steps.Parts.{Any, RefusalIn, LongIn, OuterIn}
use Rattle.jade_parser.specs.steps.Forms.{Came, NoHead, ended, indexes, declared, named_list}
use Rattle.jade_parser.proofs.Standing.{takes_sign}
use Rattle.jade_parser.proofs.Going.{stop_here}
use Rattle.jade_parser.proofs.Coming.{any, came_none, came_on, came_under, came_past, came_fixed, came_marked}
use Rattle.jade_parser.proofs.Coming.{after, other, other_as, not_sign, nowhere, some_name}

-- ---- an expression and the sign that ends it

pub came_outer : {all : List Seen} {a b : ℕ} {x : Expr} → OuterIn all a b x → Came all a expr_in b [] (outer x)
came_outer p = record { whole = p.whole; short = p.short }

pub ended_first : (all : List Seen) (start : ℕ) (closer : Sign) (e : Stop) → start ≤ length all
    → OnStop e (RefusalIn Any outer all start expr_in) (LongIn Any outer all start)
    → OnStop e (RefusalIn Any (ended closer) all start (expr_in ++ Must closer ∷ [])) (LongIn Any (ended closer) all start)
ended_first all start closer e le o =
    after Any Any (ended closer) outer all start start (expr_in ++ Must closer ∷ []) expr_in (Must closer ∷ []) [] (λ y. y) (fixed closer ∷ []) e
    (λ y. refl)
    (λ y _. any y) (record { is = refl }) (came_none all start (expr_in ++ Must closer ∷ []) le) o

pub ended_second : (all : List Seen) (start at : ℕ) (closer : Sign) (x : Expr) (e : Stop) → OuterIn all start at x → OnOther e all at (Must closer ∷ [])
    → OnStop e (RefusalIn Any (ended closer) all start (expr_in ++ Must closer ∷ [])) (LongIn Any (ended closer) all start)
ended_second all start at closer x e p o =
    other Any (ended closer) all start at (expr_in ++ Must closer ∷ []) (Must closer ∷ []) [] (outer x) (fixed closer ∷ []) x e refl (any x)
    (record { is = refl }) (came_under (Must closer ∷ []) (came_outer p)) o

pub ended_read : (all : List Seen) (start at end : ℕ) (closer : Sign) (x : Expr) → OuterIn all start at x
    → Whole all at (Must closer ∷ []) end [] (fixed closer ∷ []) → Came all start (expr_in ++ Must closer ∷ []) end [] (ended closer x)
ended_read all start at end closer x p q = came_on (came_under (Must closer ∷ []) (came_outer p)) (came_fixed q)

-- ---- indexes

pub first_refused : (all : List Seen) (start : ℕ) (e : Stop) → start ≤ length all
    → OnStop e (RefusalIn Any (ended RightBracket) all start (expr_in ++ Must RightBracket ∷ [])) (LongIn Any (ended RightBracket) all start)
    → OnStop e (RefusalIn Any indexes all start (expr_in ++ Must RightBracket ∷ Second ∷ [])) (LongIn Any indexes all start)
first_refused all start e le o =
    after Any Any indexes (ended RightBracket) all start start (expr_in ++ Must RightBracket ∷ Second ∷ []) (expr_in ++ Must RightBracket ∷ [])
    (Second ∷ []) []
    (λ y. (None, y)) [] e (λ y. sym (append-nil (ended RightBracket y))) (λ y _. any (None, y)) (record { is = refl }) (came_none all start _ le) o

opened_again : (all : List Seen) (start at next : ℕ) (x : Expr) → Came all start (expr_in ++ Must RightBracket ∷ []) at [] (ended RightBracket x)
    → Whole all at (Second ∷ []) next (expr_in ++ Must RightBracket ∷ []) (fixed LeftBracket ∷ [])
    → Came all start (expr_in ++ Must RightBracket ∷ Second ∷ []) next (expr_in ++ Must RightBracket ∷ []) (ended RightBracket x ++ fixed LeftBracket ∷ [])
opened_again all start at next x p q = came_on (came_under (Second ∷ []) p) (came_fixed q)

second_is : (x y : Parts) → x ++ (fixed LeftBracket ∷ y) ≡ (x ++ fixed LeftBracket ∷ []) ++ (y ++ [])
second_is x y = simp (append_assoc, append-nil)

pub second_refused : (all : List Seen) (start at next : ℕ) (x : Expr) (e : Stop)
    → Came all start (expr_in ++ Must RightBracket ∷ []) at [] (ended RightBracket x)
    → Whole all at (Second ∷ []) next (expr_in ++ Must RightBracket ∷ []) (fixed LeftBracket ∷ [])
    → OnStop e (RefusalIn Any (ended RightBracket) all next (expr_in ++ Must RightBracket ∷ [])) (LongIn Any (ended RightBracket) all next)
    → OnStop e (RefusalIn Any indexes all start (expr_in ++ Must RightBracket ∷ Second ∷ [])) (LongIn Any indexes all start)
second_refused all start at next x e p q o =
    after Any Any indexes (ended RightBracket) all start next (expr_in ++ Must RightBracket ∷ Second ∷ []) (expr_in ++ Must RightBracket ∷ []) []
    (ended RightBracket x ++ fixed LeftBracket ∷ []) (λ y. (Some x, y)) [] e
    (λ y. second_is (ended RightBracket x) (ended RightBracket y)) (λ y _. any (Some x, y)) (record { is = refl }) (opened_again all start at next x p q) o

pub second_read : (all : List Seen) (start at next end : ℕ) (x y : Expr) → Came all start (expr_in ++ Must RightBracket ∷ []) at [] (ended RightBracket x)
    → Whole all at (Second ∷ []) next (expr_in ++ Must RightBracket ∷ []) (fixed LeftBracket ∷ [])
    → Came all next (expr_in ++ Must RightBracket ∷ []) end [] (ended RightBracket y)
    → Came all start (expr_in ++ Must RightBracket ∷ Second ∷ []) end [] (indexes (Some x, y))
second_read all start at next end x y p q r = came_on (came_under (Second ∷ []) p) (came_on (came_fixed q) r)

pub first_read : (all : List Seen) (start at : ℕ) (x : Expr) → Came all start (expr_in ++ Must RightBracket ∷ []) at [] (ended RightBracket x)
    → Passes all at (Second ∷ []) at [] → Came all start (expr_in ++ Must RightBracket ∷ Second ∷ []) at [] (indexes (None, x))
first_read all start at x p q = came_past (came_under (Second ∷ []) p) q

-- ---- an object

abbrev object_with : List ℕ → Pos → Option Expr → ObjectRef
object_with n p m = record { name = n; pos = p; member = m }

abbrev some_object : ObjectRef
some_object = object_with some_name nowhere None

pub object_refused : (all : List Seen) (start : ℕ) (e : Stop) → start ≤ length all → OnOther e all start (NameIs ∷ [])
    → OnStop e (RefusalIn Any object_parts all start (NameIs ∷ Second ∷ [])) (LongIn Any object_parts all start)
object_refused all start e le o =
    other Any object_parts all start start (NameIs ∷ Second ∷ []) (NameIs ∷ []) (Second ∷ []) [] (object_parts some_object) some_object e refl
    (any some_object)
    (record { is = refl }) (came_none all start _ le) o

pub member_refused : (all : List Seen) (start next : ℕ) (n : List ℕ) (p : Pos) (e : Stop) → p ≡ place_at all start
    → Whole all start (NameIs ∷ []) (start + 1) [] (marked (Called n) (place_at all start) ∷ [])
    → Whole all (start + 1) (Second ∷ []) next (expr_in ++ Must RightBracket ∷ []) (fixed LeftBracket ∷ [])
    → OnStop e (RefusalIn Any (ended RightBracket) all next (expr_in ++ Must RightBracket ∷ [])) (LongIn Any (ended RightBracket) all next)
    → OnStop e (RefusalIn Any object_parts all start (NameIs ∷ Second ∷ [])) (LongIn Any object_parts all start)
member_refused all start next n p e is w b o =
    after Any Any object_parts (ended RightBracket) all start next (NameIs ∷ Second ∷ []) (expr_in ++ Must RightBracket ∷ []) []
    (marked (Called n) (place_at all start) ∷ fixed LeftBracket ∷ []) (λ y. object_with n (place_at all start) (Some y)) [] e
    (λ y. second_is (marked (Called n) (place_at all start) ∷ []) (ended RightBracket y)) (λ y _. any (object_with n (place_at all start) (Some y)))
    (record { is = refl }) (came_on (came_under (Second ∷ []) (came_marked w)) (came_fixed b)) o

pub member_read : (all : List Seen) (start next end : ℕ) (n : List ℕ) (p : Pos) (x : Expr) → p ≡ place_at all start
    → Whole all start (NameIs ∷ []) (start + 1) [] (marked (Called n) (place_at all start) ∷ [])
    → Whole all (start + 1) (Second ∷ []) next (expr_in ++ Must RightBracket ∷ []) (fixed LeftBracket ∷ [])
    → Came all next (expr_in ++ Must RightBracket ∷ []) end [] (ended RightBracket x)
    → Came all start (NameIs ∷ Second ∷ []) end [] (object_parts (object_with n p (Some x)))
member_read all start next end n p x is w b q = rw is (came_on (came_under (Second ∷ []) (came_marked w)) (came_on (came_fixed b) q))

pub alone_read : (all : List Seen) (start : ℕ) (n : List ℕ) (p : Pos) → p ≡ place_at all start
    → Whole all start (NameIs ∷ []) (start + 1) [] (marked (Called n) (place_at all start) ∷ [])
    → Passes all (start + 1) (Second ∷ []) (start + 1) [] → Came all start (NameIs ∷ Second ∷ []) (start + 1) [] (object_parts (object_with n p None))
alone_read all start n p is w q = rw is (came_past (came_under (Second ∷ []) (came_marked w)) q)

-- ---- what follows the word of a declaration

abbrev declared_in : Stack
declared_in = Must LeftParen ∷ NameIs ∷ Second ∷ Must RightParen ∷ Must Semicolon ∷ []

pub paren_refused : (all : List Seen) (start : ℕ) (e : Stop) → start ≤ length all → OnOther e all start (Must LeftParen ∷ [])
    → OnStop e (RefusalIn Any declared all start declared_in) (LongIn Any declared all start)
paren_refused all start e le o =
    other Any declared all start start declared_in (Must LeftParen ∷ []) (NameIs ∷ Second ∷ Must RightParen ∷ Must Semicolon ∷ []) []
    (declared some_object)
    some_object e refl (any some_object) (record { is = refl }) (came_none all start _ le) o

paren_read : (all : List Seen) (start at : ℕ) → Whole all start (Must LeftParen ∷ []) at [] (fixed LeftParen ∷ [])
    → Came all start declared_in at (NameIs ∷ Second ∷ Must RightParen ∷ Must Semicolon ∷ []) (fixed LeftParen ∷ [])
paren_read all start at w = came_under (NameIs ∷ Second ∷ Must RightParen ∷ Must Semicolon ∷ []) (came_fixed w)

inside : (a : Part) (x : Parts) (b c : Part) → ((a ∷ x) ++ b ∷ []) ++ c ∷ [] ≡ (a ∷ []) ++ (x ++ (b ∷ c ∷ []))
inside a x b c = simp append_assoc

pub inner_refused : (all : List Seen) (start at : ℕ) (e : Stop) → Whole all start (Must LeftParen ∷ []) at [] (fixed LeftParen ∷ [])
    → OnStop e (RefusalIn Any object_parts all at (NameIs ∷ Second ∷ [])) (LongIn Any object_parts all at)
    → OnStop e (RefusalIn Any declared all start declared_in) (LongIn Any declared all start)
inner_refused all start at e w o =
    after Any Any declared object_parts all start at declared_in (NameIs ∷ Second ∷ []) (Must RightParen ∷ Must Semicolon ∷ []) (fixed LeftParen ∷ [])
    (λ y. y)
    (fixed RightParen ∷ fixed Semicolon ∷ []) e
    (λ y. inside (fixed LeftParen) (object_parts y) (fixed RightParen) (fixed Semicolon)) (λ y _. any y) (record { is = refl }) (paren_read all start at w)
    o

inner_read : (all : List Seen) (start at next : ℕ) (x : ObjectRef) → Whole all start (Must LeftParen ∷ []) at [] (fixed LeftParen ∷ [])
    → Came all at (NameIs ∷ Second ∷ []) next [] (object_parts x)
    → Came all start declared_in next (Must RightParen ∷ Must Semicolon ∷ []) (fixed LeftParen ∷ object_parts x)
inner_read all start at next x w p = came_on (paren_read all start at w) (came_under (Must RightParen ∷ Must Semicolon ∷ []) p)

pub closing_refused : (all : List Seen) (start at next : ℕ) (x : ObjectRef) (e : Stop) → Whole all start (Must LeftParen ∷ []) at [] (fixed LeftParen ∷ [])
    → Came all at (NameIs ∷ Second ∷ []) next [] (object_parts x) → OnOther e all next (Must RightParen ∷ [])
    → OnStop e (RefusalIn Any declared all start declared_in) (LongIn Any declared all start)
closing_refused all start at next x e w p o =
    other Any declared all start next declared_in (Must RightParen ∷ []) (Must Semicolon ∷ []) (fixed LeftParen ∷ object_parts x)
    (fixed RightParen ∷ fixed Semicolon ∷ []) x e (append_assoc (fixed LeftParen ∷ object_parts x) (fixed RightParen ∷ []) (fixed Semicolon ∷ [])) (any x)
    (record { is = refl }) (inner_read all start at next x w p) o

closing_read : (all : List Seen) (start at next end : ℕ) (x : ObjectRef) → Whole all start (Must LeftParen ∷ []) at [] (fixed LeftParen ∷ [])
    → Came all at (NameIs ∷ Second ∷ []) next [] (object_parts x) → Whole all next (Must RightParen ∷ []) end [] (fixed RightParen ∷ [])
    → Came all start declared_in end (Must Semicolon ∷ []) ((fixed LeftParen ∷ object_parts x) ++ fixed RightParen ∷ [])
closing_read all start at next end x w p q = came_on (inner_read all start at next x w p) (came_under (Must Semicolon ∷ []) (came_fixed q))

pub semicolon_refused : (all : List Seen) (start at next end : ℕ) (x : ObjectRef) (e : Stop)
    → Whole all start (Must LeftParen ∷ []) at [] (fixed LeftParen ∷ []) → Came all at (NameIs ∷ Second ∷ []) next [] (object_parts x)
    → Whole all next (Must RightParen ∷ []) end [] (fixed RightParen ∷ [])
    → OnOther e all end (Must Semicolon ∷ []) → OnStop e (RefusalIn Any declared all start declared_in) (LongIn Any declared all start)
semicolon_refused all start at next end x e w p q o =
    other Any declared all start end declared_in (Must Semicolon ∷ []) [] ((fixed LeftParen ∷ object_parts x) ++ fixed RightParen ∷ [])
    (fixed Semicolon ∷ []) x
    e refl (any x) (record { is = refl }) (closing_read all start at next end x w p q) o

pub declared_read : (all : List Seen) (start at next end last : ℕ) (x : ObjectRef) → Whole all start (Must LeftParen ∷ []) at [] (fixed LeftParen ∷ [])
    → Came all at (NameIs ∷ Second ∷ []) next [] (object_parts x) → Whole all next (Must RightParen ∷ []) end [] (fixed RightParen ∷ [])
    → Whole all end (Must Semicolon ∷ []) last [] (fixed Semicolon ∷ []) → Came all start declared_in last [] (declared x)
declared_read all start at next end last x w p q r = came_on (closing_read all start at next end x w p q) (came_fixed r)

-- ---- names

abbrev named : List ℕ → Pos → Named
named n p = record { name = n; pos = p }

pub no_names : (all : List Seen) (start : ℕ) (ns : List Named) → ns ≡ [] → Some RightParen ≡ head_sign (drop start (kinds all))
    → Came all start (Names ∷ []) (start + 1) [] (named_list ns)
no_names all start ns e h = rw e (came_fixed (takes_sign all start RightParen (Names ∷ []) [] h (λ rest st. refl)))

no_first : (ts : Tokens) (st : Stack) → (Some RightParen ≡ head_sign ts → ⊥) → goes ts (NameIs ∷ st) ≡ 0 → goes ts (Names ∷ st) ≡ 0
no_first [] st n e = refl
no_first (Fixed s ∷ ts) st n e = rw (not_sign RightParen (Fixed s) ts n) refl
no_first (Called m ∷ ts) st n e = absurd (omega arith)
no_first (Counted v ∷ ts) st n e = refl
no_first (Unknown ∷ ts) st n e = refl

pub names_refused : (all : List Seen) (start : ℕ) (e : Stop) → start ≤ length all → NoHead RightParen all start → OnOther e all start (NameIs ∷ [])
    → OnStop e (RefusalIn Any named_list all start (Names ∷ [])) (LongIn Any named_list all start)
names_refused all start e le n o =
    other Any named_list all start start (Names ∷ []) (Names ∷ []) [] [] (named_list []) [] e refl (any []) (record { is = refl })
    (came_none all start _ le)
    (other_as all start (NameIs ∷ []) (Names ∷ []) e (λ st k. no_first (drop start (kinds all)) st n.none k) o)

-- a name stands where the list begins
named_begins : {all : List Seen} {a : ℕ} {n : List ℕ} {p : Pos} → Whole all a (NameIs ∷ []) (a + 1) [] (marked (Called n) p ∷ [])
    → Whole all a (Names ∷ []) (a + 1) (MoreNames ∷ []) (marked (Called n) p ∷ [])
named_begins {all} {a} {n} {p} w = record { reads = w.reads; passes = record { by = λ st. rw (w.reads.stands) (omega arith) } }

pub name_begun : (all : List Seen) (start : ℕ) (n : List ℕ) (p : Pos) (new : List Named) → new ≡ named n p ∷ [] → p ≡ place_at all start
    → Whole all start (NameIs ∷ []) (start + 1) [] (marked (Called n) (place_at all start) ∷ [])
    → Came all start (Names ∷ []) (start + 1) (MoreNames ∷ []) (name_parts new) × (0 < length new)
name_begun all start n p new e is w = rw (e, is) (came_marked (named_begins w), omega arith)

more_is : (ns : List Named) (n : Named) → 0 < length ns → name_parts (ns ++ n ∷ []) ≡ name_parts ns ++ (fixed Comma ∷ marked (Called n.name) n.pos ∷ [])
more_is [] n lt = absurd (omega arith)
more_is (m ∷ ns) n lt = ap (λ l. marked (Called m.name) m.pos ∷ l)
    (flat_map-append (λ (k : Named). fixed Comma ∷ marked (Called k.name) k.pos ∷ []) ns (n ∷ []))

no_more : (ts : Tokens) (st : Stack) → (Some RightParen ≡ head_sign ts → ⊥) → (Some Comma ≡ head_sign ts → ⊥) → goes ts (MoreNames ∷ st) ≡ 0
no_more [] st n m = refl
no_more (t ∷ ts) st n m = rw (not_sign Comma t ts m, not_sign RightParen t ts n) refl

pub comma_refused : (all : List Seen) (start at : ℕ) (ns : List Named) → Came all start (Names ∷ []) at (MoreNames ∷ []) (name_parts ns)
    → NoHead RightParen all at → NoHead Comma all at → RefusalIn Any named_list all start (Names ∷ []) at
comma_refused all start at ns w n m =
    stop_here Any named_list all start at (Names ∷ []) (MoreNames ∷ []) (name_parts ns) (fixed RightParen ∷ []) ns refl (any ns) (record { is = refl })
    w.short
    w.whole
    (record { by = λ st. let k = no_more (drop at (kinds all)) st n.none m.none in omega (arith, k) })

comma_read : (all : List Seen) (start at : ℕ) (ns : List Named) → Came all start (Names ∷ []) at (MoreNames ∷ []) (name_parts ns) → Some Comma
    ≡ head_sign (drop at (kinds all))
    → Came all start (Names ∷ []) (at + 1) (NameIs ∷ MoreNames ∷ []) (name_parts ns ++ fixed Comma ∷ [])
comma_read all start at ns w h = came_on w (came_fixed (takes_sign all at Comma (MoreNames ∷ []) (NameIs ∷ MoreNames ∷ []) h (λ rest st. refl)))

ending_is : (x : Parts) (a b c : Part) → (x ++ (a ∷ b ∷ [])) ++ c ∷ [] ≡ (x ++ a ∷ []) ++ (b ∷ c ∷ [])
ending_is x a b c = simp append_assoc

pub later_refused : (all : List Seen) (start at : ℕ) (ns : List Named) (e : Stop) → Came all start (Names ∷ []) at (MoreNames ∷ []) (name_parts ns)
    × (0 < length ns) → Some Comma ≡ head_sign (drop at (kinds all)) → OnOther e all (at + 1) (NameIs ∷ [])
    → OnStop e (RefusalIn Any named_list all start (Names ∷ [])) (LongIn Any named_list all start)
later_refused all start at ns e w h o =
    other Any named_list all start (at + 1) (Names ∷ []) (NameIs ∷ []) (MoreNames ∷ []) (name_parts ns ++ fixed Comma ∷ [])
    (marked (Called some_name) nowhere ∷ fixed RightParen ∷ []) (ns ++ named some_name nowhere ∷ []) e
    (ap (λ l. l ++ fixed RightParen ∷ []) (more_is ns (named some_name nowhere) w.1)
    ∙ ending_is (name_parts ns) (fixed Comma) (marked (Called some_name) nowhere) (fixed RightParen)) (any _) (record { is = refl })
    (comma_read all start at ns w.0 h) o

pub later_kept : (all : List Seen) (start at : ℕ) (ns new : List Named) (n : List ℕ) (p : Pos) → new ≡ ns ++ named n p ∷ [] → p ≡ place_at all (at + 1)
    → Came all start (Names ∷ []) at (MoreNames ∷ []) (name_parts ns) × (0 < length ns) → Some Comma ≡ head_sign (drop at (kinds all))
    → Whole all (at + 1) (NameIs ∷ []) (at + 1 + 1) [] (marked (Called n) (place_at all (at + 1)) ∷ [])
    → Came all start (Names ∷ []) (at + 2) (MoreNames ∷ []) (name_parts new) × (0 < length new)
later_kept all start at ns new n p e is w h q =
    let two : at + 1 + 1 ≡ at + 2 = omega arith in
    let c : Came all start (Names ∷ []) (at + 1 + 1) (MoreNames ∷ [])
    ((name_parts ns ++ fixed Comma ∷ []) ++ marked (Called n) (place_at all (at + 1)) ∷ []) =
    came_on (comma_read all start at ns w.0 h) (came_under (MoreNames ∷ []) (came_marked q)) in
    let m : name_parts (ns ++ named n (place_at all (at + 1)) ∷ []) ≡ (name_parts ns ++ fixed Comma ∷ []) ++ marked (Called n) (place_at all (at + 1))
    ∷ [] =
    more_is ns (named n (place_at all (at + 1))) w.1
    ∙ sym (append_assoc (name_parts ns) (fixed Comma ∷ []) (marked (Called n) (place_at all (at + 1)) ∷ [])) in
    (rw (e, is, m, ← two) c, rw e (omega (arith, length-append ns (named n p ∷ []))))

pub names_read : (all : List Seen) (start at : ℕ) (ns : List Named) → Came all start (Names ∷ []) at (MoreNames ∷ []) (name_parts ns) → Some RightParen
    ≡ head_sign (drop at (kinds all)) → Came all start (Names ∷ []) (at + 1) [] (named_list ns)
names_read all start at ns w h = came_on w (came_fixed (takes_sign all at RightParen (MoreNames ∷ []) [] h (λ rest st. refl)))

-- Reading one piece of a statement after another, up to the first that is refused.
use Rattle.std.proofs.Common.{◌≡◌, ℕ, ◌≤◌, Bool, true, false, List, [], ◌∷◌, ◌++◌, Some, refl, ap, length, drop, codes, arith}
use Rattle.jade_base.specs.declared.place.Pos.{Pos}
use Rattle.jade_parser.specs.Spelled.{Token, Tokens, Fixed, Called, Counted, Unknown, Parts, AllValid, fixed, marked, outer, expr_parts}
use Rattle.jade_parser.specs.steps.Machine.{Stack, goes, is_sign, same_sign}
use Rattle.jade_parser.specs.declared.Sign.{Sign}
use Rattle.jade_parser.specs.declared.Seen.{Seen}
use Rattle.jade_parser.specs.declared.Stop.{Stop}
use Rattle.jade_parser.specs.declared.Stop.TheVariants.{Token as AtToken, Long, Memory}
use Rattle.jade_parser.specs.steps.Reads.{Passes, Whole, OnStop, OnOther, head_sign, kinds}
use Rattle.jade_parser.specs.steps.Parts.{Any, RefusalIn, LongIn}
use Rattle.jade_parser.specs.steps.Forms.{Came}
use Rattle.jade_parser.proofs.Reading.{whole_none, whole_on, whole_past, whole_under}
use Rattle.jade_parser.proofs.Standing.{same_is}
use Rattle.jade_parser.proofs.Spelling.{unary_opens, expr_made, and_made, sum_made, product_made}
use Rattle.jade_parser.proofs.Steps.{some_expr, alone_made, named_made}
use Rattle.jade_parser.proofs.Going.{stop_in, stop_other, all_short, none_short, refusal_in_under}

pub any : {X : Type 0} (x : X) → Any x
any x = record { any = tt }

pub came_none : (all : List Seen) (at : ℕ) (xs : Stack) → at ≤ length all → Came all at xs at xs []
came_none all at xs le = record { whole = whole_none all at xs le; short = none_short }

pub came_on : {all : List Seen} {a b c : ℕ} {xs ys zs : Stack} {s t : Parts} → Came all a xs b ys s → Came all b ys c zs t → Came all a xs c zs (s ++ t)
came_on {all} {a} {b} {c} {xs} {ys} {zs} {s} {t} p q = record { whole = whole_on p.whole q.whole; short = all_short s t p.short q.short }

pub came_under : {all : List Seen} {a b : ℕ} {xs ys : Stack} {s : Parts} (zs : Stack) → Came all a xs b ys s → Came all a (xs ++ zs) b (ys ++ zs) s
came_under zs p = record { whole = whole_under zs p.whole; short = p.short }

pub came_past : {all : List Seen} {a b : ℕ} {xs ys zs : Stack} {s : Parts} → Came all a xs b ys s → Passes all b ys b zs → Came all a xs b zs s
came_past p q = record { whole = whole_past p.whole q; short = p.short }

-- one token that lies in no expression
pub came_fixed : {all : List Seen} {a b : ℕ} {xs ys : Stack} {w : Sign} → Whole all a xs b ys (fixed w ∷ []) → Came all a xs b ys (fixed w ∷ [])
came_fixed p = record { whole = p; short = record { is = refl } }

pub came_marked : {all : List Seen} {a b : ℕ} {xs ys : Stack} {t : Token} {q : Pos} → Whole all a xs b ys (marked t q ∷ [])
    → Came all a xs b ys (marked t q ∷ [])
came_marked p = record { whole = p; short = record { is = refl } }

-- after what was read, a piece is refused, or too long
pub after : {X Y : Type 0} (P : X → Type 0) (Q : Y → Type 0) (f : X → Parts) (g : Y → Parts) (all : List Seen) (a b : ℕ) (xs ys zs : Stack) (s : Parts)
    (make : Y → X) (z : Parts) (e : Stop)
    → ((y : Y) → f (make y) ≡ s ++ (g y ++ z)) → ((y : Y) → Q y → P (make y)) → AllValid z → Came all a xs b (ys ++ zs) s
    → OnStop e (RefusalIn Q g all b ys) (LongIn Q g all b) → OnStop e (RefusalIn P f all a xs) (LongIn P f all a)
after P Q f g all a b xs ys zs s make z e eq proper v w o = stop_in P Q f g all a b xs (ys ++ zs) s make z eq proper v w.short w.whole e (under e o)
  where
    under : (e : Stop) → OnStop e (RefusalIn Q g all b ys) (LongIn Q g all b) → OnStop e (RefusalIn Q g all b (ys ++ zs)) (LongIn Q g all b)
    under (AtToken k) o = refusal_in_under zs o
    under (Long k) o = o
    under Memory o = tt

-- after what was read, another token stands than the one that is asked for
pub other : {X : Type 0} (P : X → Type 0) (f : X → Parts) (all : List Seen) (a b : ℕ) (xs ys zs : Stack) (s more : Parts) (tree : X) (e : Stop)
    → f tree ≡ s ++ more → P tree → AllValid more → Came all a xs b (ys ++ zs) s → OnOther e all b ys
    → OnStop e (RefusalIn P f all a xs) (LongIn P f all a)
other P f all a b xs ys zs s more tree e eq fits v w o = stop_other P f all a b xs ys zs s more tree e eq fits v w.short w.whole o

-- the same, of tokens that stand for one another
pub other_as : (all : List Seen) (at : ℕ) (xs ys : Stack) (e : Stop)
    → ((st : Stack) → goes (drop at (kinds all)) (xs ++ st) ≡ 0 → goes (drop at (kinds all)) (ys ++ st) ≡ 0) → OnOther e all at xs → OnOther e all at ys
other_as all at xs ys (AtToken k) h o = (
  o.0,
  record {
    by = λ st.
        let s = o.1.by st in
        let n : goes (drop at (kinds all)) (xs ++ st) ≡ 0 = omega (arith, s) in
        let m = h st n in
        omega (arith, m);
  },
)
other_as all at xs ys (Long k) h o = o
other_as all at xs ys Memory h o = tt

not_true : (b : Bool) → (b ≡ true → ⊥) → b ≡ false
not_true true h = absurd (h refl)
not_true false h = refl

-- another token than this sign
pub not_sign : (w : Sign) (t : Token) (ts : Tokens) → (Some w ≡ head_sign (t ∷ ts) → ⊥) → is_sign w t ≡ false
not_sign w (Fixed s) ts n = not_true (same_sign w s) (λ h. n (ap Some (same_is w s h)))
not_sign w (Called m) ts n = refl
not_sign w (Counted v) ts n = refl
not_sign w Unknown ts n = refl

-- ---- a shortest expression

abbrev pub nowhere : Pos
nowhere = record { line = 0; column = 0 }

abbrev pub some_name : List ℕ
some_name = codes "x"

-- its one token
some_parts : expr_parts some_expr ≡ marked (Called some_name) nowhere ∷ []
some_parts = rw (expr_made, and_made, alone_made, sum_made, product_made, unary_opens, named_made) refl

pub some_valid : AllValid (outer some_expr)
some_valid = rw some_parts (record { is = refl })

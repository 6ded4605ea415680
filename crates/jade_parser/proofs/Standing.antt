-- What stands at a place.
use Rattle.std.proofs.Common.{◌≡◌, ℕ, zero, suc, ◌+◌, ◌<◌, ◌≤◌, List, [], ◌∷◌, ◌++◌, Option, Some, None, refl}
use Rattle.std.proofs.Common.{ap, sym, ◌∙◌, drop, get_or, length, arith, add-one, drop-cons, ℤ, MatchOption}
use Rattle.std.proofs.Common.{Bool, true, false, ◌&&◌, IsTrue}
use Rattle.std.specs.List.{list_all}
use Rattle.std.proofs.lemmas.List.{get_or-map, length-map, drop_all}
use Rattle.jade_base.specs.declared.place.Pos.{Pos}
use Rattle.jade_syntax.specs.declared.name.NameError.{NameError}
use Rattle.jade_syntax.specs.declared.name.NameError.TheVariants.{Shape, Memory as NoMemory}
use Rattle.jade_syntax.specs.Names.{is_name}
use Rattle.jade_syntax.specs.Refusals.{IsNameRefusal}
use Rattle.jade_parser.specs.Spelled.{Token, Tokens, Fixed, Called, Counted, Unknown, marked, fixed, sum_sign, product_sign, relation_sign, unary_sign}
use Rattle.jade_parser.specs.steps.Machine.{Need, Rest, First, Must, Stack, goes, sum_in, product_in, same_sign}
use Rattle.jade_parser.specs.steps.Reads.{kinds, place_at, is_known, Known, token_of, head_sign, Reads, Passes, Whole, Stops, NoUnary}
use Rattle.jade_parser.specs.Spelled.{KeptAt}
use Rattle.jade_parser.specs.steps.Ops.{sum_of, product_of, relation_of, unary_of}
use Rattle.jade_parser.specs.declared.Seen.{Seen}
use Rattle.jade_parser.specs.declared.Kind.{Kind}
use Rattle.jade_parser.specs.declared.Kind.TheVariants.{Fixed as KFixed, Called as KCalled, Counted as KCounted, Unknown as KUnknown}
use denote.Enum.Bare.{same_true}
use Rattle.jade_parser.specs.contracts.Sign.{the_type}
use Rattle.jade_parser.specs.declared.Sign.{Sign}
use Rattle.jade_parser.specs.declared.Sign.TheVariants.{TrueWord, FalseWord, LeftParen, RightParen}
use Rattle.jade_parser.specs.declared.Sign.TheVariants.{LeftBracket, RightBracket, OrSign, AndSign, EqualSign}
use Rattle.jade_parser.specs.declared.Sign.TheVariants.{UnequalSign, LessSign, LessEqualSign, GreaterSign}
use Rattle.jade_parser.specs.declared.Sign.TheVariants.{GreaterEqualSign, PlusSign, MinusSign, TimesSign}
use Rattle.jade_parser.specs.declared.Sign.TheVariants.{OverSign, PercentSign, NotSign, Semicolon, Becomes}
use Rattle.jade_parser.specs.declared.Sign.TheVariants.{LeftBrace, RightBrace, IfWord, ElseWord, ForWord}
use Rattle.jade_parser.specs.declared.Sign.TheVariants.{InWord, DotDot, IntWord, BoolWord, WithonlyWord}
use Rattle.jade_parser.specs.declared.Sign.TheVariants.{WithWord, DoWord, ContWord, Comma, RdWord, WrWord}
use Rattle.jade_parser.specs.declared.Sign.TheVariants.{RdWrWord, DfRdWord, DfWrWord, DfRdWrWord, CmWord, NoRdWord}
use Rattle.jade_parser.specs.declared.Sign.TheVariants.{NoWrWord, NoRdWrWord, InputWord, ObjectWord}
use Rattle.jade_parser.specs.declared.Sign.TheVariants.{ObjectsWord, MainWord, Colon}

pub here : (xs : List Seen) (at : ℕ) (d : Seen) → at < length xs → drop at (kinds xs) ≡ token_of (get_or xs at d).kind ∷ drop (at + 1) (kinds xs)
here xs at d lt =
    let n : length (kinds xs) ≡ length xs = length-map xs _ in
    let m : at < length (kinds xs) = omega arith in
    rw (drop-cons (kinds xs) at (token_of d.kind) m, get_or-map (λ (x : Seen). token_of x.kind) xs at d, add-one) refl

pub head_fixed : (xs : List Seen) (at : ℕ) (d : Seen) (s : Sign) → at < length xs → (get_or xs at d).kind ≡ KFixed s → Some s
    ≡ head_sign (drop at (kinds xs))
head_fixed xs at d s lt e = rw (here xs at d lt, e) refl

pub head_called : (xs : List Seen) (at : ℕ) (d : Seen) (b : _) → at < length xs → (get_or xs at d).kind ≡ KCalled b → None ≡ head_sign (drop at (kinds xs))
head_called xs at d b lt e = rw (here xs at d lt, e) refl

pub head_counted : (xs : List Seen) (at : ℕ) (d : Seen) (v : ℤ) → at < length xs → (get_or xs at d).kind ≡ KCounted v → None
    ≡ head_sign (drop at (kinds xs))
head_counted xs at d v lt e = rw (here xs at d lt, e) refl

pub head_odd : (xs : List Seen) (at : ℕ) (d : Seen) → at < length xs → (get_or xs at d).kind ≡ KUnknown → None ≡ head_sign (drop at (kinds xs))
head_odd xs at d lt e = rw (here xs at d lt, e) refl

pub pos_here : (xs : List Seen) (at : ℕ) (d : Seen) → at < length xs → (get_or xs at d).pos ≡ place_at xs at
pos_here [] at d lt = absurd (omega arith)
pos_here (x ∷ xs) zero d lt = refl
pos_here (x ∷ xs) (suc at) d lt = pos_here xs at d (omega arith)

pub pos_past : (xs : List Seen) (at : ℕ) → length xs ≤ at → record { line = 0; column = 0 } ≡ place_at xs at
pos_past [] at le = refl
pos_past (x ∷ xs) zero le = absurd (omega arith)
pos_past (x ∷ xs) (suc at) le = pos_past xs at (omega arith)

both : (a b : Bool) → (a && b) ≡ true → (a ≡ true) × (b ≡ true)
both true true e = (refl, refl)
both true false e = absurd (cc)
both false true e = absurd (cc)
both false false e = absurd (cc)

known_at : (ts : Tokens) (at : ℕ) (t : Token) → list_all is_known ts ≡ true → drop at ts ≡ t ∷ drop (at + 1) ts → is_known t ≡ true
known_at [] zero t k e = absurd (cc)
known_at [] (suc at) t k e = absurd (cc)
known_at (u ∷ ts) zero t k e = let w : u ≡ t = cc in rw (← w) ((both (is_known u) (list_all is_known ts) k).0)
known_at (u ∷ ts) (suc at) t k e =
    let w : suc at + 1 ≡ suc (at + 1) = omega arith in
    known_at ts at t ((both (is_known u) (list_all is_known ts) k).1) (e ∙ ap (λ j. t ∷ drop j (u ∷ ts)) w)

split : (ts : Tokens) (at : ℕ) (s : Sign) → Some s ≡ head_sign (drop at ts) → (drop at ts ≡ Fixed s ∷ drop (at + 1) ts) × (at < length ts)
split [] zero s e = absurd (cc)
split [] (suc at) s e = absurd (cc)
split (Fixed u ∷ ts) zero s e = let k : u ≡ s = cc in (ap (λ x. Fixed x ∷ ts) k, omega arith)
split (Called n ∷ ts) zero s e = absurd (cc)
split (Counted v ∷ ts) zero s e = absurd (cc)
split (Unknown ∷ ts) zero s e = absurd (cc)
split (t ∷ ts) (suc at) s e =
    let r = split ts at s e in
    let w : suc at + 1 ≡ suc (at + 1) = omega arith in
    (r.0 ∙ ap (λ k. Fixed s ∷ drop k (t ∷ ts)) (sym w), omega (arith, r.1))

pub split_sign : (all : List Seen) (at : ℕ) (s : Sign) → Some s ≡ head_sign (drop at (kinds all)) → drop at (kinds all) ≡ Fixed s
    ∷ drop (at + 1) (kinds all)
split_sign all at s e = (split (kinds all) at s e).0

pub stands : (all : List Seen) (at : ℕ) (s : Sign) (o : Option Pos) → KeptAt o (place_at all at) → Some s ≡ head_sign (drop at (kinds all))
    → Reads all at (at + 1) (record { token = Fixed s; at = o; nth = 0 } ∷ [])
stands all at s o k e =
    let r = split (kinds all) at s e in
    let n : length (kinds all) ≡ length all = length-map all _ in
    record { forward = omega arith; within = omega (arith, r.1); stands = r.0; agrees = (k, tt); valid = λ w. record { is = refl } }

takes_so : (all : List Seen) (at : ℕ) (s : Sign) (o : Option Pos) (xs ys : Stack) → KeptAt o (place_at all at) → Some s ≡ head_sign (drop at (kinds all))
    → ((rest : Tokens) (st : Stack) → goes (Fixed s ∷ rest) (xs ++ st) ≡ 1 + goes rest (ys ++ st))
    → Whole all at xs (at + 1) ys (record { token = Fixed s; at = o; nth = 0 } ∷ [])
takes_so all at s o xs ys k e step =
    let r = split (kinds all) at s e in
    record { reads = stands all at s o k e; passes = record { by = λ st. rw (r.0) (let k = step (drop (at + 1) (kinds all)) st in omega (arith, k)) } }

-- a sign whose place the tree does not keep
pub takes_sign : (all : List Seen) (at : ℕ) (s : Sign) (xs ys : Stack) → Some s ≡ head_sign (drop at (kinds all))
    → ((rest : Tokens) (st : Stack) → goes (Fixed s ∷ rest) (xs ++ st) ≡ 1 + goes rest (ys ++ st)) → Whole all at xs (at + 1) ys (fixed s ∷ [])
takes_sign all at s xs ys e step = takes_so all at s None xs ys tt e step

-- a sign whose place the tree keeps
pub takes_marked : (all : List Seen) (at : ℕ) (s : Sign) (xs ys : Stack) → Some s ≡ head_sign (drop at (kinds all))
    → ((rest : Tokens) (st : Stack) → goes (Fixed s ∷ rest) (xs ++ st) ≡ 1 + goes rest (ys ++ st))
    → Whole all at xs (at + 1) ys (marked (Fixed s) (place_at all at) ∷ [])
takes_marked all at s xs ys e step = takes_so all at s (Some (place_at all at)) xs ys refl e step

pub past_sign : (all : List Seen) (at : ℕ) (s : Sign) (xs : Stack) → Some s ≡ head_sign (drop at (kinds all))
    → ((rest : Tokens) (st : Stack) → goes (Fixed s ∷ rest) (xs ++ st) ≡ goes (Fixed s ∷ rest) st) → Passes all at xs at []
past_sign all at s xs e step =
    let r = split (kinds all) at s e in
    record { by = λ st. ap (λ k. at + k) (rw (r.0) (step (drop (at + 1) (kinds all)) st)) }

pub same_is : (a b : Sign) → IsTrue (same_sign a b) → a ≡ b
same_is a b t = same_true the_type tt a b t

pub sum_leaf : (all : List Seen) (at : ℕ) (s : Sign) (r : _) → Some s ≡ head_sign (drop at (kinds all)) → r ≡ sum_of s
    → MatchOption r (Passes all at (Rest 2 ∷ []) at []) (λ op. Whole all at (Rest 2 ∷ []) (at + 1) sum_in (marked (sum_sign op) (place_at all at) ∷ []))
sum_leaf all at s r e k = rw k (sum_leaf_of s e)
  where
    sum_leaf_of : (u : Sign) → Some u ≡ head_sign (drop at (kinds all))
        → MatchOption (sum_of u) (Passes all at (Rest 2 ∷ []) at [])
        (λ op. Whole all at (Rest 2 ∷ []) (at + 1) sum_in (marked (sum_sign op) (place_at all at) ∷ []))
    sum_leaf_of PlusSign f = takes_marked all at PlusSign _ _ f (λ rest st. refl)
    sum_leaf_of MinusSign f = takes_marked all at MinusSign _ _ f (λ rest st. refl)
    sum_leaf_of TrueWord f = past_sign all at TrueWord _ f (λ rest st. refl)
    sum_leaf_of FalseWord f = past_sign all at FalseWord _ f (λ rest st. refl)
    sum_leaf_of LeftParen f = past_sign all at LeftParen _ f (λ rest st. refl)
    sum_leaf_of RightParen f = past_sign all at RightParen _ f (λ rest st. refl)
    sum_leaf_of LeftBracket f = past_sign all at LeftBracket _ f (λ rest st. refl)
    sum_leaf_of RightBracket f = past_sign all at RightBracket _ f (λ rest st. refl)
    sum_leaf_of OrSign f = past_sign all at OrSign _ f (λ rest st. refl)
    sum_leaf_of AndSign f = past_sign all at AndSign _ f (λ rest st. refl)
    sum_leaf_of EqualSign f = past_sign all at EqualSign _ f (λ rest st. refl)
    sum_leaf_of UnequalSign f = past_sign all at UnequalSign _ f (λ rest st. refl)
    sum_leaf_of LessSign f = past_sign all at LessSign _ f (λ rest st. refl)
    sum_leaf_of LessEqualSign f = past_sign all at LessEqualSign _ f (λ rest st. refl)
    sum_leaf_of GreaterSign f = past_sign all at GreaterSign _ f (λ rest st. refl)
    sum_leaf_of GreaterEqualSign f = past_sign all at GreaterEqualSign _ f (λ rest st. refl)
    sum_leaf_of TimesSign f = past_sign all at TimesSign _ f (λ rest st. refl)
    sum_leaf_of OverSign f = past_sign all at OverSign _ f (λ rest st. refl)
    sum_leaf_of PercentSign f = past_sign all at PercentSign _ f (λ rest st. refl)
    sum_leaf_of NotSign f = past_sign all at NotSign _ f (λ rest st. refl)
    sum_leaf_of Semicolon f = past_sign all at Semicolon _ f (λ rest st. refl)
    sum_leaf_of Becomes f = past_sign all at Becomes _ f (λ rest st. refl)
    sum_leaf_of LeftBrace f = past_sign all at LeftBrace _ f (λ rest st. refl)
    sum_leaf_of RightBrace f = past_sign all at RightBrace _ f (λ rest st. refl)
    sum_leaf_of IfWord f = past_sign all at IfWord _ f (λ rest st. refl)
    sum_leaf_of ElseWord f = past_sign all at ElseWord _ f (λ rest st. refl)
    sum_leaf_of ForWord f = past_sign all at ForWord _ f (λ rest st. refl)
    sum_leaf_of InWord f = past_sign all at InWord _ f (λ rest st. refl)
    sum_leaf_of DotDot f = past_sign all at DotDot _ f (λ rest st. refl)
    sum_leaf_of IntWord f = past_sign all at IntWord _ f (λ rest st. refl)
    sum_leaf_of BoolWord f = past_sign all at BoolWord _ f (λ rest st. refl)
    sum_leaf_of WithonlyWord f = past_sign all at WithonlyWord _ f (λ rest st. refl)
    sum_leaf_of WithWord f = past_sign all at WithWord _ f (λ rest st. refl)
    sum_leaf_of DoWord f = past_sign all at DoWord _ f (λ rest st. refl)
    sum_leaf_of ContWord f = past_sign all at ContWord _ f (λ rest st. refl)
    sum_leaf_of Comma f = past_sign all at Comma _ f (λ rest st. refl)
    sum_leaf_of RdWord f = past_sign all at RdWord _ f (λ rest st. refl)
    sum_leaf_of WrWord f = past_sign all at WrWord _ f (λ rest st. refl)
    sum_leaf_of RdWrWord f = past_sign all at RdWrWord _ f (λ rest st. refl)
    sum_leaf_of DfRdWord f = past_sign all at DfRdWord _ f (λ rest st. refl)
    sum_leaf_of DfWrWord f = past_sign all at DfWrWord _ f (λ rest st. refl)
    sum_leaf_of DfRdWrWord f = past_sign all at DfRdWrWord _ f (λ rest st. refl)
    sum_leaf_of CmWord f = past_sign all at CmWord _ f (λ rest st. refl)
    sum_leaf_of NoRdWord f = past_sign all at NoRdWord _ f (λ rest st. refl)
    sum_leaf_of NoWrWord f = past_sign all at NoWrWord _ f (λ rest st. refl)
    sum_leaf_of NoRdWrWord f = past_sign all at NoRdWrWord _ f (λ rest st. refl)
    sum_leaf_of InputWord f = past_sign all at InputWord _ f (λ rest st. refl)
    sum_leaf_of ObjectWord f = past_sign all at ObjectWord _ f (λ rest st. refl)
    sum_leaf_of ObjectsWord f = past_sign all at ObjectsWord _ f (λ rest st. refl)
    sum_leaf_of MainWord f = past_sign all at MainWord _ f (λ rest st. refl)
    sum_leaf_of Colon f = past_sign all at Colon _ f (λ rest st. refl)

pub product_leaf : (all : List Seen) (at : ℕ) (s : Sign) (r : _) → Some s ≡ head_sign (drop at (kinds all)) → r ≡ product_of s
    → MatchOption r (Passes all at (Rest 1 ∷ []) at [])
    (λ op. Whole all at (Rest 1 ∷ []) (at + 1) product_in (marked (product_sign op) (place_at all at) ∷ []))
product_leaf all at s r e k = rw k (product_leaf_of s e)
  where
    product_leaf_of : (u : Sign) → Some u ≡ head_sign (drop at (kinds all))
        → MatchOption (product_of u) (Passes all at (Rest 1 ∷ []) at [])
        (λ op. Whole all at (Rest 1 ∷ []) (at + 1) product_in (marked (product_sign op) (place_at all at) ∷ []))
    product_leaf_of TimesSign f = takes_marked all at TimesSign _ _ f (λ rest st. refl)
    product_leaf_of OverSign f = takes_marked all at OverSign _ _ f (λ rest st. refl)
    product_leaf_of PercentSign f = takes_marked all at PercentSign _ _ f (λ rest st. refl)
    product_leaf_of TrueWord f = past_sign all at TrueWord _ f (λ rest st. refl)
    product_leaf_of FalseWord f = past_sign all at FalseWord _ f (λ rest st. refl)
    product_leaf_of LeftParen f = past_sign all at LeftParen _ f (λ rest st. refl)
    product_leaf_of RightParen f = past_sign all at RightParen _ f (λ rest st. refl)
    product_leaf_of LeftBracket f = past_sign all at LeftBracket _ f (λ rest st. refl)
    product_leaf_of RightBracket f = past_sign all at RightBracket _ f (λ rest st. refl)
    product_leaf_of OrSign f = past_sign all at OrSign _ f (λ rest st. refl)
    product_leaf_of AndSign f = past_sign all at AndSign _ f (λ rest st. refl)
    product_leaf_of EqualSign f = past_sign all at EqualSign _ f (λ rest st. refl)
    product_leaf_of UnequalSign f = past_sign all at UnequalSign _ f (λ rest st. refl)
    product_leaf_of LessSign f = past_sign all at LessSign _ f (λ rest st. refl)
    product_leaf_of LessEqualSign f = past_sign all at LessEqualSign _ f (λ rest st. refl)
    product_leaf_of GreaterSign f = past_sign all at GreaterSign _ f (λ rest st. refl)
    product_leaf_of GreaterEqualSign f = past_sign all at GreaterEqualSign _ f (λ rest st. refl)
    product_leaf_of PlusSign f = past_sign all at PlusSign _ f (λ rest st. refl)
    product_leaf_of MinusSign f = past_sign all at MinusSign _ f (λ rest st. refl)
    product_leaf_of NotSign f = past_sign all at NotSign _ f (λ rest st. refl)
    product_leaf_of Semicolon f = past_sign all at Semicolon _ f (λ rest st. refl)
    product_leaf_of Becomes f = past_sign all at Becomes _ f (λ rest st. refl)
    product_leaf_of LeftBrace f = past_sign all at LeftBrace _ f (λ rest st. refl)
    product_leaf_of RightBrace f = past_sign all at RightBrace _ f (λ rest st. refl)
    product_leaf_of IfWord f = past_sign all at IfWord _ f (λ rest st. refl)
    product_leaf_of ElseWord f = past_sign all at ElseWord _ f (λ rest st. refl)
    product_leaf_of ForWord f = past_sign all at ForWord _ f (λ rest st. refl)
    product_leaf_of InWord f = past_sign all at InWord _ f (λ rest st. refl)
    product_leaf_of DotDot f = past_sign all at DotDot _ f (λ rest st. refl)
    product_leaf_of IntWord f = past_sign all at IntWord _ f (λ rest st. refl)
    product_leaf_of BoolWord f = past_sign all at BoolWord _ f (λ rest st. refl)
    product_leaf_of WithonlyWord f = past_sign all at WithonlyWord _ f (λ rest st. refl)
    product_leaf_of WithWord f = past_sign all at WithWord _ f (λ rest st. refl)
    product_leaf_of DoWord f = past_sign all at DoWord _ f (λ rest st. refl)
    product_leaf_of ContWord f = past_sign all at ContWord _ f (λ rest st. refl)
    product_leaf_of Comma f = past_sign all at Comma _ f (λ rest st. refl)
    product_leaf_of RdWord f = past_sign all at RdWord _ f (λ rest st. refl)
    product_leaf_of WrWord f = past_sign all at WrWord _ f (λ rest st. refl)
    product_leaf_of RdWrWord f = past_sign all at RdWrWord _ f (λ rest st. refl)
    product_leaf_of DfRdWord f = past_sign all at DfRdWord _ f (λ rest st. refl)
    product_leaf_of DfWrWord f = past_sign all at DfWrWord _ f (λ rest st. refl)
    product_leaf_of DfRdWrWord f = past_sign all at DfRdWrWord _ f (λ rest st. refl)
    product_leaf_of CmWord f = past_sign all at CmWord _ f (λ rest st. refl)
    product_leaf_of NoRdWord f = past_sign all at NoRdWord _ f (λ rest st. refl)
    product_leaf_of NoWrWord f = past_sign all at NoWrWord _ f (λ rest st. refl)
    product_leaf_of NoRdWrWord f = past_sign all at NoRdWrWord _ f (λ rest st. refl)
    product_leaf_of InputWord f = past_sign all at InputWord _ f (λ rest st. refl)
    product_leaf_of ObjectWord f = past_sign all at ObjectWord _ f (λ rest st. refl)
    product_leaf_of ObjectsWord f = past_sign all at ObjectsWord _ f (λ rest st. refl)
    product_leaf_of MainWord f = past_sign all at MainWord _ f (λ rest st. refl)
    product_leaf_of Colon f = past_sign all at Colon _ f (λ rest st. refl)

pub relation_leaf : (all : List Seen) (at : ℕ) (s : Sign) (r : _) → Some s ≡ head_sign (drop at (kinds all)) → r ≡ relation_of s
    → MatchOption r (Passes all at (Rest 3 ∷ []) at [])
    (λ op. Whole all at (Rest 3 ∷ []) (at + 1) sum_in (marked (relation_sign op) (place_at all at) ∷ []))
relation_leaf all at s r e k = rw k (relation_leaf_of s e)
  where
    relation_leaf_of : (u : Sign) → Some u ≡ head_sign (drop at (kinds all))
        → MatchOption (relation_of u) (Passes all at (Rest 3 ∷ []) at [])
        (λ op. Whole all at (Rest 3 ∷ []) (at + 1) sum_in (marked (relation_sign op) (place_at all at) ∷ []))
    relation_leaf_of EqualSign f = takes_marked all at EqualSign _ _ f (λ rest st. refl)
    relation_leaf_of UnequalSign f = takes_marked all at UnequalSign _ _ f (λ rest st. refl)
    relation_leaf_of LessSign f = takes_marked all at LessSign _ _ f (λ rest st. refl)
    relation_leaf_of LessEqualSign f = takes_marked all at LessEqualSign _ _ f (λ rest st. refl)
    relation_leaf_of GreaterSign f = takes_marked all at GreaterSign _ _ f (λ rest st. refl)
    relation_leaf_of GreaterEqualSign f = takes_marked all at GreaterEqualSign _ _ f (λ rest st. refl)
    relation_leaf_of TrueWord f = past_sign all at TrueWord _ f (λ rest st. refl)
    relation_leaf_of FalseWord f = past_sign all at FalseWord _ f (λ rest st. refl)
    relation_leaf_of LeftParen f = past_sign all at LeftParen _ f (λ rest st. refl)
    relation_leaf_of RightParen f = past_sign all at RightParen _ f (λ rest st. refl)
    relation_leaf_of LeftBracket f = past_sign all at LeftBracket _ f (λ rest st. refl)
    relation_leaf_of RightBracket f = past_sign all at RightBracket _ f (λ rest st. refl)
    relation_leaf_of OrSign f = past_sign all at OrSign _ f (λ rest st. refl)
    relation_leaf_of AndSign f = past_sign all at AndSign _ f (λ rest st. refl)
    relation_leaf_of PlusSign f = past_sign all at PlusSign _ f (λ rest st. refl)
    relation_leaf_of MinusSign f = past_sign all at MinusSign _ f (λ rest st. refl)
    relation_leaf_of TimesSign f = past_sign all at TimesSign _ f (λ rest st. refl)
    relation_leaf_of OverSign f = past_sign all at OverSign _ f (λ rest st. refl)
    relation_leaf_of PercentSign f = past_sign all at PercentSign _ f (λ rest st. refl)
    relation_leaf_of NotSign f = past_sign all at NotSign _ f (λ rest st. refl)
    relation_leaf_of Semicolon f = past_sign all at Semicolon _ f (λ rest st. refl)
    relation_leaf_of Becomes f = past_sign all at Becomes _ f (λ rest st. refl)
    relation_leaf_of LeftBrace f = past_sign all at LeftBrace _ f (λ rest st. refl)
    relation_leaf_of RightBrace f = past_sign all at RightBrace _ f (λ rest st. refl)
    relation_leaf_of IfWord f = past_sign all at IfWord _ f (λ rest st. refl)
    relation_leaf_of ElseWord f = past_sign all at ElseWord _ f (λ rest st. refl)
    relation_leaf_of ForWord f = past_sign all at ForWord _ f (λ rest st. refl)
    relation_leaf_of InWord f = past_sign all at InWord _ f (λ rest st. refl)
    relation_leaf_of DotDot f = past_sign all at DotDot _ f (λ rest st. refl)
    relation_leaf_of IntWord f = past_sign all at IntWord _ f (λ rest st. refl)
    relation_leaf_of BoolWord f = past_sign all at BoolWord _ f (λ rest st. refl)
    relation_leaf_of WithonlyWord f = past_sign all at WithonlyWord _ f (λ rest st. refl)
    relation_leaf_of WithWord f = past_sign all at WithWord _ f (λ rest st. refl)
    relation_leaf_of DoWord f = past_sign all at DoWord _ f (λ rest st. refl)
    relation_leaf_of ContWord f = past_sign all at ContWord _ f (λ rest st. refl)
    relation_leaf_of Comma f = past_sign all at Comma _ f (λ rest st. refl)
    relation_leaf_of RdWord f = past_sign all at RdWord _ f (λ rest st. refl)
    relation_leaf_of WrWord f = past_sign all at WrWord _ f (λ rest st. refl)
    relation_leaf_of RdWrWord f = past_sign all at RdWrWord _ f (λ rest st. refl)
    relation_leaf_of DfRdWord f = past_sign all at DfRdWord _ f (λ rest st. refl)
    relation_leaf_of DfWrWord f = past_sign all at DfWrWord _ f (λ rest st. refl)
    relation_leaf_of DfRdWrWord f = past_sign all at DfRdWrWord _ f (λ rest st. refl)
    relation_leaf_of CmWord f = past_sign all at CmWord _ f (λ rest st. refl)
    relation_leaf_of NoRdWord f = past_sign all at NoRdWord _ f (λ rest st. refl)
    relation_leaf_of NoWrWord f = past_sign all at NoWrWord _ f (λ rest st. refl)
    relation_leaf_of NoRdWrWord f = past_sign all at NoRdWrWord _ f (λ rest st. refl)
    relation_leaf_of InputWord f = past_sign all at InputWord _ f (λ rest st. refl)
    relation_leaf_of ObjectWord f = past_sign all at ObjectWord _ f (λ rest st. refl)
    relation_leaf_of ObjectsWord f = past_sign all at ObjectsWord _ f (λ rest st. refl)
    relation_leaf_of MainWord f = past_sign all at MainWord _ f (λ rest st. refl)
    relation_leaf_of Colon f = past_sign all at Colon _ f (λ rest st. refl)

pub unary_leaf : (all : List Seen) (at : ℕ) (s : Sign) (r : _) → Some s ≡ head_sign (drop at (kinds all)) → r ≡ unary_of s
    → MatchOption r (NoUnary all at) (λ op. Whole all at (Need ∷ []) (at + 1) (Need ∷ []) (marked (unary_sign op) (place_at all at) ∷ []))
unary_leaf all at s r e k = rw k (of s e)
  where
    none_here : (u : Sign) → Some u ≡ head_sign (drop at (kinds all)) → unary_of u ≡ None → NoUnary all at
    none_here u f n = record { none = λ v h. let w : v ≡ u = cc in rw w n }

    of : (u : Sign) → Some u ≡ head_sign (drop at (kinds all))
        → MatchOption (unary_of u) (NoUnary all at) (λ op. Whole all at (Need ∷ []) (at + 1) (Need ∷ []) (marked (unary_sign op) (place_at all at) ∷ []))
    of MinusSign f = takes_marked all at MinusSign _ _ f (λ rest st. refl)
    of NotSign f = takes_marked all at NotSign _ _ f (λ rest st. refl)
    of TrueWord f = none_here TrueWord f refl
    of FalseWord f = none_here FalseWord f refl
    of LeftParen f = none_here LeftParen f refl
    of RightParen f = none_here RightParen f refl
    of LeftBracket f = none_here LeftBracket f refl
    of RightBracket f = none_here RightBracket f refl
    of OrSign f = none_here OrSign f refl
    of AndSign f = none_here AndSign f refl
    of EqualSign f = none_here EqualSign f refl
    of UnequalSign f = none_here UnequalSign f refl
    of LessSign f = none_here LessSign f refl
    of LessEqualSign f = none_here LessEqualSign f refl
    of GreaterSign f = none_here GreaterSign f refl
    of GreaterEqualSign f = none_here GreaterEqualSign f refl
    of PlusSign f = none_here PlusSign f refl
    of TimesSign f = none_here TimesSign f refl
    of OverSign f = none_here OverSign f refl
    of PercentSign f = none_here PercentSign f refl
    of Semicolon f = none_here Semicolon f refl
    of Becomes f = none_here Becomes f refl
    of LeftBrace f = none_here LeftBrace f refl
    of RightBrace f = none_here RightBrace f refl
    of IfWord f = none_here IfWord f refl
    of ElseWord f = none_here ElseWord f refl
    of ForWord f = none_here ForWord f refl
    of InWord f = none_here InWord f refl
    of DotDot f = none_here DotDot f refl
    of IntWord f = none_here IntWord f refl
    of BoolWord f = none_here BoolWord f refl
    of WithonlyWord f = none_here WithonlyWord f refl
    of WithWord f = none_here WithWord f refl
    of DoWord f = none_here DoWord f refl
    of ContWord f = none_here ContWord f refl
    of Comma f = none_here Comma f refl
    of RdWord f = none_here RdWord f refl
    of WrWord f = none_here WrWord f refl
    of RdWrWord f = none_here RdWrWord f refl
    of DfRdWord f = none_here DfRdWord f refl
    of DfWrWord f = none_here DfWrWord f refl
    of DfRdWrWord f = none_here DfRdWrWord f refl
    of CmWord f = none_here CmWord f refl
    of NoRdWord f = none_here NoRdWord f refl
    of NoWrWord f = none_here NoWrWord f refl
    of NoRdWrWord f = none_here NoRdWrWord f refl
    of InputWord f = none_here InputWord f refl
    of ObjectWord f = none_here ObjectWord f refl
    of ObjectsWord f = none_here ObjectsWord f refl
    of MainWord f = none_here MainWord f refl
    of Colon f = none_here Colon f refl

pub head_is : (a b : Sign) (r : Bool) (o : Option Sign) → r ≡ same_sign a b → IsTrue r → Some b ≡ o → Some a ≡ o
head_is a b r o e t h = let k : a ≡ b = same_is a b (rw (← e) t) in rw k h

pub must_step : (w : Sign) (rest : Tokens) (st : Stack) → goes (Fixed w ∷ rest) (Must w ∷ st) ≡ 1 + goes rest st
must_step TrueWord rest st = refl
must_step FalseWord rest st = refl
must_step LeftParen rest st = refl
must_step RightParen rest st = refl
must_step LeftBracket rest st = refl
must_step RightBracket rest st = refl
must_step OrSign rest st = refl
must_step AndSign rest st = refl
must_step EqualSign rest st = refl
must_step UnequalSign rest st = refl
must_step LessSign rest st = refl
must_step LessEqualSign rest st = refl
must_step GreaterSign rest st = refl
must_step GreaterEqualSign rest st = refl
must_step PlusSign rest st = refl
must_step MinusSign rest st = refl
must_step TimesSign rest st = refl
must_step OverSign rest st = refl
must_step PercentSign rest st = refl
must_step NotSign rest st = refl
must_step Semicolon rest st = refl
must_step Becomes rest st = refl
must_step LeftBrace rest st = refl
must_step RightBrace rest st = refl
must_step IfWord rest st = refl
must_step ElseWord rest st = refl
must_step ForWord rest st = refl
must_step InWord rest st = refl
must_step DotDot rest st = refl
must_step IntWord rest st = refl
must_step BoolWord rest st = refl
must_step WithonlyWord rest st = refl
must_step WithWord rest st = refl
must_step DoWord rest st = refl
must_step ContWord rest st = refl
must_step Comma rest st = refl
must_step RdWord rest st = refl
must_step WrWord rest st = refl
must_step RdWrWord rest st = refl
must_step DfRdWord rest st = refl
must_step DfWrWord rest st = refl
must_step DfRdWrWord rest st = refl
must_step CmWord rest st = refl
must_step NoRdWord rest st = refl
must_step NoWrWord rest st = refl
must_step NoRdWrWord rest st = refl
must_step InputWord rest st = refl
must_step ObjectWord rest st = refl
must_step ObjectsWord rest st = refl
must_step MainWord rest st = refl
must_step Colon rest st = refl

pub called_reads : (xs : List Seen) (at : ℕ) (b : List ℕ) → at < length xs → drop at (kinds xs) ≡ Called b ∷ drop (at + 1) (kinds xs)
    → Reads xs at (at + 1) (marked (Called b) (place_at xs at) ∷ [])
called_reads xs at b lt h = record {
  forward = omega arith;
  within = omega arith;
  stands = h;
  agrees = (refl, tt);
  valid =
      λ k. record { is = rw (known_at (kinds xs) at (Called b) k.is h) refl };
}

pub counted_reads : (xs : List Seen) (at : ℕ) (v : ℤ) → at < length xs → drop at (kinds xs) ≡ Counted v ∷ drop (at + 1) (kinds xs)
    → Reads xs at (at + 1) (marked (Counted v) (place_at xs at) ∷ [])
counted_reads xs at v lt h = record {
  forward = omega arith;
  within = omega arith;
  stands = h;
  agrees = (refl, tt);
  valid =
      λ k. record { is = rw (known_at (kinds xs) at (Counted v) k.is h) refl };
}

pub called_here : (xs : List Seen) (at : ℕ) (d : Seen) (b : _) → at < length xs → (get_or xs at d).kind ≡ KCalled b
    → Whole xs at (Need ∷ []) (at + 1) (First ∷ []) (marked (Called b.now) (place_at xs at) ∷ [])
called_here xs at d b lt e =
    let h : drop at (kinds xs) ≡ Called b.now ∷ drop (at + 1) (kinds xs) = here xs at d lt ∙ rw e refl in
    record { reads = called_reads xs at b.now lt h; passes = record { by = λ st. rw h (omega arith) } }

pub counted_here : (xs : List Seen) (at : ℕ) (d : Seen) (v : ℤ) → at < length xs → (get_or xs at d).kind ≡ KCounted v
    → Whole xs at (Need ∷ []) (at + 1) [] (marked (Counted v) (get_or xs at d).pos ∷ [])
counted_here xs at d v lt e =
    let h : drop at (kinds xs) ≡ Counted v ∷ drop (at + 1) (kinds xs) = here xs at d lt ∙ rw e refl in
    rw (pos_here xs at d lt) (record { reads = counted_reads xs at v lt h; passes = record { by = λ st. rw h (omega arith) } })

pub nothing_here : (xs : List Seen) (at : ℕ) → length xs ≤ at → (st : Stack) → goes (drop at (kinds xs)) (Need ∷ st) ≡ 0
nothing_here xs at le st =
    let n : length (kinds xs) ≡ length xs = length-map xs _ in
    let m : length (kinds xs) ≤ at = omega arith in
    rw (drop_all at (kinds xs) m) refl

no_atom : (s : Sign) → (s ≡ TrueWord → ⊥) → (s ≡ FalseWord → ⊥) → (s ≡ LeftParen → ⊥) → unary_of s ≡ None → (rest : Tokens) (st : Stack)
    → goes (Fixed s ∷ rest) (Need ∷ st) ≡ 0
no_atom TrueWord a b c d rest st = absurd (a refl)
no_atom FalseWord a b c d rest st = absurd (b refl)
no_atom LeftParen a b c d rest st = absurd (c refl)
no_atom MinusSign a b c d rest st = absurd (cc)
no_atom NotSign a b c d rest st = absurd (cc)
no_atom RightParen a b c d rest st = refl
no_atom LeftBracket a b c d rest st = refl
no_atom RightBracket a b c d rest st = refl
no_atom OrSign a b c d rest st = refl
no_atom AndSign a b c d rest st = refl
no_atom EqualSign a b c d rest st = refl
no_atom UnequalSign a b c d rest st = refl
no_atom LessSign a b c d rest st = refl
no_atom LessEqualSign a b c d rest st = refl
no_atom GreaterSign a b c d rest st = refl
no_atom GreaterEqualSign a b c d rest st = refl
no_atom PlusSign a b c d rest st = refl
no_atom TimesSign a b c d rest st = refl
no_atom OverSign a b c d rest st = refl
no_atom PercentSign a b c d rest st = refl
no_atom Semicolon a b c d rest st = refl
no_atom Becomes a b c d rest st = refl
no_atom LeftBrace a b c d rest st = refl
no_atom RightBrace a b c d rest st = refl
no_atom IfWord a b c d rest st = refl
no_atom ElseWord a b c d rest st = refl
no_atom ForWord a b c d rest st = refl
no_atom InWord a b c d rest st = refl
no_atom DotDot a b c d rest st = refl
no_atom IntWord a b c d rest st = refl
no_atom BoolWord a b c d rest st = refl
no_atom WithonlyWord a b c d rest st = refl
no_atom WithWord a b c d rest st = refl
no_atom DoWord a b c d rest st = refl
no_atom ContWord a b c d rest st = refl
no_atom Comma a b c d rest st = refl
no_atom RdWord a b c d rest st = refl
no_atom WrWord a b c d rest st = refl
no_atom RdWrWord a b c d rest st = refl
no_atom DfRdWord a b c d rest st = refl
no_atom DfWrWord a b c d rest st = refl
no_atom DfRdWrWord a b c d rest st = refl
no_atom CmWord a b c d rest st = refl
no_atom NoRdWord a b c d rest st = refl
no_atom NoWrWord a b c d rest st = refl
no_atom NoRdWrWord a b c d rest st = refl
no_atom InputWord a b c d rest st = refl
no_atom ObjectWord a b c d rest st = refl
no_atom ObjectsWord a b c d rest st = refl
no_atom MainWord a b c d rest st = refl
no_atom Colon a b c d rest st = refl

pub odd_here : (xs : List Seen) (at : ℕ) (d : Seen) → at < length xs → (get_or xs at d).kind ≡ KUnknown → (st : Stack)
    → goes (drop at (kinds xs)) (Need ∷ st)
    ≡ 0
odd_here xs at d lt e st = rw (here xs at d lt, e) refl

pub no_sign_here : (all : List Seen) (at : ℕ) (s : Sign) → Some s ≡ head_sign (drop at (kinds all)) → NoUnary all at → (s ≡ TrueWord → ⊥)
    → (s ≡ FalseWord → ⊥)
    → (s ≡ LeftParen → ⊥)
    → (st : Stack) → goes (drop at (kinds all)) (Need ∷ st) ≡ 0
no_sign_here all at s e u a b c st = let r = split (kinds all) at s e in rw (r.0) (no_atom s a b c (u.none s (sym e)) (drop (at + 1) (kinds all)) st)

pub within_here : (all : List Seen) (at : ℕ) (s : Sign) → Some s ≡ head_sign (drop at (kinds all)) → at ≤ length all
within_here all at s e = let r = split (kinds all) at s e in let n : length (kinds all) ≡ length all = length-map all _ in omega (arith, r.1)

-- a name, where a name may stand
pub called_taken : (xs : List Seen) (at : ℕ) (d : Seen) (b : _) (ys zs : Stack) → at < length xs → (get_or xs at d).kind ≡ KCalled b
    → ((rest : Tokens) (st : Stack) → goes (Called b.now ∷ rest) (ys ++ st) ≡ 1 + goes rest (zs ++ st))
    → Whole xs at ys (at + 1) zs (marked (Called b.now) (place_at xs at) ∷ [])
called_taken xs at d b ys zs lt e step =
    let h : drop at (kinds xs) ≡ Called b.now ∷ drop (at + 1) (kinds xs) = here xs at d lt ∙ rw e refl in
    record { reads = called_reads xs at b.now lt h; passes = record { by = λ st. rw h (let k = step (drop (at + 1) (kinds xs)) st in omega (arith, k)) } }

-- what stands as a name among known tokens is one
pub called_known : {xs : List Seen} {a b : ℕ} {ys zs : Stack} {n : List ℕ} {p : Pos} → Whole xs a ys b zs (marked (Called n) p ∷ []) → Known xs → is_name n
    ≡ true
called_known {xs} {a} {b} {ys} {zs} {n} {p} w k = (both (is_name n) true (w.reads.valid k).is).0

-- a name is not refused for its shape
pub never_shape : (n : List ℕ) (e : NameError) → is_name n ≡ true → IsNameRefusal n e → e ≡ Shape → ⊥
never_shape n Shape v r k = absurd (cc)
never_shape n NoMemory v r k = absurd (cc)

-- a number, where a number may stand
pub counted_taken : (xs : List Seen) (at : ℕ) (d : Seen) (v : ℤ) (ys zs : Stack) → at < length xs → (get_or xs at d).kind ≡ KCounted v
    → ((rest : Tokens) (st : Stack) → goes (Counted v ∷ rest) (ys ++ st) ≡ 1 + goes rest (zs ++ st))
    → Whole xs at ys (at + 1) zs (marked (Counted v) (get_or xs at d).pos ∷ [])
counted_taken xs at d v ys zs lt e step =
    let h : drop at (kinds xs) ≡ Counted v ∷ drop (at + 1) (kinds xs) = here xs at d lt ∙ rw e refl in
    rw (pos_here xs at d lt) (record
    { reads = counted_reads xs at v lt h; passes = record { by = λ st. rw h (let k = step (drop (at + 1) (kinds xs)) st in omega (arith, k)) } })

-- a token that may not stand there
pub stops_kind : (xs : List Seen) (at : ℕ) (d : Seen) (k : Kind) (ys : Stack) → at < length xs → (get_or xs at d).kind ≡ k
    → ((rest : Tokens) (st : Stack) → goes (token_of k ∷ rest) (ys ++ st) ≡ 0) → (at ≡ at) × Stops xs at ys at
stops_kind xs at d k ys lt e none = (refl, record { by = λ st. rw (here xs at d lt, e, none (drop (at + 1) (kinds xs)) st) (omega arith) })

-- the end, where more is missing
pub stops_end : (xs : List Seen) (at : ℕ) (ys : Stack) → length xs ≤ at → ((st : Stack) → goes [] (ys ++ st) ≡ 0) → (at ≡ at) × Stops xs at ys at
stops_end xs at ys le none =
    let n : length (kinds xs) ≡ length xs = length-map xs _ in
    let m : length (kinds xs) ≤ at = omega arith in
    (refl, record { by = λ st. rw (drop_all at (kinds xs) m, none st) (omega arith) })

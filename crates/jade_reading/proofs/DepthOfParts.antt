-- The brackets of a part of a sound tree nest among its tokens as deep as its extent says.
use Rattle.std.proofs.Common.{◌≡◌, ℕ, max, Bool, true, false, ◌&&◌, List, [], ◌∷◌, ◌++◌, map, length, ℤ, pos, negsuc, codes, refl, sym, arith}
use Rattle.std.specs.List.{flat_map}
use Rattle.std.specs.Fmt.{signed_decimal}
use Rattle.std.proofs.lemmas.Bool.{and_parts, leb-true, true≢false}
use Rattle.jade_base.specs.declared.place.Pos.{Pos}
use Rattle.jade_syntax.specs.declared.shapes.extent.Extent.{Extent}
use Rattle.jade_syntax.specs.declared.tree.Number.{Number}
use Rattle.jade_syntax.specs.declared.tree.Relation.{Relation}
use Rattle.jade_syntax.specs.declared.tree.Relation.TheVariants.{Equal, Unequal, Less, LessEqual, Greater, GreaterEqual}
use Rattle.jade_syntax.specs.declared.tree.SumOp.{SumOp}
use Rattle.jade_syntax.specs.declared.tree.SumOp.TheVariants.{Plus, Minus}
use Rattle.jade_syntax.specs.declared.tree.ProductOp.{ProductOp}
use Rattle.jade_syntax.specs.declared.tree.ProductOp.TheVariants.{Times, Over, Remainder}
use Rattle.jade_syntax.specs.declared.tree.UnaryOp.{UnaryOp}
use Rattle.jade_syntax.specs.declared.tree.UnaryOp.TheVariants.{Negative, Not}
use Rattle.jade_syntax.specs.Shapes.{◌⊕◌, nothing, signs, all_of, in_brackets, name_extent, number_extent, is_natural}
use Rattle.jade_layout.specs.Spelling.{Token, Tokens, relation_sign, sum_sign, product_sign, unary_sign, number_token, truth_word, bracketed}
use Rattle.jade_layout.proofs.Goes.{name_plain, decimal_plain}
use Rattle.jade_reading.proofs.DepthOfTokens.{past, Nests, less, nests_nothing, join, sign, round, square, plain}

-- where the part is sound, its brackets nest among its tokens as deep as its extent says
pub record Nested (x : Extent) (ts : Tokens) : Type 0 where
  pub by : x.sound ≡ true → Nests x.depth ts

pub nested_join : {x y : Extent} {a b : Tokens} → Nested x a → Nested y b → Nested (x ⊕ y) (a ++ b)
nested_join {x} {y} f g = record { by = λ h. let p = and_parts x.sound y.sound h in join (f.by p.0) (g.by p.1) }

pub nested_nothing : Nested nothing []
nested_nothing = record { by = λ h. nests_nothing }

-- the other grouping of three parts
pub nested_regroup : (x y z : Extent) (ts : Tokens) → Nested (x ⊕ (y ⊕ z)) ts → Nested (x ⊕ y ⊕ z) ts
nested_regroup x y z ts f = record {
  by = λ h.
      let p = and_parts (x.sound && y.sound) z.sound h in
      let q = and_parts x.sound y.sound p.0 in
      less (max (max x.depth y.depth) z.depth) (omega arith) (f.by (λ i. q.0 i && (q.1 i && p.1 i)));
}

-- the parts of a list
pub nested_all : {A : Type 0} (g : A → Extent) (f : A → Tokens) (xs : List A) → ((y : A) → Nested (g y) (f y)) → Nested (all_of (map g xs)) (flat_map f xs)
nested_all g f [] each = nested_nothing
nested_all g f (x ∷ xs) each = nested_join (each x) (nested_all g f xs each)

-- a token that is no bracket
abbrev pub IsSign : Token → Type 0
IsSign t = (depth : ℕ) → past depth t ≡ depth

-- such a token, counted among so many
pub nested_sign : (k : ℕ) (t : Token) → IsSign t → Nested (signs k) (t ∷ [])
nested_sign k t is = record { by = λ h. sign t is }

-- such a token after a part that counts it
pub nested_mark : {x : Extent} {ts : Tokens} (t : Token) → IsSign t → Nested x ts → Nested x (ts ++ t ∷ [])
nested_mark {x} t is f = record { by = λ h. less x.depth (omega arith) (join (f.by h) (sign t is)) }

-- signs that are counted before a part
pub nested_lead : {x : Extent} {ts : Tokens} (k : ℕ) → Nested x ts → Nested (signs k ⊕ x) ts
nested_lead {x} k f = record { by = λ h. less (max 0 x.depth) (omega arith) (f.by h) }

-- signs that are counted after a part
pub nested_trail : {x : Extent} {ts : Tokens} (k : ℕ) → Nested x ts → Nested (x ⊕ signs k) ts
nested_trail {x} k f = record { by = λ h. less (max x.depth 0) (omega arith) (f.by (and_parts x.sound true h).0) }

-- a chain of one level
pub nested_chain : {P : Type 0} {x : Extent} {first : Tokens} (g : P → Extent) (f : P → Tokens) (op : P → Token) → ((p : P) → IsSign (op p))
    → ((p : P) → Nested (g p) (f p)) → Nested x first → (ps : List P)
    → Nested (x ⊕ all_of (map (λ p. signs 1 ⊕ g p) ps)) (first ++ flat_map (λ p. op p ∷ f p) ps)
nested_chain g f op is each begun ps =
    nested_join begun (nested_all (λ p. signs 1 ⊕ g p) (λ p. op p ∷ f p) ps (λ p. nested_join (nested_sign 1 (op p) (is p)) (each p)))

pub sum_is_sign : (o : SumOp) → IsSign (sum_sign o)
sum_is_sign Plus = λ depth. refl
sum_is_sign Minus = λ depth. refl

pub product_is_sign : (o : ProductOp) → IsSign (product_sign o)
product_is_sign Times = λ depth. refl
product_is_sign Over = λ depth. refl
product_is_sign Remainder = λ depth. refl

relation_is_sign : (o : Relation) → IsSign (relation_sign o)
relation_is_sign Equal = λ depth. refl
relation_is_sign Unequal = λ depth. refl
relation_is_sign Less = λ depth. refl
relation_is_sign LessEqual = λ depth. refl
relation_is_sign Greater = λ depth. refl
relation_is_sign GreaterEqual = λ depth. refl

unary_is_sign : (o : UnaryOp) → IsSign (unary_sign o)
unary_is_sign Negative = λ depth. refl
unary_is_sign Not = λ depth. refl

signs_nest : (ss : List (UnaryOp × Pos)) → Nests 0 (flat_map (λ (p : UnaryOp × Pos). unary_sign p.0 ∷ []) ss)
signs_nest [] = nests_nothing
signs_nest (s ∷ ss) = join (sign (unary_sign s.0) (unary_is_sign s.0)) (signs_nest ss)

-- signs before an operand
pub nested_signs : {x : Extent} {ts : Tokens} (ss : List (UnaryOp × Pos)) → Nested x ts
    → Nested (signs (length ss) ⊕ x) (flat_map (λ (p : UnaryOp × Pos). unary_sign p.0 ∷ []) ss ++ ts)
nested_signs ss f = record { by = λ h. join (signs_nest ss) (f.by h) }

number_nests : (z : ℤ) → is_natural z ≡ true → Nests 0 (signed_decimal z ∷ [])
number_nests (pos n) h = plain (signed_decimal (pos n)) (decimal_plain n (leb-true n 9223372036854775807 h))
number_nests (negsuc n) h = absurd (true≢false (sym h))

pub nested_number : (n : Number) → Nested (number_extent n) (number_token n ∷ [])
nested_number n = record { by = λ h. number_nests n.value h }

pub nested_name : (n : Token) → Nested (name_extent n) (n ∷ [])
nested_name n = record { by = λ h. plain n (name_plain n h) }

pub nested_truth : (b : Bool) → Nested (signs 1) (truth_word b ∷ [])
nested_truth true = nested_sign 1 (codes "true") (λ depth. refl)
nested_truth false = nested_sign 1 (codes "false") (λ depth. refl)

pub nested_group : {x : Extent} {ts : Tokens} → Nested x ts → Nested (in_brackets x) (codes "(" ∷ (ts ++ codes ")" ∷ []))
nested_group f = record { by = λ h. round (f.by h) }

pub nested_bracketed : {x : Extent} {ts : Tokens} → Nested x ts → Nested (in_brackets x) (bracketed ts)
nested_bracketed f = record { by = λ h. square (f.by h) }

-- a name with one index or two
pub nested_single : {x : Extent} {ts : Tokens} (n : Token) → Nested x ts → Nested (name_extent n ⊕ nothing ⊕ in_brackets x) (n ∷ ([] ++ bracketed ts))
nested_single {x} {ts} n f = nested_regroup (name_extent n) nothing (in_brackets x) _
    (nested_join (nested_name n) (nested_join nested_nothing (nested_bracketed f)))

pub nested_member : {x y : Extent} {a b : Tokens} (n : Token) → Nested x a → Nested y b
    → Nested (name_extent n ⊕ in_brackets x ⊕ in_brackets y) (n ∷ (bracketed a ++ bracketed b))
nested_member {x} {y} n f g = nested_regroup (name_extent n) (in_brackets x) (in_brackets y) _
    (nested_join (nested_name n) (nested_join (nested_bracketed f) (nested_bracketed g)))

-- one operand, or two with a relation between them
pub nested_alone : {x : Extent} {ts : Tokens} → Nested x ts → Nested (x ⊕ nothing) (ts ++ [])
nested_alone f = nested_join f nested_nothing

pub nested_pair : {x y : Extent} {a b : Tokens} (o : Relation) → Nested x a → Nested y b → Nested (x ⊕ (signs 1 ⊕ y)) (a ++ relation_sign o ∷ b)
nested_pair o f g = nested_join f (nested_join (nested_sign 1 (relation_sign o) (relation_is_sign o)) g)

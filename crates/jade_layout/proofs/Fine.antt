-- What is spelled of a shaped tree goes on being readable.
use Rattle.std.proofs.Common.{◌≡◌, ℕ, max, Bool, true, false, ◌&&◌, List, [], ◌∷◌, ◌++◌, map, length, ℤ, pos, negsuc, codes, refl, sym, ◌∙◌, arith}
use Rattle.std.specs.List.{flat_map}
use Rattle.std.specs.Fmt.{signed_decimal}
use Rattle.std.proofs.lemmas.Bool.{and_parts, leb-true, true≢false}
use Rattle.jade_base.specs.declared.place.Pos.{Pos}
use Rattle.jade_syntax.specs.declared.shapes.extent.Extent.{Extent}
use Rattle.jade_syntax.specs.declared.tree.Number.{Number}
use Rattle.jade_syntax.specs.declared.tree.Relation.{Relation}
use Rattle.jade_syntax.specs.declared.tree.Relation.TheVariants.{Equal, Unequal, Less, LessEqual, Greater, GreaterEqual}
use Rattle.jade_syntax.specs.declared.tree.SumOp.{SumOp}
use Rattle.jade_syntax.specs.declared.tree.SumOp.TheVariants.{Plus, Minus}
use Rattle.jade_syntax.specs.declared.tree.ProductOp.{ProductOp}
use Rattle.jade_syntax.specs.declared.tree.ProductOp.TheVariants.{Times, Over, Remainder}
use Rattle.jade_syntax.specs.declared.tree.UnaryOp.{UnaryOp}
use Rattle.jade_syntax.specs.declared.tree.UnaryOp.TheVariants.{Negative, Not}
use Rattle.jade_syntax.specs.Shapes.{◌⊕◌, nothing as no_extent, signs, all_of, in_brackets, name_extent, number_extent, is_natural}
use Rattle.jade_layout.specs.Spelling.{Token, Tokens, relation_sign, sum_sign, product_sign, unary_sign, number_token, truth_word, bracketed}
use Rattle.jade_layout.specs.Readable.{is_readable}
use Rattle.jade_layout.proofs.Goes.{Goes, GoesOn, on, wider, wider_on, nothing, join, join_on, plain, mark, round, square, name_plain, decimal_plain}

-- where the part is sound, its tokens are readable with room for its brackets
pub record Fine (x : Extent) (ts : Tokens) : Type 0 where
  pub by : x.sound ≡ true → Goes x.depth ts

-- the same after another token than `!`
pub record FineOn (x : Extent) (ts : Tokens) : Type 0 where
  pub by : x.sound ≡ true → GoesOn x.depth ts

pub fine_on : {x : Extent} {ts : Tokens} → Fine x ts → FineOn x ts
fine_on f = record { by = λ h. on (f.by h) }

pub fine_join : {x y : Extent} {a b : Tokens} → Fine x a → FineOn y b → Fine (x ⊕ y) (a ++ b)
fine_join {x} {y} f g = record {
  by = λ h. let p = and_parts x.sound y.sound h in
      join (wider (max x.depth y.depth) (omega arith) (f.by p.0)) (wider_on (max x.depth y.depth) (omega arith) (g.by p.1));
}

pub fine_join_on : {x y : Extent} {a b : Tokens} → FineOn x a → FineOn y b → FineOn (x ⊕ y) (a ++ b)
fine_join_on {x} {y} f g = record {
  by = λ h. let p = and_parts x.sound y.sound h in
      join_on (wider_on (max x.depth y.depth) (omega arith) (f.by p.0)) (wider_on (max x.depth y.depth) (omega arith) (g.by p.1));
}

pub fine_nothing : FineOn no_extent []
fine_nothing = record { by = λ h. nothing 0 }

-- the other grouping of three parts
pub fine_regroup : (x y z : Extent) (ts : Tokens) → Fine (x ⊕ (y ⊕ z)) ts → Fine (x ⊕ y ⊕ z) ts
fine_regroup x y z ts f = record {
  by = λ h.
      let p = and_parts (x.sound && y.sound) z.sound h in
      let q = and_parts x.sound y.sound p.0 in
      wider (max (max x.depth y.depth) z.depth) (omega arith) (f.by (λ i. q.0 i && (q.1 i && p.1 i)));
}

-- the parts of a list
pub fine_all : {A : Type 0} (g : A → Extent) (f : A → Tokens) (xs : List A) → ((y : A) → FineOn (g y) (f y)) → FineOn (all_of (map g xs)) (flat_map f xs)
fine_all g f [] each = fine_nothing
fine_all g f (x ∷ xs) each = fine_join_on (each x) (fine_all g f xs each)

-- a sign that may stand after an operand
abbrev pub IsMark : Token → Type 0
IsMark t = (depth : ℕ) (rest : Tokens) → is_readable depth false (t ∷ rest) ≡ is_readable depth false rest

pub fine_link : {x : Extent} {ts : Tokens} (op : Token) → IsMark op → Fine x ts → FineOn (signs 1 ⊕ x) (op ∷ ts)
fine_link {x} op is f = record { by = λ h. join_on (mark (max 0 x.depth) op is) (on (wider (max 0 x.depth) (omega arith) (f.by h))) }

-- a chain of one level
pub fine_chain : {P : Type 0} {x : Extent} {first : Tokens} (g : P → Extent) (f : P → Tokens) (op : P → Token) → ((p : P) → IsMark (op p))
    → ((p : P) → Fine (g p) (f p)) → Fine x first → (ps : List P) → Fine (x ⊕ all_of (map (λ p. signs 1 ⊕ g p) ps)) (first ++ flat_map (λ p. op p ∷ f p) ps)
fine_chain g f op marks each begun ps = fine_join begun (fine_all (λ p. signs 1 ⊕ g p) (λ p. op p ∷ f p) ps (λ p. fine_link (op p) (marks p) (each p)))

pub sum_mark : (o : SumOp) → IsMark (sum_sign o)
sum_mark Plus = λ depth rest. refl
sum_mark Minus = λ depth rest. refl

pub product_mark : (o : ProductOp) → IsMark (product_sign o)
product_mark Times = λ depth rest. refl
product_mark Over = λ depth rest. refl
product_mark Remainder = λ depth rest. refl

pub relation_mark : (o : Relation) → IsMark (relation_sign o)
relation_mark Equal = λ depth rest. refl
relation_mark Unequal = λ depth rest. refl
relation_mark Less = λ depth rest. refl
relation_mark LessEqual = λ depth rest. refl
relation_mark Greater = λ depth rest. refl
relation_mark GreaterEqual = λ depth rest. refl

bang_reads : (depth : ℕ) (bang : Bool) (rest : Tokens) → is_readable depth bang (codes "!" ∷ rest) ≡ is_readable depth true rest
bang_reads depth true rest = refl
bang_reads depth false rest = refl

sign_then : (room : ℕ) (ts : Tokens) (o : UnaryOp) → Goes room ts → Goes room (unary_sign o ∷ ts)
sign_then room ts Negative g = join (plain room (codes "-") refl) (on g)
sign_then room ts Not g = record { from = λ depth bang rest fit. bang_reads depth bang (ts ++ rest) ∙ g.from depth true rest fit }

signs_then : (room : ℕ) (ts : Tokens) (ss : List (UnaryOp × Pos)) → Goes room ts → Goes room (flat_map (λ (p : UnaryOp × Pos). unary_sign p.0 ∷ []) ss ++ ts)
signs_then room ts [] g = g
signs_then room ts (s ∷ ss) g = sign_then room (flat_map (λ (p : UnaryOp × Pos). unary_sign p.0 ∷ []) ss ++ ts) s.0 (signs_then room ts ss g)

-- signs before an operand
pub fine_signs : {x : Extent} {ts : Tokens} (ss : List (UnaryOp × Pos)) → Fine x ts
    → Fine (signs (length ss) ⊕ x) (flat_map (λ (p : UnaryOp × Pos). unary_sign p.0 ∷ []) ss ++ ts)
fine_signs {x} {ts} ss f = record { by = λ h. signs_then (max 0 x.depth) ts ss (wider (max 0 x.depth) (omega arith) (f.by h)) }

number_goes : (z : ℤ) → is_natural z ≡ true → Goes 0 (signed_decimal z ∷ [])
number_goes (pos n) h = plain 0 (signed_decimal (pos n)) (decimal_plain n (leb-true n 9223372036854775807 h))
number_goes (negsuc n) h = absurd (true≢false (sym h))

pub fine_number : (n : Number) → Fine (number_extent n) (number_token n ∷ [])
fine_number n = record { by = λ h. number_goes n.value h }

pub fine_name : (n : Token) → Fine (name_extent n) (n ∷ [])
fine_name n = record { by = λ h. plain 0 n (name_plain n h) }

pub fine_truth : (b : Bool) → Fine (signs 1) (truth_word b ∷ [])
fine_truth true = record { by = λ h. plain 0 (codes "true") refl }
fine_truth false = record { by = λ h. plain 0 (codes "false") refl }

pub fine_group : {x : Extent} {ts : Tokens} → Fine x ts → Fine (in_brackets x) (codes "(" ∷ (ts ++ codes ")" ∷ []))
fine_group {x} {ts} f = record { by = λ h. round x.depth ts (on (f.by h)) }

pub fine_bracketed : {x : Extent} {ts : Tokens} → Fine x ts → Fine (in_brackets x) (bracketed ts)
fine_bracketed {x} {ts} f = record { by = λ h. square x.depth ts (on (f.by h)) }

-- a name with one index or two
pub fine_single : {x : Extent} {ts : Tokens} (n : Token) → Fine x ts → Fine (name_extent n ⊕ no_extent ⊕ in_brackets x) (n ∷ ([] ++ bracketed ts))
fine_single {x} {ts} n f = fine_regroup (name_extent n) no_extent (in_brackets x) _
    (fine_join (fine_name n) (fine_join_on fine_nothing (fine_on (fine_bracketed f))))

pub fine_member : {x y : Extent} {a b : Tokens} (n : Token) → Fine x a → Fine y b
    → Fine (name_extent n ⊕ in_brackets x ⊕ in_brackets y) (n ∷ (bracketed a ++ bracketed b))
fine_member {x} {y} n f g = fine_regroup (name_extent n) (in_brackets x) (in_brackets y) _
    (fine_join (fine_name n) (fine_join_on (fine_on (fine_bracketed f)) (fine_on (fine_bracketed g))))

-- one operand, or two with a relation between them
pub fine_alone : {x : Extent} {ts : Tokens} → Fine x ts → Fine (x ⊕ no_extent) (ts ++ [])
fine_alone f = fine_join f fine_nothing

pub fine_pair : {x y : Extent} {a b : Tokens} (o : Relation) → Fine x a → Fine y b → Fine (x ⊕ (signs 1 ⊕ y)) (a ++ relation_sign o ∷ b)
fine_pair o f g = fine_join f (fine_link (relation_sign o) (relation_mark o) g)

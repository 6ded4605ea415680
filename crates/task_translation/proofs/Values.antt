-- What judgements come to on both sides.
use Rattle.std.proofs.Common.{◌≡◌, ℕ, zero, suc, Bool, true, false, Option, Some, None, refl, ap, ◌∙◌, arith}
use Rattle.std.specs.Prelude.{not, ℤ, pos, negsuc, ◌+ℤ◌, ◌-ℤ◌, ◌<ℤ◌, ◌≤ℤ◌, int_lt}
use Rattle.std.proofs.Math.Path.{fun_ext}
use Rattle.std.proofs.lemmas.Int.{ints}
use Rattle.jade_base.specs.declared.place.Pos.{Pos}
use Rattle.jade_base.specs.declared.rights.Rights.{Rights}
use Rattle.jade_base.specs.Rights.{may_read, may_write}
use Rattle.jade_syntax.specs.declared.tree.DeclareWord.{DeclareWord}
use Rattle.jade_syntax.specs.declared.tree.UnaryOp.{UnaryOp}
use Rattle.jade_syntax.specs.declared.tree.UnaryOp.TheVariants as sign
use Rattle.jade_meaning.specs.declared.values.Value.{Value}
use Rattle.jade_meaning.specs.declared.values.Value.TheVariants.{IntOf, BoolOf}
use Rattle.jade_meaning.specs.Values.{Given, Gives, Fails, whole, holds, operated, decides, signed, magnitude, turn_count}
use Rattle.jade_meaning.specs.Specification.{Specification, rights_on}
use Rattle.jade_meaning.specs.Changes.{amended}
use Rattle.jade_meaning.specs.Course.{Course, Reads, Writes, Draft, NoDraft, Building, Amending, Mine, On, choose, given, read_cell, write_cell, declare, amend}
use Rattle.code_meaning.specs.declared.code.BinaryOp.{BinaryOp}
use Rattle.code_meaning.specs.declared.code.BinaryOp.TheVariants as op
use Rattle.code_meaning.specs.declared.code.Logic.{Logic}
use Rattle.code_meaning.specs.declared.code.Logic.TheVariants as logic
use Rattle.code_meaning.specs.Meaning.{Slots, Go, own, either, operator, logical}

pub choose_same : (t : Bool) (x y x' y' : On) (m m' : Mine) → x m ≡ x' m' → y m ≡ y' m' → choose t x y m ≡ choose t x' y' m'
choose_same true x y x' y' m m' h g = h
choose_same false x y x' y' m m' h g = g

pub either_same : (t : Bool) (a b : Go) (x y : On) (ss : Slots) (spec : Specification) (d : Draft) (m : Mine) → a ss spec d ≡ x m → b ss spec d ≡ y m
    → either t a b ss spec d ≡ choose t x y m
either_same true a b x y ss spec d m h g = h
either_same false a b x y ss spec d m h g = g

given_same : (g : Given) (at : Pos) (m m' : Mine) (f h : Value → Course) → ((v : Value) → f v ≡ h v) → given g at m f ≡ given g at m' h
given_same (Gives v) at m m' f h e = e v
given_same (Fails kind) at m m' f h e = refl

pub given_too : (g' g : Given) (at : Pos) (m m' : Mine) (f h : Value → Course) → g' ≡ g → ((v : Value) → f v ≡ h v) → given g' at m f ≡ given g at m' h
given_too g' g at m m' f h same e = ap (λ x. given x at m f) same ∙ given_same g at m m' f h e

given_from : (g : Given) (at : Pos) (m m' : Mine) (f h : Value → Course) → ((v : Value) → g ≡ Gives v → f v ≡ h v) → given g at m f ≡ given g at m' h
given_from (Gives v) at m m' f h e = e v refl
given_from (Fails kind) at m m' f h e = refl

-- the same, where it is known what was given
pub given_seen : (g' g : Given) (at : Pos) (m m' : Mine) (f h : Value → Course) → g' ≡ g → ((v : Value) → g ≡ Gives v → f v ≡ h v)
    → given g' at m f ≡ given g at m' h
given_seen g' g at m m' f h same e = ap (λ x. given x at m f) same ∙ given_from g at m m' f h e

pub read_same : (o c : ℕ) (at : Pos) (m : Mine) (d : Draft) (f g : Value → Course) → ((v : Value) → f v ≡ g v) → read_cell o c at (own m.spec d) f
    ≡ read_cell o c at m g
read_same o c at m d f g h =
    choose_same (may_read (rights_on m.spec o)) _ _ _ _ (own m.spec d) m (ap (Reads o c) (fun_ext (λ z. h (IntOf z)))) refl

pub write_same : (o c : ℕ) (z : ℤ) (at : Pos) (m : Mine) (d : Draft) (f g : On) → f (own m.spec d) ≡ g m → write_cell o c z at f (own m.spec d)
    ≡ write_cell o c z at g m
write_same o c z at m d f g h =
    choose_same (may_write (rights_on m.spec o)) _ _ _ _ (own m.spec d) m (ap (Writes o c z) h) refl

amend_same : (a : Option Rights) (spec : Specification) (o : ℕ) (at : Pos) (f g : On) (k m : Mine)
    → ((d : Draft) → f (record k { draft = d }) ≡ g (record m { draft = d })) → amend a spec o at f k ≡ amend a spec o at g m
amend_same None spec o at f g k m h = refl
amend_same (Some a) spec o at f g k m h = h _

pub declare_same : (d : Draft) (how : DeclareWord) (o : ℕ) (at : Pos) (f g : On) (k m : Mine) → f k ≡ g m
    → ((d : Draft) → f (record k { draft = d }) ≡ g (record m { draft = d })) → declare d how o at f k ≡ declare d how o at g m
declare_same NoDraft how o at f g k m e h = e
declare_same (Building spec) how o at f g k m e h = h _
declare_same (Amending spec) how o at f g k m e h = amend_same (amended how (rights_on spec o)) spec o at f g k m h

-- the truth of a value is that of its number
pub holds_whole : (v : Value) → holds (IntOf (whole v)) ≡ holds v
holds_whole (IntOf x) = refl
holds_whole (BoolOf true) = refl
holds_whole (BoolOf false) = refl

-- a sign makes of a value what it makes of its number
pub signed_whole : (sign : UnaryOp) (v : Value) → signed sign (IntOf (whole v)) ≡ signed sign v
signed_whole sign.Negative v = refl
signed_whole sign.Not v = ap (λ b. Gives (BoolOf (not b))) (holds_whole v)

-- an operator makes of two values what it makes of their numbers
pub operated_whole : (o : BinaryOp) (v w : Value) → operated (operator o) (IntOf (whole v)) (IntOf (whole w)) ≡ operated (operator o) v w
operated_whole (op.Relates r) v w = refl
operated_whole (op.Adds s) v w = refl
operated_whole (op.Multiplies p) v w = refl

-- a value decides where its number does
pub decides_whole : (l : Logic) (v : Value) → decides (logical l) (IntOf (whole v)) ≡ decides (logical l) v
decides_whole logic.Or v = holds_whole v
decides_whole logic.And v = ap not (holds_whole v)

positive : (z : ℤ) (n : ℕ) → magnitude z ≡ suc n → pos 0 <ℤ z
positive (pos zero) n h = absurd (omega (arith, h))
positive (pos (suc k)) n h = omega (arith, ints)
positive (negsuc k) n h = absurd (omega (arith, h))

less_one : (z : ℤ) (n : ℕ) → magnitude z ≡ suc n → magnitude (z -ℤ pos 1) ≡ n
less_one (pos zero) n h = absurd (omega (arith, h))
less_one (pos (suc k)) n h =
    let e : pos (suc k) -ℤ pos 1 ≡ pos k = omega (arith, ints) in
    let same : k ≡ n = omega (arith, h) in ap magnitude e ∙ same
less_one (negsuc k) n h = absurd (omega (arith, h))

none_left : (z : ℤ) → magnitude z ≡ 0 → z ≤ℤ pos 0
none_left (pos zero) h = omega (arith, ints)
none_left (pos (suc k)) h = absurd (omega (arith, h))
none_left (negsuc k) h = omega (arith, ints)

int_lt_yes : (x y : ℤ) → x <ℤ y → int_lt x y ≡ true
int_lt_yes x y h = grind (arith, ints)

int_lt_no : (x y : ℤ) → y ≤ℤ x → int_lt x y ≡ false
int_lt_no x y h = grind (arith, ints)

-- turns are left
pub turn_left : (z hi : ℤ) (n : ℕ) → turn_count z hi ≡ suc n → int_lt z hi ≡ true
turn_left z hi n h = let lt = positive (hi -ℤ z) n h in int_lt_yes z hi (omega (arith, ints))

pub turn_fewer : (z hi : ℤ) (n : ℕ) → turn_count z hi ≡ suc n → turn_count (z +ℤ pos 1) hi ≡ n
turn_fewer z hi n h =
    let e : hi -ℤ (z +ℤ pos 1) ≡ (hi -ℤ z) -ℤ pos 1 = omega (arith, ints) in ap magnitude e ∙ less_one (hi -ℤ z) n h

-- no turn is left
pub turn_none : (z hi : ℤ) → turn_count z hi ≡ 0 → int_lt z hi ≡ false
turn_none z hi h = let le = none_left (hi -ℤ z) h in int_lt_no z hi (omega (arith, ints))

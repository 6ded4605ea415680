-- The extent of a program counts its parts, and is sound where all are valid and no outermost expression is too long.
use Rattle.std.proofs.Common.{◌≡◌, true, nat_le, [], ◌∷◌, ◌++◌, refl, sym, ◌∙◌, length, arith}
use Rattle.std.specs.List.{list_all}
use Rattle.jade_syntax.specs.declared.shapes.extent.Extent.{Extent}
use Rattle.jade_syntax.specs.declared.tree.Item.{Item}
use Rattle.jade_syntax.specs.declared.tree.Item.TheVariants.{Input, Single, Family}
use Rattle.jade_syntax.specs.declared.tree.Program.{Program}
use Rattle.jade_syntax.specs.Shapes.{signs, ◌⊕◌, in_brackets, item_extent, program_extent}
use Rattle.jade_parser.specs.declared.Sign.{Sign}
use Rattle.jade_parser.specs.declared.Sign.TheVariants.{InputWord, ObjectWord, ObjectsWord, MainWord, LeftBracket, RightBracket, Colon, Semicolon}
use Rattle.jade_parser.specs.Spelled.{Part, Parts, fixed, is_valid, AllValid, AllShort}
use Rattle.jade_parser.specs.Programs.{item_parts, program_parts}
use Rattle.jade_parser.proofs.Known.{both_true}
use Rattle.jade_reading.proofs.ShapeOfParts.{good, Tells, tells_sign, tells_on, tells_all, tells_same, good_name, good_number}
use Rattle.jade_reading.proofs.ShapeOfStatements.{block_tells}

sign_tells : (s : Sign) → Tells good (signs 1) (fixed s ∷ [])
sign_tells s = tells_sign (fixed s) refl

-- a number between two signs
between_form : {a : Extent} {ps : Parts} (c d : Sign) → Tells good a ps → Tells good (signs 1 ⊕ a ⊕ signs 1) (fixed c ∷ [] ++ ps ++ fixed d ∷ [])
between_form c d t = tells_on (tells_on (sign_tells c) t) (sign_tells d)

-- each form of item, by what it is made of: its signs are counted together
input_form : {a : Extent} {ps : Parts} → Tells good a ps → Tells good (signs 2 ⊕ a) (fixed InputWord ∷ [] ++ ps ++ fixed Semicolon ∷ [])
input_form {a} t = tells_same (signs 2 ⊕ a) (grind arith) (omega arith) (between_form InputWord Semicolon t)

single_form : {a b : Extent} {ps qs : Parts} → Tells good a ps → Tells good b qs
    → Tells good (signs 3 ⊕ a ⊕ b) (fixed ObjectWord ∷ [] ++ ps ++ (fixed Colon ∷ [] ++ qs ++ fixed Semicolon ∷ []))
single_form {a} {b} s t = tells_same (signs 3 ⊕ a ⊕ b) (grind arith) (omega arith)
    (tells_on (tells_on (sign_tells ObjectWord) s) (between_form Colon Semicolon t))

family_form : {a b c : Extent} {ps qs rs : Parts} → Tells good a ps → Tells good b qs → Tells good c rs
    → Tells good (signs 3 ⊕ a ⊕ in_brackets b ⊕ c)
    (fixed ObjectsWord ∷ [] ++ ps ++ ((fixed LeftBracket ∷ [] ++ qs ++ fixed RightBracket ∷ []) ++ (fixed Colon ∷ [] ++ rs ++ fixed Semicolon ∷ [])))
family_form {a} {b} {c} s t u =
    tells_same (signs 3 ⊕ a ⊕ in_brackets b ⊕ c) (grind arith) (omega arith)
    (tells_on (tells_on (sign_tells ObjectsWord) s) (tells_on (between_form LeftBracket RightBracket t) (between_form Colon Semicolon u)))

item_tells : (i : Item) → Tells good (item_extent i) (item_parts i)
item_tells (Input name at) = input_form (good_name name at)
item_tells (Single name at size) = single_form (good_name name at) (good_number size)
item_tells (Family name at count size) = family_form (good_name name at) (good_number count) (good_number size)

pub program_tells : (p : Program) → Tells good (program_extent p.items p.main) (program_parts p)
program_tells p = tells_on (tells_on (tells_all item_extent item_parts item_tells p.items) (sign_tells MainWord)) (block_tells p.main)

good_valid : (ps : Parts) → list_all good ps ≡ true → list_all (λ (p : Part). is_valid p.token) ps ≡ true
good_valid [] e = refl
good_valid (p ∷ ps) e =
    let a = both_true (good p) (list_all good ps) e in
    let b = both_true (nat_le p.nth 256) (is_valid p.token) a.0 in
    rw b.1 (good_valid ps a.1)

good_short : (ps : Parts) → list_all good ps ≡ true → list_all (λ (p : Part). nat_le p.nth 256) ps ≡ true
good_short [] e = refl
good_short (p ∷ ps) e =
    let a = both_true (good p) (list_all good ps) e in
    let b = both_true (nat_le p.nth 256) (is_valid p.token) a.0 in
    rw b.0 (good_short ps a.1)

good_from : (ps : Parts) → list_all (λ (p : Part). is_valid p.token) ps ≡ true → list_all (λ (p : Part). nat_le p.nth 256) ps ≡ true → list_all good ps
    ≡ true
good_from [] v s = refl
good_from (p ∷ ps) v s =
    let a = both_true (is_valid p.token) (list_all (λ (p : Part). is_valid p.token) ps) v in
    let b = both_true (nat_le p.nth 256) (list_all (λ (p : Part). nat_le p.nth 256) ps) s in
    rw (b.0, a.0) (good_from ps a.1 b.1)

-- names, numbers and outermost expressions are as they must be: then so are the parts
pub sound_of : (p : Program) → (program_extent p.items p.main).sound ≡ true → AllValid (program_parts p) × AllShort (program_parts p)
sound_of p e =
    let g = sym (program_tells p).sound ∙ e in
    (record { is = good_valid (program_parts p) g }, record { is = good_short (program_parts p) g })

pub sound_from : (p : Program) → AllValid (program_parts p) → AllShort (program_parts p) → (program_extent p.items p.main).sound ≡ true
sound_from p v s = (program_tells p).sound ∙ good_from (program_parts p) v.is s.is

pub count_is : (p : Program) → (program_extent p.items p.main).tokens ≡ length (program_parts p)
count_is p = (program_tells p).tokens

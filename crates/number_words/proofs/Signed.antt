-- Numbers with their signs.
use Rattle.std.proofs.Common.{◌≡◌, ℕ, ◌<◌, ◌≤◌, ◌^◌, true, ℤ, pos, negsuc, List, Result, Ok, ap, ◌∙◌, arith, w64, FitsSigned, to_z, of_z}
use Rattle.std.proofs.Math.Facts.{to_z-of_z}
use Rattle.std.specs.Int.Signed.{mag}
use borrow.Author.Rules.{sfits_of}
use Rattle.std.specs.Fmt.{signed_decimal}
use Rattle.std.specs.Str.Parse.{ParsesSigned}
use Rattle.std.proofs.lemmas.Bool.{leb-true, le-leb}
use Rattle.std.proofs.lemmas.Fmt.{parse-signed_decimal}
use Rattle.number_words.specs.Numbers.{is_number}

-- a number is one that has 64 bits with its sign
pub small : (z : ℤ) → is_number z ≡ true → mag z < 2 ^ 63
small (pos n) h = let le : n ≤ 9223372036854775807 = leb-true n 9223372036854775807 h in omega (arith, le)
small (negsuc n) h = let le : n ≤ 9223372036854775807 = leb-true n 9223372036854775807 h in omega (arith, le)

pub fits : (z : ℤ) → is_number z ≡ true → FitsSigned w64 z
fits z h = sfits_of (small z h)

pub numbered : (z : ℤ) → FitsSigned w64 z → is_number z ≡ true
numbered (pos n) h = le-leb n 9223372036854775807 (omega (arith, h))
numbered (negsuc n) h = le-leb n 9223372036854775807 (omega (arith, h))

-- a text that spells a number is parsed as that number
pub parse_gives : {E : Type 0} (z : ℤ) (text : List ℕ) (r : Result ℤ E) → is_number z ≡ true → text ≡ signed_decimal z → ParsesSigned w64 10 text r → r ≡ Ok z
parse_gives z text r h spelled p = parse-signed_decimal w64 z text r (fits z h) (small z h) spelled p

pub ok_is : {E : Type 0} (r : Result ℤ E) (n z : ℤ) → r ≡ Ok n → r ≡ Ok z → n ≡ z
ok_is r n z e f = cc

pub read_back : (n z : ℤ) → n ≡ z → is_number z ≡ true → to_z w64 (of_z w64 n) ≡ z
read_back n z e h = ap (λ x. to_z w64 (of_z w64 x)) e ∙ to_z-of_z (fits z h)

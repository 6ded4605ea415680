use Rattle.std.proofs.Common.{◌≡◌, ◌<◌, ℕ, Bool, true, false, List, refl, sym, ◌∙◌, arith}
use Rattle.std.specs.Prelude.{nat_lt}
use Rattle.std.proofs.lemmas.Bool.Decides.{nat_tests}
use Rattle.object_shelf.specs.declared.queue.Entry.{Entry}
use Rattle.object_shelf.specs.Clear.{out_many}
use Rattle.object_shelf.specs.Whole.{is_out}
use Rattle.object_shelf.proofs.Clearing.{out-any, out-none}
use Rattle.object_shelf.proofs.queue.any_out.Goals as goal

some-out : (n : ℕ) (es : List Entry) → n ≡ out_many es → nat_lt 0 n ≡ is_out es
some-out n es h = go (is_out es) refl
  where
    go : (b : Bool) → is_out es ≡ b → nat_lt 0 n ≡ is_out es
    go true w = let r = out-any es w in above n (omega (arith, h, r)) ∙ sym w
      where
        above : (n : ℕ) → 0 < n → nat_lt 0 n ≡ true
        above n lt = grind (arith, nat_tests)
    go false w = let r = out-none es w in below n (omega (arith, h, r)) ∙ sym w
      where
        below : (n : ℕ) → n ≡ 0 → nat_lt 0 n ≡ false
        below n e = grind (arith, nat_tests)

pub returns : goal.returns
returns c = some-out c.args.clear.now.out c.args.rows.now.items c.requires.out

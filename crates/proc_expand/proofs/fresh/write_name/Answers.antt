use Rattle.std.proofs.Common.{◌≡◌, ◌∷◌, ◌++◌, ◌+◌, ◌-◌, drop, ap, ◌∙◌, arith}
use Rattle.std.specs.Fmt.{decimal}
use Rattle.std.proofs.lemmas.List.{drop-set, append-nil}
use Rattle.std.proofs.Math.ListN.{drop_of_length-le}
use Rattle.proc_expand.proofs.FreeNumbers.{is_numeral, short}
use Rattle.proc_expand.proofs.fresh.write_name.Goals as goal

pub write_digits-start-requires : goal.write_digits-start-requires
write_digits-start-requires c = let l = short c.args.number (omega arith) in let r = c.requires in (omega (arith, l), omega (arith, r))

pub overflow_sub-bytes : goal.overflow_sub-bytes
overflow_sub-bytes c = let l = short c.args.number (omega arith) in let s = c.write_digits-start.ensures.start in omega (arith, l, s)

pub overflow_sub-result : goal.overflow_sub-result
overflow_sub-result c = let l = short c.args.number (omega arith) in let s = c.write_digits-start.ensures.start in omega (arith, l, s)

pub returns-clause-name : goal.returns-clause-name
returns-clause-name c =
    let l = short c.args.number (omega arith) in let s = c.write_digits-start.ensures.start in
    let r = c.write_digits-start.result in let xs = c.write_digits-start.new.buf in let a = c.write_digits-start.auto.buf in let n = c.requires in
    let e : r - 1 + 1 ≡ r = omega (arith, l, s) in
    drop-set xs (r - 1) 118 (omega (arith, l, s, a, n))
    ∙ ap (λ i. 118 ∷ drop i xs) e
    ∙ ap (λ u. 118 ∷ u) (c.write_digits-start.ensures.written
    ∙ ap (λ u. decimal c.args.number ++ u) (drop_of_length-le c.args.bytes.now {i = 21} (omega (arith, n)))
    ∙ append-nil (decimal c.args.number) ∙ is_numeral c.args.number (omega arith))

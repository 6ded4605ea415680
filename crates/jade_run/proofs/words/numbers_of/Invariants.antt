use Rattle.std.proofs.Common.{◌≡◌, true, map, take}
use Rattle.std.specs.List.{list_all}
use Rattle.std.specs.Fmt.{signed_decimal}
use Rattle.number_words.specs.Numbers.{is_number}
use Rattle.jade_run.proofs.words.numbers_of.Given as goal

abbrev pub invariant-loop-i : goal.invariant-loop-i
invariant-loop-i l = (take l.i l.words ≡ map signed_decimal l.numbers) × (list_all is_number l.numbers ≡ true)

use Rattle.std.proofs.Common.{◌≡◌, ◌-◌, ◌≤◌, length}
use Rattle.proc_expand.specs.steps.Sources.{commas_after, InBrackets}
use Rattle.proc_expand.proofs.write.argument_end.Given as goal

abbrev pub invariant-inside : goal.invariant-inside
invariant-inside l = record {
  down : l.start ≤ l.place;
  same : commas_after l.signs l.place ≡ commas_after l.signs l.start;
  inside : InBrackets l.signs l.place l.close;
}

abbrev pub decreases-inside : goal.decreases-inside
decreases-inside l = length l.signs - l.place

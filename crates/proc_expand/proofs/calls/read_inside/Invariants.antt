use Rattle.std.proofs.Common.{◌≡◌, ◌+◌, ◌-◌, ◌≤◌, length, suc}
use Rattle.proc_expand.specs.Words.{first}
use Rattle.proc_expand.specs.steps.Looking.{earliest}
use Rattle.proc_expand.specs.Refusals.{commas, ends_empty}
use Rattle.proc_expand.proofs.CallFacts.{rest, empties}
use Rattle.proc_expand.proofs.calls.read_inside.Given as goal

abbrev pub invariant-inside : goal.invariant-inside
invariant-inside l = record {
  further : l.fn.call + 2 ≤ l.place;
  within : l.place ≤ length l.signs;
  few : l.found.commas ≤ l.place;
  commas : l.found.commas + length (rest l.signs l.place) ≡ length (commas l.signs l.fn.call);
  empty : earliest l.found.empty (empties l.signs l.fn.call (rest l.signs l.place)) ≡ first (suc (length l.signs)) (ends_empty l.signs l.fn.call);
}

abbrev pub decreases-inside : goal.decreases-inside
decreases-inside l = length l.signs - l.place

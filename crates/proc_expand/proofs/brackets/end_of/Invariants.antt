use Rattle.std.proofs.Common.{◌≡◌, ◌-◌, ◌<◌, [], ◌∷◌, length, drop}
use Rattle.proc_expand.specs.Words.{closing, closing_from}
use Rattle.proc_expand.proofs.brackets.end_of.Given as goal

abbrev pub invariant-inside : goal.invariant-inside
invariant-inside l = record {
  further : l.fn.opener < l.place;
  same : closing_from (l.fn.bracket ∷ []) l.place (drop l.place l.signs) ≡ closing l.signs l.fn.opener;
}

abbrev pub decreases-inside : goal.decreases-inside
decreases-inside l = length l.signs - l.place

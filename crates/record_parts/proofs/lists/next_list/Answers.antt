use Rattle.std.proofs.Common.{rules}
use Rattle.record_parts.proofs.Matching.{next_taken}
use Rattle.record_parts.proofs.lists.next_list.Goals as goal

pub returns-then-branch : goal.returns-then-branch
returns-then-branch c =
    next_taken _ _ _ _ _ _ (c.in_ok-is_next.ensures.0 (search rules)) c.at.ensures c.in_ok-paths.ensures

use Rattle.jade_layout.proofs.Laying.{within, laid}
use Rattle.jade_layout.proofs.printer.Printer.lay.Goals as goal

pub invariant_of-self-2 : goal.invariant_of-self-2
invariant_of-self-2 c = within _ _ _ _ _ _ _ c.in_ok-start.ensures.wrote c.in_ok-start.ensures.place c.self.invariant.1 c.depth_after-self-inside.ensures

pub returns : goal.returns
returns c =
    laid _ _ _ _ _ _ _ _ _ _ _ _ c.self.view_is c.deref.ensures.value c.gap_between-gap.ensures c.in_ok-start.ensures.wrote c.in_ok-start.ensures.place
    c.is_sign-sign.ensures c.depth_after-self-inside.ensures

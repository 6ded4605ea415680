use Rattle.task_suspend.proofs.laws.queues_stand.Goals as goal

pub returns : goal.returns
returns c p ns limit k roll ss notes r o = record {
  ordered = (c.in_serial_order.ensures p ns limit).queues k roll ss notes r o;
  kept = λ i j d e a b lt v. ((c.entries_stand.ensures p ns limit).before k roll ss notes r o i j d e a b lt).kept v;
}

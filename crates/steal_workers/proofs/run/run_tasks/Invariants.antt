use Rattle.steal_workers.proofs.run.run_tasks.Given as goal

abbrev pub ghosts-run_named : goal.ghosts-run_named
ghosts-run_named g a = record { mark = a.table.mark; plan = a.table.plan }

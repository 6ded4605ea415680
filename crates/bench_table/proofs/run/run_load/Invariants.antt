use Rattle.bench_table.proofs.run.run_load.Given as goal

abbrev pub ghosts-run_named : goal.ghosts-run_named
ghosts-run_named g a = record { mark = a.table.mark; plan = a.table.plan }

use Rattle.sw_run.proofs.running.run.Given as goal

abbrev pub ghosts-run_named : goal.ghosts-run_named
ghosts-run_named g a = record { declared = a.network.now; load = a.journal.load; limit = a.limit; name = a.journal.name }

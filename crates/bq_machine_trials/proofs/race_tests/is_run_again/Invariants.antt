use Rattle.bq_machine_trials.proofs.race_tests.is_run_again.Given as goal

abbrev pub ghosts-race_under-N-Naming : goal.ghosts-race_under-N-Naming
ghosts-race_under-N-Naming g a = record { table = a.prepared.0 }

abbrev pub ghosts-race_under-N-Counting : goal.ghosts-race_under-N-Counting
ghosts-race_under-N-Counting g a = record { counters = a.unnamed.0 }

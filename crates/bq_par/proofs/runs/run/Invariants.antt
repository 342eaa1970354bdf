use Rattle.bq_par.proofs.runs.run.Given as goal

abbrev pub ghosts-run_sized-N-Naming : goal.ghosts-run_sized-N-Naming
ghosts-run_sized-N-Naming g a = record { table = a.prepared.0 }

abbrev pub ghosts-run_sized-N-Counting : goal.ghosts-run_sized-N-Counting
ghosts-run_sized-N-Counting g a = record { counters = a.unnamed.0 }

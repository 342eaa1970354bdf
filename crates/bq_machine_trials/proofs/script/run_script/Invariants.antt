use Rattle.bq_machine_trials.proofs.script.run_script.Given as goal

abbrev pub ghosts-play_all-N-Naming : goal.ghosts-play_all-N-Naming
ghosts-play_all-N-Naming g a = record { table = a.prepared.0 }

abbrev pub ghosts-play_all-N-Counting : goal.ghosts-play_all-N-Counting
ghosts-play_all-N-Counting g a = record { counters = a.unnamed.0 }

use Rattle.bq_trials.proofs.one_verdict.the_machine_agrees.Given as goal

abbrev pub ghosts-are_loaded-N-Naming : goal.ghosts-are_loaded-N-Naming
ghosts-are_loaded-N-Naming g a = record { table = a.prepared.0 }

abbrev pub ghosts-are_loaded-N-Counting : goal.ghosts-are_loaded-N-Counting
ghosts-are_loaded-N-Counting g a = record { counters = a.unnamed.0 }

use Rattle.bq_machine_trials.proofs.one_seat_tests.is_kept.Given as goal

abbrev pub ghosts-events_by-N-Naming : goal.ghosts-events_by-N-Naming
ghosts-events_by-N-Naming g a = record { table = a.prepared.0 }

abbrev pub ghosts-events_by-N-Counting : goal.ghosts-events_by-N-Counting
ghosts-events_by-N-Counting g a = record { counters = a.unnamed.0 }

use Rattle.bq_trials.proofs.world_examples.a_machine_is_opened_called_and_closed.Given as goal

abbrev pub ghosts-life_of_a_machine-N-Naming : goal.ghosts-life_of_a_machine-N-Naming
ghosts-life_of_a_machine-N-Naming g a = record { table = a.prepared.0 }

abbrev pub ghosts-life_of_a_machine-N-Counting : goal.ghosts-life_of_a_machine-N-Counting
ghosts-life_of_a_machine-N-Counting g a = record { counters = a.unnamed.0 }

use Rattle.bq_machine_trials.proofs.account_tests.each_add_counts_once.Given as goal

abbrev pub ghosts-reported : goal.ghosts-reported
ghosts-reported g a = record { counters = a.unnamed.0 }

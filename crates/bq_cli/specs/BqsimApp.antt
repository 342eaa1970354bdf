-- The program's commands and their options, as clap's words on command lines have them.
use Rattle.std.specs.Prelude.{List, [], ◌∷◌, ◌++◌, codes}
use Rattle.clap.specs.Words.{App, Rule, Shape}
use Rattle.bq_console.specs.Tables.{command, empty_program, flag_rule, needed_rule, often_rule, option_rule, with_commands, word_rule, words_rule}

-- the options that describe a file: its hook, its maps and its format, and how much of it is read
abbrev pub head_rules : List Rule
head_rules = option_rule (codes "hook") ∷ option_rule (codes "maps") ∷ option_rule (codes "format") ∷ option_rule (codes "max-bytes") ∷ []

-- a file, and what is said of it
abbrev pub policy_rules : List Rule
policy_rules = word_rule (codes "file") ∷ head_rules

-- a file, and what is said of it: the hook may not be left out
abbrev pub import_rules : List Rule
import_rules = word_rule (codes "file") ∷ needed_rule (codes "hook") ∷ option_rule (codes "maps") ∷ option_rule (codes "format") ∷ option_rule (codes "max-bytes") ∷ []

-- files, what is said of them, and what `check` answers, refuses and writes
abbrev pub check_rules : List Rule
check_rules =
    (words_rule (codes "file") ∷ head_rules)
    ++ flag_rule (codes "explain") ∷ flag_rule (codes "json") ∷ option_rule (codes "max-steps") ∷ option_rule (codes "helpers") ∷ option_rule (codes "hooks")
    ∷ option_rule (codes "max-maps") ∷ option_rule (codes "max-map-bytes") ∷ option_rule (codes "max-counters") ∷ option_rule (codes "image") ∷ []

-- what a run begins with, and how it is reported
abbrev pub run_rules : List Rule
run_rules =
    option_rule (codes "ctx") ∷ often_rule (codes "set") ∷ often_rule (codes "map") ∷ option_rule (codes "time") ∷ option_rule (codes "processor")
    ∷ often_rule (codes "counter") ∷ flag_rule (codes "trace") ∷ option_rule (codes "repeat") ∷ []

-- the words of `par`
abbrev pub par_rules : List Rule
par_rules = needed_rule (codes "rule") ∷ needed_rule (codes "processors") ∷ needed_rule (codes "ticks") ∷ []

-- the part of a schedule that is shown
abbrev pub part_rules : List Rule
part_rules = option_rule (codes "from") ∷ option_rule (codes "to") ∷ option_rule (codes "cpus") ∷ option_rule (codes "tasks") ∷ option_rule (codes "width")
    ∷ option_rule (codes "theme") ∷ option_rule (codes "title") ∷ []

-- the words of `simulate` on a workload: its file, and what replaces its machine and its seed
abbrev pub workload_rules : List Rule
workload_rules =
    word_rule (codes "file") ∷ option_rule (codes "discipline") ∷ option_rule (codes "processors") ∷ option_rule (codes "duration") ∷ option_rule (codes "seed") ∷ []

-- the policies of a simulation, its seeds, the policies that it is compared with, and its form
abbrev pub simulate_rules : List Rule
simulate_rules =
    option_rule (codes "place") ∷ option_rule (codes "preempt") ∷ option_rule (codes "pull") ∷ option_rule (codes "seeds") ∷ often_rule (codes "against")
    ∷ option_rule (codes "as") ∷ []

-- how much a simulation reads, and how long it is
abbrev pub limit_rules : List Rule
limit_rules = option_rule (codes "max-bytes") ∷ option_rule (codes "max-events") ∷ []

-- the commands that show schedules
abbrev pub schedule_commands : List Shape
schedule_commands =
    command (codes "simulate") (workload_rules ++ (simulate_rules ++ (part_rules ++ limit_rules)))
    ∷ command (codes "timeline") (word_rule (codes "file") ∷ option_rule (codes "as") ∷ option_rule (codes "max-bytes") ∷ part_rules) ∷ []

-- the commands that try policies
abbrev pub policy_commands : List Shape
policy_commands = command (codes "check") check_rules ∷ command (codes "run") (policy_rules ++ run_rules) ∷ []

-- the commands that answer a trace, turn one form of a policy into another, or run threads
abbrev pub other_commands : List Shape
other_commands =
    command (codes "replay") (word_rule (codes "file") ∷ option_rule (codes "max-bytes") ∷ [])
    ∷ command (codes "asm") policy_rules
    ∷ command (codes "dis") (policy_rules ++ flag_rule (codes "slots") ∷ [])
    ∷ command (codes "import") import_rules
    ∷ command (codes "par") par_rules ∷ []

-- the program with its nine commands
abbrev pub bqsim_app : App
bqsim_app = with_commands (with_commands (with_commands empty_program schedule_commands) policy_commands) other_commands

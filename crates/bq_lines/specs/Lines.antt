-- What a line of a trace says (this project's own trace format).
use Rattle.std.specs.Prelude.{ℕ, ℤ, not, ◌||◌, nat_lt, List, [], ◌∷◌, length, Option, Some, None, if◌then◌else◌, codes, nat_eq, option_map, option_and_then}
use Rattle.std.specs.List.{list_all, starts_with}
use Rattle.std.specs.Str.{bytes_eq}
use Rattle.bq_lines.specs.declared.lines.TheConstants.{LONGEST}
use Rattle.bq_words.specs.Words.{words, one_of, two_of, three_of, four_of}
use Rattle.bq_parts.specs.declared.event.Event.TheVariants.{Admit, Retire, Draw, Install, BeginWake, EndWake, Drain, Tick, Block, Pull}
use Rattle.bq_hooks.specs.Hooks.{hook_of}
use Rattle.bq_hooks.specs.declared.hook.Hook.{Hook}
use Rattle.bq_lines.specs.Bytes.{is_allowed}
use Rattle.bq_words.specs.Quantities.{size_in_word, decimal_of, processor_in_word, task_in_word, mask_in_word, nice_in_word}
use Rattle.bq_words.specs.declared.processor_count.ProcessorCount.{ProcessorCount}
use Rattle.bq_words.specs.declared.discipline_name.DisciplineName.{DisciplineName}
use Rattle.bq_words.specs.Sizes.{discipline_named}
use Rattle.bq_lines.specs.Keywords.{keyword_of}
use Rattle.bq_lines.specs.declared.keyword.Keyword.{Keyword}
use Rattle.bq_lines.specs.declared.keyword.Keyword.TheVariants as keywords
use Rattle.bq_lines.specs.declared.command.LineCommand.{LineCommand}
use Rattle.bq_lines.specs.declared.command.LineCommand.TheVariants.{Machine, Does, Wake, Load, Show, Counter}
use Rattle.bq_lines.specs.declared.command.LineReading.{LineReading}
use Rattle.bq_lines.specs.declared.command.LineReading.TheVariants.{Skipped, Bad, Asks}

-- what the words after a command's name write

-- a discipline and a number of processors
abbrev pub machine_words : List (List ℕ) → Option (DisciplineName × ProcessorCount)
machine_words operands = option_and_then (λ w. option_and_then (λ r. option_map (λ s. (r, s)) (size_in_word w.1)) (discipline_named w.0)) (two_of operands)

-- a task, its nice value, its mask and its slice
abbrev pub admit_words : List (List ℕ) → Option (ℕ × ℤ × ℕ × ℕ)
admit_words operands =
    option_and_then
    (λ w. option_and_then (λ t. option_and_then (λ n. option_and_then (λ m. option_map (λ s. (t, n, m, s)) (decimal_of w.3)) (mask_in_word w.2)) (nice_in_word w.1)) (task_in_word w.0))
    (four_of operands)

-- a processor, a generation, a hook, and the word that spells an image
abbrev pub install_words : List (List ℕ) → Option (ℕ × ℕ × Hook × List ℕ)
install_words operands =
    option_and_then (λ w. option_and_then (λ c. option_and_then (λ g. option_map (λ h. (c, g, h, w.3)) (hook_of w.2)) (decimal_of w.1)) (processor_in_word w.0)) (four_of operands)

-- a task
abbrev pub one_task : List (List ℕ) → Option ℕ
one_task operands = option_and_then task_in_word (one_of operands)

-- a processor, or a counter
abbrev pub one_number : List (List ℕ) → Option ℕ
one_number operands = option_and_then processor_in_word (one_of operands)

-- a processor and a task
abbrev pub processor_and_task : List (List ℕ) → Option (ℕ × ℕ)
processor_and_task operands = option_and_then (λ w. option_and_then (λ c. option_map (λ i. (c, i)) (task_in_word w.1)) (processor_in_word w.0)) (two_of operands)

-- a processor and a clock reading
abbrev pub processor_and_time : List (List ℕ) → Option (ℕ × ℕ)
processor_and_time operands = option_and_then (λ w. option_and_then (λ c. option_map (λ t. (c, t)) (decimal_of w.1)) (processor_in_word w.0)) (two_of operands)

-- a processor, a task and a clock reading
abbrev pub wake_words : List (List ℕ) → Option (ℕ × ℕ × ℕ)
wake_words operands =
    option_and_then (λ w. option_and_then (λ c. option_and_then (λ i. option_map (λ t. (c, i, t)) (decimal_of w.2)) (task_in_word w.1)) (processor_in_word w.0)) (three_of operands)

-- two processors and a clock reading
abbrev pub pull_words : List (List ℕ) → Option (ℕ × ℕ × ℕ)
pull_words operands =
    option_and_then (λ w. option_and_then (λ c. option_and_then (λ s. option_map (λ t. (c, s, t)) (decimal_of w.2)) (processor_in_word w.1)) (processor_in_word w.0)) (three_of operands)

-- what each command asks for

-- `machine` makes a machine
abbrev pub machine_command : List (List ℕ) → Option LineCommand
machine_command operands = option_map (λ w. Machine w.0 w.1) (machine_words operands)

-- `admit` admits a task
abbrev pub admit_command : List (List ℕ) → Option LineCommand
admit_command operands = option_map (λ w. Does (Admit w.0 w.1 w.2 w.3)) (admit_words operands)

-- `retire` makes a task leave
abbrev pub retire_command : List (List ℕ) → Option LineCommand
retire_command operands = option_map (λ t. Does (Retire t)) (one_task operands)

-- `draw` draws a generation, and has no words after it
abbrev pub draw_command : List (List ℕ) → Option LineCommand
draw_command [] = Some (Does Draw)
draw_command other = None

-- `none` takes a policy away, and another word is an image to load
abbrev pub install_or_load : ℕ × ℕ × Hook × List ℕ → LineCommand
install_or_load (c, g, h, image) = if bytes_eq image (codes "none") then Does (Install c h g None) else Load c h g image

-- `install` installs a policy or takes one away
abbrev pub install_command : List (List ℕ) → Option LineCommand
install_command operands = option_map install_or_load (install_words operands)

-- `begin` begins a wake
abbrev pub begin_command : List (List ℕ) → Option LineCommand
begin_command operands = option_map (λ w. Does (BeginWake w.0 w.1)) (processor_and_task operands)

-- `end` ends a wake
abbrev pub end_command : List (List ℕ) → Option LineCommand
end_command operands = option_map (λ w. Does (EndWake w.0 w.1)) (processor_and_time operands)

-- `wake` begins a wake and ends it at once
abbrev pub wake_command : List (List ℕ) → Option LineCommand
wake_command operands = option_map (λ w. Wake w.0 w.1 w.2) (wake_words operands)

-- `drain` makes a processor take in the tasks that were placed on it
abbrev pub drain_command : List (List ℕ) → Option LineCommand
drain_command operands = option_map (λ w. Does (Drain w.0 w.1)) (processor_and_time operands)

-- `tick` lets a processor's clock tick
abbrev pub tick_command : List (List ℕ) → Option LineCommand
tick_command operands = option_map (λ w. Does (Tick w.0 w.1)) (processor_and_time operands)

-- `block` puts the running task to sleep
abbrev pub block_command : List (List ℕ) → Option LineCommand
block_command operands = option_map (λ w. Does (Block w.0 w.1)) (processor_and_time operands)

-- `pull` makes a processor take a task from another
abbrev pub pull_command : List (List ℕ) → Option LineCommand
pull_command operands = option_map (λ w. Does (Pull w.0 w.1 w.2)) (pull_words operands)

-- `show` shows a processor
abbrev pub show_command : List (List ℕ) → Option LineCommand
show_command operands = option_map (λ c. Show c) (one_number operands)

-- `counter` shows a counter
abbrev pub counter_command : List (List ℕ) → Option LineCommand
counter_command operands = option_map (λ i. Counter i) (one_number operands)

-- what the words after a keyword ask for
abbrev pub command_after : Keyword → List (List ℕ) → Option LineCommand
command_after keywords.Install operands = install_command operands
command_after keywords.Machine operands = machine_command operands
command_after keywords.Admit operands = admit_command operands
command_after keywords.Retire operands = retire_command operands
command_after keywords.Draw operands = draw_command operands
command_after keywords.Begin operands = begin_command operands
command_after keywords.End operands = end_command operands
command_after keywords.Wake operands = wake_command operands
command_after keywords.Drain operands = drain_command operands
command_after keywords.Tick operands = tick_command operands
command_after keywords.Block operands = block_command operands
command_after keywords.Pull operands = pull_command operands
command_after keywords.Show operands = show_command operands
command_after keywords.Counter operands = counter_command operands

-- what a command asks for, by its name and the words after it
abbrev pub command_of : List ℕ → List (List ℕ) → Option LineCommand
command_of name operands = option_and_then (λ k. command_after k operands) (keyword_of name)

-- a line says its command, or is bad if it has none
abbrev pub reading_of_command : Option LineCommand → LineReading
reading_of_command None = Bad
reading_of_command (Some c) = Asks c

-- what a line's words say: a line without words, or whose first word begins with `#`, is skipped
abbrev pub reading_of_words : List (List ℕ) → LineReading
reading_of_words [] = Skipped
reading_of_words (name ∷ operands) = if starts_with nat_eq name (codes "#") then Skipped else reading_of_command (command_of name operands)

-- what a line says: a line that is too long or has a byte that is not allowed is bad, whatever its words are
unfoldable pub reading_of : List ℕ → LineReading
reading_of line = if nat_lt LONGEST (length line) || not (list_all is_allowed line) then Bad else reading_of_words (words line)

-- what a line says, by what was kept of it: a line that was too long is bad
abbrev pub reading_of_short_line : Option (List ℕ) → LineReading
reading_of_short_line None = Bad
reading_of_short_line (Some line) = reading_of line

-- The lines that answer a trace (this project's own trace format).
use Rattle.std.specs.Prelude.{ℕ, List, ◌∷◌, ◌++◌, nat_lt, Option, Some, None, Result, Ok, Err, if◌then◌else◌, codes}
use Rattle.std.specs.List.{flat_map}
use Rattle.std.specs.Fmt.{decimal}
use Rattle.bq_disc.specs.Tasks.{Task}
use Rattle.bq_disc.specs.OneProcessor.{Running}
use Rattle.bq_parts.specs.World.{World, processor_at, count_in}
use Rattle.bq_hooks.specs.declared.settled.By.{By}
use Rattle.bq_hooks.specs.declared.settled.By.TheVariants.{Policy, Discipline}
use Rattle.bq_parts.specs.declared.reply.Reply.{Reply}
use Rattle.bq_parts.specs.declared.reply.Reply.TheVariants.{Admitted, Retired, Drawn, Installed, Begun, Placed, Drained, Ticked, Blocked, Pulled}
use Rattle.bq_parts.specs.declared.refusal.Refusal.{Refusal}
use Rattle.bq_parts.specs.declared.refusal.Refusal.TheVariants.{NoProcessor}
use Rattle.bq_parts.specs.RefusalTexts.{refusal_text}
use Rattle.bq_words.specs.Refused.{refused_line}

-- a task or `none`
abbrev pub task_text : Option ℕ → List ℕ
task_text None = codes "none"
task_text (Some t) = decimal t

-- who made the choice
abbrev pub who_text : By → List ℕ
who_text Policy = codes "policy"
who_text Discipline = codes "rule"

-- the task that runs, who chose it, and how many steps a policy took
abbrev pub run_text : Option ℕ → By → ℕ → List ℕ
run_text run by steps = codes " run " ++ (task_text run ++ (codes " by " ++ (who_text by ++ (codes " steps " ++ decimal steps))))

-- numbers, with a space before each
abbrev pub spaced : List ℕ → List ℕ
spaced numbers = flat_map (λ n. 32 ∷ decimal n) numbers

-- what was done at an event, without the line's end
abbrev pub reply_text : Reply → List ℕ
reply_text Admitted = codes "admit ok"
reply_text Retired = codes "retire ok"
reply_text (Drawn g) = codes "draw " ++ decimal g
reply_text Installed = codes "install ok"
reply_text (Begun task loads) = codes "begin " ++ (decimal task ++ (codes " loads" ++ spaced loads))
reply_text (Placed task to by steps) =
    codes "end " ++ (decimal task ++ (codes " to " ++ (decimal to ++ (codes " by " ++ (who_text by ++ (codes " steps " ++ decimal steps))))))
reply_text (Drained count run by steps) = codes "drain " ++ (decimal count ++ run_text run by steps)
reply_text (Ticked run by steps) = codes "tick" ++ run_text run by steps
reply_text (Blocked task run) = codes "block " ++ (decimal task ++ (codes " run " ++ task_text run))
reply_text (Pulled task run by steps) = codes "pull " ++ (task_text task ++ run_text run by steps)

-- the line that answers an event
abbrev pub event_line : Result Reply Refusal → List ℕ
event_line (Ok reply) = reply_text reply ++ codes "\n"
event_line (Err refusal) = refused_line (refusal_text refusal)

-- the answer to a bad line, by its number
abbrev pub bad_line : ℕ → List ℕ
bad_line n = codes "bad " ++ (decimal n ++ codes "\n")

-- a task: its id, its virtual runtime and its deadline
abbrev pub entity_text : Task → List ℕ
entity_text t = decimal t.id ++ (codes ":" ++ (decimal t.v ++ (codes ":" ++ decimal t.deadline)))

-- the running task, or `none`
abbrev pub current_text : Option Task → List ℕ
current_text None = codes "none"
current_text (Some t) = entity_text t

-- tasks, with a space before each
abbrev pub spaced_entities : List Task → List ℕ
spaced_entities tasks = flat_map (λ t. 32 ∷ entity_text t) tasks

-- the line that shows a processor: its mark, its current task, and its queue by rising (v, id)
abbrev pub processor_line : ℕ → Running → List ℕ
processor_line c p =
    codes "show " ++ (decimal c ++ (codes " mark " ++ (decimal p.mark ++ (codes " run " ++ (current_text p.current ++ (codes " queue" ++ (spaced_entities p.queue ++ codes "\n")))))))

-- the line that shows a processor, or that refuses one that the machine does not have
abbrev pub show_line : World → ℕ → List ℕ
show_line w c = if nat_lt c (count_in w) then processor_line c (processor_at w c).running else event_line (Err NoProcessor)

-- the line that shows a counter
abbrev pub counter_line : ℕ → ℕ → List ℕ
counter_line i value = codes "counter " ++ (decimal i ++ (codes " " ++ (decimal value ++ codes "\n")))

-- The meaning of the values of a workload's keys.
use Rattle.std.specs.Prelude.{ℕ, length, ◌&&◌, ◌==◌, nat_le, nat_lt, ℤ, pos, negsuc, List, Option, Some, None, codes, option_map, option_and_then, if◌then◌else◌, bit_and}
use Rattle.toml.specs.Data.{Data, Members, as_integer, as_str, get_member}
use Rattle.bq_weights.specs.VirtualTime.{is_nice}
use Rattle.bq_workload.specs.declared.limits.TheConstants.{LONGEST_NAME}
use Rattle.bq_words.specs.declared.discipline_name.DisciplineName.{DisciplineName}
use Rattle.bq_words.specs.declared.processor_count.ProcessorCount.{ProcessorCount}
use Rattle.bq_words.specs.Sizes.{discipline_named, size_numbered}
use Rattle.bq_words.specs.Durations.{duration_of}
use Rattle.bq_words.specs.ProcessorSets.{processors_of}

-- a number from the least to the greatest
abbrev pub read_within : ℕ → ℕ → ℕ → Option ℕ
read_within least greatest n = if nat_le least n && nat_le n greatest then Some n else None

-- a duration with its unit, from the least to the greatest
abbrev pub span_in : ℕ → ℕ → Data → Option ℕ
span_in least greatest d = option_and_then (read_within least greatest) (option_and_then duration_of (as_str d))

-- a whole number that is not negative
abbrev pub whole : ℤ → Option ℕ
whole (pos n) = Some n
whole (negsuc n) = None

-- a whole number from the least to the greatest
abbrev pub number_in : ℕ → ℕ → Data → Option ℕ
number_in least greatest d = option_and_then (read_within least greatest) (option_and_then whole (as_integer d))

-- the default if the key is absent; otherwise what is read of its value
abbrev pub or_default : {A : Type 0} → A → (Data → Option A) → Option Data → Option A
or_default a read None = Some a
or_default a read (Some d) = read d

-- how often a task does its actions; for ever if the key is absent
abbrev pub loops_of : Option Data → Option (Option ℕ)
loops_of None = Some None
loops_of (Some d) = option_map (λ n. Some n) (number_in 1 9223372036854775807 d)

-- a nice value
abbrev pub read_nice : Data → Option ℤ
read_nice d = option_and_then (λ n. if is_nice n then Some n else None) (as_integer d)

-- a set of which one at least is among all
abbrev pub some_of : ℕ → ℕ → Option ℕ
some_of all mask = if bit_and mask all == 0 then None else Some mask

-- a set of processors, at least one of them the machine's
abbrev pub read_mask : ℕ → Data → Option ℕ
read_mask all d = option_and_then (some_of all) (option_and_then processors_of (as_str d))

-- the discipline that a value names
abbrev pub discipline_in : Data → Option DisciplineName
discipline_in d = option_and_then discipline_named (as_str d)

-- the number of processors that a value is
abbrev pub size_in : Data → Option ProcessorCount
size_in d = option_and_then size_numbered (number_in 1 64 d)

-- a text with something in it, and with at most this many bytes
abbrev pub read_name : Data → Option (List ℕ)
read_name d = option_and_then (λ s. if nat_lt 0 (length s) && nat_le (length s) LONGEST_NAME then Some s else None) (as_str d)

-- the name in a table
abbrev pub name_in_members : Members → Option (List ℕ)
name_in_members ms = option_and_then read_name (get_member (codes "name") ms)

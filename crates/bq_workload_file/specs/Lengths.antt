-- Lengths of phases as values: a duration, or how it is drawn.
use Rattle.std.specs.Prelude.{ℕ, nat_le, List, Option, Some, None, option_map, option_and_then, if◌then◌else◌, codes}
use Rattle.std.specs.Str.{bytes_eq}
use Rattle.toml.specs.Data.{Data, Items, no_items, item, Members, as_array, as_table}
use Rattle.bq_workload.specs.Lengths.{longest}
use Rattle.bq_workload.specs.declared.action.Length.{Length}
use Rattle.bq_workload.specs.declared.action.Length.TheVariants.{Fixed, Uniform, Exponential}
use Rattle.bq_workload_file.specs.Fields.{span_in}
use Rattle.bq_workload_file.specs.Tables.{only_of}

-- a duration that takes time
abbrev pub read_time : Data → Option ℕ
read_time d = span_in 1 longest d

-- a least and a greatest in order
abbrev pub ends_of : Items → Option Length
ends_of (item first (item last no_items)) =
    option_and_then (λ least. option_and_then (λ greatest. if nat_le least greatest then Some (Uniform least greatest) else None) (read_time last)) (read_time first)
ends_of other = None

-- a uniform length, by the array of its two ends
abbrev pub uniform_of : Data → Option Length
uniform_of d = option_and_then ends_of (as_array d)

-- a length that is drawn, by a key and its value
abbrev pub drawn_by : List ℕ × Data → Option Length
drawn_by (key, d) =
    if bytes_eq key (codes "uniform") then uniform_of d
    else if bytes_eq key (codes "exponential") then option_map (λ mean. Exponential mean) (read_time d)
    else None

-- a length that is drawn, by the one entry of its table
abbrev pub drawn_of : Members → Option Length
drawn_of ms = option_and_then drawn_by (only_of ms)

-- a table says how the length is drawn; any other value is a fixed length
abbrev pub fixed_or_drawn : Data → Option Members → Option Length
fixed_or_drawn d (Some ms) = drawn_of ms
fixed_or_drawn d None = option_map (λ n. Fixed n) (read_time d)

-- the length that a value says
abbrev pub read_length : Data → Option Length
read_length d = fixed_or_drawn d (as_table d)

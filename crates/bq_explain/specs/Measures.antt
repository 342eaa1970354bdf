-- What a policy uses of the things that a keeper may limit.
use Rattle.std.specs.Prelude.{ℕ, ◌*◌, List, length, count_by, sum_by, codes}
use Rattle.bq_bpf.specs.Instructions.{asks_counter}
use Rattle.bq_bpf.specs.declared.shape.MapShape.{MapShape}
use Rattle.bq_policy_file.specs.declared.policy_source.PolicySource.{PolicySource}
use Rattle.bq_explain.specs.declared.measure.Measure.{Measure}
use Rattle.bq_explain.specs.declared.measure.Measure.TheVariants.{Maps, MapBytes, Counters}

-- the bytes of the values of a map
abbrev pub bytes_in_map : MapShape → ℕ
bytes_in_map shape = shape.value_size * shape.entries

-- the number of a policy's maps, of the bytes of their values, or of its instructions that call a counter
abbrev pub measure_of : PolicySource → Measure → ℕ
measure_of p Maps = length p.form.shapes.items
measure_of p MapBytes = sum_by bytes_in_map p.form.shapes.items
measure_of p Counters = count_by asks_counter p.insns.items

-- what answers call it
abbrev pub measure_word : Measure → List ℕ
measure_word Maps = codes "maps"
measure_word MapBytes = codes "map-bytes"
measure_word Counters = codes "counters"

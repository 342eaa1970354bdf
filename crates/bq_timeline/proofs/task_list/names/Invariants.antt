use Rattle.std.proofs.Common.{◌≡◌, length, map, string_bytes, take}
use Rattle.std.specs.List.{filter, slice_split}
use Rattle.bq_words.specs.ProcessorSets.{is_comma}
use Rattle.bq_timeline.specs.Settings.{is_name}
use Rattle.bq_timeline.proofs.task_list.names.Given as goal

-- the names among this many parts
abbrev pub invariant-loop-part : goal.invariant-loop-part
invariant-loop-part l = map string_bytes l.names.items ≡ filter is_name (take (length l.yielded) (slice_split is_comma l.word))

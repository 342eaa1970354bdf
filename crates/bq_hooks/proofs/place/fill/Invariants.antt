use Rattle.std.proofs.Common.{◌≡◌, ◌+◌, ◌*◌, ◌++◌, take, slice_index}
use Rattle.std.specs.List.{flat_map, range_with_len}
use Rattle.bq_hooks.specs.Contexts.{place_header, u32_bytes}
use Rattle.bq_hooks.proofs.place.fill.Given as goal

abbrev pub invariant-loop-processor : goal.invariant-loop-processor
invariant-loop-processor l =
    take (40 + 4 * l.processor) l.context
    ≡ place_header l.limit l.facts ++ flat_map (λ p. u32_bytes (slice_index l.facts.loads p)) (range_with_len 0 l.processor)

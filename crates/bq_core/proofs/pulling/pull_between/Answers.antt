use Rattle.std.proofs.Common.{◌≡◌, ℕ, ◌<◌, ◌≤◌, arith}
use Rattle.bq_parts.specs.Processors.{new_processor}
use Rattle.bq_core.proofs.CutListLemmas.{first_part_reads, second_part_reads, written_parts_joined, joined_reversed}
use Rattle.bq_core.proofs.pulling.pull_between.Goals as goal

-- a list can be cut at each of its places
cut_inside : (m i n : ℕ) → m ≡ i → i < n → m ≤ n
cut_inside m i n e h = omega arith

-- a place of a list of at most 64
below_64 : (i n : ℕ) → i < n → n ≤ 64 → i < 64
below_64 i n h l = omega arith

pub pull-requires-clause-once : goal.pull-requires-clause-once
pull-requires-clause-once g c =
    let cut = c.split_at_mut-low in
    let less : c.args.processor < c.args.from = omega arith in
    let puller =
    first_part_reads c.args.cpus.now cut.result.0.now c.args.processor _ c.args.from _ c.index-low-from.result new_processor
    cut.ensures.front c.from.ensures c.from-then-processor-from.ensures less c.requires.inside in
    let source =
    second_part_reads c.args.cpus.now cut.result.1.now c.args.from _ c.index-high-0.result new_processor cut.ensures.back
    c.from.ensures c.requires.inside_from in
    λ id. rw (puller, source) (c.requires.once id)

pub pull-requires-clause-ids : goal.pull-requires-clause-ids
pull-requires-clause-ids g c =
    let cut = c.split_at_mut-low in
    let less : c.args.processor < c.args.from = omega arith in
    let puller =
    first_part_reads c.args.cpus.now cut.result.0.now c.args.processor _ c.args.from _ c.index-low-from.result new_processor
    cut.ensures.front c.from.ensures c.from-then-processor-from.ensures less c.requires.inside in
    let source =
    second_part_reads c.args.cpus.now cut.result.1.now c.args.from _ c.index-high-0.result new_processor cut.ensures.back
    c.from.ensures c.requires.inside_from in
    λ id l. rw (puller, source) (c.requires.ids id l)

pub pull-requires-else-processor-from-clause-once : goal.pull-requires-else-processor-from-clause-once
pull-requires-else-processor-from-clause-once g c =
    let cut = c.split_at_mut-low-else-processor-from in
    let less : c.args.from < c.args.processor = omega (arith, c.requires.apart) in
    let source =
    first_part_reads c.args.cpus.now cut.result.0.now c.args.from _ c.args.processor _
    c.index-low-from-else-processor-from.result new_processor cut.ensures.front c.from-else-processor-from.ensures
    c.from-else-processor-from-2.ensures less c.requires.inside_from in
    let puller =
    second_part_reads c.args.cpus.now cut.result.1.now c.args.processor _ c.index-high-0-else-processor-from.result new_processor
    cut.ensures.back c.from-else-processor-from.ensures c.requires.inside in
    λ id. rw (puller, source) (c.requires.once id)

pub pull-requires-else-processor-from-clause-ids : goal.pull-requires-else-processor-from-clause-ids
pull-requires-else-processor-from-clause-ids g c =
    let cut = c.split_at_mut-low-else-processor-from in
    let less : c.args.from < c.args.processor = omega (arith, c.requires.apart) in
    let source =
    first_part_reads c.args.cpus.now cut.result.0.now c.args.from _ c.args.processor _
    c.index-low-from-else-processor-from.result new_processor cut.ensures.front c.from-else-processor-from.ensures
    c.from-else-processor-from-2.ensures less c.requires.inside_from in
    let puller =
    second_part_reads c.args.cpus.now cut.result.1.now c.args.processor _ c.index-high-0-else-processor-from.result new_processor
    cut.ensures.back c.from-else-processor-from.ensures c.requires.inside in
    λ id l. rw (puller, source) (c.requires.ids id l)

pub returns-then-processor-from-clause-share : goal.returns-then-processor-from-clause-share
returns-then-processor-from-clause-share g c =
    let cut = c.split_at_mut-low in
    let less : c.args.processor < c.args.from = omega arith in
    let puller =
    first_part_reads c.args.cpus.now cut.result.0.now c.args.processor _ c.args.from _ c.index-low-from.result new_processor
    cut.ensures.front c.from.ensures c.from-then-processor-from.ensures less c.requires.inside in
    let source =
    second_part_reads c.args.cpus.now cut.result.1.now c.args.from _ c.index-high-0.result new_processor cut.ensures.back
    c.from.ensures c.requires.inside_from in (
      c.pull.new.self,
      c.pull.new.source,
      rw (puller, source) at c.pull.ensures.share,
      written_parts_joined c.args.cpus.now _ _ c.args.processor c.args.from _ _ c.pull.new.self c.pull.new.source
          cut.ensures.front cut.ensures.back c.from.ensures c.from-then-processor-from.ensures less,
    )

pub returns-else-processor-from-clause-share : goal.returns-else-processor-from-clause-share
returns-else-processor-from-clause-share g c =
    let cut = c.split_at_mut-low-else-processor-from in
    let pull = c.pull-else-processor-from in
    let less : c.args.from < c.args.processor = omega (arith, c.requires.apart) in
    let source =
    first_part_reads c.args.cpus.now cut.result.0.now c.args.from _ c.args.processor _
    c.index-low-from-else-processor-from.result new_processor cut.ensures.front c.from-else-processor-from.ensures
    c.from-else-processor-from-2.ensures less c.requires.inside_from in
    let puller =
    second_part_reads c.args.cpus.now cut.result.1.now c.args.processor _ c.index-high-0-else-processor-from.result new_processor
    cut.ensures.back c.from-else-processor-from.ensures c.requires.inside in (
      pull.new.self,
      pull.new.source,
      rw (puller, source) at pull.ensures.share,
      joined_reversed c.args.cpus.now _ _ c.args.processor c.args.from _ _ pull.new.self pull.new.source cut.ensures.front
          cut.ensures.back c.from-else-processor-from.ensures c.from-else-processor-from-2.ensures less,
    )

pub from-requires : goal.from-requires
from-requires g c = tt

pub split_at_mut-low-requires : goal.split_at_mut-low-requires
split_at_mut-low-requires g c = cut_inside _ c.args.from _ c.from.ensures c.requires.inside_from

pub split_at_mut-low-requires-else-processor-from : goal.split_at_mut-low-requires-else-processor-from
split_at_mut-low-requires-else-processor-from g c = cut_inside _ c.args.processor _ c.from-else-processor-from.ensures c.requires.inside

pub bounds-low-from : goal.bounds-low-from
bounds-low-from g c = omega (arith, c.split_at_mut-low.ensures.front_len)

pub pull-requires-clause-inside : goal.pull-requires-clause-inside
pull-requires-clause-inside g c = below_64 c.args.processor _ c.requires.inside c.requires.few

pub pull-requires-clause-no_calls : goal.pull-requires-clause-no_calls
pull-requires-clause-no_calls g c = c.requires.no_calls

pub pull-requires-else-processor-from-clause-inside : goal.pull-requires-else-processor-from-clause-inside
pull-requires-else-processor-from-clause-inside g c = below_64 c.args.processor _ c.requires.inside c.requires.few

pub pull-requires-else-processor-from-clause-no_calls : goal.pull-requires-else-processor-from-clause-no_calls
pull-requires-else-processor-from-clause-no_calls g c = c.requires.no_calls

pub returns-then-processor-from-clause-board : goal.returns-then-processor-from-clause-board
returns-then-processor-from-clause-board g c = c.pull.ensures.board

pub returns-else-processor-from-clause-board : goal.returns-else-processor-from-clause-board
returns-else-processor-from-clause-board g c = c.pull-else-processor-from.ensures.board

-- What words write for tasks, processors, masks and nice values: each number has to fit its type.
use Rattle.std.specs.Prelude.{ℕ, ◌^◌, List, drop, Option, if◌then◌else◌, codes, nat_eq, ℤ, pos, neg_ℤ, option_map, option_and_then}
use Rattle.std.specs.List.{starts_with}
use Rattle.bq_words.specs.declared.processor_count.ProcessorCount.{ProcessorCount}
use Rattle.bq_words.specs.Sizes.{size_numbered}
use Rattle.bq_words.specs.Numbers.{below, number_in_base, value_of}

-- a generation, a slice or a clock reading: decimal, below 2^64
abbrev pub decimal_of : List ℕ → Option ℕ
decimal_of word = number_in_base 10 word

-- a processor or a counter: decimal, below 2^8
abbrev pub processor_in_word : List ℕ → Option ℕ
processor_in_word word = below (2 ^ 8) (decimal_of word)

-- a task: decimal, below 2^16
abbrev pub task_in_word : List ℕ → Option ℕ
task_in_word word = below (2 ^ 16) (decimal_of word)

-- a mask: decimal, or hex digits of either case after `0x`
abbrev pub mask_in_word : List ℕ → Option ℕ
mask_in_word word = value_of word

-- a nice value: decimal, from -128 to 127
abbrev pub nice_in_word : List ℕ → Option ℤ
nice_in_word word =
    if starts_with nat_eq word (codes "-") then option_map (λ n. neg_ℤ (pos n)) (below 129 (decimal_of (drop 1 word)))
    else option_map (λ n. pos n) (below 128 (decimal_of word))

-- the number of processors that a word names
abbrev pub size_in_word : List ℕ → Option ProcessorCount
size_in_word word = option_and_then size_numbered (processor_in_word word)

-- Contexts: the bytes that a hook shows to its policy, numbers little-endian. The fields and their places are this project's
-- own. The number beside each field is that of its first byte.
use Rattle.std.specs.Prelude.{ℕ, ◌%◌, ◌^◌, min, Bool, nat_lt, if◌then◌else◌, List, ◌++◌, length, slice_get, slice_index, Option, Some, None}
use Rattle.std.specs.Int.{bytes_low_first}
use Rattle.std.specs.List.{flat_map, range_with_len}
use Rattle.bq_disc.specs.Tasks.{Task}

-- the four bytes of a number, the lowest first
abbrev pub u32_bytes : ℕ → List ℕ
u32_bytes n = bytes_low_first 0 4 n

-- the eight bytes of a number, the lowest first
abbrev pub u64_bytes : ℕ → List ℕ
u64_bytes n = bytes_low_first 0 8 n

-- four numbers of 32 bits, one after another
abbrev pub four_bytes : ℕ → ℕ → ℕ → ℕ → List ℕ
four_bytes a b c d = u32_bytes a ++ u32_bytes b ++ u32_bytes c ++ u32_bytes d

-- the number that means no task or no processor: all 32 bits
abbrev pub nobody : ℕ
nobody = 4294967295

-- the number given, or nobody
abbrev pub or_nobody : Option ℕ → ℕ
or_nobody None = nobody
or_nobody (Some n) = n

-- a truth value as a number: 1 or 0
abbrev pub as_number : Bool → ℕ
as_number b = if b then 1 else 0

-- what a place policy is asked about: the task, the processor that wakes it, how many processors there are, the discipline's
-- own choice, and the load of each processor
pub record PlaceFacts : Type 0 where
  pub task : Task
  pub waking : ℕ
  pub processors : ℕ
  pub own : ℕ
  pub loads : List ℕ

-- what a preempt policy is asked about: the processor, its queue, the current task, the discipline's choice of only the queue, and
-- the discipline's own answer
pub record PreemptFacts : Type 0 where
  pub processor : ℕ
  pub queue : List Task
  pub current : Task
  pub choice : Option Task
  pub own : Bool

-- what a pull policy is asked about: the two processors, how many tasks run or wait at each, all tasks of the other's queue
-- that may go (the greatest (v, id) first), and the discipline's own choice
pub record PullFacts : Type 0 where
  pub puller : ℕ
  pub source : ℕ
  pub puller_size : ℕ
  pub source_size : ℕ
  pub movable : List Task
  pub own : Option ℕ

-- a processor if it is below the limit, else nobody
abbrev pub if_shown : ℕ → ℕ → ℕ
if_shown limit p = if nat_lt p limit then p else nobody

-- a processor if there is one and it is below the limit, else nobody
abbrev pub if_any_shown : ℕ → Option ℕ → ℕ
if_any_shown limit None = nobody
if_any_shown limit (Some p) = if_shown limit p

-- the first 40 bytes of a place context that shows the processors below a limit
unfoldable pub place_header : ℕ → PlaceFacts → List ℕ
place_header limit f =
    u32_bytes f.task.id  -- 0
    ++ u32_bytes f.task.weight  -- 4
    ++ u64_bytes (f.task.mask % 2 ^ min f.processors limit)  -- 8
    ++ u64_bytes f.task.slice  -- 16
    ++ u32_bytes (if_shown limit f.waking)  -- 24
    ++ u32_bytes (if_any_shown limit f.task.prev)  -- 28
    ++ u32_bytes (min f.processors limit)  -- 32
    ++ u32_bytes (if_shown limit f.own)  -- 36

-- a place context: the header, then the loads, 0 for a processor that does not exist
unfoldable pub place_bytes_below : ℕ → PlaceFacts → List ℕ
place_bytes_below limit f = place_header limit f ++ flat_map (λ p. u32_bytes (slice_index f.loads p)) (range_with_len 0 limit)

-- the context for images of version 1: it shows at most 16 processors, in 104 bytes
abbrev pub place_bytes_first : PlaceFacts → List ℕ
place_bytes_first f = place_bytes_below 16 f

-- the context for images of version 2: it shows up to 64 processors, in 296 bytes
abbrev pub place_bytes_second : PlaceFacts → List ℕ
place_bytes_second f = place_bytes_below 64 f

-- a task's id, weight and v; if there is no task, `absent` and zeros
abbrev pub task_bytes : ℕ → Option Task → List ℕ
task_bytes absent None = u32_bytes absent ++ u32_bytes 0 ++ u64_bytes 0
task_bytes absent (Some t) = u32_bytes t.id ++ u32_bytes t.weight ++ u64_bytes t.v

-- a preempt context, of 56 bytes
unfoldable pub preempt_bytes : PreemptFacts → List ℕ
preempt_bytes f =
    u32_bytes f.processor  -- 0
    ++ u32_bytes (length f.queue)  -- 4
    ++ u32_bytes f.current.id  -- 8
    ++ u32_bytes f.current.weight  -- 12
    ++ u64_bytes f.current.v  -- 16
    ++ u64_bytes f.current.deadline  -- 24
    ++ task_bytes nobody f.choice  -- 32
    ++ u32_bytes (as_number f.own)  -- 48
    ++ u32_bytes 0  -- 52

-- the first 32 bytes of a pull context, with how many tasks are movable and how many of them are shown
unfoldable pub pull_header : PullFacts → List ℕ
pull_header f =
    u32_bytes f.puller  -- 0
    ++ u32_bytes f.source  -- 4
    ++ u32_bytes f.puller_size  -- 8
    ++ u32_bytes f.source_size  -- 12
    ++ u32_bytes (length f.movable)  -- 16
    ++ u32_bytes (min (length f.movable) 8)  -- 20
    ++ u32_bytes (or_nobody f.own)  -- 24
    ++ u32_bytes 0  -- 28

-- a pull context, of 160 bytes: the header, then the first eight movable tasks, with zeros if there are fewer
unfoldable pub pull_bytes : PullFacts → List ℕ
pull_bytes f = pull_header f ++ flat_map (λ k. task_bytes 0 (slice_get f.movable k)) (range_with_len 0 8)

-- Each item of a context is a byte, whatever the context shows.
use Rattle.std.proofs.Common.{◌≡◌, ℕ, zero, suc, ◌+◌, ◌/◌, ◌^◌, ◌<◌, List, [], ◌∷◌, ◌++◌, Option, Some, None, subst, arith}
use Rattle.std.proofs.Math.Nat.{mod-lt}
use Rattle.std.specs.Prelude.{◌%◌, min, length, slice_get, slice_index}
use Rattle.std.specs.Int.{byte_at, bytes_low_first}
use Rattle.std.specs.List.{flat_map, range_with_len, AllByRecursion}
use Rattle.bq_disc.specs.Tasks.{Task}
use Rattle.bq_hooks.specs.Contexts.{pull_header, PlaceFacts, PreemptFacts, PullFacts, place_header, place_bytes_below, preempt_bytes, pull_bytes, task_bytes, u32_bytes, u64_bytes, nobody, or_nobody, as_number, if_shown, if_any_shown}

-- numbers below 256
record AreBytes (xs : List ℕ) : Type 0 where
  all : AllByRecursion (λ b. b < 256) xs

-- two lists of bytes, one after the other, are bytes, in two forms:
joined : (xs ys : List ℕ) → AllByRecursion (λ b. b < 256) xs → AllByRecursion (λ b. b < 256) ys → AllByRecursion (λ b. b < 256) (xs ++ ys)
joined [] ys h k = k
joined (x ∷ xs) ys h k = (h.0, joined xs ys h.1 k)

infixl 40 ◌then◌
◌then◌ : {xs : List ℕ} → {ys : List ℕ} → AreBytes xs → AreBytes ys → AreBytes (xs ++ ys)
◌then◌ {xs = xs} {ys = ys} h k = record { all = joined xs ys h.all k.all }

-- pieces that are bytes, one after another, are bytes
pieces_are : (a k : ℕ) (f : ℕ → List ℕ) → ((i : ℕ) → AreBytes (f i)) → AreBytes (flat_map f (range_with_len a k))
pieces_are a zero f h = record { all = tt }
pieces_are a (suc k) f h = h a then pieces_are (a + 1) k f h

-- the bytes of a number are below 256: one of them, any count, four and eight:
byte_at_fits : (i n : ℕ) → byte_at i n < 256
byte_at_fits zero n = mod-lt n (omega arith)
byte_at_fits (suc i) n = mod-lt (n / 256 ^ suc i) (omega arith)

number_is : (i k n : ℕ) → AllByRecursion (λ b. b < 256) (bytes_low_first i k n)
number_is i zero n = tt
number_is i (suc k) n = (byte_at_fits i n, number_is (suc i) k n)

u32_is : (n : ℕ) → AreBytes (u32_bytes n)
u32_is n = record { all = number_is 0 4 n }

u64_is : (n : ℕ) → AreBytes (u64_bytes n)
u64_is n = record { all = number_is 0 8 n }

-- a task that is shown, and each of the three contexts, is bytes:
task_is : (absent : ℕ) (o : Option Task) → AreBytes (task_bytes absent o)
task_is absent None = u32_is absent then u32_is 0 then u64_is 0
task_is absent (Some t) = u32_is t.id then u32_is t.weight then u64_is t.v

place_is : (limit : ℕ) (f : PlaceFacts) → AreBytes (place_bytes_below limit f)
unfolding place_bytes_below place_header
place_is limit f =
    u32_is f.task.id
    then u32_is f.task.weight
    then u64_is (f.task.mask % 2 ^ min f.processors limit)
    then u64_is f.task.slice
    then u32_is (if_shown limit f.waking)
    then u32_is (if_any_shown limit f.task.prev)
    then u32_is (min f.processors limit)
    then u32_is (if_shown limit f.own)
    then pieces_are 0 limit (λ p. u32_bytes (slice_index f.loads p)) (λ p. u32_is (slice_index f.loads p))

preempt_is : (f : PreemptFacts) → AreBytes (preempt_bytes f)
unfolding preempt_bytes
preempt_is f =
    u32_is f.processor
    then u32_is (length f.queue)
    then u32_is f.current.id
    then u32_is f.current.weight
    then u64_is f.current.v
    then u64_is f.current.deadline
    then task_is nobody f.choice
    then u32_is (as_number f.own)
    then u32_is 0

pull_is : (f : PullFacts) → AreBytes (pull_bytes f)
unfolding pull_bytes pull_header
pull_is f =
    u32_is f.puller
    then u32_is f.source
    then u32_is f.puller_size
    then u32_is f.source_size
    then u32_is (length f.movable)
    then u32_is (min (length f.movable) 8)
    then u32_is (or_nobody f.own)
    then u32_is 0
    then pieces_are 0 8 (λ k. task_bytes 0 (slice_get f.movable k)) (λ k. task_is 0 (slice_get f.movable k))

-- a byte that is read from there
read : (xs : List ℕ) (i b : ℕ) → AllByRecursion (λ b. b < 256) xs → slice_get xs i ≡ Some b → b < 256
read [] i b h e = cc
read (x ∷ xs) zero b h e = let same : x ≡ b = cc in subst (λ y. y < 256) same h.0
read (x ∷ xs) (suc i) b h e = read xs i b h.1 e

-- what is read anywhere in a place context is below 256
pub place_bytes-fit : (limit : ℕ) (f : PlaceFacts) (i b : ℕ) → slice_get (place_bytes_below limit f) i ≡ Some b → b < 256
place_bytes-fit limit f i b e = read (place_bytes_below limit f) i b (place_is limit f).all e

-- what is read anywhere in a preempt context is below 256
pub preempt_bytes-fit : (f : PreemptFacts) (i b : ℕ) → slice_get (preempt_bytes f) i ≡ Some b → b < 256
preempt_bytes-fit f i b e = read (preempt_bytes f) i b (preempt_is f).all e

-- what is read anywhere in a pull context is below 256
pub pull_bytes-fit : (f : PullFacts) (i b : ℕ) → slice_get (pull_bytes f) i ≡ Some b → b < 256
pull_bytes-fit f i b e = read (pull_bytes f) i b (pull_is f).all e

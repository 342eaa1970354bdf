-- What a run changed, in words.
use Rattle.std.specs.Prelude.{ℕ, ◌+◌, ◌%◌, ◌^◌, Bool, not, nat_eq, List, [], ◌++◌, codes, filter, length, map, slice_get, if◌then◌else◌}
use Rattle.std.specs.Fmt.{decimal}
use Rattle.std.specs.List.{flat_map, range_with_len}
use Rattle.std.specs.declared.alloc.Global.{Global}
use Rattle.std.specs.declared.vec.Vec.{Vec}
use lib.Pointwise.{pointwise}
use Rattle.hex.specs.Hex.{encode_lower}
use Rattle.bq_bpf.specs.declared.board.CounterCall.{CounterCall}
use Rattle.bq_bpf.specs.declared.board.CounterCall.TheVariants.{Add, Read}
use Rattle.bq_maps.specs.Arrays.{Arrays, entries_in, entry_of}

-- maps of these shapes, with these bytes
abbrev pub with_all : Arrays → List (List ℕ) → Arrays
with_all maps bytes = record maps { bytes = bytes }

-- maps of these shapes, with the bytes that are in these vectors
abbrev pub with_contents : Arrays → List (Vec ℕ Global) → Arrays
with_contents maps all = with_all maps (map (λ v. v.items) all)

-- the bytes of an entry are other than before
abbrev pub is_changed : Arrays → Arrays → ℕ → ℕ → Bool
is_changed before after m k = not (pointwise nat_eq (entry_of before m k) (entry_of after m k))

-- the entries of a map whose bytes are other than before, in rising order
abbrev pub changed_entries : Arrays → Arrays → ℕ → List ℕ
changed_entries before after m = filter (is_changed before after m) (range_with_len 0 (entries_in (slice_get after.shapes m)))

-- the line of an entry: the number of its map, its own, and its bytes in hex
abbrev pub entry_line : ℕ → ℕ → List ℕ → List ℕ
entry_line m k bytes = codes "map " ++ (decimal m ++ (codes " entry " ++ (decimal k ++ (codes ": " ++ (encode_lower bytes ++ codes "\n")))))

-- a line for each entry of a map whose bytes are other than before, with its new bytes
abbrev pub map_changes : Arrays → Arrays → ℕ → List ℕ
map_changes before after m = flat_map (λ k. entry_line m k (entry_of after m k)) (changed_entries before after m)

-- the changed entries of each map whose bytes before are there, in rising order of maps
abbrev pub changes_text : Arrays → Arrays → List ℕ
changes_text before after = flat_map (map_changes before after) (range_with_len 0 (length before.bytes))

-- what one entry adds to them: its line, or nothing
abbrev pub entry_change : Arrays → Arrays → ℕ → ℕ → List ℕ
entry_change before after m k = if is_changed before after m k then entry_line m k (entry_of after m k) else []

-- the line of a call of a counter: what it was, and for a sum what the counter is afterwards, modulo 2^64
abbrev pub call_line : CounterCall → List ℕ
call_line (Add counter amount answer) =
    codes "counter " ++ (decimal counter ++ (codes ": " ++ (decimal answer ++ (codes " and " ++ (decimal amount
    ++ (codes " give " ++ (decimal ((answer + amount) % 2 ^ 64) ++ codes "\n")))))))
call_line (Read counter answer) = codes "counter " ++ (decimal counter ++ (codes ": read " ++ (decimal answer ++ codes "\n")))

-- a line for each call
abbrev pub calls_text : List CounterCall → List ℕ
calls_text calls = flat_map call_line calls

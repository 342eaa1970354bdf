-- The percentiles of some numbers, by nearest rank.
use Rattle.std.specs.Prelude.{ℕ, ◌+◌, ◌-◌, ◌*◌, ◌/◌, min}

-- the place of a percentile among this many sorted numbers, from 0: the first place by which this many percent of them have come
abbrev pub rank : ℕ → ℕ → ℕ
rank percent count = min ((count * percent + 99) / 100) count - 1

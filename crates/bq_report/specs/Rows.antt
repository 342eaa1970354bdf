-- The rows of comma-separated values.
use Rattle.std.specs.Prelude.{ℕ, List, [], ◌++◌, Option, Some, None, codes}
use Rattle.std.specs.Fmt.{decimal}
use Rattle.bq_schedule.specs.declared.slice.Slice.{Slice}

-- the row above the others, which names the columns
abbrev pub head_row : List ℕ
head_row = codes "processor,task,from,to\n"

-- the row of a slice: processor, task, from, to
abbrev pub slice_row : Slice → List ℕ
slice_row s =
    decimal s.processor ++ (codes "," ++ (decimal s.task ++ (codes "," ++ (decimal s.from ++ (codes "," ++ (decimal s.to ++ codes "\n"))))))

-- the row of a slice if there is one, otherwise nothing
abbrev pub optional_slice_row : Option Slice → List ℕ
optional_slice_row None = []
optional_slice_row (Some s) = slice_row s

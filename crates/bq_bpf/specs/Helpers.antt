-- The table of helpers: the numbers by which a program calls them.
use Rattle.std.specs.Prelude.{ℤ, pos}
use Rattle.bq_bpf.specs.declared.helper.Helper.{Helper}
use Rattle.bq_bpf.specs.declared.helper.Helper.TheVariants.{Lookup, Update, Now, Processor, AddCounter, ReadCounter}

-- the number by which a program calls a helper
abbrev pub number_of_helper : Helper → ℤ
number_of_helper Lookup = pos 1
number_of_helper Update = pos 2
number_of_helper Now = pos 5
number_of_helper Processor = pos 8
number_of_helper AddCounter = pos 100
number_of_helper ReadCounter = pos 101

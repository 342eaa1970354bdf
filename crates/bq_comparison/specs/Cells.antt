-- Numbers of thousandths, and differences, as they stand in the cells of a table.
use Rattle.std.specs.Prelude.{ℕ, ◌/◌, ◌%◌, ◌^◌, ◌-◌, false, List, [], ◌++◌, Option, Some, None, codes}
use Rattle.std.specs.Fmt.{decimal, format_spec, padded_integral}
use Rattle.bq_comparison.specs.declared.difference.Difference.{Difference}
use Rattle.bq_comparison.specs.declared.difference.Difference.TheVariants.{Less, More}

-- a number below 1000 in three digits
abbrev pub three_digits : ℕ → List ℕ
three_digits n = padded_integral (format_spec 32 0 4 3 (2 ^ 64 - 1)) false [] (decimal n)

-- thousandths, as a number with three decimals
abbrev pub decimal_text : ℕ → List ℕ
decimal_text n = decimal (n / 1000) ++ (codes "." ++ three_digits (n % 1000))

-- thousandths, if there are any; else the other text
abbrev pub cell_text : Option ℕ → List ℕ → List ℕ
cell_text None otherwise = otherwise
cell_text (Some n) otherwise = decimal_text n

-- a difference with its sign, if there is one; else the other text
abbrev pub difference_text : Option Difference → List ℕ → List ℕ
difference_text None otherwise = otherwise
difference_text (Some (More size)) otherwise = codes "+" ++ decimal_text size
difference_text (Some (Less size)) otherwise = codes "-" ++ decimal_text size

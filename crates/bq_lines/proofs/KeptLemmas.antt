-- What is heard of a line by what is kept of it.
use Rattle.std.proofs.Common.{◌≡◌, ℕ, ◌+◌, ◌-◌, ◌<◌, ◌≤◌, List, length, take, refl, sym, Bool, true, false, cond, eqb, ltb, Some, None, arith}
use Rattle.std.specs.Prelude.{slice_index}
use Rattle.std.specs.Str.Lines.{strip_carriage_return}
use Rattle.std.proofs.lemmas.Bool.Decides.{nat_tests}
use Rattle.std.proofs.lemmas.Grind.{common_steps}
use Rattle.bq_lines.specs.Kept.{KeepsLine, short_line}
use Rattle.bq_lines.specs.Lines.{reading_of, reading_of_short_line}
use Rattle.bq_lines.specs.declared.command.LineReading.TheVariants.{Bad}

-- where nothing is kept the line is too long
length_unkept : (line : List ℕ) → KeepsLine None line → 131073 < length line
length_unkept line h = unkept (length line) (ltb 131073 (length line)) refl h.kept_is
  where
    unkept : (n : ℕ) (b : Bool) → ltb 131073 n ≡ b → None ≡ cond b None (Some line) → 131073 < n
    unkept n true e k = grind (arith, nat_tests)
    unkept n false e k = cc

-- a line that is too long is bad
reading_of-long : (line : List ℕ) → ltb 131072 (length line) ≡ true → reading_of line ≡ Bad
unfolding reading_of
reading_of-long line e = rw e refl

-- nothing is heard of a line that is too long
short_line-long : (line : List ℕ) → 131072 < length line → short_line line ≡ None
short_line-long line long = let e : ltb 131072 (length line) ≡ true = grind (arith, nat_tests) in rw e refl

-- a line is at most one byte longer than without its carriage return
length-strip : (line : List ℕ) → length line ≤ length (strip_carriage_return line) + 1
length-strip line = stripped (eqb (slice_index line (length line - 1)) 13)
  where
    stripped : (b : Bool) → length line ≤ length (cond b (take (length line - 1) line) line) + 1
    stripped true = grind (arith, common_steps)
    stripped false = omega arith

-- of a line of which nothing is kept nothing is heard
pub short_line-unkept : (line : List ℕ) → KeepsLine None line → short_line line ≡ None
short_line-unkept line h = short_line-long line (omega (arith, length_unkept line h))

-- of a line of which nothing is kept nothing is heard without its carriage return either
pub short_line-strip_unkept : (line : List ℕ) → KeepsLine None line → short_line (strip_carriage_return line) ≡ None
short_line-strip_unkept line h = short_line-long (strip_carriage_return line) (omega (arith, length_unkept line h, length-strip line))

-- what is heard of a line says what the line says
pub reading_of_short_line-line : (line : List ℕ) → reading_of_short_line (short_line line) ≡ reading_of line
reading_of_short_line-line line = by_length (ltb 131072 (length line)) refl
  where
    by_length : (b : Bool) → ltb 131072 (length line) ≡ b → reading_of_short_line (cond b None (Some line)) ≡ reading_of line
    by_length true e = sym (reading_of-long line e)
    by_length false e = refl

-- Where what comes after one more byte stands.
use Rattle.std.proofs.Common.{◌≡◌, ◌≢◌, ℕ, suc, ◌+◌, ◌≤◌, Bool, true, false, not, cond, List, [], ◌∷◌, ◌++◌, length, take, ap, ◌∙◌, arith}
use Rattle.std.specs.Prelude.{reverse}
use Rattle.std.specs.List.{count_by, take_while, prefix_len}
use Rattle.std.specs.Fmt.{is_char_start}
use Rattle.std.proofs.lemmas.Bool.{eq-eqb, ne_eqb}
use Rattle.std.proofs.lemmas.List.{length-reverse, length-take, reverse-append}
use Rattle.std.proofs.lemmas.List.Sums.{count_by-le-length, sum_by-append}
use Rattle.bq_workload_file.specs.Positions.{column_after, is_line_end, last_line, line_after}

-- one more byte is counted if it passes the test
counted : (p : ℕ → Bool) (xs : List ℕ) (b : ℕ) → count_by p (xs ++ b ∷ []) ≡ count_by p xs + cond (p b) 1 0
counted p xs b =
    let both : count_by p (xs ++ b ∷ []) ≡ count_by p xs + (0 + cond (p b) 1 0) =
    sum_by-append (λ x. cond (p x) 1 0) xs (b ∷ []) in
    omega (arith, both)

-- a line end begins a line
pub line-next : (before : List ℕ) (b : ℕ) → b ≡ 10 → line_after (before ++ b ∷ []) ≡ line_after before + 1
line-next before b e =
    let more = counted is_line_end before b in
    let one : ◌≡◌ {A = ℕ} (cond (is_line_end b) 1 0) 1 = ap (λ (t : Bool). cond t 1 0) (eq-eqb b 10 e) in
    omega (arith, more, one)

-- any other byte stays on it
pub line-same : (before : List ℕ) (b : ℕ) → b ≢ 10 → line_after (before ++ b ∷ []) ≡ line_after before
line-same before b e =
    let more = counted is_line_end before b in
    let none : ◌≡◌ {A = ℕ} (cond (is_line_end b) 1 0) 0 = ap (λ (t : Bool). cond t 1 0) (ne_eqb b 10 e) in
    omega (arith, more, none)

-- what stands behind the last line end, by the last byte
front : (t : Bool) (b : ℕ) (rest : List ℕ) → is_line_end b ≡ t
    → count_by is_char_start (take_while (λ c. not (is_line_end c)) (b ∷ rest)) + 1
    ≡ cond t 1 (count_by is_char_start (take_while (λ c. not (is_line_end c)) rest) + 1 + cond (is_char_start b) 1 0)
front true b rest e =
    ap (λ (t : Bool). count_by is_char_start (take (cond (not t) (1 + prefix_len (λ c. not (is_line_end c)) rest) 0) (b ∷ rest)) + 1) e
front false b rest e =
    let most = prefix_len (λ c. not (is_line_end c)) rest in
    let more = take_while (λ c. not (is_line_end c)) rest in
    let first : count_by is_char_start (b ∷ more) ≡ 0 + cond (is_char_start b) 1 0 + count_by is_char_start more =
    sum_by-append (λ x. cond (is_char_start x) 1 0) (b ∷ []) more in
    let next : 1 + most ≡ suc most = omega arith in
    ap (λ (t : Bool). count_by is_char_start (take (cond (not t) (1 + most) 0) (b ∷ rest)) + 1) e
    ∙ ap (λ (n : ℕ). count_by is_char_start (take n (b ∷ rest)) + 1) next ∙ omega (arith, first)

-- the column after one more byte, by whether that byte ends the line
column_by : (before : List ℕ) (b : ℕ) (t : Bool) → is_line_end b ≡ t
    → column_after (before ++ b ∷ []) ≡ cond t 1 (column_after before + cond (is_char_start b) 1 0)
column_by before b t e =
    ap (λ (bytes : List ℕ). count_by is_char_start (take_while (λ c. not (is_line_end c)) bytes) + 1) (reverse-append before (b ∷ []))
    ∙ front t b (reverse before) e

-- a line end is followed by the first column
pub column-first : (before : List ℕ) (b : ℕ) → b ≡ 10 → column_after (before ++ b ∷ []) ≡ 1
column-first before b e = column_by before b true (eq-eqb b 10 e)

-- the first byte of any other character is one column
pub column-more : (before : List ℕ) (b : ℕ) → b ≢ 10 → column_after (before ++ b ∷ []) ≡ column_after before + cond (is_char_start b) 1 0
column-more before b e = column_by before b false (ne_eqb b 10 e)

-- there are no more lines than bytes, and one
pub line-low : (before : List ℕ) → line_after before ≤ length before + 1
line-low before = let low = count_by-le-length is_line_end before in omega (arith, low)

-- there are no more columns than bytes, and one
pub column-low : (before : List ℕ) → column_after before ≤ length before + 1
column-low before =
    let low = count_by-le-length is_char_start (last_line before) in
    let shorter = length-take (prefix_len (λ c. not (is_line_end c)) (reverse before)) (reverse before) in
    let same = length-reverse before in
    omega (arith, low, shorter, same)

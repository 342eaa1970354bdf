use Rattle.std.proofs.Common.{◌≡◌, ℕ, Bool, cond, ap, sym, ◌∙◌, arith}
use Rattle.std.specs.Fmt.{is_char_start}
use Rattle.bq_workload_file.proofs.PlaceLemmas.{column-first, column-more, line-next, line-same}
use Rattle.bq_workload_file.proofs.fault.passed.Goals as goal

pub returns-then-byte-eq10-clause-line : goal.returns-then-byte-eq10-clause-line
returns-then-byte-eq10-clause-line c =
    λ before here. let next = line-next before c.args.byte c.if-byte-eq10.true in omega (arith, here, next)

pub returns-then-byte-eq10-clause-column : goal.returns-then-byte-eq10-clause-column
returns-then-byte-eq10-clause-column c = λ before here. sym (column-first before c.args.byte c.if-byte-eq10.true)

pub returns-then-is_char_start-clause-line : goal.returns-then-is_char_start-clause-line
returns-then-is_char_start-clause-line c = λ before here. here ∙ sym (line-same before c.args.byte c.if-byte-eq10.false)

pub returns-then-is_char_start-clause-column : goal.returns-then-is_char_start-clause-column
returns-then-is_char_start-clause-column c = λ before here.
    let more = column-more before c.args.byte c.if-byte-eq10.false in
    let one : ◌≡◌ {A = ℕ} (cond (is_char_start c.args.byte) 1 0) 1 =
    ap (λ (t : Bool). cond t 1 0) (sym c.is_char_start.ensures ∙ c.if-is_char_start.true) in
    omega (arith, here, more, one)

pub returns-else-is_char_start-clause-line : goal.returns-else-is_char_start-clause-line
returns-else-is_char_start-clause-line c = λ before here. here ∙ sym (line-same before c.args.byte c.if-byte-eq10.false)

pub returns-else-is_char_start-clause-column : goal.returns-else-is_char_start-clause-column
returns-else-is_char_start-clause-column c = λ before here.
    let more = column-more before c.args.byte c.if-byte-eq10.false in
    let none : ◌≡◌ {A = ℕ} (cond (is_char_start c.args.byte) 1 0) 0 =
    ap (λ (t : Bool). cond t 1 0) (sym c.is_char_start.ensures ∙ c.if-is_char_start.false) in
    omega (arith, here, more, none)

use Rattle.std.proofs.Common.{◌≡◌, ◌∙◌, ◌++◌, ap, append_assoc, rules, sym}
use Rattle.std.specs.Prelude.{codes, string_bytes}
use Rattle.std.specs.Fmt.{decimal}
use Rattle.std.proofs.lemmas.Result.{IfOk-weaker}
use Rattle.bq_insn.specs.Appending.{StartsWith}
use Rattle.bq_asm_faults.specs.Complaints.{line_beginning}
use Rattle.bq_asm_faults.proofs.complaining.line_complaint.Goals as goal

pub returns-then-number-eq0 : goal.returns-then-number-eq0
returns-then-number-eq0 c =
    let first : codes "the text has no instruction" ≡ line_beginning c.args.number = search rules in
    IfOk-weaker c.from_str.result (λ text. string_bytes text ≡ codes "the text has no instruction" ++ codes "\n")
    (λ text. StartsWith (line_beginning c.args.number) (string_bytes text))
    (λ text is. (codes "\n", is ∙ ap (λ x. x ++ codes "\n") first)) c.from_str.ensures.ok

pub returns : goal.returns
returns c =
    let behind = string_bytes c.in_ok-why.why ++ codes "\n" in
    let first : codes "line " ++ (decimal c.args.number ++ codes ": ") ≡ line_beginning c.args.number = search rules in
    IfOk-weaker c.format.result (λ text. string_bytes text ≡ codes "line " ++ (decimal c.args.number ++ (codes ": " ++ behind)))
    (λ text. StartsWith (line_beginning c.args.number) (string_bytes text))
    (λ text is. (
      behind,
      is ∙ (sym (ap (λ x. codes "line " ++ x) (append_assoc (decimal c.args.number) (codes ": ") behind)) ∙ ap (λ x. x ++ behind) first),
    )) c.format.ensures.ok

use Rattle.std.proofs.Common.{◌≡◌, ◌++◌, ◌∷◌, [], sym, ◌∙◌, arith}
use Rattle.std.specs.Prelude.{Some, string_bytes}
use Rattle.std.proofs.lemmas.List.{append_cancel_right}
use Rattle.std.proofs.lemmas.Str.Pattern.{strip_suffix_char}
use Rattle.std.proofs.lemmas.Result.{IfOk-weaker}
use lib.Utf8.{encode}
use Rattle.bq_asm.specs.Text.{line_body}
use Rattle.bq_policy_file.proofs.NotedLemmas.{one_line}
use Rattle.bq_policy_file.proofs.policy_listing.instruction_text.Goals as goal

pub returns-in-Some : goal.returns-in-Some
returns-in-Some c =
    let insn = c.args.insn in
    let line = c.in-Some.line in
    let cut : c.as_str.result.now ≡ line.now ++ 10 ∷ [] =
    strip_suffix_char 10 c.as_str.result.now (Some line) c.in-Some.ensures.cases (omega arith) in
    let whole : line.now ++ 10 ∷ [] ≡ line_body insn ++ 10 ∷ [] = sym cut ∙ c.as_str.ensures.value ∙ c.in_ok-text.ensures ∙ one_line insn in
    let same : line.now ≡ line_body insn = append_cancel_right line.now (line_body insn) (10 ∷ []) whole in
    IfOk-weaker c.from_str.result (λ text. string_bytes text ≡ line.now) (λ text. string_bytes text ≡ line_body insn)
    (λ text is. is ∙ same) c.from_str.ensures.ok

pub returns-in-None : goal.returns-in-None
unfolding encode
returns-in-None c =
    let insn = c.args.insn in
    absurd (c.in-None.ensures.cases (line_body insn) (c.as_str.ensures.value ∙ c.in_ok-text.ensures ∙ one_line insn))

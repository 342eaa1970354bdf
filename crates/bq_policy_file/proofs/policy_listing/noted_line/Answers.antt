use Rattle.std.proofs.Common.{◌≡◌, ◌++◌, ◌^◌, ◌<◌, ap, ◌∙◌, length, arith, true}
use Rattle.std.specs.Prelude.{string_bytes, codes}
use Rattle.std.specs.Fmt.{styled_text, styled_decimal}
use Rattle.std.specs.List.{list_all}
use Rattle.std.proofs.lemmas.Result.{IfOk-weaker}
use Rattle.bq_policy_file.specs.Listed.{is_ascii, noted, noted_line}
use Rattle.bq_policy_file.proofs.NotedLemmas.{body_ascii}
use Rattle.bq_policy_file.proofs.PaddingLemmas.{line_with_comment, number_padded, text_padded}
use Rattle.bq_policy_file.proofs.policy_listing.noted_line.Goals as goal

pub returns : goal.returns
returns c =
    let stated = string_bytes c.in_ok-stated.stated in
    let spelled = string_bytes c.in_ok-spelled.spelled in
    let slot = c.args.slot in
    let insn = c.args.insn in
    let short : length stated < 2 ^ 63 =
    omega (arith, c.in_ok-stated.stated.bytes.ok.0, c.in_ok-stated.stated.bytes.ok.1, c.in_ok-stated.stated.bytes.small) in
    let ascii : list_all is_ascii stated ≡ true =
    ap (list_all is_ascii) c.in_ok-stated.ensures ∙ body_ascii insn (c.requires.whole, c.requires.numbers) in
    let is_noted : noted stated slot spelled ≡ noted_line slot insn =
    λ i. noted (c.in_ok-stated.ensures i) slot (c.in_ok-spelled.ensures i) in
    IfOk-weaker c.format.result (λ text.
    string_bytes text
    ≡ styled_text c.laid_out.result stated
    ++ (codes "; " ++ (styled_decimal c.laid_out-2.result slot ++ (codes "  " ++ (spelled ++ codes "\n")))))
    (λ text. string_bytes text ≡ noted_line slot insn)
    (λ text is.
    is ∙ line_with_comment stated spelled (styled_text c.laid_out.result stated) (styled_decimal c.laid_out-2.result slot)
    slot (ap (λ s. styled_text s stated) c.laid_out.ensures ∙ text_padded stated ascii short)
    (ap (λ s. styled_decimal s slot) c.laid_out-2.ensures ∙ number_padded slot)
    ∙ is_noted) c.format.ensures.ok

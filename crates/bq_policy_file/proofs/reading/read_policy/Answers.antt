use Rattle.std.proofs.Common.{◌≡◌, IfErr, List, ℕ, rules, subst}
use Rattle.bq_policy_file.specs.Files.{IsImageFault, kind_of}
use Rattle.bq_policy_file.specs.HexText.{SpellsBytes}
use Rattle.bq_policy_file.specs.declared.kind.FileKind.TheVariants as kind
use Rattle.bq_policy_file.proofs.HeadLemmas.{hex_fault}
use Rattle.bq_policy_file.proofs.reading.read_policy.Goals as goal

pub returns-in-Some-clause-fault : goal.returns-in-Some-clause-fault
returns-in-Some-clause-fault c =
    let bytes = c.args.bytes.now in
    let given = c.args.given.now in
    let result = c.from_image-in-Some.result in
    let hex : kind_of bytes ≡ kind.Hex = search rules in
    let spells : SpellsBytes bytes c.in-Some.image.items = search rules in
    let is =
    subst (λ (image : List ℕ). IfErr result (IsImageFault image given)) c.as_slice.ensures.value
    c.from_image-in-Some.ensures.fault in
    hex_fault result bytes c.in-Some.image.items given hex spells is

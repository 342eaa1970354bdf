use Rattle.std.proofs.Common.{◌≡◌, rules}
use Rattle.bq_load.specs.Answers.{IsUnloaded}
use Rattle.bq_load.specs.Naming.{load_fault_text}
use Rattle.bq_policy_file.specs.HexText.{SpellsBytes}
use Rattle.bq_policy_file.proofs.CheckLemmas.{refuses_fault}
use Rattle.bq_policy_file.proofs.checking.checked.Goals as goal

pub returns : goal.returns
returns c =
    let spells : SpellsBytes c.args.hex.now c.in-Some.bytes.items = search rules in
    let unloaded : IsUnloaded c.in-Some.bytes.items c.in-Err.fault = search rules in
    let named : c.as_str.result.now ≡ load_fault_text c.in-Err.fault = search rules in
    refuses_fault c.args.hex.now c.in-Some.bytes.items c.as_str.result.now c.in-Err.fault c.refused-in-Err.result spells
    unloaded c.in_ok-reason-in-Err.ensures.other named c.refused-in-Err.ensures.text c.refused-in-Err.ensures.refused

-- What an accepted policy answers, by what is known of its program.
use Rattle.std.proofs.Common.{◌<◌, ◌^◌, length, refl, arith}
use Rattle.bq_bpf.specs.Runs.{start}
use Rattle.bq_interp.proofs.ProgressLemmas.{safe_run}
use Rattle.bq_verify.proofs.VerdictLemmas.{context_small}
use Rattle.bq_interp.proofs.OneRunLemmas.{one_run}
use Rattle.bq_interp.specs.Progress.{setting_of}
use Rattle.bq_installed.specs.Laws.{AnswersOnce, AnswersWithin}

-- an accepted policy answers within its budget, with sixteen calls of counters at most
pub answers_within : AnswersWithin
answers_within policy context maps maps' now processor r0 steps calls asked (k, t, count, chain, ends) =
    let well =
    safe_run policy context now processor (record { shapes = policy.shapes; bytes = maps }) asked.accepted asked.shapes refl
    asked.long asked.bytes asked.now_fits asked.processor_fits k calls t chain in
    (omega (arith, count, well.short), well.few)

-- an accepted policy gives one answer, and leaves the same maps, where the counters answer alike
pub answers_once : AnswersOnce
answers_once policy context maps maps' maps'' now processor r0 r0' steps steps' calls calls' asked one other alike =
    let small : length context < 2 ^ 16 = omega (arith, asked.long, context_small policy.hook policy.version) in
    let same =
    one_run (setting_of policy context now processor) (start maps) steps steps' calls calls' r0
    r0' maps' maps'' small one other alike in
    (same.2, same.3, same.0, same.1)

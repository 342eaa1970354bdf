use Rattle.std.proofs.Common.{sym, ◌∙◌}
use Rattle.std.proofs.lemmas.Slice.Eq.{slice_eq-Decides}
use Rattle.bq_shared.proofs.SameCallLemmas.{call_decides}
use Rattle.bq_shared.proofs.calls.Calls.is_same.Goals as goal

pub returns : goal.returns
returns c =
    let reported = slice_eq-Decides call_decides c.as_slice.result.now c.as_slice-2.result.now c.eq.result c.eq.ensures in
    let mine = c.as_slice.ensures in
    let theirs = c.as_slice-2.ensures in
    ((λ yes. sym mine ∙ (reported.0 yes ∙ theirs)), (λ same. reported.1 (mine ∙ (same ∙ sym theirs))))

use Rattle.std.proofs.Common.{◌≡◌, ◌∙◌, ap, sym, subst, List, ℕ, ◌++◌, Some, Err}
use Rattle.bq_load.specs.Feeding.{Fed, Holds}
use Rattle.bq_load.proofs.LawLemmas.{one_fault}
use Rattle.bq_load.proofs.ReaderLemmas.{failed_goes_on, failed_exact, not_failed_holds}
use Rattle.bq_load.proofs.reader.ImageReader.feed.Goals as goal

pub returns-in-Some-clause-failed : goal.returns-in-Some-clause-failed
returns-in-Some-clause-failed c = λ _.
    let e : c.args.self.now.failed ≡ Some c.in-Some.fault = sym (ap (λ (x : Fed). x.failed) c.self.view_is) ∙ c.in-Some.is in
    (e, failed_goes_on c.args.self.now c.args.piece.now c.in-Some.fault e)

pub returns-in-Some-clause-exact : goal.returns-in-Some-clause-exact
returns-in-Some-clause-exact c = λ bytes g h fits d.
    let e : c.args.self.now.failed ≡ Some c.in-Some.fault = sym (ap (λ (x : Fed). x.failed) c.self.view_is) ∙ c.in-Some.is in
    ap (λ f. Err f) (failed_exact c.args.self.now c.args.piece.now c.in-Some.fault e bytes g h fits d)

pub returns-in-Err-clause-exact : goal.returns-in-Err-clause-exact
returns-in-Err-clause-exact c = λ bytes g h fits d.
    let held =
    not_failed_holds c.args.self.now c.self.inside.bytes.items c.self.inside.past c.self.inside.failed bytes
    c.self.view_is c.in_default.not-Some h in
    let seen : Holds c.as_slice.result.now c.self.inside.past bytes =
    subst (λ (x : List ℕ). Holds x c.self.inside.past bytes) (sym c.as_slice.ensures.value) held in
    ap (λ f. Err f) (one_fault (bytes ++ c.args.piece.now) c.in-Err.fault g fits (c.in-Err.ensures.failed bytes seen).1 d.1)

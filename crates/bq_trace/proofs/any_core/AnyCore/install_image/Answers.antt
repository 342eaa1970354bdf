use Rattle.std.proofs.Common.{◌≡◌, ◌≢◌, rules, sym, subst, ap, ◌∙◌, Ok, Err, refl, inl, inr}
use Rattle.std.proofs.lemmas.Result.{on_ok_weaker}
use Rattle.hex.specs.Hex.{decode_of}
use Rattle.bq_load.specs.Answers.{Loads, IsUnloaded}
use Rattle.bq_load.specs.declared.fault.LoadFault.TheVariants as fault
use Rattle.bq_trace.proofs.TakingLemmas.{gets_along}
use Rattle.bq_trace.proofs.any_core.AnyCore.install_image.Goals as goal

pub returns-in-Err : goal.returns-in-Err
returns-in-Err g c =
    let error = c.in-Err.field-0 in
    let refused : decode_of c.as_bytes.result.now ≡ Err error = search rules in
    let spelled : decode_of c.args.installation.image ≡ Err error = ap decode_of (sym c.as_bytes.ensures) ∙ refused in
    on_ok_weaker c.report.result (gets_along g.S.Sink.takes _ _ _ _ (λ reported h. inl (error, spelled, h, refl))) c.report.ensures

pub returns : goal.returns
returns g c =
    let why = c.in-Err-load.fault in
    let bytes = c.in-Ok.bytes.items in
    let apart : why ≢ fault.OutOfMemory = search rules in
    let spelled : decode_of c.args.installation.image ≡ Ok bytes = ap decode_of (sym c.as_bytes.ensures) ∙ c.in-Ok.ensures.ok in
    let unloaded = subst (λ xs. IsUnloaded xs why) c.as_slice.ensures.value c.in-Err-load.ensures.unloaded in
    on_ok_weaker c.report-in-Err-load.result
    (gets_along g.S.Sink.takes _ _ _ _ (λ reported h. inr (inl (bytes, why, spelled, unloaded, apart, h, refl))))
    c.report-in-Err-load.ensures

pub returns-in-Ok-load : goal.returns-in-Ok-load
returns-in-Ok-load g c =
    let done = c.in_ok-perform-in-Ok-load.ensures in
    let bytes = c.in-Ok.bytes.items in
    let spelled : decode_of c.args.installation.image ≡ Ok bytes = ap decode_of (sym c.as_bytes.ensures) ∙ c.in-Ok.ensures.ok in
    let loads =
    subst (Loads bytes) (sym c.in_ok-new-in-Ok-load.ensures)
    (subst (λ xs. Loads xs c.in-Ok-load.program) c.as_slice.ensures.value c.in-Ok-load.ensures.loaded) in
    gets_along g.S.Sink.takes _ _ _ _ (λ reported h. inr (inr (bytes, _, done.0, spelled, loads, h))) done.2

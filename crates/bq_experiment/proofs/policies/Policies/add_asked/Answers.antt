-- What was read is taken, as its image says it.
use Rattle.std.proofs.Common.{◌≡◌, ℕ, List, None, Some, refl, rules, subst}
use Rattle.std.proofs.lemmas.Result.{err_from_is_err_and, on_ok_weaker}
use Rattle.std.specs.Borrow.{Bor}
use Rattle.bq_simulate.specs.Replays.{IsLoadedFromImage}
use Rattle.bq_policy_file.specs.Files.{IsPolicy, IsPolicyFault}
use Rattle.bq_experiment.specs.PoliciesAndImages.{image_for}
use Rattle.bq_experiment.specs.Taking.{IsFaultOfImage}
use Rattle.bq_experiment.proofs.PolicyImageLemmas.{found_is_there, not_found}
use Rattle.bq_experiment.proofs.TakingLemmas.{image_reported, memory_reported, none_reported}
use Rattle.bq_experiment.proofs.policies.Policies.add_asked.Goals as goal

pub returns-in-Err-clause-reported : goal.returns-in-Err-clause-reported
returns-in-Err-clause-reported c =
    none_reported (IsPolicy c.args.file.now c.args.asked.now) (IsPolicyFault c.args.file.now c.args.asked.now) c.args.self.now
    c.in-Err.fault c.reported.result c.in-Err.ensures.fault c.reported.ensures

pub returns-then-is_some-clause-reported : goal.returns-then-is_some-clause-reported
returns-then-is_some-clause-reported c = (
  c.in-Ok.read,
  c.in-Ok.ensures.policy,
  found_is_there (λ (b : Bor (List ℕ)). b.now) c.image_at.result _ c.image_at.ensures (search rules),
)

pub keep-requires-clause-of : goal.keep-requires-clause-of
keep-requires-clause-of c =
    subst (λ (b : List ℕ). IsLoadedFromImage (Some b) c.in_ok-policy.policy) c.as_slice.ensures.value
    c.in_ok-policy.ensures.of

pub returns-clause-taken : goal.returns-clause-taken
returns-clause-taken c =
    let read = c.in-Ok.read in
    let free : image_for c.args.self.now.images read.form.hook ≡ None =
    not_found (λ (b : Bor (List ℕ)). b.now) c.image_at.result _ c.image_at.ensures (search rules) in
    on_ok_weaker c.keep.result
    (λ adds. (
      read.form.hook,
      record {
        read = read;
        reads = c.in-Ok.ensures.policy;
        hook_is = refl;
        free = free;
        image = c.in_ok-image.image.items;
        spells = c.in_ok-image.ensures;
        policy = c.in_ok-policy.policy;
        of = subst (λ (b : List ℕ). IsLoadedFromImage (Some b) c.in_ok-policy.policy) c.as_slice.ensures.value c.in_ok-policy.ensures.of;
        adds = adds;
      },
    ))
    c.keep.ensures.adds

pub returns-in_err-policy-clause-reported : goal.returns-in_err-policy-clause-reported
returns-in_err-policy-clause-reported c =
    let p = err_from_is_err_and c.from_residual-in_err-policy.result c.from_residual-in_err-policy.ensures.1 in
    let unloaded =
    subst (λ (b : List ℕ). IsFaultOfImage b c.in_err-policy.field-0.0) c.as_slice.ensures.value
    c.in_err-policy.ensures.reported in
    rw (p.1, p.2) (image_reported (IsPolicy c.args.file.now c.args.asked.now) (IsPolicyFault c.args.file.now c.args.asked.now)
    c.args.self.now c.in-Ok.read c.in_ok-image.image.items c.in_err-policy.field-0.0 c.in-Ok.ensures.policy
    c.in_ok-image.ensures unloaded)

pub returns-clause-reported : goal.returns-clause-reported
returns-clause-reported c =
    memory_reported (IsPolicy c.args.file.now c.args.asked.now) (IsPolicyFault c.args.file.now c.args.asked.now)
    c.args.self.now c.keep.result c.keep.ensures.other

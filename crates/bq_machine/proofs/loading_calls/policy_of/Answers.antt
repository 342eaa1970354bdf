use Rattle.std.proofs.Common.{◌≡◌, rules, true, false, Some, refl, inl, inr}
use Rattle.std.specs.Option.{option_map}
use Rattle.bq_parts.specs.Refusals.{is_for}
use Rattle.bq_machine.specs.Loading.{IsPolicyOfImage}
use Rattle.bq_machine.proofs.loading_calls.policy_of.Goals as goal

pub returns-then-ne-clause-refused : goal.returns-then-ne-clause-refused
returns-then-ne-clause-refused c =
    let loaded : IsPolicyOfImage (option_map (λ b. b.now) c.args.image) (Some c.in-Ok.verified) = rw c.in-Some.is c.in-Ok.ensures.loaded in
    let other : is_for c.args.hook (Some c.in-Ok.verified) ≡ false = search rules in
    (Some c.in-Ok.verified, loaded, inl (other, refl))

pub returns-in-Err-new-clause-refused : goal.returns-in-Err-new-clause-refused
returns-in-Err-new-clause-refused c =
    let loaded : IsPolicyOfImage (option_map (λ b. b.now) c.args.image) (Some c.in-Ok.verified) = rw c.in-Some.is c.in-Ok.ensures.loaded in
    let same : is_for c.args.hook (Some c.in-Ok.verified) ≡ true = search rules in
    (Some c.in-Ok.verified, loaded, inr (same, refl))

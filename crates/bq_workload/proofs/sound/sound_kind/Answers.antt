use Rattle.std.proofs.Common.{◌≡◌, ◌++◌, true, not, Bool, List, slice_get, sym, ap, ◌∙◌}
use Rattle.bq_workload.specs.declared.action.Action.{Action}
use Rattle.bq_workload.specs.declared.sound.Unsound.{Unsound}
use Rattle.bq_workload.specs.declared.sound.Unsound.TheVariants.{Kind, Mask, Name}
use Rattle.bq_workload.specs.Soundness.{allows_one, flaws_of_doing, has_name, has_numbers, unless}
use Rattle.bq_workload.proofs.MaskLemmas.{allowed-where-found}
use Rattle.bq_workload.proofs.sound.sound_kind.Goals as goal

pub returns : goal.returns
returns c =
    let kind = c.args.kind.now in
    let number = c.args.number in
    let allowed = allows_one c.args.processors kind.mask in
    let doing : List Action → List Unsound = flaws_of_doing c.args.kinds number in
    let rest = doing kind.actions.items in
    let name : has_name kind ≡ true = sym c.has_name.ensures ∙ c.if-not-has_name.false in
    let numbers : has_numbers kind ≡ true = sym c.has_numbers.ensures ∙ c.if-not-has_numbers.false in
    let mask : allowed ≡ true =
    allowed-where-found c.args.processors kind.mask c.first_of_mask.result (c.is_none.ensures ∙ ap not c.if-is_none.false)
    c.first_of_mask.ensures.some in
    let flaws =
    ap (λ (b : Bool). unless b (Name number) ++ unless (has_numbers kind) (Kind number) ++ unless allowed (Mask number) ++ rest) name
    ∙ ap (λ (b : Bool). unless b (Kind number) ++ unless allowed (Mask number) ++ rest) numbers
    ∙ ap (λ (b : Bool). unless b (Mask number) ++ rest) mask in
    c.sound_actions.ensures ∙ ap (λ (l : List Action). slice_get (doing l) 0) c.deref.ensures.value
    ∙ ap (λ (l : List Unsound). slice_get l 0) (sym flaws)

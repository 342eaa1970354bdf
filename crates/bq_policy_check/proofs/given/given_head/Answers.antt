use Rattle.std.proofs.Common.{◌≡◌, ℕ, List, Some}
use Rattle.std.proofs.lemmas.Result.{err_from_is_err_and}
use Rattle.bq_policy_file.specs.Heads.{NamesMapShapes}
use Rattle.bq_policy_file.specs.declared.head.Head.{Head}
use Rattle.bq_hooks.specs.Hooks.{hook_of, version_of}
use Rattle.bq_hooks.specs.declared.hook.Hook.{Hook}
use Rattle.bq_hooks.specs.declared.hook.Version.{Version}
use Rattle.bq_policy_check.specs.Given.{GivesHead, option_bytes}
use Rattle.bq_console.specs.Words.{GivesWord}
use Rattle.bq_console.proofs.GivenLemmas.{none_whole}
use Rattle.bq_policy_check.proofs.given.given_head.Goals as goal

pub returns-in_err-hook-clause-none : goal.returns-in_err-hook-clause-none
returns-in_err-hook-clause-none c =
    let error = err_from_is_err_and c.from_residual.result c.from_residual.ensures.1 in
    rw (error.1, error.2) (none_whole
    (GivesWord (λ (bytes : List ℕ) (hook : Hook). hook_of bytes ≡ Some hook) (option_bytes c.args.words.now.hook))
    (GivesHead c.args.words.now) (λ (h : Head). h.hook) c.in_err-hook.field-0.0 (λ h gives. gives.hook)
    c.in_err-hook.ensures.none)

pub returns-in_err-maps-clause-none : goal.returns-in_err-maps-clause-none
returns-in_err-maps-clause-none c =
    let error = err_from_is_err_and c.from_residual-in_err-maps.result c.from_residual-in_err-maps.ensures.1 in
    rw (error.1, error.2) (none_whole (GivesWord NamesMapShapes (option_bytes c.args.words.now.maps))
    (GivesHead c.args.words.now) (λ (h : Head). h.maps) c.in_err-maps.field-0.0 (λ h gives. gives.maps)
    c.in_err-maps.ensures.none)

pub returns-in_err-format-clause-none : goal.returns-in_err-format-clause-none
returns-in_err-format-clause-none c =
    let error = err_from_is_err_and c.from_residual-in_err-format.result c.from_residual-in_err-format.ensures.1 in
    rw (error.1, error.2) (none_whole
    (GivesWord (λ (bytes : List ℕ) (version : Version). version_of bytes ≡ Some version) (option_bytes c.args.words.now.format))
    (GivesHead c.args.words.now) (λ (h : Head). h.format) c.in_err-format.field-0.0 (λ h gives. gives.format)
    c.in_err-format.ensures.none)

use Rattle.std.proofs.Common.{◌≡◌, ℕ, List, length, get_or, String, string_bytes, subst, ap, ◌∙◌}
use Rattle.std.specs.declared.alloc.Global.{Global}
use Rattle.std.proofs.lemmas.Result.{err_from_is_err_and}
use Rattle.bq_policy_run.specs.Naming.{SetsFields}
use Rattle.bq_policy_run.proofs.InTurnLemmas.{turn_more}
use Rattle.bq_policy_run.proofs.RefusalLemmas.{fields_seen, text_refused}
use Rattle.bq_policy_run.proofs.inputs.Inputs.set_all_fields.Goals as goal

pub loop-text-preserved : goal.loop-text-preserved
loop-text-preserved c =
    let hook = c.args.hook in
    let version = c.args.version in
    let texts = c.args.texts.now in
    let i = c.loop-text.text-index in
    let item = c.text-item.result in
    let now = c.loop-text.self.context.items in
    let next = c.set_fields.new.self.context.items in
    let bytes : c.as_str.result.now ≡ string_bytes (get_or texts i item) =
    c.as_str.ensures.value ∙ ap (λ (t : String Global). string_bytes t) c.text-item.is in
    let made : SetsFields hook version (string_bytes (get_or texts i item)) now next =
    subst (λ (b : List ℕ). SetsFields hook version b now next) bytes c.in_ok-set_fields.ensures.context in
    record {
      made =
          turn_more (λ (t : String Global). SetsFields hook version (string_bytes t)) texts i item
          c.args.self.now.context.items now next c.loop-text-test.true made c.loop-text.invariant.made;
      env = c.set_fields.ensures.others.env ∙ c.loop-text.invariant.env;
      size = (fields_seen hook version).keeps c.as_str.result.now now next c.in_ok-set_fields.ensures.context ∙ c.loop-text.invariant.size;
      maps = c.set_fields.ensures.others.maps ∙ c.loop-text.invariant.maps;
      board = c.set_fields.ensures.others.board ∙ c.loop-text.invariant.board;
    }

pub returns-in_err-set_fields-clause-refused : goal.returns-in_err-set_fields-clause-refused
returns-in_err-set_fields-clause-refused c =
    let error = err_from_is_err_and c.from_residual.result c.from_residual.ensures.1 in
    rw (error.1, error.2) (text_refused (SetsFields c.args.hook c.args.version) (λ (context : List ℕ). length context)
    (fields_seen c.args.hook c.args.version) c.args.texts.now c.loop-text.text-index c.text-item.result c.as_str.result.now
    c.args.self.now.context.items c.loop-text.self.context.items c.in_err-set_fields.field-0.0 c.loop-text-test.true
    c.text-item.is c.as_str.ensures.value c.loop-text.invariant.size c.in_err-set_fields.ensures.refused)

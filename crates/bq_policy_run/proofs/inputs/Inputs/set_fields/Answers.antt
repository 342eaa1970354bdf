use Rattle.std.proofs.Common.{ℕ, ◌+◌, ◌≤◌, List, [], ◌∷◌, length, get_or, sym, subst, ◌∙◌, length-append, arith}
use Rattle.std.proofs.lemmas.Iterator.Splits.{YieldsList-from_str_split}
use Rattle.std.proofs.lemmas.Iterator.Consumers.{YieldsList-turn, YieldsList-end}
use Rattle.std.proofs.lemmas.Result.{err_from_is_err_and}
use Rattle.bq_words.specs.Words.{parts}
use Rattle.bq_console.specs.Words.{GivesNone}
use Rattle.bq_policy_run.specs.Naming.{SetsField}
use Rattle.bq_policy_run.proofs.InTurnLemmas.{LeadsOn, turn_more, turn_all, turn_refused}
use Rattle.bq_policy_run.proofs.RefusalLemmas.{field_seen}
use Rattle.bq_policy_run.proofs.inputs.Inputs.set_fields.Goals as goal

pub loop-part-preserved : goal.loop-part-preserved
loop-part-preserved c =
    let step = SetsField c.args.hook c.args.version in
    let yielded = c.loop-part.yielded in
    let first = c.args.self.now.context.items in
    let now = c.loop-part.self.context.items in
    let next = c.set_field.new.self.context.items in
    let words = parts 44 c.args.text.now in
    let turn =
    YieldsList-turn (YieldsList-from_str_split 44 c.args.text.now (omega arith) (cc) (cc) (cc)) yielded _
    c.loop-part.yielded_by _ _ c.in-Some.part c.in-Some.is c.next.ensures.steps in
    let made : step (get_or words (length yielded) c.in-Some.part.now) now next =
    subst (λ (part : List ℕ). step part now next) turn.1 c.in_ok-set_field.ensures.context in
    let more : LeadsOn step words (length yielded + 1) first next =
    turn_more step words (length yielded) c.in-Some.part.now first now next turn.0 made c.loop-part.invariant.made in
    record {
      made = subst (λ (k : ℕ). LeadsOn step words k first next) (sym (length-append yielded (c.in-Some.part ∷ []))) more;
      size = (field_seen c.args.hook c.args.version).keeps _ _ _ c.in_ok-set_field.ensures.context ∙ c.loop-part.invariant.size;
      maps = c.set_field.ensures.others.maps ∙ c.loop-part.invariant.maps;
      env = c.set_field.ensures.others.env ∙ c.loop-part.invariant.env;
      board = c.set_field.ensures.others.board ∙ c.loop-part.invariant.board;
    }

pub returns-clause-context : goal.returns-clause-context
returns-clause-context c =
    let step = SetsField c.args.hook c.args.version in
    let yielded = c.loop-part.yielded in
    let words = parts 44 c.args.text.now in
    let end =
    YieldsList-end (YieldsList-from_str_split 44 c.args.text.now (omega arith) (cc) (cc) (cc)) yielded _
    c.loop-part.yielded_by _ _ c.in-None.is c.next.ensures.steps in
    let all : length words ≤ length yielded = omega (arith, end.1) in
    turn_all step words (length yielded) c.args.self.now.context.items c.loop-part.self.context.items all c.loop-part.invariant.made

pub returns-in_err-set_field-clause-refused : goal.returns-in_err-set_field-clause-refused
returns-in_err-set_field-clause-refused c =
    let step = SetsField c.args.hook c.args.version in
    let yielded = c.loop-part.yielded in
    let first = c.args.self.now.context.items in
    let now = c.loop-part.self.context.items in
    let fault = c.in_err-set_field.field-0.0 in
    let words = parts 44 c.args.text.now in
    let turn =
    YieldsList-turn (YieldsList-from_str_split 44 c.args.text.now (omega arith) (cc) (cc) (cc)) yielded _
    c.loop-part.yielded_by _ _ c.in-Some.part c.in-Some.is c.next.ensures.steps in
    let none : GivesNone (step (get_or words (length yielded) c.in-Some.part.now) now) fault =
    subst (λ (part : List ℕ). GivesNone (step part now) fault) turn.1 c.in_err-set_field.ensures.refused in
    let error = err_from_is_err_and c.from_residual.result c.from_residual.ensures.1 in
    rw (error.1, error.2) (turn_refused step (λ (context : List ℕ). length context) (field_seen c.args.hook c.args.version)
    words (length yielded) c.in-Some.part.now first now fault turn.0 c.loop-part.invariant.size none)

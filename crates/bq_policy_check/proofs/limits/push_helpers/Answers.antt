use Rattle.std.proofs.Common.{◌≡◌, ℕ, ℤ, rules, FitsSigned, w32, ◌≤◌, List, [], ◌∷◌, ◌++◌, length, get_or, sym, subst, ap, ◌∙◌, to_z-of_z, length-append, arith}
use Rattle.std.proofs.lemmas.Iterator.Splits.{YieldsList-from_str_split}
use Rattle.std.proofs.lemmas.Iterator.Consumers.{YieldsList-turn, YieldsList-end}
use Rattle.bq_words.specs.Words.{parts}
use Rattle.bq_policy_check.specs.Limiting.{IsHelperWord}
use Rattle.bq_policy_check.proofs.ListLemmas.{ReadsOn, read_more, read_all, one_none}
use Rattle.bq_policy_check.proofs.limits.push_helpers.Goals as goal

pub loop-part-preserved : goal.loop-part-preserved
loop-part-preserved c =
    let words = parts 44 c.args.text.now in
    let yielded = c.loop-part.yielded in
    let turn =
    YieldsList-turn (YieldsList-from_str_split 44 c.args.text.now (omega arith) (cc) (cc) (cc)) yielded _
    c.loop-part.yielded_by _ _ c.in-Some.part c.in-Some.is c.next.ensures.steps in
    let read : IsHelperWord c.in-Some.part.now c.in-Some-helper.helper = search rules in
    let fits : FitsSigned w32 c.in-Some-helper.helper = search rules in
    let is : IsHelperWord (get_or words (length yielded) c.in-Some.part.now) c.in-Some-helper.helper =
    subst (λ (part : List ℕ). IsHelperWord part c.in-Some-helper.helper) turn.1 read in
    let pushed = c.in_ok-push-in-Some-helper.ensures.items ∙ ap (λ (z : ℤ). c.loop-part.helpers.items ++ z ∷ []) (to_z-of_z fits) in
    let more =
    read_more IsHelperWord words (length yielded) c.in-Some.part.now c.loop-part.helpers.items c.push.new.self.items
    c.in-Some-helper.helper turn.0 is pushed c.loop-part.invariant in
    subst (λ (k : ℕ). ReadsOn IsHelperWord words k c.push.new.self.items) (sym (length-append yielded (c.in-Some.part ∷ []))) more

pub returns-in-None-helper : goal.returns-in-None-helper
returns-in-None-helper c =
    let words = parts 44 c.args.text.now in
    let yielded = c.loop-part.yielded in
    let turn =
    YieldsList-turn (YieldsList-from_str_split 44 c.args.text.now (omega arith) (cc) (cc) (cc)) yielded _
    c.loop-part.yielded_by _ _ c.in-Some.part c.in-Some.is c.next.ensures.steps in
    let bytes : c.as_bytes.result.now ≡ c.in-Some.part.now = search rules in
    let none : (helper : ℤ) → ¬ IsHelperWord c.as_bytes.result.now helper = c.in-None-helper.ensures.none in
    one_none IsHelperWord words (length yielded) c.in-Some.part.now turn.0
    (λ helper h. none helper (subst (λ (part : List ℕ). IsHelperWord part helper) (sym (bytes ∙ turn.1)) h))

pub returns : goal.returns
returns c =
    let words = parts 44 c.args.text.now in
    let yielded = c.loop-part.yielded in
    let end =
    YieldsList-end (YieldsList-from_str_split 44 c.args.text.now (omega arith) (cc) (cc) (cc)) yielded _
    c.loop-part.yielded_by _ _ c.in-None.is c.next.ensures.steps in
    let all : length words ≤ length yielded = omega (arith, end.1) in
    read_all IsHelperWord words (length yielded) c.loop-part.helpers.items all c.loop-part.invariant

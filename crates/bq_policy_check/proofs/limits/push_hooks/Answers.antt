use Rattle.std.proofs.Common.{◌≡◌, ℕ, None, rules, ◌≤◌, List, [], ◌∷◌, length, get_or, sym, subst, ◌∙◌, length-append, arith}
use Rattle.std.proofs.lemmas.Iterator.Splits.{YieldsList-from_str_split}
use Rattle.std.proofs.lemmas.Iterator.Consumers.{YieldsList-turn, YieldsList-end}
use Rattle.std.proofs.lemmas.Option.{none-some}
use Rattle.bq_words.specs.Words.{parts}
use Rattle.bq_hooks.specs.Hooks.{hook_of}
use Rattle.bq_policy_check.specs.Limiting.{IsHook}
use Rattle.bq_policy_check.proofs.ListLemmas.{ReadsOn, read_more, read_all, one_none}
use Rattle.bq_policy_check.proofs.limits.push_hooks.Goals as goal

pub loop-part-preserved : goal.loop-part-preserved
loop-part-preserved c =
    let words = parts 44 c.args.text.now in
    let yielded = c.loop-part.yielded in
    let turn =
    YieldsList-turn (YieldsList-from_str_split 44 c.args.text.now (omega arith) (cc) (cc) (cc)) yielded _
    c.loop-part.yielded_by _ _ c.in-Some.part c.in-Some.is c.next.ensures.steps in
    let read : IsHook c.in-Some.part.now c.in-Some-of_word.hook = search rules in
    let is : IsHook (get_or words (length yielded) c.in-Some.part.now) c.in-Some-of_word.hook =
    subst (λ (part : List ℕ). IsHook part c.in-Some-of_word.hook) turn.1 read in
    let more =
    read_more IsHook words (length yielded) c.in-Some.part.now c.loop-part.hooks.items c.push.new.self.items
    c.in-Some-of_word.hook turn.0 is c.in_ok-push-in-Some-of_word.ensures.items c.loop-part.invariant in
    subst (λ (k : ℕ). ReadsOn IsHook words k c.push.new.self.items) (sym (length-append yielded (c.in-Some.part ∷ []))) more

pub returns-in-None-of_word : goal.returns-in-None-of_word
returns-in-None-of_word c =
    let words = parts 44 c.args.text.now in
    let yielded = c.loop-part.yielded in
    let turn =
    YieldsList-turn (YieldsList-from_str_split 44 c.args.text.now (omega arith) (cc) (cc) (cc)) yielded _
    c.loop-part.yielded_by _ _ c.in-Some.part c.in-Some.is c.next.ensures.steps in
    let none : hook_of c.in-Some.part.now ≡ None = search rules in
    one_none IsHook words (length yielded) c.in-Some.part.now turn.0
    (λ hook h. none-some hook (sym none ∙ subst (λ (part : List ℕ). IsHook part hook) (sym turn.1) h))

pub returns : goal.returns
returns c =
    let words = parts 44 c.args.text.now in
    let yielded = c.loop-part.yielded in
    let end =
    YieldsList-end (YieldsList-from_str_split 44 c.args.text.now (omega arith) (cc) (cc) (cc)) yielded _
    c.loop-part.yielded_by _ _ c.in-None.is c.next.ensures.steps in
    let all : length words ≤ length yielded = omega (arith, end.1) in
    read_all IsHook words (length yielded) c.loop-part.hooks.items all c.loop-part.invariant

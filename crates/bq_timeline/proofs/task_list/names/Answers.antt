use Rattle.std.proofs.Common.{◌≡◌, ◌∷◌, ◌++◌, [], ℕ, ◌+◌, ◌∙◌, ap, sym, subst, arith, length, length-append, List, map, string_bytes, true, false, ◌≤◌, String, Global, take}
use Rattle.std.specs.List.{filter, slice_split}
use Rattle.std.proofs.lemmas.List.{map_push}
use Rattle.std.proofs.lemmas.Iterator.Splits.{YieldsList-from_str_split}
use Rattle.std.proofs.lemmas.Iterator.Consumers.{YieldsList-turn, YieldsList-end}
use Rattle.bq_words.specs.ProcessorSets.{is_comma}
use Rattle.bq_timeline.specs.Settings.{is_name}
use Rattle.bq_timeline.proofs.NameLemmas.{names_all, names_off, names_on}
use Rattle.bq_timeline.proofs.task_list.names.Goals as goal

pub loop-part-preserved-in_ok-push : goal.loop-part-preserved-in_ok-push
loop-part-preserved-in_ok-push c =
    let parts = slice_split is_comma c.args.word.now in
    let yielded = c.loop-part.yielded in
    let turn =
    YieldsList-turn (YieldsList-from_str_split 44 c.args.word.now (omega arith) (cc) (cc) (cc)) yielded _
    c.loop-part.yielded_by _ _ c.in-Some.part c.in-Some.is c.next.ensures.steps in
    let old = map string_bytes c.loop-part.names.items in
    let name : is_name c.in-Some.part.now ≡ true =
    ap (λ (p : List ℕ). is_name p) (sym c.as_bytes.ensures.value) ∙ sym c.is_name.ensures ∙ c.if-is_name.true in
    let pushed : map string_bytes c.push.new.self.items ≡ old ++ c.in-Some.part.now ∷ [] =
    ap (λ (l : List (String Global)). map string_bytes l) c.in_ok-push.ensures.items
    ∙ map_push string_bytes c.loop-part.names.items c.in_ok-from_str.field-0
    ∙ ap (λ (n : List ℕ). old ++ n ∷ []) c.in_ok-from_str.ensures.ok in
    let on =
    names_on parts old (map string_bytes c.push.new.self.items) (length yielded) c.in-Some.part.now turn.0
    turn.1 name c.loop-part.invariant pushed in
    subst (λ (k : ℕ). map string_bytes c.push.new.self.items ≡ filter is_name (take k parts))
    (sym (length-append yielded (c.in-Some.part ∷ []))) on

pub loop-part-preserved : goal.loop-part-preserved
loop-part-preserved c =
    let parts = slice_split is_comma c.args.word.now in
    let yielded = c.loop-part.yielded in
    let turn =
    YieldsList-turn (YieldsList-from_str_split 44 c.args.word.now (omega arith) (cc) (cc) (cc)) yielded _
    c.loop-part.yielded_by _ _ c.in-Some.part c.in-Some.is c.next.ensures.steps in
    let old = map string_bytes c.loop-part.names.items in
    let other : is_name c.in-Some.part.now ≡ false =
    ap (λ (p : List ℕ). is_name p) (sym c.as_bytes.ensures.value) ∙ sym c.is_name.ensures ∙ c.if-is_name.false in
    let off = names_off parts old (length yielded) c.in-Some.part.now turn.0 turn.1 other c.loop-part.invariant in
    subst (λ (k : ℕ). old ≡ filter is_name (take k parts)) (sym (length-append yielded (c.in-Some.part ∷ []))) off

pub returns : goal.returns
returns c =
    let parts = slice_split is_comma c.args.word.now in
    let yielded = c.loop-part.yielded in
    let end =
    YieldsList-end (YieldsList-from_str_split 44 c.args.word.now (omega arith) (cc) (cc) (cc)) yielded _
    c.loop-part.yielded_by _ _ c.in-None.is c.next.ensures.steps in
    let all : length parts ≤ length yielded = omega (arith, end.1) in
    c.loop-part.invariant ∙ names_all parts (length yielded) all

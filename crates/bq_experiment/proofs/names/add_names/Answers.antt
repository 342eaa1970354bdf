-- One more task has its name.
use Rattle.std.proofs.Common.{◌≡◌, ◌++◌, ◌∷◌, ℕ, [], List, String, Global, map, sym, ap, ◌∙◌, append_assoc, arith, string_bytes}
use Rattle.std.specs.List.{range_with_len}
use Rattle.std.proofs.lemmas.List.{map_push}
use Rattle.std.proofs.lemmas.List.FromFn.{map-range_with_len_more}
use Rattle.bq_experiment.specs.Names.{name_of_task}
use Rattle.bq_experiment.proofs.names.add_names.Goals as goal

pub numbers-preserved : goal.numbers-preserved
numbers-preserved c =
    let name = name_of_task c.args.kind.now in
    let number = c.numbers.number in
    let before = map string_bytes c.args.names.now.items in
    let pushed : map string_bytes c.push.new.self.items
    ≡ map string_bytes (c.numbers.names.items ++ c.in_ok-task_name.field-0 ∷ []) =
    ap (λ (l : List (String Global)). map string_bytes l) c.in_ok-push.ensures.items in
    let reported : map string_bytes c.push.new.self.items
    ≡ (before ++ map name (range_with_len 0 number)) ++ name number ∷ [] =
    pushed ∙ map_push string_bytes c.numbers.names.items c.in_ok-task_name.field-0
    ∙ ap (λ (l : List (List ℕ)). l ++ string_bytes c.in_ok-task_name.field-0 ∷ []) c.numbers.invariant
    ∙ ap (λ (n : List ℕ). (before ++ map name (range_with_len 0 number)) ++ n ∷ []) c.in_ok-task_name.ensures in
    reported ∙ append_assoc before (map name (range_with_len 0 number)) (name number ∷ [])
    ∙ ap (λ (l : List (List ℕ)). before ++ l) (sym (map-range_with_len_more name 0 number number (omega arith)))

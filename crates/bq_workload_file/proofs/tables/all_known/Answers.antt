-- A key that is one of the words is passed over; an unknown one is the first.
use Rattle.std.proofs.Common.{◌≡◌, ℕ, List, Bor, Bool, Option, Some, true, false, cond, ◌∷◌, map, sym, ap, ◌∙◌, option_map, string_bytes, arith}
use Rattle.std.proofs.lemmas.Grind.{common_steps}
use Rattle.toml.specs.View.{members_view}
use Rattle.toml.proofs.Views.{Entry}
use Rattle.bq_workload_file.specs.Keys.{first_unknown, is_one_of}
use Rattle.bq_workload_file.proofs.KeyLemmas.{is_one_of-lent}
use Rattle.bq_workload_file.proofs.tables.all_known.Goals as goal

pub keys-preserved : goal.keys-preserved
keys-preserved c =
    let (can, finite, same) = c.keys.invariant in
    let words : List (List ℕ) = map (λ (word : Bor (List ℕ)). word.now) c.args.known.now in
    let e : Entry = (c.in-Some.key.now, c.in-Some._value.now) in
    let iter : c.keys.key-iterator ≡ e ∷ c.next.new.self = grind (arith, common_steps) in
    let known : is_one_of words (string_bytes c.in-Some.key.now) ≡ true =
    ap (is_one_of words) (sym c.as_str.ensures.value) ∙ sym (is_one_of-lent c.args.known.now c.as_str.result.now)
    ∙ sym c.is_word.ensures ∙ c.if-not-is_word.false in
    let passed : first_unknown words (members_view (e ∷ c.next.new.self)) ≡ first_unknown words (members_view c.next.new.self) =
    ap (λ (b : Bool). cond b (first_unknown words (members_view c.next.new.self)) (Some (string_bytes c.in-Some.key.now))) known in
    (tt, tt, sym passed ∙ ap (λ (l : List Entry). first_unknown words (members_view l)) (sym iter) ∙ same)

pub returns-then-not-is_word : goal.returns-then-not-is_word
returns-then-not-is_word c =
    let (can, finite, same) = c.keys.invariant in
    let words : List (List ℕ) = map (λ (word : Bor (List ℕ)). word.now) c.args.known.now in
    let e : Entry = (c.in-Some.key.now, c.in-Some._value.now) in
    let iter : c.keys.key-iterator ≡ e ∷ c.next.new.self = grind (arith, common_steps) in
    let key = string_bytes c.in-Some.key.now in
    let unknown : is_one_of words key ≡ false =
    ap (is_one_of words) (sym c.as_str.ensures.value) ∙ sym (is_one_of-lent c.args.known.now c.as_str.result.now)
    ∙ sym c.is_word.ensures ∙ c.if-not-is_word.true in
    let found : first_unknown words (members_view (e ∷ c.next.new.self)) ≡ Some key =
    ap (λ (b : Bool). cond b (first_unknown words (members_view c.next.new.self)) (Some key)) unknown in
    let whole : Some key ≡ first_unknown words (members_view c.args.table.now.entries) =
    sym found ∙ ap (λ (l : List Entry). first_unknown words (members_view l)) (sym iter) ∙ same in
    let reported : Some (Some c.as_str-then-not-is_word.result.now) ≡ Some (Some key) =
    ap (λ (k : List ℕ). Some (Some k)) c.as_str-then-not-is_word.ensures.value in
    reported ∙ ap (λ (o : Option (List ℕ)). option_map (λ (k : List ℕ). Some k) o) whole

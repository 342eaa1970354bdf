use Rattle.std.proofs.Common.{◌≡◌, ◌<◌, ◌∙◌, true, false, length, sym, arith}
use Rattle.std.proofs.lemmas.List.{get_or_read}
use Rattle.bq_import.specs.Search.{is_open}
use Rattle.bq_import.proofs.KeepLemmas.{followed, not_followed}
use Rattle.bq_import.proofs.reached.follow.Goals as goal

pub returns-then-not-index : goal.returns-then-not-index
returns-then-not-index c =
    let room = c.requires.before.room in
    let inside = c.requires.inside in
    let index = c.index.ensures in
    let test = c.if-not-index.true in
    let shut : is_open c.args.reached.now.items c.args.slot ≡ false = grind (arith, room, inside, index, test) in
    not_followed c.args.old.now c.args.slot c.args.reached.now.items shut c.requires.before

pub returns : goal.returns
returns c =
    let room = c.requires.before.room in
    let inside = c.requires.inside in
    let index = c.index.ensures in
    let test = c.if-not-index.false in
    let yes : c.index.result.now ≡ true = grind (arith, test) in
    let there : c.args.slot < length c.args.reached.now.items = grind (arith, room, inside) in
    let begun : is_open c.args.reached.now.items c.args.slot ≡ true =
    sym (get_or_read c.args.reached.now.items c.args.slot c.index.result.now there index false) ∙ yes in
    followed c.args.old.now c.args.slot c.in-Some.insn c.find_targets-targets.result c.find_targets-targets.ensures c.requires.forward
    c.args.reached.now.items c.mark.new.reached.items c.mark-2.new.reached.items c.requires.before begun c.mark.ensures c.mark-2.ensures

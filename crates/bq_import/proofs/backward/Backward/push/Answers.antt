use Rattle.std.proofs.Common.{arith, ap, ◌∙◌, ◌++◌, [], ◌∷◌, Some, None, ◌-◌, ◌≡◌, replicate, ◌+◌, ℤ, w16}
use Rattle.std.proofs.lemmas.Int.{to_z-of_z}
use Rattle.bq_insn.specs.Slots.{slots_of}
use Rattle.bq_import.specs.Copies.{copied}
use Rattle.bq_import.proofs.BackwardLemmas.{pushed, pushed_one}
use Rattle.bq_import.proofs.backward.Backward.push.Goals as goal

pub returns-clause-ok : goal.returns-clause-ok
returns-clause-ok c =
    let room = c.if-len-slots-gt-SLOTS.false in
    let back = c.args.self.now.slots.items in
    let origins = c.args.self.now.origins.items in
    let slots = c.push_first.new.self.slots.items in
    let froms = c.push_first.new.self.origins.items in
    let copy : c.copied.result ≡ copied c.args.maps c.args.insn c.args.distance =
    c.copied.ensures ∙ ap (λ (z : ℤ). copied c.args.maps c.args.insn z) (to_z-of_z w16 c.args.distance c.ranges.distance) in
    let first = c.in_ok-push_first.ensures.slots in
    let first_from = c.in_ok-push_first.ensures.origins in
    let second = c.in_ok-push_rest.ensures.slots in
    let second_from = c.in_ok-push_rest.ensures.origins in
    let all : slots
    ≡ (back ++ replicate (slots_of c.args.insn - 1) None) ++ (Some (copied c.args.maps c.args.insn c.args.distance) ∷ []) =
    grind (arith, first, second, copy) in
    let froms_all : froms ≡ (origins ++ replicate (slots_of c.args.insn - 1) (c.args.from + 1)) ++ (c.args.from ∷ []) =
    grind (arith, first_from, second_from) in
    pushed c.args.maps c.args.old.now back origins c.args.from c.args.insn c.args.distance c.requires.built slots froms
    c.requires.few c.ranges.distance c.requires.good c.requires.may (omega (arith, room)) all froms_all

pub returns-clause-only : goal.returns-clause-only
returns-clause-only c =
    let back = c.args.self.now.slots.items in
    let origins = c.args.self.now.origins.items in
    let slots = c.push_first.new.self.slots.items in
    let froms = c.push_first.new.self.origins.items in
    let copy : c.copied.result ≡ copied c.args.maps c.args.insn c.args.distance =
    c.copied.ensures ∙ ap (λ (z : ℤ). copied c.args.maps c.args.insn z) (to_z-of_z w16 c.args.distance c.ranges.distance) in
    let first = c.in_ok-push_first.ensures.slots in
    let first_from = c.in_ok-push_first.ensures.origins in
    let second = c.in_ok-push_rest.ensures.slots in
    let second_from = c.in_ok-push_rest.ensures.origins in
    let all : slots
    ≡ (back ++ replicate (slots_of c.args.insn - 1) None) ++ (Some (copied c.args.maps c.args.insn c.args.distance) ∷ []) =
    grind (arith, first, second, copy) in
    let froms_all : froms ≡ (origins ++ replicate (slots_of c.args.insn - 1) (c.args.from + 1)) ++ (c.args.from ∷ []) =
    grind (arith, first_from, second_from) in
    pushed_one c.args.maps c.args.old.now back origins c.args.from c.args.insn c.args.distance c.requires.built slots froms all froms_all

use Rattle.std.proofs.Common.{◌≡◌, rules, to_z, of_z, w16, ℤ, sym, subst}
use mir.Val.{SFits}
use Rattle.std.proofs.lemmas.Int.{to_z-of_z}
use Rattle.bq_import.specs.Backward.{MayBePut}
use Rattle.bq_import.proofs.SearchLemmas.{may_stand}
use Rattle.bq_import.proofs.backward.Backward.put.Goals as goal

pub push-requires-clause-may : goal.push-requires-clause-may
push-requires-clause-may c =
    let distance = c.distance-distance.result in
    let fits : SFits w16 c.distance-distance.result = search rules in
    let same : to_z w16 (of_z w16 distance) ≡ distance = to_z-of_z w16 distance fits in
    subst (λ (z : ℤ). MayBePut c.args.old.now c.args.self.now.slots.items c.args.self.now.origins.items c.args.slot c.args.insn z)
    (sym same) (may_stand c.args.old.now c.args.self.now.slots.items c.args.self.now.origins.items c.args.slot c.args.insn
    c.args.targets c.requires.targets distance c.requires.here c.requires.front c.distance-distance.ensures)

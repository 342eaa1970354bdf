-- A copy that was written from its end, taken the other way round, is a copy of the program.
use Rattle.std.proofs.Common.{◌≡◌, ℕ, ◌+◌, ◌-◌, List, reverse, length, get_or, Option, None, arith, sym, ap, ◌∙◌}
use Rattle.std.specs.Prelude.{slice_index}
use Rattle.std.proofs.lemmas.Int.{ints}
use Rattle.std.proofs.lemmas.List.{get_or-reverse, length-reverse}
use Rattle.bq_insn.specs.declared.Insn.{Insn}
use Rattle.bq_insn.specs.Slots.{slots_of}
use Rattle.bq_bpf.specs.Steps.{instruction_at}
use Rattle.bq_verify.proofs.EdgeLemmas.{start_inside}
use Rattle.bq_import.specs.Copies.{IsCopyOfSlot, IsCopyAt, IsCopy}
use Rattle.bq_import.specs.Backward.{IsBuilt, IsFront}

-- a copy that was written from its end
module _ (maps : ℕ) (old back : List (Option Insn)) (origins : List ℕ) (built : IsBuilt maps old back origins) where
  -- the reversed list has at a slot what the list has at the mirrored place
  mirror : (slot place : ℕ) → place + slot + 1 ≡ length back → instruction_at (reverse back) slot ≡ instruction_at back place
  mirror slot place sum =
      get_or-reverse back slot None (omega (arith, sum))
      ∙ ap (λ (n : ℕ). get_or back n None) (let e : length back - 1 - slot ≡ place = omega (arith, sum) in e)

  -- the same for the origins
  mirror_origin : (slot place : ℕ) → place + slot + 1 ≡ length back → slice_index (reverse origins) slot ≡ slice_index origins place
  mirror_origin slot place sum =
      let long = built.as_long in
      get_or-reverse origins slot 0 (omega (arith, sum, long))
      ∙ ap (λ (n : ℕ). get_or origins n 0) (let e : length origins - 1 - slot ≡ place = omega (arith, sum, long) in e)

  -- a copy of a slot in the list is one in the reversed list, at the mirrored place
  stands_there : (slot place from : ℕ) → place + slot + 1 ≡ length back → IsCopyOfSlot back origins place from
      → IsCopyOfSlot (reverse back) (reverse origins) slot from
  stands_there slot place from sum p = record {
    start = record { insn = p.start.insn; here = mirror slot place sum ∙ p.start.here };
    origin_is = mirror_origin slot place sum ∙ p.origin_is;
  }

  -- a copy of a slot in the reversed list is one in the list, at the mirrored place
  pub stands_here : (slot place from : ℕ) → place + slot + 1 ≡ length back
      → IsCopyOfSlot (reverse back) (reverse origins) slot from
      → IsCopyOfSlot back origins place from
  stands_here slot place from sum p = record {
    start = record { insn = p.start.insn; here = sym (mirror slot place sum) ∙ p.start.here };
    origin_is = sym (mirror_origin slot place sum) ∙ p.origin_is;
  }

  -- each instruction of the reversed list is a copy of one of the program
  copy_at : (slot from : ℕ) → IsCopyOfSlot (reverse back) (reverse origins) slot from
      → IsCopyAt maps old (reverse back) (reverse origins) slot from
  copy_at slot from stands =
      let inside = start_inside (reverse back) slot stands.start in
      let long = length-reverse back in
      let place : ℕ = length back - 1 - slot in
      let sum : place + slot + 1 ≡ length back = omega (arith, inside, long) in
      let p = built.placed place from (stands_here slot place from sum stands) in
      record {
        original = p.original;
        distance = p.distance;
        here = p.here;
        copy = mirror slot place sum ∙ p.copy;
        on = λ e.
            let g = p.on e in
            let is = g.place_is in
            stands_there (slot + slots_of p.original) g.behind (from + slots_of p.original) (omega (arith, is, sum)) g.stands;
        jumps = λ far e.
            let j = p.jumps far e in
            let is = j.place_is in
            let near = j.near_is in
            let there : ℕ = slot + 1 + j.apart in
            record {
              target = j.target;
              landing = slot + 1 + j.apart;
              leads = j.leads;
              lands = omega (arith, ints, near);
              later = omega arith;
              stands = stands_there (slot + 1 + j.apart) j.landing j.target (omega (arith, is, sum)) j.stands;
            };
      }

  -- with a copy of slot 0 in front, the reversed list is a copy of the program
  pub is_copy : IsFront back origins 0 → IsCopy maps old (reverse back) (reverse origins)
  is_copy front =
      let is = front.place_is in
      record { first = stands_there 0 front.place 0 (omega (arith, is)) front.stands; each = copy_at }

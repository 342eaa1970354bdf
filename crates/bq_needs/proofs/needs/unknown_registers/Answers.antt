use Rattle.std.proofs.Common.{◌≡◌, ◌≢◌, ℕ, ◌+◌, ◌<◌, Bool, true, false, List, length, arith, ◌∙◌, ◌⊎◌, inl, inr, get_or-set_same, get_or-set_other}
use Rattle.std.specs.Prelude.{slice_index_or, slice_set}
use Rattle.std.proofs.lemmas.List.{length-set}
use Rattle.std.proofs.lemmas.Bool.Decides.{eqb_tells}
use Rattle.bq_needs.specs.Needs.{is_unknown}
use Rattle.bq_needs.proofs.needs.unknown_registers.Goals as goal

-- one more is set
one_more : (f : ℕ → Bool) (n : ℕ) (b : Bool) (xs : List Bool)
    → n < length xs → b ≡ f n → ((r : ℕ) → r < n → slice_index_or xs r false ≡ f r) → (r : ℕ) → r < n + 1
    → slice_index_or (slice_set xs n b) r false ≡ f r
one_more f n b xs inside is before r below = by (eqb_tells r n)
  where
    by : {t : Bool} → ((t ≡ true) × (r ≡ n)) ⊎ ((t ≡ false) × (r ≢ n)) → slice_index_or (slice_set xs n b) r false ≡ f r
    by (inl (_, same)) = rw same (get_or-set_same xs n b false inside ∙ is)
    by (inr (_, other)) = get_or-set_other xs n r b false other ∙ before r (omega arith)

pub loop-register-preserved : goal.loop-register-preserved
loop-register-preserved c =
    let room = c.loop-register.invariant.room in
    let inside : c.loop-register.register < length c.loop-register.registers = omega (arith, room) in
    record {
      room = length-set c.loop-register.registers c.from.result c.is_unknown.result ∙ room;
      are =
          rw c.from.ensures (one_more (λ r. is_unknown c.args.state.now c.args.insn r) c.loop-register.register
          c.is_unknown.result c.loop-register.registers inside c.is_unknown.ensures c.loop-register.invariant.are);
    }

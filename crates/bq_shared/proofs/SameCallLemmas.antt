-- Calls of counters are compared by their contents.
use Rattle.std.proofs.Common.{◌≡◌}
use Rattle.std.specs.Bool.{Decides}
use Rattle.std.specs.Prelude.{◌==◌, ◌&&◌}
use Rattle.std.proofs.lemmas.Bool.Decides.{Decides-eqb, Decides-and, Decides-like}
use Rattle.bq_bpf.specs.declared.board.CounterCall.{CounterCall}
use Rattle.bq_bpf.specs.declared.board.CounterCall.TheVariants.{Add, Read}
use Rattle.bq_bpf.specs.contracts.board.CounterCallPartialEq.TheImpl as impl

-- `==` on two calls tells whether they are the same
pub call_decides : (a b : CounterCall) → Decides (impl.eq-value.it a b) (a ≡ b)
call_decides (Add c k r) (Add d m s) = Decides-like ((c == d) && ((k == m) && (r == s)))
    (λ (p : (c ≡ d) × ((k ≡ m) × (r ≡ s))). λ i. Add (p.0 i) (p.1.0 i) (p.1.1 i))
    (λ e. ((cc), ((cc), (cc))))
    (Decides-and (c == d) ((k == m) && (r == s)) (Decides-eqb c d) (Decides-and (k == m) (r == s) (Decides-eqb k m) (Decides-eqb r s)))
call_decides (Add c k r) (Read d s) = ((λ e. absurd (cc)), (λ e. absurd (cc)))
call_decides (Read c r) (Add d m s) = ((λ e. absurd (cc)), (λ e. absurd (cc)))
call_decides (Read c r) (Read d s) = Decides-like ((c == d) && (r == s))
    (λ (p : (c ≡ d) × (r ≡ s)). λ i. Read (p.0 i) (p.1 i))
    (λ e. ((cc), (cc)))
    (Decides-and (c == d) (r == s) (Decides-eqb c d) (Decides-eqb r s))

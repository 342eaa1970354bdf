-- Installs on processors in order, and one more on the next processor.
use Rattle.std.proofs.Common.{◌≡◌, ℕ, zero, suc, ◌+◌, List, [], ◌∷◌, ◌++◌, Option, subst, arith}
use Rattle.bq_hooks.specs.declared.hook.Hook.{Hook}
use Rattle.bq_verify.specs.Accepted.{Accepted}
use Rattle.bq_history.specs.declared.shared_state.Receipt.{Receipt}
use Rattle.bq_parts.specs.declared.event.Event.TheVariants.{Install}
use Rattle.bq_shared.specs.declared.record.Record.{Record}
use Rattle.bq_machine.specs.Calls.{AreInstalls}

-- the receipts of installs on n processors, and then that of the next processor, are those of n + 1 processors
pub installs_more : (c n : ℕ) (h : Hook) (g : ℕ) (o : Option Accepted) (xs : List (Receipt Record)) (x : Receipt Record)
    → AreInstalls c n h g o xs → x.entry.event ≡ Install (c + n) h g o
    → AreInstalls c (n + 1) h g o (xs ++ x ∷ [])
installs_more c zero h g o [] x a e = (subst (λ (k : ℕ). x.entry.event ≡ Install k h g o) (let z : c + 0 ≡ c = omega arith in z) e, tt)
installs_more c (suc n) h g o (y ∷ ys) x a e =
    let z : c + (suc n) ≡ c + 1 + n = omega arith in
    let more : suc (n + 1) ≡ suc n + 1 = omega arith in
    subst (λ (k : ℕ). AreInstalls c k h g o (y ∷ (ys ++ x ∷ []))) more
    (a.0, installs_more (c + 1) n h g o ys x a.1 (subst (λ (k : ℕ). x.entry.event ≡ Install k h g o) z e))
installs_more c zero h g o (y ∷ ys) x a e = absurd a
installs_more c (suc n) h g o [] x a e = absurd a

-- The instructions of a program, spread over its slots, follow one after another without a gap.
use Rattle.std.proofs.Common.{◌≡◌, ℕ, zero, suc, ◌+◌, ◌-◌, ◌<◌, List, [], ◌∷◌, ◌++◌, Option, Some, None, length, refl, arith, sym, subst, ap, ◌⊎◌, inl, inr, ◌∙◌, replicate, append_assoc, take, get_or}
use Rattle.std.proofs.lemmas.List.{append-nil, take_more}
use Rattle.bq_insn.specs.declared.Insn.{Insn}
use Rattle.bq_insn.specs.declared.Insn.TheVariants.{Imm64, MapRef}
use Rattle.bq_insn.specs.Slots.{slots_of, spread}
use Rattle.bq_bpf.specs.Steps.{instruction_at}
use Rattle.bq_verify.specs.Edges.{IsStart, IsWhole}
use Rattle.bq_insn.proofs.OptionLemmas.{some_same, some_none}

-- one more instruction adds its slots at the end
pub spread-push : (xs : List Insn) (x : Insn) → spread (xs ++ x ∷ []) ≡ spread xs ++ (Some x ∷ replicate (slots_of x - 1) None)
spread-push [] x = append-nil _
spread-push (y ∷ ys) x =
    ap (λ (rest : List (Option Insn)). (Some y ∷ replicate (slots_of y - 1) None) ++ rest) (spread-push ys x)
    ∙ sym (append_assoc (Some y ∷ replicate (slots_of y - 1) None) (spread ys) _)

-- an instruction has one slot or two
pub one_or_two : (insn : Insn) → (slots_of insn ≡ 1) ⊎ (slots_of insn ≡ 2)
one_or_two (Imm64 d v) = inr refl
one_or_two (MapRef d i) = inr refl
one_or_two _ = inl refl

-- a program that is whole, and begins with an instruction
pub record Begins (slots : List (Option Insn)) : Type 0 where
  pub whole : IsWhole slots
  pub first : 0 < length slots → IsStart slots 0

-- an instruction still begins there when one more slot stands before all
behind : (v : Option Insn) (slots : List (Option Insn)) (k : ℕ) → IsStart slots k → IsStart (v ∷ slots) (suc k)
behind v slots k start = record { insn = start.insn; here = start.here }

-- of the instructions behind the first slot
later_whole : (v : Option Insn) (slots : List (Option Insn)) → IsWhole slots
    → (k : ℕ) (insn : Insn) → instruction_at slots k ≡ Some insn → suc k + slots_of insn < length (v ∷ slots)
    → IsStart (v ∷ slots) (suc k + slots_of insn)
later_whole v slots whole k insn here lt =
    let same : suc (k + slots_of insn) ≡ suc k + slots_of insn = omega arith in
    subst (λ (n : ℕ). IsStart (v ∷ slots) n) same (behind v slots _ (whole k insn here (omega arith)))

-- slots without a gap stay so with an empty slot or an instruction before them:
whole_none : (slots : List (Option Insn)) → IsWhole slots → IsWhole (None ∷ slots)
whole_none slots whole zero insn here lt = absurd (some_none _ _ here refl)
whole_none slots whole (suc k) insn here lt = later_whole None slots whole k insn here lt

whole_some : (first : Insn) (slots : List (Option Insn)) → IsWhole slots
    → (slots_of first < length (Some first ∷ slots) → IsStart (Some first ∷ slots) (slots_of first))
    → IsWhole (Some first ∷ slots)
whole_some first slots whole next zero insn here lt =
    let same : first ≡ insn = some_same _ _ _ refl here in
    let e : slots_of first ≡ 0 + slots_of insn = subst (λ (i : Insn). slots_of first ≡ 0 + slots_of i) same (omega arith) in
    subst (λ (n : ℕ). IsStart (Some first ∷ slots) n) e (next (omega arith))
whole_some first slots whole next (suc k) insn here lt = later_whole (Some first) slots whole k insn here lt

-- a whole program stays one with an instruction and its empty slots before it
begins_some : (first : Insn) (slots : List (Option Insn)) → Begins slots → (slots_of first ≡ 1) ⊎ (slots_of first ≡ 2)
    → Begins ((Some first ∷ replicate (slots_of first - 1) None) ++ slots)
begins_some first slots rest (inl one) =
    subst (λ (n : ℕ). Begins ((Some first ∷ replicate n None) ++ slots)) zero_is (record {
      whole =
          whole_some first slots rest.whole (λ lt.
          subst (λ (n : ℕ). IsStart (Some first ∷ slots) n) (sym one)
          (behind (Some first) slots 0 (rest.first (omega (arith, one)))));
      first = λ _. record { insn = first; here = refl };
    })
  where
    zero_is : 0 ≡ slots_of first - 1
    zero_is = omega (arith, one)
begins_some first slots rest (inr two) =
    subst (λ (n : ℕ). Begins ((Some first ∷ replicate n None) ++ slots)) one_is (record {
      whole =
          whole_some first (None ∷ slots) (whole_none slots rest.whole) (λ lt.
          subst (λ (n : ℕ). IsStart (Some first ∷ None ∷ slots) n) (sym two)
          (behind (Some first) (None ∷ slots) 1 (behind None slots 0 (rest.first (omega (arith, two))))));
      first = λ _. record { insn = first; here = refl };
    })
  where
    one_is : 1 ≡ slots_of first - 1
    one_is = omega (arith, two)

-- instructions over their slots are a whole program
pub spread_begins : (insns : List Insn) → Begins (spread insns)
spread_begins [] = record { whole = λ k insn here lt. absurd (omega arith); first = λ lt. absurd (omega arith) }
spread_begins (first ∷ rest) = begins_some first (spread rest) (spread_begins rest) (one_or_two first)

-- the spread of the first instructions and that of one more are the spread of all of them
pub spread_more : (insns : List Insn) (i : ℕ) (past : Insn) (old new : List (Option Insn))
    → i < length insns → old ≡ spread (take i insns)
    → new ≡ old ++ (Some (get_or insns i past) ∷ replicate (slots_of (get_or insns i past) - 1) None)
    → new ≡ spread (take (i + 1) insns)
spread_more insns i past old new lt same added =
    added
    ∙ ap (λ (front : List (Option Insn)). front ++ (Some (get_or insns i past) ∷ replicate (slots_of (get_or insns i past) - 1) None)) same
    ∙ sym (ap spread (take_more insns i past lt) ∙ spread-push (take i insns) (get_or insns i past))

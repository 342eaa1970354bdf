-- The lines of a text are taken one after another, and the first fault is the fault of the text.
use Rattle.std.proofs.Common.{◌≡◌, ℕ, zero, suc, ◌+◌, ◌<◌, ◌≤◌, List, [], ◌∷◌, length, take, get_or, map, refl, sym, ap, ◌∙◌, None, arith, subst, inl, inr, ⊎_elim}
use Rattle.std.specs.Prelude.{option_and_then, Result, Ok, Err, IfOk, IfErr}
use Rattle.std.specs.Global.{Vec}
use Rattle.std.proofs.lemmas.Result.{IfOk-weaker}
use Rattle.bq_insn.specs.declared.Insn.{Insn}
use Rattle.std.specs.Borrow.{Bor}
use Rattle.std.specs.Str.Lines.{lines}
use Rattle.std.proofs.lemmas.List.{length-map, take-map, get_or-map}
use Rattle.std.proofs.lemmas.Bool.{cases_lt}
use Rattle.std.proofs.lemmas.Option.{slice_get_past}
use Rattle.bq_asm.specs.declared.fault.AsmFault.{AsmFault}
use Rattle.bq_asm.specs.declared.fault.AsmFault.TheVariants.{At, OutOfMemory}
use Rattle.bq_asm.specs.declared.draft.Draft.{Draft}
use Rattle.bq_asm.specs.Lines.{Line, Blank, parsed_line, lines_of}
use Rattle.bq_asm.specs.Faults.{slots_in, cause_at_line, fault_at, IsClean, IsAssemblyFault}
use Rattle.bq_asm.specs.Draft.{IsDraftOf, RefusesLine, FinishesDraft, Fails}
use Rattle.bq_asm.specs.Assembly.{Assembles}
use Rattle.bq_asm.proofs.AssembledLemmas.{assembles_from}
use Rattle.bq_asm.proofs.CleanLemmas.{fault_at-is}

-- what the lines so far say
abbrev pub parsed_so_far : List (Bor (List ℕ)) → List Line
parsed_so_far yielded = map (λ line. parsed_line line.now) yielded

-- the bytes of the lines so far say what these lines say
pub parsed_by_bytes : (yielded : List (Bor (List ℕ))) → map parsed_line (map (λ line. line.now) yielded) ≡ parsed_so_far yielded
parsed_by_bytes [] = refl
parsed_by_bytes (line ∷ yielded) = ap (λ ls. parsed_line line.now ∷ ls) (parsed_by_bytes yielded)

-- the fault of the next line is its cause after the lines so far
pub next_fault : (text : List ℕ) (yielded : List (Bor (List ℕ))) (line : List ℕ)
    → map (λ l. l.now) yielded ≡ take (length yielded) (lines text) → length yielded < length (lines text)
    → line ≡ get_or (lines text) (length yielded) line
    → fault_at (lines_of text) (suc (length yielded)) ≡ cause_at_line (parsed_so_far yielded) (parsed_line line)
next_fault text yielded line so_far more here =
    let n = length yielded in
    let long : n < length (lines_of text) = omega (arith, length-map (lines text) parsed_line) in
    let first : take n (lines_of text) ≡ parsed_so_far yielded =
    take-map parsed_line n (lines text) ∙ ap (map parsed_line) (sym so_far) ∙ parsed_by_bytes yielded in
    let this : get_or (lines_of text) n Blank ≡ parsed_line line =
    get_or-map parsed_line (lines text) n line Blank more ∙ ap parsed_line (sym here) in
    fault_at-is (lines_of text) n Blank long ∙ (λ i. cause_at_line (first i) (this i))

-- lines without a fault, and one more
pub more_clean : (all : List Line) (n : ℕ) → ((k : ℕ) → k ≤ n → fault_at all k ≡ None) → fault_at all (suc n) ≡ None
    → (k : ℕ) → k ≤ n + 1
    → fault_at all k ≡ None
more_clean all n h here k le =
    ⊎_elim (λ lt. h k (omega arith)) (λ ge. let e : suc n ≡ k = omega arith in subst (λ m. fault_at all m ≡ None) e here)
    (cases_lt k (n + 1))

-- the fault at the next line is the first
pub first_fault : (text : List ℕ) (draft : Draft) (yielded : List (Bor (List ℕ))) (n : ℕ) (line : List ℕ) (e : AsmFault)
    → n ≡ length yielded → IsDraftOf (parsed_so_far yielded) draft → ((k : ℕ) → k ≤ n → fault_at (lines_of text) k ≡ None)
    → fault_at (lines_of text) (suc (length yielded)) ≡ cause_at_line (parsed_so_far yielded) (parsed_line line)
    → RefusesLine draft (n + 1) (parsed_line line) e
    → IsAssemblyFault text e
first_fault text draft yielded n line OutOfMemory count described clean here h = tt
first_fault text draft yielded n line (At k c) count described clean here h =
    let is : k ≡ n + 1 = h.0 in
    let same : k ≡ suc (length yielded) = omega (arith, count, is) in
    inl (ap (fault_at (lines_of text)) same ∙ here ∙ h.1 (parsed_so_far yielded) described, λ j lt. clean j (omega arith))

-- lines that were all taken have no fault
pub all_clean : (lines : List Line) (n : ℕ) → length lines ≡ n → ((k : ℕ) → k ≤ n → fault_at lines k ≡ None) → IsClean lines
all_clean lines n whole h zero = refl
all_clean lines n whole h (suc k) =
    ⊎_elim (λ lt. h (suc k) (omega arith)) (λ ge. ap (option_and_then (cause_at_line (take k lines))) (slice_get_past lines k ge))
    (cases_lt k (length lines))

-- what is wrong with all lines, where none has a fault by itself
pub whole_fault : (text : List ℕ) (draft : Draft) (e : AsmFault)
    → IsDraftOf (lines_of text) draft → IsClean (lines_of text) → Fails draft e → IsAssemblyFault text e
whole_fault text draft OutOfMemory described clean h = absurd h
whole_fault text draft (At line c) described clean h =
    ⊎_elim (λ none. inr (inl (clean, none.0, none.1, none.2))) (λ missing. inr (inr (clean, missing.0, missing.1)))
    (h (lines_of text) described clean)

-- a text whose lines were all taken
module _ (text : List ℕ) (draft : Draft) (yielded : List (Bor (List ℕ))) (number : ℕ)
    (r : Result (Vec Insn) AsmFault) (all : map (λ l. l.now) yielded ≡ lines text)
    (count : number ≡ length yielded) (described : IsDraftOf (parsed_so_far yielded) draft)
    (clean : (k : ℕ) → k ≤ number → fault_at (lines_of text) k ≡ None) where
  -- the lines so far are all lines of the text
  whole : parsed_so_far yielded ≡ lines_of text
  whole = sym (parsed_by_bytes yielded) ∙ ap (map parsed_line) all

  -- the draft is that of all lines, which have no fault and take at most 4096 slots:
  described_all : IsDraftOf (lines_of text) draft
  described_all = subst (λ ls. IsDraftOf ls draft) whole described

  clean_all : IsClean (lines_of text)
  clean_all =
      let long = ap length (sym whole) ∙ length-map yielded (λ line. parsed_line line.now) ∙ sym count in
      all_clean (lines_of text) number long clean

  few_slots : slots_in (lines_of text) ≤ 4096
  few_slots = let few = draft.few in let same = described_all.slots in omega (arith, few, same)

  -- a draft that can be finished gives the program that the text assembles to
  pub assembled : IfOk r (λ insns. FinishesDraft draft insns.items) → IfOk r (λ insns. Assembles text insns.items)
  assembled h = IfOk-weaker r (λ insns. FinishesDraft draft insns.items) (λ insns. Assembles text insns.items)
      (λ insns f. let is = f (lines_of text) described_all clean_all in assembles_from text insns.items clean_all is.0 few_slots is.1) h

  -- a draft that fails fails as the text does
  pub unassembled : IfErr r (Fails draft) → IfErr r (IsAssemblyFault text)
  unassembled h = by r h
    where
      by : (r : Result (Vec Insn) AsmFault) → IfErr r (Fails draft) → IfErr r (IsAssemblyFault text)
      by (Ok insns) k = tt
      by (Err e) k = whole_fault text draft e described_all clean_all k

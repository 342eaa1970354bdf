use Rattle.std.proofs.Common.{◌≤◌, ℕ, List, Option, length, subst, sym}
use Rattle.std.proofs.lemmas.Result.{IfOk-weaker}
use Rattle.bq_insn.specs.declared.Insn.{Insn}
use Rattle.bq_insn.specs.Slots.{spread}
use Rattle.bq_verify.specs.Edges.{IsStart, IsWhole}
use Rattle.bq_verify.proofs.SlotLemmas.{few_slots, some_slots}
use Rattle.bq_verify.proofs.SpreadLemmas.{spread_begins}
use Rattle.bq_import.specs.Backward.{AreGood}
use Rattle.bq_import.specs.Copies.{IsCopy}
use Rattle.bq_import.specs.Faults.{HasGaps}
use Rattle.bq_import.proofs.KeepLemmas.{spread_has_gaps}
use Rattle.bq_import.proofs.ProgramLemmas.{are_good}
use Rattle.bq_import.proofs.order.order_slots.Goals as goal

pub check-requires-clause-short : goal.check-requires-clause-short
check-requires-clause-short c =
    let p = c.requires.program in subst (λ (s : List (Option Insn)). length s ≤ 4096) (sym p.1) (few_slots p.0 p.2)

pub check-requires-clause-whole : goal.check-requires-clause-whole
check-requires-clause-whole c =
    let p = c.requires.program in subst (λ (s : List (Option Insn)). IsWhole s) (sym p.1) (spread_begins p.0).whole

pub check-requires-clause-good : goal.check-requires-clause-good
check-requires-clause-good c = let p = c.requires.program in subst (λ (s : List (Option Insn)). AreGood s) (sym p.1) (are_good p.0 p.2 p.3)

pub check-requires-clause-gaps : goal.check-requires-clause-gaps
check-requires-clause-gaps c = let p = c.requires.program in subst (λ (s : List (Option Insn)). HasGaps s) (sym p.1) (spread_has_gaps p.0)

pub kept-requires-clause-first : goal.kept-requires-clause-first
kept-requires-clause-first c =
    let p = c.requires.program in
    subst (λ (s : List (Option Insn)). IsStart s 0) (sym p.1) ((spread_begins p.0).first (some_slots p.0 p.2))

pub search_order-requires-clause-first : goal.search_order-requires-clause-first
search_order-requires-clause-first c =
    let p = c.requires.program in
    subst (λ (s : List (Option Insn)). IsStart s 0) (sym p.1) ((spread_begins p.0).first (some_slots p.0 p.2))

pub kept-requires-clause-forward : goal.kept-requires-clause-forward
kept-requires-clause-forward c = c.goes_forward.ensures.yes c.if-goes_forward.true

pub returns-clause-copy : goal.returns-clause-copy
returns-clause-copy c =
    let searched = c.in_ok-searched.searched in
    IfOk-weaker c.kept_of.result (λ kept.
    (maps : ℕ) (old : List (Option Insn)) → IsCopy maps old (spread searched.insns.items) searched.origins.items →
    IsCopy maps old (spread kept.insns.items) kept.origins.items)
    (λ kept. IsCopy c.args.maps c.args.slots.now (spread kept.insns.items) kept.origins.items)
    (λ kept all. all c.args.maps c.args.slots.now c.in_ok-searched.ensures.copy) c.kept_of.ensures.copy

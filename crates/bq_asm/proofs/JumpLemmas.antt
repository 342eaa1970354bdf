-- A label that is looked up is within the limit of all labels, and the jumps are set one after another.
use Rattle.std.proofs.Common.{◌≡◌, ℕ, ◌≤◌, List, [], ◌∷◌, map, refl, sym, ap, ◌∙◌, Bool, true, false, Some, None, subst, arith, suc, ◌+◌, ◌-◌, ◌<◌, length, drop, drop-cons, get_or}
use Rattle.std.specs.Prelude.{Option, if◌then◌else◌, IfSome, ℤ, pos, ◌-ℤ◌, option_map, slice_get, slice_set, unwrap_or}
use Rattle.std.specs.Borrow.{Bor}
use Rattle.std.specs.List.{All, AllByRecursion}
use Rattle.std.specs.Map.{lookup}
use Rattle.std.specs.Str.{bytes_eq}
use Rattle.std.proofs.lemmas.List.{get_or_default, length-map}
use Rattle.std.proofs.lemmas.List.Elements.{recursion_from_All}
use Rattle.std.proofs.lemmas.Option.{slice_get-map}
use Rattle.bq_insn.specs.declared.Insn.{Insn}
use Rattle.bq_insn.specs.declared.Insn.TheVariants.{Exit}
use Rattle.bq_asm.specs.declared.jump.Jump.{Jump}
use Rattle.bq_asm.specs.Lines.{last_word}
use Rattle.bq_asm.specs.Operands.{is_label, word_texts}
use Rattle.bq_asm.specs.Jumps.{is_jump, target_of, jump_aimed, awaited_by, with_jump, with_jumps}

-- a map's entries by their bytes find the same
pub lookup_places : (name : List ℕ) (es : List (Bor (List ℕ) × ℕ))
    → lookup (bytes_eq name) (map (λ e. (e.0.now, e.1)) es) ≡ lookup (λ k. bytes_eq name k.now) es
lookup_places name [] = refl
lookup_places name (e ∷ es) = ap (λ o. if bytes_eq name e.0.now then Some e.1 else o) (lookup_places name es)

-- what is found is at most what each entry is
lookup_near : (limit : ℕ) (test : Bor (List ℕ) → Bool) (es : List (Bor (List ℕ) × ℕ))
    → AllByRecursion (λ e. e.1 ≤ limit) es → IfSome (lookup test es) (λ n. n ≤ limit)
lookup_near limit test [] h = tt
lookup_near limit test (e ∷ es) h = by (test e.0) (lookup_near limit test es h.1)
  where
    by : (b : Bool) → IfSome (lookup test es) (λ n. n ≤ limit) → IfSome (if b then Some e.1 else lookup test es) (λ n. n ≤ limit)
    by true rest = h.0
    by false rest = rest

-- what is found in a map is at most what all its entries are at most
pub found_within : (limit : ℕ) (test : Bor (List ℕ) → Bool) (es : List (Bor (List ℕ) × ℕ)) (found : Option ℕ)
    → All (λ e. e.1 ≤ limit) es → found ≡ lookup test es → IfSome found (λ n. n ≤ limit)
found_within limit test es found h same =
    subst (λ o. IfSome o (λ n. n ≤ limit)) (sym same) (lookup_near limit test es (recursion_from_All (λ e. e.1 ≤ limit) es h))

-- setting the jumps from one on sets that one, where its label is found, and then the others
pub with_jumps_at : (places : List (List ℕ × ℕ)) (jumps : List Jump) (k : ℕ) (d : Jump) (insns : List Insn) (found : Option ℕ)
    → k < length jumps → found ≡ lookup (bytes_eq (get_or jumps k d).label.now) places
    → with_jumps places (map awaited_by (drop k jumps)) insns
    ≡ with_jump (awaited_by (get_or jumps k d)) insns (λ changed. with_jumps places (map awaited_by (drop (suc k) jumps)) changed) found
with_jumps_at places jumps k d insns found within at =
    ap (λ js. with_jumps places (map awaited_by js) insns) (drop-cons jumps k d within)
    ∙ ap (with_jump (awaited_by (get_or jumps k d)) insns (λ changed. with_jumps places (map awaited_by (drop (suc k) jumps)) changed))
    (sym at)

-- with the jump at a place set, setting those after it gives what setting it and them gives
pub with_jumps_set : (places : List (List ℕ × ℕ)) (jumps : List Jump) (k : ℕ) (d : Jump) (insns : List Insn)
    (e : Insn) (slot : ℕ) (new : Insn) (z : ℤ)
    → k < length jumps → (get_or jumps k d).index < length insns
    → Some slot ≡ lookup (bytes_eq (get_or jumps k d).label.now) places
    → new ≡ jump_aimed (get_or insns (get_or jumps k d).index e) z → z ≡ pos slot -ℤ pos (get_or jumps k d).next
    → with_jumps places (map awaited_by (drop (k + 1) jumps)) (slice_set insns (get_or jumps k d).index new)
    ≡ with_jumps places (map awaited_by (drop k jumps)) insns
with_jumps_set places jumps k d insns e slot new z within near at made far =
    let j = get_or jumps k d in
    let more : k + 1 ≡ suc k = omega arith in
    (λ i. with_jumps places (map awaited_by (drop (more i) jumps)) (slice_set insns j.index (made i)))
    ∙ (λ i.
    with_jumps places (map awaited_by (drop (suc k) jumps))
    (slice_set insns j.index (jump_aimed (get_or_default insns j.index e Exit near i) (far i))))
    ∙ sym (with_jumps_at places jumps k d insns (Some slot) within at)

-- a jump's target is its last operand, where there is one and it is the name of a label
pub target_of-jump : (i : Insn) (operands : List (Bor (List ℕ))) (found : Option (Bor (List ℕ)))
    → is_jump i ≡ true → found ≡ slice_get operands (length operands - 1)
    → target_of i (word_texts operands)
    ≡ (if is_label (unwrap_or (option_map (λ w. w.now) found) []) then Some (unwrap_or (option_map (λ w. w.now) found) []) else None)
target_of-jump i operands found jump last =
    let word = last_word (word_texts operands) in
    ap (λ b. if b then (if is_label word then Some word else None) else None) jump
    ∙ ap (λ n. let w = unwrap_or (slice_get (word_texts operands) (n - 1)) [] in if is_label w then Some w else None)
    (length-map operands (λ w. w.now))
    ∙ ap (λ o. let w = unwrap_or o [] in if is_label w then Some w else None)
    (slice_get-map (λ w. w.now) operands (length operands - 1) ∙ ap (option_map (λ w. w.now)) (sym last))

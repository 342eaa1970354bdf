-- The text about the stack has each run of bytes that are set, or says that nothing is known to be written.
use Rattle.std.proofs.Common.{◌≡◌, ℕ, ◌+◌, ◌<◌, ◌≤◌, max, Bool, false, List, [], ◌∷◌, ◌++◌, sym, ◌∙◌, ap, subst, refl, arith}
use Rattle.std.specs.Prelude.{codes, slice_index_or}
use Rattle.bq_needs.specs.Accesses.{AreBytesSet}
use Rattle.bq_explain.specs.Texts.{AreByteRuns, no_byte, unset_byte, one_run, EndsAt, IsStackText, byte_run_text, written_stack_text}

-- before the first byte an empty text has all runs of bytes
pub none_yet : (set : List Bool) (text : List ℕ) → text ≡ [] → AreByteRuns set (max 0 0) text
none_yet set text is = subst (λ (t : List ℕ). AreByteRuns set 0 t) (sym is) (no_byte set)

-- the byte is of the run that was reported last
pub byte_in_last_run : (set : List Bool) (byte past : ℕ) (text : List ℕ)
    → byte < past → AreByteRuns set (max byte past) text → AreByteRuns set (max (byte + 1) past) text
byte_in_last_run set byte past text within are =
    let same : max byte past ≡ max (byte + 1) past = omega arith in
    subst (λ (n : ℕ). AreByteRuns set n text) same are

-- the byte is not set
pub byte_not_set : (set : List Bool) (byte past : ℕ) (text : List ℕ)
    → past ≤ byte → slice_index_or set byte false ≡ false → AreByteRuns set (max byte past) text
    → AreByteRuns set (max (byte + 1) past) text
byte_not_set set byte past text behind unset are =
    let here : max byte past ≡ byte = omega arith in
    let next : byte + 1 ≡ max (byte + 1) past = omega arith in
    subst (λ (n : ℕ). AreByteRuns set n text) next (unset_byte set text byte (subst (λ (n : ℕ). AreByteRuns set n text) here are) unset)

-- the runs of bytes before a run, and that run, are the runs up to its end
pub with_run : (set : List Bool) (byte past until : ℕ) (text run described : List ℕ)
    → past ≤ byte → byte < until → until ≤ 512 → AreBytesSet set byte until → EndsAt set until → AreByteRuns set (max byte past) text
    → run ≡ byte_run_text byte until → described ≡ text ++ run
    → AreByteRuns set (max (byte + 1) until) described
with_run set byte past until text run described behind some inside all ends are run_is text_is_described =
    let here : max byte past ≡ byte = omega arith in
    let next : until ≡ max (byte + 1) until = omega arith in
    let more : AreByteRuns set until (text ++ byte_run_text byte until) =
    one_run set text byte until (subst (λ (n : ℕ). AreByteRuns set n text) here are) some inside all ends in
    subst (λ (n : ℕ). AreByteRuns set n described) next
    (subst (λ (t : List ℕ). AreByteRuns set until t) (sym (text_is_described ∙ ap (λ (t : List ℕ). text ++ t) run_is)) more)

-- at the end of the stack the text has all runs of bytes
pub all_described : (set : List Bool) (byte past : ℕ) (text : List ℕ)
    → byte ≡ 512 → past ≤ 512 → AreByteRuns set (max byte past) text → AreByteRuns set 512 text
all_described set byte past text whole most are =
    let same : max byte past ≡ 512 = omega arith in
    subst (λ (n : ℕ). AreByteRuns set n text) same are

-- where no byte is set the text says that nothing is known to be written
pub none_written : (set : List Bool) (runs text : List ℕ) → AreByteRuns set 512 runs → runs ≡ []
    → text ≡ codes " stack: nothing known to be written\n"
    → IsStackText set text
none_written set runs text are none is = (runs, are, is ∙ sym (ap written_stack_text none))

-- what is said of runs
described_from : (runs text : List ℕ) → (runs ≡ [] → ⊥) → text ≡ codes " stack:" ++ (runs ++ codes " written\n") → text ≡ written_stack_text runs
described_from [] text some is = absurd (some refl)
described_from (first ∷ rest) text some is = is

-- where some byte is set the text lists the runs that are written
pub some_written : (set : List Bool) (runs text : List ℕ) → AreByteRuns set 512 runs → (runs ≡ [] → ⊥)
    → text ≡ codes " stack:" ++ (runs ++ codes " written\n")
    → IsStackText set text
some_written set runs text are some is = (runs, are, described_from runs text some is)

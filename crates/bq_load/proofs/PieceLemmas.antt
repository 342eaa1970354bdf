-- Bytes have an answer, and pieces have that of their join.
use Rattle.std.proofs.Common.{◌≡◌, ℕ, List, [], ◌∷◌, ◌++◌, Result, Ok, Err, refl, sym, ap, subst, ◌∙◌, inl, inr, ◌⊎◌, append_assoc, arith}
use Rattle.std.specs.List.{flat_map}
use Rattle.std.proofs.lemmas.Bool.{cases_lt}
use Rattle.std.proofs.lemmas.List.{append-nil}
use Rattle.std.proofs.lemmas.List.Concat.{flat_map-cons}
use Rattle.bq_insn.specs.declared.fault.DecodeCause.TheVariants.{Length}
use Rattle.bq_load.specs.declared.fault.LoadFault.{LoadFault}
use Rattle.bq_load.specs.declared.fault.LoadFault.TheVariants as fault
use Rattle.bq_load.specs.Answers.{HasImage}
use Rattle.bq_load.specs.Faults.{IsLoadFault}
use Rattle.bq_load.specs.Feeding.{Fed, unfed, StandsFor}
use Rattle.bq_load.specs.Laws.{AreBytes, EachIsAnswered, FeedsAll, PiecesJoin}
use Rattle.bq_load.specs.Reading.{Spelled, frame_at}
use Rattle.bq_load.proofs.FramingLemmas.{frame_ok, frame_err, bad_length, has_image}

-- by what reading gives
answer : (bytes : List ℕ) → AreBytes bytes → (r : Result (Spelled × List ℕ) LoadFault) → frame_at bytes ≡ r
    → HasImage bytes ⊎ ((f : LoadFault) × IsLoadFault bytes f)
answer bytes fits (Err f) e = inr (f, frame_err bytes f fits e)
answer bytes fits (Ok x) e =
    let frames = frame_ok bytes x fits e in
    elim (cases_lt x.0.slots 1) [
      | inl none ↦ inr (fault.Decode 0 Length, bad_length bytes x.0 x.1 frames (inl (omega arith)))
      | inr some ↦ elim (cases_lt 4096 x.0.slots) [
        | inl over ↦ inr (fault.Decode 0 Length, bad_length bytes x.0 x.1 frames (inr over))
        | inr most ↦ inl (has_image bytes x.0 x.1 (record { frames = frames; some = some; most = most }))
      ]
    ]

-- bytes are an image or have a first fault
pub each_is_answered : EachIsAnswered
each_is_answered bytes fits = answer bytes fits (frame_at bytes) refl

-- from any bytes on
joins : (pieces : List (List ℕ)) (old new : Fed) (bytes : List ℕ)
    → StandsFor old bytes → FeedsAll old pieces new
    → StandsFor new (bytes ++ flat_map (λ piece. piece) pieces)
joins [] old new bytes h same =
    subst (λ (x : List ℕ). StandsFor new x) (sym (append-nil bytes)) (subst (λ (f : Fed). StandsFor f bytes) same h)
joins (piece ∷ pieces) old new bytes h takes =
    let regrouped : (bytes ++ piece) ++ flat_map (λ piece. piece) pieces
    ≡ bytes ++ flat_map (λ piece. piece) (piece ∷ pieces) =
    append_assoc bytes piece (flat_map (λ piece. piece) pieces)
    ∙ ap (λ (x : List ℕ). bytes ++ x) (sym (flat_map-cons (λ (piece : List ℕ). piece) piece pieces)) in
    subst (λ (x : List ℕ). StandsFor new x) regrouped (joins pieces takes.0 new (bytes ++ piece) (takes.1 bytes h) takes.2)

-- a reader that took pieces from the start on stands for all of them together
pub pieces_join : PiecesJoin
pieces_join pieces fed takes = joins pieces unfed fed [] (record { rest = []; bytes_are = refl; counted = refl; only = inl refl }) takes

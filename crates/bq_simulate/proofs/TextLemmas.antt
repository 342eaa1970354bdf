-- Texts that grow by the lines of events.
use Rattle.std.proofs.Common.{◌≡◌, ℕ, Bool, true, false, cond, List, [], ◌∷◌, ◌++◌, refl, sym, ap, ◌∙◌, append-nil, string_bytes}
use Rattle.std.specs.Str.{IsUtf8, is_utf8}
use Rattle.std.proofs.lemmas.Grind.{flat_map-append}
use Rattle.std.proofs.lemmas.Str.{IsUtf8-from_is_utf8, is_utf8-from_IsUtf8}
use Rattle.bq_trace.specs.Feeding.{with_feeds}
use Rattle.bq_trace.specs.TraceEvents.{TraceEvent, Skipped}
use Rattle.bq_simulate.specs.Texts.{ByHook, WritesEvent, image_at}
use Rattle.bq_simulate.specs.declared.trace_writer.TraceWriter.{TraceWriter}

-- a line of UTF-8 is written
pub writes_line : (images : ByHook) (old new line : List ℕ) → IsUtf8 line → new ≡ old ++ (line ++ 10 ∷ [])
    → WritesEvent images old (Skipped line) new
writes_line images old new line utf8 is = record {
  text =
      is ∙ ap (λ l. old ++ l) (sym (append-nil (line ++ 10 ∷ [])))
      ∙ ap (λ b. old ++ with_feeds (cond b (line ∷ []) [])) (sym (is_utf8-from_IsUtf8 line utf8));
  fits = tt;
}

-- a line that is not UTF-8 fails the test for it
no_utf8 : (line : List ℕ) → (IsUtf8 line → ⊥) → is_utf8 line ≡ false
no_utf8 line other = cases (is_utf8 line) refl
  where
    cases : (b : Bool) → is_utf8 line ≡ b → b ≡ false
    cases true e = absurd (other (IsUtf8-from_is_utf8 line e))
    cases false e = refl

-- no line is written but one of UTF-8
pub writes_none : (images : ByHook) (old line : List ℕ) → (IsUtf8 line → ⊥) → WritesEvent images old (Skipped line) old
writes_none images old line other = record {
  text = sym (append-nil old) ∙ ap (λ b. old ++ with_feeds (cond b (line ∷ []) [])) (sym (no_utf8 line other));
  fits = tt;
}

-- what the text takes of one event
abbrev pub Takes : TraceWriter → ℕ → TraceEvent → TraceWriter → Type 0
Takes old n traced new = (new.images ≡ old.images) × WritesEvent (image_at old.images) (string_bytes old.text) traced (string_bytes new.text)

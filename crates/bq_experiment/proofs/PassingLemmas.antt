-- What writers get of the texts of sinks, piece by piece.
use Rattle.std.proofs.Common.{◌≡◌, ◌∙◌, ◌+◌, ℕ, List, [], ◌∷◌, ◌++◌, Option, None, Some, Result, Ok, Err, inl, inr, sym, ap, append_assoc, append-nil, arith, subst, string_bytes}
use Rattle.std.specs.Prelude.{OnOk}
use Rattle.std.specs.Io.KnownBytes.{Appends, append_known}
use Rattle.std.proofs.KnownBytes.{Appends-nil, Appends-trans}
use Rattle.std.proofs.lemmas.Grind.{flat_map-append}
use Rattle.bq_simulate.specs.Texts.{AreFitting, IsFitting, image_at, traced_lines, reported_lines}
use Rattle.bq_simulate.specs.declared.trace_writer.TraceWriter.{TraceWriter}
use Rattle.bq_simulate.proofs.TextLemmas.{Takes}
use Rattle.bq_trace.specs.Feeding.{with_feeds}
use Rattle.bq_trace.specs.TraceEvents.{TraceEvent, Reported, TakesAll}
use Rattle.bq_experiment.specs.Limits.{events_in}
use Rattle.bq_experiment.specs.Passing.{IsPassedOn, TakesAndPasses}

-- a sink that took some events, and whose text was then passed on or kept
pub OnOk-passed : {S T E : Type 0} (takes : S → ℕ → TraceEvent → S → Type 0) (pending : S → List ℕ) (Clears : S → S → Type 0)
    (old mid new : S) (was now : Option (List ℕ)) (n : ℕ) (traced : TraceEvent) (r : Result T E)
    → takes old n traced mid → OnOk r (IsPassedOn pending Clears mid was new now)
    → OnOk r (TakesAndPasses takes pending Clears old was n traced new now)
OnOk-passed takes pending Clears old mid new was now n traced (Ok x) taken passed = record { mid = mid; taken = taken; passed = passed }
OnOk-passed takes pending Clears old mid new was now n traced (Err e) taken passed = tt

-- the events of two lists, one behind the other
pub events_in-append : (xs ys : Reported) → events_in (xs ++ ys) ≡ events_in xs + events_in ys
events_in-append [] ys = omega arith
events_in-append ((n, x) ∷ xs) ys = let rest = events_in-append xs ys in omega (arith, rest)

-- a text that is kept has grown by what was added to it
grown : (was : Option (List ℕ)) (old mid bs : List ℕ) → mid ≡ old ++ bs → Appends (append_known was old) (append_known was mid) bs
grown None old mid bs e = tt
grown (Some a) old mid bs e = ap (λ l. a ++ l) e ∙ sym (append_assoc a old bs)

-- a text that is passed on, and then emptied, has grown by what was added to it
grown_and_passed : (was now : Option (List ℕ)) (old mid new bs : List ℕ)
    → mid ≡ old ++ bs → new ≡ [] → Appends was now mid
    → Appends (append_known was old) (append_known now new) bs
grown_and_passed None now old mid new bs e none p = tt
grown_and_passed (Some a) None old mid new bs e none p = absurd p
grown_and_passed (Some a) (Some b) old mid new bs e none p =
    ap (λ l. b ++ l) none ∙ append-nil b ∙ p ∙ ap (λ l. a ++ l) e ∙ sym (append_assoc a old bs)

-- the rest is passed on, too
pub all_written : (was now final : Option (List ℕ)) (none pending bs : List ℕ)
    → none ≡ [] → Appends (append_known was none) (append_known now pending) bs → Appends now final pending
    → Appends was final bs
all_written None now final none pending bs empty p q = tt
all_written (Some a) None final none pending bs empty p q = absurd p
all_written (Some a) (Some b) None none pending bs empty p q = absurd q
all_written (Some a) (Some b) (Some c) none pending bs empty p q = q ∙ p ∙ ap (λ l. (a ++ l) ++ bs) empty ∙ ap (λ l. l ++ bs) (append-nil a)

-- the text of a trace that is not written yet
abbrev pub pending : TraceWriter → List ℕ
pending s = string_bytes s.text

-- clearing leaves the images
abbrev pub Clears : TraceWriter → TraceWriter → Type 0
Clears old new = new.images ≡ old.images

-- the text of a trace that is written and the text that is not grow together, by the lines of some events
pub record Grows (old : TraceWriter) (was : Option (List ℕ)) (reported : Reported) (new : TraceWriter)
    (now : Option (List ℕ)) : Type 0 where
  pub images : new.images ≡ old.images
  pub fits : AreFitting reported
  pub added : Appends (append_known was (pending old)) (append_known now (pending new))
      (with_feeds (reported_lines (image_at old.images) reported))

-- they grow by the lines of one event
record GrowsByOne (old : TraceWriter) (was : Option (List ℕ)) (traced : TraceEvent) (new : TraceWriter)
    (now : Option (List ℕ)) : Type 0 where
  images : new.images ≡ old.images
  fits : IsFitting traced
  added : Appends (append_known was (pending old)) (append_known now (pending new)) (with_feeds (traced_lines (image_at old.images) traced))

-- a text grows by the lines of an event that is taken, whether it is then kept or passed on
grows_by_one : (old new : TraceWriter) (was now : Option (List ℕ)) (n : ℕ) (traced : TraceEvent)
    → TakesAndPasses Takes pending Clears old was n traced new now → GrowsByOne old was traced new now
grows_by_one old new was now n traced h =
    let lines = with_feeds (traced_lines (image_at old.images) traced) in
    elim h.passed [
      | inl same ↦ record {
        images = ap (λ (s : TraceWriter). s.images) same.0 ∙ h.taken.0;
        fits = h.taken.1.fits;
        added = subst (λ (s : TraceWriter). Appends (append_known was (pending old)) (append_known now (pending s)) lines) (sym same.0)
            (subst (λ (o : Option (List ℕ)). Appends (append_known was (pending old)) (append_known o (pending h.mid)) lines) (sym same.1)
            (grown was (pending old) (pending h.mid) lines h.taken.1.text));
      }
      | inr emptied ↦ record {
        images = emptied.cleared ∙ h.taken.0;
        fits = h.taken.1.fits;
        added = grown_and_passed was now (pending old) (pending h.mid) (pending new) lines h.taken.1.text emptied.empty emptied.added;
      }
    ]

-- what a trace's sink takes, piece by piece, is written by and by
pub grows : {P : Type 0} (sink : P → TraceWriter) (got : P → Option (List ℕ)) (old new : P) (reported : Reported)
    → TakesAll (λ o n x w. TakesAndPasses Takes pending Clears (sink o) (got o) n x (sink w) (got w)) old reported new
    → Grows (sink old) (got old) reported (sink new) (got new)
grows {P} sink got old new [] h =
    let so_far : P → Option (List ℕ) = λ p. append_known (got p) (pending (sink p)) in record {
      images = ap (λ (p : P). (sink p).images) h;
      fits = tt;
      added = subst (λ (p : P). Appends (so_far old) (so_far p) []) (sym h) (Appends-nil (so_far old));
    }
grows {P} sink got old new ((n, x) ∷ more) h =
    let so_far : P → Option (List ℕ) = λ p. append_known (got p) (pending (sink p)) in
    let one = grows_by_one (sink old) (sink h.0) (got old) (got h.0) n x h.1 in
    let rest = grows sink got h.0 new more h.2 in
    let at = image_at (sink old).images in
    let lines = ap (λ i. with_feeds (traced_lines at x) ++ with_feeds (reported_lines (image_at i) more)) one.images
    ∙ sym (flat_map-append (λ line. line ++ 10 ∷ []) (traced_lines at x) (reported_lines at more)) in
    record {
      images = rest.images ∙ one.images;
      fits = (one.fits, rest.fits);
      added =
          subst (λ (l : List ℕ). Appends (so_far old) (so_far new) l) lines
          (Appends-trans (so_far old) (so_far h.0) (so_far new) _ _ one.added rest.added);
    }

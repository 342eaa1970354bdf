-- A simulation that is reported as a text.
use Rattle.std.proofs.Common.{◌≡◌, ◌+◌, true, false, ℕ, List, Option, None, [], ◌∷◌, ◌++◌, map, refl, sym, ap, ◌∙◌, subst, string_bytes, arith}
use Rattle.std.specs.Io.KnownBytes.{Appends}
use Rattle.bq_workload.specs.Soundness.{first_flaw}
use Rattle.bq_workload.specs.declared.workload.Workload.{Workload}
use Rattle.bq_simulate.specs.Replays.{ReplaysTo, AreOfImages}
use Rattle.bq_simulate.specs.Texts.{AreFitting, ByHook, image_at, reported_lines}
use Rattle.bq_simulate.specs.declared.trace_writer.TraceWriter.{TraceWriter}
use Rattle.bq_simulate.proofs.FromImagesLemmas.{installs_of_images}
use Rattle.bq_simulate.proofs.ReplayLemmas.{AreFitting-parts, texts_are_replayed, reported_lines-append}
use Rattle.bq_simulate.proofs.TextLemmas.{Takes}
use Rattle.bq_streams.specs.Counts.{counted_inner}
use Rattle.bq_simulate.specs.Deeds.{events_of}
use Rattle.bq_simulate.specs.Simulations.{Accepted, IsFollowed, IsSimulation}
use Rattle.bq_trace.specs.Feeding.{with_feeds}
use Rattle.bq_trace.specs.TraceEvents.{Gets, TraceEvent, Reported, texts}
use Rattle.bq_experiment.specs.Limits.{IsLonger, PassesWithin, events_in}
use Rattle.bq_experiment.specs.Passing.{TakesAndPasses}
use Rattle.bq_experiment.specs.declared.limited.Limited.{Limited}
use Rattle.bq_experiment.specs.declared.passing.Passing.{Passing}
use Rattle.bq_experiment.specs.Traces.{IsNamed, TracesAreReplayed, WritesTrace, skipped}
use Rattle.bq_experiment.specs.Names.{comments_of}
use Rattle.bq_experiment.proofs.NameLemmas.{are_comments, lines_named}
use Rattle.bq_experiment.proofs.PassingLemmas.{Clears, Grows, all_written, events_in-append, grows, pending}
use Rattle.bq_experiment.proofs.LimitLemmas.{lets_through, more_came}

-- comments are no events
events_skipped : (lines : List (List ℕ)) → events_in (map skipped lines) ≡ 0
events_skipped [] = refl
events_skipped (line ∷ lines) = let rest = events_skipped lines in omega (arith, rest)

-- comments that name the tasks, and then a simulation whose policies are those of the images, are written as a trace
pub trace_written : (first last : TraceWriter) (was now final : Option (List ℕ)) (w : Workload) (policies : List Accepted)
    (images : ByHook) (reported : Reported) (event_limit left : ℕ)
    → string_bytes first.text ≡ [] → image_at first.images ≡ images → AreOfImages images policies
    → first_flaw w ≡ None → IsNamed w (IsSimulation policies w) reported → Grows first was reported last now
    → Appends now final (string_bytes last.text) → event_limit ≡ events_in reported + left
    → WritesTrace w policies images event_limit was final
trace_written first last was now final w policies images reported event_limit left empty same of sound named g rest limit =
    let comments = map skipped (comments_of w) in
    let lines : reported_lines images reported ≡ comments_of w ++ reported_lines images named.more =
    ap (reported_lines images) named.whole ∙ reported_lines-append images comments named.more
    ∙ ap (λ l. l ++ reported_lines images named.more) (lines_named images w sound) in
    let whole : with_feeds (reported_lines (image_at first.images) reported)
    ≡ with_feeds (comments_of w ++ reported_lines images named.more) =
    ap (λ (at : ByHook). with_feeds (reported_lines at reported)) same ∙ ap with_feeds lines in
    let events : events_in reported ≡ events_in comments + events_in named.more =
    ap events_in named.whole ∙ events_in-append comments named.more in
    let none = events_skipped (comments_of w) in
    record {
      text = with_feeds (comments_of w ++ reported_lines images named.more);
      trace = record {
        reported = named.more;
        sound = sound;
        simulation = named.holds;
        fits = (AreFitting-parts comments named.more (subst AreFitting named.whole g.fits)).1;
        of_images = of;
        whole = refl;
      };
      few = omega (arith, limit, events, none);
      added =
          subst (λ (l : List ℕ). Appends was final l) whole
          (all_written was now final (string_bytes first.text) (string_bytes last.text) _ empty g.added rest);
    }

-- a trace's writer and what its text is passed on to
abbrev pub TraceRun : Type 0 → Type 0 → Type 0
TraceRun W E = Passing TraceWriter W E

-- the bytes that the output of a run that writes a trace has
abbrev pub got : {W E : Type 0} → (W → Option (List ℕ)) → TraceRun W E → Option (List ℕ)
got contents run = contents (counted_inner run.output)

-- what it takes, and passes on
abbrev pub TakesRun : {W E : Type 0} → (W → Option (List ℕ)) → TraceRun W E → ℕ → TraceEvent → TraceRun W E → Type 0
TakesRun contents old n traced new = TakesAndPasses Takes pending Clears old.sink (got contents old) n traced new.sink (got contents new)

-- where its limit is not passed, what came is written as a trace, once the rest of the text is
pub run_written : {W E : Type 0} (contents : W → Option (List ℕ)) (old new : Limited (TraceRun W E)) (final : Option (List ℕ))
    (w : Workload) (policies : List Accepted) (images : ByHook)
    → string_bytes old.sink.sink.text ≡ [] → image_at old.sink.sink.images ≡ images
    → AreOfImages images policies → first_flaw w ≡ None → new.is_over ≡ false
    → Gets (PassesWithin (TakesRun contents)) old new (IsNamed w (IsSimulation policies w))
    → Appends (got contents new.sink) final (string_bytes new.sink.sink.text)
    → WritesTrace w policies images old.left (got contents old.sink) final
run_written {W} {E} contents old new final w policies images empty same of sound not g rest =
    let through = lets_through (TakesRun contents) old new g.reported g.taken not in
    let grown = grows (λ (r : TraceRun W E). r.sink) (got contents) old.sink new.sink g.reported through.0 in
    trace_written old.sink.sink new.sink.sink (got contents old.sink) (got contents new.sink) final w policies images
    g.reported old.left new.left empty same of sound g.holds grown rest through.1

-- where it is passed, what came behind the comments is longer
pub longer_named : {S : Type 0} (takes : S → ℕ → TraceEvent → S → Type 0) (old new : Limited S)
    (policies : List Accepted) (w : Workload)
    → first_flaw w ≡ None → old.is_over ≡ false → new.is_over ≡ true
    → Gets (PassesWithin takes) old new (IsNamed w (IsFollowed true policies w))
    → IsLonger policies w old.left
longer_named takes old new policies w sound not over g =
    let comments = map skipped (comments_of w) in
    let events : events_in g.reported ≡ events_in comments + events_in g.holds.more =
    ap events_in g.holds.whole ∙ events_in-append comments g.holds.more in
    let none = events_skipped (comments_of w) in
    let many = more_came takes old new g.reported g.taken not over in
    record { reported = g.holds.more; sound = sound; followed = g.holds.holds; many = omega (arith, events, none, many) }

-- the text that tells a simulation is answered by the answers that it got, and leaves the same machine
pub traces_are_replayed : TracesAreReplayed
traces_are_replayed w policies images text t =
    let s = t.simulation in
    let names = are_comments w t.sound in
    let from = installs_of_images images policies w t.reported s t.of_images in
    let fits = (AreFitting-parts s.first s.more (subst AreFitting s.whole t.fits)).1 in
    let answers =
    texts_are_replayed images (comments_of w) w.machine.discipline w.machine.size s.opening s.closing (events_of s.deeds) s.first
    s.more names s.starts s.drives from fits in
    subst (λ x. ReplaysTo x (texts t.reported) s.closing) (sym t.whole)
    (subst (λ (reported : Reported). ReplaysTo (with_feeds (comments_of w ++ reported_lines images reported)) (texts reported) s.closing)
    (sym s.whole) answers)

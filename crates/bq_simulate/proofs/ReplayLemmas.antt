-- Lines that ask for events that were done, and their answers.
use Rattle.std.proofs.Common.{◌≡◌, ℕ, ◌+◌, ◌<◌, ◌≤◌, true, false, List, [], ◌∷◌, ◌++◌, length, map, refl, sym, ap, ◌∙◌, append_assoc, append-nil, subst, Option, Some, None, Result, Ok, inr, arith, length-append}
use Rattle.std.specs.List.{AllByRecursion}
use Rattle.std.specs.Str.Lines.{lines, strip_carriage_return}
use Rattle.hex.specs.Hex.{encode_lower}
use Rattle.hex.proofs.HexLemmas.{decode_of-encode_lower}
use Rattle.bq_verify.specs.Accepted.{Accepted}
use Rattle.bq_hooks.specs.declared.hook.Hook.{Hook}
use Rattle.bq_parts.specs.declared.event.Event.{Event}
use Rattle.bq_parts.specs.declared.event.Event.TheVariants.{Admit, Retire, Draw, Install, BeginWake, EndWake, Drain, Tick, Block, Pull}
use Rattle.bq_parts.specs.declared.reply.Reply.{Reply}
use Rattle.bq_parts.specs.declared.refusal.Refusal.{Refusal}
use Rattle.bq_words.specs.declared.discipline_name.DisciplineName.{DisciplineName}
use Rattle.bq_words.specs.declared.processor_count.ProcessorCount.{ProcessorCount}
use Rattle.bq_lines.specs.Kept.{IsOneLine}
use Rattle.bq_lines.specs.Lines.{reading_of}
use Rattle.bq_lines.specs.declared.command.LineCommand.TheVariants as asks
use Rattle.bq_lines.specs.declared.command.LineReading.{LineReading}
use Rattle.bq_lines.specs.declared.command.LineReading.TheVariants as reads
use Rattle.bq_insn.specs.Spelling.{spelling}
use Rattle.bq_load.specs.Answers.{Loads}
use Rattle.bq_load.specs.Layout.{Header, IsFramed, header_bytes}
use Rattle.bq_load.proofs.JudgingLemmas.{header_fits, length-header_bytes}
use Rattle.bq_simulate.specs.Spelling.{HasFittingNumbers, asking_line, machine_line}
use Rattle.bq_simulate.specs.LineLaws.{CanStandInLine, IsWholeLine, event_command}
use Rattle.bq_simulate.proofs.LineLawLemmas.{are_lines, events_are_read, machines_are_read}
use Rattle.bq_parts.specs.Events.{without_policy}
use Rattle.bq_streams.specs.Counts.{one_more}
use Rattle.bq_trace.specs.Machines.{TraceMachine, opening_machine}
use Rattle.bq_trace.specs.Feeding.{with_feeds}
use Rattle.bq_trace.specs.TraceEvents.{Reported, texts}
use Rattle.bq_trace.specs.Reporting.{Happens}
use Rattle.bq_trace.specs.Trace.{AnswersAtPhase, AnswersLine, AnswersAll, opening_progress}
use Rattle.bq_trace.specs.declared.phase.Phase.{Phase}
use Rattle.bq_trace.specs.declared.phase.Phase.TheVariants.{Waiting, Running}
use Rattle.bq_trace.specs.declared.progress.Progress.{Progress}
use Rattle.bq_trace.proofs.LineLemmas.{AnswersAll-append, lines-with_feeds}
use Rattle.bq_trace.proofs.StoryTextLemmas.{happens_text}
use Rattle.bq_trace.proofs.TakingLemmas.{texts-append}
use Rattle.bq_simulate.specs.Drives.{DrivesEvent, Drives}
use Rattle.bq_simulate.specs.declared.driver.Driver.{Driver}
use Rattle.bq_simulate.specs.Texts.{AreFitting, ByHook, brought, traced_lines, reported_lines}
use Rattle.bq_simulate.specs.Replays.{IsComment, IsFromImages, IsLoadedFromImage, TextsAreReplayed}

-- after this many lines, none of which was bad
abbrev pub after : Phase → ℕ → Progress
after phase n = record { phase = phase; line = n; clean = true }

-- a line that does no harm, by what it says
line_reads : (line text : List ℕ) (reading : LineReading) (p q : Phase) (n : ℕ)
    → reading_of line ≡ reading → AnswersAtPhase p reading (one_more n) text q false
    → AnswersLine (after p n) line text (after q (one_more n))
line_reads line text reading p q n is h = record {
  counted = refl;
  bad = false;
  answered = subst (λ r. AnswersAtPhase p r (one_more n) text q false) (sym is) h;
  clean = refl;
}

-- comments are skipped
skips : (comments : List (List ℕ)) (n : ℕ) → AllByRecursion IsComment comments
    → (m : ℕ) × AnswersAll (after Waiting n) comments [] (after Waiting m)
skips [] n h = (n, (refl, refl))
skips (line ∷ comments) n h =
    let more = skips comments (one_more n) h.1 in (
      more.0,
      (
        after Waiting (one_more n),
        [],
        [],
        line_reads line [] reads.Skipped Waiting Waiting n h.0.reads (refl, refl, refl),
        more.1,
        refl,
      ),
    )

-- a machine is made
opens : (discipline : DisciplineName) (size : ProcessorCount) (n : ℕ)
    → AnswersLine (after Waiting n) (machine_line discipline size) [] (after (Running (opening_machine discipline size)) (one_more n))
opens discipline size n =
    line_reads (machine_line discipline size) [] _ Waiting (Running (opening_machine discipline size)) n
    (machines_are_read discipline size) (refl, refl, refl)

-- the line of an event that happens, where it asks for the event itself
as_it_is : (line : List ℕ) (m k : TraceMachine) (n number : ℕ) (event : Event) (answer : Result Reply Refusal) (reported : Reported)
    → reading_of line ≡ reads.Asks (asks.Does event) → Happens m number event answer reported k
    → AnswersLine (after (Running m) n) line (texts reported) (after (Running k) (one_more n))
as_it_is line m k n number event answer reported is h = line_reads line (texts reported) _ (Running m) (Running k) n is
    (k, answer, happens_text m k number event answer reported h, refl, refl)

-- the bytes of a header and a program are not too many for a line
framed_fits : (bytes : List ℕ) (header : Header) (program : List ℕ)
    → IsFramed bytes header program → header.slots ≤ 4096 → (0 < length bytes) × (length bytes ≤ 65472)
framed_fits bytes header program framed slots =
    let all : length bytes ≡ length (header_bytes header) + length program =
    ap length framed.bytes_are ∙ length-append (header_bytes header) program in
    let most = header_fits header framed.header in
    let head = length-header_bytes header in
    let whole = framed.whole in
    (omega (arith, all, head), omega (arith, all, most, whole, slots))

-- an image that loads is not empty, and not too long for a line
fits_line : (bytes : List ℕ) (policy : Accepted) → Loads bytes policy → (0 < length bytes) × (length bytes ≤ 65472)
fits_line bytes policy h = framed_fits bytes _ (spelling h.insns) h.image.framed h.image.most

-- the image from which a policy was loaded can stand in a line
can_stand : (image : Option (List ℕ)) (policy : Accepted) → IsLoadedFromImage image policy → CanStandInLine image
can_stand image policy h =
    let fits = fits_line h.bytes policy h.loads in
    subst CanStandInLine (sym h.there) (record { each = h.each; some = fits.0; room = fits.1 })

-- where policies are those of their images, each image can stand in a line
brought_stands : (images : ByHook) (event : Event) → IsFromImages images event → CanStandInLine (brought images event)
brought_stands images (Admit task nice mask slice) h = tt
brought_stands images (Retire task) h = tt
brought_stands images Draw h = tt
brought_stands images (Install c hook generation None) h = subst CanStandInLine (sym h) tt
brought_stands images (Install c hook generation (Some policy)) h = can_stand (images hook) policy h
brought_stands images (BeginWake c task) h = tt
brought_stands images (EndWake c now) h = tt
brought_stands images (Drain c now) h = tt
brought_stands images (Tick c now) h = tt
brought_stands images (Block c now) h = tt
brought_stands images (Pull c from now) h = tt

-- an image is loaded again
loads_again : (line : List ℕ) (image : Option (List ℕ)) (m k : TraceMachine) (n number c generation : ℕ) (hook : Hook)
    (policy : Accepted) (answer : Result Reply Refusal) (reported : Reported)
    → reading_of line ≡ reads.Asks (event_command image (Install c hook generation (Some policy))) → IsLoadedFromImage image policy
    → Happens m number (Install c hook generation (Some policy)) answer reported k
    → AnswersLine (after (Running m) n) line (texts reported) (after (Running k) (one_more n))
loads_again line image m k n number c generation hook policy answer reported is of h =
    line_reads line (texts reported) (reads.Asks (asks.Load c hook generation (encode_lower of.bytes))) (Running m)
    (Running k) n (is ∙ ap (λ i. reads.Asks (event_command i (Install c hook generation (Some policy)))) of.there) (
      k,
      inr (
          inr (of.bytes, policy, answer, decode_of-encode_lower of.bytes of.each, of.loads, happens_text m k number _ answer reported h)),
      refl,
      refl,
    )

-- the line of each event that happens does it again
again : (images : ByHook) (m k : TraceMachine) (n number : ℕ) (event : Event) (answer : Result Reply Refusal) (reported : Reported)
    → reading_of (asking_line (brought images event) event) ≡ reads.Asks (event_command (brought images event) event)
    → IsFromImages images event → Happens m number event answer reported k
    → AnswersLine (after (Running m) n) (asking_line (brought images event) event) (texts reported) (after (Running k) (one_more n))
again images m k n number (Admit task nice mask slice) answer reported is of h = as_it_is _ m k n number _ answer reported is h
again images m k n number (Retire task) answer reported is of h = as_it_is _ m k n number _ answer reported is h
again images m k n number Draw answer reported is of h = as_it_is _ m k n number _ answer reported is h
again images m k n number (Install c hook generation None) answer reported is of h =
    as_it_is _ m k n number _ answer reported (is ∙ ap (λ i. reads.Asks (event_command i (Install c hook generation None))) of) h
again images m k n number (Install c hook generation (Some policy)) answer reported is of h =
    loads_again _ (images hook) m k n number c generation hook policy answer reported is of h
again images m k n number (BeginWake c task) answer reported is of h = as_it_is _ m k n number _ answer reported is h
again images m k n number (EndWake c now) answer reported is of h = as_it_is _ m k n number _ answer reported is h
again images m k n number (Drain c now) answer reported is of h = as_it_is _ m k n number _ answer reported is h
again images m k n number (Tick c now) answer reported is of h = as_it_is _ m k n number _ answer reported is h
again images m k n number (Block c now) answer reported is of h = as_it_is _ m k n number _ answer reported is h
again images m k n number (Pull c from now) answer reported is of h = as_it_is _ m k n number _ answer reported is h

-- an event and the same without its policy have one line
same_line : (images : ByHook) (event : Event)
    → asking_line (brought images (without_policy event)) (without_policy event) ≡ asking_line (brought images event) event
same_line images (Admit task nice mask slice) = refl
same_line images (Retire task) = refl
same_line images Draw = refl
same_line images (Install c hook generation policy) = refl
same_line images (BeginWake c task) = refl
same_line images (EndWake c now) = refl
same_line images (Drain c now) = refl
same_line images (Tick c now) = refl
same_line images (Block c now) = refl
same_line images (Pull c from now) = refl

-- an event and the same without its policy have the same numbers
same_numbers : (event : Event) → HasFittingNumbers (without_policy event) → HasFittingNumbers event
same_numbers (Admit task nice mask slice) h = h
same_numbers (Retire task) h = h
same_numbers Draw h = h
same_numbers (Install c hook generation policy) h = h
same_numbers (BeginWake c task) h = h
same_numbers (EndWake c now) h = h
same_numbers (Drain c now) h = h
same_numbers (Tick c now) h = h
same_numbers (Block c now) h = h
same_numbers (Pull c from now) h = h

-- the lines of two lists of events are those of both, one after another
pub reported_lines-append : (images : ByHook) (xs ys : Reported)
    → reported_lines images (xs ++ ys) ≡ reported_lines images xs ++ reported_lines images ys
reported_lines-append images [] ys = refl
reported_lines-append images ((n, x) ∷ xs) ys =
    ap (λ l. traced_lines images x ++ l) (reported_lines-append images xs ys)
    ∙ sym (append_assoc (traced_lines images x) (reported_lines images xs) (reported_lines images ys))

-- each of two parts of events that fit fits
pub AreFitting-parts : (xs ys : Reported) → AreFitting (xs ++ ys) → AreFitting xs × AreFitting ys
AreFitting-parts [] ys h = (tt, h)
AreFitting-parts ((n, x) ∷ xs) ys h = let parts = AreFitting-parts xs ys h.1 in ((h.0, parts.0), parts.1)

-- what the lines of events that are done one after another leave
record Goes (images : ByHook) (d e : Driver) (reported : Reported) (n : ℕ) : Type 0 where
  last : ℕ
  chain : AnswersAll (after (Running d.machine) n) (reported_lines images reported) (texts reported) (after (Running e.machine) last)
  whole : AllByRecursion IsWholeLine (reported_lines images reported)

-- where no event is done there is no line to answer
goes_nowhere : (images : ByHook) (d e : Driver) (n : ℕ) → e ≡ d → Goes images d e [] n
goes_nowhere images d e n same = record { last = n; chain = (refl, ap (λ (x : Driver). after (Running x.machine) n) same); whole = tt }

-- one event, and what follows it
goes_on : (images : ByHook) (d mid e : Driver) (event : Event) (reply : Reply) (first more : Reported) (n : ℕ)
    → DrivesEvent d event reply first mid → IsFromImages images event → AreFitting first → Goes images mid e more (one_more n)
    → Goes images d e (first ++ more) n
goes_on images d mid e event reply first more n done from fits rest =
    let reports = done.happens.reports in
    let numbers : HasFittingNumbers event = same_numbers event (subst AreFitting reports fits).0 in
    let stands = brought_stands images event from in
    let line : reported_lines images first ≡ asking_line (brought images event) event ∷ [] =
    ap (reported_lines images) reports ∙ ap (λ l. l ∷ []) (same_line images event) in
    let all : reported_lines images (first ++ more) ≡ asking_line (brought images event) event ∷ reported_lines images more =
    reported_lines-append images first more ∙ ap (λ l. l ++ reported_lines images more) line in
    let answers =
    again images d.machine mid.machine n _ event (Ok reply) first
    (events_are_read (brought images event) event stands numbers) from done.happens in
    record {
      last = rest.last;
      chain =
          subst (λ ls. AnswersAll (after (Running d.machine) n) ls (texts (first ++ more)) (after (Running e.machine) rest.last)) (sym all)
          (after (Running mid.machine) (one_more n), texts first, texts more, answers, rest.chain, texts-append first more);
      whole = subst (AllByRecursion IsWholeLine) (sym all) (are_lines.events (brought images event) event stands numbers, rest.whole);
    }

-- the lines of events that were done one after another are answered as the events were
goes : (images : ByHook) (d e : Driver) (events : List Event) (reported : Reported) (n : ℕ)
    → Drives d events reported e → AllByRecursion (IsFromImages images) events → AreFitting reported
    → Goes images d e reported n
goes images d e [] reported n h from fits = subst (λ t. Goes images d e t n) (sym h.0) (goes_nowhere images d e n h.1)
goes images d e (event ∷ events) reported n h from fits =
    let parts = AreFitting-parts h.2 h.3 (subst AreFitting h.6 fits) in
    subst (λ t. Goes images d e t n) (sym h.6)
    (goes_on images d h.1 e event h.0 h.2 h.3 n h.4 from.0 parts.0 (goes images h.1 e events h.3 (one_more n) h.5 from.1 parts.1))

-- whole lines keep their bytes, are one line each, and are the lines of the text in which each has its line feed:
strip_whole : (ls : List (List ℕ)) → AllByRecursion IsWholeLine ls → map strip_carriage_return ls ≡ ls
strip_whole [] h = refl
strip_whole (line ∷ ls) h = ap (λ l. l ∷ map strip_carriage_return ls) h.0.same ∙ ap (λ l. line ∷ l) (strip_whole ls h.1)

one_lines : (ls : List (List ℕ)) → AllByRecursion IsWholeLine ls → AllByRecursion IsOneLine ls
one_lines [] h = tt
one_lines (line ∷ ls) h = (h.0.one, one_lines ls h.1)

lines_whole : (ls : List (List ℕ)) → AllByRecursion IsWholeLine ls → lines (with_feeds ls) ≡ ls
lines_whole ls h =
    ap lines (sym (append-nil (with_feeds ls))) ∙ lines-with_feeds ls [] (one_lines ls h)
    ∙ append-nil (map strip_carriage_return ls) ∙ strip_whole ls h

-- comments, and whole lines after them, are whole lines
comments_whole : (comments : List (List ℕ)) (ls : List (List ℕ))
    → AllByRecursion IsComment comments → AllByRecursion IsWholeLine ls
    → AllByRecursion IsWholeLine (comments ++ ls)
comments_whole [] ls h k = k
comments_whole (line ∷ comments) ls h k = (h.0.whole, comments_whole comments ls h.1 k)

-- the lines that ask for events which were done are answered by the answers that these got
pub texts_are_replayed : TextsAreReplayed
texts_are_replayed images comments discipline size d e events first more skipped starts drives from fits =
    let rest = goes images d e events more (one_more (skips comments 0 skipped).0) drives from fits in
    let before = (skips comments 0 skipped).1 in
    let n = (skips comments 0 skipped).0 in
    let opened : AnswersLine (after Waiting n) (machine_line discipline size) [] (after (Running d.machine) (one_more n)) =
    subst (λ m. AnswersLine (after Waiting n) (machine_line discipline size) [] (after (Running m) (one_more n)))
    (sym starts.machine) (opens discipline size n) in
    let all : reported_lines images (first ++ more) ≡ machine_line discipline size ∷ reported_lines images more =
    reported_lines-append images first more ∙ ap (λ t. reported_lines images t ++ reported_lines images more) starts.reports in
    let stated : texts (first ++ more) ≡ texts more = texts-append first more ∙ ap (λ t. texts t ++ texts more) starts.reports in
    let asks : AllByRecursion IsWholeLine (reported_lines images (first ++ more)) =
    subst (AllByRecursion IsWholeLine) (sym all) (are_lines.machines discipline size, rest.whole) in
    let chain : AnswersAll (after Waiting n) (reported_lines images (first ++ more)) (texts (first ++ more))
    (after (Running e.machine) rest.last) =
    subst (λ ls. AnswersAll (after Waiting n) ls (texts (first ++ more)) (after (Running e.machine) rest.last)) (sym all)
    (after (Running d.machine) (one_more n), [], texts more, opened, rest.chain, stated) in
    record {
      trace = record {
        final = after (Running e.machine) rest.last;
        chain =
            subst (λ ls. AnswersAll opening_progress ls (texts (first ++ more)) (after (Running e.machine) rest.last))
            (sym (lines_whole (comments ++ reported_lines images (first ++ more))
            (comments_whole comments (reported_lines images (first ++ more)) skipped asks)))
            (AnswersAll-append opening_progress (after Waiting n) (after (Running e.machine) rest.last) comments
            (reported_lines images (first ++ more)) [] (texts (first ++ more)) before chain);
        is_clean = refl;
      };
      machine = refl;
    }

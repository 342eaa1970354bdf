use Rattle.std.proofs.Common.{◌≡◌, ◌∙◌, ◌++◌, length, take, ap, Ok, Err, arith, length-append}
use Rattle.std.proofs.lemmas.List.{length-take}
use Rattle.bq_load.specs.declared.fault.LoadFault.TheVariants as fault
use Rattle.bq_load.specs.Headers.{spelled_of}
use Rattle.bq_load.specs.Laws.{AreBytes}
use Rattle.bq_load.specs.Reading.{header_at}
use Rattle.bq_load.proofs.FieldLemmas.{AreBytes-fit}
use Rattle.bq_load.proofs.JudgingLemmas.{first_bytes, refused_final, refused_stays, cut_stands, cut_bounded, cut_going, rest_is_within, read_header_of_all, length-front, counted_stands, kept_stands, not_over, read_front, read_going, read_past}
use Rattle.bq_load.proofs.judging.judge.Goals as goal

pub returns-in-Cut : goal.returns-in-Cut
returns-in-Cut c =
    let held = c.args.held.now in
    let piece = c.args.piece.now in
    let fits : AreBytes (take 44 (held ++ piece)) =
    first_bytes held piece (AreBytes-fit held c.type_inv.held) (AreBytes-fit piece c.type_inv.piece) in
    let read : header_at (take 44 (held ++ piece)) ≡ Err fault.Cut =
    read_front held piece _ _ (c.as_slice.ensures.value ∙ c.front_of-front.ensures)
    (c.in-Err.ensures ∙ ap (λ f. Err f) c.in-Cut.is) in
    record {
      within = omega arith;
      counts = omega (arith, c.ranges.past.fits);
      bounded = λ few. omega (arith, cut_bounded held piece fits read);
      stands = λ bytes h. cut_stands held piece bytes c.args.past read h;
      going = λ bytes f h whole failed. cut_going held piece bytes c.args.past f fits read h whole failed;
      stays = tt;
      failed = tt;
    }

pub returns-in_default : goal.returns-in_default
returns-in_default c =
    let held = c.args.held.now in
    let piece = c.args.piece.now in
    let fits : AreBytes (take 44 (held ++ piece)) =
    first_bytes held piece (AreBytes-fit held c.type_inv.held) (AreBytes-fit piece c.type_inv.piece) in
    let read : header_at (take 44 (held ++ piece)) ≡ Err c.in-Err.fault =
    read_front held piece _ _ (c.as_slice.ensures.value ∙ c.front_of-front.ensures) c.in-Err.ensures in
    record {
      within = tt;
      counts = tt;
      bounded = tt;
      stands = tt;
      going = tt;
      stays = refused_final held piece c.in-Err.fault fits c.in_default.not-Cut read;
      failed = λ bytes h. refused_stays held piece bytes c.args.past c.in-Err.fault fits c.in_default.not-Cut read h;
    }

pub overflow_sub-begin : goal.overflow_sub-begin
overflow_sub-begin c =
    let held = c.args.held.now in
    let piece = c.args.piece.now in
    let fits : AreBytes (take 44 (held ++ piece)) =
    first_bytes held piece (AreBytes-fit held c.type_inv.held) (AreBytes-fit piece c.type_inv.piece) in
    let read : header_at (take 44 (held ++ piece)) ≡ Ok (spelled_of c.in-Ok.read.0, c.in-Ok.read.1.now) =
    read_front held piece _ _ (c.as_slice.ensures.value ∙ c.front_of-front.ensures) c.in-Ok.ensures in
    let long = rest_is_within held piece (spelled_of c.in-Ok.read.0) c.in-Ok.read.1.now fits read in
    omega (arith, long.rest, c.len.ensures.value, ap length c.front_of-front.ensures)

pub returns-then-length-begin-clause-failed : goal.returns-then-length-begin-clause-failed
returns-then-length-begin-clause-failed c = λ bytes h.
    let held = c.args.held.now in
    let piece = c.args.piece.now in
    let s = spelled_of c.in-Ok.read.0 in
    let fits : AreBytes (take 44 (held ++ piece)) =
    first_bytes held piece (AreBytes-fit held c.type_inv.held) (AreBytes-fit piece c.type_inv.piece) in
    let read : header_at (take 44 (held ++ piece)) ≡ Ok (s, c.in-Ok.read.1.now) =
    read_front held piece _ _ (c.as_slice.ensures.value ∙ c.front_of-front.ensures) c.in-Ok.ensures in
    read_past held piece bytes c.args.past s c.in-Ok.read.1.now fits read
    (omega (
      arith,
      c.if-length-begin.true,
      c.saturating_add.ensures,
      c.saturating_add-length.ensures,
      c.len.ensures.value,
      ap length c.front_of-front.ensures,
    )) h

pub returns-then-header-gt-SLOTS-clause-within : goal.returns-then-header-gt-SLOTS-clause-within
returns-then-header-gt-SLOTS-clause-within c =
    let held = c.args.held.now in
    let piece = c.args.piece.now in
    omega (
      arith,
      c.saturating_sub.ensures,
      c.len.ensures.value,
      ap length c.front_of-front.ensures,
      length-take 44 (held ++ piece),
      length-append held piece,
    )

pub returns-then-header-gt-SLOTS-clause-stands : goal.returns-then-header-gt-SLOTS-clause-stands
returns-then-header-gt-SLOTS-clause-stands c = λ bytes h.
    let held = c.args.held.now in
    let piece = c.args.piece.now in
    let s = spelled_of c.in-Ok.read.0 in
    let fits : AreBytes (take 44 (held ++ piece)) =
    first_bytes held piece (AreBytes-fit held c.type_inv.held) (AreBytes-fit piece c.type_inv.piece) in
    let read : header_at (take 44 (held ++ piece)) ≡ Ok (s, c.in-Ok.read.1.now) =
    read_front held piece _ _ (c.as_slice.ensures.value ∙ c.front_of-front.ensures) c.in-Ok.ensures in
    let j = read_header_of_all held piece bytes c.args.past s c.in-Ok.read.1.now fits read h in
    counted_stands (take 44 (held ++ piece)) held piece bytes c.args.past s c.in-Ok.read.1.now c.saturating_sub.result j
    c.if-header-gt-SLOTS.true (omega (
      arith,
      c.saturating_sub.ensures,
      c.len.ensures.value,
      ap length c.front_of-front.ensures,
      length-front (take 44 (held ++ piece)) held piece bytes c.args.past s c.in-Ok.read.1.now j,
    )) h

pub returns-then-header-gt-SLOTS-clause-going : goal.returns-then-header-gt-SLOTS-clause-going
returns-then-header-gt-SLOTS-clause-going c = λ bytes f h whole failed.
    let held = c.args.held.now in
    let piece = c.args.piece.now in
    let s = spelled_of c.in-Ok.read.0 in
    let fits : AreBytes (take 44 (held ++ piece)) =
    first_bytes held piece (AreBytes-fit held c.type_inv.held) (AreBytes-fit piece c.type_inv.piece) in
    let read : header_at (take 44 (held ++ piece)) ≡ Ok (s, c.in-Ok.read.1.now) =
    read_front held piece _ _ (c.as_slice.ensures.value ∙ c.front_of-front.ensures) c.in-Ok.ensures in
    read_going held piece bytes c.args.past s c.in-Ok.read.1.now f fits read
    (omega (
      arith,
      c.if-length-begin.false,
      c.saturating_add.ensures,
      c.saturating_add-length.ensures,
      c.len.ensures.value,
      ap length c.front_of-front.ensures,
    )) h whole failed

pub returns : goal.returns
returns c =
    let held = c.args.held.now in
    let piece = c.args.piece.now in
    let front = take 44 (held ++ piece) in
    let s = spelled_of c.in-Ok.read.0 in
    let rest = c.in-Ok.read.1.now in
    let fits : AreBytes front = first_bytes held piece (AreBytes-fit held c.type_inv.held) (AreBytes-fit piece c.type_inv.piece) in
    let read : header_at front ≡ Ok (s, rest) =
    read_front held piece _ _ (c.as_slice.ensures.value ∙ c.front_of-front.ensures) c.in-Ok.ensures in
    let long : length c.front_of-front.result.items ≡ length front = ap length c.front_of-front.ensures in
    record {
      within = omega arith;
      counts = omega (arith, c.ranges.past.fits);
      bounded = λ few.
          omega (
            arith,
            few,
            c.if-length-begin.false,
            c.if-header-gt-SLOTS.false,
            c.saturating_add.ensures,
            c.saturating_add-length.ensures,
            c.len.ensures.value,
            long,
            length-take 44 (held ++ piece),
          );
      stands = λ bytes h.
          let j = read_header_of_all held piece bytes c.args.past s rest fits read h in
          kept_stands held piece bytes c.args.past (not_over front held piece bytes c.args.past s rest j c.if-header-gt-SLOTS.false) h;
      going = λ bytes f h whole failed.
          read_going held piece bytes c.args.past s rest f fits read
          (omega (arith, c.if-length-begin.false, c.saturating_add.ensures, c.saturating_add-length.ensures, c.len.ensures.value, long))
          h whole failed;
      stays = tt;
      failed = tt;
    }

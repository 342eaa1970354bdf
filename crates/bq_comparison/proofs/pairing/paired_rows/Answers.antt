use Rattle.std.proofs.Common.{rules, ◌≡◌, ℕ, List, length, subst, sym, arith}
use Rattle.std.proofs.lemmas.Grind.{common_steps}
use Rattle.bq_comparison.specs.Pairs.{IsPairedRow, pairs_at}
use Rattle.bq_comparison.specs.declared.pairs.Pair.{Pair}
use Rattle.bq_comparison.specs.declared.pairs.PairedRow.{PairedRow}
use Rattle.bq_comparison.proofs.PairLemmas.{each-more}
use Rattle.bq_comparison.proofs.pairing.paired_rows.Goals as goal

pub places-preserved : goal.places-preserved
places-preserved c =
    let ours = c.args.ours.now in
    let theirs = c.args.theirs.now in
    let row = c.paired_row.result in
    let P : ℕ → PairedRow → Type 0 = λ place row. IsPairedRow (pairs_at place ours theirs) row in
    let pairs : c.as_slice.result.now ≡ pairs_at c.places.place ours theirs = search rules in
    let place : c.places.place ≡ length c.places.rows.items = sym c.places.invariant.number in
    let own : P c.places.place row = subst (λ (l : List Pair). IsPairedRow l row) pairs c.paired_row.ensures in
    record {
      number = grind (arith, common_steps);
      rows_are = rw c.in_ok-push.ensures.items
          (each-more P c.places.rows.items row c.places.invariant.rows_are (subst (λ (n : ℕ). P n row) place own));
    }

use Rattle.bq_asm.proofs.ListingLemmas as listing
use Rattle.bq_asm.proofs.laws.listing_assembles.Goals as goal

pub returns : goal.returns
returns c = listing.listing_assembles

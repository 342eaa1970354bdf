-- What is seen of the relocations of a section that was read is so of the section itself.
use Rattle.std.proofs.Common.{◌≡◌, ◌≢◌, ℕ, ◌+◌, ◌*◌, ◌/◌, ◌<◌, ◌≤◌, List, length, sym, ◌∙◌, subst, arith}
use Rattle.std.proofs.lemmas.Nat.{le-div}
use Rattle.bq_object.specs.declared.section.Section.{Section}
use Rattle.bq_object.specs.declared.symbol.Symbol.{Symbol}
use Rattle.bq_object.specs.Numbers.{IsPart}
use Rattle.bq_object.specs.Sections.{IsSection}
use Rattle.bq_object.specs.Relocations.{IsRelocation, IsSectionClear, HoldsOffset, entry_size}
use Rattle.bq_object.proofs.SameLemmas.{one_section}

-- an entry that fits is one of those that are counted
index_below : (n size index : ℕ) → size ≢ 0 → size * index + size ≤ n → index < n / size
index_below n size index some fits =
    let whole : (index + 1) * size ≤ n = omega (arith, fits) in
    let counted : index + 1 ≤ n / size = le-div (index + 1) n size (omega (arith, some)) whole in
    omega (arith, counted)

-- what holds of the section of a number holds of each section of that number
pub clear_section : (file headers : List ℕ) (index : ℕ) (a : Section) (policy : Symbol)
    → IsSection headers index a → IsSectionClear file a policy → (b : Section) → IsSection headers index b
    → IsSectionClear file b policy
clear_section file headers index a policy p clear b q =
    subst (λ (s : Section). IsSectionClear file s policy) (one_section headers index a b p q) clear

-- where none of the entries that were read changes the function, the section does not
pub clear_entries : (file : List ℕ) (section : Section) (policy : Symbol) (ours : List ℕ) (size count : ℕ)
    → size ≢ 0 → size ≡ entry_size section.kind → IsPart file section.at section.long ours → length ours / size ≤ count
    → ((k : ℕ) → k < count → (at kind : ℕ) → IsRelocation ours size k at kind → HoldsOffset policy at → ⊥)
    → IsSectionClear file section policy
clear_entries file section policy ours size count some size_is ours_is all none =
    λ of entries index at kind entries_are here within.
    let same : entries ≡ ours = entries_are.part_is ∙ sym ours_is.part_is in
    let mine : IsRelocation ours (entry_size section.kind) index at kind =
    subst (λ (e : List ℕ). IsRelocation e (entry_size section.kind) index at kind) same here in
    let sized : IsRelocation ours size index at kind = subst (λ (s : ℕ). IsRelocation ours s index at kind) (sym size_is) mine in
    let below = index_below (length ours) size index some sized.entry_is.fits in
    none index (omega (arith, below, all)) at kind sized within

-- Kinds that count from maps of one shape.
use Rattle.std.proofs.Common.{◌≡◌, ℕ, List, sym, ◌∙◌, ◌⊎◌, inl, inr}
use Rattle.bq_bpf.specs.declared.shape.MapShape.{MapShape}
use Rattle.bq_states.specs.declared.abstract_state.ValueKind.{ValueKind}
use Rattle.bq_states.specs.declared.abstract_state.ValueKind.TheVariants.{Entry, EntryOrNull}
use Rattle.bq_states.specs.AbstractStates.{AreAlike, IsBase, IsEntryBase, IsReferenceBase}

-- if a map is like a second one, and that one like a third, the first is like the third
pub alike_both : (shapes : List MapShape) (m n k : ℕ) → AreAlike shapes m n → AreAlike shapes n k → AreAlike shapes m k
alike_both shapes m n k p q = record { shape = p.shape; one = p.one; other = q.other ∙ sym q.one ∙ p.other; low = q.low }

-- an entry of a map of one shape is one of a map of the other
pub entry_alike : (shapes : List MapShape) (m n base : ℕ) → AreAlike shapes m n → IsEntryBase shapes n base → IsEntryBase shapes m base
entry_alike shapes m n base alike e = record {
  map = e.map;
  alike = alike_both shapes m n e.map alike e.alike;
  first = e.first;
  size = e.size;
  entry = e.entry;
  base_is = e.base_is;
}

-- an answer of a look-up in a map of one shape is one in a map of the other
pub answer_alike : (shapes : List MapShape) (m n base : ℕ) → AreAlike shapes m n → (base ≡ 0) ⊎ IsEntryBase shapes n base
    → (base ≡ 0) ⊎ IsEntryBase shapes m base
answer_alike shapes m n base alike (inl none) = inl none
answer_alike shapes m n base alike (inr e) = inr (entry_alike shapes m n base alike e)

-- a reference of a map of one shape is one of a map of the other
pub reference_alike : (shapes : List MapShape) (m n base : ℕ)
    → AreAlike shapes m n → IsReferenceBase shapes n base → IsReferenceBase shapes m base
reference_alike shapes m n base alike r = record { map = r.map; alike = alike_both shapes m n r.map alike r.alike; base_is = r.base_is }

-- an entry is an answer of a look-up in a map of that shape
pub entry_answers : (shapes : List MapShape) (kind : ValueKind) (m n : ℕ)
    → kind ≡ Entry n → (m ≡ n) ⊎ AreAlike shapes m n → (base : ℕ) → IsBase shapes kind base
    → IsBase shapes (EntryOrNull m) base
entry_answers shapes kind m n is (inl same) base b = inr (rw same (rw is at b))
entry_answers shapes kind m n is (inr alike) base b = inr (entry_alike shapes m n base alike (rw is at b))

-- an answer of a look-up is an answer of one in another map of that shape
pub answer_answers : (shapes : List MapShape) (kind : ValueKind) (m n : ℕ)
    → kind ≡ EntryOrNull n → (m ≡ n) ⊎ AreAlike shapes m n → (base : ℕ) → IsBase shapes kind base
    → IsBase shapes (EntryOrNull m) base
answer_answers shapes kind m n is (inl same) base b = rw same (rw is at b)
answer_answers shapes kind m n is (inr alike) base b = answer_alike shapes m n base alike (rw is at b)

-- The text of each operand is read as that operand, in the places where instructions have it.
use Rattle.std.proofs.Common.{◌≡◌, ℕ, suc, ◌+◌, ◌-◌, ◌^◌, ◌<◌, ◌≤◌, List, [], ◌∷◌, ◌++◌, length, take, refl, sym, ap, ◌∙◌, Bool, true, false, cond, Some, None, arith, append_assoc, length-append}
use Rattle.std.specs.Prelude.{Option, Ok, ℤ, pos, negsuc, FitsSigned, option_map, nat_lt, nat_le, not, position, slice_index, ◌&&◌, ◌||◌, ◌==◌, if◌then◌else◌, codes}
use Rattle.std.specs.Int.{w16, w32}
use Rattle.std.specs.List.{list_all, position_or_len}
use Rattle.std.specs.Fmt.{decimal, signed_decimal}
use Rattle.std.proofs.lemmas.Bool.{and_parts, and_right, and_left, lt-ltb, le-leb, ne_eqb, eq-eqb, leb-true}
use Rattle.std.proofs.lemmas.List.{take_at, drop_at, get_or_at}
use Rattle.std.proofs.lemmas.Int.{ints}
use Rattle.bq_asm.specs.declared.operand.Operand.TheVariants as operand
use Rattle.bq_asm.specs.declared.operand_kind.OperandKind.TheVariants as kind
use Rattle.bq_asm.specs.Numbers.{imm_of, offset_of, distance_in_word, register_named}
use Rattle.bq_asm.specs.Operands.{number_place, register_place, source_place, is_sign, inside, based, cut_at, memory_place, is_letter, is_label_byte, is_label, label_place, operand_of}
use Rattle.bq_asm.specs.Text.{signed_text, operand_text}
use Rattle.bq_asm.proofs.DigitLemmas.{is_digit, decimal_digits, list_all-weaker, imm_of-signed, offset_of-signed, distance_of-signed, wide_of-decimal, register_of-decimal}

-- the text of a register is read as that register where a register stands
pub register_again : (r : ℕ) (d : Option ℤ) → r ≤ 10
    → operand_of kind.Register (operand_text (operand.Register r)) d ≡ Ok (operand.Register r)
register_again r d h = ap register_place (register_of-decimal r h)

-- the text of a register is read as that register where a source stands
pub source_register_again : (r : ℕ) (d : Option ℤ) → r ≤ 10
    → operand_of kind.Source (operand_text (operand.Register r)) d ≡ Ok (operand.Register r)
source_register_again r d h = ap (λ o. source_place o (operand_text (operand.Register r))) (register_of-decimal r h)

-- a number of 32 bits, with a minus where it is negative, is read in a number's place as that number
number_is : (z : ℤ) → FitsSigned w32 z
    → number_place (option_map (λ z. operand.Number z) (imm_of (signed_decimal z))) (signed_decimal z) ≡ Ok (operand.Number z)
number_is z h = ap (λ o. number_place (option_map (λ z. operand.Number z) o) (signed_decimal z)) (imm_of-signed z h)

-- the text of a number is read as that number where a number stands
pub number_again : (z : ℤ) (d : Option ℤ) → FitsSigned w32 z
    → operand_of kind.Number (operand_text (operand.Number z)) d ≡ Ok (operand.Number z)
number_again z d h = number_is z h

-- what begins otherwise is no register
no_register : (b : ℕ) (rest : List ℕ) → (b ≡ 114 → ⊥) → register_named (b ∷ rest) ≡ None
no_register b [] h = refl
no_register b (d ∷ []) h = ap (λ t. if t && (nat_le 48 d && nat_le d 57) then Some (d - 48) else None) (ne_eqb b 114 h)
no_register b (d ∷ e ∷ []) h = ap (λ t. if t && ((d == 49) && (e == 48)) then Some 10 else None) (ne_eqb b 114 h)
no_register b (d ∷ e ∷ f ∷ rest) h = refl

-- digits name no register, nor does a number that may have a minus:
digits_no_register : (ds : List ℕ) → list_all is_digit ds ≡ true → register_named ds ≡ None
digits_no_register [] h = refl
digits_no_register (b ∷ ds) h =
    let first = (and_parts (is_digit b) (list_all is_digit ds) h).0 in
    let high : b ≤ 57 = leb-true b 57 (and_parts (nat_le 48 b) (nat_le b 57) first).1 in
    no_register b ds (λ e. omega arith)

signed_no_register : (z : ℤ) → FitsSigned w32 z → register_named (signed_decimal z) ≡ None
signed_no_register (pos n) h = digits_no_register (decimal n) (decimal_digits n (omega (arith, ints, h)))
signed_no_register (negsuc n) h = no_register 45 (decimal (suc n)) (λ e. omega arith)

-- the text of a number is read as that number where a source stands, since it is no register
pub source_number_again : (z : ℤ) (d : Option ℤ) → FitsSigned w32 z
    → operand_of kind.Source (operand_text (operand.Number z)) d ≡ Ok (operand.Number z)
source_number_again z d h = ap (λ o. source_place o (signed_decimal z)) (signed_no_register z h) ∙ number_is z h

-- the text of a wide number is read as that number where a wide one stands
pub wide_again : (n : ℕ) (d : Option ℤ) → n < 2 ^ 64 → operand_of kind.Wide (operand_text (operand.Wide n)) d ≡ Ok (operand.Wide n)
wide_again n d h = ap (λ o. number_place (option_map (λ n. operand.Wide n) o) (decimal n)) (wide_of-decimal n h)

-- what begins with a sign is no label
sign_no_label : (s : ℕ) (ds : List ℕ) → is_letter s ≡ false → is_label (s ∷ ds) ≡ false
sign_no_label s ds h =
    let word = s ∷ ds in
    and_right (nat_le 1 (length word)) (nat_le (length word) 32 && (is_letter s && list_all is_label_byte word))
    (and_right (nat_le (length word) 32) (is_letter s && list_all is_label_byte word)
    (and_left (is_letter s) (list_all is_label_byte word) h))

-- a number with its sign is no label
signed_no_label : (z : ℤ) → is_label (signed_text z) ≡ false
signed_no_label (pos n) = sign_no_label 43 (decimal n) refl
signed_no_label (negsuc n) = sign_no_label 45 (decimal (suc n)) refl

-- the text of a near target is read as its distance, and not as a label
pub near_again : (z : ℤ) (d : Option ℤ) → FitsSigned w16 z → operand_of kind.Near (operand_text (operand.Near z)) d ≡ Ok (operand.Near z)
near_again z d h =
    let word = signed_text z in
    ap (λ b.
    if b
    then label_place (option_map (λ z. operand.Near z) d)
    else number_place (option_map (λ z. operand.Near z) (offset_of word)) word) (signed_no_label z)
    ∙ ap (λ o. number_place (option_map (λ z. operand.Near z) o) word) (offset_of-signed z h)

-- the text of a far target is read as its distance, and not as a label
pub far_again : (z : ℤ) (d : Option ℤ) → FitsSigned w32 z → operand_of kind.Far (operand_text (operand.Far z)) d ≡ Ok (operand.Far z)
far_again z d h =
    let word = signed_text z in
    ap (λ b.
    if b
    then label_place (option_map (λ z. operand.Far z) d)
    else number_place (option_map (λ z. operand.Far z) (distance_in_word word)) word) (signed_no_label z)
    ∙ ap (λ o. number_place (option_map (λ z. operand.Far z) o) word) (distance_of-signed z h)

-- what stands in brackets
inside_brackets : (inner : List ℕ) → inside (91 ∷ (inner ++ (93 ∷ []))) ≡ Some inner
inside_brackets inner =
    let word = 91 ∷ (inner ++ (93 ∷ [])) in
    let long : length word ≡ length inner + 2 = let sum = length-append inner (93 ∷ []) in omega (arith, sum) in
    let some : nat_le 2 (length word) ≡ true = le-leb 2 (length word) (omega arith) in
    let at : length word - 1 ≡ length (91 ∷ inner) = omega arith in
    let last : slice_index word (length word - 1) ≡ 93 =
    ap (slice_index word) at ∙ get_or_at (91 ∷ inner) 93 [] 0 (length (91 ∷ inner)) refl in
    let closed : (slice_index word (length word - 1) == 93) ≡ true = eq-eqb (slice_index word (length word - 1)) 93 last in
    let count : length inner ≡ length word - 2 = omega arith in
    let front : take (length word - 2) (inner ++ (93 ∷ [])) ≡ inner = take_at inner (93 ∷ []) (length word - 2) count in
    (λ i. if some i && (true && closed i) then Some (front i) else None)

-- the first place at which p passes, after others
first_place : (p : ℕ → Bool) (xs : List ℕ) (y : ℕ) (ys : List ℕ)
    → list_all (λ b. not (p b)) xs ≡ true → p y ≡ true → position_or_len p (xs ++ y ∷ ys) ≡ length xs
first_place p [] y ys h k = ap (λ b. cond (not b) (1 + position_or_len p ys) 0) k
first_place p (x ∷ xs) y ys h k =
    let parts = and_parts (not (p x)) (list_all (λ b. not (p b)) xs) h in
    let rest = first_place p xs y ys parts.1 k in
    ap (λ b. cond b (1 + position_or_len p (xs ++ y ∷ ys)) 0) parts.0
    ∙ (let sum : 1 + position_or_len p (xs ++ y ∷ ys) ≡ suc (length xs) = omega (arith, rest) in sum)

-- where none of the bytes before passes, the first byte that passes is right after them
position_after : (p : ℕ → Bool) (xs : List ℕ) (y : ℕ) (ys : List ℕ)
    → list_all (λ b. not (p b)) xs ≡ true → p y ≡ true → position p (xs ++ y ∷ ys) ≡ Some (length xs)
position_after p xs y ys h k =
    let at = first_place p xs y ys h k in
    let within : nat_lt (length xs) (length (xs ++ y ∷ ys)) ≡ true =
    lt-ltb (length xs) (length (xs ++ y ∷ ys)) (let sum = length-append xs (y ∷ ys) in omega (arith, sum)) in
    ap (λ n. cond (nat_lt n (length (xs ++ y ∷ ys))) (Some n) None) at ∙ ap (λ b. cond b (Some (length xs)) None) within

-- a digit is no sign, and the name of a register has no sign:
digit_no_sign : (b : ℕ) → is_digit b ≡ true → not (is_sign b) ≡ true
digit_no_sign b h =
    let low : 48 ≤ b = leb-true 48 b (and_parts (nat_le 48 b) (nat_le b 57) h).0 in
    (λ i. not (ne_eqb b 43 (λ e. omega arith) i || ne_eqb b 45 (λ e. omega arith) i))

base_no_sign : (r : ℕ) → r ≤ 10 → list_all (λ b. not (is_sign b)) (codes "r" ++ decimal r) ≡ true
base_no_sign r h = list_all-weaker is_digit (λ b. not (is_sign b)) digit_no_sign (decimal r) (decimal_digits r (omega arith))

-- a base, and an offset that begins with a sign
cut_base : (r s : ℕ) (ds : List ℕ) (z : ℤ) → r ≤ 10 → is_sign s ≡ true → offset_of (s ∷ ds) ≡ Some z
    → memory_place (Some ((codes "r" ++ decimal r) ++ s ∷ ds)) ≡ Ok (operand.Memory r z)
cut_base r s ds z h sign is =
    let base = codes "r" ++ decimal r in
    let offset = s ∷ ds in
    let inner = base ++ offset in
    let some : (length offset == 0) ≡ false = ne_eqb (length offset) 0 (λ e. omega arith) in
    ap (λ o. cut_at o inner) (position_after is_sign base s ds (base_no_sign r h) sign)
    ∙ (λ i. based (register_named (take_at base offset (length base) refl i)) (drop_at base offset (length base) refl i))
    ∙ ap (λ o. based o offset) (register_of-decimal r h)
    ∙ ap (λ b. if b then Ok (operand.Memory r (pos 0)) else number_place (option_map (λ z. operand.Memory r z) (offset_of offset)) offset)
    some
    ∙ ap (λ o. number_place (option_map (λ z. operand.Memory r z) o) offset) is

-- the text of a base and an offset is read as that place in memory
inner_again : (r : ℕ) (z : ℤ) → r ≤ 10 → FitsSigned w16 z
    → memory_place (Some ((codes "r" ++ decimal r) ++ signed_text z)) ≡ Ok (operand.Memory r z)
inner_again r (pos n) h k = cut_base r 43 (decimal n) (pos n) h refl (offset_of-signed (pos n) k)
inner_again r (negsuc n) h k = cut_base r 45 (decimal (suc n)) (negsuc n) h refl (offset_of-signed (negsuc n) k)

-- the text of a base and an offset in brackets is read as that place in memory
pub memory_again : (r : ℕ) (z : ℤ) (d : Option ℤ) → r ≤ 10 → FitsSigned w16 z
    → operand_of kind.Memory (operand_text (operand.Memory r z)) d ≡ Ok (operand.Memory r z)
memory_again r z d h k =
    let regrouped : decimal r ++ (signed_text z ++ codes "]") ≡ (decimal r ++ signed_text z) ++ codes "]" =
    sym (append_assoc (decimal r) (signed_text z) (codes "]")) in
    ap (λ bs. memory_place (inside (codes "[r" ++ bs))) regrouped
    ∙ ap memory_place (inside_brackets (codes "r" ++ (decimal r ++ signed_text z))) ∙ inner_again r z h k

-- Each field that was read, and each that was refused.
use Rattle.std.proofs.Common.{◌≡◌, ◌≢◌, ℕ, zero, suc, ◌+◌, ◌*◌, ◌/◌, ◌%◌, ◌^◌, ◌<◌, ◌≤◌, Bool, true, false, cond, ltb, List, [], ◌∷◌, ◌++◌, length, take, drop, Result, Ok, Err, refl, sym, ap, subst, ◌∙◌, inl, inr, ◌⊎◌, append_assoc, arith, lit<, Fits, w8, slice_index_or, length-drop}
use Rattle.std.specs.Prelude.{◌==◌, ◌&&◌, nat_le}
use Rattle.std.specs.Str.{bytes_eq}
use Rattle.std.specs.Int.{w16, w32, to_le_bytes, from_le_bytes}
use Rattle.std.proofs.lemmas.Bool.{ltb-false, ltb-true, eqb-true, eqb-false, leb-true, leb-false, le-leb, eq-eqb, and_parts}
use Rattle.std.proofs.Math.Facts.{Fits-lt-pow}
use Rattle.std.proofs.lemmas.Nat.{from_le_bytes-to_le_bytes_2}
use Rattle.std.proofs.lemmas.List.{take-append-drop, length-take}
use Rattle.std.proofs.lemmas.List.Concat.{flat_map-cons}
use Rattle.std.proofs.lemmas.Slice.Eq.{bytes_eq-Decides}
use Rattle.byteorder.specs.Endian.{little_number}
use Rattle.bq_bpf.specs.declared.shape.MapShape.{MapShape}
use Rattle.bq_bpf.specs.Limits.{IsShape}
use Rattle.bq_hooks.specs.declared.hook.Hook.{Hook}
use Rattle.bq_hooks.specs.declared.hook.Hook.TheVariants.{Place, Preempt, Pull}
use Rattle.bq_hooks.specs.declared.hook.Version.{Version}
use Rattle.bq_hooks.specs.declared.hook.Version.TheVariants.{First, Second}
use Rattle.bq_hooks.specs.Hooks.{version_number}
use Rattle.bq_load.specs.declared.fault.LoadFault.{LoadFault}
use Rattle.bq_load.specs.declared.fault.LoadFault.TheVariants as fault
use Rattle.bq_load.specs.Layout.{magic, hook_byte, shape_bytes, shapes_bytes}
use Rattle.bq_load.specs.Fields.{Front, Nothing, Marked, Versioned, Hooked, next_width, IsBadNext}
pub use Rattle.bq_load.specs.Laws.{AreBytes}
use Rattle.bq_load.specs.Reading.{◌>>=◌, magic_at, version_at, hook_at, read_number, count_at, is_shape, shape_at, shapes_at}
use Rattle.bq_load.proofs.ReadingLemmas.{bind_ok, met_ok, ok_is, IsNumber, number_ok}

-- numbers of which each fits in 8 bits are bytes
pub AreBytes-fit : (bytes : List ℕ) → ((i : ℕ) → Fits w8 (slice_index_or bytes i 0)) → AreBytes bytes
AreBytes-fit bytes h i = Fits-lt-pow (h i)

-- bytes without the first of them are bytes
pub AreBytes-rest : (b : ℕ) (bytes : List ℕ) → AreBytes (b ∷ bytes) → AreBytes bytes
AreBytes-rest b bytes h i = h (suc i)

-- what stands after a front of bytes is bytes
pub AreBytes-after : (front rest : List ℕ) → AreBytes (front ++ rest) → AreBytes rest
AreBytes-after [] rest h = h
AreBytes-after (b ∷ front) rest h = AreBytes-after front rest (AreBytes-rest b (front ++ rest) h)

-- what stands before a rest of bytes is bytes
pub AreBytes-front : (front rest : List ℕ) → AreBytes (front ++ rest) → AreBytes front
AreBytes-front [] rest h i = lit< tt
AreBytes-front (b ∷ front) rest h zero = h 0
AreBytes-front (b ∷ front) rest h (suc i) = AreBytes-front front rest (AreBytes-rest b (front ++ rest) h) i

-- a field is refused: it is cut, or whole and bad
abbrev pub IsRefusedField : Front → List ℕ → LoadFault → Type 0
IsRefusedField front bytes f =
    ((f ≡ fault.Cut) × (length bytes < next_width front))
    ⊎ ((field : List ℕ) × (rest : List ℕ) × (bytes ≡ field ++ rest) × (length field ≡ next_width front) × IsBadNext front field f)

-- the fault of a step, or of what follows it
pub bind_err : {A B : Type 0} (r : Result A LoadFault) (f : A → Result B LoadFault) (e : LoadFault)
    → (r >>= f) ≡ Err e → (r ≡ Err e) ⊎ ((x : A) × (r ≡ Ok x) × (f x ≡ Err e))
bind_err (Ok x) f e h = inr (x, refl, h)
bind_err (Err d) f e h = inl cc

-- the result of a reading that failed with this fault
abbrev failed : {A : Type 0} → LoadFault → Result A LoadFault
failed f = Err f

-- two results that are the same failure name the same fault
pub err_is : {A : Type 0} (f g : LoadFault) → failed {A = A} f ≡ failed {A = A} g → f ≡ g
err_is f g e = cc

-- a failure where a test finds something: the test found it, and the fault is its own
pub guard_err : {A : Type 0} (b : Bool) (d f : LoadFault) (x : A) → cond b (Err d) (Ok x) ≡ Err f → (b ≡ true) × (d ≡ f)
guard_err true d f x e = (refl, cc)
guard_err false d f x e = absurd cc

-- a failure where a test is not met: the test was not met, and the fault is its own
pub met_err : {A : Type 0} (b : Bool) (d f : LoadFault) (x : A) → cond b (Ok x) (Err d) ≡ Err f → (b ≡ false) × (d ≡ f)
met_err true d f x e = absurd cc
met_err false d f x e = (refl, cc)

-- a choice, by its test
pub chosen_by_test : {A : Type 0} (b : Bool) (x y z : A) → cond b x y ≡ z → ((b ≡ true) × (x ≡ z)) ⊎ ((b ≡ false) × (y ≡ z))
chosen_by_test true x y z e = inl (refl, e)
chosen_by_test false x y z e = inr (refl, e)

-- ---- the letters

-- if reading the letters succeeds, the bytes are the letters followed by the rest
pub magic_ok : (bytes rest : List ℕ) → magic_at bytes ≡ Ok rest → bytes ≡ magic ++ rest
unfolding magic_at
magic_ok bytes rest e =
    elim (chosen_by_test (ltb (length bytes) 4) (Err fault.Cut)
    (cond (bytes_eq (take 4 bytes) magic) (Ok (drop 4 bytes)) (Err fault.Magic)) (Ok rest) e) [
      | inl p ↦ absurd (let q = p.1 in cc)
      | inr p ↦
          let g = met_ok (bytes_eq (take 4 bytes) magic) fault.Magic (drop 4 bytes) rest p.1 in
          let is : take 4 bytes ≡ magic = (bytes_eq-Decides (take 4 bytes) magic).0 g.0 in
          sym (take-append-drop 4 bytes) ∙ ap (λ (x : List ℕ). x ++ drop 4 bytes) is ∙ ap (λ (x : List ℕ). magic ++ x) g.1
    ]

-- if reading the letters fails, there are fewer than four bytes, or the first four are others
pub magic_err : (bytes : List ℕ) (f : LoadFault) → magic_at bytes ≡ Err f → IsRefusedField Nothing bytes f
unfolding magic_at
magic_err bytes f e =
    elim (chosen_by_test (ltb (length bytes) 4) (Err fault.Cut)
    (cond (bytes_eq (take 4 bytes) magic) (Ok (drop 4 bytes)) (Err fault.Magic)) (Err f) e) [
      | inl p ↦ inl (sym (err_is {A = List ℕ} fault.Cut f p.1), ltb-true _ _ p.0)
      | inr p ↦
          let g = met_err (bytes_eq (take 4 bytes) magic) fault.Magic f (drop 4 bytes) p.1 in
          let long : 4 ≤ length bytes = ltb-false _ _ p.0 in
          let bad : take 4 bytes ≢ magic =
          λ h.
          let t : bytes_eq (take 4 bytes) magic ≡ true = (bytes_eq-Decides (take 4 bytes) magic).1 h in
          let u = g.0 in absurd cc in
          inr (
            take 4 bytes,
            drop 4 bytes,
            sym (take-append-drop 4 bytes),
            omega (arith, length-take 4 bytes),
            subst (λ (d : LoadFault). IsBadNext Nothing (take 4 bytes) d) g.1 bad,
          )
    ]

-- ---- the version

-- if reading a version succeeds, the bytes are its number followed by the rest
pub version_ok : (bytes : List ℕ) (v : Version) (rest : List ℕ) → version_at bytes ≡ Ok (v, rest) → bytes ≡ version_number v ∷ rest
unfolding version_at
version_ok [] v rest e = absurd cc
version_ok (b ∷ bs) v rest e =
    elim (chosen_by_test (b == 1) (Ok (First, bs)) (cond (b == 2) (Ok (Second, bs)) (Err fault.Version)) (Ok (v, rest)) e) [
      | inl p ↦
          let is : b ≡ 1 = eqb-true _ _ p.0 in
          subst (λ (x : Version × List ℕ). b ∷ bs ≡ version_number x.0 ∷ x.1) (ok_is (First, bs) (v, rest) p.1) (ap (λ (x : ℕ). x ∷ bs) is)
      | inr p ↦
          let g = met_ok (b == 2) fault.Version (Second, bs) (v, rest) p.1 in
          let is : b ≡ 2 = eqb-true _ _ g.0 in
          subst (λ (x : Version × List ℕ). b ∷ bs ≡ version_number x.0 ∷ x.1) g.1 (ap (λ (x : ℕ). x ∷ bs) is)
    ]

-- a byte other than 1 and 2 is no version's number
no_version : (b : ℕ) → b ≢ 1 → b ≢ 2 → (v : Version) → b ∷ [] ≢ version_number v ∷ []
no_version b one two First e = one cc
no_version b one two Second e = two cc

-- if reading a version fails, there is no byte, or the first one is no version's number
pub version_err : (bytes : List ℕ) (f : LoadFault) → version_at bytes ≡ Err f → IsRefusedField Marked bytes f
unfolding version_at
version_err [] f e = inl (sym (err_is {A = Version × List ℕ} fault.Cut f e), omega arith)
version_err (b ∷ bs) f e =
    elim (chosen_by_test (b == 1) (Ok (First, bs)) (cond (b == 2) (Ok (Second, bs)) (Err fault.Version)) (Err f) e) [
      | inl p ↦ absurd (let q = p.1 in cc)
      | inr p ↦
          let g = met_err (b == 2) fault.Version f (Second, bs) p.1 in
          inr (
            b ∷ [],
            bs,
            refl,
            refl,
            subst (λ (d : LoadFault). IsBadNext Marked (b ∷ []) d) g.1 (no_version b (eqb-false _ _ p.0) (eqb-false _ _ g.0)),
          )
    ]

-- ---- the hook

-- if reading a hook succeeds, the bytes are its byte followed by the rest
pub hook_ok : (bytes : List ℕ) (h : Hook) (rest : List ℕ) → hook_at bytes ≡ Ok (h, rest) → bytes ≡ hook_byte h ∷ rest
unfolding hook_at
hook_ok [] h rest e = absurd cc
hook_ok (b ∷ bs) h rest e =
    elim (chosen_by_test (b == 0) (Ok (Place, bs))
    (cond (b == 1) (Ok (Preempt, bs)) (cond (b == 2) (Ok (Pull, bs)) (Err fault.Hook))) (Ok (h, rest)) e) [
      | inl p ↦
          let is : b ≡ 0 = eqb-true _ _ p.0 in
          subst (λ (x : Hook × List ℕ). b ∷ bs ≡ hook_byte x.0 ∷ x.1) (ok_is (Place, bs) (h, rest) p.1) (ap (λ (x : ℕ). x ∷ bs) is)
      | inr p ↦ elim (chosen_by_test (b == 1) (Ok (Preempt, bs)) (cond (b == 2) (Ok (Pull, bs)) (Err fault.Hook)) (Ok (h, rest)) p.1) [
        | inl q ↦
            let is : b ≡ 1 = eqb-true _ _ q.0 in
            subst (λ (x : Hook × List ℕ). b ∷ bs ≡ hook_byte x.0 ∷ x.1) (ok_is (Preempt, bs) (h, rest) q.1) (ap (λ (x : ℕ). x ∷ bs) is)
        | inr q ↦
            let g = met_ok (b == 2) fault.Hook (Pull, bs) (h, rest) q.1 in
            let is : b ≡ 2 = eqb-true _ _ g.0 in
            subst (λ (x : Hook × List ℕ). b ∷ bs ≡ hook_byte x.0 ∷ x.1) g.1 (ap (λ (x : ℕ). x ∷ bs) is)
      ]
    ]

-- a byte other than 0, 1 and 2 is no hook's byte
no_hook : (b : ℕ) → b ≢ 0 → b ≢ 1 → b ≢ 2 → (h : Hook) → b ∷ [] ≢ hook_byte h ∷ []
no_hook b zero' one two Place e = zero' cc
no_hook b zero' one two Preempt e = one cc
no_hook b zero' one two Pull e = two cc

-- if reading a hook fails, there is no byte, or the first one is no hook's byte
pub hook_err : (v : Version) (bytes : List ℕ) (f : LoadFault) → hook_at bytes ≡ Err f → IsRefusedField (Versioned v) bytes f
unfolding hook_at
hook_err v [] f e = inl (sym (err_is {A = Hook × List ℕ} fault.Cut f e), omega arith)
hook_err v (b ∷ bs) f e =
    elim (chosen_by_test (b == 0) (Ok (Place, bs))
    (cond (b == 1) (Ok (Preempt, bs)) (cond (b == 2) (Ok (Pull, bs)) (Err fault.Hook))) (Err f) e) [
      | inl p ↦ absurd (let q = p.1 in cc)
      | inr p ↦
          elim (chosen_by_test (b == 1) (Ok (Preempt, bs)) (cond (b == 2) (Ok (Pull, bs)) (Err fault.Hook)) (Err f) p.1) [
            | inl q ↦ absurd (let r = q.1 in cc)
            | inr q ↦
                let g = met_err (b == 2) fault.Hook f (Pull, bs) q.1 in
                inr (
                  b ∷ [],
                  bs,
                  refl,
                  refl,
                  subst (λ (d : LoadFault). IsBadNext (Versioned v) (b ∷ []) d) g.1
                      (no_hook b (eqb-false _ _ p.0) (eqb-false _ _ q.0) (eqb-false _ _ g.0)),
                )
          ]
    ]

-- ---- numbers

-- reading a number fails only if there are fewer bytes than it has; the fault is that they are cut
pub number_err : (width : ℕ) (bytes : List ℕ) (f : LoadFault) → read_number width bytes ≡ Err f → (f ≡ fault.Cut) × (length bytes < width)
unfolding read_number
number_err width bytes f e =
    let g = guard_err (ltb (length bytes) width) fault.Cut f (little_number width bytes, drop width bytes) e in
    (sym g.1, ltb-true _ _ g.0)

-- a number that was read from two bytes is below 2^16, and the bytes are its two followed by the rest
pub half_ok : (bytes : List ℕ) (n : ℕ) (rest : List ℕ) → AreBytes bytes → IsNumber 2 bytes n rest
    → (bytes ≡ to_le_bytes w16 n ++ rest) × (n < 2 ^ 16)
half_ok (a ∷ b ∷ bs) n rest fits r =
    let fa : a < 256 = fits 0 in
    let fb : b < 256 = fits 1 in
    let is : a + 256 * (b + 256 * 0) ≡ n = r.is in
    let ea : a ≡ n % 256 = omega arith in
    let eb : b ≡ n / 256 % 256 = omega arith in
    let after : bs ≡ rest = r.after in
    (cc, omega arith)
half_ok (a ∷ []) n rest fits r = absurd (omega (arith, r.long))
half_ok [] n rest fits r = absurd (omega (arith, r.long))

-- a number that was read from four bytes is below 2^32, and the bytes are its four followed by the rest
pub word_ok : (bytes : List ℕ) (n : ℕ) (rest : List ℕ) → AreBytes bytes → IsNumber 4 bytes n rest
    → (bytes ≡ to_le_bytes w32 n ++ rest) × (n < 2 ^ 32)
word_ok (a ∷ b ∷ c ∷ d ∷ bs) n rest fits r =
    let fa : a < 256 = fits 0 in
    let fb : b < 256 = fits 1 in
    let fc : c < 256 = fits 2 in
    let fd : d < 256 = fits 3 in
    let is : a + 256 * (b + 256 * (c + 256 * (d + 256 * 0))) ≡ n = r.is in
    let ea : a ≡ n % 256 = omega arith in
    let eb : b ≡ n / 256 % 256 = omega arith in
    let ec : c ≡ n / 65536 % 256 = omega arith in
    let ed : d ≡ n / 16777216 % 256 = omega arith in
    let after : bs ≡ rest = r.after in
    (cc, omega arith)
word_ok (a ∷ b ∷ c ∷ []) n rest fits r = absurd (omega (arith, r.long))
word_ok (a ∷ b ∷ []) n rest fits r = absurd (omega (arith, r.long))
word_ok (a ∷ []) n rest fits r = absurd (omega (arith, r.long))
word_ok [] n rest fits r = absurd (omega (arith, r.long))

-- two bytes are one number
pub one_half : (m n : ℕ) → m < 2 ^ 16 → n < 2 ^ 16 → to_le_bytes w16 m ≡ to_le_bytes w16 n → m ≡ n
one_half m n lm ln e = sym (from_le_bytes-to_le_bytes_2 m lm) ∙ ap (from_le_bytes w16) e ∙ from_le_bytes-to_le_bytes_2 n ln

-- ---- the number of maps

-- a number of maps that was read is at most `MAPS`, and the bytes are its two followed by the rest
pub count_ok : (bytes : List ℕ) (n : ℕ) (rest : List ℕ) → AreBytes bytes → count_at bytes ≡ Ok (n, rest)
    → (bytes ≡ to_le_bytes w16 n ++ rest) × (n ≤ 8)
unfolding count_at
count_ok bytes n rest fits e =
    let a = bind_ok (read_number 2 bytes) (λ count. cond (nat_le count.0 8) (Ok count) (Err fault.Shape)) (n, rest) e in
    let g = met_ok (nat_le a.0.0 8) fault.Shape a.0 (n, rest) a.2 in
    let made = half_ok bytes a.0.0 a.0.1 fits (number_ok 2 bytes a.0.0 a.0.1 a.1) in
    subst (λ (x : ℕ × List ℕ). (bytes ≡ to_le_bytes w16 x.0 ++ x.1) × (x.0 ≤ 8)) g.1 (made.0, leb-true _ _ g.0)

-- if reading the number of maps fails, its two bytes are cut, or spell a number over `MAPS`
pub count_err : (v : Version) (h : Hook) (bytes : List ℕ) (f : LoadFault)
    → AreBytes bytes → count_at bytes ≡ Err f → IsRefusedField (Hooked v h) bytes f
unfolding count_at
count_err v h bytes f fits e =
    elim (bind_err (read_number 2 bytes) (λ count. cond (nat_le count.0 8) (Ok count) (Err fault.Shape)) f e) [
      | inl p ↦ inl (number_err 2 bytes f p)
      | inr p ↦
          let x = p.0 in
          let g = met_err (nat_le x.0 8) fault.Shape f x p.2 in
          let made = half_ok bytes x.0 x.1 fits (number_ok 2 bytes x.0 x.1 p.1) in
          let over : 8 < x.0 = leb-false _ _ g.0 in
          let bad : (count : ℕ) → count ≤ 8 → to_le_bytes w16 x.0 ≢ to_le_bytes w16 count =
          λ (count : ℕ) (few : count ≤ 8) (same : to_le_bytes w16 x.0 ≡ to_le_bytes w16 count).
          let is : x.0 ≡ count = one_half x.0 count made.1 (omega arith) same in absurd (omega arith) in
          inr (to_le_bytes w16 x.0, x.1, made.0, refl, subst (λ (d : LoadFault). IsBadNext (Hooked v h) (to_le_bytes w16 x.0) d) g.1 bad)
    ]

-- ---- shapes

-- the shape of two numbers within the limits
unfoldable pub shape_of : (size entries : ℕ) → IsShape size entries → MapShape
shape_of size entries h = record {
  value_size = size;
  entries = entries;
  least_size = h.least_size;
  greatest_size = h.greatest_size;
  eights = h.eights;
  least_entries = h.least_entries;
  greatest_entries = h.greatest_entries;
}

-- the bytes of a shape that is made of two numbers are those of the numbers
pub shape_of-bytes : (size entries : ℕ) (h : IsShape size entries)
    → shape_bytes (shape_of size entries h) ≡ to_le_bytes w16 size ++ to_le_bytes w16 entries
unfolding shape_of
shape_of-bytes size entries h = refl

-- two numbers that pass the test of a shape are within its limits
pub is_shape-limits : (size entries : ℕ) → is_shape size entries ≡ true → IsShape size entries
is_shape-limits size entries e =
    let a = and_parts (nat_le 8 size && (nat_le size 256 && (size % 8 == 0))) (nat_le 1 entries && nat_le entries 256) e in
    let b = and_parts (nat_le 8 size) (nat_le size 256 && (size % 8 == 0)) a.0 in
    let c = and_parts (nat_le size 256) (size % 8 == 0) b.1 in
    let d = and_parts (nat_le 1 entries) (nat_le entries 256) a.1 in
    record {
      least_size = leb-true _ _ b.0;
      greatest_size = leb-true _ _ c.0;
      eights = eqb-true _ _ c.1;
      least_entries = leb-true _ _ d.0;
      greatest_entries = leb-true _ _ d.1;
    }

-- two numbers within the limits of a shape pass its test
pub is_shape-met : (size entries : ℕ) → IsShape size entries → is_shape size entries ≡ true
is_shape-met size entries h =
    let a : nat_le 8 size ≡ true = le-leb _ _ h.least_size in
    let b : nat_le size 256 ≡ true = le-leb _ _ h.greatest_size in
    let c : (size % 8 == 0) ≡ true = eq-eqb _ _ h.eights in
    let d : nat_le 1 entries ≡ true = le-leb _ _ h.least_entries in
    let e : nat_le entries 256 ≡ true = le-leb _ _ h.greatest_entries in
    rw (a, b, c, d, e) refl

-- the two numbers of a shape are within the limits
unfoldable pub shape_facts : (s : MapShape) → IsShape s.value_size s.entries
shape_facts s = record {
  least_size = s.least_size;
  greatest_size = s.greatest_size;
  eights = s.eights;
  least_entries = s.least_entries;
  greatest_entries = s.greatest_entries;
}

-- what was read of a shape
pub record IsRead (bytes rest : List ℕ) (size entries : ℕ) : Type 0 where
  pub bytes_are : bytes ≡ (to_le_bytes w16 size ++ to_le_bytes w16 entries) ++ rest
  pub size_fits : size < 2 ^ 16
  pub entries_fit : entries < 2 ^ 16

-- two numbers that were read, from two bytes each, are below 2^16, and the bytes are theirs followed by the rest
pub two_halves : (bytes : List ℕ) (size entries : ℕ) (middle rest : List ℕ)
    → AreBytes bytes → read_number 2 bytes ≡ Ok (size, middle) → read_number 2 middle ≡ Ok (entries, rest)
    → IsRead bytes rest size entries
two_halves bytes size entries middle rest fits e f =
    let a = half_ok bytes size middle fits (number_ok 2 bytes size middle e) in
    let after : AreBytes (to_le_bytes w16 size ++ middle) = subst AreBytes a.0 fits in
    let b = half_ok middle entries rest (AreBytes-after (to_le_bytes w16 size) middle after) (number_ok 2 middle entries rest f) in
    record {
      bytes_are = a.0 ∙ ap (λ (x : List ℕ). to_le_bytes w16 size ++ x) b.0;
      size_fits = a.1;
      entries_fit = b.1;
    }

-- if reading a shape succeeds, the bytes are a shape's followed by the rest
pub shape_ok : (bytes rest : List ℕ) → AreBytes bytes → shape_at bytes ≡ Ok rest → (s : MapShape) × (bytes ≡ shape_bytes s ++ rest)
unfolding shape_at shape_of
shape_ok bytes rest fits e =
    let a =
    bind_ok (read_number 2 bytes)
    (λ size. read_number 2 size.1 >>= λ entries. cond (is_shape size.0 entries.0) (Ok entries.1) (Err fault.Shape)) rest e in
    let b = bind_ok (read_number 2 a.0.1) (λ entries. cond (is_shape a.0.0 entries.0) (Ok entries.1) (Err fault.Shape)) rest a.2 in
    let g = met_ok (is_shape a.0.0 b.0.0) fault.Shape b.0.1 rest b.2 in
    let read = two_halves bytes a.0.0 b.0.0 a.0.1 b.0.1 fits a.1 b.1 in
    let s = shape_of a.0.0 b.0.0 (is_shape-limits a.0.0 b.0.0 g.0) in
    let is : bytes ≡ shape_bytes s ++ b.0.1 = read.bytes_are in
    (s, subst (λ (r : List ℕ). bytes ≡ shape_bytes s ++ r) g.1 is)

-- a shape is refused: it is cut, or whole and out of its limits
abbrev pub IsRefusedShape : List ℕ → LoadFault → Type 0
IsRefusedShape bytes f =
    ((f ≡ fault.Cut) × (length bytes < 4))
    ⊎ ((field : List ℕ) × (rest : List ℕ) × (bytes ≡ field ++ rest) × (length field ≡ 4) × (f ≡ fault.Shape)
    × ((s : MapShape) → field ≢ shape_bytes s))

-- the bytes of two numbers that fail the test of a shape are no shape's
no_shape : (size entries : ℕ) → size < 2 ^ 16 → entries < 2 ^ 16 → is_shape size entries ≡ false
    → (s : MapShape) → to_le_bytes w16 size ++ to_le_bytes w16 entries ≢ shape_bytes s
no_shape size entries ls le out s e =
    let sizes : to_le_bytes w16 size ≡ to_le_bytes w16 s.value_size = cc in
    let counts : to_le_bytes w16 entries ≡ to_le_bytes w16 s.entries = cc in
    let facts = shape_facts s in
    let a : size ≡ s.value_size = one_half size s.value_size ls (omega (arith, facts.greatest_size)) sizes in
    let b : entries ≡ s.entries = one_half entries s.entries le (omega (arith, facts.greatest_entries)) counts in
    let yes : is_shape size entries ≡ true = rw (a, b) (is_shape-met s.value_size s.entries facts) in
    absurd cc

-- if reading a shape fails, it is cut, or its four bytes are no shape's
pub shape_err : (bytes : List ℕ) (f : LoadFault) → AreBytes bytes → shape_at bytes ≡ Err f → IsRefusedShape bytes f
unfolding shape_at
shape_err bytes f fits e =
    elim (bind_err (read_number 2 bytes)
    (λ size. read_number 2 size.1 >>= λ entries. cond (is_shape size.0 entries.0) (Ok entries.1) (Err fault.Shape)) f e) [
      | inl p ↦ let n = number_err 2 bytes f p in inl (n.0, omega (arith, n.1))
      | inr p ↦
          elim (bind_err (read_number 2 p.0.1) (λ entries. cond (is_shape p.0.0 entries.0) (Ok entries.1) (Err fault.Shape)) f p.2) [
            | inl q ↦
                let n = number_err 2 p.0.1 f q in
                let first = number_ok 2 bytes p.0.0 p.0.1 p.1 in
                inl (n.0, omega (arith, n.1, first.long, ap length first.after, length-drop 2 bytes))
            | inr q ↦
                let g = met_err (is_shape p.0.0 q.0.0) fault.Shape f q.0.1 q.2 in
                let read = two_halves bytes p.0.0 q.0.0 p.0.1 q.0.1 fits p.1 q.1 in
                inr (
                  to_le_bytes w16 p.0.0 ++ to_le_bytes w16 q.0.0,
                  q.0.1,
                  read.bytes_are,
                  refl,
                  sym g.1,
                  no_shape p.0.0 q.0.0 read.size_fits read.entries_fit g.0,
                )
          ]
    ]

-- if reading some number of shapes succeeds, the bytes are those of as many shapes followed by the rest
pub shapes_ok : (n : ℕ) (bytes rest : List ℕ) → AreBytes bytes → shapes_at n bytes ≡ Ok rest
    → (shapes : List MapShape) × (length shapes ≡ n) × (bytes ≡ shapes_bytes shapes ++ rest)
unfolding shapes_at
shapes_ok zero bytes rest fits e = ([], refl, ok_is bytes rest e)
shapes_ok (suc n) bytes rest fits e =
    let a = bind_ok (shape_at bytes) (shapes_at n) rest e in
    let s = shape_ok bytes a.0 fits a.1 in
    let after : AreBytes a.0 = AreBytes-after (shape_bytes s.0) a.0 (subst AreBytes s.1 fits) in
    let others = shapes_ok n a.0 rest after a.2 in
    let joined : shape_bytes s.0 ++ (shapes_bytes others.0 ++ rest) ≡ shapes_bytes (s.0 ∷ others.0) ++ rest =
    sym (append_assoc (shape_bytes s.0) (shapes_bytes others.0) rest)
    ∙ ap (λ (x : List ℕ). x ++ rest) (sym (flat_map-cons shape_bytes s.0 others.0)) in
    (s.0 ∷ others.0, ap suc others.1, s.1 ∙ ap (λ (x : List ℕ). shape_bytes s.0 ++ x) others.2 ∙ joined)

-- some good shapes, and then one that is refused
pub record HasRefusedShape (n : ℕ) (bytes : List ℕ) (f : LoadFault) : Type 0 where
  pub shapes : List MapShape
  pub rest : List ℕ
  pub few : length shapes < n
  pub bytes_are : bytes ≡ shapes_bytes shapes ++ rest
  pub refused : IsRefusedShape rest f

-- if reading some number of shapes fails, the bytes begin with fewer shapes, and the next one is cut or bad
pub shapes_err : (n : ℕ) (bytes : List ℕ) (f : LoadFault) → AreBytes bytes → shapes_at n bytes ≡ Err f → HasRefusedShape n bytes f
unfolding shapes_at
shapes_err zero bytes f fits e = absurd cc
shapes_err (suc n) bytes f fits e =
    elim (bind_err (shape_at bytes) (shapes_at n) f e) [
      | inl p ↦ record { shapes = []; rest = bytes; few = omega arith; bytes_are = refl; refused = shape_err bytes f fits p }
      | inr p ↦
          let s = shape_ok bytes p.0 fits p.1 in
          let after : AreBytes p.0 = AreBytes-after (shape_bytes s.0) p.0 (subst AreBytes s.1 fits) in
          let others = shapes_err n p.0 f after p.2 in
          let joined : shape_bytes s.0 ++ (shapes_bytes others.shapes ++ others.rest)
          ≡ shapes_bytes (s.0 ∷ others.shapes) ++ others.rest =
          sym (append_assoc (shape_bytes s.0) (shapes_bytes others.shapes) others.rest)
          ∙ ap (λ (x : List ℕ). x ++ others.rest) (sym (flat_map-cons shape_bytes s.0 others.shapes)) in
          record {
            shapes = s.0 ∷ others.shapes;
            rest = others.rest;
            few = omega (arith, others.few);
            bytes_are = s.1 ∙ ap (λ (x : List ℕ). shape_bytes s.0 ++ x) others.bytes_are ∙ joined;
            refused = others.refused;
          }
    ]

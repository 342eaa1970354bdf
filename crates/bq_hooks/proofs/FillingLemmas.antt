-- A list that is filled from its beginning on.
use Rattle.std.proofs.Common.{◌≡◌, ℕ, zero, suc, ◌+◌, ◌*◌, ◌≤◌, List, ◌++◌, length, take, drop, ap, sym, subst, ◌∙◌, arith, append_assoc, length-append}
use Rattle.std.proofs.lemmas.List.{length-take-le, take_all, append-nil}
use Rattle.std.proofs.Math.Nat.{mul-add}
use Rattle.std.specs.List.{flat_map, range_with_len}
use Rattle.bq_hooks.specs.Contexts.{four_bytes}
use Rattle.std.proofs.Math.Seq.{take-append_seam}
use borrow.Rule.Slice.PartMut.{put_mid}

-- what was written behind the first `at` items stands there
pub filled_behind : (at n k : ℕ) (xs ys bytes rest : List ℕ) → ys ≡ bytes ++ rest → length bytes ≡ n → at ≤ length xs
    → take (at + n) (put_mid at k xs ys) ≡ take at xs ++ bytes
filled_behind at n k xs ys bytes rest e l h =
    let whole : List ℕ = take at xs ++ bytes in
    let after : List ℕ = drop k (drop at xs) in
    let same : put_mid at k xs ys ≡ whole ++ (rest ++ after) =
    ap (λ z. take at xs ++ (z ++ after)) e ∙ ap (λ z. take at xs ++ z) (append_assoc bytes rest after)
    ∙ sym (append_assoc (take at xs) bytes (rest ++ after)) in
    let long : length whole ≡ at + n = omega (arith, length-append (take at xs) bytes, length-take-le at xs h, l) in
    ap (take (at + n)) same ∙ ap (λ m. take m (whole ++ (rest ++ after))) (sym long) ∙ take-append_seam whole (rest ++ after)

-- one number more behind some that stand at a place
next_filled : (at here there : ℕ) (c0 c1 c2 done z : List ℕ) → take here c1 ≡ take at c0 ++ done
    → take there c2 ≡ take here c1 ++ z
    → take there c2 ≡ take at c0 ++ (done ++ z)
next_filled at here there c0 c1 c2 done z h1 h2 = h2 ∙ ap (λ l. l ++ z) h1 ∙ append_assoc (take at c0) done z

-- three numbers behind one another
pub three_filled : (at : ℕ) (c0 c1 c2 c3 x y z : List ℕ) → take (at + 4) c1 ≡ take at c0 ++ x
    → take (at + 4 + 4) c2 ≡ take (at + 4) c1 ++ y → take (at + 8 + 8) c3 ≡ take (at + 8) c2 ++ z
    → take (at + 16) c3 ≡ take at c0 ++ (x ++ y ++ z)
three_filled at c0 c1 c2 c3 x y z h1 h2 h3 =
    let second : take (at + 8) c2 ≡ take at c0 ++ (x ++ y) =
    ap (λ n. take n c2) (omega arith) ∙ next_filled at (at + 4) (at + 4 + 4) c0 c1 c2 x y h1 h2 in
    ap (λ n. take n c3) (omega arith) ∙ next_filled at (at + 8) (at + 8 + 8) c0 c2 c3 (x ++ y) z second h3

-- four numbers behind one another
pub four_filled : (at : ℕ) (c0 c1 c2 c3 c4 x y z w : List ℕ) → take (at + 4) c1 ≡ take at c0 ++ x
    → take (at + 4 + 4) c2 ≡ take (at + 4) c1 ++ y → take (at + 8 + 4) c3 ≡ take (at + 8) c2 ++ z
    → take (at + 12 + 4) c4 ≡ take (at + 12) c3 ++ w
    → take (at + 16) c4 ≡ take at c0 ++ (x ++ y ++ z ++ w)
four_filled at c0 c1 c2 c3 c4 x y z w h1 h2 h3 h4 =
    let second : take (at + 8) c2 ≡ take at c0 ++ (x ++ y) =
    ap (λ n. take n c2) (omega arith) ∙ next_filled at (at + 4) (at + 4 + 4) c0 c1 c2 x y h1 h2 in
    let third : take (at + 12) c3 ≡ take at c0 ++ (x ++ y ++ z) =
    ap (λ n. take n c3) (omega arith) ∙ next_filled at (at + 8) (at + 8 + 4) c0 c2 c3 (x ++ y) z second h3 in
    ap (λ n. take n c4) (omega arith) ∙ next_filled at (at + 12) (at + 12 + 4) c0 c3 c4 (x ++ y ++ z) w third h4

-- equal numbers have equal bytes
pub four_same : {a b c d a' b' c' d' : ℕ} → a ≡ a' → b ≡ b' → c ≡ c' → d ≡ d' → four_bytes a b c d ≡ four_bytes a' b' c' d'
four_same {a} {b} {c} {d} {a'} {b'} {c'} {d'} e f g h =
    ap (λ n. four_bytes n b c d) e ∙ ap (λ n. four_bytes a' n c d) f ∙ ap (λ n. four_bytes a' b' n d) g ∙ ap (λ n. four_bytes a' b' c' n) h

-- what was filled to its end is what stands there
pub filled_whole : (n : ℕ) (c bytes : List ℕ) → take n c ≡ bytes → length c ≡ n → c ≡ bytes
filled_whole n c bytes e l = sym (take_all n c (omega arith)) ∙ e

-- more bytes are filled behind those filled so far
pub more_filled : (n m : ℕ) (c c' done a b : List ℕ) → take m c' ≡ take n c ++ a → a ≡ b → take n c ≡ done → take m c' ≡ done ++ b
more_filled n m c c' done a b e same h = e ∙ ap (λ l. l ++ a) h ∙ ap (λ l. done ++ l) same

-- one more piece at the end
pieces-more : (f : ℕ → List ℕ) (a k : ℕ) → flat_map f (range_with_len a (k + 1)) ≡ flat_map f (range_with_len a k) ++ f (a + k)
pieces-more f a zero = let here : a ≡ a + 0 = omega arith in append-nil (f a) ∙ ap f here
pieces-more f a (suc k) =
    let rest : List ℕ = flat_map f (range_with_len (a + 1) k) in
    let there : a + 1 + k ≡ a + suc k = omega arith in
    let longer : suc k + 1 ≡ suc (k + 1) = omega arith in
    ap (λ n. flat_map f (range_with_len a n)) longer ∙ ap (λ l. f a ++ l) (pieces-more f (a + 1) k)
    ∙ sym (append_assoc (f a) rest (f (a + 1 + k))) ∙ ap (λ i. f a ++ rest ++ f i) there

-- one more of the equally long pieces behind a header
pub piece_filled : (start size k : ℕ) (header : List ℕ) (piece : ℕ → List ℕ) (c c' : List ℕ)
    → take (start + size * k) c ≡ header ++ flat_map piece (range_with_len 0 k)
    → take (start + size * k + size) c' ≡ take (start + size * k) c ++ piece k
    → take (start + size * (k + 1)) c' ≡ header ++ flat_map piece (range_with_len 0 (k + 1))
piece_filled start size k header piece c c' done e =
    let further : start + size * (k + 1) ≡ start + size * k + size = omega (arith, mul-add size k 1) in
    let here : k ≡ 0 + k = omega arith in
    let pieces : List ℕ = flat_map piece (range_with_len 0 k) in
    ap (λ n. take n c') further ∙ e ∙ ap (λ l. l ++ piece k) done ∙ append_assoc header pieces (piece k)
    ∙ ap (λ i. header ++ (pieces ++ piece i)) here ∙ ap (λ l. header ++ l) (sym (pieces-more piece 0 k))

-- once all pieces are filled in the bytes are the header and all pieces
pub pieces_filled : (start size n k : ℕ) (header : List ℕ) (piece : ℕ → List ℕ) (c : List ℕ)
    → k ≡ n → take (start + size * k) c ≡ header ++ flat_map piece (range_with_len 0 k) → length c ≡ start + size * n
    → c ≡ header ++ flat_map piece (range_with_len 0 n)
pieces_filled start size n k header piece c end done l =
    filled_whole (start + size * n) c (header ++ flat_map piece (range_with_len 0 n))
    (subst (λ m. take (start + size * m) c ≡ header ++ flat_map piece (range_with_len 0 m)) end done) l

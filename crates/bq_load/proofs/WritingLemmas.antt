-- What is written for an image is that image.
use Rattle.std.proofs.Common.{◌≡◌, ℕ, ◌*◌, ◌/◌, ◌%◌, ◌≤◌, true, length, List, ◌++◌, ◌∙◌, ap, sym, append_assoc, arith}
use Rattle.std.specs.Prelude.{◌==◌, ◌&&◌, nat_le}
use Rattle.std.proofs.lemmas.Bool.Decides.{nat_tests}
use Rattle.bq_insn.specs.Faults.{is_program_length}
use Rattle.bq_load.specs.declared.image.Image.{Image}
use Rattle.bq_load.specs.Answers.{SpellsImage}
use Rattle.bq_load.specs.Layout.{Header}
use Rattle.bq_load.specs.Writing.{written_image}
use Rattle.bq_load.proofs.HeaderLemmas.{regroup_header}

-- a good length of a program is eight bytes for each of 1 to 4096 slots:
eights : (n : ℕ) → ((n % 8 == 0) && (nat_le 1 n && nat_le n 32768)) ≡ true → n ≡ 8 * (n / 8)
eights n h = grind (arith, nat_tests)

at_least_one : (n : ℕ) → ((n % 8 == 0) && (nat_le 1 n && nat_le n 32768)) ≡ true → 1 ≤ n / 8
at_least_one n h = grind (arith, nat_tests)

at_most : (n : ℕ) → ((n % 8 == 0) && (nat_le 1 n && nat_le n 32768)) ≡ true → n / 8 ≤ 4096
at_most n h = grind (arith, nat_tests)

-- what is written for an image of a program of good length is that image
pub is_written : (image : Image) → is_program_length image.program.items ≡ true → SpellsImage (written_image image) image
is_written image whole =
    let slots = length image.program.items / 8 in
    let header : Header =
    record { version = image.form.version; hook = image.form.hook; shapes = image.form.shapes.items; slots = slots } in
    let most : slots ≤ 4096 = at_most (length image.program.items) whole in
    record {
      slots = slots;
      some = at_least_one (length image.program.items) whole;
      most = most;
      framed = record {
        header = record { few = image.form.few; slots = omega arith };
        whole = eights (length image.program.items) whole;
        bytes_are = regroup_header header image.program.items;
      };
    }

-- parts that were appended one after another, and what each of them is, are what was appended of all of them together
pub four_parts : (old one two three new p q r s a b c d : List ℕ) → one ≡ old ++ p → two ≡ one ++ q → three ≡ two ++ r → new ≡ three ++ s
    → p ≡ a → q ≡ b → r ≡ c → s ≡ d → new ≡ old ++ (a ++ (b ++ (c ++ d)))
four_parts old one two three new p q r s a b c d first second third fourth is-a is-b is-c is-d =
    rw (sym is-a, sym is-b, sym is-c, sym is-d) (fourth ∙ ap (λ (x : List ℕ). x ++ s) third ∙ append_assoc two r s
    ∙ ap (λ (x : List ℕ). x ++ (r ++ s)) second ∙ append_assoc one q (r ++ s)
    ∙ ap (λ (x : List ℕ). x ++ (q ++ (r ++ s))) first ∙ append_assoc old p (q ++ (r ++ s)))

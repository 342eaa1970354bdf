-- The text of a policy is read as that policy, and as no other.
use Rattle.std.proofs.Common.{◌≡◌, ℕ, zero, suc, List, [], ◌∷◌, ◌++◌, map, Some, None, Option, refl, sym, ap, subst, ◌∙◌, option_map, unwrap_or}
use Rattle.std.specs.Prelude.{replicate}
use Rattle.std.specs.Map.{keys_of}
use Rattle.std.specs.Str.Lines.{lines}
use Rattle.std.proofs.lemmas.List.{map-append}
use Rattle.bq_bpf.specs.declared.shape.MapShape.{MapShape}
use Rattle.bq_insn.specs.declared.Insn.{Insn}
use Rattle.bq_insn.specs.Laws.{AllFit}
use Rattle.bq_hooks.specs.declared.hook.Hook.{Hook}
use Rattle.bq_hooks.specs.declared.hook.Version.{Version}
use Rattle.bq_hooks.specs.declared.hook.Version.TheVariants.{First, Second}
use Rattle.bq_asm.specs.Assembly.{Assembles, AreNewLabels, AssemblesFrom, places_from}
use Rattle.bq_asm.specs.Lines.{Line, Blank, parsed_line, lines_of}
use Rattle.bq_asm.specs.Text.{listing_text}
use Rattle.bq_asm.proofs.LawLemmas.{no_program_is_faulty, one_program}
use Rattle.bq_asm.proofs.ListingLemmas.{listing_assembles}
use Rattle.bq_policy_file.specs.declared.fault.PolicyFault.{PolicyFault}
use Rattle.bq_policy_file.specs.declared.fault.PolicyFault.TheVariants as fault
use Rattle.bq_policy_file.specs.declared.head.Head.{Head}
use Rattle.bq_policy_file.specs.declared.kind.FileKind.TheVariants as kind
use Rattle.bq_policy_file.specs.declared.policy_source.PolicySource.{PolicySource}
use Rattle.bq_policy_file.specs.Files.{AgreesWithHead, IsFaultOfKind, IsPolicyOfKind, IsOfText, IsTextFault, CombineTo, either, kind_of, shapes_in_head}
use Rattle.bq_policy_file.specs.Heads.{StatesHead}
use Rattle.bq_policy_file.specs.ReadBack.{AsksNothing, IsFileOf, IsReadBackFrom, IsSamePolicy}
use Rattle.bq_policy_file.proofs.LineLemmas.{AreClean, ended, lines_ended, text_ended, clean_append}
use Rattle.bq_policy_file.proofs.MarkLemmas.{AreNoMarks, mark_lines, marks_blank, marks_clean, stated_head, states_policy, maps_stated, format_stated}
use Rattle.bq_policy_file.proofs.NoFaultLemmas.{no_bad_line, nothing_differs}
use Rattle.bq_policy_file.proofs.OneHeadLemmas.{one_hook, one_format, one_maps}

-- lines that say the instructions, and no mark
pub record AreLines (insns : List Insn) (ls : List (List ℕ)) : Type 0 where
  pub clean : AreClean ls
  pub no_marks : AreNoMarks ls
  pub stated : map parsed_line ls ≡ lines_of (listing_text insns)

-- blank lines set no label and take no slot
places_after : (n : ℕ) (ls : List Line) → places_from 0 (replicate n Blank ++ ls) ≡ places_from 0 ls
places_after zero ls = refl
places_after (suc n) ls = places_after n ls

-- lines assemble to the same instructions after blank lines
assembles_behind : (places : List (List ℕ × ℕ)) (n : ℕ) (ls : List Line) (insns : List Insn)
    → AssemblesFrom places 0 ls insns → AssemblesFrom places 0 (replicate n Blank ++ ls) insns
assembles_behind places zero ls insns h = h
assembles_behind places (suc n) ls insns h = assembles_behind places n ls insns h

-- a text that says the same after blank lines stands for the same instructions
assembles_after : (text other : List ℕ) (n : ℕ) (insns : List Insn)
    → lines_of text ≡ replicate n Blank ++ lines_of other → Assembles other insns → Assembles text insns
assembles_after text other n insns e a =
    let places = places_after n (lines_of other) in
    record {
      labels =
          subst (λ ls. AreNewLabels [] (keys_of (places_from 0 ls))) (sym e)
          (subst (λ ps. AreNewLabels [] (keys_of ps)) (sym places) a.labels);
      assembles =
          subst (λ ls. AssemblesFrom (places_from 0 ls) 0 ls insns) (sym e)
          (subst (λ ps. AssemblesFrom ps 0 (replicate n Blank ++ lines_of other) insns) (sym places)
          (assembles_behind (places_from 0 (lines_of other)) n (lines_of other) insns a.assembles));
      some = a.some;
      few = a.few;
    }

-- the text of a policy, by its lines
abbrev pub text_of : PolicySource → List (List ℕ) → List ℕ
text_of p ls = ended (mark_lines p.form.hook p.form.shapes.items p.form.version ++ ls)

-- the lines of a policy's text are its marks, and then these lines
text_lines : (p : PolicySource) (ls : List (List ℕ)) → AreClean ls
    → lines (text_of p ls) ≡ mark_lines p.form.hook p.form.shapes.items p.form.version ++ ls
text_lines p ls h =
    let marks = mark_lines p.form.hook p.form.shapes.items p.form.version in
    lines_ended (marks ++ ls) (clean_append marks ls (marks_clean p.form.hook p.form.shapes.items p.form.version) h)

-- it stands for the policy's program
assembles_again : (p : PolicySource) (ls : List (List ℕ)) → AllFit p.insns.items → AreLines p.insns.items ls
    → Assembles (text_of p ls) p.insns.items
assembles_again p ls fit h =
    let marks = mark_lines p.form.hook p.form.shapes.items p.form.version in
    let blank = marks_blank p.form.hook p.form.shapes.items p.form.version in
    let same : lines_of (text_of p ls) ≡ replicate blank.0 Blank ++ lines_of (listing_text p.insns.items) =
    ap (map parsed_line) (text_lines p ls h.clean) ∙ map-append parsed_line marks ls ∙ (λ i. blank.1 i ++ h.stated i) in
    assembles_after (text_of p ls) (listing_text p.insns.items) blank.0 p.insns.items same (listing_assembles p.insns.items p.whole fit)

-- its marks say the policy's head
states_again : (p : PolicySource) (ls : List (List ℕ)) → AreLines p.insns.items ls → StatesHead (lines (text_of p ls)) (stated_head p)
states_again p ls h = subst (λ l. StatesHead l (stated_head p)) (sym (text_lines p ls h.clean)) (states_policy p ls h.no_marks)

-- what the head decides, where nothing is asked for
map_shapes : (p : PolicySource) (items : List MapShape) → p.form.shapes.items ≡ items
    → p.form.shapes.items ≡ unwrap_or (option_map (λ s. s.items) (maps_stated p.form.shapes items)) []
map_shapes p [] e = e
map_shapes p (first ∷ rest) e = refl

-- a version is what its mark says, or else the first
version_stated : (v : Version) → v ≡ unwrap_or (format_stated v) First
version_stated First = refl
version_stated Second = refl

-- nothing that is asked for differs
agrees_nothing : (h : Head) (hook : Option Hook) (maps : Option (List MapShape)) (format : Option Version)
    → AsksNothing h → AgreesWithHead h hook maps format
agrees_nothing h hook maps format a = record {
  hooks = rw a.hook tt;
  shapes = rw a.maps tt;
  formats = rw a.format tt;
}

-- where nothing is asked for, what the marks of a policy say is its hook, its maps and its version
combine_to_policy : (p : PolicySource) (h : Head) → AsksNothing h
    → CombineTo h (stated_head p) p.form.hook p.form.shapes.items p.form.version
combine_to_policy p h a = record {
  agrees = agrees_nothing h (Some p.form.hook) (shapes_in_head (stated_head p)) (format_stated p.form.version) a;
  hook_is = rw a.hook refl;
  shapes_are = rw a.maps (map_shapes p p.form.shapes.items refl);
  version_is = rw a.format (version_stated p.form.version);
}

-- a text that begins with a mark is no image and no hex
text_kind : (p : PolicySource) (ls : List (List ℕ)) → kind_of (text_of p ls) ≡ kind.Text
text_kind p ls = refl

-- what is read of the text is the policy
same_read : (p q : PolicySource) (ls : List (List ℕ)) (h : Head)
    → AllFit p.insns.items → AreLines p.insns.items ls → AsksNothing h → IsOfText (text_of p ls) h q
    → IsSamePolicy p q
same_read p q ls h fit are a o =
    let states = states_again p ls are in
    let all = lines (text_of p ls) in
    let hook : o.stated.hook ≡ Some q.form.hook = subst (λ x. either x o.stated.hook ≡ Some q.form.hook) a.hook o.combined.hook_is in
    let same_hook : Some q.form.hook ≡ Some p.form.hook = sym hook ∙ one_hook all o.stated (stated_head p) o.head states in
    let shapes : q.form.shapes.items ≡ unwrap_or (shapes_in_head o.stated) [] =
    subst (λ x. q.form.shapes.items ≡ unwrap_or (either (option_map (λ s. s.items) x) (shapes_in_head o.stated)) []) a.maps
    o.combined.shapes_are in
    let version : q.form.version ≡ unwrap_or o.stated.format First =
    subst (λ x. q.form.version ≡ unwrap_or (either x o.stated.format) First) a.format o.combined.version_is in
    record {
      hook = cc;
      version =
          version ∙ ap (λ x. unwrap_or x First) (one_format all o.stated (stated_head p) o.head states)
          ∙ sym (version_stated p.form.version);
      shapes =
          shapes ∙ ap (λ x. unwrap_or x []) (one_maps all o.stated (stated_head p) o.head states)
          ∙ sym (map_shapes p p.form.shapes.items refl);
      insns = one_program (text_of p ls) q.insns.items p.insns.items o.assembles (assembles_again p ls fit are);
    }

-- each policy that is the same, with the text's lines, is read of the text
is_read : (p q : PolicySource) (ls : List (List ℕ)) (h : Head)
    → AllFit p.insns.items → AreLines p.insns.items ls → AsksNothing h → IsReadBackFrom (text_of p ls) p q
    → IsOfText (text_of p ls) h q
is_read p q ls h fit are a f =
    let marks = mark_lines p.form.hook p.form.shapes.items p.form.version in
    let first : CombineTo h (stated_head p) q.form.hook p.form.shapes.items p.form.version =
    subst (λ x. CombineTo h (stated_head p) x p.form.shapes.items p.form.version) (sym f.same.hook)
    (combine_to_policy p h a) in
    let second : CombineTo h (stated_head p) q.form.hook q.form.shapes.items p.form.version =
    subst (λ x. CombineTo h (stated_head p) q.form.hook x p.form.version) (sym f.same.shapes) first in
    record {
      text = text_ended (marks ++ ls) (clean_append marks ls (marks_clean p.form.hook p.form.shapes.items p.form.version) are.clean);
      stated = stated_head p;
      head = states_again p ls are;
      combined = subst (λ x. CombineTo h (stated_head p) q.form.hook q.form.shapes.items x) (sym f.same.version) second;
      assembles = subst (Assembles (text_of p ls)) (sym f.same.insns) (assembles_again p ls fit are);
      lines = f.lines;
    }

-- it has none of the faults of a text
no_text_fault : (p : PolicySource) (ls : List (List ℕ)) (h : Head) (named : PolicyFault)
    → AllFit p.insns.items → AreLines p.insns.items ls → AsksNothing h → IsTextFault (text_of p ls) h named
    → named ≡ fault.OutOfMemory
no_text_fault p ls h fault.OutOfMemory fit are a f = refl
no_text_fault p ls h fault.Text fit are a f =
    absurd (f (text_ended (mark_lines p.form.hook p.form.shapes.items p.form.version ++ ls)
    (clean_append (mark_lines p.form.hook p.form.shapes.items p.form.version) ls
    (marks_clean p.form.hook p.form.shapes.items p.form.version) are.clean)))
no_text_fault p ls h (fault.Head line cause) fit are a f =
    absurd (no_bad_line (lines (text_of p ls)) (stated_head p) line cause (states_again p ls are) f.1)
no_text_fault p ls h (fault.Assembly line cause) fit are a f =
    absurd (no_program_is_faulty (text_of p ls) p.insns.items line cause (assembles_again p ls fit are) f.2)
no_text_fault p ls h (fault.Disagrees key) fit are a f = absurd (nothing_differs h key f.0.hook (shapes_in_head f.0) f.0.format a f.2)
no_text_fault p ls h fault.NoHook fit are a f =
    let same : f.0.hook ≡ Some p.form.hook = one_hook (lines (text_of p ls)) f.0 (stated_head p) f.1.head.states (states_again p ls are) in
    let none : f.0.hook ≡ None = f.2.2 in
    absurd cc
no_text_fault p ls h fault.Hex fit are a f = absurd f
no_text_fault p ls h (fault.Image named) fit are a f = absurd f
no_text_fault p ls h (fault.Program slot cause) fit are a f = absurd f

-- the text that is written of a policy is the policy's file
pub file_of : (p : PolicySource) (ls : List (List ℕ)) → AllFit p.insns.items → AreLines p.insns.items ls → IsFileOf p (text_of p ls)
file_of p ls fit are =
    let text = text_of p ls in
    record {
      read = λ h a q. (
        λ read.
            let o = subst (λ k. IsPolicyOfKind k text h q) (text_kind p ls) read in
            record { same = same_read p q ls h fit are a o; lines = o.lines },
        λ from. subst (λ k. IsPolicyOfKind k text h q) (sym (text_kind p ls)) (is_read p q ls h fit are a from),
      );
      no_fault = λ h a named f. no_text_fault p ls h named fit are a (subst (λ k. IsFaultOfKind k text h named) (text_kind p ls) f);
    }

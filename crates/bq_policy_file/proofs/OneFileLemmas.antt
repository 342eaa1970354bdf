-- A file is a policy, or has one fault.
use Rattle.std.proofs.Common.{◌≡◌, ◌≢◌, ℕ, List, Some, None, Option, ◌⊎◌, inl, inr, refl, sym, ap, subst, ◌∙◌}
use Rattle.std.specs.Str.Lines.{lines}
use Rattle.bq_insn.specs.Faults.{IsDecodeFault as IsProgramFault}
use Rattle.bq_insn.specs.Laws.{AllFit}
use Rattle.bq_insn.specs.Spelling.{spelling}
use Rattle.bq_insn.specs.declared.Insn.{Insn}
use Rattle.bq_insn.specs.declared.fault.DecodeCause.{DecodeCause}
use Rattle.bq_insn.specs.declared.fault.DecodeFault.TheVariants.{At}
use Rattle.bq_insn.proofs.LengthLemmas.{no_program_is_refused}
use Rattle.bq_insn.proofs.OneFaultLemmas as insn
use Rattle.bq_asm.proofs.LawLemmas as asm
use Rattle.bq_asm.specs.Faults.{FaultyLines}
use Rattle.bq_asm.specs.Lines.{lines_of}
use Rattle.bq_asm.specs.declared.fault.AssemblyCause.{AssemblyCause}
use Rattle.bq_hooks.specs.declared.hook.Hook.{Hook}
use Rattle.bq_hooks.specs.declared.hook.Version.{Version}
use Rattle.bq_bpf.specs.declared.shape.MapShape.{MapShape}
use Rattle.bq_load.specs.Answers.{HasProgram}
use Rattle.bq_load.specs.Faults.{IsLoadFault as HasFault}
use Rattle.bq_load.specs.Laws.{AreBytes}
use Rattle.bq_load.specs.declared.fault.LoadFault.{LoadFault}
use Rattle.bq_load.specs.Layout.{IsImage}
use Rattle.bq_load.proofs.LawLemmas as load
use Rattle.hex.proofs.HexLemmas.{decode_of-ok}
use Rattle.bq_policy_file.specs.declared.fault.HeadCause.{HeadCause}
use Rattle.bq_policy_file.specs.declared.fault.PolicyFault.{PolicyFault}
use Rattle.bq_policy_file.specs.declared.fault.PolicyFault.TheVariants as fault
use Rattle.bq_policy_file.specs.declared.head.Head.{Head}
use Rattle.bq_policy_file.specs.declared.kind.FileKind.{FileKind}
use Rattle.bq_policy_file.specs.declared.kind.FileKind.TheVariants as kind
use Rattle.bq_policy_file.specs.declared.mark.Key.{Key}
use Rattle.bq_policy_file.specs.declared.mark.Key.TheVariants as key
use Rattle.bq_policy_file.specs.declared.policy_source.PolicySource.{PolicySource}
use Rattle.bq_policy_file.specs.Files.{Agree, AgreesWithHead, Differ, DiffersIn, HasHead, IsFaultOfKind, IsHexFault, IsImageFault, IsOfImage, IsPolicyOfKind, IsOfText, IsTextFault, IsWholeText, NamesNoHook, either, kind_of, shapes_in_head}
use Rattle.bq_policy_file.specs.Heads.{IsBadAt, StatesHead}
use Rattle.bq_policy_file.specs.HexText.{IsNoHex, SpellsBytes, digits_in}
use Rattle.bq_policy_file.specs.Laws.{OnePolicyAnswer}
use Rattle.bq_policy_file.proofs.NoFaultLemmas.{no_bad_line}
use Rattle.bq_policy_file.proofs.OneHeadLemmas.{one_format, one_hook, one_maps}
use Rattle.bq_policy_file.proofs.OneMarkLemmas.{one_bad_line}

-- what agrees does not differ
apart : {A : Type 0} (x y : Option A) → Agree x y → Differ x y → ⊥
apart (Some a) (Some b) same other = other same
apart (Some a) None same other = absurd other
apart None y same other = absurd other

-- what was asked for does not differ in any key from a head with which it agrees
agreed : (given : Head) (hook : Option Hook) (maps : Option (List MapShape)) (format : Option Version) (k : Key)
    → AgreesWithHead given hook maps format → DiffersIn k given hook maps format → ⊥
agreed given hook maps format key.Hook a d = apart given.hook hook a.hooks d
agreed given hook maps format key.Maps a d = apart (shapes_in_head given) maps a.shapes d.1
agreed given hook maps format key.Format a d = apart given.format format a.formats d.2

-- one key is the first that differs
one_difference : (given : Head) (hook : Option Hook) (maps : Option (List MapShape)) (format : Option Version) (k l : Key)
    → DiffersIn k given hook maps format → DiffersIn l given hook maps format → k ≡ l
one_difference given hook maps format key.Hook key.Hook d e = refl
one_difference given hook maps format key.Hook key.Maps d e = absurd (apart given.hook hook e.0 d)
one_difference given hook maps format key.Hook key.Format d e = absurd (apart given.hook hook e.0 d)
one_difference given hook maps format key.Maps key.Hook d e = absurd (apart given.hook hook d.0 e)
one_difference given hook maps format key.Maps key.Maps d e = refl
one_difference given hook maps format key.Maps key.Format d e = absurd (apart (shapes_in_head given) maps e.1 d.1)
one_difference given hook maps format key.Format key.Hook d e = absurd (apart given.hook hook d.0 e)
one_difference given hook maps format key.Format key.Maps d e = absurd (apart (shapes_in_head given) maps d.1 e.1)
one_difference given hook maps format key.Format key.Format d e = refl

-- what holds of a head holds of each that the same lines say
of_other : (P : Option Hook → Option (List MapShape) → Option Version → Type 0) (ls : List (List ℕ)) (a b : Head)
    → StatesHead ls a → StatesHead ls b → P a.hook (shapes_in_head a) a.format → P b.hook (shapes_in_head b) b.format
of_other P ls a b s t h =
    subst (P b.hook (shapes_in_head b)) (one_format ls a b s t)
    (subst (λ x. P b.hook x a.format) (one_maps ls a b s t) (subst (λ x. P x (shapes_in_head a) a.format) (one_hook ls a b s t) h))

-- a text whose marks say a head has no bad mark
bad_mark : (bytes : List ℕ) (stated : Head) (line : ℕ) (c : HeadCause) → HasHead bytes stated → IsBadAt (lines bytes) line c → ⊥
bad_mark bytes stated line c h bad = no_bad_line (lines bytes) stated line c h.states bad

-- a text that stands for a program has no fault of assembly
bad_line : (bytes : List ℕ) (stated : Head) (line : ℕ) (c : AssemblyCause) → IsWholeText bytes stated → FaultyLines (lines_of bytes) line c → ⊥
bad_line bytes stated line c h bad = asm.no_program_is_faulty bytes h.insns line c h.assembles bad

-- where neither names the hook nothing differs
none_or_other : (bytes : List ℕ) (given a b : Head) (k : Key)
    → IsWholeText bytes a → IsWholeText bytes b → NamesNoHook given a → DiffersIn k given b.hook (shapes_in_head b) b.format
    → ⊥
none_or_other bytes given a b k h g none d =
    agreed given a.hook (shapes_in_head a) a.format k none.0 (of_other (DiffersIn k given) (lines bytes) b a g.head.states h.head.states d)

-- a text has one bad mark, one faulty line and one first key that differs:
same_mark : (bytes : List ℕ) (l m : ℕ) (c d : HeadCause) → IsBadAt (lines bytes) l c → IsBadAt (lines bytes) m d
    → fault.Head l c ≡ fault.Head m d
same_mark bytes l m c d f g = let same = one_bad_line (lines bytes) l m c d f g in λ i. fault.Head (same.0 i) (same.1 i)

same_line : (bytes : List ℕ) (l m : ℕ) (c d : AssemblyCause) → FaultyLines (lines_of bytes) l c → FaultyLines (lines_of bytes) m d
    → fault.Assembly l c ≡ fault.Assembly m d
same_line bytes l m c d f g = let same = asm.one_fault bytes l m c d f g in λ i. fault.Assembly (same.0 i) (same.1 i)

same_key : (bytes : List ℕ) (given a b : Head) (k l : Key) → IsWholeText bytes a → IsWholeText bytes b
    → DiffersIn k given a.hook (shapes_in_head a) a.format → DiffersIn l given b.hook (shapes_in_head b) b.format
    → fault.Disagrees k ≡ fault.Disagrees l
same_key bytes given a b k l h g d e =
    ap (λ n. fault.Disagrees n) (one_difference given b.hook (shapes_in_head b) b.format k l
    (of_other (DiffersIn k given) (lines bytes) a b h.head.states g.head.states d) e)

-- a text has one fault
one_text_fault : (bytes : List ℕ) (given : Head) (a b : PolicyFault)
    → a ≢ fault.OutOfMemory → b ≢ fault.OutOfMemory → IsTextFault bytes given a → IsTextFault bytes given b
    → a ≡ b
one_text_fault bytes given fault.OutOfMemory b x y f g = absurd (x refl)
one_text_fault bytes given fault.Text fault.Text x y f g = refl
one_text_fault bytes given fault.Text (fault.Head m d) x y f g = absurd (f g.0)
one_text_fault bytes given fault.Text (fault.Assembly m d) x y f g = absurd (f g.1.text)
one_text_fault bytes given fault.Text (fault.Disagrees l) x y f g = absurd (f g.1.head.text)
one_text_fault bytes given fault.Text fault.NoHook x y f g = absurd (f g.1.head.text)
one_text_fault bytes given fault.Text fault.OutOfMemory x y f g = absurd (y refl)
one_text_fault bytes given fault.Text b x y f g = absurd g
one_text_fault bytes given (fault.Head n c) fault.Text x y f g = absurd (g f.0)
one_text_fault bytes given (fault.Head n c) (fault.Head m d) x y f g = same_mark bytes n m c d f.1 g.1
one_text_fault bytes given (fault.Head n c) (fault.Assembly m d) x y f g = absurd (bad_mark bytes g.0 n c g.1 f.1)
one_text_fault bytes given (fault.Head n c) (fault.Disagrees l) x y f g = absurd (bad_mark bytes g.0 n c g.1.head f.1)
one_text_fault bytes given (fault.Head n c) fault.NoHook x y f g = absurd (bad_mark bytes g.0 n c g.1.head f.1)
one_text_fault bytes given (fault.Head n c) fault.OutOfMemory x y f g = absurd (y refl)
one_text_fault bytes given (fault.Head n c) b x y f g = absurd g
one_text_fault bytes given (fault.Assembly n c) fault.Text x y f g = absurd (g f.1.text)
one_text_fault bytes given (fault.Assembly n c) (fault.Head m d) x y f g = absurd (bad_mark bytes f.0 m d f.1 g.1)
one_text_fault bytes given (fault.Assembly n c) (fault.Assembly m d) x y f g = same_line bytes n m c d f.2 g.2
one_text_fault bytes given (fault.Assembly n c) (fault.Disagrees l) x y f g = absurd (bad_line bytes g.0 n c g.1 f.2)
one_text_fault bytes given (fault.Assembly n c) fault.NoHook x y f g = absurd (bad_line bytes g.0 n c g.1 f.2)
one_text_fault bytes given (fault.Assembly n c) fault.OutOfMemory x y f g = absurd (y refl)
one_text_fault bytes given (fault.Assembly n c) b x y f g = absurd g
one_text_fault bytes given (fault.Disagrees k) fault.Text x y f g = absurd (g f.1.head.text)
one_text_fault bytes given (fault.Disagrees k) (fault.Head m d) x y f g = absurd (bad_mark bytes f.0 m d f.1.head g.1)
one_text_fault bytes given (fault.Disagrees k) (fault.Assembly m d) x y f g = absurd (bad_line bytes f.0 m d f.1 g.2)
one_text_fault bytes given (fault.Disagrees k) (fault.Disagrees l) x y f g = same_key bytes given f.0 g.0 k l f.1 g.1 f.2 g.2
one_text_fault bytes given (fault.Disagrees k) fault.NoHook x y f g = absurd (none_or_other bytes given g.0 f.0 k g.1 f.1 g.2 f.2)
one_text_fault bytes given (fault.Disagrees k) fault.OutOfMemory x y f g = absurd (y refl)
one_text_fault bytes given (fault.Disagrees k) b x y f g = absurd g
one_text_fault bytes given fault.NoHook fault.Text x y f g = absurd (g f.1.head.text)
one_text_fault bytes given fault.NoHook (fault.Head m d) x y f g = absurd (bad_mark bytes f.0 m d f.1.head g.1)
one_text_fault bytes given fault.NoHook (fault.Assembly m d) x y f g = absurd (bad_line bytes f.0 m d f.1 g.2)
one_text_fault bytes given fault.NoHook (fault.Disagrees l) x y f g = absurd (none_or_other bytes given f.0 g.0 l f.1 g.1 f.2 g.2)
one_text_fault bytes given fault.NoHook fault.NoHook x y f g = refl
one_text_fault bytes given fault.NoHook fault.OutOfMemory x y f g = absurd (y refl)
one_text_fault bytes given fault.NoHook b x y f g = absurd g
one_text_fault bytes given a b x y f g = absurd f

-- where a hook is named, not both name none
no_hook : (given stated : Option Hook) (hook : Hook) → either given stated ≡ Some hook → given ≡ None → stated ≡ None → ⊥
no_hook given stated hook is none other = let nothing : either given stated ≡ None = (λ i. either (none i) stated) ∙ other in cc

-- a text that is a policy has no fault
no_text_fault : (bytes : List ℕ) (given : Head) (p : PolicySource) (a : PolicyFault)
    → a ≢ fault.OutOfMemory → IsOfText bytes given p → IsTextFault bytes given a → ⊥
no_text_fault bytes given p fault.OutOfMemory x h f = x refl
no_text_fault bytes given p fault.Text x h f = f h.text
no_text_fault bytes given p (fault.Head n c) x h f = no_bad_line (lines bytes) h.stated n c h.head f.1
no_text_fault bytes given p (fault.Assembly n c) x h f = asm.no_program_is_faulty bytes p.insns.items n c h.assembles f.2
no_text_fault bytes given p (fault.Disagrees k) x h f =
    agreed given h.stated.hook (shapes_in_head h.stated) h.stated.format k h.combined.agrees
    (of_other (DiffersIn k given) (lines bytes) f.0 h.stated f.1.head.states h.head f.2)
no_text_fault bytes given p fault.NoHook x h f =
    no_hook given.hook h.stated.hook p.form.hook h.combined.hook_is f.2.1
    (sym (one_hook (lines bytes) f.0 h.stated f.1.head.states h.head) ∙ f.2.2)
no_text_fault bytes given p a x h f = absurd f

-- an image of a program has no fault of an image
no_bad_image : (bytes : List ℕ) (insns : List Insn) (n : LoadFault) → AreBytes bytes → HasProgram bytes insns → HasFault bytes n → ⊥
no_bad_image bytes insns n fits h f = load.no_image_is_faulty bytes h.version h.hook h.shapes (spelling insns) n fits h.image f

-- an image of a program has no fault of its program
no_bad_program : (bytes : List ℕ) (v : Version) (k : Hook) (shapes : List MapShape) (program : List ℕ)
    (insns : List Insn) (slot : ℕ) (c : DecodeCause)
    → IsImage bytes v k shapes program → HasProgram bytes insns → IsProgramFault program (At slot c) → ⊥
no_bad_program bytes v k shapes program insns slot c is h f =
    let same = load.one_image bytes v h.version k h.hook shapes h.shapes program (spelling insns) is h.image in
    no_program_is_refused insns slot c h.well_formed h.numbers (subst (λ b. IsProgramFault b (At slot c)) same.3 f)

-- an image has one fault of its program, and one first key that differs:
same_slot : (bytes : List ℕ) (v w : Version) (h k : Hook) (a b : List MapShape) (p q : List ℕ) (s t : ℕ) (c d : DecodeCause)
    → IsImage bytes v h a p → IsImage bytes w k b q → IsProgramFault p (At s c) → IsProgramFault q (At t d)
    → fault.Program s c ≡ fault.Program t d
same_slot bytes v w h k a b p q s t c d is other f g =
    let image = load.one_image bytes v w h k a b p q is other in
    let same = insn.one_fault q s t c d (subst (λ x. IsProgramFault x (At s c)) image.3 f) g in
    λ i. fault.Program (same.0 i) (same.1 i)

same_stated : (bytes : List ℕ) (given : Head) (a b : List Insn) (k l : Key) (h : HasProgram bytes a) (g : HasProgram bytes b)
    → DiffersIn k given (Some h.hook) (Some h.shapes) (Some h.version)
    → DiffersIn l given (Some g.hook) (Some g.shapes) (Some g.version)
    → fault.Disagrees k ≡ fault.Disagrees l
same_stated bytes given a b k l h g d e =
    let same = load.one_image bytes h.version g.version h.hook g.hook h.shapes g.shapes (spelling a) (spelling b) h.image g.image in
    let moved =
    subst (λ x. DiffersIn k given (Some g.hook) (Some g.shapes) (Some x)) same.0
    (subst (λ x. DiffersIn k given (Some g.hook) (Some x) (Some h.version)) same.2
    (subst (λ x. DiffersIn k given (Some x) (Some h.shapes) (Some h.version)) same.1 d)) in
    ap (λ n. fault.Disagrees n) (one_difference given (Some g.hook) (Some g.shapes) (Some g.version) k l moved e)

-- an image has one fault
one_image_fault : (bytes : List ℕ) (given : Head) (a b : PolicyFault)
    → AreBytes bytes → a ≢ fault.OutOfMemory → b ≢ fault.OutOfMemory → IsImageFault bytes given a → IsImageFault bytes given b
    → a ≡ b
one_image_fault bytes given fault.OutOfMemory b fits x y f g = absurd (x refl)
one_image_fault bytes given (fault.Image n) fault.OutOfMemory fits x y f g = absurd (y refl)
one_image_fault bytes given (fault.Image n) (fault.Image m) fits x y f g = ap (λ e. fault.Image e) (load.one_fault bytes n m fits f g)
one_image_fault bytes given (fault.Image n) (fault.Program t d) fits x y f g =
    absurd (load.no_image_is_faulty bytes g.0 g.1 g.2 g.3 n fits g.4 f)
one_image_fault bytes given (fault.Image n) (fault.Disagrees l) fits x y f g = absurd (no_bad_image bytes g.0 n fits g.1 f)
one_image_fault bytes given (fault.Image n) b fits x y f g = absurd g
one_image_fault bytes given (fault.Program s c) fault.OutOfMemory fits x y f g = absurd (y refl)
one_image_fault bytes given (fault.Program s c) (fault.Image m) fits x y f g =
    absurd (load.no_image_is_faulty bytes f.0 f.1 f.2 f.3 m fits f.4 g)
one_image_fault bytes given (fault.Program s c) (fault.Program t d) fits x y f g =
    same_slot bytes f.0 g.0 f.1 g.1 f.2 g.2 f.3 g.3 s t c d f.4 g.4 f.5 g.5
one_image_fault bytes given (fault.Program s c) (fault.Disagrees l) fits x y f g =
    absurd (no_bad_program bytes f.0 f.1 f.2 f.3 g.0 s c f.4 g.1 f.5)
one_image_fault bytes given (fault.Program s c) b fits x y f g = absurd g
one_image_fault bytes given (fault.Disagrees k) fault.OutOfMemory fits x y f g = absurd (y refl)
one_image_fault bytes given (fault.Disagrees k) (fault.Image m) fits x y f g = absurd (no_bad_image bytes f.0 m fits f.1 g)
one_image_fault bytes given (fault.Disagrees k) (fault.Program t d) fits x y f g =
    absurd (no_bad_program bytes g.0 g.1 g.2 g.3 f.0 t d g.4 f.1 g.5)
one_image_fault bytes given (fault.Disagrees k) (fault.Disagrees l) fits x y f g = same_stated bytes given f.0 g.0 k l f.1 g.1 f.2 g.2
one_image_fault bytes given (fault.Disagrees k) b fits x y f g = absurd g
one_image_fault bytes given a b fits x y f g = absurd f

-- the image of a policy is one of its program
own_program : (bytes : List ℕ) (p : PolicySource) → AllFit p.insns.items
    → IsImage bytes p.form.version p.form.hook p.form.shapes.items (spelling p.insns.items)
    → HasProgram bytes p.insns.items
own_program bytes p fit is = record {
  version = p.form.version;
  hook = p.form.hook;
  shapes = p.form.shapes.items;
  image = is;
  well_formed = p.whole;
  numbers = fit;
}

-- an image that is a policy has no fault
no_image_fault : (bytes : List ℕ) (given : Head) (p : PolicySource) (a : PolicyFault)
    → AreBytes bytes → AllFit p.insns.items → a ≢ fault.OutOfMemory → IsOfImage bytes given p → IsImageFault bytes given a
    → ⊥
no_image_fault bytes given p fault.OutOfMemory fits fit x h f = x refl
no_image_fault bytes given p (fault.Image n) fits fit x h f =
    load.no_image_is_faulty bytes p.form.version p.form.hook p.form.shapes.items (spelling p.insns.items) n fits h.image f
no_image_fault bytes given p (fault.Program s c) fits fit x h f =
    no_bad_program bytes f.0 f.1 f.2 f.3 p.insns.items s c f.4 (own_program bytes p fit h.image) f.5
no_image_fault bytes given p (fault.Disagrees k) fits fit x h f =
    let same =
    load.one_image bytes f.1.version p.form.version f.1.hook p.form.hook f.1.shapes p.form.shapes.items (spelling f.0)
    (spelling p.insns.items) f.1.image h.image in
    let moved =
    subst (λ v. DiffersIn k given (Some p.form.hook) (Some p.form.shapes.items) (Some v)) same.0
    (subst (λ s. DiffersIn k given (Some p.form.hook) (Some s) (Some f.1.version)) same.2
    (subst (λ h. DiffersIn k given (Some h) (Some f.1.shapes) (Some f.1.version)) same.1 f.2)) in
    agreed given (Some p.form.hook) (Some p.form.shapes.items) (Some p.form.version) k h.agrees moved
no_image_fault bytes given p a fits fit x h f = absurd f

-- what a fault of hex says
hex_states : (bytes : List ℕ) (given : Head) (a : PolicyFault)
    → a ≢ fault.OutOfMemory → IsHexFault bytes given a
    → ((a ≡ fault.Hex) × IsNoHex bytes) ⊎ ((image : List ℕ) × SpellsBytes bytes image × IsImageFault image given a)
hex_states bytes given fault.OutOfMemory x f = absurd (x refl)
hex_states bytes given fault.Hex x f = inl (refl, f)
hex_states bytes given fault.Text x f = inr f
hex_states bytes given (fault.Head n c) x f = inr f
hex_states bytes given (fault.Assembly n c) x f = inr f
hex_states bytes given (fault.Image n) x f = inr f
hex_states bytes given (fault.Program s c) x f = inr f
hex_states bytes given (fault.Disagrees k) x f = inr f
hex_states bytes given fault.NoHook x f = inr f

-- what is spelled in hex are bytes
spelled_bytes : (text image : List ℕ) → SpellsBytes text image → AreBytes image
spelled_bytes text image spells = (decode_of-ok (digits_in text) image spells).3

-- a text that spells bytes in hex is hex, and spells only those:
no_hex : (text image : List ℕ) → IsNoHex text → SpellsBytes text image → ⊥
no_hex text image none spells = cc (none.1, spells)

one_hex_image : (text a b : List ℕ) → SpellsBytes text a → SpellsBytes text b → a ≡ b
one_hex_image text a b s t = cc

-- hex has one fault
one_hex_fault : (bytes : List ℕ) (given : Head) (a b : PolicyFault)
    → a ≢ fault.OutOfMemory → b ≢ fault.OutOfMemory → IsHexFault bytes given a → IsHexFault bytes given b
    → a ≡ b
one_hex_fault bytes given a b x y f g =
    elim (hex_states bytes given a x f) [
      | inl none ↦
          elim (hex_states bytes given b y g) [
            | inl other ↦ none.0 ∙ sym other.0
            | inr image ↦ absurd (no_hex bytes image.0 none.1 image.1)
          ]
      | inr image ↦
          elim (hex_states bytes given b y g) [
            | inl none ↦ absurd (no_hex bytes image.0 none.1 image.1)
            | inr other ↦
                let same = one_hex_image bytes image.0 other.0 image.1 other.1 in
                one_image_fault other.0 given a b (spelled_bytes bytes other.0 other.1) x y
                (subst (λ i. IsImageFault i given a) same image.2) other.2
          ]
    ]

-- hex of a policy has no fault
no_hex_fault : (bytes : List ℕ) (given : Head) (p : PolicySource) (a : PolicyFault)
    → AllFit p.insns.items → a ≢ fault.OutOfMemory → IsPolicyOfKind kind.Hex bytes given p → IsHexFault bytes given a
    → ⊥
no_hex_fault bytes given p a fit x h f =
    elim (hex_states bytes given a x f) [
      | inl none ↦ no_hex bytes h.0 none.1 h.1
      | inr image ↦
          let same = one_hex_image bytes image.0 h.0 image.1 h.1 in
          no_image_fault h.0 given p a (spelled_bytes bytes h.0 h.1) fit x h.2 (subst (λ i. IsImageFault i given a) same image.2)
    ]

-- whatever the kind of a file, it has one fault
of_kind : (k : FileKind) (bytes : List ℕ) (given : Head) (a b : PolicyFault)
    → AreBytes bytes → a ≢ fault.OutOfMemory → b ≢ fault.OutOfMemory → IsFaultOfKind k bytes given a
    → IsFaultOfKind k bytes given b
    → a ≡ b
of_kind kind.Image bytes given a b fits x y f g = one_image_fault bytes given a b fits x y f g
of_kind kind.Hex bytes given a b fits x y f g = one_hex_fault bytes given a b x y f g
of_kind kind.Text bytes given a b fits x y f g = one_text_fault bytes given a b x y f g

-- whatever the kind of a file, if it is a policy it has no fault
no_fault : (k : FileKind) (bytes : List ℕ) (given : Head) (p : PolicySource) (a : PolicyFault)
    → AreBytes bytes → AllFit p.insns.items → a ≢ fault.OutOfMemory → IsPolicyOfKind k bytes given p → IsFaultOfKind k bytes given a
    → ⊥
no_fault kind.Image bytes given p a fits fit x h f = no_image_fault bytes given p a fits fit x h f
no_fault kind.Hex bytes given p a fits fit x h f = no_hex_fault bytes given p a fit x h f
no_fault kind.Text bytes given p a fits fit x h f = no_text_fault bytes given p a x h f

-- a file with a fault is no policy, and has no other
pub one_policy_answer : OnePolicyAnswer
one_policy_answer bytes given a fits x f = (
  λ p fit h. no_fault (kind_of bytes) bytes given p a fits fit x h f,
  λ b y g. of_kind (kind_of bytes) bytes given b a fits y x g f,
)

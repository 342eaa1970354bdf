-- The marks that say what a policy is.
use Rattle.std.specs.Prelude.{◌≡◌, ℕ, List, [], ◌∷◌, ◌++◌, codes, flat_map}
use Rattle.std.specs.Fmt.{decimal}
use Rattle.bq_bpf.specs.declared.shape.MapShape.{MapShape}
use Rattle.bq_hooks.specs.Hooks.{hook_word}
use Rattle.bq_hooks.specs.declared.hook.Hook.{Hook}
use Rattle.bq_hooks.specs.declared.hook.Version.{Version}
use Rattle.bq_hooks.specs.declared.hook.Version.TheVariants.{First, Second}
use Rattle.bq_policy_file.specs.declared.policy_source.PolicySource.{PolicySource}

-- the size of a value and the number of entries
abbrev pub shape_text : MapShape → List ℕ
shape_text s = decimal s.value_size ++ (codes ":" ++ decimal s.entries)

-- the maps after the first
abbrev pub more_maps : List MapShape → List ℕ
more_maps shapes = flat_map (λ s. codes "," ++ shape_text s) shapes

-- the line that says the maps, if there are some
abbrev pub maps_mark : List MapShape → List ℕ
maps_mark [] = []
maps_mark (first ∷ rest) = codes ";@ maps " ++ (decimal first.value_size ++ (codes ":" ++ (decimal first.entries ++ (more_maps rest ++ codes "\n"))))

-- the line that says the version, if it is not the first
abbrev pub format_mark : Version → List ℕ
format_mark First = []
format_mark Second = codes ";@ format 2\n"

-- the lines that say a hook and a version, with this line of maps between
abbrev pub head_marks_text : Hook → List ℕ → Version → List ℕ
head_marks_text hook maps version = codes ";@ hook " ++ (hook_word hook ++ (codes "\n" ++ (maps ++ format_mark version)))

-- the lines that say what a policy is: its hook, its maps if there are some, and its version if it is not the first
abbrev pub AreMarks : PolicySource → List ℕ → Type 0
AreMarks p text = text ≡ head_marks_text p.form.hook (maps_mark p.form.shapes.items) p.form.version

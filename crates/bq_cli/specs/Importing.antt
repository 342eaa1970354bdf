-- What the words of `import` ask for.
use Rattle.std.specs.Prelude.{◌≡◌, List, [], Option, Some, None, unwrap_or}
use Rattle.std.specs.declared.alloc.Global.{Global}
use Rattle.std.specs.declared.vec.Vec.{Vec}
use Rattle.bq_hooks.specs.declared.hook.Version.TheVariants.{First}
use Rattle.bq_bpf.specs.declared.shape.MapShape.{MapShape}
use Rattle.bq_import.specs.declared.text.ImportSettings.{ImportSettings}
use Rattle.bq_policy_check.specs.Given.{GivesHead, option_bytes}
use Rattle.bq_policy_check.specs.declared.words.PolicyWords.{PolicyWords}
use Rattle.bq_policy_file.specs.declared.head.Head.{Head}

-- the shapes of maps, none if they are not named
abbrev pub shapes_or_none : Option (Vec MapShape Global) → List MapShape
shapes_or_none None = []
shapes_or_none (Some shapes) = shapes.items

-- the words say a hook, and maybe maps and a version; without them there are no maps, and the version is the first
pub record AskToImport (w : PolicyWords) (s : ImportSettings) : Type 0 where
  pub head : Head
  pub gives : GivesHead w head
  pub hook : head.hook ≡ Some s.form.hook
  pub maps : shapes_or_none head.maps ≡ s.form.shapes.items
  pub version : unwrap_or head.format First ≡ s.form.version
  pub text : option_bytes s.maps ≡ option_bytes w.maps

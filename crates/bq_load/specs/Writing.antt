-- The bytes that are written for an image.
use Rattle.std.specs.Prelude.{ℕ, ◌/◌, List, ◌++◌, length}
use Rattle.std.specs.Int.{w32, to_le_bytes}
use Rattle.bq_load.specs.declared.image.Image.{Image}
use Rattle.bq_load.specs.Layout.{image_opening, shapes_bytes}

-- the bytes of an image: the opening, the shapes, the number of slots, and the program
abbrev pub written_image : Image → List ℕ
written_image image =
    image_opening image.form.version image.form.hook (length image.form.shapes.items)
    ++ (shapes_bytes image.form.shapes.items ++ (to_le_bytes w32 (length image.program.items / 8) ++ image.program.items))

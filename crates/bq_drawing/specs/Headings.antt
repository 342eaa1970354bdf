-- The heading above a picture: its title, the discipline, and the time that it is drawn over.
use Rattle.std.specs.Prelude.{ℕ, List, [], ◌++◌, Option, Some, None, codes, string_bytes, unwrap_or}
use Rattle.std.specs.Fmt.{decimal}
use Rattle.std.specs.Option.{option_map}
use Rattle.bq_words.specs.declared.discipline_name.DisciplineName.{DisciplineName}
use Rattle.bq_words.specs.declared.discipline_name.DisciplineName.TheVariants.{Cfs, Eevdf}
use Rattle.bq_drawing.specs.declared.picture_options.PictureOptions.{PictureOptions}
use Rattle.bq_drawing.specs.Scales.{left_edge}
use Rattle.bq_drawing.specs.Frames.{PictureSetting}
use Rattle.bq_drawing.specs.Escapes.{escaped}
use Rattle.bq_drawing.specs.Units.{amount_text, unit_name}

-- the title of a picture: its own, or a default if it has none
abbrev pub title_of : PictureOptions → List ℕ
title_of options = unwrap_or (option_map (λ t. string_bytes t) options.title) (codes "Schedule")

-- the name of a discipline
abbrev pub acronym : DisciplineName → List ℕ
acronym Cfs = codes "CFS"
acronym Eevdf = codes "EEVDF"

-- the discipline, if it is known
abbrev pub discipline_text : Option DisciplineName → List ℕ
discipline_text None = []
discipline_text (Some discipline) = acronym discipline ++ codes ", "

-- the time that a picture is drawn over
abbrev pub times_text : PictureSetting → List ℕ
times_text s =
    amount_text s.unit s.extent.from ++ (codes " to " ++ (amount_text s.unit s.extent.to ++ (codes " " ++ (unit_name s.unit ++ codes "</text>\n"))))

-- a title, cut after 90 characters
abbrev pub title_text : List ℕ → List ℕ
title_text title = (codes "<text class=\"title\" x=\"" ++ (decimal left_edge ++ codes "\" y=\"34\">")) ++ (escaped 90 title ++ codes "</text>\n")

-- the line below the title: the discipline and the time
abbrev pub span_text : PictureSetting → Option DisciplineName → List ℕ
span_text s discipline = (codes "<text class=\"small\" x=\"" ++ (decimal left_edge ++ codes "\" y=\"58\">")) ++ (discipline_text discipline ++ times_text s)

-- the title, then the discipline and the time
abbrev pub heading_text : PictureSetting → List ℕ → Option DisciplineName → List ℕ
heading_text s title discipline = title_text title ++ span_text s discipline

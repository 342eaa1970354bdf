-- Readers and writers beside the line that shows how much is done.
use Rattle.bq_console.specs.declared.beside.ShowingReader.{ShowingReader}
use Rattle.bq_console.specs.declared.beside.ErasingWriter.{ErasingWriter}

-- the reader itself
abbrev pub reader_of : {R : Type 0} → ShowingReader R → R
reader_of r = r.inner

-- the writer itself
abbrev pub writer_of : {W : Type 0} → ErasingWriter W → W
writer_of w = w.inner

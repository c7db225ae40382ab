-- What is written in a file's own version.
use Rattle.std.specs.Prelude.{ℕ, List}
use Rattle.expansion_laws.specs.Trees.{LabelledUse, Use}
use Rattle.tshape_data.specs.declared.head.Head.{Head}
use Rattle.brep_file.specs.declared.file.File.{File}
use Rattle.brep_writer.specs.Dress.{Dressed}
use Rattle.brep_writer.specs.Dress as dresses
use Rattle.brep_writer.specs.WrittenFile as writings

abbrev pub dressed : File → Head → Dressed
dressed f h = dresses.dressed f h f.version

abbrev pub dress : File → Use → LabelledUse Dressed
dress f root = dresses.dress f root f.version

abbrev pub written_file : File → Use → File
written_file f root = writings.written_file f root f.version

-- the text that is written for a root over a file's records
abbrev pub text_of : File → Use → List ℕ
text_of f root = writings.text_of f root f.version

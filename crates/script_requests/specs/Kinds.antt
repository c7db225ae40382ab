-- The kinds of trees, by the records of a file.
use Rattle.orientation.specs.declared.kind.Kind.{Kind}
use Rattle.expansion_laws.specs.Trees.{Tree, origin}
use Rattle.file_loading.specs.Loading.{kind_of_record}
use Rattle.brep_file.specs.declared.file.File.{File}

-- the kind of a tree is that of its origin's record
abbrev pub kind_of : File → Tree → Kind
kind_of f x = kind_of_record f (origin x)

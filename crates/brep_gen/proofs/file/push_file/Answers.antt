-- The lines of the file, after its version line and its tables.
use Rattle.std.proofs.Common.{◌∙◌, ◌++◌, ◌∷◌, [], ap}
use Rattle.std.specs.Prelude.{codes}
use Rattle.std.specs.Fmt.{decimal}
use Rattle.brep_tokens.specs.Tokens.{version_line}
use Rattle.brep_tokens.specs.Written.{lines_text}
use Rattle.brep_gen.specs.Generated.{heading, nought, record_count, record_lines, table_lines}
use Rattle.brep_gen.proofs.TextLemmas.{joined, whole_text}
use Rattle.brep_gen.proofs.file.push_file.Goals as goal

pub returns : goal.returns
returns c =
    let t = c.args.text.now.items in
    let records = record_lines c.args.seed c.args.levels in
    let head = heading (codes "TShapes") (decimal (record_count c.args.levels)) ∷ [] in
    let root = (codes "+1" ∷ nought ∷ []) ∷ [] in
    let headed = c.in_ok-push_heading.ensures
    ∙ ap (λ n. c.push_tables.new.text.items ++ lines_text (heading (codes "TShapes") (decimal n) ∷ []))
    c.count_of.ensures in
    let last =
    joined c.push_heading.new.text.items c.push_records.new.text.items c.push_root.new.text.items records root
    c.in_ok-push_records.ensures c.in_ok-push_root.ensures in
    let most = joined c.push_tables.new.text.items c.push_heading.new.text.items c.push_root.new.text.items head
    (records ++ root) headed last in
    whole_text t (version_line 1) c.push_tables.new.text.items c.push_root.new.text.items table_lines
    (head ++ (records ++ root)) c.in_ok-push_tables.ensures most

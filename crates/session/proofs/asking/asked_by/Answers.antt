-- What a command asks by numbers stands for what it asks of trees.
use Rattle.std.proofs.Common.{sym, subst, ◌∙◌, ap, length, reverse}
use Rattle.std.proofs.lemmas.Result.{IfErr-weaker, IfOk-weaker}
use Rattle.script_requests.specs.AsTrees.{IsOfFile}
use Rattle.script_requests.specs.Numbered.{AreReplacing, IsReplaceFault, MergesNames, OrWants, SewsNames}
use Rattle.script_text.specs.declared.command.Command.TheVariants as commands
use Rattle.session.specs.Commands.{AsksOf, FailsFor}
use Rattle.session.proofs.AskedLaws.{all-loaded, merge-asks, or-wants, remove-asks}
use Rattle.session.proofs.AskedLaws.{replace-asks, replace-fails, sew-asks}
use Rattle.session.proofs.asking.asked_by.Goals as goal

pub sewing_of-requires-clause-names : goal.sewing_of-requires-clause-names
sewing_of-requires-clause-names c =
    let o = subst (IsOfFile c.args.file.now) (c.in-Sew.is ∙ ap commands.Sew (sym c.as_slice-in-Sew.ensures))
    c.requires.line in
    all-loaded c.args.pool.now (length c.args.file.now.records) c.requires.loaded.loaded c.as_slice-in-Sew.result.now
    o.0.are_shapes

pub returns-in-Replace-clause-asked : goal.returns-in-Replace-clause-asked
returns-in-Replace-clause-asked c =
    let rows = c.args.pool.now in
    let words = c.replacing.new.words in
    let vs = reverse c.args.versions.now in
    IfOk-weaker c.replacing.result (AreReplacing c.args.file.now words rows vs c.in-Replace.sel c.in-Replace.tgt)
    (AsksOf c.args.file.now words rows vs c.args.line c.args.command.now)
    (replace-asks rows c.asking_stands_for_trees.ensures c.args.file.now words vs c.args.line c.args.command.now
    c.requires.line c.in-Replace.sel c.in-Replace.tgt c.in-Replace.is)
    c.replacing.ensures.asked

pub returns-in-Replace-clause-refused : goal.returns-in-Replace-clause-refused
returns-in-Replace-clause-refused c =
    let rows = c.args.pool.now in
    let words = c.replacing.new.words in
    let vs = reverse c.args.versions.now in
    let Told = IsReplaceFault rows vs c.args.line c.in-Replace.sel c.in-Replace.tgt in
    let Due = FailsFor c.args.file.now words rows vs c.args.line c.args.command.now in
    IfErr-weaker c.replacing.result (OrWants Told) (OrWants Due)
    (or-wants Told Due
    (replace-fails rows c.asking_stands_for_trees.ensures c.args.file.now words vs c.args.line c.args.command.now
    c.requires.line c.in-Replace.sel c.in-Replace.tgt c.in-Replace.is))
    c.replacing.ensures.refused

pub returns-in_ok-asked-in-Remove-clause-asked : goal.returns-in_ok-asked-in-Remove-clause-asked
returns-in_ok-asked-in-Remove-clause-asked c =
    remove-asks c.args.pool.now c.asking_stands_for_trees.ensures c.args.file.now c.removing.new.words
    (reverse c.args.versions.now) c.args.line c.args.command.now c.requires.line c.in-Remove.sel c.in-Remove.is
    c.in_ok-asked-in-Remove.asked c.in_ok-asked-in-Remove.ensures.asked

pub returns-in-Merge-clause-asked : goal.returns-in-Merge-clause-asked
returns-in-Merge-clause-asked c =
    let rows = c.args.pool.now in
    let vs = reverse c.args.versions.now in
    IfOk-weaker c.merging.result (MergesNames rows vs c.as_slice.result.now)
    (AsksOf c.args.file.now c.args.words.now rows vs c.args.line c.args.command.now)
    (merge-asks rows c.asking_stands_for_trees.ensures c.args.file.now c.args.words.now vs c.args.line
    c.args.command.now c.requires.line c.as_slice.result.now
    (c.in-Merge.is ∙ ap commands.Merge (sym c.as_slice.ensures)))
    c.merging.ensures.asked

pub returns-in-Sew-clause-asked : goal.returns-in-Sew-clause-asked
returns-in-Sew-clause-asked c =
    let rows = c.args.pool.now in
    let vs = reverse c.args.versions.now in
    IfOk-weaker c.sewing_of.result (SewsNames rows vs c.as_slice-in-Sew.result.now)
    (AsksOf c.args.file.now c.args.words.now rows vs c.args.line c.args.command.now)
    (sew-asks rows c.asking_stands_for_trees.ensures c.args.file.now c.args.words.now vs c.args.line
    c.args.command.now c.requires.line c.as_slice-in-Sew.result.now
    (c.in-Sew.is ∙ ap commands.Sew (sym c.as_slice-in-Sew.ensures)))
    c.sewing_of.ensures.asked

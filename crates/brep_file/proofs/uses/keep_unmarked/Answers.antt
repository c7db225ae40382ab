use Rattle.std.proofs.Common.{rules, not}
use Rattle.std.proofs.lemmas.Fn.{filter_same}
use Rattle.brep_file.specs.Marks.{mark_of}
use Rattle.brep_file.proofs.uses.keep_unmarked.Goals as goal

pub returns : goal.returns
returns c =
    let kept = filter_same _ (λ u. not (mark_of c.args.marks.now u.number)) _ (λ x b f' k. search rules) _ _
    c.retain.ensures.filtered in
    cc

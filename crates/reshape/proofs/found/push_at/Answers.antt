-- The keys of the place have one more.
use Rattle.std.proofs.Common.{◌≡◌, refl, length}
use Rattle.std.specs.Prelude.{Some, slice_get}
use Rattle.std.proofs.lemmas.Option.{slice_get_read}
use Rattle.reshape.proofs.NoteLaws.{pushed-own, pushed-others}
use Rattle.reshape.proofs.found.push_at.Goals as goal

pub returns-clause-others : goal.returns-clause-others
returns-clause-others c = λ q h. pushed-others c.args.at.now.items _ c.args.place q c.push.new.self refl h

pub returns-clause-own : goal.returns-clause-own
returns-clause-own c =
    let at = c.args.at.now.items in
    let is : slice_get at c.args.place ≡ Some c.index_mut.result.now =
    slice_get_read at (length at) c.args.place c.index_mut.result.now refl c.requires c.index_mut.ensures.value in
    pushed-own at _ c.args.place c.push.new.self c.args.key c.index_mut.result.now is refl c.in_ok-push.ensures.items

-- Nothing is asked for, or what goes on is.
use Rattle.std.proofs.Common.{◌∙◌, refl, ap, subst, length, []}
use Rattle.std.proofs.lemmas.Option.{slice_get_within}
use Rattle.requests.specs.Numbered.{ActIsHeldIn}
use Rattle.requests.specs.Readings.{act_by}
use Rattle.key_results.specs.Memos.{context_by, place_here}
use Rattle.reshape.proofs.TableLaws.{reads-zero, grows-none}
use Rattle.reshape.specs.Readings.{ActIsPlaced}
use Rattle.reshape.proofs.AskLaws.{asks-none, asks-onward, none-held, onward-held}
use Rattle.reshape.proofs.asked.met.Goals as goal

pub returns-in-Remove-clause-asks : goal.returns-in-Remove-clause-asks
returns-in-Remove-clause-asks c = λ s kind word r reads ek m ep ea.
    asks-none c.args.pool.now c.laws.ensures word s c.args.key.id.0 (context_by word c.args.key) _ r m
    (ea ∙ ap (act_by word c.args.pool.now) c.in-Remove.is) refl c.new-uses.ensures.items

pub returns-in-Remove-clause-held : goal.returns-in-Remove-clause-held
returns-in-Remove-clause-held c = λ places.
    none-held c.args.pool.now (length c.args.words.now) _
    (slice_get_within c.args.words.now 0 [] c.len.ensures.table.identity)
    c.no_mover.ensures.back c.no_mover.ensures.by c.new-uses.ensures.items

pub returns-in-Remove-clause-grows : goal.returns-in-Remove-clause-grows
returns-in-Remove-clause-grows c = grows-none c.args.words.now c.len.ensures.table

pub mover_of-requires-clause-by : goal.mover_of-requires-clause-by
mover_of-requires-clause-by c = subst (ActIsPlaced (length c.args.words.now)) c.in-Replace.is c.requires.placed

pub onward-requires-clause-by : goal.onward-requires-clause-by
onward-requires-clause-by c = subst (ActIsHeldIn c.args.pool.now) c.in-Replace.is c.requires.act

pub returns-in_ok-uses-in-Replace-clause-asks : goal.returns-in_ok-uses-in-Replace-clause-asks
returns-in_ok-uses-in-Replace-clause-asks c = λ s kind word r reads ek m ep ea.
    asks-onward c.args.pool.now c.laws.ensures word c.words_are_a_group.ensures
    (reads-zero c.mover_of.new.words word c.in_ok-mover-in-Replace.ensures.grows.table reads.told) reads.told.words s
    kind reads.kinds ek
    c.args.key.id.0 (place_here c.args.key) (context_by word c.args.key) _ r c.args.place c.in-Replace.by
    c.requires.key.0
    (subst (ActIsHeldIn c.args.pool.now) c.in-Replace.is c.requires.act) refl m ep
    (ea ∙ ap (act_by word c.args.pool.now) c.in-Replace.is) refl
    (c.in_ok-mover-in-Replace.ensures.back.1 word reads.told) c.in_ok-mover-in-Replace.ensures.by
    c.in_ok-uses-in-Replace.ensures.one c.in_ok-uses-in-Replace.ensures.each

pub returns-in_ok-uses-in-Replace-clause-held : goal.returns-in_ok-uses-in-Replace-clause-held
returns-in_ok-uses-in-Replace-clause-held c = λ places.
    let some = slice_get_within c.mover_of.new.words 0 [] c.in_ok-mover-in-Replace.ensures.grows.table.identity in
    onward-held c.args.pool.now (length c.mover_of.new.words) (length c.args.words.now) c.args.key.id.0 c.laws.ensures
    places c.in-Replace.by _ some
    c.in_ok-mover-in-Replace.ensures.grows.grows
    (subst (ActIsHeldIn c.args.pool.now) c.in-Replace.is c.requires.act)
    (subst (ActIsPlaced (length c.args.words.now)) c.in-Replace.is c.requires.placed)
    c.in_ok-mover-in-Replace.ensures.back.0 c.in_ok-mover-in-Replace.ensures.by
    c.in_ok-uses-in-Replace.ensures.one c.in_ok-uses-in-Replace.ensures.each

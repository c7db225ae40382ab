-- By the match that the plan finds.
use Rattle.std.proofs.Common.{arith, ◌∙◌, ◌≤◌, refl, sym, ap, length, []}
use Rattle.std.specs.Option.{option_map}
use Rattle.std.proofs.lemmas.Option.{slice_get_within}
use Rattle.orientation.specs.Rules.{is_above}
use Rattle.requests.specs.Readings.{request_by}
use Rattle.key_results.specs.Memos.{context_by}
use Rattle.reshape.proofs.TableLaws.{grows-none}
use Rattle.reshape.proofs.StepLaws.{zero-word, rule-is, kinds-are}
use Rattle.reshape.proofs.AskLaws.{kind-at-tree}
use Rattle.reshape.proofs.FindLaws.{node-within, match-found, found-held, found-placed}
use Rattle.reshape.proofs.asked.asked_of.Goals as goal

pub find-requires : goal.find-requires
find-requires c = node-within c.args.plan.now.nodes c.args.at c.args.key.id.0 c.requires.at

pub met-requires-clause-act : goal.met-requires-clause-act
met-requires-clause-act c =
    found-held c.args.pool.now (length c.args.words.now) c.args.plan.now c.requires.plan c.args.at c.args.key.id.0
    c.requires.at
    c.turn_here.result c.word_here.result.0 c.in-Some.r (λ p e. sym c.in-Some.is ∙ c.find.ensures.live p e)

pub met-requires-clause-placed : goal.met-requires-clause-placed
met-requires-clause-placed c =
    found-placed c.args.pool.now (length c.args.words.now) c.args.plan.now c.requires.plan c.args.at c.args.key.id.0
    c.requires.at
    c.turn_here.result c.word_here.result.0 c.in-Some.r (λ p e. sym c.in-Some.is ∙ c.find.ensures.live p e)

pub returns-in_ok-asked-in-None-clause-asks : goal.returns-in_ok-asked-in-None-clause-asks
returns-in_ok-asked-in-None-clause-asks c = λ root s word it.
    let rows = c.args.pool.now in
    let n = length c.args.words.now in
    let plan = c.args.plan.now in
    let key = c.args.key in
    let t = c.len.ensures.table in
    let le : n ≤ n = omega arith in
    let m = match-found rows n root plan c.args.words.now s word it t le c.requires.places
    c.tables_stand_for_steps.ensures c.args.at key
    c.turn_here.result c.word_here.result.0 c.find.result c.requires.at c.requires.key.0 c.requires.key.1
    c.turn_here.ensures c.word_here.ensures
    c.find.ensures.matched in
    let rule = rule-is rows n root plan c.args.words.now s word it t le c.requires.places in
    let kind = kind-at-tree rows c.laws.ensures word s it.kind it.reads.kinds
    (kinds-are rows n root plan c.args.words.now s word it t le c.requires.places)
    key.id.0 c.requires.key.0 in
    c.in_ok-asked-in-None.ensures.asks s word (context_by word key)
    (zero-word rows n root plan c.args.words.now s word it t le c.requires.places)
    it.reads.told.words (m ∙ ap (option_map (request_by word rows)) c.in-None.is)
    ((λ i. is_above ((sym rule i).stop) (kind i)) ∙ sym c.enters.ensures)

pub returns-in_ok-asked-in-None-clause-held : goal.returns-in_ok-asked-in-None-clause-held
returns-in_ok-asked-in-None-clause-held c =
    c.in_ok-asked-in-None.ensures.held (length c.args.words.now)
    (slice_get_within c.args.words.now 0 [] c.len.ensures.table.identity) c.requires.places

pub returns-in_ok-asked-in-None-clause-grows : goal.returns-in_ok-asked-in-None-clause-grows
returns-in_ok-asked-in-None-clause-grows c = grows-none c.args.words.now c.len.ensures.table

pub returns-in_err-asked-in-None-clause-grows : goal.returns-in_err-asked-in-None-clause-grows
returns-in_err-asked-in-None-clause-grows c = grows-none c.args.words.now c.len.ensures.table

pub returns-in_ok-asked-in-Some-clause-asks : goal.returns-in_ok-asked-in-Some-clause-asks
returns-in_ok-asked-in-Some-clause-asks c = λ root s word it.
    let rows = c.args.pool.now in
    let n = length c.args.words.now in
    let plan = c.args.plan.now in
    let key = c.args.key in
    let new = c.met.new.words in
    let grows = c.in_ok-asked-in-Some.ensures.grows in
    let m = match-found rows n root plan new s word it grows.table grows.grows c.requires.places
    c.tables_stand_for_steps.ensures c.args.at key
    c.turn_here.result c.word_here.result.0 c.find.result c.requires.at c.requires.key.0 c.requires.key.1
    c.turn_here.ensures c.word_here.ensures
    c.find.ensures.matched in
    c.in_ok-asked-in-Some.ensures.asks s it.kind word (request_by word rows c.in-Some.r) it.reads
    (kinds-are rows n root plan new s word it grows.table grows.grows c.requires.places)
    (m ∙ ap (option_map (request_by word rows)) c.in-Some.is) refl refl

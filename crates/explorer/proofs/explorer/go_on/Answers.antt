-- What comes first is answered, and what is passed by is left.
use Rattle.std.proofs.Common.{◌≡◌, ◌∙◌, refl, sym, ap, true, false}
use Rattle.shape_pool.specs.Rows.{kind_at, tree_at}
use Rattle.shape_pool.specs.Laws.{word_in}
use Rattle.explorer.specs.Walks.{an_occurrence, is_sought, is_wanted}
use Rattle.explorer.specs.Going.{entered_at_all, first_of, limit_of}
use Rattle.explorer.specs.Levels.{coming_of, innermost}
use Rattle.explorer.specs.Trails.{below}
use Rattle.explorer.proofs.WayLemmas.{step-falls}
use Rattle.explorer.proofs.GoLemmas.{answer-refused, answer-found, answer-over, way-refused, way-entered, is-given}
use Rattle.explorer.proofs.GoLemmas.{go-found, go-passed, go-past, go-over, none-left}
use Rattle.explorer.proofs.explorer.go_on.Goals as goal

pub returns-in-Err-clause-answer : goal.returns-in-Err-clause-answer
returns-in-Err-clause-answer c = λ kind kinds avoid are.
    answer-refused c.args.words.now c.args.pool.now (innermost c.enter.new.self.levels).word
    (entered_at_all c.args.words.now c.args.pool.now kind c.args.find avoid
    (coming_of c.args.pool.now c.next_use.new.start c.enter.new.self.levels))
    (first_of (is_wanted kind c.args.find) (entered_at_all c.args.words.now c.args.pool.now kind c.args.find avoid
    (coming_of c.args.pool.now c.args.start.now c.args.trail.now.levels)))
    (limit_of c.in-Err.fault) c.limit_of.result
    (c.loop-one.invariant.first kind kinds avoid are ∙
    go-past c.args.words.now c.args.pool.now c.laws.ensures c.args.marks.now c.loop-one.start c.next_use.new.start
    c.loop-one.trail
    c.next_use.new.trail c.in-Some.one c.in-Some.ensures.some c.loop-one.invariant.way c.in-Some.ensures.way
    c.enter.new.self
    c.in-Err.ensures.deep kind kinds c.args.find avoid are c.in-Err.fault c.in-Err.ensures.refused)
    c.limit_of.ensures

pub returns-in-Err-clause-way : goal.returns-in-Err-clause-way
returns-in-Err-clause-way c =
    way-refused c.args.words.now c.args.pool.now c.laws.ensures c.args.marks.now c.loop-one.start
    c.next_use.new.start c.loop-one.trail
    c.next_use.new.trail c.in-Some.one c.in-Some.ensures.some c.loop-one.invariant.way c.in-Some.ensures.way
    c.enter.new.self
    c.in-Err.ensures.deep c.in-Err.ensures.err

pub returns-then-is_sought-clause-answer : goal.returns-then-is_sought-clause-answer
returns-then-is_sought-clause-answer c = λ kind kinds avoid are.
    let sought : is_sought c.args.find (kind_at c.args.pool.now c.in-Some.one.id.0) ≡ true =
    ap (is_sought c.args.find) (sym c.kind.ensures) ∙ sym c.is_sought.ensures ∙ c.if-is_sought.true in
    answer-found c.args.words.now c.args.pool.now (innermost c.enter.new.self.levels).word
    (entered_at_all c.args.words.now c.args.pool.now kind c.args.find avoid
    (coming_of c.args.pool.now c.next_use.new.start c.enter.new.self.levels))
    (first_of (is_wanted kind c.args.find) (entered_at_all c.args.words.now c.args.pool.now kind c.args.find avoid
    (coming_of c.args.pool.now c.args.start.now c.args.trail.now.levels)))
    (an_occurrence (below c.args.words.now (innermost c.next_use.new.trail.levels) c.in-Some.one)
    (tree_at (word_in c.args.words.now) c.args.pool.now c.in-Some.one.id.0))
    (entered_at_all c.args.words.now c.args.pool.now kind c.args.find avoid
    (coming_of c.args.pool.now c.next_use.new.start c.enter.new.self.levels))
    (record { turn = c.turn.result; id = c.in-Some.one.id })
    (c.loop-one.invariant.first kind kinds avoid are ∙
    go-found c.args.words.now c.args.pool.now c.laws.ensures c.args.marks.now c.loop-one.start c.next_use.new.start
    c.loop-one.trail
    c.next_use.new.trail c.in-Some.one c.in-Some.ensures.some c.loop-one.invariant.way c.in-Some.ensures.way
    c.enter.new.self
    c.in-Ok.ensures.deep c.in-Ok.ensures.ok kind kinds c.args.find avoid are c.in-Ok.ensures.within sought)
    (is-given c.args.words.now c.args.pool.now c.laws.ensures c.args.marks.now c.loop-one.start
    c.next_use.new.start c.loop-one.trail
    c.next_use.new.trail c.in-Some.one c.in-Some.ensures.some c.loop-one.invariant.way c.in-Some.ensures.way
    c.enter.new.self
    c.in-Ok.ensures.deep c.in-Ok.ensures.ok (record { turn = c.turn.result; id = c.in-Some.one.id }) c.turn.ensures
    refl)
    refl

pub returns-then-is_sought-clause-way : goal.returns-then-is_sought-clause-way
returns-then-is_sought-clause-way c =
    way-entered c.args.words.now c.args.pool.now c.laws.ensures c.args.marks.now c.loop-one.start
    c.next_use.new.start c.loop-one.trail
    c.next_use.new.trail c.in-Some.one c.in-Some.ensures.some c.loop-one.invariant.way c.in-Some.ensures.way
    c.enter.new.self
    c.in-Ok.ensures.deep c.in-Ok.ensures.ok

pub loop-one-smaller : goal.loop-one-smaller
loop-one-smaller c =
    step-falls c.args.words.now c.args.pool.now c.laws.ensures c.args.marks.now c.loop-one.start c.next_use.new.start
    c.loop-one.trail c.next_use.new.trail c.in-Some.one c.in-Some.ensures.some c.in-Some.ensures.way
    c.enter.new.self.levels c.in-Ok.ensures.ok

pub loop-one-preserved : goal.loop-one-preserved
loop-one-preserved c = record {
  way =
      way-entered c.args.words.now c.args.pool.now c.laws.ensures c.args.marks.now c.loop-one.start
      c.next_use.new.start c.loop-one.trail
      c.next_use.new.trail c.in-Some.one c.in-Some.ensures.some c.loop-one.invariant.way c.in-Some.ensures.way
      c.enter.new.self
      c.in-Ok.ensures.deep c.in-Ok.ensures.ok;
  first = λ kind kinds avoid are.
      let not_sought : is_sought c.args.find (kind_at c.args.pool.now c.in-Some.one.id.0) ≡ false =
      ap (is_sought c.args.find) (sym c.kind.ensures) ∙ sym c.is_sought.ensures ∙ c.if-is_sought.false in
      c.loop-one.invariant.first kind kinds avoid are ∙
      go-passed c.args.words.now c.args.pool.now c.laws.ensures c.args.marks.now c.loop-one.start
      c.next_use.new.start c.loop-one.trail
      c.next_use.new.trail c.in-Some.one c.in-Some.ensures.some c.loop-one.invariant.way c.in-Some.ensures.way
      c.enter.new.self
      c.in-Ok.ensures.deep c.in-Ok.ensures.ok kind kinds c.args.find avoid are c.in-Ok.ensures.within not_sought;
}

pub returns-clause-answer : goal.returns-clause-answer
returns-clause-answer c = λ kind kinds avoid are.
    answer-over c.args.words.now c.args.pool.now (innermost c.next_use.new.trail.levels).word
    (entered_at_all c.args.words.now c.args.pool.now kind c.args.find avoid
    (coming_of c.args.pool.now c.next_use.new.start c.next_use.new.trail.levels))
    (first_of (is_wanted kind c.args.find) (entered_at_all c.args.words.now c.args.pool.now kind c.args.find avoid
    (coming_of c.args.pool.now c.args.start.now c.args.trail.now.levels)))
    (c.loop-one.invariant.first kind kinds avoid are ∙
    go-over c.args.words.now c.args.pool.now c.laws.ensures c.args.marks.now c.loop-one.start c.next_use.new.start
    c.loop-one.trail c.next_use.new.trail c.in_default.ensures.none kind kinds c.args.find avoid are
    c.loop-one.invariant.way.way)
    (none-left c.args.words.now c.args.pool.now c.laws.ensures c.args.marks.now c.loop-one.start c.next_use.new.start
    c.loop-one.trail c.next_use.new.trail c.in_default.ensures.none kind kinds c.args.find avoid are)

-- The key has what the plan tells of its node.
use Rattle.lists.proofs.Errors.{IfErr-on}
use Rattle.std.proofs.Common.{◌∙◌, ℕ, ap, subst, refl, Some, None, length}
use Rattle.std.specs.Prelude.{if◌then◌else◌}
use Rattle.orientation.specs.declared.turn.Turn.{Turn}
use Rattle.orientation.specs.Turns.{composed}
use Rattle.location_words.specs.Pairs.{mul}
use Rattle.location_words.specs.Faults.{fault_of, IsDueFault}
use Rattle.key_results.specs.Words.{moved_word}
use Rattle.reshape.proofs.FindLaws.{node-within}
use Rattle.reshape.proofs.KeyLaws.{key-from, due-from}
use Rattle.reshape.proofs.keying.key_of_use.Goals as goal

pub turn_held-turn-requires : goal.turn_held-turn-requires
turn_held-turn-requires c = node-within c.args.plan.now.nodes c.args.at c.args.u.id.0 c.requires.at

pub word_held-requires-clause-at : goal.word_held-requires-clause-at
word_held-requires-clause-at c = node-within c.args.plan.now.nodes c.args.at c.args.u.id.0 c.requires.at

pub returns-in_err-word-clause-refused : goal.returns-in_err-word-clause-refused
returns-in_err-word-clause-refused c =
    let grows = c.in_err-word.ensures.grows in
    IfErr-on c.from_residual.result c.in_err-word.field-0.0 _ c.from_residual.ensures.1
    (λ root s word it. due-from c.args.pool.now (length c.args.words.now) root c.args.plan.now c.word_held.new.words s
    word it
    grows.table grows.grows c.requires.places c.args.at c.args.from c.args.mover c.args.u c.in_err-word.field-0.0
    c.requires.at
    (λ p e. let d = c.in_err-word.ensures.refused p e in (
      d.0,
      subst
          (λ (i : ℕ). IsDueFault (fault_of (mul (word i) (moved_word word c.args.mover c.args.u.place.0)))
          c.in_err-word.field-0.0) c.word_here.ensures
          (d.1 word it.reads.told),
    )))

pub returns-clause-key : goal.returns-clause-key
returns-clause-key c = λ root s word it.
    let grows = c.in_ok-word.ensures.grows in
    key-from c.args.pool.now (length c.args.words.now) root c.args.plan.now c.word_held.new.words s word it grows.table
    grows.grows c.requires.places
    c.args.at c.args.from c.args.mover c.args.u (record
    { id = c.args.u.id; word = c.in_ok-word.word; turn = c.turn_held-turn.result }) c.requires.at refl
    (λ p e. c.turn_held-turn.ensures p e ∙
    ap (λ (t : Turn). if p.turn then Some t else None)
    (c.compose.ensures ∙ ap (λ (t : Turn). composed t c.args.u.turn) c.turn_here.ensures))
    (λ p e. c.in_ok-word.ensures.word p word e it.reads.told ∙
    ap (λ (i : ℕ). if p.place then Some (mul (word i) (moved_word word c.args.mover c.args.u.place.0)) else None)
    c.word_here.ensures)

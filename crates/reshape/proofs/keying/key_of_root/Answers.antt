-- The key has what the plan tells of the root's node.
use Rattle.std.proofs.Common.{◌≡◌, ◌≤◌, ◌<◌, ◌∙◌, ℕ, sym, ap, subst, refl, arith}
use Rattle.std.proofs.Common.{List, [], Option, Some, None, Bool, true, false, length}
use Rattle.std.specs.Prelude.{if◌then◌else◌}
use Rattle.std.specs.Option.{option_map, option_map_or}
use Rattle.std.proofs.lemmas.Option.{slice_get_within}
use Rattle.location_words.specs.declared.pair.Pair.{Pair}
use Rattle.location_words.specs.declared.table.WordId.{WordId}
use Rattle.expansion_laws.specs.Contexts.{at_root, inside}
use Rattle.shape_pool.specs.Rows.{tree_at, use_by}
use Rattle.reshape.proofs.FindLaws.{node-at, node-within}
use Rattle.reshape.proofs.KeyLaws.{key-by-parts}
use Rattle.reshape.proofs.keying.key_of_root.Goals as goal

mapped-if : (word : ℕ → List Pair) (b : Bool) (place : WordId) →
    option_map (λ (w : WordId). word w.0) (if b then Some place else None) ≡
    (if b then Some (word place.0) else None)
mapped-if word true place = refl
mapped-if word false place = refl

held-if : (n : ℕ) (o : Option WordId) (b : Bool) (place : WordId) → o ≡ (if b then Some place else None) → place.0 < n →
    0 < n →
    option_map_or (λ (w : WordId). w.0) o 0 < n
held-if n o true place e h z = subst (λ (p : Option WordId). option_map_or (λ (w : WordId). w.0) p 0 < n) (sym e) h
held-if n o false place e h z = subst (λ (p : Option WordId). option_map_or (λ (w : WordId). w.0) p 0 < n) (sym e) z

pub turn_held-turn-requires : goal.turn_held-turn-requires
turn_held-turn-requires c = node-within c.args.plan.now.nodes c.args.at c.args.root.id.0 c.requires.at

pub place_held-word-requires : goal.place_held-word-requires
place_held-word-requires c = node-within c.args.plan.now.nodes c.args.at c.args.root.id.0 c.requires.at

pub returns-clause-key : goal.returns-clause-key
returns-clause-key c = λ root s word it.
    let words = c.args.words.now in
    let le : length words ≤ length words = omega arith in
    let place = c.args.root.place in
    key-by-parts c.args.pool.now (length words) root c.args.plan.now words s word it c.len.ensures.table le
    c.requires.places c.args.at
    (record { id = c.args.root.id; word = c.place_held-word.result; turn = c.turn_held-turn.result })
    (inside at_root (use_by word (tree_at word c.args.pool.now) c.args.root)) c.requires.at c.turn_held-turn.ensures
    (λ p e. ap (option_map (λ (w : WordId). word w.0)) (c.place_held-word.ensures p e) ∙ mapped-if word p.place place ∙
    ap (λ (w : List Pair). if p.place then Some w else None)
    (sym (c.words_are_a_group.ensures.identity_outer (word place.0) (it.reads.told.words place.0))))

pub returns-clause-held : goal.returns-clause-held
returns-clause-held c =
    let p = node-at c.args.plan.now.nodes c.args.at c.args.root.id.0 c.requires.at in
    held-if (length c.args.words.now) c.place_held-word.result p.0.place c.args.root.place
    (c.place_held-word.ensures p.0 p.1) c.requires.place
    (slice_get_within c.args.words.now 0 [] c.len.ensures.table.identity)

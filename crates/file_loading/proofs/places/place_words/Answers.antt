use Rattle.std.proofs.Common.{◌≡◌, ◌+◌, arith, subst, sym}
use Rattle.std.specs.Prelude.{ℕ, List, length}
use Rattle.location_words.specs.declared.table.WordId.{WordId}
use Rattle.file_loading.specs.Places.{HoldWordsTo}
use Rattle.file_loading.proofs.PlaceLaws.{first_place, keeps_on, place_more}
use Rattle.file_loading.proofs.places.place_words.Goals as goal

pub places-init : goal.places-init
places-init c = record {
  held =
      first_place c.args.section.now c.args.words.now c.place_word.new.words c.new-ids.result.items
      c.push.new.self.items c.in_ok-place_word.field-0 c.new-ids.ensures.items c.in_ok-push.ensures.items
      c.in_ok-place_word.ensures.kept c.in_ok-place_word.ensures.held;
  kept = c.in_ok-place_word.ensures.kept;
  table = c.in_ok-place_word.ensures.table;
}

pub places-preserved : goal.places-preserved
places-preserved c =
    let section = c.args.section.now in
    record {
      held =
          subst (λ (ids : List WordId). HoldWordsTo section c.place_word-in-places.new.words ids
          (c.places.place + 1 + 1))
          (sym c.in_ok-push-2.ensures.items)
          (place_more section c.places.words c.place_word-in-places.new.words c.places.ids.items (c.places.place + 1)
          c.in_ok-place_word-2.field-0 c.places.invariant.held c.in_ok-place_word-2.ensures.kept
          c.in_ok-place_word-2.ensures.held);
      kept =
          keeps_on c.args.words.now c.places.words c.place_word-in-places.new.words c.places.invariant.kept
          c.in_ok-place_word-2.ensures.kept;
      table = c.in_ok-place_word-2.ensures.table;
    }

pub returns-clause-held : goal.returns-clause-held
returns-clause-held c =
    let long = c.len-place-end.ensures.len in
    let all : c.places.place ≡ length c.args.section.now =
    omega (arith, long, c.places-test.false, c.places.auto.place-end) in
    subst (λ (n : ℕ). HoldWordsTo c.args.section.now c.places.words c.places.ids.items (n + 1)) all
    c.places.invariant.held

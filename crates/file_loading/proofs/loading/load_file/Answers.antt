use Rattle.std.proofs.Common.{arith, subst, sym}
use Rattle.std.specs.Prelude.{List, length}
use Rattle.location_words.specs.declared.table.WordId.{WordId}
use Rattle.shape_pool.specs.Rows.{Row}
use Rattle.file_loading.specs.Loading.{IsLoadedTo}
use Rattle.file_loading.specs.Places.{HoldWordsOf}
use Rattle.file_loading.proofs.LoadLaws.{all-loaded, kinds-loaded, none-loaded, origins-loaded, place-held, use-as, use-same, whole}
use Rattle.file_loading.proofs.loading.load_file.Goals as goal

pub records-init : goal.records-init
records-init c =
    subst (λ (rows : List Row). IsLoadedTo c.args.file.now c.place_words.new.words rows 0) (sym c.requires.pool)
    (none-loaded c.args.file.now c.place_words.new.words)

pub load_record-requires-clause-ids : goal.load_record-requires-clause-ids
load_record-requires-clause-ids c =
    subst (λ (ids : List WordId). HoldWordsOf c.args.file.now.locations c.place_words.new.words ids)
    (sym c.as_slice.ensures.value) c.in_ok-ids.ensures.held

pub loaded_use-requires-clause-number : goal.loaded_use-requires-clause-number
loaded_use-requires-clause-number c =
    let named = c.requires.sound.root.1 in
    let count = c.len-records.ensures in
    omega (arith, named, count)

pub loaded_use-requires-clause-place : goal.loaded_use-requires-clause-place
loaded_use-requires-clause-place c =
    let size = c.in_ok-ids.ensures.held.size in
    let located = c.requires.sound.root_location in
    let same = c.as_slice-2.ensures.len in
    omega (arith, size, located, same)

pub returns-clause-loaded : goal.returns-clause-loaded
returns-clause-loaded c =
    all-loaded c.args.file.now c.place_words.new.words c.records.pool c.in_ok-ids.ensures.table
    (whole c.args.file.now c.place_words.new.words c.records.pool c.records.at c.len-records.result
    c.len-records.ensures c.records-test.false c.records.auto.at-end c.records.invariant)

pub returns-clause-rows : goal.returns-clause-rows
returns-clause-rows c =
    (whole c.args.file.now c.place_words.new.words c.records.pool c.records.at c.len-records.result
    c.len-records.ensures c.records-test.false c.records.auto.at-end c.records.invariant).size

pub returns-clause-kinds : goal.returns-clause-kinds
returns-clause-kinds c =
    kinds-loaded c.args.file.now c.place_words.new.words c.records.pool
    (whole c.args.file.now c.place_words.new.words c.records.pool c.records.at c.len-records.result
    c.len-records.ensures c.records-test.false c.records.auto.at-end c.records.invariant)

pub returns-clause-root : goal.returns-clause-root
returns-clause-root c =
    let f = c.args.file.now in
    let words = c.place_words.new.words in
    let number = c.requires.sound.root in
    let low = number.0 in
    let high = number.1 in
    use-same f words c.records.pool c.as_slice-2.result.now (length f.records)
    (subst (λ (ids : List WordId). HoldWordsOf f.locations words ids) (sym c.as_slice-2.ensures.value)
    c.in_ok-ids.ensures.held)
    (whole f words c.records.pool c.records.at c.len-records.result c.len-records.ensures c.records-test.false
    c.records.auto.at-end c.records.invariant)
    f.root c.loaded_use.result high (omega (arith, low, high)) c.requires.sound.root_location
    (use-as _ _ _ _ _ c.len-records.ensures c.loaded_use.ensures)

pub returns-clause-held : goal.returns-clause-held
returns-clause-held c =
    let f = c.args.file.now in
    let words = c.place_words.new.words in
    let number = c.requires.sound.root in
    let low = number.0 in
    let high = number.1 in
    let to = whole f words c.records.pool c.records.at c.len-records.result c.len-records.ensures
    c.records-test.false c.records.auto.at-end c.records.invariant in
    let size = to.size in
    let own = use-as _ _ _ _ _ c.len-records.ensures c.loaded_use.ensures in
    let id = own.id in (
      omega (arith, id, size, low, high),
      place-held f words c.records.pool c.as_slice-2.result.now (length f.records)
          (subst (λ (ids : List WordId). HoldWordsOf f.locations words ids) (sym c.as_slice-2.ensures.value)
          c.in_ok-ids.ensures.held)
          to f.root c.loaded_use.result c.requires.sound.root_location own,
    )

pub returns-clause-origins : goal.returns-clause-origins
returns-clause-origins c =
    let f = c.args.file.now in
    let words = c.place_words.new.words in
    let number = c.requires.sound.root in
    let low = number.0 in
    let high = number.1 in
    let to = whole f words c.records.pool c.records.at c.len-records.result c.len-records.ensures
    c.records-test.false c.records.auto.at-end c.records.invariant in
    let size = to.size in
    let id = c.loaded_use.ensures.id in
    let count = c.len-records.ensures in
    origins-loaded f words c.records.pool c.loaded_use.result.id.0 c.laws.ensures to
    (omega (arith, id, count, size, low, high))

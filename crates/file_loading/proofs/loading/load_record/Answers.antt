use Rattle.std.proofs.Common.{◌<◌, ◌≤◌, ◌-◌, arith, subst, sym}
use Rattle.std.specs.Prelude.{ℕ, List, All, length}
use Rattle.brep_file.specs.PlainRecords.{plain_records, plain_root}
use Rattle.brep_file.specs.declared.uses.FileUse.{FileUse}
use Rattle.shape_pool.specs.Calls.{IsLoaded, IsNode, IsTreeOver}
use Rattle.file_loading.proofs.LoadLaws.{is-new, loaded-as, loaded-on, never-deep, never-many, one-more}
use Rattle.file_loading.proofs.LoadLaws.{record-is, uses-below, uses-held, uses-numbered, uses-placed, uses-shallow}
use Rattle.file_loading.proofs.SoundFiles.{sound-file}
use Rattle.file_loading.proofs.loading.load_record.Goals as goal

pub loaded_uses-requires-clause-numbers : goal.loaded_uses-requires-clause-numbers
loaded_uses-requires-clause-numbers c =
    let f = c.args.file.now in
    let r = c.entry-record.result.now in
    let count = c.len-records.ensures in
    subst (λ (us : List FileUse). All (λ (u : FileUse). u.number ≤ c.len-records.result) us) (sym c.as_slice.ensures)
    (subst (λ (n : ℕ). All (λ (u : FileUse). u.number ≤ n) r.uses) (sym count)
    (uses-numbered f c.args.words.now c.args.pool.now c.args.ids.now c.args.at r c.requires.sound c.requires.at
    c.requires.ids c.requires.loaded c.laws.ensures
    (c.records_are_trees.ensures (plain_records f) (plain_root f) (sound-file f c.requires.sound))
    (record-is f c.len-records.result c.args.at r count c.entry-record.ensures)))

pub loaded_uses-requires-clause-places : goal.loaded_uses-requires-clause-places
loaded_uses-requires-clause-places c =
    let f = c.args.file.now in
    let r = c.entry-record.result.now in
    subst (λ (us : List FileUse). All (λ (u : FileUse). u.location < length c.args.ids.now) us)
    (sym c.as_slice.ensures)
    (uses-placed f c.args.words.now c.args.pool.now c.args.ids.now c.args.at r c.requires.sound c.requires.at
    c.requires.ids c.requires.loaded c.laws.ensures
    (c.records_are_trees.ensures (plain_records f) (plain_root f) (sound-file f c.requires.sound))
    (record-is f c.len-records.result c.args.at r c.len-records.ensures c.entry-record.ensures))

pub load-requires-clause-held : goal.load-requires-clause-held
load-requires-clause-held c =
    let f = c.args.file.now in
    let r = c.entry-record.result.now in
    uses-held f c.args.words.now c.args.pool.now c.args.ids.now c.args.at r c.requires.sound c.requires.at
    c.requires.ids c.requires.loaded c.laws.ensures
    (c.records_are_trees.ensures (plain_records f) (plain_root f) (sound-file f c.requires.sound))
    (record-is f c.len-records.result c.args.at r c.len-records.ensures c.entry-record.ensures)
    c.as_slice-2.result.now
    (loaded-as _ _ _ _ _ _ _ c.len-records.ensures c.as_slice.ensures c.as_slice-2.ensures.value c.in_ok-uses.ensures)

pub load-requires-clause-below : goal.load-requires-clause-below
load-requires-clause-below c =
    let f = c.args.file.now in
    let r = c.entry-record.result.now in
    uses-below f c.args.words.now c.args.pool.now c.args.ids.now c.args.at r c.requires.sound c.requires.at
    c.requires.ids c.requires.loaded c.laws.ensures
    (c.records_are_trees.ensures (plain_records f) (plain_root f) (sound-file f c.requires.sound))
    (record-is f c.len-records.result c.args.at r c.len-records.ensures c.entry-record.ensures)
    c.as_slice-2.result.now
    (loaded-as _ _ _ _ _ _ _ c.len-records.ensures c.as_slice.ensures c.as_slice-2.ensures.value c.in_ok-uses.ensures)

pub load-requires-clause-new : goal.load-requires-clause-new
load-requires-clause-new c =
    let f = c.args.file.now in
    let r = c.entry-record.result.now in
    λ held.
    is-new f c.args.words.now c.args.pool.now c.args.ids.now c.args.at r c.requires.sound c.requires.at c.requires.ids
    c.requires.loaded c.laws.ensures
    (c.records_are_trees.ensures (plain_records f) (plain_root f) (sound-file f c.requires.sound))
    (record-is f c.len-records.result c.args.at r c.len-records.ensures c.entry-record.ensures)
    (subst (λ (n : ℕ). IsLoaded c.args.pool.now (n - c.args.at)) c.len-records.ensures held)

pub unreachable-requires : goal.unreachable-requires
unreachable-requires c =
    let size = c.requires.loaded.size in
    let few = c.requires.within.records in
    never-many c.args.pool.now _ c.as_slice-2.result.now _ _ c.in-Err-TooMany.field-0-is c.in-Err-TooMany.ensures.refused
    (omega (arith, size, few, c.requires.at))

pub unreachable-requires-in-Err-TooDeep : goal.unreachable-requires-in-Err-TooDeep
unreachable-requires-in-Err-TooDeep c =
    let f = c.args.file.now in
    let r = c.entry-record.result.now in
    never-deep c.args.pool.now _ c.as_slice-2.result.now _ _ c.in-Err-TooDeep.field-0-is c.in-Err-TooDeep.ensures.refused
    (uses-shallow f c.args.words.now c.args.pool.now c.args.ids.now c.args.at r c.requires.sound c.requires.at
    c.requires.ids c.requires.loaded c.laws.ensures
    (c.records_are_trees.ensures (plain_records f) (plain_root f) (sound-file f c.requires.sound))
    (record-is f c.len-records.result c.args.at r c.len-records.ensures c.entry-record.ensures)
    c.as_slice-2.result.now
    (loaded-as _ _ _ _ _ _ _ c.len-records.ensures c.as_slice.ensures c.as_slice-2.ensures.value
    c.in_ok-uses.ensures))

pub returns-in-Ok : goal.returns-in-Ok
returns-in-Ok c =
    let f = c.args.file.now in
    let r = c.entry-record.result.now in
    let rows = c.args.pool.now in
    let vs = c.as_slice-2.result.now in
    let made = c.in-Ok.ensures in
    loaded-on f c.args.words.now rows c.args.ids.now c.args.at r c.requires.sound c.requires.at c.requires.ids
    c.requires.loaded c.laws.ensures
    (c.records_are_trees.ensures (plain_records f) (plain_root f) (sound-file f c.requires.sound))
    (record-is f c.len-records.result c.args.at r c.len-records.ensures c.entry-record.ensures) vs
    (loaded-as _ _ _ _ _ _ _ c.len-records.ensures c.as_slice.ensures c.as_slice-2.ensures.value c.in_ok-uses.ensures)
    c.load.new.self c.in-Ok.field-0.0 made.id (one-more rows c.load.new.self _ made.rows)
    (subst (λ (n : ℕ). IsNode c.load.new.self r.head.kind (n - c.args.at) vs c.in-Ok.field-0.0) c.len-records.ensures
    made.node)
    made.kept
    (subst (λ (n : ℕ). IsTreeOver rows (n - c.args.at) vs c.load.new.self c.in-Ok.field-0.0) c.len-records.ensures
    made.tree)
    made.places

-- The same request for each of some nodes.
use Rattle.std.proofs.Common.{◌<◌, subst, ℕ, length, map}
use Rattle.std.specs.Prelude.{List, All, Contains, Option, None, Some}
use Rattle.std.proofs.lemmas.List.Elements.{All-contains}
use Rattle.lists.proofs.Each.{All-from_members}
use Rattle.lists.proofs.Members.{Contains-map, Contains-map_cases}
use Rattle.orientation.specs.declared.turn.Turn.{Turn}
use Rattle.location_table.specs.Words.{word_of_place}
use Rattle.location_words.specs.declared.pair.Pair.{Pair}
use Rattle.location_words.specs.declared.table.WordId.{WordId}
use Rattle.brep_file.specs.declared.file.File.{File}
use Rattle.file_loading.specs.Places.{KeepsWords}
use Rattle.requests.specs.declared.request.Act.TheVariants.{Remove, Replace}
use Rattle.requests.specs.declared.request.Request.{Request}
use Rattle.requests.specs.Numbered.{ActFits, AreHeldIn, FitsAt, IsHeldIn}
use Rattle.shape_pool.specs.declared.node.NodeId.{NodeId}
use Rattle.shape_pool.specs.declared.node.UseOf.{UseOf}
use Rattle.shape_pool.specs.Rows.{Row}
use Rattle.script_requests.specs.Numbered.{a_request, HasMisfit, IsPlaceOf}

-- some request
abbrev pub any_request : Request
any_request = record { source = record { 0 = 0 }; place = None; turn = None; act = Remove }

-- a place stays that of its word in a table that keeps words
pub place-kept : (f : File) (old new : List (List Pair)) (location : Option ℕ) (place : Option WordId) →
    KeepsWords old new → IsPlaceOf f old location place → IsPlaceOf f new location place
place-kept f old new None place kept e = e
place-kept f old new (Some l) place kept h = (h.0, h.1, kept h.0.0 (word_of_place f.locations l) h.2)

module _ (rows : List Row) (place : Option WordId) (turn : Option Turn) (by : UseOf) (ids : List NodeId) where
  abbrev pub made : NodeId → Request
  made i = a_request place turn (Replace by) i

  -- nodes that are held are named
  pub made-held : by.id.0 < length rows → All (λ (i : NodeId). i.0 < length rows) ids → AreHeldIn rows (map made ids)
  made-held target held =
      All-from_members (IsHeldIn rows) (map made ids)
      (λ q m.
      let from = Contains-map_cases made q ids m in
      subst (λ (z : Request). IsHeldIn rows z) from.2
      (All-contains (λ (i : NodeId). i.0 < length rows) ids from.0 held from.1, target))

  -- the target fits each node, or one of them not
  pub made-fit : All (λ (q : Request). ActFits rows q.source.0 q.act) (map made ids) →
      All (λ (i : NodeId). FitsAt rows i.0 by.id.0) ids
  made-fit h =
      All-from_members (λ (i : NodeId). FitsAt rows i.0 by.id.0) ids
      (λ i m.
      All-contains (λ (q : Request). ActFits rows q.source.0 q.act) (map made ids) (made i) h
      (Contains-map made i ids m))

  pub misfit : HasMisfit rows (map made ids) → (i : NodeId) × Contains ids i × (FitsAt rows i.0 by.id.0 → ⊥)
  misfit h =
      let from = Contains-map_cases made h.0 ids h.1 in (
        from.0,
        from.1,
        (λ k. h.2 (subst (λ (z : Request). ActFits rows z.source.0 z.act) from.2 k)),
      )

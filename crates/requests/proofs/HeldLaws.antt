-- What live requests and edges name is held.
use Rattle.std.proofs.Common.{◌<◌, ℕ, Bool, true, false, List, ◌∷◌, [], All, Contains, length, arith, inl, inr}
use Rattle.std.specs.Prelude.{filter, if◌then◌else◌}
use Rattle.std.specs.List.{list_any, flat_map}
use Rattle.std.proofs.lemmas.List.Elements.{All-contains, Contains-append_cases}
use Rattle.lists.proofs.Each.{All-from_members}
use Rattle.lists.proofs.Members.{Contains-cases, Contains-flat_map_cases, Contains-map_cases, Contains-none}
use Rattle.orientation.specs.Kinds.{kind_eq}
use Rattle.orientation.specs.Rules.{is_above}
use Rattle.shape_pool.specs.declared.node.UseOf.{UseOf}
use Rattle.shape_pool.specs.Rows.{Row, kind_at, uses_at}
use Rattle.shape_pool.specs.Laws.{ids_used, IsSound}
use Rattle.requests.specs.declared.request.Request.{Request}
use Rattle.requests.specs.declared.request.Act.{Act}
use Rattle.requests.specs.declared.request.Act.TheVariants.{Remove, Replace}
use Rattle.requests.specs.Numbered.{Table, is_plain, is_for, from_last_plain, live_at, AreHeldIn, IsHeldIn, ActIsHeldIn}
use Rattle.requests.specs.Readings.{targets_at, ends_at}
use Rattle.lists.proofs.Entries.{All-rest, All-from}

module _ (rows : List Row) where
  held-filter : (i : ℕ) (rs : List Request) → AreHeldIn rows rs → AreHeldIn rows (filter (is_for i) rs)
  held-filter i [] all = all
  held-filter i (r ∷ rs) all = go (is_for i r) (held-filter i rs (All-rest (IsHeldIn rows) r rs all))
    where
      go : (b : Bool) → AreHeldIn rows (filter (is_for i) rs) →
          AreHeldIn rows (if b then r ∷ filter (is_for i) rs else filter (is_for i) rs)
      go true rest = All-from (IsHeldIn rows) r (filter (is_for i) rs) (all 0 r (omega arith)) rest
      go false rest = rest

  held-last : (rs : List Request) → AreHeldIn rows rs → AreHeldIn rows (from_last_plain rs)
  held-last [] all = all
  held-last (r ∷ rs) all = go (list_any is_plain rs) (held-last rs (All-rest (IsHeldIn rows) r rs all))
    where
      go : (b : Bool) → AreHeldIn rows (from_last_plain rs) → AreHeldIn rows (if b then from_last_plain rs else r ∷ rs)
      go true rest = rest
      go false rest = all

  pub held-live : (rs : List Request) (i : ℕ) → AreHeldIn rows rs → AreHeldIn rows (live_at rs i)
  held-live rs i all = held-last (filter (is_for i) rs) (held-filter i rs all)

  module _ (sound : IsSound rows) where
    used-held : (i x : ℕ) → i < length rows → Contains (ids_used rows i) x → x < length rows
    used-held i x h m =
        let from = Contains-map_cases (λ (u : UseOf). u.id.0) x (uses_at rows i) m in
        let below = All-contains (λ (u : UseOf). u.id.0 < i) (uses_at rows i) from.0 (sound.uses_are_earlier i h) from.1 in
        omega (arith, h, below, from.2)

    target-held : (i x : ℕ) (a : Act) → ActIsHeldIn rows a → Contains (targets_at rows i a) x → x < length rows
    target-held i x Remove k m = absurd (Contains-none x m)
    target-held i x (Replace by) k m = go (kind_eq (kind_at rows i) (kind_at rows by.id.0)) m
      where
        go : (b : Bool) → Contains (if b then by.id.0 ∷ [] else ids_used rows by.id.0) x → x < length rows
        go true m = elim (Contains-cases by.id.0 x [] m) [ inl e ↦ omega (arith, k, e) | inr n ↦ absurd (Contains-none x n) ]
        go false m = used-held by.id.0 x k m

    own-held : (a b : Bool) (i x : ℕ) → i < length rows →
        Contains (if a then [] else (if b then ids_used rows i else [])) x → x < length rows
    own-held true b i x h m = absurd (Contains-none x m)
    own-held false true i x h m = used-held i x h m
    own-held false false i x h m = absurd (Contains-none x m)

    end-held : (t : Table) (i x : ℕ) → i < length rows → AreHeldIn rows t.requests → Contains (ends_at rows t i) x → x < length rows
    end-held t i x h all m =
        elim (Contains-append_cases (flat_map (λ (r : Request). targets_at rows i r.act) (live_at t.requests i))
        (if list_any is_plain (live_at t.requests i) then [] else (if is_above t.rule.stop (kind_at rows i) then ids_used rows i else []))
        x m) [
          | inl k ↦
              (let from = Contains-flat_map_cases (λ (r : Request). targets_at rows i r.act) x (live_at t.requests i) k in
              let is_held = All-contains (IsHeldIn rows) (live_at t.requests i) from.0 (held-live t.requests i all) from.1 in
              target-held i x from.0.act is_held.1 from.2)
          | inr k ↦ own-held (list_any is_plain (live_at t.requests i)) (is_above t.rule.stop (kind_at rows i)) i x h k
        ]

    pub ends-held : (t : Table) (i : ℕ) → i < length rows → AreHeldIn rows t.requests →
        All (λ x. x < length rows) (ends_at rows t i)
    ends-held t i h all = All-from_members (λ x. x < length rows) (ends_at rows t i) (λ x m. end-held t i x h all m)

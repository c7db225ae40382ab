-- Plans: the numbers of nodes and of words.
use Rattle.std.proofs.Common.{◌≡◌, ◌<◌, ◌-◌, refl, sym, ◌∙◌, ap, subst, arith}
use Rattle.std.specs.Prelude.{ℕ, suc, true, if◌then◌else◌, ◌↔◌, Option, Some, None, IfNone, IfSome, List, [], ◌∷◌}
use Rattle.std.specs.Prelude.{All, Contains, length, map, reverse, slice_get, slice_index_or, unwrap_or}
use Rattle.std.proofs.lemmas.List.{length-map}
use Rattle.std.proofs.lemmas.List.Elements.{All-contains, All-contains_itself, All-weaker}
use Rattle.lists.proofs.Cases.{by_test}
use Rattle.lists.proofs.Entries.{slice_get-mapped}
use Rattle.lists.proofs.Members.{Contains-here, Contains-map, Contains-there}
use Rattle.lists.proofs.Places.{Contains-at, slice_get-reverse}
use Rattle.location_words.specs.declared.pair.Pair.{Pair}
use Rattle.location_table.specs.Words.{datums_of, word_of_place}
use Rattle.expansion_laws.specs.Equality.{tree_eq}
use Rattle.expansion_laws.specs.Expansion.{IsNumberOf}
use Rattle.expansion_laws.specs.Trees.{Tree, Use, origin}
use Rattle.expansion_laws.specs.Written.{IsWritten, flat, number_in, origins_of}
use Rattle.std.proofs.lemmas.Option.{slice_get-get_or}
use Rattle.shape_pool.specs.declared.node.NodeId.{NodeId}
use Rattle.shape_pool.specs.declared.node.UseOf.{UseOf}
use Rattle.shape_pool.specs.Laws.{word_in}
use Rattle.shape_pool.specs.Laws as pools
use Rattle.shape_pool.specs.Rows.{origin_at}
use Rattle.brep_file.specs.declared.uses.FileUse.{FileUse}
use Rattle.file_loading.specs.Loading.{HasOriginsOf}
use Rattle.written_locations.specs.Added.{further_of, location_number, word_number}
use Rattle.written_locations.specs.Further.{number_of_word}
use Rattle.written_order.specs.Orders.{IsOrderOf, OrdersNumber, OrdersNumberTrees}
use Rattle.written_order.specs.Placed.{IsNumbered}
use Rattle.brep_writer.specs.declared.plan.WritePlan.{WritePlan}
use Rattle.brep_writer.specs.declared.source.Source.{Source}
use Rattle.brep_writer.specs.Plans.{plan_location, plan_trees, use_in_file, IsPlan, IsWrittenAs}
use Rattle.brep_writer.specs.Sources.{tree_in, use_of, HasOrigin, IsLoadedSource}
use Rattle.brep_writer.proofs.Heads.{origin-is}

abbrev pub a_file_use : UseOf → ℕ → ℕ → FileUse
a_file_use u number location = record { turn = u.turn; number = number; location = location }

-- ---- numbers of trees
pub number-none : ((x y : Tree) → (tree_eq x y ≡ true) ↔ (x ≡ y)) → (trees : List Tree) (x : Tree)
    → (Contains trees x → ⊥) → number_in trees x ≡ 0
number-none tell [] x none = refl
number-none tell (y ∷ ys) x none = by_test (tree_eq x y)
    (λ e. absurd (none (subst (Contains (y ∷ ys)) (sym ((tell x y).0 e)) (Contains-here y ys))))
    (λ e. ap (λ b. if b then suc (length ys) else number_in ys x) e
    ∙ number-none tell ys x (λ there. none (Contains-there y x ys there)))

-- the number that is found, or 0
pub number-or-none : ((x y : Tree) → (tree_eq x y ≡ true) ↔ (x ≡ y)) → (p : WritePlan) (i : ℕ) (o : Option ℕ)
    → IfSome o (IsWrittenAs p i) → IfNone o (Contains (plan_trees p) (tree_in p.source i) → ⊥)
    → unwrap_or o 0 ≡ number_in (plan_trees p) (tree_in p.source i)
number-or-none tell p i (Some n) some none = some.1
number-or-none tell p i None some none = sym (number-none tell (plan_trees p) (tree_in p.source i) none)

if-some : {P Q : ℕ → Type 0} (o : Option ℕ) → ((n : ℕ) → P n → Q n) → IfSome o P → IfSome o Q
if-some (Some n) f h = f n h
if-some None f h = tt

if-none : {P Q : Type 0} (o : Option ℕ) → (P → Q) → IfNone o P → IfNone o Q
if-none (Some n) f h = tt
if-none None f h = f h

module _ (p : WritePlan) (plan : IsPlan p) where
  abbrev source : Source
  source = p.source

  pub trees-are : map (tree_in source) p.order.numbers ≡ plan_trees p
  trees-are = plan.order.trees source.words.now plan.source.loaded.table plan.source.loaded.places

  -- a number of the order is held, and its tree is written
  pub held : (i : ℕ) → Contains p.order.numbers i → i < length source.pool.now
  held i there = All-contains (λ k. k < length source.pool.now) p.order.numbers i plan.order.held there

  pub origin-held : (i : ℕ) → Contains p.order.numbers i → HasOrigin source i
  origin-held i there = All-contains (HasOrigin source) p.order.numbers i plan.origins there

  tree-there : (i : ℕ) → Contains p.order.numbers i → Contains (plan_trees p) (tree_in source i)
  tree-there i there =
      subst (λ ts. Contains ts (tree_in source i)) trees-are (Contains-map (tree_in source) i p.order.numbers there)

  module _ (pool : pools.IsSound source.pool.now) (number : OrdersNumber) where
    law : OrdersNumberTrees source.pool.now source.words.now
    law = number source.pool.now source.words.now pool plan.source.loaded.table plan.source.loaded.places

    written-as : (i n : ℕ) → IsNumbered p.order.numbers i n → IsWrittenAs p i n
    written-as i n at = (
      tree-there i (Contains-at p.order.numbers (length p.order.numbers - n) i at.at),
      sym (law.number p.root.id.0 i n p.order.numbers plan.order at),
    )

    pub number-some : (i : ℕ) (o : Option ℕ) → IfSome o (IsNumbered p.order.numbers i) → IfSome o (IsWrittenAs p i)
    number-some i o h = if-some o (written-as i) h

    pub number-left : (i : ℕ) (o : Option ℕ) → i < length source.pool.now
        → IfNone o (Contains p.order.numbers i → ⊥)
        → IfNone o (Contains (plan_trees p) (tree_in source i) → ⊥)
    number-left i o lt h = if-none o (law.none p.root.id.0 i p.order.numbers plan.order lt) h

    pub few : (count : ℕ) → count ≡ length p.order.numbers → count ≡ length (plan_trees p)
    few count is = is ∙ sym (length-map p.order.numbers (tree_in source)) ∙ ap length trees-are

  -- ---- the numbers of words
  pub number-at : (w : List Pair)
      → number_of_word (length (datums_of p.locations.section.now)) (further_of p.locations) w ≡ plan_location p w
  number-at w = λ j. number_of_word (length (datums_of (plan.located.over.section j))) (plan.located.words j) w

  pub location-is : (k : ℕ)
      → location_number p.locations k ≡ plan_location p (word_of_place source.file.now.locations k)
  location-is k =
      λ j. number_of_word (length (datums_of (plan.located.over.section j))) (plan.located.words j)
      (word_of_place (plan.located.over.section j) k)

  pub word-is : (k : ℕ) → word_number p.locations k ≡ plan_location p (word_in source.words.now k)
  word-is k =
      λ j. number_of_word (length (datums_of (plan.located.over.section j))) (plan.located.words j)
      (unwrap_or (slice_get (plan.located.over.table j) k) [])

  -- a use as it is written
  pub use-is : (u : UseOf) (number location : ℕ)
      → number ≡ number_in (plan_trees p) (tree_in source u.id.0) → location ≡ word_number p.locations u.place.0
      → a_file_use u number location ≡ use_in_file p u
  use-is u number location is at =
      λ j. record { turn = u.turn; number = is j; location = (at ∙ word-is u.place.0) j }

  -- ---- the origins of numbers
  pub origins-are : pools.IsSound source.pool.now → (k i : ℕ) → IsNumberOf (length (plan_trees p)) k
      → slice_get p.order.numbers (length p.order.numbers - k) ≡ Some i
      → origin_at source.pool.now i ≡ origins_of (plan_trees p) k
  origins-are pool k i number at =
      let numbers : List ℕ = p.order.numbers in
      let origins : List ℕ = map origin (map (tree_in source) numbers) in
      let low = number.0 in
      let high = number.1 in
      let size : length (plan_trees p) ≡ length numbers =
      sym (ap length trees-are) ∙ length-map numbers (tree_in source) in
      let long : length origins ≡ length numbers =
      length-map (map (tree_in source) numbers) origin ∙ length-map numbers (tree_in source) in
      let back : length origins - suc (k - 1) ≡ length numbers - k = omega (arith, long, low, high, size) in
      let found : slice_get (reverse origins) (k - 1) ≡ Some (origin (tree_in source i)) =
      slice_get-reverse origins (k - 1) (omega (arith, long, low, high, size))
      ∙ ap (slice_get origins) back
      ∙ slice_get-mapped origin (map (tree_in source) numbers) (length numbers - k) (tree_in source i)
      (slice_get-mapped (tree_in source) numbers (length numbers - k) i at) in
      let there = held i (Contains-at numbers (length numbers - k) i at) in
      sym (ap (λ (ts : List Tree). origins_of ts k) (sym trees-are) ∙ ap (λ o. unwrap_or o 0) found
      ∙ origin-is source pool i there)

-- ---- the origins of the numbers in an order
pub origins-held : (s : Source) → pools.IsSound s.pool.now → IsLoadedSource s
    → ((root : Use) → IsWritten root (flat root.tree)) → (root : UseOf) → root.id.0 < length s.pool.now
    → HasOriginsOf s.file.now s.pool.now root.id.0 → (numbers : List ℕ) → IsOrderOf s.pool.now root.id.0 numbers
    → All (HasOrigin s) numbers
origins-held s pool source written root lt origins numbers order =
    All-weaker (Contains numbers) (HasOrigin s) (λ i there.
    let word = word_in s.words.now in
    let trees : map (tree_in s) numbers ≡ flat (tree_in s root.id.0) =
    order.trees s.words.now source.loaded.table source.loaded.places in
    let stands = (written (use_of s root)).lists.stand (tree_in s i)
    (subst (λ (ts : List Tree). Contains ts (tree_in s i)) trees (Contains-map (tree_in s) i numbers there)) in
    let from = pool.ids_of_subtrees.reached word root.id.0 (tree_in s i) lt stands in
    let below = pool.ids_of_subtrees.held root.id.0 from.0 lt from.1 in
    let held : i < length s.pool.now = All-contains (λ k. k < length s.pool.now) numbers i order.held there in
    let same : from.0 ≡ i =
    (pool.ids_tell_trees_by s.words.now source.loaded.table source.loaded.places from.0 i
    (omega (arith, below, lt)) held).1 from.2 in
    subst (HasOrigin s) same (origins from.0 from.1))
    numbers (All-contains_itself numbers)

-- ---- the nodes of an order by their places
module _ (p : WritePlan) (plan : IsPlan p) (ids : List NodeId) (same : map (λ (n : NodeId). n.0) ids ≡ p.order.numbers)
  where
    pub ids-size : (k : ℕ) → IsNumberOf (length (plan_trees p)) k → IsNumberOf (length ids) k
    ids-size k number =
        let size : length ids ≡ length (plan_trees p) =
        sym (length-map ids (λ (n : NodeId). n.0)) ∙ ap length same
        ∙ sym (length-map p.order.numbers (tree_in p.source)) ∙ ap length (trees-are p plan) in
        let low = number.0 in
        let high = number.1 in
        (low, omega (arith, high, size))

    pub ids-count : length ids ≡ length p.order.numbers
    ids-count = sym (length-map ids (λ (n : NodeId). n.0)) ∙ ap length same

    pub id-at : (k : ℕ) (d : NodeId) → k < length ids
        → slice_get p.order.numbers k ≡ Some (slice_index_or ids k d).0
    id-at k d lt =
        ap (λ (l : List ℕ). slice_get l k) (sym same)
        ∙ slice_get-mapped (λ (n : NodeId). n.0) ids k (slice_index_or ids k d) (slice_get-get_or ids k d lt)

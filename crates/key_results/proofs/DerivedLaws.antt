-- What a derivation denotes are the relative results of its keys.
use Rattle.std.proofs.Common.{◌≡◌, ◌<◌, ℕ, zero, suc, List, map, [], Contains}
use Rattle.std.proofs.Common.{arith, sym, ◌∙◌, ap, subst, refl, slice_get, Option, Some, None}
use Rattle.std.specs.List.{flat_map}
use Rattle.std.specs.Prelude.{unwrap_or}
use Rattle.std.specs.Option.{option_map, option_map_or}
use Rattle.std.proofs.lemmas.Option.{slice_get_within}
use Rattle.std.proofs.lemmas.List.Folds.{flat_map-map}
use Rattle.std.proofs.lemmas.List.Elements.{All-contains}
use Rattle.lists.specs.Sameness.{is_empty}
use Rattle.lists.proofs.Places.{at_place}
use Rattle.lists.proofs.Members.{map-map, Contains-map_cases}
use Rattle.location_words.specs.declared.pair.Pair.{Pair}
use Rattle.location_words.specs.declared.table.WordId.{WordId}
use Rattle.location_words.specs.Pairs.{IsWord, mul}
use Rattle.location_words.specs.Laws.{WordsAreAGroup}
use Rattle.expansion_laws.specs.Trees.{Use}
use Rattle.expansion_laws.specs.Contexts.{inside}
use Rattle.expansion_laws.specs.Steps.{Step}
use Rattle.expansion_laws.specs.Demands.{demands, gathered}
use Rattle.expansion_laws.specs.Rewriting.{RelativeResults}
use Rattle.expansion_laws.specs.RewritingLaws.{ResultsAreGathered, KeysStandForVisits, HasParts, carried_parts}
use Rattle.expansion_laws.specs.Keys.{context_of}
use Rattle.shape_pool.specs.declared.node.NodeId.{NodeId}
use Rattle.shape_pool.specs.Rows.{Row, tree_at}
use Rattle.key_results.specs.declared.derive.Link.{Link}
use Rattle.key_results.specs.declared.derive.Visit.{Visit}
use Rattle.key_results.specs.declared.key.Key.{Key}
use Rattle.key_results.specs.declared.words.Mover.{Mover}
use Rattle.key_results.specs.Memos.{key_by, context_by, turn_here, place_here}
use Rattle.key_results.specs.Derivations.{made_of, results_at, results_of, joined_by, linked, AreLinked}
use Rattle.key_results.specs.Derived.{id_at, asked_by, IsLinkedFrom, IsDerivation, DerivesResults}
use Rattle.key_results.proofs.ResultLaws.{results-entry}

-- the context that stands for a key, where the number 0 is the identity's
word-here : (word : ℕ → List Pair) → word 0 ≡ [] → (o : Option WordId) →
    unwrap_or (option_map (λ (w : WordId). word w.0) o) [] ≡ word (option_map_or (λ (w : WordId). w.0) o 0)
word-here word e None = sym e
word-here word e (Some w) = refl

pub context-by : (word : ℕ → List Pair) (rows : List Row) (k : Key) → word 0 ≡ [] →
    context_of (key_by word rows k) ≡ context_by word k
context-by word rows k e = λ i. record { turn = turn_here k; word = word-here word e k.word i }

pub id-at : (keys : List Key) (k : ℕ) (key : Key) → slice_get keys k ≡ Some key → id_at keys k ≡ key.id.0
id-at keys k key e = ap (λ o. option_map_or (λ (q : Key). q.id.0) o 0) e

module _ (s : Step) (word : ℕ → List Pair) (rows : List Row) (keys : List Key) (visits : List Visit)
    (gathers : ResultsAreGathered s)
    (stand : KeysStandForVisits s) (group : WordsAreAGroup) (identity : word 0 ≡ []) (words : (i : ℕ) → IsWord (word i))
    (linked-all : AreLinked visits) (derives : IsDerivation s word rows keys visits) where
  abbrev results : List (List Use)
  results = results_of word (tree_at word rows) s.rule.prune visits

  -- the results of a link's use
  abbrev parts-of : Link → List Use
  parts-of l = results_at results l.key

  abbrev Told : ℕ → Type 0
  Told k = (from : Key) → slice_get keys k ≡ Some from →
      RelativeResults s (tree_at word rows from.id.0) (context_by word from) (results_at results k)

  link-parts : (from : Key) (k : ℕ) (m : Mover) (l : Link) → ((j : ℕ) → j < k → Told j) →
      IsLinkedFrom s word rows keys from k m l →
      HasParts s (context_by word from) (asked_by s word rows keys m l, parts-of l)
  link-parts from k m l told linked =
      let to = linked.1 in
      let there = told l.key linked.0 to linked.2 in
      let same = stand.same_results (tree_at word rows to.id.0)
      (inside (context_by word from) (asked_by s word rows keys m l)) (key_by word rows to) (parts-of l) linked.3 in
      let here =
      same.1 (subst (λ c. RelativeResults s (tree_at word rows to.id.0) c (parts-of l))
      (sym (context-by word rows to identity)) there) in (
        group.product_is_word (word m.back.0) (mul (word m.by.0) (word l.place.0)),
        subst
            (λ i. RelativeResults s (tree_at word rows i) (inside (context_by word from) (asked_by s word rows keys m l))
            (parts-of l))
            (sym (id-at keys l.key to linked.2)) here,
      )

  visit-told : (k : ℕ) (from : Key) (v : Visit) → slice_get keys k ≡ Some from → slice_get visits k ≡ Some v →
      ((j : ℕ) → j < k → Told j) → RelativeResults s (tree_at word rows from.id.0) (context_by word from)
      (results_at results k)
  visit-told k from v e f told =
      let it = derives.each k from v e f in
      let x = tree_at word rows from.id.0 in
      let here = context_by word from in
      let pair : Link → Use × List Use = (λ l. (asked_by s word rows keys v.mover l, parts-of l)) in
      let asked = map pair v.links.items in
      let same : demands s x here ≡ map (λ (p : Use × List Use). p.0) asked =
      it.asked ∙
      sym (map-map pair (λ (p : Use × List Use). p.0) (asked_by s word rows keys v.mover) v.links.items
      (λ l m. refl)) in
      let each : (p : Use × List Use) → Contains asked p → HasParts s here p =
      (λ p m. let c = Contains-map_cases pair p v.links.items m in
      subst (HasParts s here) c.2 (link-parts from k v.mover c.0 told
      (All-contains (IsLinkedFrom s word rows keys from k v.mover) v.links.items c.0 it.links c.1))) in
      let got = gathers x here asked (words (place_here from)) same each in
      let joined : flat_map carried_parts asked ≡ joined_by word v.mover results v.links.items =
      flat_map-map carried_parts pair v.links.items in
      let made : gathered s x here (flat_map carried_parts asked) ≡ results_at results k =
      ap (gathered s x here) joined ∙ it.made (joined_by word v.mover results v.links.items) ∙
      ap
      (λ (i : ℕ). made_of v.outcome s.rule.prune (is_empty v.links.items) (tree_at word rows i)
      (joined_by word v.mover results v.links.items)) (sym (ap (λ (n : NodeId). n.0) it.id)) ∙
      sym (results-entry word (tree_at word rows) s.rule.prune visits linked-all k v f) in
      subst (RelativeResults s x here) made got

  told-below : (n k : ℕ) → k < n → Told k
  told-below zero k h from e = absurd (omega (arith, h))
  told-below (suc n) k h from e =
      let lt = slice_get_within keys k from e in
      let v = at_place visits k (let a = derives.long in omega (arith, a, lt)) in
      visit-told k from v.0 e v.1 (λ j l. told-below n j (omega (arith, l, h)))

  pub derives-results : DerivesResults s word rows keys visits
  derives-results k = told-below (suc k) k (omega arith)

-- The relative results of a visit are made of those of its demands, and are there where the graph has a rank.
use Rattle.std.proofs.Common.{refl, sym, ap, arith, ◌∙◌}
use Rattle.std.specs.Prelude.{◌≡◌, ◌≤◌, ◌+◌, ℕ, zero, suc, Option, None, Some}
use Rattle.std.specs.Prelude.{List, [], ◌∷◌, ◌++◌, map, length, Contains}
use Rattle.std.specs.List.{flat_map}
use Rattle.std.specs.Option.{option_map}
use Rattle.lists.proofs.Members.{Contains-here, Contains-none, Contains-there}
use Rattle.orientation.specs.Laws.{TurnsCompose}
use Rattle.location_words.specs.declared.pair.Pair.{Pair}
use Rattle.location_words.specs.Pairs.{IsWord}
use Rattle.graph_walks.specs.Walks.{IsRankBound}
use Rattle.location_words.specs.Laws.{WordsAreAGroup}
use Rattle.expansion_laws.specs.Trees.{Tree, Use}
use Rattle.expansion_laws.specs.Contexts.{Context, inside, carried, bare}
use Rattle.expansion_laws.specs.Requests.{Act, remove, replace, Request, match_of}
use Rattle.expansion_laws.specs.Steps.{Step, entered, new_use, onward}
use Rattle.expansion_laws.specs.Rewriting.{joined, all_results, remains, by_act, by_match, results_within, Rewrites}
use Rattle.expansion_laws.specs.Demands.{demands_of_act, demands_by, gathered_by, demands, gathered}
use Rattle.expansion_laws.specs.Graph.{edges}
use Rattle.expansion_laws.proofs.CarriedLemmas.{all_carried, results-relative}
use Rattle.expansion_laws.proofs.LevelLemmas.{more, kept-at}
use Rattle.expansion_laws.proofs.LeastLemmas.{results-next, all-more}
use Rattle.expansion_laws.proofs.KeyLemmas.{edge-use, edge-onward}

-- each demand of a visit is at the end of an edge
demand-edge-by : (s : Step) (x : Tree) (here : Context) (m : Option Request) → match_of s.requests x here ≡ m →
    (v : Use) → Contains (demands_by s x here m) v → Contains (edges s x) v.tree
demand-edge-by s x here None e v k = edge-use s x here v e k
demand-edge-by s x here (Some r) e v k = go r.act refl k
  where
    go : (act : Act) → r.act ≡ act → Contains (demands_of_act s x here r.place act) v → Contains (edges s x) v.tree
    go remove f k = absurd (Contains-none v k)
    go (replace by) f k = edge-onward s x here here (bare x) r r.place by v e f k

pub demand-edge : (s : Step) (x : Tree) (here : Context) (v : Use) → Contains (demands s x here) v →
    Contains (edges s x) v.tree
demand-edge s x here v k = demand-edge-by s x here (match_of s.requests x here) refl v k

-- ---- existence
pub all-there : (f : Use → Option (List Use)) (us : List Use) →
    ((v : Use) → Contains us v → (r : List Use) × (f v ≡ Some r)) → (r : List Use) × (all_results f us ≡ Some r)
all-there f [] h = ([], refl)
all-there f (u ∷ us) h =
    let one = h u (Contains-here u us) in
    let rest = all-there f us (λ v m. h v (Contains-there u v us m)) in
    (one.0 ++ rest.0, λ i. joined (one.1 i) (rest.1 i))

-- what a level asks for is at the ends of edges, so where these are there so is the level
module _ (s : Step) (again : Context → Use → Option (List Use)) (c : Context) (u : Use)
    (each : (d : Context) (v : Use) → Contains (edges s u.tree) v.tree → (r : List Use) × (again d v ≡ Some r)) where
  act-there : (r : Request) (act : Act) → match_of s.requests u.tree (inside c u) ≡ Some r → r.act ≡ act →
      (a : List Use) × (by_act s again c u r.place act ≡ Some a)
  act-there r remove m f = ([], refl)
  act-there r (replace by) m f =
      all-there (again c) (onward s u.tree (new_use c u r.place by))
      (λ v k. each c v (edge-onward s u.tree (inside c u) c u r r.place by v m f k))

  match-there : (m : Option Request) → match_of s.requests u.tree (inside c u) ≡ m →
      (a : List Use) × (by_match s again c u m ≡ Some a)
  match-there None e =
      let all = all-there (again (inside c u)) (entered s u.tree)
      (λ v k. each (inside c u) v (edge-use s u.tree (inside c u) v e k)) in
      (remains s u all.0, ap (option_map (remains s u)) all.1)
  match-there (Some r) e = act-there r r.act e refl

-- where walks from a use's tree have at most n edges, n + 1 levels give its results, in any context
pub there : (s : Step) (n : ℕ) (c : Context) (u : Use) → IsRankBound (edges s) u.tree n →
    (a : List Use) × (results_within s (suc n) c u ≡ Some a)
there s zero c u bound =
    let step = match-there s (λ d v. results_within s zero d v) c u
    (λ d v m. absurd (let k : 1 ≤ 0 = bound (v.tree ∷ []) (m, tt) in omega (arith, k)))
    (match_of s.requests u.tree (inside c u)) refl in
    (step.0, results-next s zero c u ∙ step.1)
there s (suc n) c u bound =
    let step = match-there s (λ d v. results_within s (suc n) d v) c u
    (λ d v m.
    there s n d v (λ walk w. let k : suc (length walk) ≤ suc n = bound (v.tree ∷ walk) (m, w) in omega (arith, k)))
    (match_of s.requests u.tree (inside c u)) refl in
    (step.0, results-next s (suc n) c u ∙ step.1)

-- ---- relative results
module _ (turns : TurnsCompose) (group : WordsAreAGroup) where
  -- the visit of a bare use is in its own context
  pub inside-bare : (here : Context) (x : Tree) → IsWord here.word → inside here (bare x) ≡ here
  inside-bare here x h = λ i. record { turn = turns.forward_inner here.turn i; word = h i }

  same-option : (o : Option (List Use)) → o ≡ option_map (λ parts. parts) o
  same-option None = refl
  same-option (Some a) = refl

  module _ (s : Step) (again : Context → Use → Option (List Use)) (x : Tree) (here : Context) where
    act-visit : (r : Request) (place : Option (List Pair)) (act : Act) →
        by_act s again here (bare x) place act ≡ option_map (gathered_by s x here (Some r))
        (all_results (again here) (demands_of_act s x here place act))
    act-visit r place remove = refl
    act-visit r place (replace by) =
        same-option (all_results (again here) (onward s x (new_use here (bare x) place by)))

    match-visit : IsWord here.word → (m : Option Request) →
        by_match s again here (bare x) m ≡ option_map (gathered_by s x here m)
        (all_results (again here) (demands_by s x here m))
    match-visit h None =
        ap (λ c. option_map (remains s (bare x)) (all_results (again c) (entered s x))) (inside-bare here x h)
    match-visit h (Some r) = act-visit r r.place r.act

  -- the relative results of a visit, one level
  pub visit-next : (s : Step) (n : ℕ) (x : Tree) (here : Context) → IsWord here.word →
      results_within s (suc n) here (bare x) ≡ option_map (gathered s x here)
      (all_results (λ v. results_within s n here v) (demands s x here))
  visit-next s n x here h =
      results-next s n here (bare x) ∙
      ap (λ c. by_match s (λ d v. results_within s n d v) here (bare x) (match_of s.requests x c))
      (inside-bare here x h) ∙
      match-visit s (λ d v. results_within s n d v) x here h (match_of s.requests x here)

  -- the results of a use from its relative results
  pub use-rewritten : (s : Step) (c : Context) (v : Use) (parts : List Use) → IsWord c.word → IsWord v.word →
      Rewrites s (inside c v) (bare v.tree) parts → Rewrites s c v (map (carried v.turn v.word) parts)
  use-rewritten s c v parts h k r =
      (r.0, results-relative turns group s r.0 c v.turn v.word v.tree h k ∙ ap (all_carried v.turn v.word) r.1)

  -- the same where the demands are told by other things, as numbered uses
  all-rewritten-by : {A : Type 0} (s : Step) (c : Context) (g : A → Use) (f : A → List Use) (xs : List A) →
      ((a : A) → Contains xs a → Rewrites s c (g a) (f a)) →
      (n : ℕ) × (all_results (λ v. results_within s n c v) (map g xs) ≡ Some (flat_map f xs))
  all-rewritten-by s c g f [] h = (0, refl)
  all-rewritten-by s c g f (u ∷ us) h =
      let one = h u (Contains-here u us) in
      let all = all-rewritten-by s c g f us (λ v m. h v (Contains-there u v us m)) in
      let x : results_within s (all.0 + one.0) c (g u) ≡ Some (f u) =
      kept-at (results_within s one.0 c (g u)) (results_within s (all.0 + one.0) c (g u)) (f u)
      (more s all.0 one.0 c (g u)) one.1 in
      let y : all_results (λ v. results_within s (one.0 + all.0) c v) (map g us) ≡ Some (flat_map f us) =
      all-more s one.0 all.0 c (map g us) (flat_map f us) all.1 in
      let z : one.0 + all.0 ≡ all.0 + one.0 = omega arith in (
        all.0 + one.0,
        λ i. joined (x i) ((ap (λ n. all_results (λ v. results_within s n c v) (map g us)) (sym z) ∙ y) i),
      )

  pub visit-rewritten-by : {A : Type 0} (s : Step) (x : Tree) (here : Context) (g : A → Use) (parts : A → List Use)
      (xs : List A) → IsWord here.word →
      demands s x here ≡ map g xs →
      ((a : A) → Contains xs a → IsWord (g a).word × Rewrites s (inside here (g a)) (bare (g a).tree) (parts a)) →
      Rewrites s here (bare x) (gathered s x here (flat_map (λ a. map (carried (g a).turn (g a).word) (parts a)) xs))
  visit-rewritten-by s x here g parts xs h e each =
      let all = all-rewritten-by s here g (λ a. map (carried (g a).turn (g a).word) (parts a)) xs
      (λ a m. let k = each a m in use-rewritten s here (g a) (parts a) h k.0 k.1) in (
        suc all.0,
        visit-next s all.0 x here h ∙ ap (option_map (gathered s x here))
            (ap (all_results (λ v. results_within s all.0 here v)) e ∙ all.1),
      )

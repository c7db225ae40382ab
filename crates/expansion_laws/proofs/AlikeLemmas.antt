-- What the trees of results depend on: the tree of the use and its accumulated turn and word.
use Rattle.std.proofs.Common.{refl, sym, ap, inl, inr, ◌∙◌}
use Rattle.std.specs.Prelude.{◌≡◌, ℕ, zero, suc, Option, None, Some, List, [], ◌∷◌}
use Rattle.std.specs.Prelude.{◌++◌, map, Bool, true, false, Contains, if◌then◌else◌}
use Rattle.std.specs.Option.{option_map}
use Rattle.std.proofs.lemmas.List.{map-append}
use Rattle.std.proofs.lemmas.Option.{same_Some}
use Rattle.lists.proofs.Members.{Contains-cases, Contains-here, Contains-none, Contains-there}
use Rattle.orientation.specs.declared.turn.Turn.{Turn}
use Rattle.orientation.specs.Kinds.{kind_eq}
use Rattle.orientation.specs.Turns.{composed}
use Rattle.orientation.specs.Laws.{TurnsCompose}
use Rattle.location_words.specs.declared.pair.Pair.{Pair}
use Rattle.location_words.specs.Pairs.{mul, inverse}
use Rattle.location_words.specs.Laws.{WordsAreAGroup}
use Rattle.expansion_laws.specs.Trees.{Tree, Use, uses}
use Rattle.expansion_laws.specs.Contexts.{Context, inside, carried, bare}
use Rattle.expansion_laws.specs.Requests.{Act, remove, replace, Request, match_of}
use Rattle.expansion_laws.specs.Steps.{Step, kind, is_entered, entered, new_use, onward}
use Rattle.expansion_laws.specs.Rewriting.{joined, all_results, rebuilt, is_pruned, remains}
use Rattle.expansion_laws.specs.Rewriting.{by_act, by_match, results_within, Rewrites}
use Rattle.expansion_laws.proofs.CarriedLemmas.{inside-carried}

-- uses in two contexts, one by one of the same tree with the same accumulated turn and word
pub data AlikeAll (c d : Context) : List Use → List Use → Type 0 where
  none_left : AlikeAll c d [] []
  one_more : {u v : Use} {us vs : List Use} → u.tree ≡ v.tree → inside c u ≡ inside d v → AlikeAll c d us vs →
      AlikeAll c d (u ∷ us) (v ∷ vs)

-- ---- the trees of results
abbrev pub trees : Option (List Use) → Option (List Tree)
trees o = option_map (map (λ v. v.tree)) o

pub trees-some : (o : Option (List Use)) (ts : List Tree) → Some ts ≡ trees o →
    (b : List Use) × (o ≡ Some b) × (ts ≡ map (λ v. v.tree) b)
trees-some None ts e = absurd cc
trees-some (Some b) ts e = (b, refl, same_Some ts (map (λ (v : Use). v.tree) b) e)

module _ (turns : TurnsCompose) (group : WordsAreAGroup) where
  module _ (c d : Context) where
    alike-map : (f g : Use → Use) (us : List Use) → ((u : Use) → (f u).tree ≡ (g u).tree) →
        ((u : Use) → inside c (f u) ≡ inside d (g u)) → AlikeAll c d (map f us) (map g us)
    alike-map f g [] h k = none_left
    alike-map f g (u ∷ us) h k = one_more (h u) (k u) (alike-map f g us h k)

    pub alike-onward : (s : Step) (x : Tree) (t t' : Turn) (w w' : List Pair) (by : Use) →
        inside c (carried t w by) ≡ inside d (carried t' w' by) →
        AlikeAll c d (onward s x (carried t w by)) (onward s x (carried t' w' by))
    alike-onward s x t t' w w' by e = go (kind_eq (kind s x) (kind s by.tree))
      where
        go : (b : Bool) → AlikeAll c d
            (if b then carried t w by ∷ [] else map (carried (carried t w by).turn (carried t w by).word)
            (uses by.tree))
            (if b then carried t' w' by ∷ [] else map (carried (carried t' w' by).turn (carried t' w' by).word)
            (uses by.tree))
        go true = one_more refl e none_left
        go false =
            alike-map (carried (carried t w by).turn (carried t w by).word)
            (carried (carried t' w' by).turn (carried t' w' by).word) (uses by.tree) (λ u. refl)
            (λ u. (inside-carried turns group) c (carried t w by).turn (carried t w by).word u ∙
            ap (λ here. inside here u) e ∙
            sym ((inside-carried turns group) d (carried t' w' by).turn (carried t' w' by).word u))

    pub alike-find : {us vs : List Use} → AlikeAll c d us vs → (w : Use) → Contains us w →
        (v : Use) × Contains vs v × (w.tree ≡ v.tree) × (inside c w ≡ inside d v)
    alike-find none_left w m = absurd (Contains-none w m)
    alike-find (one_more {u = u} {v = v} {us = us} {vs = vs} e f rest) w m = elim (Contains-cases u w us m) [
      | inl same ↦ (v, Contains-here v vs, ap (λ (u : Use). u.tree) (sym same) ∙ e, ap (inside c) (sym same) ∙ f)
      | inr k ↦ let r = alike-find rest w k in (r.0, Contains-there v r.0 vs r.1, r.2, r.3)
    ]

  -- under a place the accumulated word of the new use is that of the request
  placed : (c : Context) (w : List Pair) → mul c.word (mul (inverse c.word) w) ≡ mul [] w
  placed c w = group.associative c.word (inverse c.word) w ∙ ap (λ z. mul z w) (group.inverse_inner c.word)

  pub alike-new : (c d : Context) (u v : Use) (place : Option (List Pair)) (by : Use) → inside c u ≡ inside d v →
      inside c (new_use c u place by) ≡ inside d (new_use d v place by)
  alike-new c d u v None by e = (inside-carried turns group) c u.turn u.word by ∙ ap (λ here. inside here by) e ∙
      sym ((inside-carried turns group) d v.turn v.word by)
  alike-new c d u v (Some place) by e = λ i. record {
    turn =
        (turns.associative c.turn u.turn by.turn ∙ ap (λ (h : Context). composed h.turn by.turn) e ∙
        sym (turns.associative d.turn v.turn by.turn)) i;
    word = (placed c by.word ∙ sym (placed d by.word)) i;
  }

  -- ---- the trees of results of uses that are alike
  trees-joined : (a b a' b' : Option (List Use)) → trees a ≡ trees a' → trees b ≡ trees b' →
      trees (joined a b) ≡ trees (joined a' b')
  trees-joined None b None b' h k = refl
  trees-joined None b (Some a') b' h k = absurd cc
  trees-joined (Some a) b None b' h k = absurd cc
  trees-joined (Some a) None (Some a') None h k = refl
  trees-joined (Some a) None (Some a') (Some b') h k = absurd cc
  trees-joined (Some a) (Some b) (Some a') None h k = absurd cc
  trees-joined (Some a) (Some b) (Some a') (Some b') h k =
      ap Some (map-append (λ (v : Use). v.tree) a b ∙
      (λ i. same_Some (map (λ (v : Use). v.tree) a) (map (λ (v : Use). v.tree) a') h i ++
      same_Some (map (λ (v : Use). v.tree) b) (map (λ (v : Use). v.tree) b') k i) ∙
      sym (map-append (λ (v : Use). v.tree) a' b'))

  -- the trees of what remains of a use are those of its tree's bare use
  trees-remaining : (s : Step) (u : Use) (o : Option (List Use)) →
      trees (option_map (remains s u) o) ≡ trees (option_map (remains s (bare u.tree)) o)
  trees-remaining s u None = refl
  trees-remaining s u (Some below) = go (is_entered s u.tree) (is_pruned s u.tree below)
    where
      go : (e p : Bool) →
          trees (Some (if e then (if p then [] else rebuilt u below ∷ []) else u ∷ [])) ≡
          trees (Some (if e then (if p then [] else rebuilt (bare u.tree) below ∷ []) else bare u.tree ∷ []))
      go true true = refl
      go true false = refl
      go false p = refl

  module _ (s : Step) (again : Context → Use → Option (List Use))
      (ih : (c d : Context) (u v : Use) → u.tree ≡ v.tree → inside c u ≡ inside d v →
      trees (again c u) ≡ trees (again d v)) where
    all-alike : {c d : Context} {us vs : List Use} → AlikeAll c d us vs →
        trees (all_results (again c) us) ≡ trees (all_results (again d) vs)
    all-alike none_left = refl
    all-alike {c = c} {d = d} (one_more {u = u} {v = v} {us = us} {vs = vs} e f rest) =
        trees-joined (again c u) (all_results (again c) us) (again d v) (all_results (again d) vs) (ih c d u v e f)
        (all-alike rest)

    act-alike : (c d : Context) (u v : Use) (place : Option (List Pair)) (act : Act) → u.tree ≡ v.tree →
        inside c u ≡ inside d v → trees (by_act s again c u place act) ≡ trees (by_act s again d v place act)
    act-alike c d u v place remove e f = refl
    act-alike c d u v None (replace by) e f =
        ap (λ x. trees (all_results (again c) (onward s x (new_use c u None by)))) e ∙
        all-alike (alike-onward c d s v.tree u.turn v.turn u.word v.word by (alike-new c d u v None by f))
    act-alike c d u v (Some place) (replace by) e f =
        ap (λ x. trees (all_results (again c) (onward s x (new_use c u (Some place) by)))) e ∙
        all-alike (alike-onward c d s v.tree u.turn v.turn (inverse c.word) (inverse d.word) by
        (alike-new c d u v (Some place) by f))

    match-alike : (c d : Context) (u v : Use) (m : Option Request) → u.tree ≡ v.tree → inside c u ≡ inside d v →
        trees (by_match s again c u m) ≡ trees (by_match s again d v m)
    match-alike c d u v None e f =
        trees-remaining s u (all_results (again (inside c u)) (entered s u.tree)) ∙
        (λ i. trees (option_map (remains s (bare (e i))) (all_results (again (f i)) (entered s (e i))))) ∙
        sym (trees-remaining s v (all_results (again (inside d v)) (entered s v.tree)))
    match-alike c d u v (Some r) e f = act-alike c d u v r.place r.act e f

  pub results-alike : (s : Step) (n : ℕ) (c d : Context) (u v : Use) → u.tree ≡ v.tree → inside c u ≡ inside d v →
      trees (results_within s n c u) ≡ trees (results_within s n d v)
  unfolding results_within
  results-alike s zero c d u v e f = refl
  results-alike s (suc n) c d u v e f =
      (λ i. trees (by_match s (λ d v. results_within s n d v) c u (match_of s.requests (e i) (f i)))) ∙
      match-alike s (λ d v. results_within s n d v) (results-alike s n) c d u v
      (match_of s.requests v.tree (inside d v)) e f

  -- a use has results where one that is alike has, with the same trees
  pub rewrites-alike : (s : Step) (c d : Context) (u v : Use) (a : List Use) → u.tree ≡ v.tree →
      inside c u ≡ inside d v → Rewrites s c u a →
      (b : List Use) × Rewrites s d v b × (map (λ w. w.tree) a ≡ map (λ w. w.tree) b)
  rewrites-alike s c d u v a e f r =
      let found = trees-some (results_within s r.0 d v) (map (λ (w : Use). w.tree) a)
      (sym (ap trees r.1) ∙ results-alike s r.0 c d u v e f) in
      (found.0, (r.0, found.1), found.2)

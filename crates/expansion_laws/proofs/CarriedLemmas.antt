-- The results of a use depend on what stands outside it through the accumulated turn and word alone.
use Rattle.std.proofs.Common.{refl, sym, ap, ◌∙◌}
use Rattle.std.specs.Prelude.{◌≡◌, ℕ, zero, suc, Option, None, Some, List}
use Rattle.std.specs.Prelude.{[], ◌∷◌, map, Bool, true, false, if◌then◌else◌}
use Rattle.std.proofs.lemmas.List.{map-append}
use Rattle.std.specs.Option.{option_map}
use Rattle.orientation.specs.declared.turn.Turn.{Turn}
use Rattle.orientation.specs.Kinds.{kind_eq}
use Rattle.orientation.specs.Turns.{composed}
use Rattle.orientation.specs.Laws.{TurnsCompose}
use Rattle.location_words.specs.declared.pair.Pair.{Pair}
use Rattle.location_words.specs.Pairs.{mul, inverse, IsWord}
use Rattle.location_words.specs.Laws.{WordsAreAGroup}
use Rattle.expansion_laws.specs.Trees.{Tree, Use, a_single, uses}
use Rattle.expansion_laws.specs.Contexts.{Context, inside, carried, bare}
use Rattle.expansion_laws.specs.Requests.{Act, remove, replace, Request, match_of}
use Rattle.expansion_laws.specs.Steps.{Step, kind, is_entered, entered, new_use, onward}
use Rattle.expansion_laws.specs.Rewriting.{joined, all_results, rebuilt, is_pruned, remains, by_act}
use Rattle.expansion_laws.specs.Rewriting.{by_match, results_within, Rewrites, RelativeResults}

-- the context moved inside a turn and a word
abbrev pub moved : Context → Turn → List Pair → Context
moved c t w = record { turn = composed c.turn t; word = mul c.word w }

-- a list of uses carried, where it is there
abbrev pub all_carried : Turn → List Pair → Option (List Use) → Option (List Use)
all_carried t w results = option_map (map (carried t w)) results

module _ (turns : TurnsCompose) (group : WordsAreAGroup) where
  pub carried-carried : (t t' : Turn) (w w' : List Pair) (u : Use) →
      carried t w (carried t' w' u) ≡ carried (composed t t') (mul w w') u
  carried-carried t t' w w' u = λ i. a_single (turns.associative t t' u.turn i) (group.associative w w' u.word i) u.tree

  pub inside-carried : (c : Context) (t : Turn) (w : List Pair) (u : Use) →
      inside c (carried t w u) ≡ inside (moved c t w) u
  inside-carried c t w u =
      λ i. record { turn = turns.associative c.turn t u.turn i; word = group.associative c.word w u.word i }

  map_carried-carried : (t t' : Turn) (w w' : List Pair) (us : List Use) →
      map (carried (composed t t') (mul w w')) us ≡ map (carried t w) (map (carried t' w') us)
  map_carried-carried t t' w w' [] = refl
  map_carried-carried t t' w w' (u ∷ us) = λ i. sym (carried-carried t t' w w' u) i ∷ map_carried-carried t t' w w' us i

  pub onward-carried : (s : Step) (x : Tree) (t : Turn) (w : List Pair) (new : Use) →
      onward s x (carried t w new) ≡ map (carried t w) (onward s x new)
  onward-carried s x t w new = go (kind_eq (kind s x) (kind s new.tree))
    where
      go : (b : Bool) →
          (if b then carried t w new ∷ [] else map (carried (composed t new.turn) (mul w new.word)) (uses new.tree)) ≡
          map (carried t w) (if b then new ∷ [] else map (carried new.turn new.word) (uses new.tree))
      go true = refl
      go false = map_carried-carried t new.turn w new.word (uses new.tree)

  undone : (c w : List Pair) → IsWord c → mul w (inverse (mul c w)) ≡ inverse c
  undone c w h =
      ap (mul w) (group.inverse_product c w) ∙ group.associative w (inverse w) (inverse c) ∙
      ap (λ z. mul z (inverse c)) (group.inverse_inner w) ∙ group.identity_outer (inverse c) (group.inverse_is_word c h)

  pub new_use-carried : (c : Context) (t : Turn) (w : List Pair) (u : Use) (place : Option (List Pair)) (by : Use) →
      IsWord c.word →
      new_use c (carried t w u) place by ≡ carried t w (new_use (moved c t w) u place by)
  new_use-carried c t w u None by h = sym (carried-carried t u.turn w u.word by)
  new_use-carried c t w u (Some place) by h =
      ap (λ z. carried (composed t u.turn) z by) (sym (undone c.word w h)) ∙
      sym (carried-carried t u.turn w (inverse (mul c.word w)) by)

  joined-carried : (t : Turn) (w : List Pair) (a b : Option (List Use)) →
      joined (all_carried t w a) (all_carried t w b) ≡ all_carried t w (joined a b)
  joined-carried t w None b = refl
  joined-carried t w (Some a) None = refl
  joined-carried t w (Some a) (Some b) = ap Some (sym (map-append (carried t w) a b))

  all_results-carried : (t : Turn) (w : List Pair) (f g : Use → Option (List Use)) →
      ((u : Use) → f (carried t w u) ≡ all_carried t w (g u)) →
      (us : List Use) → all_results f (map (carried t w) us) ≡ all_carried t w (all_results g us)
  all_results-carried t w f g h [] = refl
  all_results-carried t w f g h (u ∷ us) =
      (λ i. joined (h u i) (all_results-carried t w f g h us i)) ∙ joined-carried t w (g u) (all_results g us)

  remains-carried : (s : Step) (t : Turn) (w : List Pair) (u : Use) (results : Option (List Use)) →
      option_map (remains s (carried t w u)) results ≡ all_carried t w (option_map (remains s u) results)
  remains-carried s t w u None = refl
  remains-carried s t w u (Some below) = go (is_entered s u.tree) (is_pruned s u.tree below)
    where
      go : (e p : Bool) →
          Some (if e then (if p then [] else rebuilt (carried t w u) below ∷ []) else carried t w u ∷ []) ≡
          Some (map (carried t w) (if e then (if p then [] else rebuilt u below ∷ []) else u ∷ []))
      go true true = refl
      go true false = refl
      go false p = refl

  module _ (s : Step) (again : Context → Use → Option (List Use)) (c : Context) (t : Turn) (w : List Pair)
      (is_word : IsWord c.word)
      (law : (v : Use) → again c (carried t w v) ≡ all_carried t w (again (moved c t w) v)) where
    by_act-carried : (u : Use) (place : Option (List Pair)) (act : Act) →
        by_act s again c (carried t w u) place act ≡ all_carried t w (by_act s again (moved c t w) u place act)
    by_act-carried u place remove = refl
    by_act-carried u place (replace by) =
        ap (λ new. all_results (again c) (onward s u.tree new)) (new_use-carried c t w u place by is_word) ∙
        ap (all_results (again c)) (onward-carried s u.tree t w (new_use (moved c t w) u place by)) ∙
        all_results-carried t w (again c) (again (moved c t w)) law (onward s u.tree (new_use (moved c t w) u place by))

    by_match-carried : (u : Use) (m : Option Request) →
        by_match s again c (carried t w u) m ≡ all_carried t w (by_match s again (moved c t w) u m)
    by_match-carried u None =
        ap (λ here. option_map (remains s (carried t w u)) (all_results (again here) (entered s u.tree)))
        (inside-carried c t w u) ∙
        remains-carried s t w u (all_results (again (inside (moved c t w) u)) (entered s u.tree))
    by_match-carried u (Some r) = by_act-carried u r.place r.act

  -- the results of a carried use are the results of the use, seen from inside, carried
  pub results-carried : (s : Step) (n : ℕ) (c : Context) (t : Turn) (w : List Pair) (u : Use) → IsWord c.word →
      results_within s n c (carried t w u) ≡ all_carried t w (results_within s n (moved c t w) u)
  unfolding results_within
  results-carried s zero c t w u h = refl
  results-carried s (suc n) c t w u h =
      ap (λ here. by_match s (λ d v. results_within s n d v) c (carried t w u) (match_of s.requests u.tree here))
      (inside-carried c t w u) ∙
      by_match-carried s (λ d v. results_within s n d v) c t w h (λ v. results-carried s n c t w v h) u
      (match_of s.requests u.tree (inside (moved c t w) u))

  -- the results of a use are its relative results, carried by its turn and word
  pub results-relative : (s : Step) (n : ℕ) (c : Context) (t : Turn) (w : List Pair) (x : Tree) → IsWord c.word →
      IsWord w →
      results_within s n c (a_single t w x) ≡ all_carried t w (results_within s n (moved c t w) (bare x))
  results-relative s n c t w x h k =
      ap (results_within s n c) (λ i. a_single (sym (turns.forward_inner t) i) (sym k i) x) ∙
      results-carried s n c t w (bare x) h

  -- a mapped option that is there comes of one that is there
  carried-some : (t : Turn) (w : List Pair) (o : Option (List Use)) (a : List Use) → all_carried t w o ≡ Some a →
      (parts : List Use) × (o ≡ Some parts) × (a ≡ map (carried t w) parts)
  carried-some t w None a e = absurd cc
  carried-some t w (Some parts) a e = (parts, refl, cc)

  pub carried-of-use : (s : Step) (c : Context) (u : Use) (results : List Use) → IsWord c.word → IsWord u.word →
      Rewrites s c u results →
      (parts : List Use) × RelativeResults s u.tree (inside c u) parts × (results ≡ map (carried u.turn u.word) parts)
  carried-of-use s c u results h k r =
      let parts = carried-some u.turn u.word (results_within s r.0 (inside c u) (bare u.tree)) results
      (sym (results-relative s r.0 c u.turn u.word u.tree h k) ∙ r.1) in
      (parts.0, (r.0, parts.1), parts.2)

  pub use-of-carried : (s : Step) (c : Context) (u : Use) (results : List Use) → IsWord c.word → IsWord u.word →
      (parts : List Use) × RelativeResults s u.tree (inside c u) parts × (results ≡ map (carried u.turn u.word) parts) →
      Rewrites s c u results
  use-of-carried s c u results h k p = (
    p.1.0,
    results-relative s p.1.0 c u.turn u.word u.tree h k ∙ ap (all_carried u.turn u.word) p.1.1 ∙
        ap Some (sym p.2),
  )

-- The results of a use depend on its context through what its key holds alone.
use Rattle.std.proofs.Common.{refl, sym, ap, subst, ◌∙◌}
use Rattle.std.specs.Prelude.{◌≡◌, ℕ, zero, suc, Option, None, Some, is_some, List, []}
use Rattle.std.specs.Prelude.{◌∷◌, map, Bool, true, false, if◌then◌else◌, Contains, IsTrue}
use Rattle.std.proofs.lemmas.List.Elements.{Contains-append_left, Contains-append_right}
use Rattle.std.specs.List.{list_any, flat_map}
use Rattle.std.specs.Option.{option_map}
use Rattle.lists.proofs.Tests.{list_any-contains}
use Rattle.lists.proofs.Members.{Contains-flat_map, Contains-here, Contains-map, Contains-there}
use Rattle.orientation.specs.declared.turn.Turn.{Turn}
use Rattle.orientation.specs.declared.turn.Turn.TheVariants.{Forward}
use Rattle.orientation.specs.Kinds.{kind_eq}
use Rattle.orientation.specs.Turns.{composed}
use Rattle.location_words.specs.declared.pair.Pair.{Pair}
use Rattle.location_words.specs.Pairs.{mul, inverse}
use Rattle.graph_walks.specs.Walks.{along, itself}
use Rattle.expansion_laws.specs.Trees.{Tree, Use, a_single, uses}
use Rattle.expansion_laws.specs.Contexts.{Context, inside, carried}
use Rattle.expansion_laws.specs.Requests.{Act, remove, replace, Request, match_of}
use Rattle.expansion_laws.specs.Requests.{is_unconditional, requests_for, live_requests}
use Rattle.expansion_laws.specs.Steps.{Step, kind, entered, moving_word, new_use, onward}
use Rattle.expansion_laws.specs.Rewriting.{joined, all_results, remains, by_act}
use Rattle.expansion_laws.specs.Rewriting.{by_match, results_within, RelativeResults}
use Rattle.expansion_laws.specs.Graph.{trees_of, children, targets, edges}
use Rattle.expansion_laws.specs.Keys.{ReachesPlace, ReachesTurn, Key, IsKey}
use Rattle.expansion_laws.proofs.MatchLemmas.{match-agree, match-live, match-none}

-- the parts of two contexts that a tree's results may depend on are equal
pub record SameFor (s : Step) (x : Tree) (c d : Context) : Type 0 where
  pub word : ReachesPlace s x → c.word ≡ d.word
  pub turn : ReachesTurn s x → c.turn ≡ d.turn

pub SameFor-along : (s : Step) (x y : Tree) (c d : Context) → Contains (edges s x) y → SameFor s x c d → SameFor s y c d
SameFor-along s x y c d m h = record {
  word = λ z. h.word (z.0, along y m z.1, z.2);
  turn = λ z. h.turn (z.0, along y m z.1, z.2);
}

pub SameFor-inside : (s : Step) (x : Tree) (c d : Context) (u : Use) → SameFor s x c d →
    SameFor s x (inside c u) (inside d u)
SameFor-inside s x c d u h = record {
  word = λ z. ap (λ w. mul w u.word) (h.word z);
  turn = λ z. ap (λ t. composed t u.turn) (h.turn z);
}

pub match-same : (s : Step) (x : Tree) (c d : Context) → SameFor s x c d →
    match_of s.requests x c ≡ match_of s.requests x d
match-same s x c d h =
    match-agree s.requests x c d (record { word = λ e. h.word (x, itself, e); turn = λ e. h.turn (x, itself, e) })

-- with no match, an edge goes to each tree of the uses
pub edge-use : (s : Step) (x : Tree) (c : Context) (w : Use) → match_of s.requests x c ≡ None →
    Contains (entered s x) w → Contains (edges s x) w.tree
edge-use s x c w e m =
    Contains-append_right (flat_map (λ r. targets s x r.act) (live_requests s.requests x))
    (if list_any is_unconditional (requests_for s.requests x) then [] else trees_of (entered s x)) w.tree
    (rw (match-none s.requests x c e) (Contains-map (λ u. u.tree) w (entered s x) m))

tree-carried : (f : Use → Use) → ((u : Use) → (f u).tree ≡ u.tree) → (us : List Use) →
    map (λ u. u.tree) (map f us) ≡ map (λ u. u.tree) us
tree-carried f h [] = refl
tree-carried f h (u ∷ us) = λ i. h u i ∷ tree-carried f h us i

pub onward-targets : (s : Step) (x : Tree) (t : Turn) (w : List Pair) (by : Use) →
    map (λ u. u.tree) (onward s x (carried t w by)) ≡ targets s x (replace by)
onward-targets s x t w by = go (kind_eq (kind s x) (kind s by.tree))
  where
    new : Use
    new = carried t w by

    go : (b : Bool) → map (λ u. u.tree) (if b then new ∷ [] else map (carried new.turn new.word) (uses new.tree)) ≡
        (if b then by.tree ∷ [] else children by.tree)
    go true = refl
    go false = tree-carried (carried new.turn new.word) (λ u. refl) (uses by.tree)

-- after a replace, an edge goes to each tree that goes on
pub edge-onward : (s : Step) (x : Tree) (c d : Context) (u : Use) (r : Request) (place : Option (List Pair))
    (by w : Use) → match_of s.requests x c ≡ Some r → r.act ≡ replace by →
    Contains (onward s x (new_use d u place by)) w → Contains (edges s x) w.tree
edge-onward s x c d u r place by w e f m =
    Contains-append_left (flat_map (λ r. targets s x r.act) (live_requests s.requests x))
    (if list_any is_unconditional (requests_for s.requests x) then [] else trees_of (entered s x)) w.tree
    (Contains-flat_map (λ r. targets s x r.act) r w.tree (live_requests s.requests x) (match-live s.requests x c r e)
    (subst (λ l. Contains l w.tree) (onward-targets s x u.turn (moving_word d u place) by ∙ ap (targets s x) (sym f))
    (Contains-map (λ v. v.tree) w (onward s x (new_use d u place by)) m)))

all-same : (f g : Use → Option (List Use)) (us : List Use) → ((u : Use) → Contains us u → f u ≡ g u) →
    all_results f us ≡ all_results g us
all-same f g [] h = refl
all-same f g (u ∷ us) h =
    λ i. joined (h u (Contains-here u us) i) (all-same f g us (λ v m. h v (Contains-there u v us m)) i)

pub new_use-same : (c d : Context) (u : Use) (place : Option (List Pair)) (by : Use) →
    (is_some place ≡ true → c.word ≡ d.word) → new_use c u place by ≡ new_use d u place by
new_use-same c d u None by h = refl
new_use-same c d u (Some place) by h = ap (λ w. carried u.turn (inverse w) by) (h refl)

pub place-asked : (s : Step) (x : Tree) (c : Context) (r : Request) → match_of s.requests x c ≡ Some r →
    is_some r.place ≡ true → ReachesPlace s x
place-asked s x c r e f = (
  x,
  itself,
  list_any-contains (λ r. is_some r.place) r (live_requests s.requests x) (match-live s.requests x c r e)
      f,
)

module _ (s : Step) (again : Context → Use → Option (List Use))
    (ih : (c d : Context) (v : Use) → SameFor s v.tree c d → again c v ≡ again d v) where
  act-same : (c d : Context) (u : Use) (r : Request) (act : Act) → SameFor s u.tree c d →
      match_of s.requests u.tree (inside d u) ≡ Some r → r.act ≡ act →
      by_act s again c u r.place act ≡ by_act s again d u r.place act
  act-same c d u r remove h e f = refl
  act-same c d u r (replace by) h e f =
      ap (λ v. all_results (again c) (onward s u.tree v))
      (new_use-same c d u r.place by (λ g. h.word (place-asked s u.tree (inside d u) r e g))) ∙
      all-same (again c) (again d) (onward s u.tree (new_use d u r.place by))
      (λ w m.
      ih c d w (SameFor-along s u.tree w.tree c d (edge-onward s u.tree (inside d u) d u r r.place by w e f m) h))

  by_match-same : (c d : Context) (u : Use) (m : Option Request) → SameFor s u.tree c d →
      match_of s.requests u.tree (inside d u) ≡ m →
      by_match s again c u m ≡ by_match s again d u m
  by_match-same c d u None h e =
      ap (option_map (remains s u))
      (all-same (again (inside c u)) (again (inside d u)) (entered s u.tree)
      (λ w m.
      ih (inside c u) (inside d u) w (SameFor-along s u.tree w.tree (inside c u) (inside d u)
      (edge-use s u.tree (inside d u) w e m) (SameFor-inside s u.tree c d u h))))
  by_match-same c d u (Some r) h e = act-same c d u r r.act h e refl

-- the results of a use are the same in two contexts that agree on what its tree reaches
pub results-same : (s : Step) (n : ℕ) (c d : Context) (v : Use) → SameFor s v.tree c d →
    results_within s n c v ≡ results_within s n d v
unfolding results_within
results-same s zero c d v h = refl
results-same s (suc n) c d v h =
    ap (by_match s (λ d v. results_within s n d v) c v)
    (match-same s v.tree (inside c v) (inside d v) (SameFor-inside s v.tree c d v h)) ∙
    by_match-same s (λ d v. results_within s n d v) (results-same s n) c d v (match_of s.requests v.tree (inside d v)) h
    refl

-- ---- two visits with equal keys have equal relative results
same_word : (a b : Bool) (w v : List Pair) → IsTrue a → IsTrue b →
    (if a then Some w else None) ≡ (if b then Some v else None) → w ≡ v
same_word true true w v p q e = cc
same_word true false w v p q e = absurd cc
same_word false b w v p q e = absurd cc

same_turn : (a b : Bool) (w v : Turn) → IsTrue a → IsTrue b →
    (if a then Some w else None) ≡ (if b then Some v else None) → w ≡ v
same_turn true true w v p q e = cc
same_turn true false w v p q e = absurd cc
same_turn false b w v p q e = absurd cc

keys-same : (s : Step) (x : Tree) (here there : Context) (k : Key) → IsKey s x here k → IsKey s x there k →
    SameFor s x here there
keys-same s x here there k h l = record {
  word = λ z. same_word h.0 l.0 here.word there.word (h.2.1 z) (l.2.1 z) (ap (λ (k : Key). k.word) (sym h.4 ∙ l.4));
  turn = λ z. same_turn h.1 l.1 here.turn there.turn (h.3.1 z) (l.3.1 z) (ap (λ (k : Key). k.turn) (sym h.4 ∙ l.4));
}

pub results_depend_on_key_alone : (s : Step) (x y : Tree) (here there : Context) (k : Key) (results : List Use) →
    IsKey s x here k → IsKey s y there k →
    RelativeResults s x here results → RelativeResults s y there results
results_depend_on_key_alone s x y here there k results h l r =
    let same : y ≡ x = sym (ap (λ (k : Key). k.tree) l.4) ∙ ap (λ (k : Key). k.tree) h.4 in
    subst (λ z. IsKey s z there k → RelativeResults s z there results) (sym same)
    (λ m. (r.0, sym (results-same s r.0 here there (a_single Forward [] x) (keys-same s x here there k h m)) ∙ r.1)) l

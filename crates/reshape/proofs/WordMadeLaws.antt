-- The words that a step makes are those of the joined results of its visits, of its root's results, and the identity.
use Rattle.std.proofs.Common.{◌≡◌, ◌<◌, ◌∙◌, ◌∷◌, ℕ, Bool, true, false, List, [], All, Contains, map, length}
use Rattle.std.proofs.Common.{refl, sym, ap, subst, Some, None, inl, inr, true≢false}
use Rattle.std.specs.Prelude.{◌⊎◌, ◌&&◌, not, if◌then◌else◌}
use Rattle.std.proofs.lemmas.List.Elements.{All-contains}
use Rattle.lists.specs.Sameness.{is_empty}
use Rattle.lists.proofs.Cases.{by_test}
use Rattle.lists.proofs.Entries.{All-place}
use Rattle.lists.proofs.Members.{Contains-cases, Contains-here, Contains-map, Contains-map_cases, Contains-none}
use Rattle.lists.proofs.Places.{at_place}
use Rattle.location_words.specs.declared.pair.Pair.{Pair}
use Rattle.location_words.specs.Faults.{fault_of}
use Rattle.location_words.specs.Laws.{LimitsTell}
use Rattle.location_words.specs.Pairs.{IsHeldWord}
use Rattle.location_words.specs.Tables.{IsTable}
use Rattle.expansion_laws.specs.Trees.{Tree, Use, origin, uses, uses_of, list_of, tree_of}
use Rattle.expansion_laws.specs.Contexts.{Context, bare}
use Rattle.expansion_laws.specs.Requests.{match_of}
use Rattle.expansion_laws.specs.Steps.{Step, is_entered}
use Rattle.key_results.specs.declared.derive.Outcome.{Outcome}
use Rattle.key_results.specs.declared.derive.Outcome.TheVariants.{Stays, Rebuilt, Joined}
use Rattle.key_results.specs.declared.parts.Part.{Part}
use Rattle.key_results.specs.Derivations.{made_of}
use Rattle.key_results.specs.Derived.{IsMetAs}
use Rattle.key_results.specs.Parts.{use_of_part, words_of}
use Rattle.key_results.specs.Words.{ReadsWords}

list_of-uses_of : (us : List Use) → list_of (uses_of us) ≡ us
list_of-uses_of [] = refl
list_of-uses_of (u ∷ us) = ap (λ l. u ∷ l) (list_of-uses_of us)

none-some : {X : Type 0} (x : X) → None ≡ Some x → ⊥
none-some x e = absurd cc

-- a word of a number of the table has no fault
pub small-number : LimitsTell → (table : List (List Pair)) (word : ℕ → List Pair) → IsTable table →
    ReadsWords word table → (i : ℕ) → i < length table →
    fault_of (word i) ≡ None
small-number limits table word t r i lt =
    let x = at_place table i lt in
    let held : IsHeldWord x.0 = All-place IsHeldWord table i x.0 t.words x.1 in
    ap fault_of (r.held i x.0 x.1) ∙ (limits x.0).1 (held.few, held.small)

pub small-parts : LimitsTell → (table : List (List Pair)) (word : ℕ → List Pair) → IsTable table →
    ReadsWords word table → (own : ℕ → Tree) (parts : List Part)
    (us : List Use) → us ≡ map (use_of_part word own) parts → All (λ (p : Part). p.place.0 < length table) parts →
    (w : List Pair) → Contains (words_of us) w →
    fault_of w ≡ None
small-parts limits table word t r own parts us e held w m =
    let u = Contains-map_cases (λ (u : Use). u.word) w us m in
    let p = Contains-map_cases (use_of_part word own) u.0 parts (subst (λ (l : List Use). Contains l u.0) e u.1) in
    let small = small-number limits table word t r p.0.place.0
    (All-contains (λ (q : Part). q.place.0 < length table) parts p.0 held p.1) in
    ap fault_of (sym (ap (λ (v : Use). v.word) p.2 ∙ u.2)) ∙ small

-- ---- what a visit makes of joined results has their words, and the identity
-- a word of a result, and of the uses of what remains
abbrev IsWordBy : Step → Tree → Context → Use → List Pair → Type 0
IsWordBy s x here r w =
    (w ≡ r.word) ⊎ ((match_of s.requests x here ≡ None) × (is_entered s x ≡ true) ×
    Contains (map (λ (v : Use). v.word) (uses r.tree)) w)

pub made-word : (s : Step) (x : Tree) (here : Context) (o : Outcome) (prune none : Bool) (y : Tree) (joined : List Use)
    (r : Use) (w : List Pair) →
    IsMetAs s x here o → Contains (made_of o prune none y joined) r → IsWordBy s x here r w →
    (w ≡ []) ⊎ Contains (words_of joined) w
made-word s x here Stays prune none y joined r w met m by = elim (Contains-cases (bare y) r [] m) [
  | inl e ↦ elim by [
    | inl is ↦ inl (is ∙ sym (ap (λ (u : Use). u.word) e))
    | inr rest ↦ absurd (true≢false (sym rest.1 ∙ met.1))
  ]
  | inr k ↦ absurd (Contains-none r k)
]
made-word s x here Rebuilt prune none y joined r w met m by = by_test (prune && not none && is_empty joined)
    (λ t.
    absurd
    (Contains-none r (subst (λ (b : Bool). Contains (if b then [] else bare (tree_of (origin y) joined) ∷ []) r) t
    m)))
    (λ f.
    elim (Contains-cases (bare (tree_of (origin y) joined)) r []
    (subst (λ (b : Bool). Contains (if b then [] else bare (tree_of (origin y) joined) ∷ []) r) f m)) [
      | inl e ↦ elim by [
        | inl is ↦ inl (is ∙ sym (ap (λ (u : Use). u.word) e))
        | inr rest ↦
            inr (subst (λ (l : List Use). Contains (words_of l) w)
            (ap (λ (u : Use). uses u.tree) (sym e) ∙ list_of-uses_of joined) rest.2)
      ]
      | inr k ↦ absurd (Contains-none r k)
    ])
made-word s x here Joined prune none y joined r w met m by = elim by [
  | inl is ↦ inr (subst (Contains (words_of joined)) (sym is) (Contains-map (λ (u : Use). u.word) r joined m))
  | inr rest ↦ absurd (none-some met.0 (sym rest.0 ∙ met.1))
]

-- ---- and each word of joined results is made
last-true : (a b : Bool) → (a && b) ≡ true → b ≡ true
last-true true b e = e
last-true false b e = absurd cc

not-empty : (joined : List Use) (w : List Pair) → is_empty joined ≡ true → Contains (words_of joined) w → ⊥
not-empty [] w e m = Contains-none w m
not-empty (u ∷ us) w e m = absurd cc

pub joined-made : (s : Step) (x : Tree) (here : Context) (o : Outcome) (prune none : Bool) (y : Tree)
    (joined : List Use) (w : List Pair) →
    IsMetAs s x here o → (o ≡ Stays → joined ≡ []) → Contains (words_of joined) w →
    (r : Use) × Contains (made_of o prune none y joined) r × IsWordBy s x here r w
joined-made s x here Stays prune none y joined w met empty m =
    absurd (Contains-none w (subst (λ (l : List Use). Contains (words_of l) w) (empty refl) m))
joined-made s x here Rebuilt prune none y joined w met empty m =
    let whole : Use = bare (tree_of (origin y) joined) in
    by_test (prune && not none && is_empty joined)
    (λ t. absurd (not-empty joined w (last-true (prune && not none) (is_empty joined) t) m))
    (λ f. (
      whole,
      subst (λ (b : Bool). Contains (if b then [] else whole ∷ []) whole) (sym f) (Contains-here whole []),
      inr (met.0, met.1, subst (λ (l : List Use). Contains (words_of l) w) (sym (list_of-uses_of joined)) m),
    ))
joined-made s x here Joined prune none y joined w met empty m =
    let c = Contains-map_cases (λ (u : Use). u.word) w joined m in
    (c.0, c.1, inl (sym c.2))

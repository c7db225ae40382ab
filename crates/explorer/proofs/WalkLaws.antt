-- What is entered and is of the kind sought is the walk.
use Rattle.std.proofs.Common.{◌≡◌, ◌∙◌, refl, ap, Bool, true, false, not, ◌&&◌, ◌||◌, if◌then◌else◌}
use Rattle.std.proofs.Common.{ℕ, List, [], ◌∷◌, ◌++◌, Option, sym}
use Rattle.std.specs.List.{filter}
use Rattle.std.proofs.lemmas.List.Elements.{filter-append}
use Rattle.orientation.specs.declared.kind.Kind.{Kind}
use Rattle.expansion_laws.specs.Trees.{Tree, Uses, node, no_use, a_use, a_single}
use Rattle.expansion_laws.specs.Contexts.{Context, inside}
use Rattle.explorer.specs.Walks.{Occurrence, an_occurrence, is_avoided, is_sought, is_wanted, walk, walk_below}
use Rattle.explorer.specs.Walks.{gives, any_gives, entered, entered_below, WalkIsEntered}

-- ---- by the three tests of a node
nothing-by : (av so any : Bool) (w : List Occurrence) (o : Occurrence) → (not av && (so || any)) ≡ false →
    (any ≡ false → w ≡ []) → (if av then [] else (if so then o ∷ w else w)) ≡ []
nothing-by true so any w o e h = refl
nothing-by false true any w o e h = absurd cc
nothing-by false false any w o e h = h e

entered-by : (av so any : Bool) (w below : List Occurrence) (o : Occurrence) (p : Occurrence → Bool) → p o ≡ so →
    (any ≡ false → w ≡ []) → w ≡ filter p below →
    (if av then [] else (if so then o ∷ w else w)) ≡ filter p (if not av && (so || any) then o ∷ below else [])
entered-by true so any w below o p t h e = refl
entered-by false true any w below o p t h e = rw t (ap (λ l. o ∷ l) e)
entered-by false false true w below o p t h e = rw t e
entered-by false false false w below o p t h e = h refl

or-left : (a b : Bool) → (a || b) ≡ false → a ≡ false
or-left true b e = e
or-left false b e = refl

or-right : (a b : Bool) → (a || b) ≡ false → b ≡ false
or-right true b e = absurd cc
or-right false b e = e

module _ (kind : ℕ → Kind) (find avoid : Option Kind) where
  mutual
    nothing-given : (here : Context) (x : Tree) → gives kind find avoid x ≡ false → walk kind find avoid here x ≡ []
    nothing-given here (node k us) e =
        nothing-by (is_avoided avoid (kind k)) (is_sought find (kind k)) (any_gives kind find avoid us)
        (walk_below kind find avoid here us) (an_occurrence here (node k us)) e (nothing-below here us)

    nothing-below : (here : Context) (us : Uses) → any_gives kind find avoid us ≡ false →
        walk_below kind find avoid here us ≡ []
    nothing-below here no_use e = refl
    nothing-below here (a_use t w x others) e =
        let a = nothing-given (inside here (a_single t w x)) x
        (or-left (gives kind find avoid x) (any_gives kind find avoid others) e) in
        let b = nothing-below here others (or-right (gives kind find avoid x) (any_gives kind find avoid others) e) in
        λ j. a j ++ b j

  mutual
    pub walk-entered : (here : Context) (x : Tree) →
        walk kind find avoid here x ≡ filter (is_wanted kind find) (entered kind find avoid here x)
    walk-entered here (node k us) =
        entered-by (is_avoided avoid (kind k)) (is_sought find (kind k)) (any_gives kind find avoid us)
        (walk_below kind find avoid here us) (entered_below kind find avoid here us) (an_occurrence here (node k us))
        (is_wanted kind find) refl (nothing-below here us) (below-entered here us)

    below-entered : (here : Context) (us : Uses) →
        walk_below kind find avoid here us ≡ filter (is_wanted kind find) (entered_below kind find avoid here us)
    below-entered here no_use = refl
    below-entered here (a_use t w x others) =
        let a = walk-entered (inside here (a_single t w x)) x in
        let b = below-entered here others in
        (λ j. a j ++ b j) ∙
        sym (filter-append (is_wanted kind find) (entered kind find avoid (inside here (a_single t w x)) x)
        (entered_below kind find avoid here others))

pub walk_is_entered : WalkIsEntered
walk_is_entered kind find avoid here x = walk-entered kind find avoid here x

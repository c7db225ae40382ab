-- The visits of a derivation are those that the visit of its use leads to.
use Rattle.std.proofs.Common.{refl, sym, ap, subst, inl, inr, ◌∙◌}
use Rattle.std.specs.Prelude.{◌≡◌, true, false, if◌then◌else◌, Option, None, Some, List, [], ◌++◌, Contains}
use Rattle.std.proofs.lemmas.List.Elements.{Contains-append_left, Contains-append_right, Contains-append_cases}
use Rattle.lists.proofs.Members.{Contains-cases, Contains-here, Contains-none, Contains-there}
use Rattle.location_words.specs.declared.pair.Pair.{Pair}
use Rattle.location_words.specs.Pairs.{inverse}
use Rattle.location_words.specs.Laws.{WordsAreAGroup}
use Rattle.orientation.specs.declared.turn.Turn.TheVariants.{Forward}
use Rattle.orientation.specs.Laws.{TurnsCompose}
use Rattle.expansion_laws.specs.Trees.{Tree, Use, uses}
use Rattle.expansion_laws.specs.Contexts.{Context, inside, bare}
use Rattle.expansion_laws.specs.Requests.{Request, remove, replace, match_of}
use Rattle.expansion_laws.specs.Steps.{Step, is_entered, new_use, onward}
use Rattle.expansion_laws.specs.Derivations.{Derives, DeriveAll, stopped, unmatched}
use Rattle.expansion_laws.specs.Derivations.{pruned, removed, replaced, none, next}
use Rattle.expansion_laws.specs.Demands.{demands_of_act, demands_by, demands}
use Rattle.expansion_laws.specs.Visits.{LeadsTo, itself, onto}
use Rattle.expansion_laws.specs.DerivedVisits.{visits_of, visits_of_all, VisitsAreDerived}
use Rattle.expansion_laws.proofs.VisitLemmas.{inside-bare}
use Rattle.expansion_laws.proofs.AlikeLemmas.{AlikeAll, alike-onward, alike-new, alike-find}

module _ (turns : TurnsCompose) (group : WordsAreAGroup) (s : Step) where
  -- the demands of a visit by its match
  entered-asked : (x : Tree) (here : Context) → match_of s.requests x here ≡ None → is_entered s x ≡ true →
      demands s x here ≡ uses x
  entered-asked x here m e = ap (demands_by s x here) m ∙ ap (λ b. if b then uses x else []) e

  stopped-asked : (x : Tree) (here : Context) → match_of s.requests x here ≡ None → is_entered s x ≡ false →
      demands s x here ≡ []
  stopped-asked x here m e = ap (demands_by s x here) m ∙ ap (λ b. if b then uses x else []) e

  removed-asked : (x : Tree) (here : Context) (r : Request) → match_of s.requests x here ≡ Some r → r.act ≡ remove →
      demands s x here ≡ []
  removed-asked x here r m f = ap (demands_by s x here) m ∙ ap (demands_of_act s x here r.place) f

  replaced-asked : (x : Tree) (here : Context) (r : Request) (by : Use) → match_of s.requests x here ≡ Some r →
      r.act ≡ replace by → demands s x here ≡ onward s x (new_use here (bare x) r.place by)
  replaced-asked x here r by m f = ap (demands_by s x here) m ∙ ap (demands_of_act s x here r.place) f

  -- what goes on after a replace in a derivation is alike to the demands of the visit
  onward-demands : (c : Context) (u : Use) (place : Option (List Pair)) (by : Use) →
      AlikeAll c (inside c u) (onward s u.tree (new_use c u place by))
      (onward s u.tree (new_use (inside c u) (bare u.tree) place by))
  onward-demands c u None by =
      (alike-onward turns group) c (inside c u) s u.tree u.turn Forward u.word [] by
      ((alike-new turns group) c (inside c u) u (bare u.tree) None by
      (sym ((inside-bare turns group) (inside c u) u.tree (group.product_is_word c.word u.word))))
  onward-demands c u (Some place) by =
      (alike-onward turns group) c (inside c u) s u.tree u.turn Forward (inverse c.word) (inverse (inside c u).word) by
      ((alike-new turns group) c (inside c u) u (bare u.tree) (Some place) by
      (sym ((inside-bare turns group) (inside c u) u.tree (group.product_is_word c.word u.word))))

  demands-onward : (c : Context) (u : Use) (place : Option (List Pair)) (by : Use) →
      AlikeAll (inside c u) c (onward s u.tree (new_use (inside c u) (bare u.tree) place by))
      (onward s u.tree (new_use c u place by))
  demands-onward c u None by =
      (alike-onward turns group) (inside c u) c s u.tree Forward u.turn [] u.word by
      ((alike-new turns group) (inside c u) c (bare u.tree) u None by
      ((inside-bare turns group) (inside c u) u.tree (group.product_is_word c.word u.word)))
  demands-onward c u (Some place) by =
      (alike-onward turns group) (inside c u) c s u.tree Forward u.turn (inverse (inside c u).word) (inverse c.word) by
      ((alike-new turns group) (inside c u) c (bare u.tree) u (Some place) by
      ((inside-bare turns group) (inside c u) u.tree (group.product_is_word c.word u.word)))

  -- a pair that is one pair leads where the other does
  same-visit : (x y : Tree) (here there : Context) → ◌≡◌ {A = Tree × Context} (x, here) (y, there) →
      LeadsTo s x here y there
  same-visit x y here there e = subst (λ (p : Tree × Context). LeadsTo s x here p.0 p.1) e itself

  leads-as : (x x' y : Tree) (here here' there : Context) → x ≡ x' → here ≡ here' → LeadsTo s x' here' y there →
      LeadsTo s x here y there
  leads-as x x' y here here' there e f l =
      subst (λ z. LeadsTo s z here y there) (sym e) (subst (λ h. LeadsTo s x' h y there) (sym f) l)

  -- ---- from the derivation
  mutual
    leads-of : {c : Context} {u : Use} {a : List Use} (d : Derives s c u a) (y : Tree) (there : Context) →
        Contains (visits_of d) (y, there) → LeadsTo s u.tree (inside c u) y there
    leads-of {c = c} {u = u} (stopped m g) y there n = elim (Contains-cases (u.tree, inside c u) (y, there) [] n) [
      | inl e ↦ same-visit u.tree y (inside c u) there e
      | inr k ↦ absurd (Contains-none (y, there) k)
    ]
    leads-of {c = c} {u = u} (unmatched m g d p) y there n =
        elim (Contains-cases (u.tree, inside c u) (y, there) (visits_of_all d) n) [
          | inl e ↦ same-visit u.tree y (inside c u) there e
          | inr k ↦ (let one = leads-of-all d y there k in
              onto one.0 (subst (λ l. Contains l one.0) (sym (entered-asked u.tree (inside c u) m g)) one.1) one.2)
        ]
    leads-of {c = c} {u = u} (pruned m g d p) y there n =
        elim (Contains-cases (u.tree, inside c u) (y, there) (visits_of_all d) n) [
          | inl e ↦ same-visit u.tree y (inside c u) there e
          | inr k ↦ (let one = leads-of-all d y there k in
              onto one.0 (subst (λ l. Contains l one.0) (sym (entered-asked u.tree (inside c u) m g)) one.1) one.2)
        ]
    leads-of {c = c} {u = u} (removed r m f) y there n = elim (Contains-cases (u.tree, inside c u) (y, there) [] n) [
      | inl e ↦ same-visit u.tree y (inside c u) there e
      | inr k ↦ absurd (Contains-none (y, there) k)
    ]
    leads-of {c = c} {u = u} (replaced r by m f d) y there n =
        elim (Contains-cases (u.tree, inside c u) (y, there) (visits_of_all d) n) [
          | inl e ↦ same-visit u.tree y (inside c u) there e
          | inr k ↦
              (let one = leads-of-all d y there k in
              let v = (alike-find turns group) c (inside c u) (onward-demands c u r.place by) one.0 one.1 in
              onto v.0 (subst (λ l. Contains l v.0) (sym (replaced-asked u.tree (inside c u) r by m f)) v.1)
              (leads-as v.0.tree one.0.tree y (inside (inside c u) v.0) (inside c one.0) there (sym v.2) (sym v.3)
              one.2))
        ]

    leads-of-all : {c : Context} {us a : List Use} (d : DeriveAll s c us a) (y : Tree) (there : Context) →
        Contains (visits_of_all d) (y, there) →
        (w : Use) × Contains us w × LeadsTo s w.tree (inside c w) y there
    leads-of-all none y there n = absurd (Contains-none (y, there) n)
    leads-of-all (next {u = u} {us = us} d e) y there n =
        elim (Contains-append_cases (visits_of d) (visits_of_all e) (y, there) n) [
          | inl k ↦ (u, Contains-here u us, leads-of d y there k)
          | inr k ↦ (let r = leads-of-all e y there k in (r.0, Contains-there u r.0 us r.1, r.2))
        ]

  -- ---- to the derivation
  visited-first : {c : Context} {u : Use} {a : List Use} (d : Derives s c u a) →
      Contains (visits_of d) (u.tree, inside c u)
  visited-first {c = c} {u = u} (stopped m e) = Contains-here (u.tree, inside c u) []
  visited-first {c = c} {u = u} (unmatched m e d p) = Contains-here (u.tree, inside c u) (visits_of_all d)
  visited-first {c = c} {u = u} (pruned m e d p) = Contains-here (u.tree, inside c u) (visits_of_all d)
  visited-first {c = c} {u = u} (removed r m f) = Contains-here (u.tree, inside c u) []
  visited-first {c = c} {u = u} (replaced r by m f d) = Contains-here (u.tree, inside c u) (visits_of_all d)

  all-visited : {c : Context} {us a : List Use} (d : DeriveAll s c us a) (w : Use) → Contains us w →
      (b : List Use) × (e : Derives s c w b) × ((p : Tree × Context) → Contains (visits_of e) p →
      Contains (visits_of_all d) p)
  all-visited none w m = absurd (Contains-none w m)
  all-visited {c = c} (next {u = u} {us = us} {first = a} d e) w m = elim (Contains-cases u w us m) [
    | inl same ↦
        subst
        (λ v. (b : List Use) × (f : Derives s c v b) ×
        ((p : Tree × Context) → Contains (visits_of f) p → Contains (visits_of d ++ visits_of_all e) p)) same
        (a, d, λ p n. Contains-append_left (visits_of d) (visits_of_all e) p n)
    | inr k ↦
        (let r = all-visited e w k in
        (r.0, r.1, λ p n. Contains-append_right (visits_of d) (visits_of_all e) p (r.2 p n)))
  ]

  visited-below : {y : Tree} {there : Context} (c : Context) (u : Use) (a : List Use) (d : Derives s c u a) (v : Use) →
      Contains (demands s u.tree (inside c u)) v →
      ((c' : Context) (w : Use) (b : List Use) (e : Derives s c' w b) → w.tree ≡ v.tree →
      inside c' w ≡ inside (inside c u) v → Contains (visits_of e) (y, there)) → Contains (visits_of d) (y, there)
  visited-below c u a (stopped m e) v n go =
      absurd (Contains-none v (subst (λ l. Contains l v) (stopped-asked u.tree (inside c u) m e) n))
  visited-below {y = y} {there = there} c u a (unmatched m e d p) v n go =
      let w = all-visited d v (subst (λ l. Contains l v) (entered-asked u.tree (inside c u) m e) n) in
      Contains-there (u.tree, inside c u) (y, there) (visits_of_all d)
      (w.2 (y, there) (go (inside c u) v w.0 w.1 refl refl))
  visited-below {y = y} {there = there} c u a (pruned m e d p) v n go =
      let w = all-visited d v (subst (λ l. Contains l v) (entered-asked u.tree (inside c u) m e) n) in
      Contains-there (u.tree, inside c u) (y, there) (visits_of_all d)
      (w.2 (y, there) (go (inside c u) v w.0 w.1 refl refl))
  visited-below c u a (removed r m f) v n go =
      absurd (Contains-none v (subst (λ l. Contains l v) (removed-asked u.tree (inside c u) r m f) n))
  visited-below {y = y} {there = there} c u a (replaced r by m f d) v n go =
      let at = (alike-find turns group) (inside c u) c (demands-onward c u r.place by) v
      (subst (λ l. Contains l v) (replaced-asked u.tree (inside c u) r by m f) n) in
      let w = all-visited d at.0 at.1 in
      Contains-there (u.tree, inside c u) (y, there) (visits_of_all d)
      (w.2 (y, there) (go c at.0 w.0 w.1 (sym at.2) (sym at.3)))

  visited-of : {x y : Tree} {here there : Context} → LeadsTo s x here y there →
      (c : Context) (u : Use) (a : List Use) (d : Derives s c u a) → u.tree ≡ x → inside c u ≡ here →
      Contains (visits_of d) (y, there)
  visited-of itself c u a d e f =
      subst (λ (p : Tree × Context). Contains (visits_of d) p) (λ i. (e i, f i)) (visited-first d)
  visited-of {x = x} {here = here} (onto v m l) c u a d e f =
      visited-below c u a d v (subst (λ h. Contains (demands s u.tree h) v) (sym f)
      (subst (λ z. Contains (demands s z here) v) (sym e) m))
      (λ c' w b d' e' f'. visited-of l c' w b d' e' (f' ∙ ap (λ h. inside h v) f))

pub visits-derived : TurnsCompose → WordsAreAGroup → (s : Step) → VisitsAreDerived s
visits-derived turns group s c u a d x here =
    (λ l. visited-of turns group s l c u a d refl refl, leads-of turns group s d x here)

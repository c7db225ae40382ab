-- The bounded function and the least relation say the same.
use Rattle.std.proofs.Common.{refl, sym, ap, subst, arith, ◌∙◌}
use Rattle.std.specs.Prelude.{◌≡◌, ◌+◌, ℕ, zero, suc, Bool, true, false}
use Rattle.std.specs.Prelude.{if◌then◌else◌, Option, None, Some, List, [], ◌∷◌, ◌++◌}
use Rattle.std.specs.Option.{option_map}
use Rattle.expansion_laws.specs.Trees.{Use, uses}
use Rattle.expansion_laws.specs.Contexts.{Context, inside}
use Rattle.expansion_laws.specs.Requests.{Act, remove, replace, Request, match_of}
use Rattle.expansion_laws.specs.Steps.{Step, is_entered, entered, new_use, onward}
use Rattle.expansion_laws.specs.Rewriting.{joined, all_results, rebuilt, is_pruned, remains}
use Rattle.expansion_laws.specs.Rewriting.{by_act, by_match, results_within, Rewrites}
use Rattle.expansion_laws.specs.Derivations.{Derives, DeriveAll, stopped, unmatched}
use Rattle.expansion_laws.specs.Derivations.{pruned, removed, replaced, none, next}
use Rattle.expansion_laws.proofs.LevelLemmas.{more, kept-at, kept-all}

-- ---- the function's results are derived
pub joined-some : (x y : Option (List Use)) (a : List Use) → joined x y ≡ Some a →
    (first : List Use) × (rest : List Use) × (x ≡ Some first) × (y ≡ Some rest) × (first ++ rest ≡ a)
joined-some None y a e = absurd cc
joined-some (Some first) None a e = absurd cc
joined-some (Some first) (Some rest) a e = (first, rest, refl, refl, cc)

pub mapped-some : (f : List Use → List Use) (x : Option (List Use)) (a : List Use) → option_map f x ≡ Some a →
    (b : List Use) × (x ≡ Some b) × (f b ≡ a)
mapped-some f None a e = absurd cc
mapped-some f (Some b) a e = (b, refl, cc)

module _ (s : Step) (n : ℕ) (ih : (c : Context) (u : Use) (a : List Use) → results_within s n c u ≡ Some a →
    Derives s c u a) where
  all-derived : (c : Context) (us a : List Use) → all_results (λ v. results_within s n c v) us ≡ Some a →
      DeriveAll s c us a
  all-derived c [] a e = let empty : [] ≡ a = cc in subst (DeriveAll s c []) empty none
  all-derived c (u ∷ us) a e =
      let parts = joined-some (results_within s n c u) (all_results (λ v. results_within s n c v) us) a e in
      subst (DeriveAll s c (u ∷ us)) parts.4 (next (ih c u parts.0 parts.2) (all-derived c us parts.1 parts.3))

  act-derived : (c : Context) (u : Use) (r : Request) (act : Act) (a : List Use) →
      match_of s.requests u.tree (inside c u) ≡ Some r → r.act ≡ act →
      by_act s (λ d v. results_within s n d v) c u r.place act ≡ Some a → Derives s c u a
  act-derived c u r remove a m f e = let empty : [] ≡ a = cc in subst (Derives s c u) empty (removed r m f)
  act-derived c u r (replace by) a m f e =
      replaced r by m f (all-derived c (onward s u.tree (new_use c u r.place by)) a e)

  pruned-derived : (c : Context) (u : Use) (below : List Use) → match_of s.requests u.tree (inside c u) ≡ None →
      is_entered s u.tree ≡ true →
      DeriveAll s (inside c u) (uses u.tree) below → (p : Bool) → is_pruned s u.tree below ≡ p →
      Derives s c u (if p then [] else rebuilt u below ∷ [])
  pruned-derived c u below m e d true p = pruned m e d p
  pruned-derived c u below m e d false p = unmatched m e d p

  remains-derived : (c : Context) (u : Use) (below : List Use) → match_of s.requests u.tree (inside c u) ≡ None →
      DeriveAll s (inside c u) (entered s u.tree) below → Derives s c u (remains s u below)
  remains-derived c u below m d = go (is_entered s u.tree) refl d
    where
      go : (b : Bool) → is_entered s u.tree ≡ b → DeriveAll s (inside c u) (if b then uses u.tree else []) below →
          Derives s c u (if b then (if is_pruned s u.tree below then [] else rebuilt u below ∷ []) else u ∷ [])
      go true e d = pruned-derived c u below m e d (is_pruned s u.tree below) refl
      go false e d = stopped m e

  match-derived : (c : Context) (u : Use) (m : Option Request) (a : List Use) →
      match_of s.requests u.tree (inside c u) ≡ m →
      by_match s (λ d v. results_within s n d v) c u m ≡ Some a → Derives s c u a
  match-derived c u None a m e =
      let part = mapped-some (remains s u) (all_results (λ v. results_within s n (inside c u) v) (entered s u.tree)) a
      e in
      subst (Derives s c u) part.2 (remains-derived c u part.0 m
      (all-derived (inside c u) (entered s u.tree) part.0 part.1))
  match-derived c u (Some r) a m e = act-derived c u r r.act a m refl e

pub derived : (s : Step) (n : ℕ) (c : Context) (u : Use) (a : List Use) → results_within s n c u ≡ Some a →
    Derives s c u a
unfolding results_within
derived s zero c u a e = absurd cc
derived s (suc n) c u a e = match-derived s n (derived s n) c u (match_of s.requests u.tree (inside c u)) a refl e

-- ---- and what is derived, some depth of the function gives
pub results-next : (s : Step) (n : ℕ) (c : Context) (u : Use) →
    results_within s (suc n) c u ≡ by_match s (λ d v. results_within s n d v) c u
    (match_of s.requests u.tree (inside c u))
unfolding results_within
results-next s n c u = refl

pub all-more : (s : Step) (k n : ℕ) (c : Context) (us a : List Use) →
    all_results (λ v. results_within s n c v) us ≡ Some a → all_results (λ v. results_within s (k + n) c v) us ≡ Some a
all-more s k n c us a e =
    kept-at (all_results (λ v. results_within s n c v) us) (all_results (λ v. results_within s (k + n) c v) us) a
    (kept-all (λ v. results_within s n c v) (λ v. results_within s (k + n) c v) (λ v. more s k n c v) us) e

act-of : (s : Step) (c : Context) (u : Use) (r : Request) (act : Act) (n : ℕ) → r.act ≡ act →
    by_act s (λ d v. results_within s n d v) c u r.place r.act ≡
    by_act s (λ d v. results_within s n d v) c u r.place act
act-of s c u r act n e = ap (by_act s (λ d v. results_within s n d v) c u r.place) e

-- a level without a match, where the tree isn't entered and where it is
stopped-next : (s : Step) (n : ℕ) (c : Context) (u : Use) → is_entered s u.tree ≡ false →
    by_match s (λ d v. results_within s n d v) c u None ≡ Some (u ∷ [])
stopped-next s n c u e = go (is_entered s u.tree) e
  where
    go : (b : Bool) → b ≡ false →
        option_map (λ below. if b then (if is_pruned s u.tree below then [] else rebuilt u below ∷ []) else u ∷ [])
        (all_results (λ v. results_within s n (inside c u) v) (if b then uses u.tree else [])) ≡ Some (u ∷ [])
    go true e = absurd cc
    go false e = refl

entered-next : (s : Step) (n : ℕ) (c : Context) (u : Use) (below : List Use) (p : Bool) → is_entered s u.tree ≡ true →
    all_results (λ v. results_within s n (inside c u) v) (uses u.tree) ≡ Some below → is_pruned s u.tree below ≡ p →
    by_match s (λ d v. results_within s n d v) c u None ≡ Some (if p then [] else rebuilt u below ∷ [])
entered-next s n c u below p e all f = go (is_entered s u.tree) e
  where
    made : List Use → List Use
    made = λ below. if is_pruned s u.tree below then [] else rebuilt u below ∷ []

    go : (b : Bool) → b ≡ true →
        option_map (λ below. if b then (if is_pruned s u.tree below then [] else rebuilt u below ∷ []) else u ∷ [])
        (all_results (λ v. results_within s n (inside c u) v) (if b then uses u.tree else [])) ≡
        Some (if p then [] else rebuilt u below ∷ [])
    go true e = ap (option_map made) all ∙ ap (λ b. Some (if b then [] else rebuilt u below ∷ [])) f
    go false e = absurd cc

mutual
  pub within-of : {s : Step} {c : Context} {u : Use} {a : List Use} → Derives s c u a → Rewrites s c u a
  within-of {s = s} {c = c} {u = u} (stopped m e) =
      (1, results-next s 0 c u ∙ ap (by_match s (λ d v. results_within s 0 d v) c u) m ∙ stopped-next s 0 c u e)
  within-of {s = s} {c = c} {u = u} (unmatched {below = below} m e d p) =
      let all = within-all d in (
        suc all.0,
        results-next s all.0 c u ∙ ap (by_match s (λ d v. results_within s all.0 d v) c u) m ∙
            entered-next s all.0 c u below false e all.1 p,
      )
  within-of {s = s} {c = c} {u = u} (pruned {below = below} m e d p) =
      let all = within-all d in (
        suc all.0,
        results-next s all.0 c u ∙ ap (by_match s (λ d v. results_within s all.0 d v) c u) m ∙
            entered-next s all.0 c u below true e all.1 p,
      )
  within-of {s = s} {c = c} {u = u} (removed r m f) =
      (1, results-next s 0 c u ∙ ap (by_match s (λ d v. results_within s 0 d v) c u) m ∙ act-of s c u r remove 0 f)
  within-of {s = s} {c = c} {u = u} (replaced r by m f d) =
      let all = within-all d in (
        suc all.0,
        results-next s all.0 c u ∙ ap (by_match s (λ d v. results_within s all.0 d v) c u) m ∙
            act-of s c u r (replace by) all.0 f ∙ all.1,
      )

  pub within-all : {s : Step} {c : Context} {us a : List Use} → DeriveAll s c us a →
      (n : ℕ) × (all_results (λ v. results_within s n c v) us ≡ Some a)
  within-all none = (0, refl)
  within-all {s = s} {c = c} (next {u = u} {us = rest_us} {first = a} {rest = b} d e) =
      let one = within-of d in
      let all = within-all e in
      let x : results_within s (all.0 + one.0) c u ≡ Some a =
      kept-at (results_within s one.0 c u) (results_within s (all.0 + one.0) c u) a (more s all.0 one.0 c u) one.1 in
      let y : all_results (λ v. results_within s (one.0 + all.0) c v) rest_us ≡ Some b =
      all-more s one.0 all.0 c rest_us b all.1 in
      let z : one.0 + all.0 ≡ all.0 + one.0 = omega arith in
      (all.0 + one.0, λ i. joined (x i) ((ap (λ n. all_results (λ v. results_within s n c v) rest_us) (sym z) ∙ y) i))

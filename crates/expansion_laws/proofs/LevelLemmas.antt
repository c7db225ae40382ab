-- Further levels change no results, so a use has at most one list of results.
use Rattle.std.proofs.Common.{refl, ap, arith, zero-add, ◌∙◌}
use Rattle.std.specs.Prelude.{◌≡◌, ◌+◌, ℕ, zero, suc, Option, None, Some, List, [], ◌∷◌}
use Rattle.std.specs.Option.{option_map}
use Rattle.location_words.specs.declared.pair.Pair.{Pair}
use Rattle.expansion_laws.specs.Trees.{Use}
use Rattle.expansion_laws.specs.Contexts.{Context, inside}
use Rattle.expansion_laws.specs.Requests.{Act, remove, replace, Request, match_of}
use Rattle.expansion_laws.specs.Steps.{Step, entered, new_use, onward}
use Rattle.expansion_laws.specs.Rewriting.{joined, all_results, remains, by_act, by_match, results_within, Rewrites}

-- where the first gives a value, the second gives the same
abbrev pub IsKept : {A : Type 0} → Option A → Option A → Type 0
IsKept None b = Unit {0}
IsKept (Some a) b = b ≡ Some a

kept-joined : (a b a' b' : Option (List Use)) → IsKept a a' → IsKept b b' → IsKept (joined a b) (joined a' b')
kept-joined None b a' b' h k = tt
kept-joined (Some a) None a' b' h k = tt
kept-joined (Some a) (Some b) a' b' h k = λ i. joined (h i) (k i)

pub kept-all : (f g : Use → Option (List Use)) → ((u : Use) → IsKept (f u) (g u)) → (us : List Use) →
    IsKept (all_results f us) (all_results g us)
kept-all f g h [] = refl
kept-all f g h (u ∷ us) = kept-joined (f u) (all_results f us) (g u) (all_results g us) (h u) (kept-all f g h us)

kept-map : (f : List Use → List Use) (a b : Option (List Use)) → IsKept a b → IsKept (option_map f a) (option_map f b)
kept-map f None b h = tt
kept-map f (Some a) b h = ap (option_map f) h

module _ (s : Step) (f g : Context → Use → Option (List Use)) (h : (c : Context) (u : Use) → IsKept (f c u) (g c u))
  where
    kept-act : (c : Context) (u : Use) (place : Option (List Pair)) (act : Act) →
        IsKept (by_act s f c u place act) (by_act s g c u place act)
    kept-act c u place remove = refl
    kept-act c u place (replace by) = kept-all (f c) (g c) (h c) (onward s u.tree (new_use c u place by))

    kept-match : (c : Context) (u : Use) (m : Option Request) → IsKept (by_match s f c u m) (by_match s g c u m)
    kept-match c u None =
        kept-map (remains s u) (all_results (f (inside c u)) (entered s u.tree))
        (all_results (g (inside c u)) (entered s u.tree))
        (kept-all (f (inside c u)) (g (inside c u)) (h (inside c u)) (entered s u.tree))
    kept-match c u (Some r) = kept-act c u r.place r.act

one_more : (s : Step) (n : ℕ) (c : Context) (u : Use) → IsKept (results_within s n c u) (results_within s (suc n) c u)
unfolding results_within
one_more s zero c u = tt
one_more s (suc n) c u =
    kept-match s (λ d v. results_within s n d v) (λ d v. results_within s (suc n) d v) (one_more s n) c u
    (match_of s.requests u.tree (inside c u))

kept-trans : (a b d : Option (List Use)) → IsKept a b → IsKept b d → IsKept a d
kept-trans None b d h k = tt
kept-trans (Some a) None d h k = absurd (cc)
kept-trans (Some a) (Some b) d h k = k ∙ h

kept-refl : (a : Option (List Use)) → IsKept a a
kept-refl None = tt
kept-refl (Some a) = refl

pub more : (s : Step) (k n : ℕ) (c : Context) (u : Use) → IsKept (results_within s n c u) (results_within s (k + n) c u)
more s zero n c u = rw zero-add (kept-refl (results_within s n c u))
more s (suc k) n c u =
    let e : suc k + n ≡ suc (k + n) = omega arith in
    rw e (kept-trans (results_within s n c u) (results_within s (k + n) c u) (results_within s (suc (k + n)) c u)
    (more s k n c u) (one_more s (k + n) c u))

pub kept-at : (x y : Option (List Use)) (a : List Use) → IsKept x y → x ≡ Some a → y ≡ Some a
kept-at None y a h e = absurd (cc)
kept-at (Some b) y a h e = h ∙ e

-- a use has at most one list of results
pub Rewrites-one : (s : Step) (c : Context) (u : Use) (a b : List Use) → Rewrites s c u a → Rewrites s c u b → a ≡ b
Rewrites-one s c u a b h k = one h.0 k.0 h.1 k.1
  where
    one : (m n : ℕ) → results_within s m c u ≡ Some a → results_within s n c u ≡ Some b → a ≡ b
    one m n e f =
        let x = kept-at (results_within s m c u) (results_within s (n + m) c u) a (more s n m c u) e in
        let y = kept-at (results_within s n c u) (results_within s (m + n) c u) b (more s m n c u) f in
        let z : n + m ≡ m + n = omega arith in
        let w = ap (λ k. results_within s k c u) z in
        cc

-- What is met within the limits, and what is refused.
use Rattle.std.proofs.Common.{append_assoc, ◌≡◌, ◌∙◌, ◌↔◌, ◌<◌, ◌≤◌, refl, sym, ap, subst, arith, inl, inr}
use Rattle.std.specs.Prelude.{ℕ, suc, true, List, [], ◌∷◌, ◌++◌, length, Contains, None}
use Rattle.std.proofs.lemmas.List.Elements.{Contains-append_left, Contains-append_cases, Contains-push_cases}
use Rattle.std.proofs.lemmas.List.Sums.{fold-append}
use Rattle.lists.proofs.Members.{Contains-cases, Contains-none}
use Rattle.location_words.specs.declared.pair.Pair.{Pair}
use Rattle.location_words.specs.Faults.{fault_of}
use Rattle.expansion_laws.specs.Trees.{Use}
use Rattle.expansion_laws.specs.Measures.{depth}
use Rattle.subshape_maps.specs.declared.fault.MapFault.{MapFault}
use Rattle.subshape_maps.specs.declared.fault.MapFault.TheVariants.{Word, Keys, Pairs, NoMemory}
use Rattle.subshape_maps.specs.Shapes.{Shape, shape_eq, with_new, first_places_after}
use Rattle.subshape_maps.specs.Refusals.{most_shapes, AreMet, IsFirstPast, IsDue, IsDueWord, IsOneTooMany}
use Rattle.subshape_maps.specs.Numbered.{IsClosed}
use Rattle.subshape_maps.proofs.FirstPlaces.{more-known, more-left, more-in, more-cases}
use Rattle.subshape_maps.proofs.Occurrences.{of_uses, uses-onward}

abbrev pub ShapesAreTold : Type 0
ShapesAreTold = (a b : Shape) → (shape_eq a b ≡ true) ↔ (a ≡ b)

pub none-met : (met : List Shape) → length met ≤ most_shapes → AreMet met []
none-met met h = record { words = λ s m. absurd (Contains-none s m); few = h }

pub met-joined : (met a b : List Shape) → AreMet met a → AreMet (first_places_after shape_eq met a) b → AreMet met (a ++ b)
met-joined met a b h g = record {
  words = λ s m. elim (Contains-append_cases a b s m) [ inl k ↦ h.words s k | inr k ↦ g.words s k ];
  few = subst (λ l. length l ≤ most_shapes) (sym (fold-append (with_new shape_eq) met a b)) g.few;
}

-- one more is met
pub one-met : (met : List Shape) (s : Shape) → fault_of s.word ≡ None → length (with_new shape_eq met s) ≤ most_shapes → AreMet met (s ∷ [])
one-met met s h few = record {
  words = λ y m. elim (Contains-cases s y [] m) [ inl e ↦ subst (λ (z : Shape). fault_of z.word ≡ None) e h | inr k ↦ absurd (Contains-none y k) ];
  few = few;
}

-- what is known already is met again
pub known-met : ShapesAreTold → (met more : List Shape) → ((s : Shape) → Contains more s → Contains met s) →
    ((s : Shape) → Contains met s → fault_of s.word ≡ None) → length met ≤ most_shapes → AreMet met more
known-met tells met more h words few = record {
  words = λ s m. words s (h s m);
  few = subst (λ l. length l ≤ most_shapes) (sym (more-known shape_eq tells met more h)) few;
}

-- ---- refusals
regrouped : (a b c before : List Shape) (s : Shape) (after : List Shape) → b ≡ before ++ (s ∷ after) → a ++ (b ++ c) ≡ (a ++ before) ++ (s ∷ (after ++ c))
regrouped a b c before s after e =
    let f : a ++ ((before ++ (s ∷ after)) ++ c) ≡ (a ++ before) ++ (s ∷ (after ++ c)) = simp append_assoc in ap (λ (l : List Shape). a ++ (l ++ c)) e ∙ f

past-later : (met a b c before : List Shape) (s : Shape) (after : List Shape) → AreMet met a → IsFirstPast (first_places_after shape_eq met a) b before s after →
    IsFirstPast met (a ++ (b ++ c)) (a ++ before) s (after ++ c)
past-later met a b c before s after h p = record {
  parts = regrouped a b c before s after p.parts;
  within = met-joined met a before h p.within;
}

-- what is due of what comes later is due of the whole
pub due-later : (met a b c : List Shape) (fault : MapFault) → AreMet met a → IsDue (first_places_after shape_eq met a) b fault → IsDue met (a ++ (b ++ c)) fault
due-later met a b c (Word f) h d = (a ++ d.0, d.1, d.2 ++ c, past-later met a b c d.0 d.1 d.2 h d.3, d.4)
due-later met a b c (Keys n) h d = (
  a ++ d.0,
  d.1,
  d.2 ++ c,
  past-later met a b c d.0 d.1 d.2 h d.3,
  d.4,
  subst (λ (l : List Shape). most_shapes < length l) (sym (longer a d.0 d.1)) d.5,
  d.6,
)
  where
    longer : (a before : List Shape) (s : Shape) → first_places_after shape_eq met ((a ++ before) ++ s ∷ []) ≡ first_places_after shape_eq (first_places_after shape_eq met a) (before ++ s ∷ [])
    longer a before s =
        let f : (a ++ before) ++ (s ∷ []) ≡ a ++ (before ++ (s ∷ [])) = simp append_assoc in
        ap (λ (l : List Shape). first_places_after shape_eq met l) f ∙ fold-append (with_new shape_eq) met a (before ++ s ∷ [])
due-later met a b c (Pairs n) h d = d
due-later met a b c NoMemory h d = d

first-past : (met : List Shape) (s : Shape) (rest : List Shape) → length met ≤ most_shapes → IsFirstPast met (s ∷ rest) [] s rest
first-past met s rest few = record { parts = refl; within = none-met met few }

pub due-word : (met : List Shape) (s : Shape) (rest : List Shape) (fault : MapFault) → length met ≤ most_shapes → IsDueWord (fault_of s.word) fault → IsDue met (s ∷ rest) fault
due-word met s rest (Word f) few d = ([], s, rest, first-past met s rest few, d)
due-word met s rest (Keys n) few d = absurd d
due-word met s rest (Pairs n) few d = d
due-word met s rest NoMemory few d = d

pub due-many : (met : List Shape) (s : Shape) (rest : List Shape) (fault : MapFault) → length met ≤ most_shapes → fault_of s.word ≡ None →
    IsOneTooMany (length (with_new shape_eq met s)) fault → IsDue met (s ∷ rest) fault
due-many met s rest (Word f) few h d = absurd d
due-many met s rest (Keys n) few h d = ([], s, rest, first-past met s rest few, h, d.0, d.1)
due-many met s rest (Pairs n) few h d = d
due-many met s rest NoMemory few h d = d

-- ---- what was met whole
pub closed-less : (d e : ℕ) (met : List Shape) → d ≤ e → IsClosed e met → IsClosed d met
closed-less d e met h c s m k y g = c s m (omega (arith, h, k)) y g

-- a shape that is as deep is no bar
pub closed-with : (met : List Shape) (x : Shape) → IsClosed (suc (depth x.tree)) met → IsClosed (depth x.tree) (met ++ x ∷ [])
closed-with met x c s m k y g = elim (Contains-push_cases met x s m) [
  | inl h ↦ Contains-append_left met (x ∷ []) y (c s h (omega (arith, k)) y g)
  | inr e ↦ (let a = ap (λ (z : Shape). depth z.tree) e in absurd (omega (arith, a, k)))
]

pub closed-uses : ShapesAreTold → (d : ℕ) (met : List Shape) (w : List Pair) (us : List Use) → IsClosed d met → IsClosed d (first_places_after shape_eq met (of_uses w us))
closed-uses tells d met w us c s m k y g = elim (more-cases shape_eq tells met (of_uses w us) s m) [
  | inl h ↦ more-left shape_eq tells met (of_uses w us) y (c s h k y g)
  | inr h ↦ more-in shape_eq tells met (of_uses w us) y (uses-onward w us s y h g)
]

-- One more end in the list of ends: it stands last in the part of the last node.
use Rattle.std.proofs.Common.{◌≡◌, refl, sym, ◌∙◌, ap, arith, ◌-◌, take, drop}
use Rattle.std.proofs.lemmas.List.{take_all, drop-append-le, take-append-le, length-drop, length-append}
use Rattle.std.specs.Prelude.{ℕ, List, [], ◌∷◌, ◌++◌, length}
use Rattle.graph_walks.specs.Graph.{with_end, AddsEnd, AreStarts, lists_of}
use Rattle.graph_walks.proofs.GraphLemmas.{stop-within, stop-end}

pub starts_end : (ends starts : List ℕ) (end : ℕ) → AreStarts ends starts → AreStarts (ends ++ end ∷ []) starts
starts_end ends [] end h = tt
starts_end ends (start ∷ starts) end h =
    (let a = stop-end ends starts end in omega (arith, a, h.0), starts_end ends starts end h.1)

with_end-last : (before : List (List ℕ)) (xs : List ℕ) (end : ℕ) →
    with_end (before ++ xs ∷ []) end ≡ before ++ (xs ++ end ∷ []) ∷ []
with_end-last [] xs end = refl
with_end-last (b ∷ []) xs end = refl
with_end-last (b ∷ c ∷ before) xs end = ap (λ l. b ∷ l) (with_end-last (c ∷ before) xs end)

pub parts : (ends starts : List ℕ) (end : ℕ) → AreStarts ends starts →
    lists_of (ends ++ end ∷ []) starts ≡ with_end (lists_of ends starts) end
parts ends [] end h = refl
parts ends (start ∷ []) end h =
    let more = length-append ends (end ∷ []) in
    let rest = length-append (drop start ends) (end ∷ []) in
    let left = length-drop start ends in
    ap (λ l. take (length (ends ++ end ∷ []) - start) l ∷ []) (drop-append-le start ends (end ∷ []) h.0) ∙
    ap (λ l. l ∷ []) (take_all (length (ends ++ end ∷ []) - start) (drop start ends ++ end ∷ [])
    (omega (arith, more, rest, left, h.0))) ∙
    ap (λ l. (l ++ end ∷ []) ∷ []) (sym (take_all (length ends - start) (drop start ends) (omega (arith, left))))
parts ends (start ∷ next ∷ starts) end h =
    let within = stop-within ends (next ∷ starts) h.1 in
    let left = length-drop start ends in
    ap (λ l. take (next - start) l ∷ lists_of (ends ++ end ∷ []) (next ∷ starts))
    (drop-append-le start ends (end ∷ []) (omega (arith, within, h.0))) ∙
    ap (λ l. l ∷ lists_of (ends ++ end ∷ []) (next ∷ starts))
    (take-append-le (next - start) (drop start ends) (end ∷ []) (omega (arith, left, within))) ∙
    ap (λ l. take (next - start) (drop start ends) ∷ l) (parts ends (next ∷ starts) end h.1)

pub adds_end : (ends starts : List ℕ) (end : ℕ) → AreStarts ends starts →
    AddsEnd (lists_of ends starts) (lists_of (ends ++ end ∷ []) starts) end
adds_end ends starts end h =
    λ before xs e. parts ends starts end h ∙ ap (λ l. with_end l end) e ∙ with_end-last before xs end

-- Ends in one list with starts: what one more node and one more end do, and which part is a node's.
use Rattle.std.proofs.Common.{◌≡◌, refl, sym, ◌∙◌, ap, arith, ◌<◌, ◌≤◌, ◌+◌, ◌-◌, take, drop, slice_index_or}
use Rattle.std.proofs.lemmas.List.{length-append}
use Rattle.std.specs.Prelude.{ℕ, zero, suc, List, [], ◌∷◌, ◌++◌, length}
use Rattle.graph_walks.specs.Graph.{ends_of, stop_before, AreStarts, lists_of}

pub length_lists : (ends starts : List ℕ) → length (lists_of ends starts) ≡ length starts
length_lists ends [] = refl
length_lists ends (start ∷ starts) = ap suc (length_lists ends starts)

pub stop-within : (ends starts : List ℕ) → AreStarts ends starts → stop_before ends starts ≤ length ends
stop-within ends [] h = omega arith
stop-within ends (start ∷ starts) h = let a = stop-within ends starts h.1 in omega (arith, a, h.0)

-- ---- one more node
stop-node : (ends starts : List ℕ) → stop_before ends (starts ++ length ends ∷ []) ≡ stop_before ends starts
stop-node ends [] = refl
stop-node ends (start ∷ starts) = refl

pub starts_node : (ends starts : List ℕ) → AreStarts ends starts → AreStarts ends (starts ++ length ends ∷ [])
starts_node ends [] h = (omega arith, tt)
starts_node ends (start ∷ starts) h =
    (let a = stop-node ends starts in omega (arith, a, h.0), starts_node ends starts h.1)

pub lists_node : (ends starts : List ℕ) → lists_of ends (starts ++ length ends ∷ []) ≡ lists_of ends starts ++ [] ∷ []
lists_node ends [] =
    let none : length ends - length ends ≡ 0 = omega arith in ap (λ n. take n (drop (length ends) ends) ∷ []) none
lists_node ends (start ∷ starts) = rw (stop-node ends starts, lists_node ends starts) refl

-- ---- one more end
pub stop-end : (ends starts : List ℕ) (end : ℕ) → stop_before ends starts ≤ stop_before (ends ++ end ∷ []) starts
stop-end ends [] end = let a = length-append ends (end ∷ []) in omega (arith, a)
stop-end ends (start ∷ starts) end = omega arith

-- ---- a node's part
-- where the ends of the node at a place stop
abbrev pub stop_at : List ℕ → List ℕ → ℕ → ℕ
stop_at ends starts x = slice_index_or starts (x + 1) (length ends)

after-first : (ends : List ℕ) (start : ℕ) (starts : List ℕ) (x : ℕ) →
    stop_at ends (start ∷ starts) (suc x) ≡ stop_at ends starts x
after-first ends start starts x = let next : suc x + 1 ≡ suc (x + 1) = omega arith in
    ap (λ k. slice_index_or (start ∷ starts) k (length ends)) next

first-stop : (ends : List ℕ) (start : ℕ) (starts : List ℕ) → stop_at ends (start ∷ starts) 0 ≡ stop_before ends starts
first-stop ends start [] = refl
first-stop ends start (next ∷ starts) = refl

pub part_within : (ends starts : List ℕ) (x : ℕ) → AreStarts ends starts → x < length starts →
    (slice_index_or starts x 0 ≤ slice_index_or starts (x + 1) (length ends)) ×
    (slice_index_or starts (x + 1) (length ends) ≤ length ends)
part_within ends [] x h lt = absurd (omega (arith, lt))
part_within ends (start ∷ starts) zero h lt =
    let stop = first-stop ends start starts in let within = stop-within ends starts h.1 in
    (omega (arith, stop, h.0), omega (arith, stop, within))
part_within ends (start ∷ starts) (suc x) h lt =
    let same = after-first ends start starts x in let rest = part_within ends starts x h.1 (omega (arith, lt)) in
    (omega (arith, same, rest.0), omega (arith, same, rest.1))

pub part_is : (ends starts : List ℕ) (x : ℕ) → x < length starts →
    ends_of (lists_of ends starts) x ≡ take (slice_index_or starts (x + 1) (length ends) - slice_index_or starts x 0)
    (drop (slice_index_or starts x 0) ends)
part_is ends [] x lt = absurd (omega (arith, lt))
part_is ends (start ∷ starts) zero lt =
    ap (λ stop. take (stop - start) (drop start ends)) (sym (first-stop ends start starts))
part_is ends (start ∷ starts) (suc x) lt =
    part_is ends starts x (omega (arith, lt)) ∙
    ap (λ stop. take (stop - slice_index_or starts x 0) (drop (slice_index_or starts x 0) ends))
    (sym (after-first ends start starts x))

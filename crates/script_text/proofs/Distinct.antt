-- No number stands twice exactly where the set of the numbers is as large as their list.
use Rattle.std.proofs.Common.{◌≡◌, ◌≢◌, ℕ, Bool, true, false, ◌==◌, ◌&&◌, ◌||◌, not, nat_eq, List, [], ◌∷◌, length, map}
use Rattle.std.proofs.Common.{refl}
use Rattle.std.specs.Bool.{Decides}
use Rattle.std.specs.List.{AllPairs, AllByRecursion, IsDistinct, list_any}
use Rattle.std.specs.Cmp.{unsigned_Decides}
use Rattle.std.specs.HashSet.{HashSet, IsFromIterResult, hash_set_len}
use Rattle.std.proofs.lemmas.Bool.Decides.{same_from_decides}
use Rattle.std.proofs.lemmas.Cmp.{nat_eq_equiv}
use Rattle.std.proofs.lemmas.List.{length-map}
use Rattle.std.proofs.lemmas.Map.Made.{AllPairs-from_IsDistinct, IsDistinct-from_AllPairs, hash_set_len-Decides}
use Rattle.script_text.specs.Reading.{are_distinct}
use Rattle.script_text.specs.declared.phrase.Mention.{Mention}

or_false : (a b : Bool) → (a || b) ≡ false → (a ≡ false) × (b ≡ false)
or_false true b h = absurd cc
or_false false b h = (refl, h)

neither : (a b : Bool) → (not a && b) ≡ true → (a ≡ false) × (b ≡ true)
neither true b h = absurd cc
neither false b h = (refl, h)

none_same : (n : ℕ) (ms : List Mention) → list_any (λ k. n == k.number) ms ≡ false
    → AllByRecursion (λ y. nat_eq n y ≡ false) (map (λ m. m.number) ms)
none_same n [] h = tt
none_same n (m ∷ ms) h =
    let both = or_false (n == m.number) (list_any (λ k. n == k.number) ms) h in
    (both.0, none_same n ms both.1)

same_none : (n : ℕ) (ms : List Mention) → AllByRecursion (λ y. nat_eq n y ≡ false) (map (λ m. m.number) ms)
    → list_any (λ k. n == k.number) ms ≡ false
same_none n [] h = refl
same_none n (m ∷ ms) h = rw h.0 (same_none n ms h.1)

distinct_there : (ms : List Mention) → are_distinct ms ≡ true → IsDistinct nat_eq (map (λ m. m.number) ms)
unfolding IsDistinct
distinct_there [] h = tt
distinct_there (m ∷ ms) h =
    let both = neither (list_any (λ k. m.number == k.number) ms) (are_distinct ms) h in
    (none_same m.number ms both.0, distinct_there ms both.1)

distinct_back : (ms : List Mention) → IsDistinct nat_eq (map (λ m. m.number) ms) → are_distinct ms ≡ true
unfolding IsDistinct
distinct_back [] h = refl
distinct_back (m ∷ ms) h = rw (same_none m.number ms h.0) (distinct_back ms h.1)

pub distinct_Decides : (ms : List Mention)
    → Decides (are_distinct ms) (AllPairs (λ x y. x ≢ y) (map (λ m. m.number) ms))
distinct_Decides ms = (
  λ h. AllPairs-from_IsDistinct unsigned_Decides (map (λ m. m.number) ms) (distinct_there ms h),
  λ p. distinct_back ms (IsDistinct-from_AllPairs unsigned_Decides (map (λ m. m.number) ms) p),
)

pub set_tells : {S : Type 0} (ms : List Mention) (set : HashSet ℕ S) (size : ℕ)
    → IsFromIterResult nat_eq (map (λ m. m.number) ms) set → size ≡ hash_set_len set
    → nat_eq size (length ms) ≡ are_distinct ms
set_tells ms set size from is =
    let tells = hash_set_len-Decides unsigned_Decides nat_eq_equiv (map (λ m. m.number) ms) set from in
    let same = same_from_decides (nat_eq (hash_set_len set) (length (map (λ (m : Mention). m.number) ms)))
    (are_distinct ms) tells (distinct_Decides ms) in
    let long : length (map (λ (m : Mention). m.number) ms) ≡ length ms = simp length-map in
    rw is (rw long at same)

-- What is known of the records that were read: their kinds, and the depths of their trees.
use Rattle.std.proofs.Common.{◌≡◌, ℕ, zero, suc, max, ◌+◌, ◌-◌, ◌<◌, ◌≤◌, nat_le, inl, inr, Bool, true, false}
use Rattle.std.proofs.Common.{if◌then◌else◌, List, [], ◌∷◌, ◌++◌, length, map, Option, Some, None, refl, sym, ap, subst}
use Rattle.std.proofs.Common.{◌∙◌, append_assoc, append-nil, arith}
use Rattle.std.specs.Prelude.{slice_get, reverse, unwrap_or}
use Rattle.std.specs.List.{AllByRecursion}
use Rattle.std.specs.Option.{option_map_or}
use Rattle.std.proofs.lemmas.Bool.{cases_lt, leb-true, le-leb}
use Rattle.std.proofs.lemmas.List.{reverse-append, map-append, length-append}
use Rattle.std.proofs.lemmas.Option.{slice_get_within}
use Rattle.expansion_laws.specs.Trees.{Tree, tree_of, uses_of}
use Rattle.expansion_laws.specs.Measures.{depth, uses_depth}
use Rattle.expansion_laws.specs.Expansion.{NumberedUse, tree_at, expanded, trees_from}
use Rattle.location_table.specs.declared.entry.LocationEntry.{LocationEntry}
use Rattle.brep_file.specs.declared.uses.FileUse.{FileUse}
use Rattle.brep_file.specs.declared.records.Record.{Record}
use Rattle.brep_file.specs.PlainRecords.{plain_use}
use Rattle.brep_file.specs.Seen.{Seen}
use Rattle.brep_file.specs.RecordReading.{Gathered, none_gathered}
use Rattle.brep_file.proofs.Basics.{some_is}
use Rattle.brep_file.proofs.UseLaws.{seen_at, seen_depth, with_use, with_uses}

-- ---- elements of joined lists

pub get_left : {X : Type 0} (xs ys : List X) (i : ℕ) → i < length xs → slice_get (xs ++ ys) i ≡ slice_get xs i
get_left [] ys i lt = absurd (omega (arith, lt))
get_left (x ∷ xs) ys zero lt = refl
get_left (x ∷ xs) ys (suc i) lt = get_left xs ys i (omega (arith, lt))

pub get_joint : {X : Type 0} (xs ys : List X) (y : X) → slice_get (xs ++ y ∷ ys) (length xs) ≡ Some y
get_joint [] ys y = refl
get_joint (x ∷ xs) ys y = get_joint xs ys y

pub get_inside : {X : Type 0} (xs : List X) (i : ℕ) → i < length xs → (x : X) × (slice_get xs i ≡ Some x)
get_inside [] i lt = absurd (omega (arith, lt))
get_inside (x ∷ xs) zero lt = (x, refl)
get_inside (x ∷ xs) (suc i) lt = get_inside xs i (omega (arith, lt))

found_some : {A : Type 0} (b : Bool) (o : Option A) (y : A) → (if b then o else None) ≡ Some y
    → (b ≡ true) × (o ≡ Some y)
found_some true o y e = (refl, e)
found_some false o y e = absurd cc

-- what holds of each record of a list, by its number, and of one more, holds of each of the longer list
pub pushed : (P : ℕ → Record → Type 0) (n k : ℕ) (rs : List Record) (r : Record) → suc k + length rs ≡ n
    → ((number : ℕ) (x : Record) → suc k < number → number ≤ n → slice_get rs (n - number) ≡ Some x → P number x)
    → P (suc k) r
    → (number : ℕ) (x : Record) → k < number → number ≤ n → slice_get (rs ++ r ∷ []) (n - number) ≡ Some x → P number x
pushed P n k rs r count before one number x above within e =
    elim (cases_lt (suc k) number) [
      | inl lt ↦ before number x lt within
          (sym (get_left rs (r ∷ []) (n - number) (omega (arith, count, lt, within))) ∙ e)
      | inr le ↦ (let is : suc k ≡ number = omega (arith, le, above) in
          let place : length rs ≡ n - number = omega (arith, is, count) in
          let same : r ≡ x = some_is (sym (get_joint rs [] r) ∙ ap (slice_get (rs ++ r ∷ [])) place ∙ e) in
          subst (λ (m : ℕ). P m x) is (subst (P (suc k)) same one))
    ]

module _ (locations : List LocationEntry) where
  -- ---- the trees of the records that were read, where so many are still to come

  abbrev pub plain_uses : List Record → List (List NumberedUse)
  plain_uses rs = map (λ r. map (plain_use locations) r.uses) rs

  abbrev pub trees_in : ℕ → List Record → List Tree
  trees_in k rs = trees_from (suc k) (reverse (plain_uses rs))

  abbrev pub tree_in : ℕ → List Record → ℕ → Tree
  tree_in k rs number = tree_at (suc k) (trees_in k rs) number

  abbrev pub new_tree : ℕ → List Record → Record → Tree
  new_tree k rs r = tree_of (suc k) (map (expanded (suc (suc k)) (trees_in (suc k) rs))
      (map (plain_use locations) r.uses))

  reversed_more : (rs : List Record) (r : Record)
      → reverse (plain_uses (rs ++ r ∷ [])) ≡ map (plain_use locations) r.uses ∷ reverse (plain_uses rs)
  reversed_more rs r = ap reverse (map-append (λ (r : Record). map (plain_use locations) r.uses) rs (r ∷ []))
      ∙ reverse-append (plain_uses rs) (map (plain_use locations) r.uses ∷ [])

  trees_more : (k : ℕ) (rs : List Record) (r : Record)
      → trees_in k (rs ++ r ∷ []) ≡ new_tree k rs r ∷ trees_in (suc k) rs
  trees_more k rs r = ap (trees_from (suc k)) (reversed_more rs r)

  pub tree_new : (k : ℕ) (rs : List Record) (r : Record) → tree_in k (rs ++ r ∷ []) (suc k) ≡ new_tree k rs r
  tree_new k rs r =
      let none : suc k - suc k ≡ 0 = omega arith in
      ap (λ (ts : List Tree). tree_at (suc k) ts (suc k)) (trees_more k rs r)
      ∙ ap (λ (i : ℕ). unwrap_or (slice_get (new_tree k rs r ∷ trees_in (suc k) rs) i) (tree_of 0 [])) none

  pub tree_older : (k : ℕ) (rs : List Record) (r : Record) (number : ℕ) → suc k < number
      → tree_in k (rs ++ r ∷ []) number ≡ tree_in (suc k) rs number
  tree_older k rs r number above =
      let one : number - suc k ≡ suc (number - suc (suc k)) = omega (arith, above) in
      ap (λ (ts : List Tree). tree_at (suc k) ts number) (trees_more k rs r)
      ∙ ap (λ (i : ℕ). unwrap_or (slice_get (new_tree k rs r ∷ trees_in (suc k) rs) i) (tree_of 0 [])) one

  -- records to come change no tree
  pub tree_kept : (rest done : List Record) (number : ℕ) → length rest < number
      → tree_in 0 (done ++ rest) number ≡ tree_in (length rest) done number
  tree_kept [] done number above = ap (λ (rs : List Record). tree_in 0 rs number) (append-nil done)
  tree_kept (r ∷ rest) done number above =
      ap (λ (rs : List Record). tree_in 0 rs number) (sym (append_assoc done (r ∷ []) rest))
      ∙ tree_kept rest (done ++ r ∷ []) number (omega (arith, above))
      ∙ tree_older (length rest) done r number above

  -- ---- what is known

  abbrev pub seen_of : ℕ → List Record → ℕ → Record → Seen
  seen_of k rs number r = record { kind = r.head.kind; depth = depth (tree_in k rs number) }

  -- of n records these were read, and k are to come; of each the kind and the depth of its tree are known
  pub record Tells (n k : ℕ) (rs : List Record) (seen : List Seen) : Type 0 where
    pub count : k + length rs ≡ n
    pub as_many : length seen ≡ length rs
    pub each : (number : ℕ) (r : Record) → k < number → number ≤ n → slice_get rs (n - number) ≡ Some r
        → slice_get seen (n - number) ≡ Some (seen_of k rs number r)

  pub tells_nothing : (n : ℕ) → Tells n n [] []
  tells_nothing n = record {
    count = omega arith;
    as_many = refl;
    each = λ number r above within e. absurd (omega (arith, above, within));
  }

  module _ (n k : ℕ) (rs : List Record) (seen : List Seen) (tells : Tells n k rs seen) where
    pub seen_in : (number : ℕ) → number ≤ n → seen_at n seen number ≡ slice_get seen (n - number)
    seen_in number within = rw (le-leb number n within) refl

    -- each record read is known
    pub known : (number : ℕ) → k < number → number ≤ n → (r : Record) × (slice_get rs (n - number) ≡ Some r)
        × (seen_at n seen number ≡ Some (seen_of k rs number r))
    known number above within =
        let g = get_inside rs (n - number) (omega (arith, tells.count, above, within)) in
        (g.0, g.1, seen_in number within ∙ tells.each number g.0 above within g.1)

    -- and what is known is one of them
    pub named : (number : ℕ) (child : Seen) → seen_at n seen number ≡ Some child → (k < number) × (number ≤ n)
    named number child e =
        let found = found_some (nat_le number n) (slice_get seen (n - number)) child e in
        let within : number ≤ n = leb-true number n found.0 in
        (omega (arith, tells.count, tells.as_many, slice_get_within seen (n - number) child found.1, within), within)

    pub known_depth : (number : ℕ) → k < number → number ≤ n → seen_depth n seen number ≡ depth (tree_in k rs number)
    known_depth number above within = ap (λ (o : Option Seen). option_map_or (λ c. c.depth) o 0)
        (known number above within).2

  -- ---- the depth of the next record's tree

  abbrev pub IsNamed : ℕ → ℕ → FileUse → Type 0
  IsNamed n k u = (k < u.number) × (u.number ≤ n)

  pub gathered_depth : (n k : ℕ) (rs : List Record) (seen : List Seen) (tells : Tells n k rs seen) (us : List FileUse)
      (g : Gathered) → AllByRecursion (IsNamed n k) us
      → (with_uses n seen g us).depth ≡ max g.depth
      (uses_depth (uses_of (map (expanded (suc k) (trees_in k rs)) (map (plain_use locations) us))))
  gathered_depth n k rs seen tells [] g are = omega arith
  gathered_depth n k rs seen tells (u ∷ us) g are =
      let one : seen_depth n seen u.number ≡ depth (tree_in k rs u.number) =
      known_depth n k rs seen tells u.number are.0.0 are.0.1 in
      let more = gathered_depth n k rs seen tells us (with_use n seen g u) are.1 in
      omega (arith, one, more)

  pub new_depth : (n k : ℕ) (rs : List Record) (seen : List Seen) (tells : Tells n (suc k) rs seen) (r : Record)
      → AllByRecursion (IsNamed n (suc k)) r.uses
      → depth (tree_in k (rs ++ r ∷ []) (suc k)) ≡ suc (with_uses n seen none_gathered r.uses).depth
  new_depth n k rs seen tells r are =
      let below : uses_depth (uses_of (map (expanded (suc (suc k)) (trees_in (suc k) rs))
      (map (plain_use locations) r.uses))) ≡ (with_uses n seen none_gathered r.uses).depth =
      omega (arith, gathered_depth n (suc k) rs seen tells r.uses none_gathered are) in
      ap depth (tree_new k rs r) ∙ ap suc below

  -- a record more is known
  pub tells_more : (n k : ℕ) (rs : List Record) (seen : List Seen) (tells : Tells n (suc k) rs seen) (r : Record)
      → AllByRecursion (IsNamed n (suc k)) r.uses
      → Tells n k (rs ++ r ∷ [])
      (seen ++ record { kind = r.head.kind; depth = suc (with_uses n seen none_gathered r.uses).depth } ∷ [])
  tells_more n k rs seen tells r are =
      let new : Seen = record { kind = r.head.kind; depth = suc (with_uses n seen none_gathered r.uses).depth } in
      record {
        count = omega (arith, tells.count, length-append rs (r ∷ []));
        as_many = omega (arith, tells.as_many, length-append rs (r ∷ []), length-append seen (new ∷ []));
        each = pushed (λ number x. slice_get (seen ++ new ∷ []) (n - number) ≡ Some (seen_of k (rs ++ r ∷ []) number x))
            n k rs r tells.count
            (λ number x above within e. get_left seen (new ∷ []) (n - number)
            (omega (arith, tells.count, tells.as_many, above, within)) ∙ tells.each number x above within e
            ∙ ap (λ (t : Tree). Some (record { kind = x.head.kind; depth = depth t }))
            (sym (tree_older k rs r number above)))
            (let place : n - suc k ≡ length seen = omega (arith, tells.count, tells.as_many) in
            ap (slice_get (seen ++ new ∷ [])) place ∙ get_joint seen [] new
            ∙ ap (λ (d : ℕ). Some (record { kind = r.head.kind; depth = d }))
            (sym (new_depth n k rs seen tells r are)));
      }

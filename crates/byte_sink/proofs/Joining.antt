-- Texts that are handed in piece by piece.
use Rattle.std.proofs.Common.{◌≡◌, ◌<◌, ◌≤◌, ◌+◌, ◌∙◌, ap, sym, subst, add-one, take_all}
use Rattle.std.specs.Prelude.{ℕ, List, [], ◌∷◌, ◌++◌, length, take, slice_index_or}
use Rattle.std.specs.List.{flat_map}
use Rattle.std.proofs.Math.Seq.{take-suc}
use Rattle.std.proofs.lemmas.Grind.{flat_map-append}
use Rattle.std.proofs.lemmas.List.{append-nil}
use Rattle.byte_sink.specs.Handing.{TextsJoin}

module _ {S : Type 0} {gives : S → List ℕ → S → Type 0} (joins : TextsJoin gives) where
  -- a text is the same text
  pub as_text : (a b : S) (x y : List ℕ) → gives a x b → x ≡ y → gives a y b
  as_text a b x y h same = subst (λ z. gives a z b) same h

  -- two pieces, and three
  pub in_two : (a b d : S) (x y z : List ℕ) → gives a x b → gives b y d → x ++ y ≡ z → gives a z d
  in_two a b d x y z one two same = as_text a d (x ++ y) z (joins.joined a b d x y one two) same

  pub in_three : (a b d e : S) (x y z t : List ℕ) → gives a x b → gives b y d → gives d z e
      → x ++ (y ++ z) ≡ t → gives a t e
  in_three a b d e x y z t one two three same =
      in_two a b e x (y ++ z) t one (joins.joined b d e y z two three) same

  -- one item more, of which each gives a text
  pub each_more : {X : Type 0} (f : X → List ℕ) (xs : List X) (i : ℕ) (x : X) (a b d : S) → i < length xs
      → x ≡ slice_index_or xs i x → gives a (flat_map f (take i xs)) b → gives b (f x) d
      → gives a (flat_map f (take (i + 1) xs)) d
  each_more {X} f xs i x a b d lt is before one =
      in_two a b d (flat_map f (take i xs)) (f x) (flat_map f (take (i + 1) xs)) before one (sym more)
    where
      taken : take (i + 1) xs ≡ take i xs ++ slice_index_or xs i x ∷ []
      taken = rw add-one (take-suc xs i x lt)

      more : flat_map f (take (i + 1) xs) ≡ flat_map f (take i xs) ++ f x
      more =
          ap (flat_map f) taken
          ∙ flat_map-append f (take i xs) (slice_index_or xs i x ∷ [])
          ∙ ap (λ l. flat_map f (take i xs) ++ l) (append-nil (f (slice_index_or xs i x)))
          ∙ ap (λ (y : X). flat_map f (take i xs) ++ f y) (sym is)

  -- all of them
  pub each_all : {X : Type 0} (f : X → List ℕ) (xs : List X) (i : ℕ) (a b : S) → length xs ≤ i
      → gives a (flat_map f (take i xs)) b → gives a (flat_map f xs) b
  each_all f xs i a b all h =
      as_text a b (flat_map f (take i xs)) (flat_map f xs) h (ap (flat_map f) (take_all i xs all))

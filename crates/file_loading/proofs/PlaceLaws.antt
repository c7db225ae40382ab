-- One place more.
use Rattle.std.proofs.Common.{◌≡◌, ◌+◌, ◌∙◌, ap, arith, refl, subst, sym, inl, inr}
use Rattle.std.specs.Prelude.{ℕ, List, [], ◌∷◌, ◌++◌, Some, length, slice_get, slice_index_or}
use Rattle.std.proofs.lemmas.Bool.{cases_lt}
use Rattle.std.proofs.lemmas.List.{get_or_append_left, get_or_push, length_push}
use Rattle.location_words.specs.declared.pair.Pair.{Pair}
use Rattle.location_words.specs.declared.table.WordId.{WordId}
use Rattle.location_table.specs.Words.{word_of_place}
use Rattle.location_table.specs.declared.entry.LocationEntry.{LocationEntry}
use Rattle.file_loading.specs.Places.{HoldWordsTo, KeepsWords}

pub keeps_on : (a b c : List (List Pair)) → KeepsWords a b → KeepsWords b c → KeepsWords a c
keeps_on a b c first next i w e = next i w (first i w e)

pub no_places : (section : List LocationEntry) (table : List (List Pair)) → HoldWordsTo section table [] 0
no_places section table = record { size = refl; words = λ place d lt. absurd (omega (arith, lt)) }

pub place_more : (section : List LocationEntry) (old new : List (List Pair)) (ids : List WordId) (count : ℕ)
    (id : WordId) → HoldWordsTo section old ids count → KeepsWords old new
    → slice_get new id.0 ≡ Some (word_of_place section count) → HoldWordsTo section new (ids ++ id ∷ []) (count + 1)
place_more section old new ids count id held kept one = record {
  size = length_push ids id ∙ ap (λ n. n + 1) held.size;
  words = λ place d lt.
      elim (cases_lt place (length ids)) [
        | inl first ↦ (let same : slice_index_or (ids ++ id ∷ []) place d ≡ slice_index_or ids place d =
            get_or_append_left ids (id ∷ []) d place first in
            ap (λ (w : WordId). slice_get new w.0) same
            ∙ kept _ _ (held.words place d (let size = held.size in omega (arith, first, size))))
        | inr last ↦ (let size = held.size in let here : length ids ≡ place = omega (arith, last, lt, size) in
            let at : count ≡ place = omega (arith, here, size) in
            ap (λ (w : WordId). slice_get new w.0) (get_or_push ids id d place here) ∙ one
            ∙ ap (λ n. Some (word_of_place section n)) at)
      ];
}

pub first_place : (section : List LocationEntry) (old new : List (List Pair)) (none ids : List WordId) (id : WordId)
    → none ≡ [] → ids ≡ none ++ id ∷ [] → KeepsWords old new → slice_get new id.0 ≡ Some (word_of_place section 0)
    → HoldWordsTo section new ids 1
first_place section old new none ids id empty pushed kept one =
    let same : ids ≡ [] ++ id ∷ [] = pushed ∙ ap (λ (xs : List WordId). xs ++ id ∷ []) empty in
    subst (λ (xs : List WordId). HoldWordsTo section new xs 1) (sym same)
    (place_more section old new [] 0 id (no_places section old) kept one)

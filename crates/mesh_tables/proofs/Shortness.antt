-- Texts that fit a token: one after another, and those of an entry's spelling.
use Rattle.std.proofs.Common.{◌≡◌, ℕ, ◌+◌, ◌≤◌, Bool, List, [], ◌∷◌, ◌++◌, length, take, Some, codes, subst, arith}
use Rattle.std.specs.List.{slice_get}
use Rattle.std.proofs.lemmas.List.{take_all, take_more}
use Rattle.std.proofs.lemmas.Option.{get_or_from_slice_get, slice_get_within}
use Rattle.entry_readers.specs.Begins.{spell_numbers}
use Rattle.entry_readers.specs.Spelled.{AreShort}
use Rattle.mesh_tables.specs.Laws.{MeshesCanBeSpelled}
use Rattle.mesh_tables.specs.Spelling.{with_flag}
use Rattle.mesh_tables.proofs.Forms.{all_append}

pub short_more : (xs : List (List ℕ)) (i : ℕ) (x : List ℕ) → slice_get xs i ≡ Some x → length x ≤ 128
    → AreShort (take i xs) → AreShort (take (i + 1) xs)
short_more xs i x e fits so_far =
    rw (take_more xs i x (slice_get_within xs i x e), get_or_from_slice_get xs i x x e)
    (all_append (λ text. length text ≤ 128) (take i xs) (x ∷ []) so_far (fits, tt))

pub short_all : (xs : List (List ℕ)) → AreShort (take (length xs) xs) → AreShort xs
short_all xs so_far = subst AreShort (take_all (length xs) xs (omega arith)) so_far

short_left : (xs ys : List (List ℕ)) → AreShort (xs ++ ys) → AreShort xs
short_left [] ys all = tt
short_left (x ∷ xs) ys all = (all.0, short_left xs ys all.1)

short_right : (xs ys : List (List ℕ)) → AreShort (xs ++ ys) → AreShort ys
short_right [] ys all = all
short_right (x ∷ xs) ys all = short_right xs ys all.1

short_flagged : (params : Bool) (texts : List (List ℕ)) → AreShort (with_flag params texts) → AreShort texts
short_flagged params [] all = tt
short_flagged params (d ∷ others) all = (all.0, all.1.1)

pub can_be_spelled : MeshesCanBeSpelled
can_be_spelled = record {
  polygon = λ p sound short. record { shape = sound.shape; short = short.1.1 };
  polygon_on = λ p sound short. record {
    shape = sound.shape;
    short = short_flagged p.params p.texts
        (short_right (spell_numbers p.nodes) (codes "p" ∷ with_flag p.params p.texts) short.1).1;
  };
  mesh = λ m sound short. record {
    shape = sound.shape;
    short = short_left m.texts (spell_numbers m.corners) short.1.1.1;
  };
}

-- A reader of several parts stops where one of them stops, and goes on behind one that is read.
use Rattle.std.proofs.Common.{◌≡◌, ℕ, ◌==◌, inl, inr, false, List, length, Result, Ok, Err, refl, ap, sym, subst, ◌∙◌}
use Rattle.std.specs.Prelude.{codes, IsErrAnd}
use Rattle.std.proofs.lemmas.Bool.Decides.{eqb_tells}
use Rattle.lists.specs.Results.{◌>>=◌}
use Rattle.history_text.specs.Reading.{Left, Read, history_at, history_of, origins_at, pairs_at, removed_at, rest_at}
use Rattle.history_text.specs.Spelled.{Gives, Takes}
use Rattle.history_text.specs.TakenLine.{IsAtEnd}
use Rattle.history_text.specs.declared.fault.HistoryFault.{HistoryFault}
use Rattle.history_text.specs.declared.fault.HistoryFault.TheVariants.{NotHistory, NoMemory}
use Rattle.history_text.specs.declared.file.HistoryFile.{HistoryFile}
use Rattle.history_text.proofs.PartReaders.{behind_end, behind_generated, behind_head, behind_modified, behind_origins, behind_removed, end_at, file, head_at}
use Rattle.history_text.proofs.SectionLaws.{left_at}

-- what stops here, stops all
stops : {A B : Type 0} (r : Read A) (f : A × Left → Read B) (left new : Left) (e : HistoryFault) → Takes r left (Err e) → Takes (r >>= f) new (Err e)
stops r f left new (NotHistory n) t = rw t refl
stops r f left new NoMemory t = tt

goes_on : {A B : Type 0} (r : Read A) (f : A × Left → Read B) (x : A) (left new : Left) (k : Result B HistoryFault) → r ≡ Ok (x, left) → Takes (f (x, left)) new k → Takes (r >>= f) new k
goes_on {A} {B} r f x left new k e t = subst (λ (z : Read A). Takes {A = B} (z >>= f) new k) (sym e) t

passed_on : {B : Type 0} (r : Read B) (new : Left) (k : Result B HistoryFault) (e : HistoryFault) → IsErrAnd k (λ z. z ≡ e) → Takes r new (Err e) → Takes r new k
passed_on r new (Ok x) e wrong t = absurd wrong
passed_on r new (Err z) e is t = subst (λ (y : HistoryFault). Takes r new (Err y)) (sym is) t

-- ---- the parts of a history

module _ (l0 l1 l2 : Left) (u : Unit {0}) (os : List ℕ) (written : ℕ) (head : head_at l0 ≡ Ok (u, l1)) (origins : origins_at l1 ≡ Ok (os, l2)) (count : written ≡ length os) where
  after_origins : (new : Left) (k : Result HistoryFile HistoryFault) → Takes (rest_at os l2) new k → Takes (history_at l0) new k
  after_origins new k t =
      goes_on (head_at l0) behind_head u l1 new k head (goes_on (origins_at l1) behind_origins os l2 new k origins t)

  pub modified_stops : (l3 : Left) (k : Result HistoryFile HistoryFault) (e : HistoryFault) → IsErrAnd k (λ z. z ≡ e)
      → Takes (pairs_at (codes "modified") written l2) l3 (Err e) → Takes (history_at l0) l3 k
  modified_stops l3 k e is t =
      let at : Takes (pairs_at (codes "modified") (length os) l2) l3 (Err e) = subst (λ (n : ℕ). Takes (pairs_at (codes "modified") n l2) l3 (Err e)) count t in
      passed_on (history_at l0) l3 k e is (after_origins l3 (Err e) (stops (pairs_at (codes "modified") (length os) l2)
      (behind_modified os) l3 l3 e at))

  module _ (l3 : Left) (ms : List (ℕ × ℕ)) (modified : pairs_at (codes "modified") written l2 ≡ Ok (ms, l3)) where
    after_modified : (new : Left) (k : Result HistoryFile HistoryFault)
        → Takes (pairs_at (codes "generated") (length os) l3 >>= behind_generated os ms) new k → Takes (history_at l0) new k
    after_modified new k t =
        let at : pairs_at (codes "modified") (length os) l2 ≡ Ok (ms, l3) = ap (λ (n : ℕ). pairs_at (codes "modified") n l2) (sym count) ∙ modified in
        after_origins new k (goes_on (pairs_at (codes "modified") (length os) l2)
        (behind_modified os) ms l3 new k at t)

    pub generated_stops : (l4 : Left) (k : Result HistoryFile HistoryFault) (e : HistoryFault) → IsErrAnd k (λ z. z ≡ e)
        → Takes (pairs_at (codes "generated") written l3) l4 (Err e) → Takes (history_at l0) l4 k
    generated_stops l4 k e is t =
        let at : Takes (pairs_at (codes "generated") (length os) l3) l4 (Err e) = subst (λ (n : ℕ). Takes (pairs_at (codes "generated") n l3) l4 (Err e)) count t in
        passed_on (history_at l0) l4 k e is (after_modified l4 (Err e) (stops (pairs_at (codes "generated") (length os) l3)
        (behind_generated os ms) l4 l4 e at))

    module _ (l4 l5 : Left) (gs : List (ℕ × ℕ)) (rs : List ℕ) (generated : pairs_at (codes "generated") written l3 ≡ Ok (gs, l4)) (removed : removed_at l4 ≡ Ok (rs, l5)) where
      after_removed : (new : Left) (k : Result HistoryFile HistoryFault) → Takes (end_at l5 >>= behind_end os ms gs rs) new k → Takes (history_at l0) new k
      after_removed new k t =
          let at : pairs_at (codes "generated") (length os) l3 ≡ Ok (gs, l4) = ap (λ (n : ℕ). pairs_at (codes "generated") n l3) (sym count) ∙ generated in
          after_modified new k (goes_on (pairs_at (codes "generated") (length os) l3)
          (behind_generated os ms) gs l4 new k at
          (goes_on (removed_at l4) (behind_removed os ms gs) rs l5 new k removed t))

      pub end_stops : (l6 : Left) (k : Result HistoryFile HistoryFault) (e : HistoryFault) → IsErrAnd k (λ z. z ≡ e) → Takes (end_at l5) l6 (Err e) → Takes (history_at l0) l6 k
      end_stops l6 k e is t =
          passed_on (history_at l0) l6 k e is (after_removed l6 (Err e) (stops (end_at l5) (behind_end os ms gs rs) l6 l6 e t))

      pub history_read : (l6 : Left) (v : Unit {0}) → end_at l5 ≡ Ok (v, l6) → history_at l0 ≡ Ok (file os ms gs rs, l6)
      history_read l6 v end = after_removed l6 (Ok (file os ms gs rs)) (goes_on (end_at l5) (behind_end os ms gs rs) v l6 l6 (Ok (file os ms gs rs)) end refl)

-- ---- the whole text

module _ (bytes : List ℕ) (start : Left) (begins : start ≡ left_at 1 bytes) where
  given : (e : HistoryFault) (k : Result HistoryFile HistoryFault) → IsErrAnd k (λ z. z ≡ e) → Gives (history_of bytes) (Err e) → Gives (history_of bytes) k
  given e (Ok h) wrong t = absurd wrong
  given e (Err z) is t = subst (λ (y : HistoryFault). Gives (history_of bytes) (Err y)) (sym is) t

  stops_early : (left : Left) (e : HistoryFault) → Takes (history_at start) left (Err e) → Gives (history_of bytes) (Err e)
  unfolding history_of
  stops_early left (NotHistory n) t =
      let at : history_at (left_at 1 bytes) ≡ Err n = ap history_at (sym begins) ∙ t in
      rw at refl
  stops_early left NoMemory t = tt

  pub part_stops : (left : Left) (e : HistoryFault) (k : Result HistoryFile HistoryFault) → IsErrAnd k (λ z. z ≡ e) → Takes (history_at start) left (Err e) → Gives (history_of bytes) k
  part_stops left e k is t = given e k is (stops_early left e t)

  module _ (h : HistoryFile) (left : Left) (read : history_at start ≡ Ok (h, left)) where
    ends_late : (e : HistoryFault) → IsAtEnd left (Err e) → Gives (history_of bytes) (Err e)
    unfolding history_of
    ends_late (NotHistory n) t =
        let at : history_at (left_at 1 bytes) ≡ Ok (h, left) = ap history_at (sym begins) ∙ read in
        let some : (length left.bytes == 0) ≡ false =
        elim (eqb_tells (length left.bytes) 0) [
          | inl is ↦ absurd (t.0 is.1)
          | inr other ↦ other.0
        ] in
        rw (at, some, t.1) refl
    ends_late NoMemory wrong = absurd wrong

    pub more_follows : (e : HistoryFault) (k : Result HistoryFile HistoryFault) → IsErrAnd k (λ z. z ≡ e) → IsAtEnd left (Err e) → Gives (history_of bytes) k
    more_follows e k is t = given e k is (ends_late e t)

    pub nothing_follows : length left.bytes ≡ 0 → history_of bytes ≡ Ok h
    unfolding history_of
    nothing_follows none =
        let at : history_at (left_at 1 bytes) ≡ Ok (h, left) = ap history_at (sym begins) ∙ read in
        rw (at, none) refl

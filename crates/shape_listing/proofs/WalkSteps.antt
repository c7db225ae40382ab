-- One occurrence more is told, or none, or the explorer is refused.
use Rattle.std.proofs.Common.{◌≡◌, ◌∙◌, ◌<◌, ◌≤◌, sym, ap, arith, subst, suc}
use Rattle.std.specs.Prelude.{ℕ, ◌+◌, ◌-◌, List, [], ◌++◌, Option, None, Some, Result, Ok, Err, length, take}
use Rattle.std.specs.Option.{option_map_or}
use Rattle.std.specs.List.{filter, flat_map}
use Rattle.std.proofs.lemmas.List.{append-nil, append_assoc}
use Rattle.orientation.specs.declared.kind.Kind.{Kind}
use Rattle.location_words.specs.declared.pair.Pair.{Pair}
use Rattle.shape_pool.specs.declared.node.UseOf.{UseOf}
use Rattle.shape_pool.specs.Rows.{Row, HaveKinds}
use Rattle.shape_pool.specs.Laws.{IsSound}
use Rattle.byte_sink.specs.Handing.{TextsJoin}
use Rattle.explorer.specs.declared.found.Found.{Found}
use Rattle.explorer.specs.declared.found.WordLimit.{WordLimit}
use Rattle.file_loading.specs.Loading.{use_in}
use Rattle.explorer.specs.Walks.{Occurrence, entered, is_wanted, WalkIsEntered}
use Rattle.explorer.specs.Going.{first_of, left, past, Answers, BeginsAt, Going, GoesOn, IsAnswer, IsOf}
use Rattle.explorer.specs.Going.{IsTold, KindsAreThere}
use Rattle.shape_listing.specs.Lines.{occurrence_line}
use Rattle.shape_listing.specs.Texts.{own_context, walk_text}
use Rattle.shape_listing.specs.Causes.{entered_to, of_limit, walk_due, words_due, IsDue}
use Rattle.shape_listing.specs.ByNumber.{due_left, found_line, lines_left, HasTold, IsExploring}
use Rattle.shape_listing.proofs.WalkLaws.{ends, entered-none, gives, line-given, stops}

module _ {S : Type 0} {given : S → List ℕ → S → Type 0} (joins : TextsJoin given) (rows : List Row)
    (sound : IsSound rows) (old new : Going) (exploring : IsExploring rows old) where
  -- the answer to what is left
  module _ (r : Result (Option Found) WordLimit) (answers : Answers old new r) (kind : ℕ → Kind)
      (are : HaveKinds rows kind) where
    answer : IsAnswer old.table old.rows (first_of (is_wanted kind old.find) (left kind old)) r new.last (left kind new)
    answer =
        subst (λ o. IsAnswer old.table old.rows
        (option_map_or past o (first_of (is_wanted kind old.find) (left kind old))) r new.last (left kind new))
        exploring.unlimited
        (answers kind (subst (λ l. HaveKinds l kind) (sym exploring.rows_are) are))

  pub found-held : KindsAreThere → (f : Found) → Answers old new (Ok (Some f)) → f.id.0 < length rows
  found-held there f answers =
      let own = there rows sound in
      let r = gives (is_wanted own.0 old.find) old.table old.rows new.last (left own.0 new) f (left own.0 old)
      (answer (Ok (Some f)) answers own.0 own.1) in
      subst (λ (l : List Row). f.id.0 < length l) exploring.rows_are r.given.held

  pub goes-on : (f : Found) → IsTold old new (Ok (Some f)) → GoesOn old new → IsExploring rows new
  goes-on f told same = record { rows_are = same.rows_are ∙ exploring.rows_are; unlimited = told }

  module _ (start : Going) (count n : ℕ) (kind : ℕ → Kind) (are : HaveKinds rows kind) (a b d : S)
      (told : HasTold (λ done. given a done b) kind start count old (suc n)) where
    -- one more
    pub told-on : (f : Found) (word : List Pair) → Answers old new (Ok (Some f)) → GoesOn old new → word ≡ new.last
        → given b (found_line rows f word) d → HasTold (λ done. given a done d) kind start count new n
    told-on f word answers same is one =
        let r = gives (is_wanted kind old.find) old.table old.rows new.last (left kind new) f (left kind old)
        (answer (Ok (Some f)) answers kind are) in
        let line : found_line rows f word ≡ occurrence_line r.one =
        (λ i. found_line rows f (is i))
        ∙ (λ i. found_line (sym exploring.rows_are i) f new.last)
        ∙ line-given old.table old.rows (subst IsSound (sym exploring.rows_are) sound) new.last r.one f r.given in
        let find = same.find_is in record {
          done = told.done ++ found_line rows f word;
          given = joins.joined a b d told.done (found_line rows f word) told.given one;
          lines = told.lines
              ∙ ap (λ l. told.done ++ flat_map occurrence_line (take (suc n) l)) r.wanted_are
              ∙ ap (λ t. told.done
              ++ (t ++ flat_map occurrence_line (take n (filter (is_wanted kind old.find) (left kind new))))) (sym line)
              ∙ sym (append_assoc told.done (found_line rows f word)
              (flat_map occurrence_line (take n (filter (is_wanted kind old.find) (left kind new)))))
              ∙ ap (λ q. (told.done ++ found_line rows f word)
              ++ flat_map occurrence_line (take n (filter (is_wanted kind q) (left kind new)))) (sym find);
          due = told.due ∙ r.due_is n
              ∙ ap (λ q. words_due (entered_to (is_wanted kind q) n (left kind new))) (sym find);
        }

    -- none is left
    module _ (answers : Answers old new (Ok None)) where
      all-told : lines_left kind count start ≡ told.done
      all-told =
          let e = ends (is_wanted kind old.find) old.table old.rows new.last (left kind new) (left kind old)
          (answer (Ok None) answers kind are) in
          told.lines
          ∙ ap (λ l. told.done ++ flat_map occurrence_line (take (suc n) l)) e.none_wanted
          ∙ append-nil told.done

      pub told-all : given a (lines_left kind count start) b
      told-all = subst (λ l. given a l b) (sym all-told) told.given

      pub none-due-then : due_left kind count start ≡ None
      none-due-then =
          let e = ends (is_wanted kind old.find) old.table old.rows new.last (left kind new) (left kind old)
          (answer (Ok None) answers kind are) in
          told.due ∙ e.none_due (suc n)

    -- a refusal
    pub refused-then : (l : WordLimit) → Answers old new (Err l) → IsDue (due_left kind count start) (of_limit l)
    refused-then l answers =
        subst (λ o. IsDue o (of_limit l)) (sym told.due)
        (stops (is_wanted kind old.find) old.table old.rows new.last (left kind new) l (left kind old)
        (answer (Err l) answers kind are) n)

-- nothing was told yet
pub told-none : {S : Type 0} {given : S → List ℕ → S → Type 0} (joins : TextsJoin given) (a : S) (kind : ℕ → Kind)
    (g : Going) (count : ℕ) → HasTold (λ done. given a done a) kind g count g (count - 0)
told-none joins a kind g count =
    let e : count - 0 ≡ count = omega arith in record {
      done = [];
      given = joins.none a;
      lines = ap (λ n. lines_left kind n g) (sym e);
      due = ap (λ n. due_left kind n g) (sym e);
    }

-- so many were told
module _ {S : Type 0} (given : S → List ℕ → S → Type 0) (a b : S) (kind : ℕ → Kind) (start now : Going)
    (count at : ℕ) (at_end : count ≤ at) (told : HasTold (λ done. given a done b) kind start count now (count - at))
  where
    pub told-to_end : given a (lines_left kind count start) b
    told-to_end =
        let none : count - at ≡ 0 = omega (arith, at_end) in
        subst (λ l. given a l b)
        (sym (told.lines ∙ ap (λ n. told.done ++ lines_left kind n now) none ∙ append-nil told.done)) told.given

    pub none-due-to_end : due_left kind count start ≡ None
    none-due-to_end =
        let none : count - at ≡ 0 = omega (arith, at_end) in
        told.due ∙ ap (λ n. due_left kind n now) none
        ∙ ap words_due (entered-none (is_wanted kind now.find) (left kind now))

-- the number that is left, at one before the end
pub one-left : (gives : List ℕ → Type 0) (kind : ℕ → Kind) (start now : Going) (count at : ℕ) → at < count
    → HasTold gives kind start count now (count - at) → HasTold gives kind start count now (suc (count - (at + 1)))
one-left gives kind start now count at lt told =
    let e : count - at ≡ suc (count - (at + 1)) = omega (arith, lt) in
    subst (λ n. HasTold gives kind start count now n) e told

-- ---- at the beginning everything is left
module _ (table : List (List Pair)) (rows : List Row) (root : UseOf) (asked : Option Kind) (g : Going)
    (of : IsOf g table rows asked None) (begins : BeginsAt table rows root asked None g) (kind : ℕ → Kind)
    (are : HaveKinds rows kind) (count : ℕ) where
  abbrev all-entered : List Occurrence
  all-entered = entered kind asked None (own_context (use_in table rows root)) (use_in table rows root).tree

  pub lines-begin : WalkIsEntered → lines_left kind count g ≡ walk_text kind asked count (use_in table rows root)
  lines-begin law =
      (λ i. flat_map occurrence_line (take count (filter (is_wanted kind (of.find_is i)) (begins kind are i))))
      ∙ ap (λ l. flat_map occurrence_line (take count l))
      (sym (law kind asked None (own_context (use_in table rows root)) (use_in table rows root).tree))

  pub due-begin : due_left kind count g ≡ walk_due kind asked count (use_in table rows root)
  due-begin = λ i. words_due (entered_to (is_wanted kind (of.find_is i)) count (begins kind are i))

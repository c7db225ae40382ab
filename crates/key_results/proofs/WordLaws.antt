-- Words by their numbers: what a reading gives, and products otherwise bracketed.
use Rattle.std.proofs.Common.{arith, ◌≡◌, ◌∙◌, ℕ, List, [], ap, subst}
use Rattle.std.specs.Prelude.{IfOk, IfErr, Result, Ok, Err}
use Rattle.std.proofs.lemmas.Result.{IfOk-weaker}
use Rattle.location_words.specs.declared.pair.Pair.{Pair}
use Rattle.location_words.specs.declared.fault.WordFault.{WordFault}
use Rattle.location_words.specs.Pairs.{IsWord, mul}
use Rattle.location_words.specs.Faults.{fault_of, IsDueFault}
use Rattle.location_words.specs.Tables.{IsTable}
use Rattle.location_words.specs.Laws.{WordsAreAGroup}
use Rattle.key_results.specs.declared.words.Mover.{Mover}
use Rattle.key_results.specs.Words.{ReadsWords, GrowsTo, IsNumberOf, IsDueAt, moved_word}

-- what reads a table reads the one that it grew from
pub reads-old : (old new : List (List Pair)) (word : ℕ → List Pair) → GrowsTo old new → ReadsWords word new →
    ReadsWords word old
reads-old old new word g r = record { words = r.words; held = λ i w e. r.held i w (g.kept i w e) }

pub reads-zero : (table : List (List Pair)) (word : ℕ → List Pair) → IsTable table → ReadsWords word table → word 0 ≡ []
reads-zero table word t r = r.held 0 [] t.identity

-- the same number, of a word that is made otherwise
pub number-as : (table : List (List Pair)) (k : ℕ) (f g : (ℕ → List Pair) → List Pair) →
    ((word : ℕ → List Pair) → ReadsWords word table → f word ≡ g word) → IsNumberOf table k f → IsNumberOf table k g
number-as table k f g e h = (h.0, λ word r. h.1 word r ∙ e word r)

pub numbers-as : {E : Type 0} (table : List (List Pair)) (A : Type 0) (number : A → ℕ)
    (f g : (ℕ → List Pair) → List Pair) (r : Result A E) →
    ((word : ℕ → List Pair) → ReadsWords word table → f word ≡ g word) →
    IfOk r (λ k. IsNumberOf table (number k) f) → IfOk r (λ k. IsNumberOf table (number k) g)
numbers-as table A number f g r e h =
    IfOk-weaker r (λ k. IsNumberOf table (number k) f) (λ k. IsNumberOf table (number k) g)
    (λ k. number-as table (number k) f g e) h

pub faults-as : {A : Type 0} (table : List (List Pair)) (f g : (ℕ → List Pair) → List Pair) (r : Result A WordFault) →
    ((word : ℕ → List Pair) → ReadsWords word table → f word ≡ g word) → IfErr r (IsDueAt table f) →
    IfErr r (IsDueAt table g)
faults-as table f g (Ok x) e h = h
faults-as table f g (Err fault) e h = λ word r. subst (λ w. IsDueFault (fault_of w) fault) (e word r) (h word r)

-- a fault that is due of a word is due in each reading, and want of memory is always
pub due-here : (table : List (List Pair)) (made : (ℕ → List Pair) → List Pair) (w : List Pair) (fault : WordFault) →
    ((word : ℕ → List Pair) → ReadsWords word table → w ≡ made word) → IsDueFault (fault_of w) fault →
    IsDueAt table made fault
due-here table made w fault e h word r = subst (λ v. IsDueFault (fault_of v) fault) (e word r) h

-- under a mover that moves nothing
module _ (group : WordsAreAGroup) (table : List (List Pair)) (is_table : IsTable table) (m : Mover)
    (back : m.back.0 ≡ 0) (by : m.by.0 ≡ 0)
    (word : ℕ → List Pair) (reads : ReadsWords word table) where
  idle : (n : ℕ) → n ≡ 0 → (w : List Pair) → IsWord w → mul (word n) w ≡ w
  idle n e w h =
      ap (λ k. mul (word k) w) e ∙ ap (λ v. mul v w) (reads-zero table word is_table reads) ∙ group.identity_outer w h

  pub idle-word : (own : ℕ) → moved_word word m own ≡ word own
  idle-word own =
      ap (λ w. mul (word m.back.0) w) (idle m.by.0 by (word own) (reads.words own)) ∙
      idle m.back.0 back (word own) (reads.words own)

pub moved-inner : (group : WordsAreAGroup) (word : ℕ → List Pair) (m : Mover) (own : ℕ) (w : List Pair) →
    mul (word m.back.0) (mul (word m.by.0) (mul (word own) w)) ≡ mul (moved_word word m own) w
moved-inner group word m own w =
    ap (mul (word m.back.0)) (group.associative (word m.by.0) (word own) w) ∙
    group.associative (word m.back.0) (mul (word m.by.0) (word own)) w

-- a table that has grown twice has grown
pub grows-on : (a b d : List (List Pair)) → GrowsTo a b → GrowsTo b d → GrowsTo a d
grows-on a b d g h = record {
  grows = (let p = g.grows in let q = h.grows in omega (arith, p, q));
  kept = λ i w e. h.kept i w (g.kept i w e);
  table = h.table;
}

pub grows-none : (a : List (List Pair)) → IsTable a → GrowsTo a a
grows-none a t = record { grows = omega arith; kept = λ i w e. e; table = t }

-- Link by link: the joined results of what the visits of a key ask for.
use Rattle.std.proofs.Common.{◌≡◌, ◌≤◌, ◌<◌, ◌+◌, ℕ, true, List, map, ◌++◌, All, Contains, length, take}
use Rattle.std.proofs.Common.{arith, sym, ◌∙◌, ap, subst, slice_get, slice_index_or, Some}
use Rattle.std.proofs.lemmas.List.{take_all}
use Rattle.std.proofs.lemmas.List.Elements.{All-weaker}
use Rattle.std.proofs.lemmas.Option.{slice_get-get_or}
use Rattle.lists.proofs.Places.{Contains-at}
use Rattle.orientation.specs.declared.turn.Turn.TheVariants.{Forward}
use Rattle.location_words.specs.declared.pair.Pair.{Pair}
use Rattle.expansion_laws.specs.Trees.{Tree, Use}
use Rattle.key_results.specs.declared.derive.Link.{Link}
use Rattle.key_results.specs.declared.fault.ApplyFault.{ApplyFault}
use Rattle.key_results.specs.declared.parts.Part.{Part}
use Rattle.key_results.specs.declared.parts.Outgrowth.{Outgrowth}
use Rattle.key_results.specs.declared.words.Mover.{Mover}
use Rattle.key_results.specs.Words.{IsHeldMover}
use Rattle.key_results.specs.Faults.{IsDueAmong}
use Rattle.key_results.specs.Derivations.{linked}
use Rattle.key_results.specs.Parts.{words_of, results_by, joined_parts, is_own_at}
use Rattle.key_results.specs.Parts.{IsHeldPart, AreHeldParts, AreOfOwn, ArePartsOfOwn}
use Rattle.key_results.proofs.OwnerLaws.{own-at, owners-at}
use Rattle.key_results.proofs.PartLaws.{parts-next}
use Rattle.key_results.proofs.PartTurns.{due-link, parts-before}

pub mover-wider : (n k : ℕ) (m : Mover) → n ≤ k → IsHeldMover n m → IsHeldMover k m
mover-wider n k m le h = (let a = h.0 in omega (arith, a, le), let b = h.1 in omega (arith, b, le))

-- what holds of each thing of a list holds of that at a place of a slice of it
pub at-item : {X : Type 0} (P : X → Type 0) (xs items : List X) (i : ℕ) (d : X) → xs ≡ items → i < length xs →
    All P items →
    P (slice_index_or xs i d)
at-item P xs items i d e lt all = subst (All P) (sym e) all i d lt

-- what a place past a list is read as
abbrev pub no_link : Link
no_link = record { turn = Forward; place = record { 0 = 0 }; key = 0 }

-- a thing that is read at a place stands there
pub read-at : {X : Type 0} (xs : List X) (i : ℕ) (x : X) → i < length xs → x ≡ slice_index_or xs i x →
    slice_get xs i ≡ Some x
read-at xs i x lt e = slice_get-get_or xs i x lt ∙ ap Some (sym e)

-- what came of the key at a place
module _ (n : ℕ) (outgrowths : List Outgrowth) (held : AreHeldParts n outgrowths) (owners : AreOfOwn outgrowths) (k : ℕ)
    (o : Outgrowth)
    (at : slice_get outgrowths k ≡ Some o) where
  pub key-placed : (m : ℕ) → n ≤ m → All (λ (p : Part). p.place.0 < m) o.parts.items
  key-placed m le =
      All-weaker (IsHeldPart k n) (λ (p : Part). p.place.0 < m) (λ p h. let a = h.1 in omega (arith, a, le))
      o.parts.items (held k o at)

  pub key-before : (j : ℕ) → k < j → All (λ (p : Part). p.of < j) o.parts.items
  key-before j before = parts-before k j n o.parts.items before (held k o at)

  pub key-own : o.own ≡ true → is_own_at outgrowths k ≡ true
  key-own = own-at outgrowths k o at

  pub key-owners : ArePartsOfOwn outgrowths o.parts.items
  key-owners = owners-at outgrowths k o at owners

module _ (word : ℕ → List Pair) (own : ℕ → Tree) (m : Mover) (outgrowths : List Outgrowth) (links xs : List Link)
    (i : ℕ) (d : Link)
    (o : Outgrowth) (e : xs ≡ links) where
  pub joined-turn : (before after : List Use) → i < length xs →
      slice_get outgrowths (slice_index_or xs i d).key ≡ Some o →
      after ≡ before ++ map (linked word m (slice_index_or xs i d))
      (results_by word own (slice_index_or xs i d).key o) →
      before ≡ joined_parts word own m outgrowths (take i links) →
      after ≡ joined_parts word own m outgrowths (take (i + 1) links)
  joined-turn before after lt at =
      parts-next word own m outgrowths links i (slice_index_or xs i d) o before after
      (subst (λ zs. slice_get zs i ≡ Some (slice_index_or xs i d)) e (slice_get-get_or xs i d lt)) at

  pub due-link-turn : (fault : ApplyFault) → i < length xs → slice_get outgrowths (slice_index_or xs i d).key ≡ Some o →
      IsDueAmong
      (Contains
      (words_of (map (linked word m (slice_index_or xs i d)) (results_by word own (slice_index_or xs i d).key o))))
      fault →
      IsDueAmong (Contains (words_of (joined_parts word own m outgrowths links))) fault
  due-link-turn fault lt at =
      due-link word own m outgrowths links (slice_index_or xs i d) o fault
      (subst (λ zs. Contains zs (slice_index_or xs i d)) e
      (Contains-at xs i (slice_index_or xs i d) (slice_get-get_or xs i d lt))) at

-- all links are gone through
pub joined-all : (word : ℕ → List Pair) (own : ℕ → Tree) (m : Mover) (outgrowths : List Outgrowth)
    (links xs : List Link) (i : ℕ) (parts : List Use) →
    xs ≡ links → length xs ≤ i → parts ≡ joined_parts word own m outgrowths (take i links) →
    parts ≡ joined_parts word own m outgrowths links
joined-all word own m outgrowths links xs i parts e past h =
    h ∙ ap (joined_parts word own m outgrowths) (take_all i links (subst (λ (zs : List Link). length zs ≤ i) e past))

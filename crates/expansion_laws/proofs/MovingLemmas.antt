-- Uses of plain trees, one after another.
use Rattle.std.proofs.Common.{◌≡◌, ◌<◌, ◌≤◌, ◌+◌, refl, sym, ◌∙◌, ap, subst, slice_index_or, take, drop}
use Rattle.std.proofs.lemmas.List.{map-append}
use Rattle.std.specs.Prelude.{ℕ, Bool, true, false, if◌then◌else◌, Option, None}
use Rattle.std.specs.Prelude.{Some, List, [], ◌∷◌, ◌++◌, map, length, filter}
use Rattle.std.specs.List.{last_or}
use Rattle.lists.proofs.Places.{map-place, split-at, take-at, take-map-all}
use Rattle.lists.proofs.Cases.{by_test}
use Rattle.location_words.specs.declared.pair.Pair.{Pair}
use Rattle.location_words.specs.Pairs.{mul}
use Rattle.location_words.specs.Faults.{fault_of}
use Rattle.orientation.specs.declared.turn.Turn.{Turn}
use Rattle.expansion_laws.specs.declared.fault.ExpandFault.{ExpandFault}
use Rattle.expansion_laws.specs.declared.plain.Tree.{Tree as PlainTree, out-Tree}
use Rattle.expansion_laws.specs.declared.plain.TreeUse.{TreeUse}
use Rattle.expansion_laws.specs.Trees.{Tree, Use, uses}
use Rattle.expansion_laws.specs.Contexts.{Context, carried}
use Rattle.expansion_laws.specs.Requests.{Request, fits, match_of}
use Rattle.orientation.specs.Kinds.{kind_eq}
use Rattle.expansion_laws.specs.Steps.{Step, kind}
use Rattle.expansion_laws.specs.Plain.{shown_tree, shown_use}
use Rattle.expansion_laws.specs.SlowParts.{Pass, Fail, IsDueWord, words_of, under}
use Rattle.expansion_laws.specs.SlowRewriting.{later_words}
use Rattle.expansion_laws.proofs.Subtrees.{list_of-uses_of}
use Rattle.expansion_laws.proofs.PlainLemmas.{tree-out}
use Rattle.expansion_laws.proofs.SlowLemmas.{Pass-push, Fail-at}

-- the uses of a plain tree's tree
pub uses-out : (x : PlainTree) → uses (shown_tree x) ≡ map shown_use (out-Tree x).uses.items
uses-out x = ap uses (tree-out x) ∙ list_of-uses_of (map shown_use (out-Tree x).uses.items)

-- ---- uses shown one after another
module _ {X Y : Type 0} (show : Y → Use) (given : X → Use) (move : Use → Use) where
  pub moved-more : (made new : List Y) (y : Y) (xs : List X) (i : ℕ) (x : X) → i < length xs →
      x ≡ slice_index_or xs i x → new ≡ made ++ y ∷ [] → show y ≡ move (given x) →
      map show made ≡ map move (take i (map given xs)) → map show new ≡ map move (take (i + 1) (map given xs))
  moved-more made new y xs i x lt at e f h =
      ap (map show) e ∙ map-append show made (y ∷ []) ∙ (λ j. h j ++ f j ∷ [])
      ∙ sym (map-append move (take i (map given xs)) (given x ∷ []))
      ∙ ap (map move) (sym (take-at (map given xs) i (given x) (map-place given xs i x lt at)))

  pub moved-all : (made : List Y) (xs : List X) (i : ℕ) → length xs ≤ i →
      map show made ≡ map move (take i (map given xs)) → map show made ≡ map move (map given xs)
  moved-all made xs i le h = h ∙ ap (map move) (take-map-all given xs i le)

pub map-same : {X : Type 0} (xs : List X) → map (λ x. x) xs ≡ xs
map-same [] = refl
map-same (x ∷ xs) = ap (λ l. x ∷ l) (map-same xs)

pub passed-all : (t : Turn) (w : List Pair) (xs : List TreeUse) (i : ℕ) → length xs ≤ i →
    Pass (words_of (map (carried t w) (take i (map shown_use xs)))) →
    Pass (words_of (map (carried t w) (map shown_use xs)))
passed-all t w xs i le h = subst (λ us. Pass (words_of (map (carried t w) us))) (take-map-all shown_use xs i le) h

-- ---- words of carried uses
module _ (t : Turn) (w : List Pair) (xs : List TreeUse) (i : ℕ) (x : TreeUse) (lt : i < length xs)
    (at : x ≡ slice_index_or xs i x) where
  -- the words up to this use, and the word of this one
  abbrev so_far : List (List Pair)
  so_far = words_of (map (carried t w) (take i (map shown_use xs)))

  pub passed-more : Pass so_far → fault_of (mul w (shown_use x).word) ≡ None →
      Pass (words_of (map (carried t w) (take (i + 1) (map shown_use xs))))
  passed-more h e =
      subst Pass
      (sym (ap (λ us. words_of (map (carried t w) us))
      (take-at (map shown_use xs) i (shown_use x) (map-place shown_use xs i x lt at))
      ∙ ap words_of (map-append (carried t w) (take i (map shown_use xs)) (shown_use x ∷ []))
      ∙ map-append (λ (u : Use). u.word) (map (carried t w) (take i (map shown_use xs)))
      (carried t w (shown_use x) ∷ [])))
      (Pass-push so_far (mul w (shown_use x).word) h e)

  pub failed-now : (f : ExpandFault) → Pass so_far → IsDueWord (fault_of (mul w (shown_use x).word)) f →
      Fail (words_of (map (carried t w) (map shown_use xs))) f
  failed-now f h e =
      subst (λ ws. Fail ws f)
      (sym (ap (λ us. words_of (map (carried t w) us))
      (split-at (map shown_use xs) i (shown_use x) (map-place shown_use xs i x lt at))
      ∙
      ap words_of (map-append (carried t w) (take i (map shown_use xs)) (shown_use x ∷ drop (i + 1) (map shown_use xs)))
      ∙ map-append (λ (u : Use). u.word) (map (carried t w) (take i (map shown_use xs)))
      (map (carried t w) (shown_use x ∷ drop (i + 1) (map shown_use xs)))))
      (Fail-at so_far (mul w (shown_use x).word) (words_of (map (carried t w) (drop (i + 1) (map shown_use xs)))) f h e)

-- ---- the last request that fits
last-push : (p : Request → Bool) (d : Option Request) (rs : List Request) (r : Request) →
    last_or d (filter p (rs ++ r ∷ [])) ≡ (if p r then Some r else last_or d (filter p rs))
last-push p d [] r = by_test (p r) (λ e. rw e refl) (λ e. rw e refl)
last-push p d (q ∷ rs) r = by_test (p q) (λ e. rw e (last-push p (Some q) rs r)) (λ e. rw e (last-push p d rs r))

module _ {X : Type 0} (show : X → Request) (x : Tree) (here : Context) (rs : List X) (i : ℕ) (r : X)
    (lt : i < length rs) (at : r ≡ slice_index_or rs i r) where
  match-more : match_of (take (i + 1) (map show rs)) x here ≡
      (if fits x here (show r) then Some (show r) else match_of (take i (map show rs)) x here)
  match-more =
      ap (λ l. match_of l x here) (take-at (map show rs) i (show r) (map-place show rs i r lt at))
      ∙ last-push (fits x here) None (take i (map show rs)) (show r)

  pub match-fits : true ≡ fits x here (show r) → Some (show r) ≡ match_of (take (i + 1) (map show rs)) x here
  match-fits e =
      sym (match-more ∙ ap (λ b. if b then Some (show r) else match_of (take i (map show rs)) x here) (sym e))

  pub match-other : (found : Option Request) → false ≡ fits x here (show r) →
      found ≡ match_of (take i (map show rs)) x here → found ≡ match_of (take (i + 1) (map show rs)) x here
  match-other found e h =
      h ∙ sym (match-more ∙ ap (λ b. if b then Some (show r) else match_of (take i (map show rs)) x here) (sym e))

-- ---- the words that are tested where the kinds differ
pub later-differ : (s : Step) (source : Tree) (new : Use) → kind_eq (kind s source) (kind s new.tree) ≡ false →
    words_of (under new) ≡ later_words s source new
later-differ s source new e = sym (ap (λ b. if b then [] else words_of (if b then new ∷ [] else under new)) e)

-- The use of a key's own node.
use Rattle.std.proofs.Common.{◌≡◌, ◌∙◌, ◌++◌, ◌∷◌, [], ℕ, true, false, List, map, sym, ap, subst, take, length, ◌≤◌}
use Rattle.std.specs.Prelude.{Result, Ok, Err, OnOk, IfErr, IfOk}
use Rattle.std.proofs.lemmas.Result.{IfOk-weaker}
use Rattle.std.proofs.lemmas.List.{append-nil, take_all}
use Rattle.orientation.specs.declared.turn.Turn.TheVariants.{Forward}
use Rattle.location_words.specs.declared.pair.Pair.{Pair}
use Rattle.expansion_laws.specs.Trees.{Tree, Use, a_single}
use Rattle.expansion_laws.specs.Contexts.{bare}
use Rattle.key_results.specs.declared.derive.Link.{Link}
use Rattle.key_results.specs.declared.parts.Part.{Part}
use Rattle.key_results.specs.declared.parts.Outgrowth.{Outgrowth}
use Rattle.key_results.specs.declared.words.Mover.{Mover}
use Rattle.key_results.specs.Derivations.{linked}
use Rattle.key_results.specs.Parts.{use_of_part, results_by}
use Rattle.key_results.specs.declared.fault.ApplyFault.{ApplyFault}
use Rattle.location_words.specs.Pairs.{mul}
use Rattle.location_words.specs.Faults.{fault_of}
use Rattle.lists.proofs.Places.{Contains-at}
use Rattle.std.proofs.lemmas.Option.{slice_get-get_or}
use Rattle.std.proofs.Common.{◌<◌, ◌+◌, Contains, slice_get, slice_index_or, Some}
use Rattle.key_results.specs.Words.{moved_word}
use Rattle.key_results.specs.Faults.{IsDueOfWord, IsDueAmong}
use Rattle.key_results.specs.Parts.{words_of}
use Rattle.key_results.proofs.PartLaws.{carried-next}
use Rattle.key_results.proofs.PartTurns.{by-own, by-parts, due-part}

pub ok-so : {T E : Type 0} {P Q : Type 0} (r : Result T E) → (P → Q) → OnOk r P → OnOk r Q
ok-so {P = P} {Q = Q} r f h = IfOk-weaker r (λ _. P) (λ _. Q) (λ _ p. f p) h

pub ok-all : {T E : Type 0} (P : T → Type 0) (r : Result T E) → ((x : T) → P x) → IfOk r P
ok-all P (Ok x) f = f x
ok-all P (Err e) f = tt

own-use : (word : ℕ → List Pair) (own : ℕ → Tree) (k : ℕ) (p : Part) → p.turn ≡ Forward → p.place.0 ≡ 0 → p.of ≡ k →
    word 0 ≡ [] →
    use_of_part word own p ≡ bare (own k)
own-use word own k p t z o none = λ i. a_single (t i) ((ap word z ∙ none) i) (own (o i))

-- it is the one result of such a key
pub added-own : (word : ℕ → List Pair) (own : ℕ → Tree) (m : Mover) (l : Link) (k : ℕ) (o : Outgrowth) (p : Part)
    (before after : List Use) → o.own ≡ true →
    p.turn ≡ Forward → p.place.0 ≡ 0 → p.of ≡ k → word 0 ≡ [] →
    after ≡ before ++ linked word m l (use_of_part word own p) ∷ [] →
    after ≡ before ++ map (linked word m l) (results_by word own k o)
added-own word own m l k o p before after is t z of none e =
    e ∙ ap (λ u. before ++ linked word m l u ∷ []) (own-use word own k p t z of none) ∙
    ap (λ us. before ++ map (linked word m l) us) (sym (by-own word own k o is))

-- and of another key all parts are
pub added-all : (word : ℕ → List Pair) (own : ℕ → Tree) (m : Mover) (l : Link) (k i : ℕ) (o : Outgrowth)
    (before after : List Use) → o.own ≡ false →
    length o.parts.items ≤ i → after ≡ before ++ map (linked word m l)
    (map (use_of_part word own) (take i o.parts.items)) →
    after ≡ before ++ map (linked word m l) (results_by word own k o)
added-all word own m l k i o before after is le e =
    e ∙ ap (λ ps. before ++ map (linked word m l) (map (use_of_part word own) ps)) (take_all i o.parts.items le) ∙
    ap (λ us. before ++ map (linked word m l) us) (sym (by-parts word own k o is))

pub added-none : (word : ℕ → List Pair) (own : ℕ → Tree) (m : Mover) (l : Link) (before : List Use) →
    before ≡ before ++ map (linked word m l) (map (use_of_part word own) [])
added-none word own m l before = sym (append-nil before)

pub err-so : {T E : Type 0} {P Q : E → Type 0} (r : Result T E) → ((e : E) → P e → Q e) → IfErr r P → IfErr r Q
err-so (Ok x) f h = h
err-so (Err e) f h = f e h

-- the part at a place of a slice is one more, or its word is past a limit
pub carried-turn : (word : ℕ → List Pair) (own : ℕ → Tree) (m : Mover) (l : Link) (first before after : List Use)
    (xs items : List Part) (i : ℕ) (d : Part) →
    xs ≡ items → i < length xs → after ≡ before ++ linked word m l (use_of_part word own (slice_index_or xs i d)) ∷ [] →
    before ≡ first ++ map (linked word m l) (map (use_of_part word own) (take i items)) →
    after ≡ first ++ map (linked word m l) (map (use_of_part word own) (take (i + 1) items))
carried-turn word own m l first before after xs items i d e lt =
    carried-next word own m l first before after items i (slice_index_or xs i d)
    (subst (λ zs. slice_get zs i ≡ Some (slice_index_or xs i d)) e (slice_get-get_or xs i d lt))

pub due-turn : (word : ℕ → List Pair) (own : ℕ → Tree) (m : Mover) (l : Link) (k : ℕ) (o : Outgrowth)
    (fault : ApplyFault) (xs : List Part) (i : ℕ) (d : Part) →
    xs ≡ o.parts.items → i < length xs → o.own ≡ false →
    IsDueOfWord (fault_of (mul (moved_word word m l.place.0) (word (slice_index_or xs i d).place.0))) fault →
    IsDueAmong (λ w. Contains (words_of (map (linked word m l) (results_by word own k o))) w) fault
due-turn word own m l k o fault xs i d e lt is =
    due-part word own m l k o fault (slice_index_or xs i d) is
    (subst (λ zs. Contains zs (slice_index_or xs i d)) e
    (Contains-at xs i (slice_index_or xs i d) (slice_get-get_or xs i d lt)))

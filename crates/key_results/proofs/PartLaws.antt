-- Parts and what comes of keys.
use Rattle.std.proofs.Common.{◌≡◌, ◌≤◌, ◌<◌, ◌+◌, ℕ, Bool, true, false, List, map, ◌++◌, ◌∷◌, [], All, length, take}
use Rattle.std.proofs.Common.{arith, sym, ◌∙◌, ap, subst, refl, slice_get, Some, if◌then◌else◌}
use Rattle.std.specs.Prelude.{◌&&◌, not}
use Rattle.std.specs.List.{flat_map}
use Rattle.std.specs.Option.{option_map_or}
use Rattle.std.proofs.lemmas.List.{append-nil, map-append, append_assoc}
use Rattle.std.proofs.lemmas.Grind.{flat_map-append}
use Rattle.std.proofs.lemmas.List.Elements.{All-push, All-weaker, All-head, All-tail}
use Rattle.lists.specs.Sameness.{is_empty}
use Rattle.lists.proofs.Places.{take-at, at_place}
use Rattle.orientation.specs.Turns.{composed}
use Rattle.location_words.specs.declared.pair.Pair.{Pair}
use Rattle.location_words.specs.Pairs.{mul}
use Rattle.expansion_laws.specs.Trees.{Tree, Use, a_single, origin, tree_of}
use Rattle.expansion_laws.specs.Contexts.{bare}
use Rattle.key_results.specs.declared.derive.Link.{Link}
use Rattle.key_results.specs.declared.derive.Visit.{Visit}
use Rattle.key_results.specs.declared.derive.Outcome.{Outcome}
use Rattle.key_results.specs.declared.derive.Outcome.TheVariants.{Stays, Rebuilt, Joined}
use Rattle.key_results.specs.declared.parts.Part.{Part}
use Rattle.key_results.specs.declared.parts.Outgrowth.{Outgrowth}
use Rattle.key_results.specs.declared.words.Mover.{Mover}
use Rattle.key_results.specs.Words.{moved_word}
use Rattle.key_results.specs.Derivations.{linked, joined_by, results_at, results_of, made_of, AreLinked}
use Rattle.key_results.specs.Parts.{use_of_part, IsHeldPart, own_at, first_tree, has_own}
use Rattle.key_results.specs.Parts.{results_by, results_in, joined_parts, IsOutgrowth}
use Rattle.key_results.proofs.ResultLaws.{results-entry}

-- a part as a link carries it
pub part-linked : (word : ℕ → List Pair) (own : ℕ → Tree) (m : Mover) (l : Link) (p moved : Part) →
    moved.turn ≡ composed l.turn p.turn →
    word moved.place.0 ≡ mul (moved_word word m l.place.0) (word p.place.0) → moved.of ≡ p.of →
    use_of_part word own moved ≡ linked word m l (use_of_part word own p)
part-linked word own m l p moved t w o = λ i. a_single (t i) (w i) (own (o i))

pub parts-push : (word : ℕ → List Pair) (own : ℕ → Tree) (before after : List Part) (p : Part) (u : Use) →
    after ≡ before ++ p ∷ [] →
    use_of_part word own p ≡ u → map (use_of_part word own) after ≡ map (use_of_part word own) before ++ u ∷ []
parts-push word own before after p u e is =
    ap (map (use_of_part word own)) e ∙ map-append (use_of_part word own) before (p ∷ []) ∙
    ap (λ v. map (use_of_part word own) before ++ v ∷ []) is

pub held-wider : (k n m : ℕ) (ps : List Part) → n ≤ m → All (IsHeldPart k n) ps → All (IsHeldPart k m) ps
held-wider k n m ps le =
    All-weaker (IsHeldPart k n) (IsHeldPart k m) (λ p h. (h.0, let a = h.1 in omega (arith, a, le))) ps

pub held-push : (k n m : ℕ) (before after : List Part) (p : Part) → after ≡ before ++ p ∷ [] → n ≤ m → p.of < k →
    p.place.0 < m →
    All (IsHeldPart k n) before → All (IsHeldPart k m) after
held-push k n m before after p e le of place h =
    subst (λ l. All (IsHeldPart k m) l) (sym e) (All-push (IsHeldPart k m) before p (held-wider k n m before le h)
    (of, place))

-- one part more of those that are carried
pub carried-next : (word : ℕ → List Pair) (own : ℕ → Tree) (m : Mover) (l : Link) (first before after : List Use)
    (from : List Part) (i : ℕ) (p : Part) →
    slice_get from i ≡ Some p → after ≡ before ++ linked word m l (use_of_part word own p) ∷ [] →
    before ≡ first ++ map (linked word m l) (map (use_of_part word own) (take i from)) →
    after ≡ first ++ map (linked word m l) (map (use_of_part word own) (take (i + 1) from))
carried-next word own m l first before after from i p at e h =
    e ∙ ap (λ us. us ++ linked word m l (use_of_part word own p) ∷ []) h ∙
    append_assoc first (map (linked word m l) (map (use_of_part word own) (take i from)))
    (linked word m l (use_of_part word own p) ∷ []) ∙
    ap (λ us. first ++ us)
    (sym (ap (λ ps. map (linked word m l) (map (use_of_part word own) ps)) (take-at from i p at) ∙
    ap (map (linked word m l)) (map-append (use_of_part word own) (take i from) (p ∷ [])) ∙
    map-append (linked word m l) (map (use_of_part word own) (take i from)) (use_of_part word own p ∷ [])))

-- one link more of those that are gone through
pub parts-next : (word : ℕ → List Pair) (own : ℕ → Tree) (m : Mover) (outgrowths : List Outgrowth) (links : List Link)
    (i : ℕ) (l : Link) (o : Outgrowth)
    (before after : List Use) → slice_get links i ≡ Some l → slice_get outgrowths l.key ≡ Some o →
    after ≡ before ++ map (linked word m l) (results_by word own l.key o) →
    before ≡ joined_parts word own m outgrowths (take i links) →
    after ≡ joined_parts word own m outgrowths (take (i + 1) links)
parts-next word own m outgrowths links i l o before after at is e h =
    let f : Link → List Use = (λ l. map (linked word m l) (results_in word own outgrowths l.key)) in
    e ∙ (λ j. h j ++ map (linked word m l) (option_map_or (results_by word own l.key) (sym is j) [])) ∙
    ap (λ us. flat_map f (take i links) ++ us) (sym (append-nil (f l))) ∙
    sym (flat_map-append f (take i links) (l ∷ [])) ∙
    ap (flat_map f) (sym (take-at links i l at))

pub is-empty-map : {X Y : Type 0} (f : X → Y) (xs : List X) → is_empty (map f xs) ≡ is_empty xs
is-empty-map f [] = refl
is-empty-map f (x ∷ xs) = refl

no-parts : (p n : Bool) (parts : List Part) → (p && not n && is_empty parts) ≡ true → parts ≡ []
no-parts p n [] e = refl
no-parts true true (u ∷ us) e = absurd cc
no-parts true false (u ∷ us) e = absurd cc
no-parts false n (u ∷ us) e = absurd cc

-- what is made of joined results, by what comes of a key
made-alone : (word : ℕ → List Pair) (own : ℕ → Tree) (k : ℕ) (o : Outgrowth) (rs : List Use) (x : Tree) →
    rs ≡ bare x ∷ [] → own k ≡ first_tree rs →
    o.own ≡ true → rs ≡ results_by word own k o
made-alone word own k o rs x e w t =
    e ∙ ap (λ y. bare y ∷ []) (sym (w ∙ ap first_tree e)) ∙
    sym (ap (λ b. if b then bare (own k) ∷ [] else map (use_of_part word own) o.parts.items) t)

made-parts : (word : ℕ → List Pair) (own : ℕ → Tree) (k : ℕ) (o : Outgrowth) (rs : List Use) →
    rs ≡ map (use_of_part word own) o.parts.items → o.own ≡ false →
    rs ≡ results_by word own k o
made-parts word own k o rs e f =
    e ∙ sym (ap (λ b. if b then bare (own k) ∷ [] else map (use_of_part word own) o.parts.items) f)

rebuilt-by : (word : ℕ → List Pair) (own : ℕ → Tree) (k : ℕ) (o : Outgrowth) (rs : List Use) (x : Tree) (b : Bool) →
    (b ≡ true → o.parts.items ≡ []) →
    rs ≡ (if b then [] else bare x ∷ []) → own k ≡ first_tree rs → o.own ≡ not b → rs ≡ results_by word own k o
rebuilt-by word own k o rs x true none e w t =
    made-parts word own k o rs (e ∙ ap (map (use_of_part word own)) (sym (none refl))) t
rebuilt-by word own k o rs x false none e w t = made-alone word own k o rs x e w t

made-by : (word : ℕ → List Pair) (own : ℕ → Tree) (k : ℕ) (o : Outgrowth) (rs parts : List Use) (x : Tree)
    (prune no_links : Bool) (outcome : Outcome) →
    rs ≡ made_of outcome prune no_links x parts → parts ≡ map (use_of_part word own) o.parts.items →
    own k ≡ first_tree rs →
    o.own ≡ has_own outcome prune no_links (is_empty o.parts.items) → rs ≡ results_by word own k o
made-by word own k o rs parts x prune no_links Stays e p w t = made-alone word own k o rs x e w t
made-by word own k o rs parts x prune no_links Joined e p w t = made-parts word own k o rs (e ∙ p) t
made-by word own k o rs parts x prune no_links Rebuilt e p w t =
    rebuilt-by word own k o rs (tree_of (origin x) parts) (prune && not no_links && is_empty o.parts.items)
    (no-parts prune no_links o.parts.items)
    (e ∙ ap (λ b. if prune && not no_links && b then [] else bare (tree_of (origin x) parts) ∷ [])
    (ap is_empty p ∙ is-empty-map (use_of_part word own) o.parts.items)) w t

module _ (word : ℕ → List Pair) (tree : ℕ → Tree) (prune : Bool) (visits : List Visit) (linked-all : AreLinked visits)
  where
    abbrev R : List (List Use)
    R = results_of word tree prune visits

    -- what comes of a visit gives its results
    pub outgrowth-gives : (k : ℕ) (v : Visit) (o : Outgrowth) → slice_get visits k ≡ Some v →
        IsOutgrowth word R prune v o →
        results_at R k ≡ results_by word (own_at R) k o
    outgrowth-gives k v o at is =
        made-by word (own_at R) k o (results_at R k) (joined_by word v.mover R v.links.items) (tree v.id.0) prune
        (is_empty v.links.items) v.outcome
        (results-entry word tree prune visits linked-all k v at) is.parts refl is.own

    -- and so do those of the visits before one, for all its links
    links-give : (m : Mover) (outgrowths : List Outgrowth) (links : List Link) →
        ((j : ℕ) → j < length outgrowths → results_in word (own_at R) outgrowths j ≡ results_at R j) →
        All (λ (l : Link). l.key < length outgrowths) links →
        joined_parts word (own_at R) m outgrowths links ≡ joined_by word m R links
    links-give m outgrowths [] same h = refl
    links-give m outgrowths (l ∷ links) same h =
        λ i. map (linked word m l) (same l.key (All-head (λ (l : Link). l.key < length outgrowths) l links h) i) ++
        links-give m outgrowths links same (All-tail (λ (l : Link). l.key < length outgrowths) l links h) i

    pub before-give : (i : ℕ) (outgrowths : List Outgrowth) → i ≤ length visits → length outgrowths ≡ i →
        ((k : ℕ) (v : Visit) (o : Outgrowth) → slice_get visits k ≡ Some v → slice_get outgrowths k ≡ Some o →
        IsOutgrowth word R prune v o) →
        (j : ℕ) → j < length outgrowths → results_in word (own_at R) outgrowths j ≡ results_at R j
    before-give i outgrowths le long each j lt =
        let v = at_place visits j (omega (arith, lt, le, long)) in
        let o = at_place outgrowths j lt in
        ap (λ q. option_map_or (results_by word (own_at R) j) q []) o.1 ∙
        sym (outgrowth-gives j v.0 o.0 v.1 (each j v.0 o.0 v.1 o.1))

    pub visit-joined : (i : ℕ) (outgrowths : List Outgrowth) (v : Visit) → i ≤ length visits → length outgrowths ≡ i →
        slice_get visits i ≡ Some v →
        ((k : ℕ) (v : Visit) (o : Outgrowth) → slice_get visits k ≡ Some v → slice_get outgrowths k ≡ Some o →
        IsOutgrowth word R prune v o) →
        joined_parts word (own_at R) v.mover outgrowths v.links.items ≡ joined_by word v.mover R v.links.items
    visit-joined i outgrowths v le long at each =
        links-give v.mover outgrowths v.links.items (before-give i outgrowths le long each)
        (subst (λ (n : ℕ). All (λ (l : Link). l.key < n) v.links.items) (sym long) (linked-all i v at))

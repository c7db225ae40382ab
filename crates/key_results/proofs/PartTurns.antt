-- Part by part, link by link and visit by visit: what comes of keys.
use Rattle.std.proofs.Common.{◌≡◌, ◌≤◌, ◌<◌, ◌+◌, ℕ, Bool, true, false, List}
use Rattle.std.proofs.Common.{map, ◌++◌, ◌∷◌, [], All, Contains, length, take}
use Rattle.std.proofs.Common.{arith, sym, ◌∙◌, ap, subst, slice_get, Some, inl, inr, if◌then◌else◌}
use Rattle.std.specs.Option.{option_map_or}
use Rattle.std.proofs.lemmas.List.{length-append}
use Rattle.std.proofs.lemmas.List.Elements.{All-weaker}
use Rattle.std.proofs.lemmas.Option.{slice_get_within}
use Rattle.lists.specs.Sameness.{is_empty}
use Rattle.lists.proofs.Places.{take-at, slice_get-push, length-take, row-taken}
use Rattle.lists.proofs.Members.{Contains-map, Contains-map_cases, Contains-flat_map, Contains-here}
use Rattle.location_words.specs.declared.pair.Pair.{Pair}
use Rattle.location_words.specs.Pairs.{mul}
use Rattle.location_words.specs.Faults.{fault_of}
use Rattle.expansion_laws.specs.Trees.{Tree, Use}
use Rattle.expansion_laws.specs.Contexts.{bare}
use Rattle.key_results.specs.declared.derive.Link.{Link}
use Rattle.key_results.specs.declared.derive.Visit.{Visit}
use Rattle.key_results.specs.declared.fault.ApplyFault.{ApplyFault}
use Rattle.key_results.specs.declared.parts.Part.{Part}
use Rattle.key_results.specs.declared.parts.Outgrowth.{Outgrowth}
use Rattle.key_results.specs.declared.words.Mover.{Mover}
use Rattle.key_results.specs.Words.{moved_word}
use Rattle.key_results.specs.Faults.{IsDueOfWord, IsDueAmong}
use Rattle.key_results.specs.Derivations.{linked, results_of, AreLinked}
use Rattle.key_results.specs.Parts.{use_of_part, words_of, results_by, results_in, joined_parts, own_at}
use Rattle.key_results.specs.Parts.{has_own, IsHeldPart, AreHeldParts, IsOutgrowth, AreOutgrowths, IsJoinedWord}
use Rattle.key_results.proofs.FaultLaws.{due-among, among-more}
use Rattle.key_results.proofs.PartLaws.{held-wider, visit-joined}

-- ---- the results of a key
pub by-parts : (word : ℕ → List Pair) (own : ℕ → Tree) (k : ℕ) (o : Outgrowth) → o.own ≡ false →
    results_by word own k o ≡ map (use_of_part word own) o.parts.items
by-parts word own k o f = ap (λ b. if b then bare (own k) ∷ [] else map (use_of_part word own) o.parts.items) f

pub by-own : (word : ℕ → List Pair) (own : ℕ → Tree) (k : ℕ) (o : Outgrowth) → o.own ≡ true →
    results_by word own k o ≡ bare (own k) ∷ []
by-own word own k o t = ap (λ b. if b then bare (own k) ∷ [] else map (use_of_part word own) o.parts.items) t

-- ---- a word that is past a limit is one of those
module _ (word : ℕ → List Pair) (own : ℕ → Tree) (m : Mover) (l : Link) (k : ℕ) (o : Outgrowth) (fault : ApplyFault)
  where
    pub due-part : (p : Part) → o.own ≡ false → Contains o.parts.items p →
        IsDueOfWord (fault_of (mul (moved_word word m l.place.0) (word p.place.0))) fault →
        IsDueAmong (Contains (words_of (map (linked word m l) (results_by word own k o)))) fault
    due-part p f c d =
        due-among (Contains (words_of (map (linked word m l) (results_by word own k o))))
        (mul (moved_word word m l.place.0) (word p.place.0)) fault
        (subst (λ us. Contains (words_of (map (linked word m l) us)) (mul (moved_word word m l.place.0) (word p.place.0)))
        (sym (by-parts word own k o f))
        (Contains-map (λ (u : Use). u.word) (linked word m l (use_of_part word own p))
        (map (linked word m l) (map (use_of_part word own) o.parts.items))
        (Contains-map (linked word m l) (use_of_part word own p) (map (use_of_part word own) o.parts.items)
        (Contains-map (use_of_part word own) p o.parts.items c)))) d

    pub due-own : (w : List Pair) → o.own ≡ true → w ≡ [] →
        IsDueOfWord (fault_of (mul (moved_word word m l.place.0) w)) fault →
        IsDueAmong (Contains (words_of (map (linked word m l) (results_by word own k o)))) fault
    due-own w t e d =
        due-among (Contains (words_of (map (linked word m l) (results_by word own k o))))
        (mul (moved_word word m l.place.0) []) fault
        (subst (λ us. Contains (words_of (map (linked word m l) us)) (mul (moved_word word m l.place.0) []))
        (sym (by-own word own k o t))
        (Contains-here (mul (moved_word word m l.place.0) []) []))
        (subst (λ v. IsDueOfWord (fault_of (mul (moved_word word m l.place.0) v)) fault) e d)

pub due-link : (word : ℕ → List Pair) (own : ℕ → Tree) (m : Mover) (outgrowths : List Outgrowth) (links : List Link)
    (l : Link) (o : Outgrowth) (fault : ApplyFault) →
    Contains links l → slice_get outgrowths l.key ≡ Some o →
    IsDueAmong (Contains (words_of (map (linked word m l) (results_by word own l.key o)))) fault →
    IsDueAmong (Contains (words_of (joined_parts word own m outgrowths links))) fault
due-link word own m outgrowths links l o fault c at =
    among-more (Contains (words_of (map (linked word m l) (results_by word own l.key o))))
    (Contains (words_of (joined_parts word own m outgrowths links))) fault
    (λ w h.
    let u = Contains-map_cases (λ (u : Use). u.word) w (map (linked word m l) (results_by word own l.key o)) h in
    subst (Contains (words_of (joined_parts word own m outgrowths links))) u.2
    (Contains-map (λ (u : Use). u.word) u.0 (joined_parts word own m outgrowths links)
    (Contains-flat_map (λ (l : Link). map (linked word m l) (results_in word own outgrowths l.key)) l u.0 links c
    (subst (λ us. Contains (map (linked word m l) us) u.0)
    (sym (ap (λ q. option_map_or (results_by word own l.key) q []) at)) u.1))))

-- ---- one visit more
pub outgrowths-next : (word : ℕ → List Pair) (R : List (List Use)) (prune : Bool) (visits : List Visit) (i : ℕ)
    (v : Visit) (outgrowths new : List Outgrowth) (o : Outgrowth) →
    i ≤ length visits → slice_get visits i ≡ Some v → new ≡ outgrowths ++ o ∷ [] →
    AreOutgrowths word R prune (take i visits) outgrowths →
    IsOutgrowth word R prune v o → AreOutgrowths word R prune (take (i + 1) visits) new
outgrowths-next word R prune visits i v outgrowths new o le at e before is =
    let took = take-at visits i v at in
    let long = length-take i visits le in
    let first = before.long in
    record {
      long = ap length e ∙ length-append outgrowths (o ∷ []) ∙ (λ j. first j + 1) ∙
          sym (length-append (take i visits) (v ∷ [])) ∙ sym (ap length took);
      each = λ k w q a b.
          elim (slice_get-push outgrowths o q k (sym (ap (λ l. slice_get l k) e) ∙ b)) [
            | inl c ↦ (elim (slice_get-push (take i visits) v w k (sym (ap (λ l. slice_get l k) took) ∙ a)) [
              | inl d ↦ before.each k w q d c
              | inr d ↦ (let lt = slice_get_within outgrowths k q c in let same = d.0 in
                  absurd (omega (arith, lt, same, first)))
            ])
            | inr c ↦ (elim (slice_get-push (take i visits) v w k (sym (ap (λ l. slice_get l k) took) ∙ a)) [
              | inl d ↦ (let lt = slice_get_within (take i visits) k w d in let same = c.0 in
                  absurd (omega (arith, lt, same, first)))
              | inr d ↦ subst (λ z. IsOutgrowth word R prune z q) d.1 (subst (IsOutgrowth word R prune v) c.1 is)
            ])
          ];
    }

pub held-next : (n m : ℕ) (outgrowths new : List Outgrowth) (o : Outgrowth) → new ≡ outgrowths ++ o ∷ [] → n ≤ m →
    AreHeldParts n outgrowths →
    All (IsHeldPart (length outgrowths) m) o.parts.items → AreHeldParts m new
held-next n m outgrowths new o e le before h k q b =
    elim (slice_get-push outgrowths o q k (sym (ap (λ l. slice_get l k) e) ∙ b)) [
      | inl c ↦ held-wider k n m q.parts.items le (before k q c)
      | inr c ↦ subst (λ j. All (IsHeldPart j m) q.parts.items) (sym c.0)
          (subst (λ z. All (IsHeldPart (length outgrowths) m) z.parts.items) c.1 h)
    ]

-- parts of keys before one that comes before another
pub parts-before : (k j n : ℕ) (ps : List Part) → k < j → All (IsHeldPart k n) ps → All (λ (p : Part). p.of < j) ps
parts-before k j n ps lt = All-weaker (IsHeldPart k n) (λ p. p.of < j) (λ p h. let a = h.0 in omega (arith, a, lt)) ps

pub parts-placed : (k n : ℕ) (ps : List Part) → All (IsHeldPart k n) ps → All (λ (p : Part). p.place.0 < n) ps
parts-placed k n ps = All-weaker (IsHeldPart k n) (λ p. p.place.0 < n) (λ p h. h.1) ps

-- what comes of the visit after those that something has come of
pub visit-grows : (word : ℕ → List Pair) (tree : ℕ → Tree) (prune : Bool) (visits : List Visit)
    (linked-all : AreLinked visits) (i : ℕ) (v : Visit)
    (outgrowths : List Outgrowth) (o : Outgrowth) → i ≤ length visits → slice_get visits i ≡ Some v →
    AreOutgrowths word (results_of word tree prune visits) prune (take i visits) outgrowths →
    map (use_of_part word (own_at (results_of word tree prune visits))) o.parts.items ≡
    joined_parts word (own_at (results_of word tree prune visits)) v.mover outgrowths v.links.items →
    o.own ≡ has_own v.outcome prune (is_empty v.links.items) (is_empty o.parts.items) →
    IsOutgrowth word (results_of word tree prune visits) prune v o
visit-grows word tree prune visits linked-all i v outgrowths o le at before e own =
    let long : length outgrowths ≡ i = before.long ∙ length-take i visits le in
    record {
      parts = sym (e ∙ visit-joined word tree prune visits linked-all i outgrowths v le long at
          (λ k w q a b.
          before.each k w q (row-taken visits i k w a (let lt = slice_get_within outgrowths k q b in
          omega (arith, lt, long))) b));
      own = own;
    }

-- a word of what links lead to is one of some visit's
pub due-visit : (word : ℕ → List Pair) (tree : ℕ → Tree) (prune : Bool) (visits : List Visit)
    (linked-all : AreLinked visits) (i : ℕ) (v : Visit)
    (outgrowths : List Outgrowth) (fault : ApplyFault) → i ≤ length visits → slice_get visits i ≡ Some v →
    Contains visits v →
    AreOutgrowths word (results_of word tree prune visits) prune (take i visits) outgrowths →
    IsDueAmong
    (Contains
    (words_of (joined_parts word (own_at (results_of word tree prune visits)) v.mover outgrowths v.links.items)))
    fault →
    IsDueAmong (IsJoinedWord word (results_of word tree prune visits) visits) fault
due-visit word tree prune visits linked-all i v outgrowths fault le at c before =
    let R = results_of word tree prune visits in
    let long : length outgrowths ≡ i = before.long ∙ length-take i visits le in
    let same = visit-joined word tree prune visits linked-all i outgrowths v le long at
    (λ k w q a b.
    before.each k w q (row-taken visits i k w a (let lt = slice_get_within outgrowths k q b in
    omega (arith, lt, long))) b) in
    among-more (Contains (words_of (joined_parts word (own_at R) v.mover outgrowths v.links.items)))
    (IsJoinedWord word R visits) fault
    (λ w h. (v, c, subst (λ us. Contains (words_of us) w) same h))

-- What a command asks after steps that change trees alike: for each tree the same.
use Rattle.std.proofs.Common.{◌≡◌, ◌∙◌, refl, sym, ap, subst, inl, inr, append_assoc, append-nil}
use Rattle.std.specs.Prelude.{◌↔◌, ◌&&◌, ℕ, true, false, List, [], ◌∷◌, ◌++◌, Contains, map}
use Rattle.std.specs.List.{flat_map, list_any}
use Rattle.std.proofs.lemmas.List.Elements.{filter-append}
use Rattle.lists.specs.Distinct.{IsDistinct}
use Rattle.lists.proofs.Cases.{by_test}
use Rattle.lists.proofs.Members.{Contains-here, Contains-there, Contains-cases, Contains-none}
use Rattle.lists.proofs.Tests.{list_any-contains, list_any-found}
use Rattle.orientation.specs.Turns.{turn_eq}
use Rattle.orientation.specs.declared.turn.Turn.{Turn}
use Rattle.orientation.specs.declared.turn.Turn.TheVariants.{Forward}
use Rattle.expansion_laws.specs.Trees.{Tree}
use Rattle.expansion_laws.specs.Equality.{tree_eq}
use Rattle.expansion_laws.specs.Requests.{Act, Request, is_for, remove, replace, requests_for}
use Rattle.brep_file.specs.declared.file.File.{File}
use Rattle.script_text.specs.declared.command.Command.{Command}
use Rattle.script_text.specs.declared.command.Command.TheVariants as commands
use Rattle.script_text.specs.declared.command.Sel.{Sel}
use Rattle.script_text.specs.declared.command.SignedName.{SignedName}
use Rattle.sewing.specs.AsTrees.{TurnedTree, asked_of_tree, asked_of_trees, exchange_of}
use Rattle.step_history.specs.Composition.{Done}
use Rattle.script_requests.specs.Asking.{AreMembersOf, Asks, AsksToJoin, CanMerge, CanSew}
use Rattle.script_requests.specs.Asking.{request_for, target_use, under, under_no_sign}
use Rattle.script_requests.specs.Names.{AreTreesOf}
use Rattle.run_laws.proofs.NamesAlike.{AllDoneAlike, all-done-back, one-tree, same-trees}
use Rattle.run_laws.proofs.StepsAlike.{AskAlike}

-- the test of two trees tells whether they are one
abbrev pub TreesTell : Type 0
TreesTell = (x y : Tree) → (tree_eq x y ≡ true) ↔ (x ≡ y)

flat_map-append : {X Y : Type 0} (h : X → List Y) (xs ys : List X) →
    flat_map h (xs ++ ys) ≡ flat_map h xs ++ flat_map h ys
flat_map-append h [] ys = refl
flat_map-append h (x ∷ xs) ys =
    ap (λ l. h x ++ l) (flat_map-append h xs ys) ∙ sym (append_assoc (h x) (flat_map h xs) (flat_map h ys))

flat_map-map : {X Y Z : Type 0} (g : X → Y) (h : Y → List Z) (xs : List X) →
    flat_map h (map g xs) ≡ flat_map (λ x. h (g x)) xs
flat_map-map g h [] = refl
flat_map-map g h (x ∷ xs) = ap (λ l. h (g x) ++ l) (flat_map-map g h xs)

map-flat : {X Y : Type 0} (g : X → Y) (xs : List X) → map g xs ≡ flat_map (λ x. g x ∷ []) xs
map-flat g [] = refl
map-flat g (x ∷ xs) = ap (λ l. g x ∷ l) (map-flat g xs)

module _ (tell : TreesTell) where
  -- ---- requests that each tree of a list gets
  module _ (h : Tree → List Request) (own : (x z : Tree) → (x ≡ z → ⊥) → requests_for (h x) z ≡ []) where
    joined-for : (x : Tree) (xs : List Tree) (z : Tree) →
        requests_for (flat_map h (x ∷ xs)) z ≡ requests_for (h x) z ++ requests_for (flat_map h xs) z
    joined-for x xs z = filter-append (is_for z) (h x) (flat_map h xs)

    for-none : (xs : List Tree) (z : Tree) → (Contains xs z → ⊥) → requests_for (flat_map h xs) z ≡ []
    for-none [] z out = refl
    for-none (x ∷ xs) z out =
        joined-for x xs z ∙
        (λ i. own x z (λ e. out (subst (λ v. Contains (x ∷ xs) v) e (Contains-here x xs))) i ++
        for-none xs z (λ m. out (Contains-there x z xs m)) i)

    for-one : (xs : List Tree) (z : Tree) → IsDistinct xs → Contains xs z →
        requests_for (flat_map h xs) z ≡ requests_for (h z) z
    for-one [] z d m = absurd (Contains-none z m)
    for-one (x ∷ xs) z d m = joined-for x xs z ∙ elim (Contains-cases x z xs m) [
      | inl e ↦ (
          (λ i. requests_for (h (e i)) z ++ for-none xs z (λ k. d.0 (subst (λ v. Contains xs v) (sym e) k)) i) ∙
          append-nil (requests_for (h z) z))
      | inr k ↦ (
          (λ i.
          own x z (λ e. d.0 (subst (λ v. Contains xs v) (sym e) k)) i ++
          for-one xs z d.1 k i))
    ]

    is-in : (xs : List Tree) (z : Tree) → list_any (λ x. tree_eq x z) xs ≡ true → Contains xs z
    is-in xs z e =
        let r = list_any-found (λ x. tree_eq x z) xs e in
        subst (λ v. Contains xs v) ((tell r.0 z).0 r.2) r.1

    is-out : (xs : List Tree) (z : Tree) → list_any (λ x. tree_eq x z) xs ≡ false → Contains xs z → ⊥
    is-out xs z e m = let t = list_any-contains (λ x. tree_eq x z) z xs m ((tell z z).1 refl) in absurd cc

    -- lists of the same trees, each once, get the same
    pub same-for : (xs ys : List Tree) → IsDistinct xs → IsDistinct ys → ((x : Tree) → Contains xs x → Contains ys x) →
        ((x : Tree) → Contains ys x → Contains xs x) → (z : Tree) →
        requests_for (flat_map h xs) z ≡ requests_for (flat_map h ys) z
    same-for xs ys d e to from z = by_test (list_any (λ x. tree_eq x z) xs)
        (λ t. let m = is-in xs z t in for-one xs z d m ∙ sym (for-one ys z e (to z m)))
        (λ t. for-none xs z (is-out xs z t) ∙ sym (for-none ys z (λ m. is-out xs z t (from z m))))

  not-for : (r : Request) (x z : Tree) → r.source ≡ x → (x ≡ z → ⊥) → requests_for (r ∷ []) z ≡ []
  not-for r x z e out = by_test (is_for z r)
      (λ t. absurd (out (sym e ∙ (tell r.source z).0 t)))
      (λ t. rw t refl)

  module _ (f : File) (ds es : List Done) (a : AllDoneAlike ds es) where
    names-alike : (h : Tree → List Request) → ((x z : Tree) → (x ≡ z → ⊥) → requests_for (h x) z ≡ []) → (name : ℕ)
        (xs ys : List Tree) → AreTreesOf f ds name xs → AreTreesOf f es name ys → (z : Tree) →
        requests_for (flat_map h xs) z ≡ requests_for (flat_map h ys) z
    names-alike h own name xs ys of_xs of_ys =
        same-for h own xs ys of_xs.0 of_ys.0 (same-trees f ds es a name xs ys of_xs of_ys)
        (same-trees f es ds (all-done-back ds es a) name ys xs of_ys of_xs)

    -- ---- replace and remove
    selected : (sel : Sel) (act : Act) (xs ys : List Tree) → AreTreesOf f ds sel.name xs → AreTreesOf f es sel.name ys →
        AskAlike (map (request_for f sel act) xs) (map (request_for f sel act) ys)
    selected sel act xs ys of_xs of_ys = record {
      same =
          λ z.
          ap (λ l. requests_for l z) (map-flat (request_for f sel act) xs) ∙
          names-alike (λ x. request_for f sel act x ∷ []) (λ x v out. not-for (request_for f sel act x) x v refl out)
          sel.name xs ys of_xs of_ys z ∙
          sym (ap (λ l. requests_for l z) (map-flat (request_for f sel act) ys));
    }

    -- ---- merge and sew
    own-exchange : (first : Tree) (t : Turn) (x z : Tree) → (x ≡ z → ⊥) →
        requests_for (asked_of_tree first (record { turn = t; tree = x })) z ≡ []
    own-exchange first t x z out = by_test (turn_eq t Forward && tree_eq x first)
        (λ e. rw e refl)
        (λ e. rw e (not-for (exchange_of first (record { turn = t; tree = x })) x z refl out))

    under-alike : (first : Tree) (n : SignedName) (xs ys : List Tree) → AreTreesOf f ds n.name xs →
        AreTreesOf f es n.name ys → (z : Tree) →
        requests_for (asked_of_trees first (under n xs)) z ≡ requests_for (asked_of_trees first (under n ys)) z
    under-alike first n xs ys of_xs of_ys z =
        let h : Tree → List Request = λ x. asked_of_tree first (record { turn = n.turn; tree = x }) in
        ap (λ l. requests_for l z) (flat_map-map (λ x. record { turn = n.turn; tree = x }) (asked_of_tree first) xs) ∙
        names-alike h (own-exchange first n.turn) n.name xs ys of_xs of_ys z ∙
        sym (ap (λ l. requests_for l z)
        (flat_map-map (λ x. record { turn = n.turn; tree = x }) (asked_of_tree first) ys))

    split-for : (first : Tree) (ms ns : List TurnedTree) (z : Tree) →
        requests_for (asked_of_trees first (ms ++ ns)) z ≡
        requests_for (asked_of_trees first ms) z ++ requests_for (asked_of_trees first ns) z
    split-for first ms ns z =
        ap (λ l. requests_for l z) (flat_map-append (asked_of_tree first) ms ns) ∙
        filter-append (is_for z) (asked_of_trees first ms) (asked_of_trees first ns)

    members-alike : (first : Tree) (names : List SignedName) (ms ns : List TurnedTree) → AreMembersOf f ds names ms →
        AreMembersOf f es names ns → (z : Tree) →
        requests_for (asked_of_trees first ms) z ≡ requests_for (asked_of_trees first ns) z
    members-alike first [] ms ns of_ms of_ns z =
        λ i. requests_for (asked_of_trees first ((of_ms ∙ sym of_ns) i)) z
    members-alike first (n ∷ names) ms ns (xs, rest, of_xs, of_rest, e) (ys, others, of_ys, of_others, g) z =
        ap (λ l. requests_for (asked_of_trees first l) z) e ∙ split-for first (under n xs) rest z ∙
        (λ i. under-alike first n xs ys of_xs of_ys z i ++
        members-alike first names rest others of_rest of_others z i) ∙
        sym (ap (λ l. requests_for (asked_of_trees first l) z) g ∙ split-for first (under n ys) others z)

    joins-alike : (Can Own : Tree → TurnedTree → Type 0) (name : ℕ) (further : List SignedName) (rs qs : List Request) →
        AsksToJoin f ds Can name further rs → AsksToJoin f es Own name further qs → AskAlike rs qs
    joins-alike Can Own name further rs qs (first, ms, of_first, of_ms, can, e) (one, ns, of_one, of_ns, own, g) =
        record {
          same =
              λ z.
              ap (λ l. requests_for l z) e ∙ members-alike first further ms ns of_ms of_ns z ∙
              (λ i. requests_for (asked_of_trees (one-tree f ds es a name first one of_first of_one i) ns) z) ∙
              sym (ap (λ l. requests_for l z) g);
        }

    pub asks-alike : (c : Command) (rs qs : List Request) → Asks f ds c rs → Asks f es c qs → AskAlike rs qs
    asks-alike (commands.Replace sel tgt) rs qs (y, xs, of_y, of_xs, fit, e) (z, ys, of_z, of_ys, also, g) =
        let put : Tree → Act = λ v. replace (target_use f tgt v) in
        let one = one-tree f ds es a tgt.name y z of_y of_z in
        subst (λ l. AskAlike rs l) (sym g)
        (subst (λ l. AskAlike l (map (request_for f sel (put z)) ys))
        (sym (e ∙ ap (λ v. map (request_for f sel (put v)) xs) one)) (selected sel (put z) xs ys of_xs of_ys))
    asks-alike (commands.Remove sel) rs qs (xs, of_xs, e) (ys, of_ys, g) =
        subst (λ l. AskAlike rs l) (sym g)
        (subst (λ l. AskAlike l (map (request_for f sel remove) ys)) (sym e) (selected sel remove xs ys of_xs of_ys))
    asks-alike (commands.Merge []) rs qs p q = absurd p
    asks-alike (commands.Merge (name ∷ names)) rs qs p q =
        joins-alike (CanMerge f ds) (CanMerge f es) name (under_no_sign names) rs qs p q
    asks-alike (commands.Sew []) rs qs p q = absurd p
    asks-alike (commands.Sew (n ∷ ns)) rs qs p q = joins-alike (CanSew f ds) (CanSew f es) n.name ns rs qs p.1 q.1
    asks-alike commands.Apply rs qs p q = absurd p
    asks-alike commands.Undo rs qs p q = absurd p
    asks-alike (commands.Until kind) rs qs p q = absurd p
    asks-alike commands.Prune rs qs p q = absurd p
    asks-alike commands.OutputFirst rs qs p q = absurd p

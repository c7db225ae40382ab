-- Orders, cycles and ranks in small graphs come out as they are told.
use Rattle.std.proofs.Common.{◌≡◌, ◌≢◌, ◌<◌, refl, subst, arith, inl, inr, slice_index_or}
use Rattle.std.proofs.lemmas.List.Elements.{All-nil, All-cons}
use Rattle.std.specs.Prelude.{ℕ, List, [], ◌∷◌, Contains}
use Rattle.lists.proofs.Members.{Contains-cases, Contains-here, Contains-none, Contains-reversed, Contains-there}
use Rattle.graph_walks.specs.Graph.{ends_of}
use Rattle.graph_walks.specs.Search.{IsOrderFrom}
use Rattle.graph_walks.specs.Walks.{Reaches, itself, along, HasCycle, IsCycle, IsFirstCycle}
use Rattle.graph_walks.specs.Walks.{IsFinishOrder, IsRank, enters, finds, closes}
use Rattle.graph_walks.specs.Examples.{one_apart, OrdersComeOut, loop_apart, two_loops}
use Rattle.graph_walks.specs.Examples.{CyclesComeOut, way_round, RanksComeOut}
use Rattle.graph_walks.proofs.WalkLaws.{stays, no_cycle}
use Rattle.graph_walks.proofs.DeterminedLemmas.{determined}
use Rattle.graph_walks.proofs.RankLaws.{rank-next}

firsts : (x y : ℕ) (xs ys : List ℕ) → x ∷ xs ≡ y ∷ ys → x ≡ y
firsts x y xs ys e = cc

not-among : (y x : ℕ) (xs : List ℕ) → y ≢ x → (Contains xs x → ⊥) → Contains (y ∷ xs) x → ⊥
not-among y x xs ne h m = elim (Contains-cases y x xs m) [ inl e ↦ ne e | inr k ↦ h k ]

apart-finishes : IsFinishOrder (ends_of one_apart) (0 ∷ 1 ∷ [])
apart-finishes =
    ((λ y m. m), not-among 1 0 [] (λ e. omega (arith, e)) (Contains-none 0), ((λ y m. m), Contains-none 1, tt))

apart-reached : (x : ℕ) → Reaches (ends_of one_apart) 0 x → Contains (0 ∷ 1 ∷ []) x
apart-reached x r = stays (ends_of one_apart) (0 ∷ 1 ∷ []) apart-finishes r (Contains-here 0 (1 ∷ []))

apart-listed : (x : ℕ) → Contains (1 ∷ 0 ∷ []) x → Reaches (ends_of one_apart) 0 x
apart-listed x m = elim (Contains-cases 1 x (0 ∷ []) m) [
  | inl e ↦ subst (λ v. Reaches (ends_of one_apart) 0 v) e (along 1 (Contains-here 1 []) itself)
  | inr k ↦ elim (Contains-cases 0 x [] k) [
    | inl e ↦ subst (λ v. Reaches (ends_of one_apart) 0 v) e itself
    | inr n ↦ absurd (Contains-none x n)
  ]
]

apart-order : IsOrderFrom one_apart 0 (1 ∷ 0 ∷ [])
apart-order = record {
  finishes = apart-finishes;
  reached = λ x. (apart-listed x, λ r. Contains-reversed x (1 ∷ 0 ∷ []) (apart-reached x r));
  nodes = All-cons (λ (x : ℕ). x < 3) 1 (0 ∷ []) (omega arith)
      (All-cons (λ (x : ℕ). x < 3) 0 [] (omega arith) (All-nil (λ (x : ℕ). x < 3)));
}

two-unreached : Reaches (ends_of one_apart) 0 2 → ⊥
two-unreached r =
    not-among 0 2 (1 ∷ []) (λ e. omega (arith, e)) (not-among 1 2 [] (λ e. omega (arith, e)) (Contains-none 2))
    (apart-reached 2 r)

two-finishes : IsFinishOrder (ends_of one_apart) (0 ∷ 1 ∷ 2 ∷ [])
two-finishes = (
  (λ y m. elim (Contains-cases 1 y [] m) [
    | inl e ↦ subst (λ v. Contains (1 ∷ 2 ∷ []) v) e (Contains-here 1 (2 ∷ []))
    | inr n ↦ absurd (Contains-none y n)
  ]),
  not-among 1 0 (2 ∷ []) (λ e. omega (arith, e)) (not-among 2 0 [] (λ e. omega (arith, e)) (Contains-none 0)),
  (
    (λ y m. absurd (Contains-none y m)),
    not-among 2 1 [] (λ e. omega (arith, e)) (Contains-none 1),
    ((λ y m. m), Contains-none 2, tt),
  ),
)

pub orders : OrdersComeOut
orders = record {
  order = apart-order;
  node_missing = λ o. Contains-none 0 ((o.reached 0).1 itself);
  before_its_end = λ o. Contains-none 1 (o.finishes.2.0 1 (Contains-here 1 []));
  twice = λ o. o.finishes.2.1 (Contains-here 1 []);
  finishes = two-finishes;
  node_unreached = λ o. two-unreached ((o.reached 2).0 (Contains-here 2 (1 ∷ 0 ∷ [])));
}

loop-unreached : HasCycle (ends_of loop_apart) 0 → ⊥
loop-unreached c = no_cycle (ends_of loop_apart) (0 ∷ []) ((λ y m. m), Contains-none 0, tt) 0 (Contains-here 0 []) c

first-loop : IsFirstCycle (ends_of two_loops) 0 (2 ∷ 2 ∷ [])
first-loop = enters (λ y m. absurd (Contains-none y m)) (finds (enters
    (λ y m e. not-among 0 2 [] (λ f. omega (arith, f)) (Contains-none 2) (subst (λ v. Contains (0 ∷ []) v) e m))
    (finds (closes [] (0 ∷ []) refl))))

second-loop : IsCycle (ends_of two_loops) 0 (1 ∷ 1 ∷ [])
second-loop = (1, [], refl, along 1 (Contains-there 2 1 (1 ∷ []) (Contains-here 1 [])) itself, (Contains-here 1 [], tt))

pub cycles : CyclesComeOut
cycles = record {
  unreached = loop-unreached;
  reached = enters (λ y m. absurd (Contains-none y m)) (finds (closes [] [] refl));
  first = first-loop;
  second = second-loop;
  second_is_not_first = λ s.
      let same = (determined (ends_of two_loops)).one_first_cycle 0 (2 ∷ 2 ∷ []) (1 ∷ 1 ∷ []) first-loop s in
      let e = firsts 2 1 (2 ∷ []) (1 ∷ []) same in
      omega (arith, e);
}

-- ranks that are told by a list
told : ℕ → ℕ
told x = slice_index_or (2 ∷ 1 ∷ 0 ∷ []) x 0

rank-of-2 : IsRank (ends_of way_round) 2 0
rank-of-2 = rank-next (ends_of way_round) told 2 (λ y m. absurd (Contains-none y m))

rank-of-1 : IsRank (ends_of way_round) 1 1
unfolding told
rank-of-1 = rank-next (ends_of way_round) told 1 (λ y m. elim (Contains-cases 2 y [] m) [
  | inl e ↦ subst (λ v. IsRank (ends_of way_round) v (told v)) e rank-of-2
  | inr n ↦ absurd (Contains-none y n)
])

rank-of-0 : IsRank (ends_of way_round) 0 2
unfolding told
rank-of-0 = rank-next (ends_of way_round) told 0 (λ y m. elim (Contains-cases 2 y (1 ∷ []) m) [
  | inl e ↦ subst (λ v. IsRank (ends_of way_round) v (told v)) e rank-of-2
  | inr k ↦ elim (Contains-cases 1 y [] k) [
    | inl e ↦ subst (λ v. IsRank (ends_of way_round) v (told v)) e rank-of-1
    | inr n ↦ absurd (Contains-none y n)
  ]
])

pub ranks : RanksComeOut
ranks = record {
  last = rank-of-2;
  middle = rank-of-1;
  first = rank-of-0;
  not_the_shortest = λ r. let e = (determined (ends_of way_round)).one_rank 0 2 1 rank-of-0 r in omega (arith, e);
}

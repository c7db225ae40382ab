-- Of one command that asks something at most one fault is due.
use Rattle.std.proofs.Common.{◌≡◌, ◌∙◌, refl, sym, ap, subst, inl, inr, arith}
use Rattle.std.specs.Prelude.{◌≢◌, ◌⊎◌, ◌≤◌, ℕ, List, [], ◌∷◌, ◌++◌, All}
use Rattle.lists.specs.Distinct.{Counts}
use Rattle.lists.proofs.Distinct.{length-le_from_distinct}
use Rattle.lists.proofs.Entries.{All-rest}
use Rattle.expansion_laws.specs.Ends.{HaveEqualEnds}
use Rattle.expansion_laws.specs.Trees.{Tree}
use Rattle.step_history.specs.Composition.{Done}
use Rattle.brep_file.specs.declared.file.File.{File}
use Rattle.script_text.specs.declared.command.Command.{Command}
use Rattle.script_text.specs.declared.command.Command.TheVariants as commands
use Rattle.script_text.specs.declared.command.SignedName.{SignedName}
use Rattle.sewing.specs.AsTrees.{TurnedTree}
use Rattle.script_requests.specs.declared.fault.ScriptCode.TheVariants.{KindMismatch, ManyImages, EndsDiffer}
use Rattle.script_requests.specs.declared.fault.ScriptFault.{ScriptFault}
use Rattle.script_requests.specs.Asking.{CanMerge, CanSew, IsEdge, under_no_sign}
use Rattle.script_requests.specs.Kinds.{kind_of}
use Rattle.script_requests.specs.Names.{StandsFor, IsTreeOf}
use Rattle.script_requests.specs.Refusals.{told, AllRight, IsFirstAmiss, IsOfMany, IsOtherKind, IsNoEdge, HasOtherEnds}
use Rattle.script_requests.specs.Refusals.{FirstIsNoEdge, IsAmiss}
use Rattle.run_laws.proofs.NamesAlike.{AllDoneAlike, one-tree}

-- ---- counts
counts-le : {X : Type 0} (P : X → Type 0) (m n : ℕ) → Counts P m → Counts P n → m ≤ n
counts-le P m n (xs, (once, each), e) (ys, (twice, all), g) =
    let le = length-le_from_distinct xs ys once (λ x k. (all x).0 ((each x).1 k)) in omega (arith, le, e, g)

counts-one : {X : Type 0} (P : X → Type 0) (m n : ℕ) → Counts P m → Counts P n → m ≡ n
counts-one P m n a b = let p = counts-le P m n a b in let q = counts-le P n m b a in omega (arith, p, q)

-- ---- the first thing of a list that isn't right
first-wrong : {X : Type 0} (P : X → Type 0) (us bs : List X) (x y : X) (xs ys : List X) →
    us ++ x ∷ xs ≡ bs ++ y ∷ ys → All P us → All P bs → (P x → ⊥) → (P y → ⊥) → x ≡ y
first-wrong P [] [] x y xs ys e p q u v = cc
first-wrong P [] (b ∷ bs) x y xs ys e p q u v =
    let same : x ≡ b = cc in absurd (u (subst P (sym same) (q 0 x (omega arith))))
first-wrong P (a ∷ us) [] x y xs ys e p q u v =
    let same : a ≡ y = cc in absurd (v (subst P same (p 0 x (omega arith))))
first-wrong P (a ∷ us) (b ∷ bs) x y xs ys e p q u v =
    first-wrong P us bs x y xs ys (cc) (All-rest P a us p) (All-rest P b bs q) u v

module _ (f : File) (ds : List Done) where
  same-done : (ds : List Done) → AllDoneAlike ds ds
  same-done [] = tt
  same-done (d ∷ ds) = (
    record {
      kinds = refl;
      before = refl;
      after = refl;
      images = λ t x. ((λ h. h), (λ h. h));
      replaced = λ t x. ((λ h. h), (λ h. h));
    },
    same-done ds,
  )

  same-tree : (name : ℕ) (x y : Tree) → IsTreeOf f ds name x → IsTreeOf f ds name y → x ≡ y
  same-tree name x y p q = one-tree f ds ds (same-done ds) name x y p q

  same-amiss : (Right Amiss Wrong : TurnedTree → Type 0) → ((m : TurnedTree) → Amiss m → Right m → ⊥) →
      ((m : TurnedTree) → Wrong m → Right m → ⊥) → (further : List SignedName) (m n : SignedName) →
      IsFirstAmiss f ds Right Amiss further m → IsFirstAmiss f ds Right Wrong further n → m ≡ n
  same-amiss Right Amiss Wrong no_a no_w further m n p q =
      first-wrong (AllRight f ds Right) p.before q.before m n p.after q.after (sym p.stands ∙ q.stands) p.right q.right
      (λ all. no_a _ p.amiss (all p.tree p.of_name)) (λ all. no_w _ q.amiss (all q.tree q.of_name))

  module _ (line : ℕ) where
    many-one : (name : ℕ) (a b : ScriptFault) → IsOfMany f ds line name a → IsOfMany f ds line name b → a ≡ b
    many-one name a b (m, of_m, no_m, e) (n, of_n, no_n, g) =
        e ∙ ap (told line ManyImages name) (counts-one (StandsFor f ds name) m n of_m of_n) ∙ sym g

    not-many : (name : ℕ) (a : ScriptFault) (x : Tree) → IsOfMany f ds line name a → IsTreeOf f ds name x → ⊥
    not-many name a x (m, of_m, no_m, e) of_x =
        no_m (counts-one (StandsFor f ds name) m 1 of_m (x ∷ [], of_x, refl))

    -- ---- merge
    kinds-one : (name : ℕ) (further : List SignedName) (a b : ScriptFault) → IsOtherKind f ds line name further a →
        IsOtherKind f ds line name further b → a ≡ b
    kinds-one name further a b (x, m, of_x, p, e) (y, n, of_y, q, g) =
        let same = same-tree name y x of_y of_x in
        let q_x =
        subst (λ z. IsFirstAmiss f ds (CanMerge f ds z) (λ m. kind_of f m.tree ≢ kind_of f z) further n) same q
        in
        let name_is = same-amiss (CanMerge f ds x) (λ m. kind_of f m.tree ≢ kind_of f x)
        (λ m. kind_of f m.tree ≢ kind_of f x) (λ m u v. u v) (λ m u v. u v) further m n p q_x in
        e ∙ ap (λ (k : SignedName). told line KindMismatch name k.name) name_is ∙ sym g

    -- ---- sew
    abbrev NoEdge : TurnedTree → Type 0
    NoEdge m = IsEdge f ds m.tree → ⊥

    abbrev OtherEnds : Tree → TurnedTree → Type 0
    OtherEnds x m = HaveEqualEnds x m.turn m.tree → ⊥

    no-edges-one : (name : ℕ) (further : List SignedName) (a b : ScriptFault) → IsNoEdge f ds line name further a →
        IsNoEdge f ds line name further b → a ≡ b
    no-edges-one name further a b (x, m, of_x, edge, p, e) (y, n, of_y, edge', q, g) =
        let same = same-tree name y x of_y of_x in
        let q_x = subst (λ z. IsFirstAmiss f ds (CanSew f ds z) NoEdge further n) same q in
        let is = same-amiss (CanSew f ds x) NoEdge NoEdge (λ m u v. u v.0) (λ m u v. u v.0) further m n p q_x in
        e ∙ ap (λ (k : SignedName). told line KindMismatch name k.name) is ∙ sym g

    other-ends-one : (name : ℕ) (further : List SignedName) (a b : ScriptFault) →
        HasOtherEnds f ds line name further a → HasOtherEnds f ds line name further b → a ≡ b
    other-ends-one name further a b (x, m, of_x, edge, all, p, e) (y, n, of_y, edge', all', q, g) =
        let same = same-tree name y x of_y of_x in
        let q_x = subst (λ z. IsFirstAmiss f ds (CanSew f ds z) (OtherEnds z) further n) same q in
        let is = same-amiss (CanSew f ds x) (OtherEnds x) (OtherEnds x) (λ m u v. u v.1) (λ m u v. u v.1) further m n p
        q_x in
        e ∙ ap (λ (k : SignedName). told line EndsDiffer name k.name) is ∙ sym g

    not-both : (name : ℕ) (further : List SignedName) (a b : ScriptFault) → IsNoEdge f ds line name further a →
        HasOtherEnds f ds line name further b → ⊥
    not-both name further a b (x, m, of_x, edge, p, e) (y, n, of_y, edge', all, q, g) =
        let same = same-tree name y x of_y of_x in
        let q_x = subst (λ z. IsFirstAmiss f ds (CanSew f ds z) (OtherEnds z) further n) same q in
        let is = same-amiss (CanSew f ds x) NoEdge (OtherEnds x) (λ m u v. u v.0) (λ m u v. u v.1) further m n p q_x in
        p.amiss (subst (λ k. AllRight f ds (λ z. IsEdge f ds z.tree) k) (sym is) all p.tree p.of_name)

    first-edge : (name : ℕ) (a : ScriptFault) (x : Tree) → FirstIsNoEdge f ds line name a → IsTreeOf f ds name x →
        IsEdge f ds x → ⊥
    first-edge name a x (y, of_y, other, e) of_x edge =
        other (subst (λ z. IsEdge f ds z) (same-tree name x y of_x of_y) edge)

    -- what is amiss with a sewing
    abbrev Sewn : ℕ → List SignedName → ScriptFault → Type 0
    Sewn name ns a = FirstIsNoEdge f ds line name a ⊎ (IsNoEdge f ds line name ns a ⊎ HasOtherEnds f ds line name ns a)

    sewn-tree : (name : ℕ) (ns : List SignedName) (a : ScriptFault) → Sewn name ns a →
        (x : Tree) × IsTreeOf f ds name x
    sewn-tree name ns a (inl (x, of_x, other, e)) = (x, of_x)
    sewn-tree name ns a (inr (inl (x, m, of_x, edge, p, e))) = (x, of_x)
    sewn-tree name ns a (inr (inr (x, m, of_x, edge, all, p, e))) = (x, of_x)

    sewn-one : (name : ℕ) (ns : List SignedName) (a b : ScriptFault) → Sewn name ns a → Sewn name ns b → a ≡ b
    sewn-one name ns a b (inl (x, of_x, other, e)) (inl (y, of_y, other', g)) = e ∙ sym g
    sewn-one name ns a b (inl h) (inr (inl (y, n, of_y, edge, q, g))) = absurd (first-edge name a y h of_y edge)
    sewn-one name ns a b (inl h) (inr (inr (y, n, of_y, edge, all, q, g))) =
        absurd (first-edge name a y h of_y edge)
    sewn-one name ns a b (inr (inl (x, n, of_x, edge, q, g))) (inl k) = absurd (first-edge name b x k of_x edge)
    sewn-one name ns a b (inr (inr (x, n, of_x, edge, all, q, g))) (inl k) =
        absurd (first-edge name b x k of_x edge)
    sewn-one name ns a b (inr (inl h)) (inr (inl k)) = no-edges-one name ns a b h k
    sewn-one name ns a b (inr (inl h)) (inr (inr k)) = absurd (not-both name ns a b h k)
    sewn-one name ns a b (inr (inr h)) (inr (inl k)) = absurd (not-both name ns b a k h)
    sewn-one name ns a b (inr (inr h)) (inr (inr k)) = other-ends-one name ns a b h k

    -- ---- each command
    pub amiss-one : (c : Command) (a b : ScriptFault) → IsAmiss f ds line c a → IsAmiss f ds line c b → a ≡ b
    amiss-one (commands.Replace sel tgt) a b (inl h) (inl k) = many-one tgt.name a b h k
    amiss-one (commands.Replace sel tgt) a b (inl h) (inr (y, x, of_y, of_x, unfit, g)) =
        absurd (not-many tgt.name a y h of_y)
    amiss-one (commands.Replace sel tgt) a b (inr (y, x, of_y, of_x, unfit, e)) (inl k) =
        absurd (not-many tgt.name b y k of_y)
    amiss-one (commands.Replace sel tgt) a b (inr (y, x, of_y, of_x, unfit, e)) (inr (z, v, of_z, of_v, unfit', g)) =
        e ∙ sym g
    amiss-one (commands.Remove sel) a b h k = absurd h
    amiss-one (commands.Merge []) a b h k = absurd h
    amiss-one (commands.Merge (name ∷ names)) a b (inl h) (inl k) = many-one name a b h k
    amiss-one (commands.Merge (name ∷ names)) a b (inl h) (inr (y, n, of_y, q, g)) = absurd (not-many name a y h of_y)
    amiss-one (commands.Merge (name ∷ names)) a b (inr (x, n, of_x, p, e)) (inl k) = absurd (not-many name b x k of_x)
    amiss-one (commands.Merge (name ∷ names)) a b (inr h) (inr k) = kinds-one name (under_no_sign names) a b h k
    amiss-one (commands.Sew []) a b h k = absurd h
    amiss-one (commands.Sew (n ∷ ns)) a b (inl h) (inl k) = many-one n.name a b h k
    amiss-one (commands.Sew (n ∷ ns)) a b (inl h) (inr k) =
        let t = sewn-tree n.name ns b k in absurd (not-many n.name a t.0 h t.1)
    amiss-one (commands.Sew (n ∷ ns)) a b (inr h) (inl k) =
        let t = sewn-tree n.name ns a h in absurd (not-many n.name b t.0 k t.1)
    amiss-one (commands.Sew (n ∷ ns)) a b (inr h) (inr k) = sewn-one n.name ns a b h k
    amiss-one commands.Apply a b h k = absurd h
    amiss-one commands.Undo a b h k = absurd h
    amiss-one (commands.Until kind) a b h k = absurd h
    amiss-one commands.Prune a b h k = absurd h
    amiss-one commands.OutputFirst a b h k = absurd h

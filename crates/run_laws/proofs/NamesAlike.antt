-- Steps in a row that change trees alike: names stand for the same trees after them, and the same is amiss.
use Rattle.std.proofs.Common.{◌≡◌, sym, inl, inr}
use Rattle.std.specs.Prelude.{◌↔◌, ℕ, List, [], ◌∷◌, Contains}
use Rattle.lists.specs.Distinct.{Counts}
use Rattle.lists.proofs.Members.{Contains-here, Contains-cases, Contains-none}
use Rattle.expansion_laws.specs.Trees.{Tree}
use Rattle.step_history.specs.Changes.{Becomes, TakesPlace, kind_in}
use Rattle.step_history.specs.Composition.{Done}
use Rattle.brep_file.specs.declared.file.File.{File}
use Rattle.script_text.specs.declared.command.Command.{Command}
use Rattle.script_text.specs.declared.command.Command.TheVariants as commands
use Rattle.script_text.specs.declared.command.SignedName.{SignedName}
use Rattle.sewing.specs.AsTrees.{TurnedTree}
use Rattle.script_requests.specs.declared.fault.ScriptFault.{ScriptFault}
use Rattle.script_requests.specs.Names.{StandsFor, AreTreesOf, IsTreeOf}
use Rattle.script_requests.specs.Asking.{IsEdge}
use Rattle.script_requests.specs.Refusals.{AllRight, IsFirstAmiss, IsOfMany, IsAmiss}

-- ---- steps that change trees alike
pub record DoneAlike (d e : Done) : Type 0 where
  pub kinds : kind_in d.change ≡ kind_in e.change
  pub before : d.before ≡ e.before
  pub after : d.after ≡ e.after
  pub images : (t x : Tree) → Becomes d.change d.before t x ↔ Becomes e.change e.before t x
  pub replaced : (t x : Tree) → TakesPlace d.change d.before t x ↔ TakesPlace e.change e.before t x

abbrev pub AllDoneAlike : List Done → List Done → Type 0
AllDoneAlike [] [] = Unit {0}
AllDoneAlike (d ∷ ds) (e ∷ es) = DoneAlike d e × AllDoneAlike ds es
AllDoneAlike [] (e ∷ es) = ⊥
AllDoneAlike (d ∷ ds) [] = ⊥

pub swapped : {A B : Type 0} → A ↔ B → B ↔ A
swapped e = (e.1, e.0)

done-back : (d e : Done) → DoneAlike d e → DoneAlike e d
done-back d e a = record {
  kinds = sym a.kinds;
  before = sym a.before;
  after = sym a.after;
  images = λ t x. swapped (a.images t x);
  replaced = λ t x. swapped (a.replaced t x);
}

pub all-done-back : (ds es : List Done) → AllDoneAlike ds es → AllDoneAlike es ds
all-done-back [] [] a = tt
all-done-back (d ∷ ds) (e ∷ es) a = (done-back d e a.0, all-done-back ds es a.1)
all-done-back [] (e ∷ es) a = absurd a
all-done-back (d ∷ ds) [] a = absurd a

-- ---- names
module _ (f : File) where
  mutual-stands : (ds es : List Done) → AllDoneAlike ds es → (name : ℕ) (x : Tree) →
      StandsFor f ds name x ↔ StandsFor f es name x
  mutual-stands [] [] a name x = ((λ h. h), (λ h. h))
  mutual-stands [] (e ∷ es) a name x = absurd a
  mutual-stands (d ∷ ds) [] a name x = absurd a
  mutual-stands (d ∷ ds) (e ∷ es) a name x =
      let ih : (t : Tree) → StandsFor f ds name t ↔ StandsFor f es name t = mutual-stands ds es a.1 name in (
        (λ h. elim h [
          | inl k ↦ inl (k.0, (ih k.0).0 k.1, (a.0.images k.0 x).0 k.2)
          | inr k ↦ inr ((λ t y s b. k.0 t y ((ih t).1 s) ((a.0.images t y).1 b)), k.1)
        ]),
        (λ h. elim h [
          | inl k ↦ inl (k.0, (ih k.0).1 k.1, (a.0.images k.0 x).1 k.2)
          | inr k ↦ inr ((λ t y s b. k.0 t y ((ih t).0 s) ((a.0.images t y).0 b)), k.1)
        ]),
      )

  -- two lists of the trees of a name have the same trees
  pub same-trees : (ds es : List Done) → AllDoneAlike ds es → (name : ℕ) (xs ys : List Tree) →
      AreTreesOf f ds name xs → AreTreesOf f es name ys → (x : Tree) → Contains xs x → Contains ys x
  same-trees ds es a name xs ys of_xs of_ys x m =
      (of_ys.1 x).0 ((mutual-stands ds es a name x).0 ((of_xs.1 x).1 m))

  pub one-tree : (ds es : List Done) → AllDoneAlike ds es → (name : ℕ) (x y : Tree) → IsTreeOf f ds name x →
      IsTreeOf f es name y → x ≡ y
  one-tree ds es a name x y of_x of_y =
      elim (Contains-cases y x [] (same-trees ds es a name (x ∷ []) (y ∷ []) of_x of_y x (Contains-here x []))) [
        | inl e ↦ sym e
        | inr m ↦ absurd (Contains-none x m)
      ]

  -- ---- what is amiss
  module _ (ds es : List Done) (a : AllDoneAlike ds es) where
    pub stands : (name : ℕ) (x : Tree) → StandsFor f ds name x → StandsFor f es name x
    stands name x h = (mutual-stands ds es a name x).0 h

    pub stands-back : (name : ℕ) (x : Tree) → StandsFor f es name x → StandsFor f ds name x
    stands-back name x h = (mutual-stands ds es a name x).1 h

    listed : (name : ℕ) (xs : List Tree) → AreTreesOf f ds name xs → AreTreesOf f es name xs
    listed name xs (once, each) =
        (once, (λ x. ((λ h. (each x).0 (stands-back name x h)), (λ m. stands name x ((each x).1 m)))))

    is-tree : (name : ℕ) (x : Tree) → IsTreeOf f ds name x → IsTreeOf f es name x
    is-tree name x of_x = listed name (x ∷ []) of_x

    counted : (name n : ℕ) → Counts (StandsFor f ds name) n → Counts (StandsFor f es name) n
    counted name n (xs, is, e) = (xs, listed name xs is, e)

    all-right : (IsRight : TurnedTree → Type 0) (n : SignedName) → AllRight f ds IsRight n → AllRight f es IsRight n
    all-right IsRight n h x s = h x (stands-back n.name x s)

    first-amiss : (IsRight Amiss : TurnedTree → Type 0) (further : List SignedName) (n : SignedName) →
        IsFirstAmiss f ds IsRight Amiss further n → IsFirstAmiss f es IsRight Amiss further n
    first-amiss IsRight Amiss further n h = record {
      before = h.before;
      after = h.after;
      stands = h.stands;
      right = λ k d lt. all-right IsRight _ (h.right k d lt);
      tree = h.tree;
      of_name = stands n.name h.tree h.of_name;
      amiss = h.amiss;
    }

    many : (line name : ℕ) (fault : ScriptFault) → IsOfMany f ds line name fault → IsOfMany f es line name fault
    many line name fault (n, is, more, e) = (n, counted name n is, more, e)

    pub amiss : (line : ℕ) (c : Command) (fault : ScriptFault) → IsAmiss f ds line c fault → IsAmiss f es line c fault
    amiss line (commands.Replace sel tgt) fault (inl h) = inl (many line tgt.name fault h)
    amiss line (commands.Replace sel tgt) fault (inr (y, x, of_y, of_x, unfit, e)) =
        inr (y, x, is-tree tgt.name y of_y, stands sel.name x of_x, unfit, e)
    amiss line (commands.Remove sel) fault h = absurd h
    amiss line (commands.Merge []) fault h = absurd h
    amiss line (commands.Merge (name ∷ names)) fault (inl h) = inl (many line name fault h)
    amiss line (commands.Merge (name ∷ names)) fault (inr (first, n, of_name, within, e)) =
        inr (first, n, is-tree name first of_name, first-amiss _ _ _ n within, e)
    amiss line (commands.Sew []) fault h = absurd h
    amiss line (commands.Sew (n ∷ ns)) fault (inl h) = inl (many line n.name fault h)
    amiss line (commands.Sew (n ∷ ns)) fault (inr (inl (first, of_name, other, e))) =
        inr (inl (first, is-tree n.name first of_name, other, e))
    amiss line (commands.Sew (n ∷ ns)) fault (inr (inr (inl (first, m, of_name, edge, within, e)))) =
        inr (inr (inl (first, m, is-tree n.name first of_name, edge, first-amiss _ _ _ m within, e)))
    amiss line (commands.Sew (n ∷ ns)) fault (inr (inr (inr (first, m, of_name, edge, all, within, e)))) =
        inr (inr (inr (
          first,
          m,
          is-tree n.name first of_name,
          edge,
          all-right (λ z. IsEdge f ds z.tree) m all,
          first-amiss _ _ _ m within,
          e,
        )))
    amiss line commands.Apply fault h = absurd h
    amiss line commands.Undo fault h = absurd h
    amiss line (commands.Until kind) fault h = absurd h
    amiss line commands.Prune fault h = absurd h
    amiss line commands.OutputFirst fault h = absurd h

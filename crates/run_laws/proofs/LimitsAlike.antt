-- Steps whose requests are alike: the same limits are passed.
use Rattle.std.proofs.Common.{inl, inr}
use Rattle.std.specs.Prelude.{ℕ, List, [], ◌∷◌}
use Rattle.orientation.specs.declared.kind.Kind.{Kind}
use Rattle.orientation.specs.declared.rule.Rule.{Rule}
use Rattle.location_words.specs.declared.pair.Pair.{Pair}
use Rattle.expansion_laws.specs.Trees.{Tree, Use}
use Rattle.expansion_laws.specs.Requests.{Request}
use Rattle.expansion_laws.specs.StepMeasures.{IsWordKeyOf, IsWordMade, IsWordOfKey}
use Rattle.key_results.specs.Faults.{IsWordFault}
use Rattle.key_results.specs.Grown.{AreMoreThan}
use Rattle.key_results.specs.declared.fault.LimitKind.{LimitKind}
use Rattle.key_results.specs.declared.fault.LimitKind.TheVariants.{Keys, Uses, WordPairs, WordPower, Depth, Nodes}
use Rattle.reshape.specs.Limits.{groups, IsFirstFault, IsKeysFault, IsUsesFault, IsWordsFault, IsDepthFault}
use Rattle.reshape.specs.Limits.{IsNodesFault, most_keys}
use Rattle.run_laws.proofs.StepsAlike.{AskAlike, ask-back, step, steps-to}
use Rattle.run_laws.proofs.VisitsAlike.{key-words, use-counts, word-keys, words-made}

more-than : {X : Type 0} (n : ℕ) (P Q : X → Type 0) → ((x : X) → P x → Q x) → AreMoreThan n P → AreMoreThan n Q
more-than n P Q go (xs, once, all, lt) = (xs, once, (λ k d h. go _ (all k d h)), lt)

word-faults : (V W : List Pair → Type 0) → ((w : List Pair) → V w → W w) → (which : LimitKind) (n : ℕ) →
    IsWordFault V which n → IsWordFault W which n
word-faults V W go WordPairs n (w, v, e) = (w, go w v, e)
word-faults V W go WordPower n (w, v, e) = (w, go w v, e)
word-faults V W go _ n h = absurd h

-- ---- groups of tests
abbrev Group : Type 1
Group = LimitKind → ℕ → Type 0

-- each fault of the first is one of the second
abbrev Leads : Group → Group → Type 0
Leads g h = (which : LimitKind) (n : ℕ) → g which n → h which n

-- groups, one by one with the same faults
data GroupsAlike : List Group → List Group → Type 1 where
  no_group : GroupsAlike [] []
  one_group : {g h : Group} {gs hs : List Group} → Leads g h → Leads h g → GroupsAlike gs hs →
      GroupsAlike (g ∷ gs) (h ∷ hs)

first-of : {gs hs : List Group} → GroupsAlike gs hs → Leads (IsFirstFault gs) (IsFirstFault hs)
first-of no_group which n h = h
first-of (one_group go back rest) which n (inl k) = inl (go which n k)
first-of (one_group go back rest) which n (inr (none, k)) =
    inr ((λ w m q. none w m (back w m q)), first-of rest which n k)

module _ (kinds : ℕ → Kind) (rule : Rule) (root : Use) (held : List Tree) where
  module _ (rs qs : List Request) (a : AskAlike rs qs) where
    of-keys : Leads (IsKeysFault (step kinds rule rs) root) (IsKeysFault (step kinds rule qs) root)
    of-keys Keys n (many, e) = (
      more-than most_keys (IsWordKeyOf (step kinds rule rs) root) (IsWordKeyOf (step kinds rule qs) root)
          (word-keys kinds rule rs qs a root) many,
      e,
    )
    of-keys which n h =
        word-faults (IsWordOfKey (step kinds rule rs) root) (IsWordOfKey (step kinds rule qs) root)
        (key-words kinds rule rs qs a root) which n h

    of-uses : Leads (IsUsesFault (step kinds rule rs) root) (IsUsesFault (step kinds rule qs) root)
    of-uses Uses n (m, is, past, e) = (m, use-counts kinds rule rs qs a root m is, past, e)
    of-uses _ n h = absurd h

    of-words : Leads (IsWordsFault (step kinds rule rs) root) (IsWordsFault (step kinds rule qs) root)
    of-words which n h =
        word-faults (IsWordMade (step kinds rule rs) root) (IsWordMade (step kinds rule qs) root)
        (words-made kinds rule rs qs a root) which n h

    of-depth : Leads (IsDepthFault (step kinds rule rs) root) (IsDepthFault (step kinds rule qs) root)
    of-depth Depth n (new, to, past, e) = (new, steps-to kinds rule rs qs a root new to, past, e)
    of-depth _ n h = absurd h

    of-nodes : Leads (IsNodesFault (step kinds rule rs) root held) (IsNodesFault (step kinds rule qs) root held)
    of-nodes Nodes n (new, to, past, e) = (new, steps-to kinds rule rs qs a root new to, past, e)
    of-nodes _ n h = absurd h

  pub first-faults : (rs qs : List Request) → AskAlike rs qs →
      Leads (IsFirstFault (groups (step kinds rule rs) root held))
      (IsFirstFault (groups (step kinds rule qs) root held))
  first-faults rs qs a =
      let b = ask-back rs qs a in
      first-of {gs = groups (step kinds rule rs) root held} {hs = groups (step kinds rule qs) root held}
      (one_group (of-keys rs qs a) (of-keys qs rs b)
      (one_group (of-uses rs qs a) (of-uses qs rs b)
      (one_group (of-words rs qs a) (of-words qs rs b)
      (one_group (of-depth rs qs a) (of-depth qs rs b)
      (one_group (of-nodes rs qs a) (of-nodes qs rs b) no_group)))))

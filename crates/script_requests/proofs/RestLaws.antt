-- A list of names: the first one and the rest.
use Rattle.std.proofs.Common.{◌≡◌, ◌≤◌, ◌-◌, sym, subst, inr, arith, ℕ, take, drop, length}
use Rattle.std.specs.Prelude.{List, [], ◌∷◌, All, slice_index_or}
use Rattle.std.proofs.lemmas.List.{take_all}
use Rattle.lists.proofs.Entries.{All-rest}
use Rattle.script_text.specs.declared.command.SignedName.{SignedName}
use Rattle.shape_pool.specs.declared.node.NodeId.{NodeId}
use Rattle.shape_pool.specs.Rows.{Row}
use Rattle.script_requests.specs.declared.fault.AskFault.{AskFault}
use Rattle.script_requests.specs.declared.fault.AskFault.TheVariants as ask
use Rattle.script_requests.specs.declared.version.Version.{Version}
use Rattle.script_requests.specs.Asking.{under_no_sign}
use Rattle.script_requests.specs.Named.{AreNamed}
use Rattle.script_requests.specs.Numbered.{IsMergeRefused, IsSewRefused, MergeFails, OrWants, SewFails}
use Rattle.script_requests.proofs.JoinLaws.{forward}

-- what comes after the first
abbrev pub rest : {X : Type 0} → List X → List X
rest xs = take (length xs - 1) (drop 1 xs)

rest-is : {X : Type 0} (x : X) (xs : List X) → rest (x ∷ xs) ≡ xs
rest-is x xs = take_all (length (x ∷ xs) - 1) xs (omega arith)

pub all-rest : {X : Type 0} (P : X → Type 0) (xs : List X) → 1 ≤ length xs → All P xs → All P (rest xs)
all-rest P [] some h = absurd (omega (arith, some))
all-rest P (x ∷ xs) some h = subst (λ l. All P l) (sym (rest-is x xs)) (All-rest P x xs h)

module _ (rows : List Row) (vs : List Version) (line : ℕ) (first : NodeId) where
  pub merge-refused : (names : List ℕ) (fault : AskFault) → 1 ≤ length names →
      AreNamed rows vs (slice_index_or names 0 0) (first ∷ []) →
      OrWants (MergeFails rows vs line first (slice_index_or names 0 0) (under_no_sign (rest names))) fault →
      OrWants (IsMergeRefused rows vs line names) fault
  merge-refused [] fault some named k = absurd (omega (arith, some))
  merge-refused (name ∷ names) (ask.Script fault) some named k =
      inr (
        first,
        named,
        subst (λ l. MergeFails rows vs line first name (under_no_sign l) fault) (rest-is name names) k,
      )
  merge-refused (name ∷ names) ask.NoMemory some named k = tt

  pub sew-refused : (names : List SignedName) (fault : AskFault) → 1 ≤ length names →
      AreNamed rows vs (slice_index_or names 0 (forward 0)).name (first ∷ []) →
      OrWants (SewFails rows vs line first (slice_index_or names 0 (forward 0)).name (rest names)) fault →
      OrWants (IsSewRefused rows vs line names) fault
  sew-refused [] fault some named k = absurd (omega (arith, some))
  sew-refused (n ∷ names) (ask.Script fault) some named k =
      inr (first, named, subst (λ l. SewFails rows vs line first n.name l fault) (rest-is n names) k)
  sew-refused (n ∷ names) ask.NoMemory some named k = tt

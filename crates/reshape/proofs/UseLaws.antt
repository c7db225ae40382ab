-- One use that the visits of a key ask for, in a step that a plan carries out.
use Rattle.std.proofs.Common.{◌≡◌, ◌≤◌, ◌<◌, ◌∙◌, ◌∷◌, ℕ, List, [], Contains, length}
use Rattle.std.proofs.Common.{arith, sym, ap, subst, slice_get, Some}
use Rattle.std.specs.Prelude.{Vec}
use Rattle.std.specs.Global.{Global}
use Rattle.std.proofs.lemmas.List.Elements.{All-weaker}
use Rattle.lists.proofs.Places.{place_of, Contains-at}
use Rattle.location_words.specs.declared.pair.Pair.{Pair}
use Rattle.location_words.specs.declared.fault.WordFault.{WordFault}
use Rattle.location_words.specs.Tables.{IsTable}
use Rattle.expansion_laws.specs.Trees.{Use}
use Rattle.expansion_laws.specs.Steps.{Step}
use Rattle.expansion_laws.specs.RewritingLaws.{DemandsAreEdges, KeysStandForVisits}
use Rattle.expansion_laws.specs.Keys.{IsKeyOfStep}
use Rattle.shape_pool.specs.declared.node.UseOf.{UseOf}
use Rattle.shape_pool.specs.declared.node.NodeId.{NodeId}
use Rattle.shape_pool.specs.Rows.{Row, HasPlaces, uses_at}
use Rattle.shape_pool.specs.Laws.{IsSound}
use Rattle.requests.specs.Plans.{StepPlan, ids_of}
use Rattle.key_results.specs.declared.fault.ApplyFault.{ApplyFault}
use Rattle.key_results.specs.declared.key.Key.{Key}
use Rattle.key_results.specs.declared.words.Mover.{Mover}
use Rattle.key_results.specs.Faults.{of_word}
use Rattle.key_results.specs.Memos.{key_by, place_here, IsHeldKey}
use Rattle.reshape.specs.Readings.{IsStepOf}
use Rattle.reshape.specs.Collecting.{AreFound, AreOfStep, IsCollected, IsDemanded}
use Rattle.reshape.specs.Collecting.{IsDueFrom, IsDueKey, IsKeyFrom, IsKeysDue, IsNoted}
use Rattle.reshape.proofs.StepLaws.{planned, tells, tells-words, zero-word}
use Rattle.reshape.proofs.NoteLaws.{found-wider}
use Rattle.reshape.proofs.CollectLaws.{demanded-before, demanded-place, due-of-step, next-of-step}
use Rattle.reshape.proofs.FoundLaws.{due-key}
use Rattle.reshape.proofs.TurnLaws.{one-collected}

pub wider-places : (rows : List Row) (n m : ℕ) → n ≤ m → HasPlaces rows n → HasPlaces rows m
wider-places rows n m le places i lt =
    All-weaker (λ (u : UseOf). u.place.0 < n) (λ (u : UseOf). u.place.0 < m) (λ u h. omega (arith, h, le))
    (uses_at rows i) (places i lt)

pub key-held : (rows : List Row) (n : ℕ) (k : Key) (u : UseOf) → k.id ≡ u.id → u.id.0 < length rows → place_here k < n →
    IsHeldKey rows n k
key-held rows n k u e lt below = (subst (λ (i : NodeId). i.0 < length rows) (sym e) lt, below)

module _ (rows : List Row) (sound : IsSound rows) (n root : ℕ) (plan : StepPlan) (table : List (List Pair)) (s : Step)
    (word : ℕ → List Pair)
    (it : IsStepOf rows n root plan table s word) (is_table : IsTable table) (le : n ≤ length table)
    (places : HasPlaces rows n)
    (edge : DemandsAreEdges s) (stand : KeysStandForVisits s) (from : Key) (m : Mover) (u : UseOf)
    (lt : u.id.0 < length rows)
    (demanded : IsDemanded rows s word from m u) where
  -- its node is one of the plan
  pub never-missing : Contains (ids_of plan.nodes) from.id.0 → (Contains (ids_of plan.nodes) u.id.0 → ⊥) → ⊥
  never-missing there none =
      let p = place_of (ids_of plan.nodes) from.id.0 there in
      let q = demanded-before rows sound n s word plan.nodes root places
      (tells rows n root plan table s word it is_table le places)
      (planned rows n root plan table s word it is_table le places) it.carried.planned.held edge from m u p.0 p.1 lt
      demanded in
      none (Contains-at (ids_of plan.nodes) q.0 u.id.0 q.2)

  -- and stands before that of the key
  pub use-before : (place p : ℕ) → slice_get (ids_of plan.nodes) place ≡ Some u.id.0 →
      slice_get (ids_of plan.nodes) p ≡ Some from.id.0 → place < p
  use-before place p there at =
      demanded-place rows sound n s word plan.nodes root places
      (tells rows n root plan table s word it is_table le places)
      (planned rows n root plan table s word it is_table le places) it.carried.planned.held edge from m u p place at
      there lt demanded

  -- a fault of its key's word
  pub due-of-word : (r : Use) (fault : WordFault) → IsKeyOfStep s r (key_by word rows from) →
      IsDueFrom rows s word from m u fault →
      IsKeysDue s r (of_word fault)
  due-of-word r fault of-step due =
      due-of-step rows s word stand (zero-word rows n root plan table s word it is_table le places) r from m u of-step
      demanded fault due

  -- its key is one too many
  pub due-of-key : (r : Use) (keys : List Key) (at : List (Vec Key Global)) (count : ℕ) (k : Key) (fault : ApplyFault) →
      AreOfStep rows s word r keys →
      IsKeyOfStep s r (key_by word rows from) → AreFound rows n plan.nodes keys at count →
      IsHeldKey rows (length table) k →
      IsKeyFrom rows s word from m u (key_by word rows k) → IsDueKey k keys count fault → IsKeysDue s r fault
  due-of-key r keys at count k fault all of-step found held is due =
      let wide = found-wider rows n (length table) plan.nodes keys at count le found in
      let same : length table ≤ length table = omega arith in
      due-key rows sound word (length table) (wider-places rows n (length table) le places)
      (tells-words table word (length table) is_table it.reads.told same)
      s r keys k count fault wide.held held found.distinct all
      (next-of-step rows s word stand (zero-word rows n root plan table s word it is_table le places) r from m u of-step
      demanded (key_by word rows k) is)
      found.counted due

  -- its key is found
  pub use-collected : (place : ℕ) (key : Key) (keys : List Key) (at : List (Vec Key Global)) (count : ℕ)
      (now : List Key) (now_at : List (Vec Key Global))
      (now_count : ℕ) → AreFound rows (length table) plan.nodes keys at count → IsNoted place key keys at now now_at →
      IsHeldKey rows (length table) key →
      slice_get (ids_of plan.nodes) place ≡ Some u.id.0 → key.id ≡ u.id →
      IsKeyFrom rows s word from m u (key_by word rows key) →
      IsCollected rows s word plan.nodes from m (u ∷ []) keys at now now_at
  use-collected place key keys at count now now_at now_count found noted held there id is =
      one-collected rows (length table) plan.nodes s word from m u place key keys at count now now_at now_count found
      noted held
      (there ∙ ap (λ (i : NodeId). Some i.0) (sym id)) is (λ p e. use-before place p there e)
      (λ r k. next-of-step rows s word stand (zero-word rows n root plan table s word it is_table le places) r from m u
      k demanded (key_by word rows key) is)

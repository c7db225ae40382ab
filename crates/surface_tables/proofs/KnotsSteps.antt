-- Where the u knots were given, the v knots follow.
use Rattle.std.proofs.Common.{◌≡◌, List, [], ◌∷◌, ℕ, Option, Some, None, refl}
use Rattle.std.specs.Prelude.{MatchOption}
use Rattle.std.specs.Iterator.{MakesProgress, YieldsFirst, item_count}
use Rattle.entry_readers.specs.Spelled.{CanPair, pairs_left}
use Rattle.entry_readers.specs.declared.spell.KnotsSpell.{KnotsSpell}
use Rattle.lists.proofs.Iterators.{progress}
use Rattle.surface_tables.specs.SpellLeft.{CanGiveKnots, knots_left}
use Rattle.surface_tables.specs.declared.part_spell.NetKnots.{NetKnots}

pub none_left : (o : Option (List ℕ)) (h k : List (List ℕ)) → MatchOption o ((h ≡ []) × (k ≡ [])) (λ x. h ≡ x ∷ k)
    → ((x : List ℕ) → o ≡ Some x → ⊥) → h ≡ []
none_left (Some x) h k m not_some = absurd (not_some x refl)
none_left None h k m not_some = m.0

module _ (k : NetKnots) (w : KnotsSpell) (given : pairs_left k.u ≡ []) where
  pub knots_go : (o : Option (List ℕ)) → YieldsFirst pairs_left k.v o w
      → MakesProgress CanPair (item_count pairs_left) k.v o w → CanPair k.u
      → MakesProgress CanGiveKnots (item_count knots_left) k o (record { u = k.u; v = w })
  knots_go (Some x) steps goes can = progress CanGiveKnots knots_left k x (record { u = k.u; v = w }) (rw given steps)
      (record { u_can = can; v_can = goes.keeps })
  knots_go None steps goes can = record { on = λ _. tt; keeps = tt; rests = λ _. tt }

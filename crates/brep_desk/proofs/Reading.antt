-- A channel that is opened, read and closed leaves nothing written.
use Rattle.std.proofs.Common.{◌≡◌, ◌≢◌, ℕ, List, IsTrue, ap, sym, subst, inr, ◌∙◌}
use Rattle.brep_desk.specs.Shown.{ChannelState, reading, Shown, Tells, AreTold}
use Rattle.brep_desk.specs.Calls.{BeginsReading, Ends, EndsName}
use Rattle.brep_desk.specs.Transfers.{NothingWritten, TakesAtMost, TakesOfName}

pub quiet_through : {t : Tells} {a b d e : Shown} {name : List ℕ} {c : ℕ} → AreTold t → BeginsReading t a b name c
    → NothingWritten t b d → d.opened ≡ b.opened → Ends t d e c → NothingWritten t a e
quiet_through {t} {a} {b} {d} {e} {name} {c} told begins quiet same ends = record {
  held = ends.held ∙ quiet.held ∙ begins.held;
  written = λ w. ends.written ∙ quiet.written w ∙ begins.written;
  ended = λ w.
      let use_is : d.opened c ≡ reading name =
      ap (λ (f : ℕ → ChannelState). f c) same ∙ (begins.opened (told.ended w)).here in
      let last : e.ended ≡ d.ended = subst (λ u. EndsName u d.ended e.ended) use_is (ends.ended w) in
      last ∙ quiet.ended w ∙ begins.ended;
}

pub taken_through : {t : Tells} {a b : Shown} {name : List ℕ} {c most : ℕ} (d e : Shown) → BeginsReading t a b name c
    → (IsTrue t.left → TakesAtMost most (b.left c) (d.left c)) → (IsTrue t.left → (k : ℕ) → k ≢ c → d.left k ≡ b.left k)
    → e.left ≡ d.left → TakesOfName t a e name most
taken_through {t} {a} {b} {name} {c} {most} d e begins takes others same told = inr (record {
  channel = c;
  others = λ k other. ap (λ (f : ℕ → List ℕ). f k) same ∙ others told k other ∙ begins.left told k other;
  taken =
      λ held. (
        b.left c,
        begins.gives held,
        subst (λ (l : List ℕ). TakesAtMost most (b.left c) l) (sym (ap (λ (f : ℕ → List ℕ). f c) same)) (takes told),
      );
})

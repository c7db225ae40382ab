-- Each channel that is open for writing still has an output after a call.
use Rattle.std.proofs.Common.{◌≡◌, ◌≢◌, ℕ, Bool, true, false, nat_eq, List}
use Rattle.std.proofs.Common.{[], Option, Some, is_some, refl, sym, ap, ◌∙◌}
use Rattle.std.proofs.lemmas.Bool.{eqb-true, eq-eqb}
use Rattle.brep_desk.specs.Shown.{ChannelState, closed, reading, writing, ChangesOnly}
use Rattle.brep_desk.specs.declared.outputs.Output.{Output}
use Rattle.brep_desk.specs.declared.channels.Channel.{Channel}
use Rattle.brep_desk.specs.Kept.{state_in, written_in, IsBegun, AllBegun}
use Rattle.brep_desk.proofs.OutputLists.{by_name}

by_number_test : {P : Type 0} (a b : ℕ) (t : Bool) → nat_eq a b ≡ t → (a ≡ b → P) → (a ≢ b → P) → P
by_number_test a b true is same other = same (eqb-true a b is)
by_number_test a b false is same other = other (λ e. absurd (let t : nat_eq a b ≡ true = eq-eqb a b e in cc))

by_number : {P : Type 0} (a b : ℕ) → (a ≡ b → P) → (a ≢ b → P) → P
by_number a b same other = by_number_test a b (nat_eq a b) refl same other

-- a channel of writing is the one that changed, or was one before
was_writing : {P : Type 0} (old new : ℕ → ChannelState) (c : ℕ) (u : ChannelState) (k : ℕ) (name : List ℕ)
    → ChangesOnly old new c u → new k ≡ writing name → (u ≡ writing name → P) → (old k ≡ writing name → P) → P
was_writing old new c u k name changes is here before =
    by_number k c (λ e. here (sym changes.here ∙ sym (ap new e) ∙ is))
    (λ other. before (sym (changes.others k other) ∙ is))

kept : (os new : List Output) (n bytes name : List ℕ) → ChangesOnly (written_in os) (written_in new) n (Some bytes)
    → IsBegun os name → IsBegun new name
kept os new n bytes name changes begun =
    by_name name n (λ e. ap is_some (ap (written_in new) e ∙ changes.here))
    (λ other. ap is_some (changes.others name other) ∙ begun)

pub AllBegun-same : (os new : List Output) (cs later : List Channel) → state_in later ≡ state_in cs
    → written_in new ≡ written_in os → AllBegun os cs → AllBegun new later
AllBegun-same os new cs later uses written begun k name is =
    ap is_some (ap (λ (f : List ℕ → Option (List ℕ)). f name) written)
    ∙ begun k name (sym (ap (λ (f : ℕ → ChannelState). f k) uses) ∙ is)

pub AllBegun-reading : (os : List Output) (cs later : List Channel) (c : ℕ) (n : List ℕ)
    → ChangesOnly (state_in cs) (state_in later) c (reading n) → AllBegun os cs → AllBegun os later
AllBegun-reading os cs later c n changes begun k name is =
    was_writing _ _ c (reading n) k name changes is (λ e. absurd cc) (λ was. begun k name was)

pub AllBegun-writing : (os new : List Output) (cs later : List Channel) (c : ℕ) (n : List ℕ)
    → ChangesOnly (state_in cs) (state_in later) c (writing n)
    → ChangesOnly (written_in os) (written_in new) n (Some []) → AllBegun os cs → AllBegun new later
AllBegun-writing os new cs later c n changes written begun k name is =
    was_writing _ _ c (writing n) k name changes is
    (λ e. let same : n ≡ name = cc in ap is_some (ap (written_in new) (sym same) ∙ written.here))
    (λ was. kept os new n [] name written (begun k name was))

pub AllBegun-written : (os new : List Output) (cs : List Channel) (n bytes : List ℕ)
    → ChangesOnly (written_in os) (written_in new) n (Some bytes) → AllBegun os cs → AllBegun new cs
AllBegun-written os new cs n bytes written begun k name is = kept os new n bytes name written (begun k name is)

pub AllBegun-closed : (os new : List Output) (cs later : List Channel) (c : ℕ)
    → ChangesOnly (state_in cs) (state_in later) c closed → written_in new ≡ written_in os → AllBegun os cs
    → AllBegun new later
AllBegun-closed os new cs later c changes written begun k name is =
    was_writing _ _ c closed k name changes is (λ e. absurd cc)
    (λ was. ap is_some (ap (λ (f : List ℕ → Option (List ℕ)). f name) written) ∙ begun k name was)

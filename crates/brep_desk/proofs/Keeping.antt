-- What a channel that was added begins.
use Rattle.std.proofs.Common.{◌≡◌, ℕ, List, [], ◌∷◌, ◌++◌, length, Result, Ok, Err}
use Rattle.std.proofs.Common.{IfOk, OnOk, IsErrOf, Some, false, refl, sym, ap, ◌∙◌}
use Rattle.brep_desk.specs.Shown.{closed, tells_all, ChangesOnly}
use Rattle.brep_desk.specs.Calls.{BeginsReading, BeginsWriting, Ends}
use Rattle.brep_desk.specs.declared.outputs.Output.{Output}
use Rattle.brep_desk.specs.declared.channels.Channel.{Channel}
use Rattle.brep_desk.specs.declared.channels.State.TheVariants.{Reading, Writing}
use Rattle.brep_desk.specs.declared.counts.Counts.{Counts}
use Rattle.brep_desk.specs.Kept.{left_of, state_of, held_in, written_in, ended_in, shown_by}
use Rattle.brep_desk.proofs.ChannelLists.{of_channel-pushed, of_channel-pushed_kept}

pub IfOk-by : {T E : Type 0} {P R : T → Type 0} {Q : Type 0} (r : Result T E) → IfOk r P → OnOk r Q
    → ((x : T) → P x → Q → R x) → IfOk r R
IfOk-by (Ok x) p q f = f x p q
IfOk-by (Err e) p q f = tt

pub BeginsReading-pushed :
    (fs : List (List ℕ × List ℕ)) (os : List Output) (cs new : List Channel) (c : Channel) (name bytes : List ℕ) (k : ℕ)
    (before after : Counts) → held_in fs name ≡ Some bytes
    → c ≡ record { name = name; state = Reading; bytes = bytes; at = 0 } → new ≡ cs ++ c ∷ [] → k ≡ length cs
    → BeginsReading tells_all (shown_by fs os cs before) (shown_by fs os new after) name k
BeginsReading-pushed fs os cs new c name bytes k before after holds opens is at =
    let reader : Channel = record { name = name; state = Reading; bytes = bytes; at = 0 } in
    let pushed : new ≡ cs ++ reader ∷ [] = is ∙ ap (λ (x : Channel). cs ++ x ∷ []) opens in
    let left : ChangesOnly _ _ k bytes = of_channel-pushed left_of [] cs new reader k pushed at in
    record {
      held = refl;
      written = refl;
      ended = refl;
      opened = λ _. of_channel-pushed state_of closed cs new reader k pushed at;
      left = λ _. left.others;
      gives = λ _. holds ∙ ap Some (sym left.here);
    }

pub BeginsWriting-pushed :
    (fs : List (List ℕ × List ℕ)) (os outs : List Output) (cs new : List Channel) (name own bytes : List ℕ) (k : ℕ)
    (before after : Counts) → ChangesOnly (written_in os) (written_in outs) name (Some [])
    → ChangesOnly (ended_in os) (ended_in outs) name false → own ≡ name → bytes ≡ []
    → new ≡ cs ++ (record { name = own; state = Writing; bytes = bytes; at = 0 }) ∷ [] → k ≡ length cs
    → BeginsWriting tells_all (shown_by fs os cs before) (shown_by fs outs new after) name k
BeginsWriting-pushed fs os outs cs new name own bytes k before after written ended owns none is at =
    let writer : Channel = record { name = own; state = Writing; bytes = bytes; at = 0 } in
    record {
      held = refl;
      left = of_channel-pushed_kept left_of [] cs new writer is none;
      written = λ _. written;
      ended = λ _. ended;
      opened = λ _. rw (← owns) (of_channel-pushed state_of closed cs new writer k is at);
    }

pub refusal_is : {T E : Type 0} (r : Result T E) (e f : E) → r ≡ Err e → IsErrOf r f → e ≡ f
refusal_is r e f is of = cc

-- the channels before and after, by other names for them
pub Ends-by : (fs : List (List ℕ × List ℕ)) (os outs : List Output) (cs was new ends : List Channel) (k : ℕ)
    (before after : Counts) → was ≡ cs → new ≡ ends
    → Ends tells_all (shown_by fs os was before) (shown_by fs outs ends after) k
    → Ends tells_all (shown_by fs os cs before) (shown_by fs outs new after) k
Ends-by fs os outs cs was new ends k before after old later p = rw (later, ← old) p

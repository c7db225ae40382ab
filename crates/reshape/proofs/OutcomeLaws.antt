-- What an outcome tells of a visit.
use Rattle.std.proofs.Common.{◌≡◌, ◌∙◌, ◌⊎◌, Bool, true, false, List, []}
use Rattle.std.proofs.Common.{Some, None, ap, inl, inr, refl, sym, true≢false}
use Rattle.expansion_laws.specs.Trees.{Tree, Use}
use Rattle.expansion_laws.specs.Contexts.{Context}
use Rattle.expansion_laws.specs.Demands.{demands, demands_by, demands_of_act}
use Rattle.expansion_laws.specs.Requests.{Act, Request, match_of, remove, replace}
use Rattle.expansion_laws.specs.Steps.{Step, is_entered}
use Rattle.key_results.specs.declared.derive.Outcome.{Outcome}
use Rattle.key_results.specs.declared.derive.Outcome.TheVariants.{Stays, Rebuilt, Joined}
use Rattle.key_results.specs.Derivations.{made_of}
use Rattle.key_results.specs.Derived.{IsMetAs}

-- ---- how a visit's outcome tells what meets it
pub stays-so : (s : Step) (x : Tree) (here : Context) (o : Outcome) → IsMetAs s x here o → o ≡ Stays →
    (match_of s.requests x here ≡ None) × (is_entered s x ≡ false)
stays-so s x here Stays met e = met
stays-so s x here Rebuilt met e = absurd cc
stays-so s x here Joined met e = absurd cc

none-some : {X : Type 0} (x : X) → None ≡ Some x → ⊥
none-some x e = absurd cc

pub so-stays : (s : Step) (x : Tree) (here : Context) (o : Outcome) → IsMetAs s x here o →
    match_of s.requests x here ≡ None →
    is_entered s x ≡ false → o ≡ Stays
so-stays s x here Stays met m e = refl
so-stays s x here Rebuilt met m e = absurd (true≢false (sym met.1 ∙ e))
so-stays s x here Joined met m e = absurd (none-some met.0 (sym m ∙ met.1))

pub joined-so : (s : Step) (x : Tree) (here : Context) (o : Outcome) → IsMetAs s x here o → o ≡ Joined →
    (r : Request) × (match_of s.requests x here ≡ Some r)
joined-so s x here Stays met e = absurd cc
joined-so s x here Rebuilt met e = absurd cc
joined-so s x here Joined met e = met

pub so-joined : (s : Step) (x : Tree) (here : Context) (o : Outcome) (r : Request) → IsMetAs s x here o →
    match_of s.requests x here ≡ Some r → o ≡ Joined
so-joined s x here Stays r met m = absurd (none-some r (sym met.0 ∙ m))
so-joined s x here Rebuilt r met m = absurd (none-some r (sym met.0 ∙ m))
so-joined s x here Joined r met m = refl

-- an act is a remove, after which nothing is asked for, or a replace
pub act-cases : (s : Step) (x : Tree) (here : Context) (r : Request) → match_of s.requests x here ≡ Some r →
    (demands s x here ≡ []) ⊎ ((by : Use) × (r.act ≡ replace by))
act-cases s x here r m = go r.act refl
  where
    go : (a : Act) → r.act ≡ a → (demands s x here ≡ []) ⊎ ((by : Use) × (r.act ≡ replace by))
    go remove e = inl (ap (demands_by s x here) m ∙ ap (demands_of_act s x here r.place) e)
    go (replace by) e = inr (by, e)

pub joined-results : (o : Outcome) (prune none : Bool) (x : Tree) (joined : List Use) → o ≡ Joined →
    made_of o prune none x joined ≡ joined
joined-results Stays prune none x joined e = absurd cc
joined-results Rebuilt prune none x joined e = absurd cc
joined-results Joined prune none x joined e = refl

pub false-true : false ≡ true → ⊥
false-true e = true≢false (sym e)

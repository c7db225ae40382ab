-- The visits of one key ask for the same, and what they ask for has the same keys.
use Rattle.std.proofs.Common.{refl, sym, ap, subst, ◌∙◌}
use Rattle.std.specs.Prelude.{◌≡◌, Option, None, Some, unwrap_or, List, [], Bool}
use Rattle.std.specs.Prelude.{true, false, if◌then◌else◌, Contains, IsTrue}
use Rattle.orientation.specs.declared.turn.Turn.{Turn}
use Rattle.orientation.specs.declared.turn.Turn.TheVariants.{Forward}
use Rattle.location_words.specs.declared.pair.Pair.{Pair}
use Rattle.expansion_laws.specs.Trees.{Tree, Use}
use Rattle.expansion_laws.specs.Contexts.{Context, inside, bare}
use Rattle.expansion_laws.specs.Requests.{Act, remove, replace, Request, match_of}
use Rattle.expansion_laws.specs.Steps.{Step, onward}
use Rattle.expansion_laws.specs.Rewriting.{Rewrites}
use Rattle.expansion_laws.specs.Demands.{demands_of_act, demands_by, gathered_by, demands, gathered}
use Rattle.expansion_laws.specs.Visits.{LeadsTo, onto, itself}
use Rattle.expansion_laws.specs.Keys.{Key, key, IsKey, context_of}
use Rattle.expansion_laws.proofs.KeyLemmas.{SameFor, SameFor-along, SameFor-inside, match-same}
use Rattle.expansion_laws.proofs.KeyLemmas.{new_use-same, place-asked, results-same}
use Rattle.expansion_laws.proofs.VisitLemmas.{demand-edge}
use Rattle.expansion_laws.specs.RewritingLaws.{KeysStandForVisits}

same-word : (b : Bool) (w : List Pair) → IsTrue b → w ≡ unwrap_or (if b then Some w else None) []
same-word true w h = refl
same-word false w h = absurd cc

same-turn : (b : Bool) (t : Turn) → IsTrue b → t ≡ unwrap_or (if b then Some t else None) Forward
same-turn true t h = refl
same-turn false t h = absurd cc

-- a visit and its key's context agree on all that the tree reaches
pub same-for-key : (s : Step) (x : Tree) (here : Context) (k : Key) → IsKey s x here k → SameFor s x here (context_of k)
same-for-key s x here k h = record {
  word = λ z. same-word h.0 here.word (h.2.1 z) ∙ ap (λ (k : Key). unwrap_or k.word []) (sym h.4);
  turn = λ z. same-turn h.1 here.turn (h.3.1 z) ∙ ap (λ (k : Key). unwrap_or k.turn Forward) (sym h.4);
}

demands_of_act-same : (s : Step) (x : Tree) (c d : Context) (r : Request) (act : Act) → SameFor s x c d →
    match_of s.requests x d ≡ Some r → demands_of_act s x c r.place act ≡ demands_of_act s x d r.place act
demands_of_act-same s x c d r remove h e = refl
demands_of_act-same s x c d r (replace by) h e =
    ap (onward s x) (new_use-same c d (bare x) r.place by (λ g. h.word (place-asked s x d r e g)))

demands_by-same : (s : Step) (x : Tree) (c d : Context) (m : Option Request) → SameFor s x c d →
    match_of s.requests x d ≡ m → demands_by s x c m ≡ demands_by s x d m
demands_by-same s x c d None h e = refl
demands_by-same s x c d (Some r) h e = demands_of_act-same s x c d r r.act h e

-- two visits that agree ask for the same, make the same of it, and agree on what each of it reaches
pub demands-same : (s : Step) (x : Tree) (c d : Context) → SameFor s x c d → demands s x c ≡ demands s x d
demands-same s x c d h =
    ap (demands_by s x c) (match-same s x c d h) ∙ demands_by-same s x c d (match_of s.requests x d) h refl

pub gathered-same : (s : Step) (x : Tree) (c d : Context) (parts : List Use) → SameFor s x c d →
    gathered s x c parts ≡ gathered s x d parts
gathered-same s x c d parts h =
    ap (λ m. gathered_by s x c m parts) (match-same s x c d h) ∙ go (match_of s.requests x d)
  where
    go : (m : Option Request) → gathered_by s x c m parts ≡ gathered_by s x d m parts
    go None = refl
    go (Some r) = refl

pub demand-same-for : (s : Step) (x : Tree) (c d : Context) (v : Use) → SameFor s x c d → Contains (demands s x c) v →
    SameFor s v.tree (inside c v) (inside d v)
demand-same-for s x c d v h m =
    SameFor-along s x v.tree (inside c v) (inside d v) (demand-edge s x c v m) (SameFor-inside s x c d v h)

-- where two contexts agree, each key of one is a key of the other
key-same : (s : Step) (x : Tree) (a b : Bool) (c d : Context) → (IsTrue a → c.word ≡ d.word) →
    (IsTrue b → c.turn ≡ d.turn) → key a b x c ≡ key a b x d
key-same s x true true c d h k = λ i. record { tree = x; word = Some (h refl i); turn = Some (k refl i) }
key-same s x true false c d h k = λ i. record { tree = x; word = Some (h refl i); turn = None }
key-same s x false true c d h k = λ i. record { tree = x; word = None; turn = Some (k refl i) }
key-same s x false false c d h k = refl

pub is-key-same : (s : Step) (x : Tree) (c d : Context) (k : Key) → SameFor s x c d → IsKey s x c k → IsKey s x d k
is-key-same s x c d k h i =
    (i.0, i.1, i.2, i.3, i.4 ∙ key-same s x i.0 i.1 c d (λ t. h.word (i.2.0 t)) (λ t. h.turn (i.3.0 t)))

SameFor-turned : (s : Step) (x : Tree) (c d : Context) → SameFor s x c d → SameFor s x d c
SameFor-turned s x c d h = record { word = λ z. sym (h.word z); turn = λ z. sym (h.turn z) }

-- the entry of a key serves each visit of the key
pub results-of-key : (s : Step) (x : Tree) (here : Context) (k : Key) (results : List Use) → IsKey s x here k →
    Rewrites s (context_of k) (bare x) results → Rewrites s here (bare x) results
results-of-key s x here k results h r =
    (r.0, results-same s r.0 here (context_of k) (bare x) (same-for-key s x here k h) ∙ r.1)

-- what a visit of a key asks for has the keys that the key's own context gives
pub key-of-demand : (s : Step) (x : Tree) (here : Context) (k : Key) (v : Use) (l : Key) → IsKey s x here k →
    Contains (demands s x here) v → IsKey s v.tree (inside here v) l →
    Contains (demands s x (context_of k)) v × IsKey s v.tree (inside (context_of k) v) l
key-of-demand s x here k v l h m i = (
  subst (λ us. Contains us v) (demands-same s x here (context_of k) (same-for-key s x here k h)) m,
  is-key-same s v.tree (inside here v) (inside (context_of k) v) l
      (demand-same-for s x here (context_of k) v (same-for-key s x here k h) m) i,
)

-- each visit has a visit by keys' contexts alone beside it, with which it agrees: so the keys that are found from
-- contexts of keys are those of the visits
pub found-from-keys : (s : Step) {x y : Tree} {here there : Context} → LeadsTo s x here y there → (known : Context) →
    SameFor s x here known →
    (seen : Context) × LeadsTo s x known y seen × SameFor s y there seen
found-from-keys s {here = here} itself known h = (known, itself, h)
found-from-keys s {x = x} {here = here} (onto v m l) known h =
    let r = found-from-keys s l (inside known v) (demand-same-for s x here known v h m) in
    (r.0, onto v (subst (λ us. Contains us v) (demands-same s x here known h) m) r.1, r.2)

-- one context stands for all visits of a key
pub keys_stand : (s : Step) → KeysStandForVisits s
keys_stand s = record {
  same_match = λ x here k i. match-same s x here (context_of k) (same-for-key s x here k i);
  same_demands = λ x here k i. demands-same s x here (context_of k) (same-for-key s x here k i);
  same_gathered = λ x here k parts i. gathered-same s x here (context_of k) parts (same-for-key s x here k i);
  same_results = λ x here k results i. (
    (λ r. (r.0, sym (results-same s r.0 here (context_of k) (bare x) (same-for-key s x here k i)) ∙ r.1)),
    (λ r. (r.0, results-same s r.0 here (context_of k) (bare x) (same-for-key s x here k i) ∙ r.1)),
  );
  same_keys = λ x here k l v i m. (
    is-key-same s v.tree (inside here v) (inside (context_of k) v) l
        (demand-same-for s x here (context_of k) v (same-for-key s x here k i) m),
    is-key-same s v.tree (inside (context_of k) v) (inside here v) l
        (SameFor-turned s v.tree (inside here v) (inside (context_of k) v)
        (demand-same-for s x here (context_of k) v (same-for-key s x here k i) m)),
  );
}

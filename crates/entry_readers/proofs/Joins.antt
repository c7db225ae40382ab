-- Tokens that begin with joined texts.
use Rattle.std.proofs.Common.{ℕ, List, [], ◌∷◌, ◌++◌, refl, sym, subst}
use Rattle.entry_readers.specs.Begins.{Begins}
use Rattle.brep_tokens.specs.declared.text.Token.{Token}

pub Begins-then : (ts : List Token) (xs : List (List ℕ)) (mid : List Token) (ys : List (List ℕ)) (rest : List Token)
    → Begins ts xs mid → Begins mid ys rest → Begins ts (xs ++ ys) rest
Begins-then ts [] mid ys rest b c = subst (λ (m : List Token). Begins m ys rest) (sym b) c
Begins-then [] (x ∷ xs) mid ys rest b c = absurd b
Begins-then (t ∷ ts) (x ∷ xs) mid ys rest b c = (b.0, Begins-then ts xs mid ys rest b.1 c)

pub Begins-split : (ts : List Token) (xs ys : List (List ℕ)) (rest : List Token) → Begins ts (xs ++ ys) rest
    → (mid : List Token) × Begins ts xs mid × Begins mid ys rest
Begins-split ts [] ys rest b = (ts, refl, b)
Begins-split [] (x ∷ xs) ys rest b = absurd b
Begins-split (t ∷ ts) (x ∷ xs) ys rest b =
    let s = Begins-split ts xs ys rest b.1 in
    (s.0, (b.0, s.1), s.2)

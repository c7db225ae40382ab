-- The two names that a rewriting writes differ.
use Rattle.std.proofs.Common.{◌≡◌, ℕ, List, [], ◌∷◌, Bool, true, false, if◌then◌else◌, refl, sym, subst, ◌∙◌}
use Rattle.std.proofs.lemmas.Bool.{eq-eqb}
use Rattle.std.specs.Prelude.{◌≢◌, ◌&&◌, not, codes}
use Rattle.std.specs.Prelude.{Option, None, Some}
use Rattle.shape_listing.specs.declared.listing.Listing.{Listing}
use Rattle.brep_run.specs.CommandLine.{copies, rewrites, lists, later, wrong, is_word, may_copy, may_rewrite}
use Rattle.brep_run.specs.CommandLine.{copy_of_names, rewrite_of_names, command_line_of, gen_of_names, list_of_names}
use Rattle.brep_run.specs.CommandLine.{lists_to, may_make, other_line, shapes_named, walk_named, walk_of_names}

text-same : (a : List ℕ) → is_word a a ≡ true
text-same [] = refl
text-same (x ∷ xs) = rw (eq-eqb x x refl) (text-same xs)

second-of : (a b c d : Bool) → ((not a && not b) && (c && d)) ≡ true → b ≡ false
second-of a false c d e = refl
second-of true true c d e = cc
second-of false true c d e = cc

may-apart : (a b c d : List ℕ) → may_rewrite a b c d ≡ true → c ≢ d
may-apart a b c d e same =
    let other = second-of (is_word a b) (is_word c d) (may_copy a c && may_copy a d) (may_copy b c && may_copy b d) e in
    let equal : is_word c d ≡ true = subst (λ x. is_word c x ≡ true) same (text-same c) in
    let both : true ≡ false = sym equal ∙ other in
    cc

module _ (s p t h : List ℕ) where
  if-rewrites : (b : Bool) (a1 a2 a3 a4 : List ℕ) → (if b then rewrites a1 a2 a3 a4 else wrong) ≡ rewrites s p t h
      → (b ≡ true) × ((a3 ≡ t) × (a4 ≡ h))
  if-rewrites true a1 a2 a3 a4 e = (refl, (cc, cc))
  if-rewrites false a1 a2 a3 a4 e = cc

  if-copies : (b : Bool) (a1 a2 : List ℕ) → (if b then copies a1 a2 else wrong) ≡ rewrites s p t h → ⊥
  if-copies true a1 a2 e = cc
  if-copies false a1 a2 e = cc

  of-copy : (names : List (List ℕ)) → copy_of_names names ≡ rewrites s p t h → ⊥
  of-copy [] e = cc
  of-copy (a ∷ []) e = cc
  of-copy (a ∷ b ∷ []) e = if-copies (may_copy a b) a b e
  of-copy (a ∷ b ∷ c ∷ rest) e = cc

  of-rewrite : (names : List (List ℕ)) → rewrite_of_names names ≡ rewrites s p t h → t ≢ h
  of-rewrite [] e = cc
  of-rewrite (a ∷ []) e = cc
  of-rewrite (a ∷ b ∷ []) e = cc
  of-rewrite (a ∷ b ∷ c ∷ []) e = cc
  of-rewrite (a ∷ b ∷ c ∷ d ∷ []) e =
      let given = if-rewrites (may_rewrite a b c d) a b c d e in
      λ same. may-apart a b c d given.0 (given.1.0 ∙ same ∙ sym given.1.1)
  of-rewrite (a ∷ b ∷ c ∷ d ∷ x ∷ rest) e = cc

  if-lists : (b : Bool) (a : List ℕ) (l : Listing) (d : List ℕ) → (if b then lists a l d else wrong) ≡ rewrites s p t h
      → ⊥
  if-lists true a l d e = cc
  if-lists false a l d e = cc

  to-lists : (a : List ℕ) (l : Option Listing) (d : List ℕ) → lists_to a l d ≡ rewrites s p t h → ⊥
  to-lists a None d e = cc
  to-lists a (Some l) d e = if-lists (may_copy a d) a l d e

  of-list : (names : List (List ℕ)) → list_of_names names ≡ rewrites s p t h → ⊥
  of-list [] e = cc
  of-list (a ∷ []) e = cc
  of-list (a ∷ b ∷ []) e = cc
  of-list (a ∷ b ∷ c ∷ []) e = to-lists a (shapes_named b) c e
  of-list (a ∷ b ∷ c ∷ d ∷ rest) e = cc

  of-walk : (names : List (List ℕ)) → walk_of_names names ≡ rewrites s p t h → ⊥
  of-walk [] e = cc
  of-walk (a ∷ []) e = cc
  of-walk (a ∷ b ∷ []) e = cc
  of-walk (a ∷ b ∷ c ∷ []) e = cc
  of-walk (a ∷ b ∷ c ∷ d ∷ []) e = to-lists a (walk_named b c) d e
  of-walk (a ∷ b ∷ c ∷ d ∷ x ∷ rest) e = cc

  if-later : (b : Bool) → (if b then later else wrong) ≡ rewrites s p t h → ⊥
  if-later true e = cc
  if-later false e = cc

  of-gen : (names : List (List ℕ)) → gen_of_names names ≡ rewrites s p t h → ⊥
  of-gen [] e = cc
  of-gen (a ∷ []) e = cc
  of-gen (a ∷ b ∷ []) e = cc
  of-gen (a ∷ b ∷ c ∷ []) e = if-later (may_make a b) e
  of-gen (a ∷ b ∷ c ∷ d ∷ rest) e = cc

  pick-other : (x y z : Bool) (rest : List (List ℕ)) →
      (if x then list_of_names rest else (if y then walk_of_names rest else (if z then gen_of_names rest else wrong)))
      ≡ rewrites s p t h → ⊥
  pick-other true y z rest e = of-list rest e
  pick-other false true z rest e = of-walk rest e
  pick-other false false true rest e = of-gen rest e
  pick-other false false false rest e = cc

  pick : (x y : Bool) (word : List ℕ) (rest : List (List ℕ)) →
      (if x then copy_of_names rest else (if y then rewrite_of_names rest else other_line word rest))
      ≡ rewrites s p t h → t ≢ h
  pick true y word rest e = absurd (of-copy rest e)
  pick false true word rest e = of-rewrite rest e
  pick false false word rest e =
      absurd (pick-other (is_word word (codes "list")) (is_word word (codes "walk")) (is_word word (codes "gen")) rest
      e)

  pub written-apart : (words : List (List ℕ)) → command_line_of words ≡ rewrites s p t h → t ≢ h
  unfolding command_line_of
  written-apart [] e = cc
  written-apart (w ∷ rest) e = pick (is_word w (codes "copy")) (is_word w (codes "rewrite")) w rest e

-- Texts of lines, and words with a space after each.
use Rattle.std.proofs.Common.{◌≡◌, refl, ap, sym, ◌∙◌, append_assoc, append-nil, arith, ℕ, suc, ◌+◌, List, [], ◌∷◌}
use Rattle.std.proofs.Common.{◌++◌}
use Rattle.std.specs.Prelude.{codes}
use Rattle.std.specs.List.{join_with_byte}
use Rattle.std.proofs.lemmas.Grind.{flat_map-append}
use Rattle.brep_tokens.specs.Written.{line_text, lines_text}
use Rattle.brep_gen.specs.Generated.{Line, compound_lines, in_turn}
use Rattle.brep_gen.specs.Spacing.{spaced}

pub lines_join : (xs ys : List Line) → lines_text (xs ++ ys) ≡ lines_text xs ++ lines_text ys
lines_join xs ys = flat_map-append line_text xs ys

pub spaced_join : (xs ys : Line) → spaced (xs ++ ys) ≡ spaced xs ++ spaced ys
spaced_join xs ys = flat_map-append (λ (w : List ℕ). w ++ 32 ∷ []) xs ys

before : (w rest others end : List ℕ) → rest ++ 10 ∷ [] ≡ others ++ end →
    (w ++ 32 ∷ rest) ++ 10 ∷ [] ≡ ((w ++ 32 ∷ []) ++ others) ++ end
before w rest others end h = simp append_assoc (ap (λ t. w ++ 32 ∷ t) h)

-- words, each with a space after it, before a `*`
pub starred : (ws : Line) → line_text (ws ++ codes "*" ∷ []) ≡ spaced ws ++ codes "*\n"
starred [] = refl
starred (w ∷ []) = before w (42 ∷ []) [] (42 ∷ 10 ∷ []) refl
starred (w ∷ v ∷ ws) =
    before w (join_with_byte 32 ((v ∷ ws) ++ codes "*" ∷ [])) (spaced (v ∷ ws)) (codes "*\n") (starred (v ∷ ws))

-- what is appended in turn
next : (k : ℕ) → suc k ≡ k + 1
next k = omega arith

pub lines_none : (t : List ℕ) (f : ℕ → List Line) → t ≡ t ++ lines_text (in_turn 0 f)
unfolding in_turn
lines_none t f = sym (append-nil t)

pub spaced_none : (t : List ℕ) (f : ℕ → Line) → t ≡ t ++ spaced (in_turn 0 f)
unfolding in_turn
spaced_none t f = sym (append-nil t)

pub lines_more : (t : List ℕ) (k : ℕ) (f : ℕ → List Line) →
    (t ++ lines_text (in_turn k f)) ++ lines_text (f k) ≡ t ++ lines_text (in_turn (k + 1) f)
unfolding in_turn
lines_more t k f =
    append_assoc t (lines_text (in_turn k f)) (lines_text (f k))
    ∙ ap (λ z. t ++ z) (sym (lines_join (in_turn k f) (f k)))
    ∙ ap (λ n. t ++ lines_text (in_turn n f)) (next k)

pub spaced_more : (t : List ℕ) (k : ℕ) (f : ℕ → Line) →
    (t ++ spaced (in_turn k f)) ++ spaced (f k) ≡ t ++ spaced (in_turn (k + 1) f)
unfolding in_turn
spaced_more t k f =
    append_assoc t (spaced (in_turn k f)) (spaced (f k)) ∙ ap (λ z. t ++ z) (sym (spaced_join (in_turn k f) (f k)))
    ∙ ap (λ n. t ++ spaced (in_turn n f)) (next k)

-- ---- lines that are appended one after another
pub joined : (t u v : List ℕ) (a b : List Line) → u ≡ t ++ lines_text a → v ≡ u ++ lines_text b →
    v ≡ t ++ lines_text (a ++ b)
joined t u v a b e f =
    f ∙ ap (λ z. z ++ lines_text b) e ∙ append_assoc t (lines_text a) (lines_text b)
    ∙ ap (λ z. t ++ z) (sym (lines_join a b))

-- lines after the version line and others
pub whole_text : (t v w z : List ℕ) (a b : List Line) → w ≡ (t ++ v) ++ 10 ∷ lines_text a → z ≡ w ++ lines_text b →
    z ≡ t ++ (v ++ 10 ∷ lines_text (a ++ b))
whole_text t v w z a b e f =
    f ∙ ap (λ s. s ++ lines_text b) e
    ∙ append_assoc (t ++ v) (10 ∷ lines_text a) (lines_text b)
    ∙ append_assoc t v (10 ∷ (lines_text a ++ lines_text b))
    ∙ ap (λ s. t ++ (v ++ 10 ∷ s)) (sym (lines_join a b))

-- a compound
pub compound_text : (t u v w : List ℕ) (us : Line) → u ≡ t ++ codes "Co\n\n0101000\n" → v ≡ u ++ spaced us →
    w ≡ v ++ codes "*\n" → w ≡ t ++ lines_text (compound_lines us)
compound_text t u v w us e f g =
    g ∙ ap (λ z. z ++ codes "*\n") f ∙ ap (λ z. (z ++ spaced us) ++ codes "*\n") e
    ∙ append_assoc (t ++ codes "Co\n\n0101000\n") (spaced us) (codes "*\n")
    ∙ append_assoc t (codes "Co\n\n0101000\n") (spaced us ++ codes "*\n")
    ∙ ap (λ z. t ++ (codes "Co\n\n0101000\n" ++ z))
    (sym (starred us) ∙ sym (append-nil (line_text (us ++ codes "*" ∷ []))))

-- texts that are appended one after another
pub three : (t u v w a b c : List ℕ) → u ≡ t ++ a → v ≡ u ++ b → w ≡ v ++ c → w ≡ t ++ (a ++ (b ++ c))
three t u v w a b c e f g =
    g ∙ ap (λ z. z ++ c) f ∙ ap (λ z. (z ++ b) ++ c) e
    ∙ append_assoc (t ++ a) b c ∙ append_assoc t a (b ++ c)

pub four : (t u v w z a b c d : List ℕ) → u ≡ t ++ a → v ≡ u ++ b → w ≡ v ++ c → z ≡ w ++ d →
    z ≡ t ++ (a ++ (b ++ (c ++ d)))
four t u v w z a b c d e f g h =
    h ∙ ap (λ s. s ++ d) (three t u v w a b c e f g)
    ∙ append_assoc t (a ++ (b ++ c)) d
    ∙ ap (λ s. t ++ s) (append_assoc a (b ++ c) d ∙ ap (λ s. a ++ s) (append_assoc b c d))

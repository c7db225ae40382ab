-- The texts of a vertex and of the script.
use Rattle.std.proofs.Common.{◌≡◌, ◌∙◌, refl, ap, sym, append_assoc, ℕ, List, [], ◌∷◌, ◌++◌}
use Rattle.std.specs.Prelude.{codes}
use Rattle.std.specs.Fmt.{decimal}
use Rattle.brep_tokens.specs.Written.{lines_text}
use Rattle.brep_gen.specs.Generated.{vertex_lines}

pub vertex_text : (j : ℕ) →
    codes "Ve\n1e-07\n" ++ (decimal j ++ codes " 0 0\n0 0\n\n0101101\n*\n") ≡ lines_text (vertex_lines j)
vertex_text j = simp append_assoc refl

-- with these numbers
pub script_of : (a b c : List ℕ) →
    codes "merge " ++ (a ++ (32 ∷ (b ++ (codes "\napply\nremove " ++ (c ++ codes "\napply\n"))))) ≡
    lines_text
    ((codes "merge" ∷ a ∷ b ∷ []) ∷ (codes "apply" ∷ []) ∷ (codes "remove" ∷ c ∷ []) ∷ (codes "apply" ∷ []) ∷ [])
script_of a b c =
    let rest = codes "apply\nremove " ++ ((c ++ 10 ∷ []) ++ codes "apply\n") in
    sym (ap (λ z. codes "merge " ++ z)
    (append_assoc (a ++ 32 ∷ b) (10 ∷ []) rest ∙ append_assoc a (32 ∷ b) (10 ∷ rest)
    ∙ ap (λ z. a ++ (32 ∷ (b ++ (codes "\napply\nremove " ++ z)))) (append_assoc c (10 ∷ []) (codes "apply\n"))))

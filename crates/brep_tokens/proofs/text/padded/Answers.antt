use Rattle.std.proofs.Common.{◌≡◌, ◌++◌, ◌-◌, ◌∙◌, ap, length, ℕ, List, replicate, drop}
use Rattle.std.proofs.lemmas.List.{drop-replicate}
use Rattle.brep_tokens.proofs.text.padded.Goals as goal

filled : (bytes new : List ℕ) → new ≡ bytes
    → new ++ drop (length bytes) (replicate 128 0) ≡ bytes ++ replicate (128 - length bytes) 0
filled bytes new e =
    ap (λ n. n ++ drop (length bytes) (replicate 128 0)) e ∙ ap (λ z. bytes ++ z) (drop-replicate (length bytes) 128 0)

pub returns : goal.returns
returns c = filled c.args.bytes.now c.copy_from_slice.new.self c.copy_from_slice.ensures.after

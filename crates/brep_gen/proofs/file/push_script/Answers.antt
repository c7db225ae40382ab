-- The lines of the script, piece by piece.
use Rattle.std.proofs.Common.{◌∙◌, ◌++◌, ◌∷◌, [], ◌-◌, ap}
use Rattle.std.specs.Prelude.{codes}
use Rattle.std.specs.Fmt.{decimal}
use Rattle.brep_tokens.specs.Written.{lines_text}
use Rattle.brep_gen.proofs.FileLemmas.{script_of}
use Rattle.brep_gen.proofs.TextLemmas.{four}
use Rattle.brep_gen.proofs.file.push_script.Goals as goal

pub returns : goal.returns
returns c =
    let t = c.args.text.now.items in
    let n = c.count_of-n.result in
    let a = decimal n in
    let b = decimal (n - 1) in
    let d = decimal (n - 1029) in
    let apply = codes "\napply\nremove " in
    let end = codes "\napply\n" in
    let second =
    four c.push.new.self.items c.push_number-2.new.text.items c.extend_from_slice-2.new.self.items
    c.push_number-3.new.text.items c.extend_from_slice-3.new.self.items b apply d end
    c.in_ok-push_number-2.ensures c.in_ok-extend_from_slice-2.ensures.items c.in_ok-push_number-3.ensures
    c.in_ok-extend_from_slice-3.ensures.items in
    four t c.extend_from_slice.new.self.items c.push_number.new.text.items c.push.new.self.items
    c.extend_from_slice-3.new.self.items (codes "merge ") a (32 ∷ []) (b ++ (apply ++ (d ++ end)))
    c.in_ok-extend_from_slice.ensures.items c.in_ok-push_number.ensures c.in_ok-push.ensures.items second
    ∙ ap (λ z. t ++ z) (script_of a b d)
    ∙ ap
    (λ n. t ++ lines_text
    ((codes "merge" ∷ decimal n ∷ decimal (n - 1) ∷ []) ∷ (codes "apply" ∷ [])
    ∷ (codes "remove" ∷ decimal (n - 1029) ∷ []) ∷ (codes "apply" ∷ []) ∷ []))
    c.count_of-n.ensures

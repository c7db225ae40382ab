-- The part as the link carries it goes last.
use Rattle.std.proofs.Common.{◌≡◌, ◌∙◌, ◌++◌, ◌∷◌, [], refl}
use Rattle.std.proofs.lemmas.Result.{err_from_is_err_and}
use Rattle.location_words.specs.Pairs.{mul}
use Rattle.location_words.specs.Faults.{fault_of}
use Rattle.key_results.specs.declared.parts.Part.{Part}
use Rattle.key_results.specs.Words.{moved_word}
use Rattle.key_results.specs.Derivations.{linked}
use Rattle.key_results.specs.Parts.{use_of_part}
use Rattle.key_results.proofs.FaultLaws.{due-of-word}
use Rattle.key_results.proofs.PartLaws.{part-linked, parts-push, held-push}
use Rattle.key_results.proofs.OwnerLaws.{own-push}
use Rattle.key_results.proofs.parts.add_part.Goals as goal

pub returns-in_err-place-clause-refused : goal.returns-in_err-place-clause-refused
returns-in_err-place-clause-refused c =
    let p = err_from_is_err_and c.from_residual.result c.from_residual.ensures.1 in
    rw (p.1, p.2)
    (λ word r.
    due-of-word (fault_of (mul (moved_word word c.args.mover c.args.link.place.0) (word c.args.part.place.0)))
    c.in_err-place.field-0.0
    (c.in_err-place.ensures.refused word r))

pub returns-clause-added : goal.returns-clause-added
returns-clause-added c =
    let ok = c.if-is_err.ensures.negation in
    let moved : Part = record { turn = c.compose.result; place = c.in_ok-place.place; of = c.args.part.of } in
    let pushed : c.push.new.self.items ≡ c.args.parts.now.items ++ moved ∷ [] = c.push.ensures.items ∙ rw ok refl in
    λ word own r. parts-push word own c.args.parts.now.items c.push.new.self.items moved
    (linked word c.args.mover c.args.link (use_of_part word own c.args.part)) pushed
    (part-linked word own c.args.mover c.args.link c.args.part moved c.compose.ensures
    (c.in_ok-place.ensures.number.1 word r) refl)

pub returns-clause-held : goal.returns-clause-held
returns-clause-held c =
    let ok = c.if-is_err.ensures.negation in
    let moved : Part = record { turn = c.compose.result; place = c.in_ok-place.place; of = c.args.part.of } in
    let pushed : c.push.new.self.items ≡ c.args.parts.now.items ++ moved ∷ [] = c.push.ensures.items ∙ rw ok refl in
    λ k of held. held-push k _ _ c.args.parts.now.items c.push.new.self.items moved pushed
    c.in_ok-place.ensures.grows.grows of c.in_ok-place.ensures.number.0 held

pub returns-clause-own : goal.returns-clause-own
returns-clause-own c =
    let ok = c.if-is_err.ensures.negation in
    let moved : Part = record { turn = c.compose.result; place = c.in_ok-place.place; of = c.args.part.of } in
    let pushed : c.push.new.self.items ≡ c.args.parts.now.items ++ moved ∷ [] = c.push.ensures.items ∙ rw ok refl in
    λ is of held. own-push is c.args.parts.now.items c.push.new.self.items moved pushed of held

-- The first representation, and the others.
use Rattle.std.proofs.Common.{◌++◌, ◌-◌, length, take, drop, ap, sym, ◌∙◌, subst, arith, length-append}
use Rattle.tshape_data.specs.Short.{IsShortPoint}
use Rattle.tshape_data.specs.SpellLeft.{points_left, rest_texts}
use Rattle.std.specs.List.{AllByRecursion}
use Rattle.tshape_data.proofs.SpellLaws.{first_of, points_begin}
use Rattle.tshape_data.proofs.spell.at_points.Goals as goal

pub returns-in-len1-up : goal.returns-in-len1-up
returns-in-len1-up c =
    let point = c.point-item.result in
    let others = take (length c.args.points.now - 1) (drop 1 c.args.points.now) in
    let whole = first_of c.args.points.now point c.in-len1-up.len_at_least c.point-item.is in
    record {
      left = ap (λ z. z ++ (rest_texts point ++ points_left c.args.flags others)) c.point_first.ensures.left
          ∙ points_begin c.args.flags point others ∙ ap (points_left c.args.flags) (sym whole);
      can = record {
        chunk_can = c.point_first.ensures.can;
        stage_can = subst (AllByRecursion IsShortPoint) whole c.requires;
      };
      first = rw c.point_first.ensures.left (simp length-append (omega arith));
    }

-- Sorting and leaving out repeats.
use Rattle.std.proofs.Common.{◌≡◌, ◌∙◌}
use Rattle.std.specs.List.{dedup}
use Rattle.std.proofs.lemmas.List.Filters.{dedup_is}
use Rattle.step_history.proofs.SortLaws.{id_eq, ids-order, ids-same}
use Rattle.step_history.proofs.ascending.ascending_ids.Goals as goal

pub returns : goal.returns
returns c =
    let is : c.from_vec.result ≡ dedup id_eq c.sort_unstable.new.self.items =
    c.from_vec.ensures ∙ dedup_is id_eq c.sort_unstable.new.self.items c.dedup.new.self.items c.dedup.ensures.filtered in record {
      order = ids-order c.sort_unstable.new.self.items c.from_vec.result c.sort_unstable.ensures.sorted is;
      same = ids-same c.args.ids.items c.sort_unstable.new.self.items c.from_vec.result c.sort_unstable.ensures.permutation is;
    }

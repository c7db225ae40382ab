-- Sorting and leaving out repeats.
use Rattle.std.proofs.Common.{◌≡◌, ◌∙◌, nat_eq}
use Rattle.std.specs.List.{dedup}
use Rattle.std.proofs.lemmas.List.Filters.{dedup_is}
use Rattle.written_history.proofs.SortLaws.{numbers-ascend, numbers-order, numbers-same}
use Rattle.written_history.proofs.ascending.ascending_numbers.Goals as goal

pub returns : goal.returns
returns c =
    let is : c.from_vec.result ≡ dedup nat_eq c.sort_unstable.new.self.items =
    c.from_vec.ensures ∙ dedup_is nat_eq c.sort_unstable.new.self.items c.dedup.new.self.items c.dedup.ensures.filtered
    in record {
      order = numbers-ascend c.from_vec.result
          (numbers-order c.sort_unstable.new.self.items c.from_vec.result c.sort_unstable.ensures.sorted is);
      same = numbers-same c.args.numbers.items c.sort_unstable.new.self.items c.from_vec.result
          c.sort_unstable.ensures.permutation is;
    }

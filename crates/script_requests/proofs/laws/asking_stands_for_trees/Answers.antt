-- What numbers of names stand for; what is asked and refused by them.
use Rattle.script_requests.proofs.AskLaws.{removes, replaces, replace-faults}
use Rattle.script_requests.proofs.ListLaws.{merges, merge-faults, sews, sew-faults}
use Rattle.script_requests.proofs.StandLaws.{trees-of-name}
use Rattle.script_requests.proofs.laws.asking_stands_for_trees.Goals as goal

pub returns : goal.returns
returns c =
    let rows = c.args.pool.now in
    let sound = c.laws.ensures in
    let fit = c.targets_fit_as_trees.ensures in
    let sewn = c.sewing_stands_for_trees.ensures in record {
      names =
          λ f words vs ds name ids r number n.
          trees-of-name rows sound f words r.loaded name number vs ds ids r.images n;
      removes = λ f words vs ds sel asked r o a. removes rows sound f words vs ds r sel asked o a;
      replaces =
          λ f words vs ds sel tgt line asked r o a. replaces rows sound f words vs ds r fit sel tgt line asked o a;
      merges = λ f words vs ds names line asked r o a. merges rows sound f words vs ds r sewn names line asked o a;
      sews = λ f words vs ds names line asked r o a. sews rows sound f words vs ds r sewn names line asked o a;
      replace_faults =
          λ f words vs ds sel tgt line fault r o a.
          replace-faults rows sound f words vs ds r fit sel tgt line fault o a;
      merge_faults =
          λ f words vs ds names line fault r o a. merge-faults rows sound f words vs ds r sewn names line fault o a;
      sew_faults =
          λ f words vs ds names line fault r o a.
          sew-faults rows sound f words vs ds r sewn c.results_have_the_kind.ensures names line fault o a;
    }

-- By states that are alike.
use Rattle.brep_file.specs.declared.file.File.{File}
use Rattle.run_laws.specs.Agreeing.{RunsAgree}
use Rattle.run_laws.proofs.OneFault.{one-fault}
use Rattle.run_laws.proofs.RunsAlike.{runs-agree}
use Rattle.run_laws.proofs.ScriptsAlike.{scripts-agree}
use Rattle.run_laws.proofs.laws.runs_agree.Goals as goal

pub returns : goal.returns
returns c =
    let runs : (f : File) → RunsAgree f =
    λ f.
    runs-agree f c.equal_trees_tell.ensures c.results_are_determined.ensures c.roots_are_written.ensures
    (one-fault f c.results_are_determined.ensures c.cycles_are_determined.ensures
    c.measures_are_listed.ensures.determined) in record {
      commands = runs;
      scripts = λ f bytes. scripts-agree f bytes (runs f);
    }

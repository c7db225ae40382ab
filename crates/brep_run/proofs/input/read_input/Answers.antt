use Rattle.brep_run.proofs.ReadFiles.{reads-of}
use Rattle.lists.proofs.Errors.{IfErr-on}
use Rattle.brep_run.specs.Inputs.{IsInputStop}
use Rattle.brep_run.proofs.InputLaws.{input-stop}
use Rattle.brep_run.proofs.input.read_input.Goals as goal

pub returns-in_err-bytes-clause-stop : goal.returns-in_err-bytes-clause-stop
returns-in_err-bytes-clause-stop g c =
    IfErr-on c.from_residual.result c.in_err-bytes.field-0.0
    (IsInputStop g.D.Desk.tells (g.D.Desk.shows c.args.desk.now) c.args.source.now (g.D.Desk.faults c.args.desk.now)
    (g.D.Desk.faults c.read_bytes.new.desk)) c.from_residual.ensures.1
    (input-stop g.D.Desk.tells (g.D.Desk.shows c.args.desk.now) c.args.source.now (g.D.Desk.faults c.args.desk.now)
    (g.D.Desk.faults c.read_bytes.new.desk) c.in_err-bytes.field-0.0 c.in_err-bytes.ensures.stop)

pub returns-in-Ok-clause-read : goal.returns-in-Ok-clause-read
returns-in-Ok-clause-read g c = λ told. record {
  bytes = c.in_ok-bytes.bytes.items;
  holds = record { held = c.in_ok-bytes.ensures.whole.1 told; few = c.in_ok-bytes.ensures.whole.0 };
  reads = reads-of c.reading_is_exact.ensures _ _ c.in-Ok.ensures;
}

pub returns-in-Ok-clause-sound : goal.returns-in-Ok-clause-sound
returns-in-Ok-clause-sound g c =
    (reads-of c.reading_is_exact.ensures _ _ c.in-Ok.ensures).spells.sound

pub returns-in-Ok-clause-small : goal.returns-in-Ok-clause-small
returns-in-Ok-clause-small g c = (reads-of c.reading_is_exact.ensures _ _ c.in-Ok.ensures).small

pub returns-in-Ok-clause-few : goal.returns-in-Ok-clause-few
returns-in-Ok-clause-few g c = (
  c.in_ok-bytes.bytes.items,
  reads-of c.reading_is_exact.ensures _ _ c.in-Ok.ensures,
  c.in_ok-bytes.ensures.whole.0,
)

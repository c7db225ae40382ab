-- The faults of a session by those of the calls below it.
use Rattle.requests.specs.declared.fault.CheckFault.{CheckFault}
use Rattle.requests.specs.declared.fault.CheckFault.TheVariants as check
use Rattle.key_results.specs.declared.fault.ApplyFault.{ApplyFault}
use Rattle.key_results.specs.declared.fault.ApplyFault.TheVariants as apply
use Rattle.key_results.specs.declared.fault.LimitKind.TheVariants.{Rank}
use Rattle.session.specs.declared.fault.SessionFault.{SessionFault}
use Rattle.script_requests.specs.declared.fault.AskFault.{AskFault}
use Rattle.script_requests.specs.declared.fault.AskFault.TheVariants as ask
use Rattle.session.specs.declared.fault.SessionFault.TheVariants.{Script, Cycle, Limit, NoMemory}

abbrev pub of_check : CheckFault → SessionFault
of_check (check.Cycle walk) = Cycle walk
of_check (check.Rank n) = Limit Rank n
of_check check.NoMemory = NoMemory

abbrev pub of_apply : ApplyFault → SessionFault
of_apply (apply.Limit which count) = Limit which count
of_apply apply.NoMemory = NoMemory

abbrev pub of_ask : AskFault → SessionFault
of_ask (ask.Script fault) = Script fault
of_ask ask.NoMemory = NoMemory

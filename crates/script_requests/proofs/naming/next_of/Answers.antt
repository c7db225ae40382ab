-- Where nothing was met, the other number is.
use Rattle.std.proofs.Common.{◌∙◌, sym, subst}
use Rattle.script_requests.specs.Named.{AreNext}
use Rattle.script_requests.proofs.NameLaws.{next-none, next-some}
use Rattle.script_requests.proofs.naming.next_of.Goals.{then-len-eq0+in_ok-meet, else-len-eq0}
use Rattle.script_requests.proofs.naming.next_of.Goals as goal

pub returns : goal.returns
returns c =
    let ps = c.args.pairs.now in
    let ids = c.args.ids.now in
    let own = c.args.own in
    let met = c.in_ok-met.met in
    elim c.if-len-eq0.branch [
      | then-len-eq0+in_ok-meet w ↦
          subst (λ l. AreNext ps ids own l) (sym w.met-is)
          (next-none ps ids own met w.meet.new.met c.in_ok-met.ensures (sym c.len.ensures ∙ w.if-len-eq0.true)
          w.in_ok-meet.ensures)
      | else-len-eq0 w ↦
          subst (λ l. AreNext ps ids own l) (sym w.met-is)
          (next-some ps ids own met c.in_ok-met.ensures (λ e. w.if-len-eq0.false (c.len.ensures ∙ e)))
    ]
